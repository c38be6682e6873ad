use Rattle.std.proofs.Common.{◌∙◌, None, Some, ap, rules, sym, tests, option_map, string_bytes}
use Rattle.std.proofs.lemmas.Iterator.{YieldsList-from_slice}
use Rattle.std.proofs.lemmas.Iterator.Search.{find_from_yields_List}
use Rattle.sa_cli.specs.Help.{is_help}
use Rattle.sa_cli.proofs.HelpLemmas.{asks_by, decides}
use Rattle.sa_cli.proofs.help.asks_help.Goals as goal

pub returns-in-Some : goal.returns-in-Some
returns-in-Some c =
    let found = find_from_yields_List (λ word. decides is_help (string_bytes word)) _ _ c.find.result c.find.ensures.ran (YieldsList-from_slice c.args.words.now cc) (λ x b q k. search (rules, tests)) in
    let text = ap (option_map string_bytes) (sym found ∙ ap (option_map (λ word. word.now)) c.in-Some.is) in
    c.is_help.ensures ∙ ap is_help c.as_str.ensures.value ∙ sym (asks_by is_help string_bytes c.args.words.now (Some (string_bytes c.in-Some.word.now)) text)

pub returns-in-None : goal.returns-in-None
returns-in-None c =
    let found = find_from_yields_List (λ word. decides is_help (string_bytes word)) _ _ c.find.result c.find.ensures.ran (YieldsList-from_slice c.args.words.now cc) (λ x b q k. search (rules, tests)) in
    let text = ap (option_map string_bytes) (sym found ∙ ap (option_map (λ word. word.now)) c.in-None.is) in
    sym (asks_by is_help string_bytes c.args.words.now None text)
