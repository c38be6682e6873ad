use Rattle.std.proofs.Common.{◌∙◌, None, Some, ap, rules, sym, tests, option_map}
use Rattle.std.proofs.lemmas.Iterator.{YieldsList-from_slice}
use Rattle.std.proofs.lemmas.Iterator.Search.{find_from_yields_List}
use Rattle.sa_texts.specs.Pages.{asks, seen_row}
use Rattle.sa_texts.proofs.PageLemmas.{asked_by}
use Rattle.sa_texts.proofs.page.text_behind.Goals as goal

pub returns-in-Some : goal.returns-in-Some
returns-in-Some c =
    let found = find_from_yields_List (λ row. asks c.args.word.now (seen_row row)) _ _ c.find.result c.find.ensures.ran (YieldsList-from_slice c.args.table.now cc) (λ x b q k. search (rules, tests)) in
    asked_by c.args.word.now c.args.table.now (Some c.in-Some.row.now) (sym (ap (option_map (λ row. row.now)) c.in-Some.is) ∙ found)

pub returns-in-None : goal.returns-in-None
returns-in-None c =
    let found = find_from_yields_List (λ row. asks c.args.word.now (seen_row row)) _ _ c.find.result c.find.ensures.ran (YieldsList-from_slice c.args.table.now cc) (λ x b q k. search (rules, tests)) in
    asked_by c.args.word.now c.args.table.now None (sym (ap (option_map (λ row. row.now)) c.in-None.is) ∙ found)
