use Rattle.std.proofs.Common.{◌∙◌, rules, tests}
use Rattle.std.specs.Prelude.{bytes_eq}
use Rattle.std.proofs.lemmas.Iterator.{YieldsList-from_slice}
use Rattle.std.proofs.lemmas.Iterator.Search.{any_from_yields_List}
use Rattle.clap.proofs.WalkLemmas.{list_any-map}
use Rattle.sa_cli.proofs.subcommand.is_among.Goals as goal

pub returns : goal.returns
returns c =
    let any = any_from_yields_List (λ other. bytes_eq c.args.name.now other.now) _ _ c.any.result c.any.ensures.ran (YieldsList-from_slice c.args.names.now cc) (λ x b q k. search (rules, tests)) in
    any ∙ list_any-map (bytes_eq c.args.name.now) (λ other. other.now) c.args.names.now
