use Rattle.std.proofs.Common.{◌∙◌, ap, ap₂}
use Rattle.std.proofs.lemmas.Result.{IfOk-weaker}
use Rattle.clap.specs.Words.{App, Shape, with_subcommand}
use Rattle.sa_cli.proofs.program.program.Goals as goal

abbrev top_of : App → Shape
top_of a = a.top

pub returns : goal.returns
returns c =
    let with_help = c.in_ok-subcommand.ensures.shape c.in_ok-help.ensures.1 ∙ ap₂ with_subcommand c.in_ok-working.ensures (ap top_of c.in_ok-help.ensures.0) in
    let with_version = c.in_ok-subcommand-2.ensures.shape c.version.ensures.own ∙ ap₂ with_subcommand with_help (ap top_of c.version.ensures.app) in
    let with_explain = c.in_ok-subcommand-3.ensures.shape c.in_ok-explain.ensures.1 ∙ ap₂ with_subcommand with_version (ap top_of c.in_ok-explain.ensures.0) in
    IfOk-weaker c.subcommand-4.result _ _ (λ r h. h.shape c.in_ok-library.ensures.1 ∙ ap₂ with_subcommand with_explain (ap top_of c.in_ok-library.ensures.0)) c.subcommand-4.ensures
