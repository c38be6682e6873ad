use Rattle.std.proofs.Common.{◌∙◌, ap, ap₂}
use Rattle.std.proofs.lemmas.Result.{IfOk-weaker}
use Rattle.clap.specs.Words.{App, Shape, with_subcommand}
use Rattle.sa_cli.proofs.program.working.Goals as goal

abbrev top_of : App → Shape
top_of a = a.top

pub returns : goal.returns
returns c =
    let with_run = c.in_ok-subcommand.ensures.shape c.in_ok-run.ensures.1 ∙ ap₂ with_subcommand c.sather.ensures.app (ap top_of c.in_ok-run.ensures.0) in
    let with_build = c.in_ok-subcommand-2.ensures.shape c.in_ok-build.ensures.1 ∙ ap₂ with_subcommand with_run (ap top_of c.in_ok-build.ensures.0) in
    let with_check = c.in_ok-subcommand-3.ensures.shape c.in_ok-check.ensures.1 ∙ ap₂ with_subcommand with_build (ap top_of c.in_ok-check.ensures.0) in
    let with_exec = c.in_ok-subcommand-4.ensures.shape c.in_ok-exec.ensures.1 ∙ ap₂ with_subcommand with_check (ap top_of c.in_ok-exec.ensures.0) in
    let with_gen = c.in_ok-subcommand-5.ensures.shape c.in_ok-generate.ensures.1 ∙ ap₂ with_subcommand with_exec (ap top_of c.in_ok-generate.ensures.0) in
    let with_selftest = c.in_ok-subcommand-6.ensures.shape c.in_ok-selftest.ensures.1 ∙ ap₂ with_subcommand with_gen (ap top_of c.in_ok-selftest.ensures.0) in
    let with_listing = c.in_ok-subcommand-7.ensures.shape c.in_ok-listing.ensures.1 ∙ ap₂ with_subcommand with_selftest (ap top_of c.in_ok-listing.ensures.0) in
    let with_assemble = c.in_ok-subcommand-8.ensures.shape c.in_ok-assemble.ensures.1 ∙ ap₂ with_subcommand with_listing (ap top_of c.in_ok-assemble.ensures.0) in
    IfOk-weaker c.subcommand-9.result _ _ (λ r h. h.shape c.in_ok-dump.ensures.1 ∙ ap₂ with_subcommand with_assemble (ap top_of c.in_ok-dump.ensures.0)) c.subcommand-9.ensures
