use Rattle.std.proofs.Common.{◌∙◌, sym, arith}
use Rattle.std.specs.Prelude.{string_bytes}
use Rattle.std.proofs.lemmas.List.{length-map}
use Rattle.sa_cli.proofs.LineLemmas.{line_found, line_named, named_rows, taken}
use Rattle.sa_cli.proofs.read.plain_command_of.Goals as goal

pub returns-clause-taken : goal.returns-clause-taken
returns-clause-taken c =
    let found = sym c.in_ok-matches.ensures.subcommand ∙ named_rows _ _ _ c.in-Some.ensures.name c.in-Some.ensures.rows in
    let line = line_named _ _ _ (taken _ (omega (arith, length-map c.args.words.now string_bytes, c.if-words-gt-MOST_WORDS.false)) c.in_ok-matches.ensures.free) found in
    line_found _ _ _ _ _ line c.in_ok-named.ensures c.ok_or.ensures.value
