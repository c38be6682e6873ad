use Rattle.std.proofs.Common.{rules}
use Rattle.sa_read.proofs.OnlyLemmas.{only, only_refused}
use Rattle.sa_read.proofs.front.parse_program.Goals as goal

pub returns-in_err-lists-clause-only : goal.returns-in_err-lists-clause-only
returns-in_err-lists-clause-only c =
    only_refused c.args.texts.now c.in_err-lists.field-0.0 c.from_residual.result (search rules) c.in_err-lists.ensures.refused

pub returns-in_err-scan_all-clause-only : goal.returns-in_err-scan_all-clause-only
returns-in_err-scan_all-clause-only c =
    let scanned = c.in_err-scan_all in
    only_refused c.args.texts.now scanned.field-0.0 c.from_residual-in_err-scan_all.result (search rules) scanned.ensures.refused

pub returns-clause-only : goal.returns-clause-only
returns-clause-only c = only c.args.texts.now c.parse_all.result c.parse_all.ensures.classes c.parse_all.ensures.refused
