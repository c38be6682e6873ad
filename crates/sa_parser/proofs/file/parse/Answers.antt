use Rattle.std.proofs.Common.{rules}
use Rattle.sa_parser.proofs.ExactFiles as exact
use Rattle.sa_parser.proofs.file.parse.Goals as goal

pub returns-in_err-scan-clause-exact : goal.returns-in_err-scan-clause-exact
returns-in_err-scan-clause-exact c =
    exact.scan_refused c.args.file c.args.src.now c.args.tokens.now c.args.file_kind c.args.first _ _ (search rules)
    c.in_err-scan.ensures.refused

pub returns-clause-exact : goal.returns-clause-exact
returns-clause-exact c =
    exact.scanned c.args.file c.args.src.now c.args.tokens.now c.args.file_kind c.args.first c.classes.result c.in_ok-scan.ensures.taken
    c.classes.ensures.exact
