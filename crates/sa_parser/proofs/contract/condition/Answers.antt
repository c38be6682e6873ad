use Rattle.std.proofs.Common.{arith, rules}
use Rattle.sa_parser_expr.specs.Enclosures.{outside}
use Rattle.sa_parser_expr.specs.Forms.{nest, expr}
use Rattle.sa_parser_expr.proofs.Runs.{handed_on}
use Rattle.sa_parser_expr.proofs.Stretches.{occurrence}
use Rattle.sa_parser.proofs.ExactConditions as exact
use Rattle.sa_parser.proofs.contract.condition.Goals as goal

pub returns-in_err-test-clause-exact : goal.returns-in_err-test-clause-exact
returns-in_err-test-clause-exact c =
    let t = c.args.tokens.now in
    handed_on t (nest (expr c.args.scope outside)) c.args.from _ (search rules) c.in_err-test.ensures.exact
    (λ rest r. exact.no_condition t c.args.scope c.args.from r)

pub returns-clause-exact : goal.returns-clause-exact
returns-clause-exact c =
    let t = c.args.tokens.now in
    let test = c.in_ok-test in
    let there = occurrence t c.args.from (omega (arith, test.ensures.next.0, test.ensures.next.1)) in
    exact.condition t c.args.scope c.args.from test.next there.0 _ _ there.1 test.ensures.exact (search rules)
