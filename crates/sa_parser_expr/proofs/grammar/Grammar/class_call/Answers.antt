use Rattle.std.proofs.Common.{arith, rules}
use Rattle.sa_parser_expr.proofs.SpelledExpressions.{class_called}
use Rattle.sa_parser_expr.proofs.Alternatives.{alike}
use Rattle.sa_parser_expr.proofs.ExactFirsts as exact
use Rattle.sa_parser_expr.proofs.Runs.{handed_on, refused_at}
use Rattle.sa_parser_expr.specs.Forms.{nest, type}
use Rattle.sa_parser_expr.proofs.grammar.Grammar.class_call.Goals as goal

pub returns-clause-spelled : goal.returns-clause-spelled
returns-clause-spelled g c = λ around.
    let class = c.in_ok-class in
    let colons = c.in_ok-next.ensures in
    class_called c.args.self.now.tokens c.args.self.now.scope around c.args.from class.next c.in_ok-next.next class.class c.call.result class.ensures.spelled colons.sign (omega (arith, class.ensures.next.0)) colons.next.0 c.call.ensures.next c.call.ensures.spelled

pub returns-in_err-class-clause-exact : goal.returns-in_err-class-clause-exact
returns-in_err-class-clause-exact g c =
    handed_on c.args.self.now.tokens (nest type) c.args.from _ (search rules) c.in_err-class.ensures.exact
    (λ rest r. exact.class_refused c.args.self.now.tokens c.args.self.now.scope c.args.from r)

pub returns-in_err-next-clause-exact : goal.returns-in_err-next-clause-exact
returns-in_err-next-clause-exact g c =
    let class = c.in_ok-class in
    let other = c.in_err-next.ensures in
    refused_at c.args.self.now.tokens class.next _ (search rules) other.fault
    (exact.class_not_called c.args.self.now.tokens c.args.self.now.scope c.args.from class.next class.class class.ensures.exact
    other.another)

pub returns-clause-exact : goal.returns-clause-exact
returns-clause-exact g c =
    let class = c.in_ok-class in
    let colons = c.in_ok-next.ensures in
    alike c.args.self.now.tokens c.call.result
    (λ v r. exact.class_called c.args.self.now.tokens c.args.self.now.scope c.args.from class.next class.class class.ensures.exact
    colons.sign r)
    (rw colons.next.0 at c.call.ensures.exact)
