use Rattle.std.proofs.Common.{◌+◌, arith, rules}
use Rattle.std.proofs.lemmas.Result.{IfOk-weaker}
use Rattle.sa_parser_expr.specs.Enclosures.{where_of}
use Rattle.sa_parser_expr.specs.ExpressionForms.{unary_form}
use Rattle.sa_parser_expr.specs.Expressions as exprs
use Rattle.sa_parser_expr.specs.Tests.{prefix_kind}
use Rattle.sa_parser_expr.proofs.ExactOperations as exact
use Rattle.sa_parser_expr.proofs.Runs.{handed_on, stops}
use Rattle.sa_parser_expr.proofs.SpelledExpressions.{prefix}
use Rattle.sa_parser_expr.proofs.grammar.Grammar.+unary.Goals as goal

pub returns-in_default-clause-spelled : goal.returns-in_default-clause-spelled
returns-in_default-clause-spelled g t c = IfOk-weaker c.power.result _ _ (λ read is. exprs.power is) c.power.ensures.spelled

pub returns-clause-spelled : goal.returns-clause-spelled
returns-clause-spelled g t c =
    let inside = c.in_ok-of.ensures in
    prefix c.args.self.now.tokens c.args.self.now.scope c.args.around c.args.from _ c.in-Some.op _ _ _ c.in-Some.ensures.spelled inside.spelled (omega (arith, inside.next.0)) (search rules) (search rules)

pub returns-in_default-clause-exact : goal.returns-in_default-clause-exact
returns-in_default-clause-exact g t c =
    exact.as_power c.args.self.now.tokens c.args.self.now.scope (where_of c.args.around) c.args.from
    (first_of (cc, search rules, grind arith)) c.power.result c.power.ensures.exact

pub returns-in_err-of-clause-exact : goal.returns-in_err-of-clause-exact
returns-in_err-of-clause-exact g t c =
    let scope = c.args.self.now.scope in
    let operator = exact.operates c.args.self.now.tokens prefix_kind c.args.from c.in-Some.op c.in-Some.ensures.exact in
    handed_on c.args.self.now.tokens (unary_form scope (where_of c.args.around)) (c.args.from + 1) _ (search rules)
    c.in_err-of.ensures.exact
    (λ rest r. exact.behind_prefix c.args.self.now.tokens scope (where_of c.args.around) c.args.from operator
    (stops c.args.self.now.tokens (exact.nested_unary c.args.self.now.tokens scope (where_of c.args.around) r)))

pub returns-clause-exact : goal.returns-clause-exact
returns-clause-exact g t c =
    exact.prefixed c.args.self.now.tokens c.args.self.now.scope (where_of c.args.around) c.args.from _ c.in-Some.op _ _ _
    c.in-Some.ensures.exact c.in_ok-of.ensures.exact (search rules) (search rules)
