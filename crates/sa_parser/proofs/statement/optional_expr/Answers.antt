use Rattle.sa_parser_expr.specs.Expressions as exprs
use Rattle.sa_parser.specs.Statements as stmts
use Rattle.sa_parser.proofs.SpelledStatements.{no_expr}
use Rattle.std.proofs.Common.{◌≡◌, true, rules}
use Rattle.sa_parser_expr.specs.Positions.{kind_at}
use Rattle.sa_parser_expr.specs.Starts.{begins_expression}
use Rattle.sa_parser_expr.specs.StatementForms.{value_form}
use Rattle.sa_parser_expr.proofs.Runs.{taken, takes, handed_on, stops, makes}
use Rattle.sa_parser.proofs.ExactStatements as exact
use Rattle.sa_parser.proofs.statement.optional_expr.Goals as goal

pub returns-then-not-begins_expression-clause-spelled : goal.returns-then-not-begins_expression-clause-spelled
returns-then-not-begins_expression-clause-spelled c = no_expr c.args.tokens.now c.args.from

pub returns-clause-spelled : goal.returns-clause-spelled
returns-clause-spelled c = stmts.of_expr (exprs.in_value c.in_ok-value.ensures.spelled)

pub returns-then-not-begins_expression-clause-exact : goal.returns-then-not-begins_expression-clause-exact
returns-then-not-begins_expression-clause-exact c = exact.no_expr c.args.tokens.now c.args.from (search rules)

pub returns-in_err-value-clause-exact : goal.returns-in_err-value-clause-exact
returns-in_err-value-clause-exact c =
    let t = c.args.tokens.now in
    let begins : begins_expression (kind_at t.list.now c.args.from) ≡ true = search rules in
    let there = exact.begun t c.args.from begins in
    handed_on t value_form c.args.from _ (search rules) c.in_err-value.ensures.exact
    (λ rest r. exact.expr_there t c.args.from there.0 there.1 begins r (λ s. stops t s))

pub returns-clause-exact : goal.returns-clause-exact
returns-clause-exact c =
    let t = c.args.tokens.now in
    let begins : begins_expression (kind_at t.list.now c.args.from) ≡ true = search rules in
    let there = exact.begun t c.args.from begins in
    let value = c.in_ok-value in
    takes t (exact.expr_there t c.args.from there.0 there.1 begins (taken t value.ensures.exact) (λ s. makes t value.next s))
