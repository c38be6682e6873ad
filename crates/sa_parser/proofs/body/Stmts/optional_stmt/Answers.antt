use Rattle.sa_parser.specs.Statements as stmts
use Rattle.sa_parser.proofs.SpelledStatements.{no_stmt}
use Rattle.std.proofs.Common.{◌≡◌, true, rules}
use Rattle.sa_parser_expr.specs.Positions.{kind_at}
use Rattle.sa_parser.specs.Starts.{begins_statement}
use Rattle.sa_parser_expr.specs.StatementForms.{stmt_form}
use Rattle.sa_parser_expr.proofs.Runs.{taken, takes, handed_on, stops, makes}
use Rattle.sa_parser.proofs.ExactBodies as exact
use Rattle.sa_parser.proofs.body.Stmts.optional_stmt.Goals as goal

pub returns-then-not-begins_statement-clause-spelled : goal.returns-then-not-begins_statement-clause-spelled
returns-then-not-begins_statement-clause-spelled g c = no_stmt c.args.self.now.tokens c.args.from

pub returns-clause-spelled : goal.returns-clause-spelled
returns-clause-spelled g c = stmts.one_stmt c.in_ok-stmt.ensures.spelled

pub returns-then-not-begins_statement-clause-exact : goal.returns-then-not-begins_statement-clause-exact
returns-then-not-begins_statement-clause-exact g c =
    let t = c.args.self.now.tokens in
    exact.no_stmt t c.args.from (search rules)

pub returns-in_err-stmt-clause-exact : goal.returns-in_err-stmt-clause-exact
returns-in_err-stmt-clause-exact g c =
    let t = c.args.self.now.tokens in
    let begins : begins_statement (kind_at t.list.now c.args.from) ≡ true = search rules in
    handed_on t stmt_form c.args.from _ (search rules) c.in_err-stmt.ensures.exact (λ rest r. exact.stmt_there t c.args.from begins (stops t r))

pub returns-clause-exact : goal.returns-clause-exact
returns-clause-exact g c =
    let t = c.args.self.now.tokens in
    let begins : begins_statement (kind_at t.list.now c.args.from) ≡ true = search rules in
    let stmt = c.in_ok-stmt in
    takes t (exact.stmt_there t c.args.from begins (makes t stmt.next (taken t stmt.ensures.exact)))
