use Rattle.std.proofs.Common.{◌≡◌, ◌≢◌, ◌+◌, Some, rules}
use Rattle.sa_lexer.specs.declared.token.TokenKind.TheVariants as token
use Rattle.sa_parser_expr.specs.Positions.{kind_at}
use Rattle.sa_parser.specs.ConditionForms.{condition_form}
use Rattle.sa_parser_expr.proofs.Runs.{taken, takes, handed_on, stops, makes}
use Rattle.sa_parser.proofs.ExactConditions as exact
use Rattle.sa_parser.proofs.contract.clause.Goals as goal

pub returns-then-not-is_word-clause-exact : goal.returns-then-not-is_word-clause-exact
returns-then-not-is_word-clause-exact c =
    let t = c.args.tokens.now in
    let other : kind_at t.list.now c.args.from ≢ Some (token.Word c.args.word) = search rules in
    exact.no_clause t c.args.word c.args.scope c.args.from other

pub returns-in_err-condition-clause-exact : goal.returns-in_err-condition-clause-exact
returns-in_err-condition-clause-exact c =
    let t = c.args.tokens.now in
    let there : kind_at t.list.now c.args.from ≡ Some (token.Word c.args.word) = search rules in
    handed_on t (condition_form c.args.scope) (c.args.from + 1) _ (search rules) c.in_err-condition.ensures.exact
    (λ rest r. exact.behind_clause t c.args.word c.args.scope c.args.from there (stops t r))

pub returns-clause-exact : goal.returns-clause-exact
returns-clause-exact c =
    let t = c.args.tokens.now in
    let there : kind_at t.list.now c.args.from ≡ Some (token.Word c.args.word) = search rules in
    let condition = c.in_ok-condition in
    takes t (exact.behind_clause t c.args.word c.args.scope c.args.from there (makes t condition.next (taken t condition.ensures.exact)))
