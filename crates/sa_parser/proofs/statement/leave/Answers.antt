use Rattle.std.proofs.Common.{arith, rules, ◌≡◌, ◌+◌, Some, refl}
use Rattle.sa_parser_expr.specs.Expressions as exprs
use Rattle.sa_parser.proofs.SpelledStatements.{return_word, yield_word, quit_word, raise_word, assert_word}
use Rattle.sa_lexer.specs.declared.token.TokenKind.TheVariants as token
use Rattle.sa_lexer.specs.declared.word.Word.TheVariants as word
use Rattle.sa_parser_expr.specs.Positions.{kind_at}
use Rattle.sa_parser_expr.specs.Forms.{refuse}
use Rattle.sa_parser_expr.specs.StatementForms.{optional_value_form, value_form}
use Rattle.sa_parser_expr.proofs.Runs.{handed_on, refused_at, stops}
use Rattle.sa_parser.proofs.ExactStatements as exact
use Rattle.sa_parser.proofs.statement.leave.Goals as goal
use Rattle.sa_parser.proofs.statement.leave.Goals.{in_default-via-in-Some+in-Word+in_default, in_default-via-in-Some+in_default, in_default-via-in_default}

pub returns-in_ok-value-in-Some-Word-Return-clause-spelled : goal.returns-in_ok-value-in-Some-Word-Return-clause-spelled
returns-in_ok-value-in-Some-Word-Return-clause-spelled c =
    let value = c.in_ok-value-in-Some-Word-Return.ensures in
    return_word c.args.tokens.now c.args.from _ _ _ (grind arith) value.spelled (omega (arith, value.next.0)) (search rules)

pub returns-in_ok-value-in-Some-Word-Yield-clause-spelled : goal.returns-in_ok-value-in-Some-Word-Yield-clause-spelled
returns-in_ok-value-in-Some-Word-Yield-clause-spelled c =
    let value = c.in_ok-value-in-Some-Word-Yield.ensures in
    yield_word c.args.tokens.now c.args.from _ _ _ (grind arith) value.spelled (omega (arith, value.next.0)) (search rules)

pub returns-in-Some-Word-Quit-clause-spelled : goal.returns-in-Some-Word-Quit-clause-spelled
returns-in-Some-Word-Quit-clause-spelled c = quit_word c.args.tokens.now c.args.from _ (grind arith) (search rules)

pub returns-in_ok-value-in-Some-Word-Raise-clause-spelled : goal.returns-in_ok-value-in-Some-Word-Raise-clause-spelled
returns-in_ok-value-in-Some-Word-Raise-clause-spelled c =
    let value = c.in_ok-value-in-Some-Word-Raise.ensures in
    raise_word c.args.tokens.now c.args.from _ _ _ (grind arith) (exprs.in_value value.spelled) (omega (arith, value.next.0)) (search rules)

pub returns-in_ok-test-in-Some-Word-Assert-clause-spelled : goal.returns-in_ok-test-in-Some-Word-Assert-clause-spelled
returns-in_ok-test-in-Some-Word-Assert-clause-spelled c =
    let test = c.in_ok-test-in-Some-Word-Assert.ensures in
    assert_word c.args.tokens.now c.args.from _ _ _ (grind arith) (exprs.in_value test.spelled) (omega (arith, test.next.0)) (search rules)

pub returns-in_err-value-in-Some-Word-Return-clause-exact : goal.returns-in_err-value-in-Some-Word-Return-clause-exact
returns-in_err-value-in-Some-Word-Return-clause-exact c =
    let t = c.args.tokens.now in
    let there : kind_at t.list.now c.args.from ≡ Some (token.Word word.Return) = grind arith in
    handed_on t optional_value_form (c.args.from + 1) _ (search rules) c.in_err-value-in-Some-Word-Return.ensures.exact
    (λ rest r. exact.behind_return t refuse c.args.from there (stops t r))

pub returns-in_ok-value-in-Some-Word-Return-clause-exact : goal.returns-in_ok-value-in-Some-Word-Return-clause-exact
returns-in_ok-value-in-Some-Word-Return-clause-exact c =
    let t = c.args.tokens.now in
    let there : kind_at t.list.now c.args.from ≡ Some (token.Word word.Return) = grind arith in
    let value = c.in_ok-value-in-Some-Word-Return in
    exact.returns t c.args.from value.next _ _ there value.ensures.exact (search rules)

pub returns-in_err-value-in-Some-Word-Yield-clause-exact : goal.returns-in_err-value-in-Some-Word-Yield-clause-exact
returns-in_err-value-in-Some-Word-Yield-clause-exact c =
    let t = c.args.tokens.now in
    let there : kind_at t.list.now c.args.from ≡ Some (token.Word word.Yield) = grind arith in
    handed_on t optional_value_form (c.args.from + 1) _ (search rules) c.in_err-value-in-Some-Word-Yield.ensures.exact
    (λ rest r. exact.behind_yield t refuse c.args.from there (stops t r))

pub returns-in_ok-value-in-Some-Word-Yield-clause-exact : goal.returns-in_ok-value-in-Some-Word-Yield-clause-exact
returns-in_ok-value-in-Some-Word-Yield-clause-exact c =
    let t = c.args.tokens.now in
    let there : kind_at t.list.now c.args.from ≡ Some (token.Word word.Yield) = grind arith in
    let value = c.in_ok-value-in-Some-Word-Yield in
    exact.yields t c.args.from value.next _ _ there value.ensures.exact (search rules)

pub returns-in_err-value-in-Some-Word-Raise-clause-exact : goal.returns-in_err-value-in-Some-Word-Raise-clause-exact
returns-in_err-value-in-Some-Word-Raise-clause-exact c =
    let t = c.args.tokens.now in
    let there : kind_at t.list.now c.args.from ≡ Some (token.Word word.Raise) = grind arith in
    handed_on t value_form (c.args.from + 1) _ (search rules) c.in_err-value-in-Some-Word-Raise.ensures.exact
    (λ rest r. exact.behind_raise t refuse c.args.from there (stops t r))

pub returns-in_ok-value-in-Some-Word-Raise-clause-exact : goal.returns-in_ok-value-in-Some-Word-Raise-clause-exact
returns-in_ok-value-in-Some-Word-Raise-clause-exact c =
    let t = c.args.tokens.now in
    let there : kind_at t.list.now c.args.from ≡ Some (token.Word word.Raise) = grind arith in
    let value = c.in_ok-value-in-Some-Word-Raise in
    exact.raises t c.args.from value.next _ _ there value.ensures.exact (search rules)

pub returns-in_err-test-in-Some-Word-Assert-clause-exact : goal.returns-in_err-test-in-Some-Word-Assert-clause-exact
returns-in_err-test-in-Some-Word-Assert-clause-exact c =
    let t = c.args.tokens.now in
    let there : kind_at t.list.now c.args.from ≡ Some (token.Word word.Assert) = grind arith in
    handed_on t value_form (c.args.from + 1) _ (search rules) c.in_err-test-in-Some-Word-Assert.ensures.exact
    (λ rest r. exact.behind_assert t refuse c.args.from there (stops t r))

pub returns-in_ok-test-in-Some-Word-Assert-clause-exact : goal.returns-in_ok-test-in-Some-Word-Assert-clause-exact
returns-in_ok-test-in-Some-Word-Assert-clause-exact c =
    let t = c.args.tokens.now in
    let there : kind_at t.list.now c.args.from ≡ Some (token.Word word.Assert) = grind arith in
    let test = c.in_ok-test-in-Some-Word-Assert in
    exact.asserts t c.args.from test.next _ _ there test.ensures.exact (search rules)

pub returns-in-Some-Word-Quit-clause-exact : goal.returns-in-Some-Word-Quit-clause-exact
returns-in-Some-Word-Quit-clause-exact c =
    let t = c.args.tokens.now in
    let there : kind_at t.list.now c.args.from ≡ Some (token.Word word.Quit) = grind arith in
    exact.quit t c.args.from _ there (search rules)

pub returns-in_default-clause-exact : goal.returns-in_default-clause-exact
returns-in_default-clause-exact c =
    let t = c.args.tokens.now in
    refused_at t c.args.from c.unexpected.result refl c.unexpected.ensures.value
    (elim c.in_default.branch [
      | in_default-via-in-Some+in-Word+in_default w ↦ exact.none_leaves t c.args.from (search rules) (search rules) (search rules) (search rules) (search rules)
      | in_default-via-in-Some+in_default w ↦ exact.none_leaves t c.args.from (search rules) (search rules) (search rules) (search rules) (search rules)
      | in_default-via-in_default w ↦ exact.none_leaves t c.args.from (search rules) (search rules) (search rules) (search rules) (search rules)
    ])
