use Rattle.std.proofs.Common.{◌≡◌, ◌⊎◌, ◌+◌, Some, refl, arith, rules}
use Rattle.sa_lexer.specs.declared.token.TokenKind.TheVariants as token
use Rattle.sa_parser_expr.specs.ExpressionForms.{args_form}
use Rattle.sa_parser_expr.specs.Positions.{kind_at}
use Rattle.sa_parser_expr.proofs.ExactArguments as exact
use Rattle.sa_parser_expr.proofs.Runs.{handed_on, refused_at, stops}
use Rattle.sa_parser_expr.proofs.SpelledExpressions.{call, feature_stands}
use Rattle.sa_parser_expr.proofs.grammar.Grammar.call.Goals as goal

pub returns-clause-spelled : goal.returns-clause-spelled
returns-clause-spelled g c =
    let t = c.args.self.now.tokens in
    let names : (kind_at t.list.now c.args.from ≡ Some token.Lower) ⊎ (kind_at t.list.now c.args.from ≡ Some token.IterName) = c.is_feature_name.ensures.value.0 (search rules) in
    let given = c.in_ok-given.ensures in
    call t c.args.self.now.scope c.args.on c.args.from _ _ _ _ (feature_stands t c.args.from names) given.spelled (omega (arith, given.next.0)) (search rules) (search rules)

pub returns-then-not-is_feature_name-clause-exact : goal.returns-then-not-is_feature_name-clause-exact
returns-then-not-is_feature_name-clause-exact g c =
    let t = c.args.self.now.tokens in
    let other : (kind_at t.list.now c.args.from ≡ Some token.Lower) ⊎ (kind_at t.list.now c.args.from ≡ Some token.IterName) → ⊥ = search rules in
    refused_at t c.args.from c.unexpected.result refl c.unexpected.ensures.value (exact.no_name t c.args.self.now.scope c.args.on c.args.from other)

pub returns-in_err-given-clause-exact : goal.returns-in_err-given-clause-exact
returns-in_err-given-clause-exact g c =
    let t = c.args.self.now.tokens in
    let s = c.args.self.now.scope in
    let names : (kind_at t.list.now c.args.from ≡ Some token.Lower) ⊎ (kind_at t.list.now c.args.from ≡ Some token.IterName) = c.is_feature_name.ensures.value.0 (search rules) in
    handed_on t (args_form s) (c.args.from + 1) _ (search rules) c.in_err-given.ensures.exact
    (λ rest r. exact.behind_name t s c.args.on c.args.from (feature_stands t c.args.from names) (stops t r))

pub returns-clause-exact : goal.returns-clause-exact
returns-clause-exact g c =
    let t = c.args.self.now.tokens in
    let names : (kind_at t.list.now c.args.from ≡ Some token.Lower) ⊎ (kind_at t.list.now c.args.from ≡ Some token.IterName) = c.is_feature_name.ensures.value.0 (search rules) in
    exact.called t c.args.self.now.scope c.args.on c.args.from _ _ _ _ (feature_stands t c.args.from names) (search rules) (search rules) c.in_ok-given.ensures.exact
