use Rattle.std.proofs.Common.{◌≡◌, ◌≢◌, ◌+◌, Some, arith, rules, ◌⊎◌, ap, ◌∙◌}
use Rattle.sa_lexer.specs.declared.token.TokenKind.TheVariants as token
use Rattle.sa_lexer.specs.declared.sign.Sign.TheVariants as sign
use Rattle.sa_parser_expr.specs.Positions.{kind_at}
use Rattle.sa_parser.proofs.ExactStatements as exact
use Rattle.sa_parser.proofs.statement.simple.Goals as goal
use Rattle.sa_parser.proofs.statement.simple.Goals.{in_default-via-in-Some+in-Sign+in_default, in_default-via-in-Some+in_default, in_default-via-in_default}

pub returns-then-not-is_lower-clause-exact : goal.returns-then-not-is_lower-clause-exact
returns-then-not-is_lower-clause-exact c =
    let t = c.args.tokens.now in
    let other : kind_at t.list.now c.args.from ≢ Some token.Lower = search rules in
    exact.instead t (λ v r. exact.assigned_first t c.args.from other r) c.assign.result c.assign.ensures.exact

pub returns-in-Some-Sign-Comma-clause-exact : goal.returns-in-Some-Sign-Comma-clause-exact
returns-in-Some-Sign-Comma-clause-exact c =
    let t = c.args.tokens.now in
    let there : kind_at t.list.now c.args.from ≡ Some token.Lower = search rules in
    let kind = c.in-Some-Sign-Comma.field-0.now in
    let found : kind_at t.list.now (c.args.from + 1) ≡ Some kind = first_of (search rules, grind arith) in
    let s = c.in-Some-Sign-Comma.field-0-0 in
    let signs : (s ≡ sign.Comma) ⊎ (s ≡ sign.Colon) = first_of (assumption c.in-Some-Sign-Comma, search rules, grind arith) in
    exact.instead t (λ v r. exact.declared_first t c.args.from s there (found ∙ ap (λ of. Some of) c.in-Some-Sign-Comma.field-0-is) signs r) c.declare.result c.declare.ensures.exact

pub returns-in-Some-Sign-Declare-clause-exact : goal.returns-in-Some-Sign-Declare-clause-exact
returns-in-Some-Sign-Declare-clause-exact c =
    let t = c.args.tokens.now in
    let there : kind_at t.list.now c.args.from ≡ Some token.Lower = search rules in
    let gets : kind_at t.list.now (c.args.from + 1) ≡ Some (token.Sign sign.Declare) = grind arith in
    exact.instead t (λ v r. exact.declared_by_value t c.args.from there gets r) c.declare_by_value.result c.declare_by_value.ensures.exact

pub returns-in_default-clause-exact : goal.returns-in_default-clause-exact
returns-in_default-clause-exact c =
    let t = c.args.tokens.now in
    let there : kind_at t.list.now c.args.from ≡ Some token.Lower = search rules in
    exact.instead t
    (λ v r. elim c.in_default.branch [
      | in_default-via-in-Some+in-Sign+in_default w ↦ exact.assigned_name t c.args.from there (search rules) (search rules) (search rules) r
      | in_default-via-in-Some+in_default w ↦ exact.assigned_name t c.args.from there (search rules) (search rules) (search rules) r
      | in_default-via-in_default w ↦ exact.assigned_name t c.args.from there (search rules) (search rules) (search rules) r
    ])
    c.assign-in_default.result c.assign-in_default.ensures.exact
