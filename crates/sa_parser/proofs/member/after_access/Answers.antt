use Rattle.std.proofs.Common.{◌≡◌, ◌⊎◌, ◌+◌, ◌∙◌, Some, ap, arith, rules}
use Rattle.sa_lexer.specs.declared.token.TokenKind.TheVariants as token
use Rattle.sa_lexer.specs.declared.word.Word.TheVariants as word
use Rattle.sa_parser_expr.specs.Forms.{refuse}
use Rattle.sa_parser_expr.specs.Positions.{kind_at}
use Rattle.sa_parser_expr.proofs.Runs.{taken, takes, handed_on, stops, makes}
use Rattle.sa_parser.specs.Classes.{enclosing}
use Rattle.sa_parser.specs.FeatureForms.{constants_form, declared_or, include_form, is_private}
use Rattle.sa_parser.proofs.ExactStatements.{instead}
use Rattle.sa_parser.proofs.ExactFeatures as exact
use Rattle.sa_parser.proofs.member.after_access.Goals as goal
use Rattle.sa_parser.proofs.member.after_access.Goals.{in_default-via-in-Some+in-Word+in_default}
use Rattle.sa_parser.proofs.member.after_access.Goals.{in_default-via-in-Some+in_default, in_default-via-in_default}

pub returns-in_err-include-in-Some-Word-Include-clause-exact : goal.returns-in_err-include-in-Some-Word-Include-clause-exact
returns-in_err-include-in-Some-Word-Include-clause-exact c =
    let t = c.args.tokens.now in
    let there : kind_at t.list.now c.args.from ≡ Some (token.Word word.Include) = grind arith in
    handed_on t (include_form (is_private c.args.access)) (c.args.from + 1) _ (search rules)
    c.in_err-include-in-Some-Word-Include.ensures.exact
    (λ rest r. exact.include_there t (enclosing c.args.class) c.args.access c.args.from there r)

pub returns-in_ok-include-in-Some-Word-Include-clause-exact : goal.returns-in_ok-include-in-Some-Word-Include-clause-exact
returns-in_ok-include-in-Some-Word-Include-clause-exact c =
    let t = c.args.tokens.now in
    let there : kind_at t.list.now c.args.from ≡ Some (token.Word word.Include) = grind arith in
    takes t
    (exact.include_there t (enclosing c.args.class) c.args.access c.args.from there
    (taken t c.in_ok-include-in-Some-Word-Include.ensures.exact))

pub returns-in_err-features-in-Some-Word-Attr-clause-exact : goal.returns-in_err-features-in-Some-Word-Attr-clause-exact
returns-in_err-features-in-Some-Word-Attr-clause-exact c =
    let t = c.args.tokens.now in
    let one = c.in-Some-Word-Attr.field-0-0 in
    let found : kind_at t.list.now c.args.from ≡ Some c.in-Some-Word-Attr.field-0.now = first_of (search rules, grind arith) in
    let there = found ∙ ap (λ of. Some of) c.in-Some-Word-Attr.field-0-is in
    let words : (one ≡ word.Attr) ⊎ (one ≡ word.Shared) = first_of (assumption c.in-Some-Word-Attr, search rules, grind arith) in
    handed_on t (declared_or c.args.access refuse) c.args.from _ (search rules) c.in_err-features-in-Some-Word-Attr.ensures.exact
    (λ rest r. exact.declared_there t (enclosing c.args.class) c.args.access c.args.from one there words r)

pub returns-in_ok-features-in-Some-Word-Attr-clause-exact : goal.returns-in_ok-features-in-Some-Word-Attr-clause-exact
returns-in_ok-features-in-Some-Word-Attr-clause-exact c =
    let t = c.args.tokens.now in
    let one = c.in-Some-Word-Attr.field-0-0 in
    let found : kind_at t.list.now c.args.from ≡ Some c.in-Some-Word-Attr.field-0.now = first_of (search rules, grind arith) in
    let there = found ∙ ap (λ of. Some of) c.in-Some-Word-Attr.field-0-is in
    let words : (one ≡ word.Attr) ⊎ (one ≡ word.Shared) = first_of (assumption c.in-Some-Word-Attr, search rules, grind arith) in
    takes t
    (exact.declared_there t (enclosing c.args.class) c.args.access c.args.from one there words
    (taken t c.in_ok-features-in-Some-Word-Attr.ensures.exact))

pub returns-in_err-features-in-Some-Word-Const-clause-exact : goal.returns-in_err-features-in-Some-Word-Const-clause-exact
returns-in_err-features-in-Some-Word-Const-clause-exact c =
    let t = c.args.tokens.now in
    let there : kind_at t.list.now c.args.from ≡ Some (token.Word word.Const) = grind arith in
    handed_on t (constants_form c.args.access) (c.args.from + 1) _ (search rules) c.in_err-features-in-Some-Word-Const.ensures.exact
    (λ rest r. exact.const_there t (enclosing c.args.class) c.args.access c.args.from there (stops t r))

pub returns-in_ok-features-in-Some-Word-Const-clause-exact : goal.returns-in_ok-features-in-Some-Word-Const-clause-exact
returns-in_ok-features-in-Some-Word-Const-clause-exact c =
    let t = c.args.tokens.now in
    let there : kind_at t.list.now c.args.from ≡ Some (token.Word word.Const) = grind arith in
    let features = c.in_ok-features-in-Some-Word-Const in
    takes t
    (exact.const_there t (enclosing c.args.class) c.args.access c.args.from there (makes t features.next (taken t features.ensures.exact)))

pub returns-in_default-clause-exact : goal.returns-in_default-clause-exact
returns-in_default-clause-exact c =
    let t = c.args.tokens.now in
    let class = enclosing c.args.class in
    instead t
    (λ v r. elim c.in_default.branch [
      | in_default-via-in-Some+in-Word+in_default w ↦
          exact.called_there t class c.args.access c.args.from (search rules) (search rules) (search rules) (search rules) r
      | in_default-via-in-Some+in_default w ↦
          exact.called_there t class c.args.access c.args.from (search rules) (search rules) (search rules) (search rules) r
      | in_default-via-in_default w ↦
          exact.called_there t class c.args.access c.args.from (search rules) (search rules) (search rules) (search rules) r
    ])
    c.called.result c.called.ensures.exact
