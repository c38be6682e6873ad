use Rattle.std.proofs.Common.{◌≡◌, ◌+◌, Some, arith, rules}
use Rattle.sa_lexer.specs.declared.token.TokenKind.TheVariants as token
use Rattle.sa_lexer.specs.declared.word.Word.TheVariants as word
use Rattle.sa_ast.specs.declared.class.Access.TheVariants.{ReadOnly}
use Rattle.sa_parser_expr.specs.Forms.{refuse}
use Rattle.sa_parser_expr.specs.Positions.{kind_at}
use Rattle.sa_parser_expr.proofs.Runs.{taken, takes, handed_on, stops, makes}
use Rattle.sa_parser.specs.ConditionForms.{holding_form}
use Rattle.sa_parser.specs.Classes.{enclosing}
use Rattle.sa_parser.specs.FeatureForms.{declared_or}
use Rattle.sa_parser.proofs.ExactStatements.{instead}
use Rattle.sa_parser.proofs.ExactFeatures as exact
use Rattle.sa_parser.proofs.member.member.Goals as goal
use Rattle.sa_parser.proofs.member.member.Goals.{in_default-via-in-Some+in-Word+in_default, in_default-via-in-Some+in_default}
use Rattle.sa_parser.proofs.member.member.Goals.{in_default-via-in_default}

pub returns-in-Some-Word-Private-clause-exact : goal.returns-in-Some-Word-Private-clause-exact
returns-in-Some-Word-Private-clause-exact c invariants may =
    let t = c.args.tokens.now in
    let there : kind_at t.list.now c.args.from ≡ Some (token.Word word.Private) = grind arith in
    instead t (λ v r. exact.private_there t (enclosing c.args.class) invariants c.args.from there r)
    c.after_access.result c.after_access.ensures.exact

pub returns-in_err-features-in-Some-Word-Readonly-clause-exact : goal.returns-in_err-features-in-Some-Word-Readonly-clause-exact
returns-in_err-features-in-Some-Word-Readonly-clause-exact c invariants may =
    let t = c.args.tokens.now in
    let there : kind_at t.list.now c.args.from ≡ Some (token.Word word.Readonly) = grind arith in
    handed_on t (declared_or ReadOnly refuse) (c.args.from + 1) _ (search rules) c.in_err-features-in-Some-Word-Readonly.ensures.exact
    (λ rest r. exact.readonly_there t (enclosing c.args.class) invariants c.args.from there r)

pub returns-in_ok-features-in-Some-Word-Readonly-clause-exact : goal.returns-in_ok-features-in-Some-Word-Readonly-clause-exact
returns-in_ok-features-in-Some-Word-Readonly-clause-exact c invariants may =
    let t = c.args.tokens.now in
    let there : kind_at t.list.now c.args.from ≡ Some (token.Word word.Readonly) = grind arith in
    takes t
    (exact.readonly_there t (enclosing c.args.class) invariants c.args.from there
    (taken t c.in_ok-features-in-Some-Word-Readonly.ensures.exact))

pub returns-in_err-holds-in-Some-Word-Invariant-clause-exact : goal.returns-in_err-holds-in-Some-Word-Invariant-clause-exact
returns-in_err-holds-in-Some-Word-Invariant-clause-exact c invariants may =
    let t = c.args.tokens.now in
    let there : kind_at t.list.now c.args.from ≡ Some (token.Word word.Invariant) = grind arith in
    handed_on t holding_form (c.args.from + 1) _ (search rules) c.in_err-holds-in-Some-Word-Invariant.ensures.exact
    (λ rest r. exact.invariant_there t (enclosing c.args.class) invariants c.args.from there may (stops t r))

pub returns-in_ok-holds-in-Some-Word-Invariant-clause-exact : goal.returns-in_ok-holds-in-Some-Word-Invariant-clause-exact
returns-in_ok-holds-in-Some-Word-Invariant-clause-exact c invariants may =
    let t = c.args.tokens.now in
    let there : kind_at t.list.now c.args.from ≡ Some (token.Word word.Invariant) = grind arith in
    let holds = c.in_ok-holds-in-Some-Word-Invariant in
    takes t
    (exact.invariant_there t (enclosing c.args.class) invariants c.args.from there may (makes t holds.next (taken t holds.ensures.exact)))

pub returns-in_default-clause-exact : goal.returns-in_default-clause-exact
returns-in_default-clause-exact c invariants may =
    let t = c.args.tokens.now in
    let class = enclosing c.args.class in
    instead t
    (λ v r. elim c.in_default.branch [
      | in_default-via-in-Some+in-Word+in_default w ↦
          exact.public_there t class invariants c.args.from (search rules) (search rules) (search rules) r
      | in_default-via-in-Some+in_default w ↦
          exact.public_there t class invariants c.args.from (search rules) (search rules) (search rules) r
      | in_default-via-in_default w ↦
          exact.public_there t class invariants c.args.from (search rules) (search rules) (search rules) r
    ])
    c.after_access-in_default.result c.after_access-in_default.ensures.exact
