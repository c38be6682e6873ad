use Rattle.std.proofs.Common.{◌≡◌, ◌≢◌, ◌+◌, ◌∙◌, Some, refl, ap, length, arith, rules}
use Rattle.sa_lexer.specs.declared.token.TokenKind.TheVariants as token
use Rattle.sa_lexer.specs.declared.sign.Sign.TheVariants as sign
use Rattle.sa_parser_expr.specs.Positions.{kind_at}
use Rattle.sa_parser_expr.specs.StatementForms.{name_form, assigned_form}
use Rattle.sa_parser_expr.proofs.Runs.{handed_on, stops}
use Rattle.sa_parser.specs.FeatureForms.{counted_constants_of}
use Rattle.sa_parser.proofs.ExactDeclared as exact
use Rattle.sa_parser.proofs.declared.counted_constants.Goals as goal

pub more-init : goal.more-init
more-init c =
    let value = c.in_ok-value in
    record {
      following = value.ensures.next;
      number = omega arith;
      count = first_of (grind arith, search rules);
      read =
          exact.first_constant c.args.tokens.now c.args.access c.args.first value.value c.args.from value.next _ _ value.ensures.exact
          (first_of (cc, search rules, grind arith)) refl;
    }

pub more-preserved : goal.more-preserved
more-preserved c =
    let t = c.args.tokens.now in
    let begun = c.more.invariant in
    let comma : kind_at t.list.now c.more.next ≡ Some (token.Sign sign.Comma) = search rules in
    let name = c.in_ok-name in
    let copy = c.in_ok-value-2 in
    record {
      following = (omega (arith, begun.following.0, name.ensures.next.0), name.ensures.next.1);
      number = omega (arith, begun.number, name.ensures.next.0);
      count =
          let was = begun.count in
          let longer = ap length c.in_ok-push-2.ensures.ok ∙ exact.length-one c.more.features _ in
          let following = name.ensures.next.0 in
          first_of (omega arith, grind arith);
      read =
          exact.next_constant t c.args.access c.args.first copy.value c.args.from c.more.next name.end copy.ensures.exact.next c.more.number
          _ _ _ name.name begun.read comma name.ensures.exact copy.ensures.exact.is (omega arith)
          (first_of (cc, search rules, grind arith));
    }

pub returns-in_err-value-clause-exact : goal.returns-in_err-value-clause-exact
returns-in_err-value-clause-exact c =
    let t = c.args.tokens.now in
    handed_on t assigned_form c.args.from _ (search rules) c.in_err-value.ensures.exact (λ rest r. stops t r)

pub returns-in_err-name-clause-exact : goal.returns-in_err-name-clause-exact
returns-in_err-name-clause-exact c =
    let t = c.args.tokens.now in
    let comma : kind_at t.list.now c.more.next ≡ Some (token.Sign sign.Comma) = search rules in
    handed_on t name_form (c.more.next + 1) _ (search rules) c.in_err-name.ensures.exact
    (λ rest r. exact.constant_refused t c.args.access c.args.first c.args.from c.more.next c.more.number _ c.more.invariant.read comma r)

pub returns-in_err-value-2-clause-exact : goal.returns-in_err-value-2-clause-exact
returns-in_err-value-2-clause-exact c =
    let t = c.args.tokens.now in
    let so_far = c.more.invariant.read in
    exact.never_refused t assigned_form (counted_constants_of c.args.access c.args.first) c.args.from c.args.from so_far.mid so_far.value _
    (search rules) so_far.was c.in_err-value-2.ensures.exact

pub returns-clause-exact : goal.returns-clause-exact
returns-clause-exact c =
    let t = c.args.tokens.now in
    let other : kind_at t.list.now c.more.next ≢ Some (token.Sign sign.Comma) = search rules in
    exact.counted_constants t c.args.access c.args.first c.args.from c.more.next c.more.number _ c.more.invariant.read other
