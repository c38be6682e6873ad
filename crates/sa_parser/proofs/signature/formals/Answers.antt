use Rattle.std.proofs.Common.{◌≡◌, ◌≢◌, ◌+◌, Some, refl, arith, rules}
use Rattle.sa_lexer.specs.declared.token.TokenKind.TheVariants as token
use Rattle.sa_lexer.specs.declared.sign.Sign.TheVariants as sign
use Rattle.sa_parser_expr.specs.Positions.{kind_at}
use Rattle.sa_parser_expr.specs.Tests.{is_sign}
use Rattle.sa_parser.specs.SignatureForms.{formal_form}
use Rattle.sa_parser_expr.proofs.Runs.{takes, handed_on, shut_sign}
use Rattle.sa_parser_expr.proofs.Tested.{sign_is}
use Rattle.sa_parser.proofs.ExactBodies.{first_joined, next_joined, all_joined, first_join_refused, next_join_refused}
use Rattle.sa_parser.proofs.ExactSignatures as exact
use Rattle.sa_parser.proofs.signature.formals.Goals as goal

pub more-init : goal.more-init
more-init c =
    let t = c.args.tokens.now in
    let first = c.in_ok-list in
    record {
      following = first.ensures.next;
      read = first_joined t (is_sign sign.Comma) (formal_form c.args.callable) c.args.from first.next _ _ first.ensures.exact refl;
    }

pub more-preserved : goal.more-preserved
more-preserved c =
    let t = c.args.tokens.now in
    let begun = c.more.invariant in
    let comma : kind_at t.list.now c.more.next ≡ Some (token.Sign sign.Comma) = search rules in
    let one = c.in_ok-more.ensures in
    record {
      following = (omega (arith, begun.following.0, one.next.0), one.next.1);
      read = next_joined t (is_sign sign.Comma) (formal_form c.args.callable) c.args.from c.more.next _ _ _ _ begun.read
          (token.Sign sign.Comma) comma (sign_is sign.Comma) one.exact (first_of (cc, search rules, grind arith));
    }

pub returns-in_err-list-clause-exact : goal.returns-in_err-list-clause-exact
returns-in_err-list-clause-exact c =
    let t = c.args.tokens.now in
    handed_on t (formal_form c.args.callable) c.args.from _ (search rules) c.in_err-list.ensures.exact
    (λ rest r. exact.as_formals t c.args.callable (first_join_refused t (is_sign sign.Comma) (formal_form c.args.callable) c.args.from r))

pub returns-in_err-more-clause-exact : goal.returns-in_err-more-clause-exact
returns-in_err-more-clause-exact c =
    let t = c.args.tokens.now in
    let comma : kind_at t.list.now c.more.next ≡ Some (token.Sign sign.Comma) = search rules in
    handed_on t (formal_form c.args.callable) (c.more.next + 1) _ (search rules) c.in_err-more.ensures.exact
    (λ rest r. exact.as_formals t c.args.callable
    (next_join_refused t (is_sign sign.Comma) (formal_form c.args.callable) c.args.from c.more.next _ c.more.invariant.read
    (token.Sign sign.Comma) comma (sign_is sign.Comma) r))

pub returns-clause-exact : goal.returns-clause-exact
returns-clause-exact c =
    let t = c.args.tokens.now in
    let other : kind_at t.list.now c.more.next ≢ Some (token.Sign sign.Comma) = search rules in
    takes t (exact.as_formals t c.args.callable
    (all_joined t (is_sign sign.Comma) (formal_form c.args.callable) c.args.from c.more.next _ _ c.more.invariant.read
    (shut_sign t sign.Comma c.more.next other) refl))
