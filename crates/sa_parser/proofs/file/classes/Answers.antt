use Rattle.std.proofs.Common.{◌≡◌, ◌≢◌, ◌+◌, ◌<◌, length, Some, None, arith, refl, rules}
use Rattle.sa_lexer.specs.declared.token.TokenKind.TheVariants as token
use Rattle.sa_lexer.specs.declared.sign.Sign.TheVariants as sign
use Rattle.sa_parser_expr.specs.Positions.{kind_at}
use Rattle.sa_parser.proofs.ExactFiles as exact
use Rattle.sa_parser.proofs.file.classes.Goals as goal

pub more-init : goal.more-init
more-init c =
    let t = c.args.tokens.now in
    let one = c.in_ok-one in
    let put = c.in_ok-put.ensures in
    record {
      following = one.ensures.next;
      count = first_of (grind arith, search rules);
      read = exact.first_parsed t c.args.file_kind c.args.first one.next one.one _ _ c.new-parsed.ensures one.ensures.exact put.classes
          put.contracts;
    }

pub more-preserved : goal.more-preserved
more-preserved c =
    let t = c.args.tokens.now in
    let begun = c.more.invariant in
    let semicolon : kind_at t.list.now c.more.next ≡ Some (token.Sign sign.Semicolon) = search rules in
    let one = c.in_ok-one-2 in
    let put = c.in_ok-put-2.ensures in
    record {
      following = (omega (arith, begun.following.0, one.ensures.next.0), one.ensures.next.1);
      count = omega (arith, begun.count, put.count, one.ensures.next.0);
      read = exact.next_parsed t c.args.file_kind c.args.first _ c.more.next one.end one.one _ _ begun.read
          (first_of (search rules, grind arith, omega (arith, begun.count, begun.following.1, c.requires)))
          semicolon one.ensures.exact put.classes put.contracts;
    }

pub returns-in_err-one-clause-exact : goal.returns-in_err-one-clause-exact
returns-in_err-one-clause-exact c =
    let t = c.args.tokens.now in
    exact.class_refused t c.args.file_kind c.args.first 0 _ _ (search rules) c.in_err-one.ensures.exact
    (λ rest r. exact.first_refused t c.args.file_kind c.args.first r)

pub returns-in_err-one-2-clause-exact : goal.returns-in_err-one-2-clause-exact
returns-in_err-one-2-clause-exact c =
    let t = c.args.tokens.now in
    let semicolon : kind_at t.list.now c.more.next ≡ Some (token.Sign sign.Semicolon) = search rules in
    exact.class_refused t c.args.file_kind c.args.first (c.more.next + 1) _ _ (search rules) c.in_err-one-2.ensures.exact
    (λ rest r. exact.next_refused t c.args.file_kind c.args.first c.more.next _ c.more.invariant.read semicolon r)

pub returns-in-None-clause-exact : goal.returns-in-None-clause-exact
returns-in-None-clause-exact c =
    let t = c.args.tokens.now in
    let other : kind_at t.list.now c.more.next ≢ Some (token.Sign sign.Semicolon) = search rules in
    let none : kind_at t.list.now c.more.next ≡ None = first_of (search rules, grind arith) in
    let end = exact.ended t c.args.file_kind c.args.first c.more.next none in
    exact.file_read t c.args.file_kind c.args.first c.more.next _ _ c.more.invariant.read other end refl

pub returns-in-Some-clause-exact : goal.returns-in-Some-clause-exact
returns-in-Some-clause-exact c =
    let t = c.args.tokens.now in
    let other : kind_at t.list.now c.more.next ≢ Some (token.Sign sign.Semicolon) = search rules in
    let short : c.more.next < length t.list.now = first_of (search rules, grind arith) in
    exact.file_left t c.args.file_kind c.args.first c.more.next _ c.unexpected.result _ refl c.unexpected.ensures.value
    c.more.invariant.read other short
