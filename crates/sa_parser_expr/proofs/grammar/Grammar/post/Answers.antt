use Rattle.std.proofs.Common.{◌≡◌, ◌≢◌, ◌+◌, Some, arith, rules}
use Rattle.sa_lexer.specs.declared.token.TokenKind.TheVariants as token
use Rattle.sa_lexer.specs.declared.sign.Sign.TheVariants as sign
use Rattle.sa_ast.specs.declared.expr.ExprReceiver.TheVariants.{Of}
use Rattle.sa_parser_expr.specs.Enclosures.{where_of}
use Rattle.sa_parser_expr.specs.ExpressionForms.{first_form, call_form, indices_form}
use Rattle.sa_parser_expr.specs.Expressions as exprs
use Rattle.sa_parser_expr.specs.Positions.{kind_at}
use Rattle.sa_parser_expr.proofs.ExactArguments as exact
use Rattle.sa_parser_expr.proofs.Runs.{handed_on}
use Rattle.sa_parser_expr.proofs.SpelledExpressions.{call_on, index_of}
use Rattle.sa_parser_expr.proofs.Stretches.{occurrence}
use Rattle.sa_parser_expr.proofs.grammar.Grammar.post.Goals as goal

pub more-init : goal.more-init
more-init g c = record {
  following = c.in_ok-of.ensures.next;
  spelled = exprs.first c.in_ok-of.ensures.spelled;
  read = exact.first_read c.args.self.now.tokens c.args.self.now.scope (where_of c.args.around) c.in_ok-of.ensures.exact;
}

pub more-preserved-then-is_sign : goal.more-preserved-then-is_sign
more-preserved-then-is_sign g c =
    let begun = c.more.invariant in
    let dot : kind_at c.args.self.now.tokens.list.now c.more.next ≡ Some (token.Sign sign.Dot) = search rules in
    let called = c.in_ok-called.ensures in
    record {
      following = (omega (arith, begun.following.0, called.next.0), called.next.1);
      spelled = call_on c.args.self.now.tokens c.args.self.now.scope c.args.around c.args.from c.more.next _ c.more.of _ _ begun.spelled dot called.spelled (omega (arith, begun.following.0)) (omega (arith, called.next.0)) (search rules);
      read = exact.call_read c.args.self.now.tokens c.args.self.now.scope (where_of c.args.around) begun.read dot called.exact (search rules);
    }

pub more-preserved : goal.more-preserved
more-preserved g c =
    let t = c.args.self.now.tokens in
    let begun = c.more.invariant in
    let bracket : kind_at t.list.now c.more.next ≡ Some (token.Sign sign.LeftBracket) = search rules in
    let index = c.in_ok-places.ensures in
    let there = occurrence t c.args.from (omega (arith, begun.following.0, begun.following.1)) in
    record {
      following = (omega (arith, begun.following.0, index.next.0), index.next.1);
      spelled = index_of t c.args.self.now.scope c.args.around c.args.from c.more.next _ there.0 c.more.of _ _ _ there.1 begun.spelled index.spelled begun.following.0 (omega (arith, index.next.0)) (search rules) (search rules);
      read = exact.index_read t c.args.self.now.scope (where_of c.args.around) begun.read bracket index.exact (search rules) (search rules);
    }

pub returns-in_err-of-clause-exact : goal.returns-in_err-of-clause-exact
returns-in_err-of-clause-exact g c =
    let t = c.args.self.now.tokens in
    let s = c.args.self.now.scope in
    let x = where_of c.args.around in
    handed_on t (first_form s x) c.args.from _ (search rules) c.in_err-of.ensures.exact (λ rest r. exact.no_first t s x r)

pub returns-in_err-called-clause-exact : goal.returns-in_err-called-clause-exact
returns-in_err-called-clause-exact g c =
    let t = c.args.self.now.tokens in
    let s = c.args.self.now.scope in
    let x = where_of c.args.around in
    let begun = c.more.invariant in
    let there = occurrence t c.args.from (omega (arith, begun.following.0, begun.following.1)) in
    let dot : kind_at t.list.now c.more.next ≡ Some (token.Sign sign.Dot) = search rules in
    let boxed = c.in_ok-new.field-0 in
    let same : boxed ≡ c.more.of = search rules in
    handed_on t (call_form s (Of boxed)) (c.more.next + 1) _ (search rules) c.in_err-called.ensures.exact
    (λ rest r. exact.no_call t s x there.0 there.1 begun.read dot same r)

pub returns-in_err-places-clause-exact : goal.returns-in_err-places-clause-exact
returns-in_err-places-clause-exact g c =
    let t = c.args.self.now.tokens in
    let s = c.args.self.now.scope in
    let x = where_of c.args.around in
    let begun = c.more.invariant in
    let there = occurrence t c.args.from (omega (arith, begun.following.0, begun.following.1)) in
    let bracket : kind_at t.list.now c.more.next ≡ Some (token.Sign sign.LeftBracket) = search rules in
    handed_on t (indices_form s) (c.more.next + 1) _ (search rules) c.in_err-places.ensures.exact
    (λ rest r. exact.no_index t s x there.0 there.1 begun.read bracket r)

pub returns-else-is_sign-2-clause-exact : goal.returns-else-is_sign-2-clause-exact
returns-else-is_sign-2-clause-exact g c =
    let t = c.args.self.now.tokens in
    let begun = c.more.invariant in
    let there = occurrence t c.args.from (omega (arith, begun.following.0, begun.following.1)) in
    let dot : kind_at t.list.now c.more.next ≢ Some (token.Sign sign.Dot) = search rules in
    let bracket : kind_at t.list.now c.more.next ≢ Some (token.Sign sign.LeftBracket) = search rules in
    exact.all_read t c.args.self.now.scope (where_of c.args.around) there.0 there.1 begun.read dot bracket
