use Rattle.std.proofs.Common.{◌≡◌, ◌≢◌, ◌+◌, Some, arith, rules}
use Rattle.sa_lexer.specs.declared.token.TokenKind.TheVariants as token
use Rattle.sa_lexer.specs.declared.sign.Sign.TheVariants as sign
use Rattle.sa_parser_expr.specs.Enclosures.{where_of}
use Rattle.sa_parser_expr.specs.Expressions as exprs
use Rattle.sa_parser_expr.specs.Forms.{expr, nest}
use Rattle.sa_parser_expr.specs.Positions.{kind_at}
use Rattle.sa_parser_expr.proofs.Runs.{taken, handed_on, first_listed, next_taken, all_taken, first_refused, next_refused}
use Rattle.sa_parser_expr.proofs.SpelledExpressions.{all_exprs, more_exprs}
use Rattle.sa_parser_expr.proofs.grammar.Grammar.exprs.Goals as goal

pub more-init : goal.more-init
more-init g c = record {
  following = c.in_ok-first.ensures.next;
  spelled = rw (c.in_ok-push.ensures.items, c.new-exprs.ensures.items) (exprs.last_expr c.in_ok-first.ensures.spelled);
  listed = rw (c.in_ok-push.ensures.items, c.new-exprs.ensures.items) (first_listed c.args.self.now.tokens (taken c.args.self.now.tokens c.in_ok-first.ensures.exact));
}

pub more-preserved : goal.more-preserved
more-preserved g c =
    let begun = c.more.invariant in
    let comma : kind_at c.args.self.now.tokens.list.now c.more.next ≡ Some (token.Sign sign.Comma) = search rules in
    let one = c.in_ok-one.ensures in
    record {
      following = (omega (arith, begun.following.0, one.next.0), one.next.1);
      spelled = more_exprs c.args.self.now.tokens c.args.self.now.scope c.args.around c.args.from c.more.next _ _ _ _ comma begun.spelled one.spelled (omega (arith, begun.following.0)) (omega (arith, one.next.0)) (first_of (cc, search rules, grind arith));
      listed = next_taken c.args.self.now.tokens begun.listed comma one.exact (first_of (cc, search rules, grind arith));
    }

pub returns-clause-spelled : goal.returns-clause-spelled
returns-clause-spelled g c = all_exprs c.args.self.now.tokens c.args.self.now.scope c.args.around c.args.from c.more.next _ _ c.more.invariant.spelled (first_of (cc, search rules, grind arith))

pub returns-in_err-first-clause-exact : goal.returns-in_err-first-clause-exact
returns-in_err-first-clause-exact g c =
    let t = c.args.self.now.tokens in
    handed_on t (nest (expr c.args.self.now.scope (where_of c.args.around))) c.args.from _ (search rules) c.in_err-first.ensures.exact (λ rest r. first_refused t r)

pub returns-in_err-one-clause-exact : goal.returns-in_err-one-clause-exact
returns-in_err-one-clause-exact g c =
    let t = c.args.self.now.tokens in
    let comma : kind_at t.list.now c.more.next ≡ Some (token.Sign sign.Comma) = search rules in
    handed_on t (nest (expr c.args.self.now.scope (where_of c.args.around))) (c.more.next + 1) _ (search rules) c.in_err-one.ensures.exact
    (λ rest r. next_refused t c.more.invariant.listed comma r)

pub returns-clause-exact : goal.returns-clause-exact
returns-clause-exact g c =
    let t = c.args.self.now.tokens in
    let other : kind_at t.list.now c.more.next ≢ Some (token.Sign sign.Comma) = search rules in
    all_taken t c.more.invariant.listed other (first_of (cc, search rules, grind arith))
