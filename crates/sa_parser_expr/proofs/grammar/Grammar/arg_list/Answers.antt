use Rattle.std.proofs.Common.{◌≡◌, ◌≢◌, ◌+◌, Some, arith, rules}
use Rattle.sa_lexer.specs.declared.token.TokenKind.TheVariants as token
use Rattle.sa_lexer.specs.declared.sign.Sign.TheVariants as sign
use Rattle.sa_parser_expr.specs.ExpressionForms.{arg_form}
use Rattle.sa_parser_expr.specs.Expressions as exprs
use Rattle.sa_parser_expr.specs.Positions.{kind_at}
use Rattle.sa_parser_expr.proofs.Runs.{taken, handed_on, first_listed, next_taken, all_taken, first_refused, next_refused}
use Rattle.sa_parser_expr.proofs.SpelledExpressions.{all_args, more_args}
use Rattle.sa_parser_expr.proofs.grammar.Grammar.arg_list.Goals as goal

pub more-init : goal.more-init
more-init g c = record {
  following = c.in_ok-first.ensures.next;
  spelled = rw (c.in_ok-push.ensures.items, c.new-args.ensures.items) (exprs.last_arg c.in_ok-first.ensures.spelled);
  listed = rw (c.in_ok-push.ensures.items, c.new-args.ensures.items) (first_listed c.args.self.now.tokens (taken c.args.self.now.tokens c.in_ok-first.ensures.exact));
}

pub more-preserved : goal.more-preserved
more-preserved g c =
    let begun = c.more.invariant in
    let comma : kind_at c.args.self.now.tokens.list.now c.more.next ≡ Some (token.Sign sign.Comma) = search rules in
    let one = c.in_ok-one.ensures in
    record {
      following = (omega (arith, begun.following.0, one.next.0), one.next.1);
      spelled = more_args c.args.self.now.tokens c.args.self.now.scope c.args.from c.more.next _ _ _ _ comma begun.spelled one.spelled (omega (arith, begun.following.0)) (omega (arith, one.next.0)) (first_of (cc, search rules, grind arith));
      listed = next_taken c.args.self.now.tokens begun.listed comma one.exact (first_of (cc, search rules, grind arith));
    }

pub returns-clause-spelled : goal.returns-clause-spelled
returns-clause-spelled g c = all_args c.args.self.now.tokens c.args.self.now.scope c.args.from c.more.next _ _ c.more.invariant.spelled (first_of (cc, search rules, grind arith))

pub returns-in_err-first-clause-exact : goal.returns-in_err-first-clause-exact
returns-in_err-first-clause-exact g c =
    let t = c.args.self.now.tokens in
    handed_on t (arg_form c.args.self.now.scope) c.args.from _ (search rules) c.in_err-first.ensures.exact (λ rest r. first_refused t r)

pub returns-in_err-one-clause-exact : goal.returns-in_err-one-clause-exact
returns-in_err-one-clause-exact g c =
    let t = c.args.self.now.tokens in
    let comma : kind_at t.list.now c.more.next ≡ Some (token.Sign sign.Comma) = search rules in
    handed_on t (arg_form c.args.self.now.scope) (c.more.next + 1) _ (search rules) c.in_err-one.ensures.exact
    (λ rest r. next_refused t c.more.invariant.listed comma r)

pub returns-clause-exact : goal.returns-clause-exact
returns-clause-exact g c =
    let t = c.args.self.now.tokens in
    let other : kind_at t.list.now c.more.next ≢ Some (token.Sign sign.Comma) = search rules in
    all_taken t c.more.invariant.listed other (first_of (cc, search rules, grind arith))
