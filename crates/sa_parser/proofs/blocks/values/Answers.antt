use Rattle.std.proofs.Common.{◌≡◌, Some, arith, rules, ◌≢◌, ◌+◌}
use Rattle.sa_lexer.specs.declared.token.TokenKind.TheVariants as token
use Rattle.sa_lexer.specs.declared.sign.Sign.TheVariants as sign
use Rattle.sa_parser_expr.specs.Expressions as exprs
use Rattle.sa_parser_expr.specs.Positions.{kind_at}
use Rattle.sa_parser.specs.Statements as stmts
use Rattle.sa_parser.proofs.SpelledStatements.{more_values}
use Rattle.sa_parser_expr.specs.StatementForms.{value_form}
use Rattle.sa_parser_expr.proofs.Runs.{taken, takes, handed_on, first_listed, next_taken, all_listed, first_refused, next_refused}
use Rattle.sa_parser.proofs.blocks.values.Goals as goal

pub more-init : goal.more-init
more-init c = record {
  following = c.in_ok-first.ensures.next;
  spelled = rw (c.in_ok-push.ensures.ok, c.new-values.ensures) (stmts.last_value (exprs.in_value c.in_ok-first.ensures.spelled));
  listed = rw (c.in_ok-push.ensures.ok, c.new-values.ensures) (first_listed c.args.tokens.now (taken c.args.tokens.now c.in_ok-first.ensures.exact));
}

pub more-preserved : goal.more-preserved
more-preserved c =
    let begun = c.more.invariant in
    let comma : kind_at c.args.tokens.now.list.now c.more.next ≡ Some (token.Sign sign.Comma) = search rules in
    let one = c.in_ok-value.ensures in
    record {
      following = (omega (arith, begun.following.0, one.next.0), one.next.1);
      spelled = more_values c.args.tokens.now c.args.from c.more.next _ _ _ _ comma begun.spelled (exprs.in_value one.spelled) (omega (arith, begun.following.0)) (omega (arith, one.next.0)) (search rules);
      listed = next_taken c.args.tokens.now begun.listed comma one.exact (search rules);
    }

pub returns-in_err-first-clause-exact : goal.returns-in_err-first-clause-exact
returns-in_err-first-clause-exact c =
    let t = c.args.tokens.now in
    handed_on t value_form c.args.from _ (search rules) c.in_err-first.ensures.exact (λ rest r. first_refused t r)

pub returns-in_err-value-clause-exact : goal.returns-in_err-value-clause-exact
returns-in_err-value-clause-exact c =
    let t = c.args.tokens.now in
    let comma : kind_at t.list.now c.more.next ≡ Some (token.Sign sign.Comma) = search rules in
    handed_on t value_form (c.more.next + 1) _ (search rules) c.in_err-value.ensures.exact (λ rest r. next_refused t c.more.invariant.listed comma r)

pub returns-clause-exact : goal.returns-clause-exact
returns-clause-exact c =
    let t = c.args.tokens.now in
    let other : kind_at t.list.now c.more.next ≢ Some (token.Sign sign.Comma) = search rules in
    takes t (all_listed t c.more.invariant.listed other)
