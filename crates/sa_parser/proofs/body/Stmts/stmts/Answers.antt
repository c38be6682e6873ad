use Rattle.std.proofs.Common.{◌≡◌, Some, arith, rules, ◌≢◌, ◌+◌}
use Rattle.sa_lexer.specs.declared.token.TokenKind.TheVariants as token
use Rattle.sa_lexer.specs.declared.sign.Sign.TheVariants as sign
use Rattle.sa_parser_expr.specs.Positions.{kind_at}
use Rattle.sa_parser.proofs.SpelledStatements.{first_stmt, more_stmts, all_stmts}
use Rattle.sa_parser_expr.specs.StatementForms.{optional_stmt_form}
use Rattle.sa_parser_expr.proofs.Runs.{handed_on}
use Rattle.sa_parser.proofs.ExactBodies as exact
use Rattle.sa_parser.proofs.body.Stmts.stmts.Goals as goal

pub more-init : goal.more-init
more-init g c = record {
  following = c.in_ok-first.ensures.next;
  spelled = first_stmt c.args.self.now.tokens c.args.from _ _ _ c.in_ok-first.ensures.spelled (rw (c.in_ok-push_some.ensures, c.new-list.ensures.items));
  read = exact.first_stmt c.args.self.now.tokens c.args.from _ _ _ c.in_ok-first.ensures.exact (rw (c.in_ok-push_some.ensures, c.new-list.ensures.items));
}

pub more-preserved : goal.more-preserved
more-preserved g c =
    let begun = c.more.invariant in
    let semicolon : kind_at c.args.self.now.tokens.list.now c.more.next ≡ Some (token.Sign sign.Semicolon) = search rules in
    let one = c.in_ok-one.ensures in
    record {
      following = (omega (arith, begun.following.0, one.next.0), one.next.1);
      spelled = more_stmts c.args.self.now.tokens c.args.from c.more.next _ _ _ _ semicolon begun.spelled one.spelled begun.following.0 (omega (arith, one.next.0)) (first_of (cc, search rules, grind arith));
      read = exact.next_stmt c.args.self.now.tokens c.args.from c.more.next _ _ _ _ begun.read semicolon one.exact (first_of (cc, search rules, grind arith));
    }

pub returns-clause-spelled : goal.returns-clause-spelled
returns-clause-spelled g c = all_stmts c.args.self.now.tokens c.args.from c.more.next _ _ c.more.invariant.spelled (first_of (cc, search rules, grind arith))

pub returns-in_err-first-clause-exact : goal.returns-in_err-first-clause-exact
returns-in_err-first-clause-exact g c =
    let t = c.args.self.now.tokens in
    handed_on t optional_stmt_form c.args.from _ (search rules) c.in_err-first.ensures.exact (λ rest r. exact.first_refused t c.args.from r)

pub returns-in_err-one-clause-exact : goal.returns-in_err-one-clause-exact
returns-in_err-one-clause-exact g c =
    let t = c.args.self.now.tokens in
    let semicolon : kind_at t.list.now c.more.next ≡ Some (token.Sign sign.Semicolon) = search rules in
    handed_on t optional_stmt_form (c.more.next + 1) _ (search rules) c.in_err-one.ensures.exact
    (λ rest r. exact.next_refused t c.args.from c.more.next _ c.more.invariant.read semicolon r)

pub returns-clause-exact : goal.returns-clause-exact
returns-clause-exact g c =
    let t = c.args.self.now.tokens in
    let other : kind_at t.list.now c.more.next ≢ Some (token.Sign sign.Semicolon) = search rules in
    exact.all_stmts t c.args.from c.more.next _ _ c.more.invariant.read other (first_of (cc, search rules, grind arith))
