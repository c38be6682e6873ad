use Rattle.std.proofs.Common.{◌≡◌, Some, arith, rules, ◌≢◌, ◌+◌}
use Rattle.sa_lexer.specs.declared.token.TokenKind.TheVariants as token
use Rattle.sa_lexer.specs.declared.word.Word.TheVariants as word
use Rattle.sa_parser_expr.specs.Positions.{kind_at}
use Rattle.sa_parser.specs.Statements as stmts
use Rattle.sa_parser.proofs.SpelledStatements.{more_arms, all_arms}
use Rattle.sa_parser_expr.specs.StatementForms.{arm_form}
use Rattle.sa_parser_expr.specs.Tests.{is_word}
use Rattle.sa_parser_expr.proofs.Runs.{taken, handed_on, first_part, first_part_refused}
use Rattle.sa_parser.proofs.ExactBlocks as exact
use Rattle.sa_parser.proofs.body.Stmts.arms.Goals as goal

pub more-init : goal.more-init
more-init g c = record {
  following = c.in_ok-first.ensures.next;
  spelled = rw (c.in_ok-push.ensures.items, c.new-arms.ensures.items) (stmts.last_arm c.in_ok-first.ensures.spelled);
  parted = rw (c.in_ok-push.ensures.items, c.new-arms.ensures.items) (first_part c.args.self.now.tokens (is_word word.Elsif) arm_form (taken c.args.self.now.tokens c.in_ok-first.ensures.exact));
}

pub more-preserved : goal.more-preserved
more-preserved g c =
    let begun = c.more.invariant in
    let elsif : kind_at c.args.self.now.tokens.list.now c.more.next ≡ Some (token.Word word.Elsif) = search rules in
    let one = c.in_ok-one.ensures in
    record {
      following = (omega (arith, begun.following.0, one.next.0), one.next.1);
      spelled = more_arms c.args.self.now.tokens c.args.from c.more.next _ _ _ _ elsif begun.spelled one.spelled (omega (arith, begun.following.0)) (omega (arith, one.next.0)) (first_of (cc, search rules, grind arith));
      parted = exact.next_arm c.args.self.now.tokens c.args.from c.more.next _ _ _ _ begun.parted elsif one.exact (first_of (cc, search rules, grind arith));
    }

pub returns-clause-spelled : goal.returns-clause-spelled
returns-clause-spelled g c = all_arms c.args.self.now.tokens c.args.from c.more.next _ _ c.more.invariant.spelled (first_of (cc, search rules, grind arith))

pub returns-in_err-first-clause-exact : goal.returns-in_err-first-clause-exact
returns-in_err-first-clause-exact g c =
    let t = c.args.self.now.tokens in
    handed_on t arm_form c.args.from _ (search rules) c.in_err-first.ensures.exact (λ rest r. first_part_refused t (is_word word.Elsif) arm_form r)

pub returns-in_err-one-clause-exact : goal.returns-in_err-one-clause-exact
returns-in_err-one-clause-exact g c =
    let t = c.args.self.now.tokens in
    let elsif : kind_at t.list.now c.more.next ≡ Some (token.Word word.Elsif) = search rules in
    handed_on t arm_form (c.more.next + 1) _ (search rules) c.in_err-one.ensures.exact
    (λ rest r. exact.next_arm_refused t c.args.from c.more.next _ c.more.invariant.parted elsif r)

pub returns-clause-exact : goal.returns-clause-exact
returns-clause-exact g c =
    let t = c.args.self.now.tokens in
    let other : kind_at t.list.now c.more.next ≢ Some (token.Word word.Elsif) = search rules in
    exact.all_arms t c.args.from c.more.next _ _ c.more.invariant.parted other (first_of (cc, search rules, grind arith))
