use Rattle.std.proofs.Common.{◌≡◌, Some, arith, rules, ◌≢◌, ◌+◌, refl}
use Rattle.sa_lexer.specs.declared.token.TokenKind.TheVariants as token
use Rattle.sa_lexer.specs.declared.word.Word.TheVariants as word
use Rattle.sa_parser_expr.specs.Positions.{kind_at}
use Rattle.sa_parser.proofs.SpelledStatements.{no_case_arm, more_case_arms}
use Rattle.sa_parser_expr.specs.StatementForms.{case_arm_form}
use Rattle.sa_parser_expr.proofs.Runs.{handed_on}
use Rattle.sa_parser.proofs.ExactBlocks as exact
use Rattle.sa_parser.proofs.body.Stmts.case_arms.Goals as goal

pub more-init : goal.more-init
more-init g c = record {
  following = (omega arith, c.requires.within);
  spelled = no_case_arm c.args.self.now.tokens c.args.from _ (search rules);
  read = exact.none_yet refl (search rules);
}

pub more-preserved : goal.more-preserved
more-preserved g c =
    let begun = c.more.invariant in
    let when : kind_at c.args.self.now.tokens.list.now c.more.next ≡ Some (token.Word word.When) = search rules in
    let one = c.in_ok-arm.ensures in
    record {
      following = (omega (arith, begun.following.0, one.next.0), one.next.1);
      spelled = more_case_arms c.args.self.now.tokens c.args.from c.more.next _ _ _ _ when begun.spelled one.spelled begun.following.0 (omega (arith, one.next.0)) (search rules);
      read = exact.next_when c.args.self.now.tokens case_arm_form c.args.from c.more.next _ _ _ _ begun.read when one.exact (search rules);
    }

pub returns-in_err-arm-clause-exact : goal.returns-in_err-arm-clause-exact
returns-in_err-arm-clause-exact g c =
    let t = c.args.self.now.tokens in
    let when : kind_at t.list.now c.more.next ≡ Some (token.Word word.When) = search rules in
    handed_on t case_arm_form (c.more.next + 1) _ (search rules) c.in_err-arm.ensures.exact
    (λ rest r. exact.case_arm_refused t c.args.from c.more.next _ c.more.invariant.read when r)

pub returns-clause-exact : goal.returns-clause-exact
returns-clause-exact g c =
    let t = c.args.self.now.tokens in
    let other : kind_at t.list.now c.more.next ≢ Some (token.Word word.When) = search rules in
    exact.all_case_arms t c.args.from c.more.next _ c.more.invariant.read other
