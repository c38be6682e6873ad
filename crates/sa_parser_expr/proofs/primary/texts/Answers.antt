use Rattle.std.proofs.Common.{◌≡◌, ◌≢◌, ℕ, List, Some, arith, rules}
use Rattle.sa_lexer.specs.declared.token.TokenKind.TheVariants as token
use Rattle.sa_parser_expr.specs.Positions.{kind_at}
use Rattle.sa_parser_expr.proofs.ExactFirsts as exact
use Rattle.sa_parser_expr.proofs.SpelledExpressions.{all_texts, one_text, more_text}
use Rattle.sa_parser_expr.proofs.primary.texts.Goals as goal

pub more-init : goal.more-init
more-init c = record {
  following = (omega arith, omega arith);
  spelled = rw (c.in_ok-bytes.ensures.items, c.as_slice.ensures) (one_text c.args.tokens.now c.args.first.now c.args.from);
  turned = rw (c.in_ok-bytes.ensures.items, c.as_slice.ensures) (exact.no_more_text c.args.tokens.now c.args.first.now c.args.from);
}

pub more-preserved : goal.more-preserved
more-preserved c =
    let begun = c.more.invariant in
    let text = c.in-Some-Text.text in
    let there : kind_at c.args.tokens.now.list.now c.more.next ≡ Some (token.Text text) = grind arith in
    record {
      following = (omega (arith, begun.following.0), first_of (search rules, grind arith));
      spelled = more_text c.args.tokens.now c.args.first.now _ text _ c.args.from c.more.next there begun.following.0 begun.spelled (first_of (cc, search rules, grind arith));
      turned = exact.next_text c.args.tokens.now c.args.first.now _ text _ c.args.from c.more.next begun.turned there (first_of (cc, search rules, grind arith));
    }

pub returns-clause-spelled : goal.returns-clause-spelled
returns-clause-spelled c = all_texts c.args.tokens.now c.args.first.now _ _ c.args.from c.more.next c.more.invariant.spelled (first_of (cc, search rules, grind arith))

pub returns-clause-exact : goal.returns-clause-exact
returns-clause-exact c =
    let none : (others : List ℕ) → kind_at c.args.tokens.now.list.now c.more.next ≢ Some (token.Text others) = search rules in
    exact.all_texts c.args.tokens.now c.args.first.now _ _ c.args.from c.more.next c.more.invariant.turned (first_of (cc, search rules, grind arith)) none
