use Rattle.std.proofs.Common.{ℕ, List, is_ok, ◌+◌, sym, ap, subst}
use Rattle.std.proofs.ResultArms.{chosen}
use Rattle.std.proofs.lemmas.List.{take_rest}
use Rattle.sa_lexer.proofs.Items.{ReadSoFar, ReadSoFar-more}
use Rattle.sa_lexer.proofs.literal.text_of.Goals as goal

pub loop-at-preserved : goal.loop-at-preserved
loop-at-preserved c =
    let inside = c.args.inside.now in
    let item = c.item_at-item.result in
    let at = c.loop-at.at in
    let is = rw take_rest at c.item_at-item.ensures.item in
    let pushed = chosen _ _ _ _ c.push.ensures.items (ap is_ok c.in_ok-push.was) in
    subst (λ (front : List ℕ). ReadSoFar inside front (at + item.len)) (sym pushed)
    (ReadSoFar-more inside c.loop-at.text.items at item c.loop-at.invariant is c.item_at-item.ensures.not_empty c.loop-at-test.true _ c.in-Some.is)
