use Rattle.std.proofs.Common.{◌≡◌, ℕ, List, refl, ap, subst, true≢false}
use Rattle.std.specs.Prelude.{All, is_ok}
use Rattle.std.proofs.lemmas.List.{take_all}
use Rattle.std.proofs.lemmas.List.Elements.{All-more}
use Rattle.std.specs.Prelude.{Some, reverse, slice_get}
use Rattle.wa_valid.proofs.control.all_want.Goals as goal

pub loop-label-preserved : goal.loop-label-preserved
loop-label-preserved c =
    All-more (λ (label : ℕ). slice_get (reverse c.args.labels.now) label ≡ Some c.args.wanted) c.args.table.now c.loop-label.label-index _ c.loop-label-test.true c.loop-label.invariant (c.in_ok-wants.ensures.0 refl)

pub returns : goal.returns
returns c = (
  λ ok. subst (λ (all : List ℕ). All (λ (label : ℕ). slice_get (reverse c.args.labels.now) label ≡ Some c.args.wanted) all) (take_all c.loop-label.label-index c.args.table.now c.loop-label-test.false) c.loop-label.invariant,
  λ is. absurd (true≢false (ap is_ok is)),
)
