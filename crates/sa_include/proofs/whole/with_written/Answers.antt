use Rattle.std.proofs.Common.{◌≡◌, ◌+◌, List, take, take_all, subst, sym}
use Rattle.std.specs.List.{All}
use Rattle.sa_ast.specs.declared.class.Feature.{Feature}
use Rattle.sa_include.specs.Flattened.{Wins}
use Rattle.sa_include.proofs.WrittenLemmas.{wins_copied}
use Rattle.sa_include.proofs.whole.with_written.Goals as goal

-- the copy of the next written feature is after the others
pub loop-place-preserved : goal.loop-place-preserved
loop-place-preserved c =
    let written = c.args.written.now in
    let i = c.loop-place.place in
    let f = c.index-written-place.result in
    let copy = c.in_ok-copy_feature.field-0 in
    let same = subst (λ (g : Feature). copy ≡ g) c.index-written-place.is c.in_ok-copy_feature.ensures in
    subst (λ (features : List Feature). All (Wins features) (take (i + 1) written)) (sym c.in_ok-push.ensures.ok)
    (wins_copied c.loop-place.features copy written i f c.loop-place-test.true c.loop-place.invariant same)

pub returns : goal.returns
returns c = subst (All (Wins c.loop-place.features)) (take_all c.loop-place.place c.args.written.now c.loop-place-test.false) c.loop-place.invariant
