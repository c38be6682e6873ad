use Rattle.std.proofs.Common.{pos, neg_ℤ, ◌≤ℤ◌, ◌<ℤ◌, w64, FitsSigned, to_z, inl, inr, arith, rules}
use Rattle.std.proofs.lemmas.Grind.{common_steps}
use Rattle.std.proofs.lemmas.Int.{ints, to_z-of_z, by_lt_z}
use Rattle.wa_syntax.proofs.Shortest.{IsLong, IsWrittenSigned-more, IsWrittenSigned-last, IsShortest-from_short_signed}
use Rattle.wa_syntax.proofs.leb128.signed_bytes.Goals as goal

pub loop-rest-preserved : goal.loop-rest-preserved
loop-rest-preserved c =
    let long : IsLong (to_z w64 c.loop-rest.rest-bits) = by_lt_z (to_z w64 c.loop-rest.rest-bits) (neg_ℤ (pos 64)) (λ low. inl low) (λ from. by_lt_z (to_z w64 c.loop-rest.rest-bits) (pos 64) (λ below. absurd (grind (arith, ints, common_steps, c.loop-rest-test.ensures.value))) (λ high. inr high)) in
    let high : FitsSigned w64 c.split-high.result.0 = search rules in
    rw (to_z-of_z w64 c.split-high.result.0 high) (IsWrittenSigned-more _ _ _ _ _ _ long c.split-high.ensures.low c.split-high.ensures.whole c.loop-rest.invariant)

pub returns-clause-shortest : goal.returns-clause-shortest
returns-clause-shortest c = λ bits from below.
    let low : neg_ℤ (pos 64) ≤ℤ to_z w64 c.loop-rest.rest-bits = search (rules, ints, c.loop-rest-test.ensures.cases) in
    let high : to_z w64 c.loop-rest.rest-bits <ℤ pos 64 = search (rules, ints, c.loop-rest-test.ensures.cases) in
    let written = IsWrittenSigned-last _ _ _ _ c.split-low.result.0 _ low high c.split-low.ensures.low c.split-low.ensures.whole c.loop-rest.invariant in
    IsShortest-from_short_signed bits _ _ (record { from = from; below = below }) (rw (to_z-of_z w64 c.args.v c.ranges.v) at written)
