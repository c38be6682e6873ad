use Rattle.std.proofs.Common.{◌≡◌, ◌-◌, ◌+◌, ◌++◌, List, ℕ, length, take, drop, arith, subst}
use Rattle.std.proofs.lemmas.Grind.{common_steps}
use Rattle.std.proofs.Math.Seq.{take-add}
use Rattle.std.proofs.KnownBytes.{Appends-trans}
use Rattle.std.specs.Io.KnownBytes.{Appends}
use Rattle.host_io.proofs.streams.write_all.Goals as goal

continued : (bytes : List ℕ) (n m : ℕ) → take n bytes ++ take m (take (length bytes - n) (drop n bytes)) ≡ take (n + m) bytes
continued bytes n m = grind (arith, common_steps, take-add)

pub loop-written-preserved : goal.loop-written-preserved
loop-written-preserved g c =
    let bytes = c.args.bytes.now in
    let written = c.loop-written.written in
    let count = c.in_ok-written.field-0 in
    let before = g.W.Write.contents c.args.writer.now in
    let after = g.W.Write.contents c.write_some.new.writer in
    record {
      within = omega (arith, c.in_ok-written.ensures.count);
      front = subst (λ front. Appends before after front) (continued bytes written count)
          (Appends-trans before (g.W.Write.contents c.loop-written.writer) after _ _ c.loop-written.invariant.front c.in_ok-written.ensures.bytes);
    }
