use Rattle.std.proofs.Common.{ℕ, List, drop}
use Rattle.std.specs.List.{FoldsTo}
use Rattle.wa_text.specs.Writing.{Leaves}
use Rattle.wa_text.proofs.writer.words.each.Given as goal

abbrev pub invariant-loop-value : goal.invariant-loop-value
invariant-loop-value g l =
    (last : List ℕ)
    → FoldsTo (Leaves (goal.F-post g l.write)) l.out.items (drop l.value-index l.values) last
    → FoldsTo (Leaves (goal.F-post g l.write)) l.initial.out.items l.values last
