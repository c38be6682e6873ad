use Rattle.std.proofs.Common.{ℕ, List, drop}
use Rattle.std.specs.List.{FoldsTo}
use Rattle.wa_encode.specs.Spelling.{Leaves}
use Rattle.wa_encode.proofs.value.vector.Given as goal

abbrev pub invariant-loop-value : goal.invariant-loop-value
invariant-loop-value g l =
    (last : List ℕ)
    → FoldsTo (Leaves (goal.F-post g l.entry)) l.out.items (drop l.value-index l.entries) last
    → FoldsTo (Leaves (goal.F-post g l.entry)) l.initial.out.items l.entries last
