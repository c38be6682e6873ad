use Rattle.std.proofs.Common.{ℕ, ◌-◌, List, replicate}
use Rattle.wa_text.specs.Forms.{each}
use Rattle.wa_text.specs.Words.{val}
use Rattle.wa_text.specs.Writing.{AddsWords}
use Rattle.wa_text.proofs.writer.items.run.Given as goal

abbrev pub invariant-loop-written : goal.invariant-loop-written
invariant-loop-written l =
    (last : List ℕ)
    → AddsWords (each val (replicate (l.run.count - l._written) l.run.ty)) l.out.items last
    → AddsWords (each val (replicate l.run.count l.run.ty)) l.initial.out.items last
