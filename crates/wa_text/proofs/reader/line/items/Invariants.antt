use Rattle.std.proofs.Common.{◌-◌, ◌≤◌, length}
use Rattle.wa_text.specs.Forms.{◌then◌, each}
use Rattle.wa_text.specs.Reading.{Spelled}
use Rattle.wa_text.specs.Words.{line, word}
use Rattle.wa_text.proofs.reader.line.items.Given as goal

abbrev pub invariant-loop-alloc : goal.invariant-loop-alloc
invariant-loop-alloc g l = record {
  forward : l.fn.at ≤ l.at;
  within : l.at ≤ length l.text;
  row : Spelled (each (λ value. line (word l.first then g.P.LineForm.form value)) l.items) l.text l.fn.at l.at;
}

abbrev pub decreases-loop-alloc : goal.decreases-loop-alloc
decreases-loop-alloc g l = length l.text - l.at
