use Rattle.std.proofs.Common.{◌-◌, ◌≤◌, length}
use Rattle.wa_text.specs.Forms.{each}
use Rattle.wa_text.specs.Listing.{func}
use Rattle.wa_text.specs.Reading.{Spelled}
use Rattle.wa_text.proofs.reader.module.functions.Given as goal

abbrev pub invariant-loop-alloc : goal.invariant-loop-alloc
invariant-loop-alloc l = record {
  forward : l.fn.at ≤ l.at;
  within : l.at ≤ length l.text;
  row : Spelled (each func l.funcs) l.text l.fn.at l.at;
}

abbrev pub decreases-loop-alloc : goal.decreases-loop-alloc
decreases-loop-alloc l = length l.text - l.at
