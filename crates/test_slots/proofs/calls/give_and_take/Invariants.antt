use Rattle.test_slots.specs.Flags.{AreLive}
use Rattle.test_slots.proofs.calls.give_and_take.Given as goal

abbrev pub invariant-loop : goal.invariant-loop
invariant-loop l = AreLive l.pool.live l.flags
