use Rattle.std.proofs.Common.{Bool, List, sym, subst}
use Rattle.test_slots.specs.Flags.{AreLive}
use Rattle.test_slots.proofs.FlagLemmas.{flag-taken}
use Rattle.test_slots.proofs.calls.take.Goals as goal

pub returns-in-Some : goal.returns-in-Some
returns-in-Some c =
    subst (λ (flags : List Bool). AreLive c.take.new.self.live flags) (sym c.set.ensures)
    (flag-taken _ _ _ _ c.in-Some.ensures.taken c.requires)
