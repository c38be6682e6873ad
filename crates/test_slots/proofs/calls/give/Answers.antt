use Rattle.std.proofs.Common.{Bool, List, sym, subst}
use Rattle.test_slots.specs.Flags.{AreLive}
use Rattle.test_slots.proofs.FlagLemmas.{flag-given}
use Rattle.test_slots.proofs.calls.give.Goals as goal

pub returns : goal.returns
returns c =
    subst (λ (flags : List Bool). AreLive c.give.new.self.live flags) (sym c.set.ensures)
    (flag-given _ _ _ _ c.give.ensures.given c.requires.live)
