use Rattle.std.proofs.Common.{◌+◌, refl, ap, ◌∙◌, arith}
use Rattle.sa_dispatch.proofs.Numbered.{kept-push}
use Rattle.sa_dispatch.proofs.table.ImplementationTable.add.Goals as goal

pub invariant_of-self-2 : goal.invariant_of-self-2
invariant_of-self-2 c = rw c.in_ok-push.ensures.ok (kept-push _ _ _ _ c.self.invariant c.requires refl (c.in_ok-count.ensures.sum ∙ ap (λ n. c.self.inside.count + n) c.len.ensures) (omega arith) (omega arith))
