use Rattle.std.proofs.Common.{length, sym, ap, ◌∙◌}
use Rattle.sa_pool.specs.Head.{live_of}
use Rattle.sa_pool.specs.Slots.{Slots}
use Rattle.sa_pool.proofs.Moves.{live-count}
use Rattle.sa_pool.proofs.pool.Pool.live.Goals as goal

pub returns : goal.returns
returns g c =
    c.from.ensures
    ∙ sym c.of.ensures.live_is
    ∙ ap live_of c.load.ensures
    ∙ sym (live-count (g.M.WordMem.words c.self.inside.mem) c.self.inside.slot_words c.self.invariant)
    ∙ ap (λ (v : Slots). length v.live) c.self.view_is
