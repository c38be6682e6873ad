use Rattle.std.proofs.Common.{rules, ℕ, ◌<◌, length, sym, ap, subst, ◌∙◌}
use Rattle.sa_pool.specs.Head.{live_of}
use Rattle.sa_pool.specs.Slots.{Slots}
use Rattle.sa_pool.specs.Chain.{slots_of}
use Rattle.sa_pool.specs.Changes.{GoesLive, KeepsLive}
use Rattle.sa_pool.proofs.ChainLemmas.{start-below}
use Rattle.sa_pool.proofs.Moves.{Moved, live-slot, give-back, give-keeps, goes-live, all-slots}
use Rattle.sa_pool.proofs.pool.Pool.give.Given.{Over}
use Rattle.sa_pool.proofs.pool.Pool.give.Goals as goal

pub overflow_cast-slot : goal.overflow_cast-slot
overflow_cast-slot g c =
    let below : c.args.slot < 10000 = (live-slot _ _ c.args.slot _ c.self.invariant c.self.view_is c.requires).0 in
    search rules

pub start-requires-clause-below : goal.start-requires-clause-below
start-requires-clause-below g c = (live-slot _ _ c.args.slot _ c.self.invariant c.self.view_is c.requires).0

pub store-requires : goal.store-requires
store-requires g c =
    let below : c.args.slot < 10000 = (live-slot _ _ c.args.slot _ c.self.invariant c.self.view_is c.requires).0 in
    subst (λ (n : ℕ). n < length (g.M.WordMem.words c.self.inside.mem)) (sym c.start.ensures)
    (start-below c.args.slot c.self.inside.slot_words _ below c.self.invariant.some c.self.invariant.room)

pub overflow_add-after : goal.overflow_add-after
overflow_add-after g c =
    let below : c.args.slot < 10000 = (live-slot _ _ c.args.slot _ c.self.invariant c.self.view_is c.requires).0 in
    search rules

pub overflow_sub-after : goal.overflow_sub-after
overflow_sub-after g c =
    subst (λ (n : ℕ). 0 < n) (ap live_of (sym c.load.ensures) ∙ c.of-head.ensures.live_is)
    (live-slot _ _ c.args.slot _ c.self.invariant c.self.view_is c.requires).2

-- the slot is free after the call alone
moved : (g : Over) (c : goal.After-store-2 g) → Moved (g.M.WordMem.words c.store-2.new.self) (g.M.WordMem.words c.self.inside.mem) c.self.inside.slot_words c.args.slot
moved g c =
    give-back _ _ _ _ _ _ _ _ _ _ _ _ _ c.load.ensures c.of-head.ensures c.self.invariant c.self.view_is c.requires c.start.ensures c.from.ensures c.store.ensures c.store-2.ensures c.word.ensures

pub invariant_of-self : goal.invariant_of-self
invariant_of-self g c = (moved g c).before

pub returns-clause-given : goal.returns-clause-given
returns-clause-given g c =
    subst (λ (v : Slots). GoesLive (slots_of (g.M.WordMem.words c.store-2.new.self) c.self.inside.slot_words) v c.args.slot) c.self.view_is
    (goes-live _ _ _ _ (moved g c))

pub returns-clause-kept : goal.returns-clause-kept
returns-clause-kept g c =
    subst (λ (v : Slots). KeepsLive v (slots_of (g.M.WordMem.words c.store-2.new.self) c.self.inside.slot_words)) c.self.view_is
    (give-keeps _ _ _ _ _ _ _ _ (moved g c) c.start.ensures c.store.ensures c.store-2.ensures)

pub returns-clause-all : goal.returns-clause-all
returns-clause-all g c = all-slots _ _ (moved g c).before
