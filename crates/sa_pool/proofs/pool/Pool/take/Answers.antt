use Rattle.std.proofs.Common.{rules, ℕ, ◌-◌, ◌<◌, ◌≤◌, length, refl, sym, ap, subst, ◌∙◌, arith}
use Rattle.sa_pool.specs.Slots.{Slots, AreAllSlots}
use Rattle.sa_pool.specs.Chain.{slots_of}
use Rattle.sa_pool.specs.Changes.{GoesLive}
use Rattle.sa_pool.proofs.ChainLemmas.{start-below, top-below}
use Rattle.sa_pool.proofs.Moves.{Moved, pool-by, take-chained, next-below, take-unused, all-live, not-all-live, goes-live, all-slots}
use Rattle.sa_pool.proofs.pool.Pool.take.Given.{Over}
use Rattle.sa_pool.proofs.pool.Pool.take.Goals as goal

-- ---- the first slot of the chain

pub start-requires-clause-below : goal.start-requires-clause-below
start-requires-clause-below g c =
    let below : c.of-head.result.top ≤ 10000 = top-below _ _ _ _ _ (pool-by _ _ _ _ _ _ c.load.ensures c.of-head.ensures c.self.invariant) in
    let some : 0 < c.of-head.result.top = c.if-head-gt0.true in
    omega arith

pub load-next-requires : goal.load-next-requires
load-next-requires g c =
    let below : c.of-head.result.top ≤ 10000 = top-below _ _ _ _ _ (pool-by _ _ _ _ _ _ c.load.ensures c.of-head.ensures c.self.invariant) in
    let some : 0 < c.of-head.result.top = c.if-head-gt0.true in
    subst (λ (n : ℕ). n < length (g.M.WordMem.words c.self.inside.mem)) (sym c.start.ensures)
    (start-below (c.of-head.result.top - 1) c.self.inside.slot_words _ (omega arith) c.self.invariant.some c.self.invariant.room)

pub overflow_cast-after : goal.overflow_cast-after
overflow_cast-after g c =
    let below : c.load-next.result ≤ 10000 = next-below _ _ _ _ _ _ _ _ c.load.ensures c.of-head.ensures c.self.invariant c.if-head-gt0.true c.start.ensures c.load-next.ensures in
    search rules

-- it is free before the call alone
chained : (g : Over) (c : goal.After-from g) → Moved (g.M.WordMem.words c.self.inside.mem) (g.M.WordMem.words c.store.new.self) c.self.inside.slot_words (c.of-head.result.top - 1)
chained g c =
    take-chained _ _ _ _ _ _ _ _ _ _ c.load.ensures c.of-head.ensures c.self.invariant c.if-head-gt0.true c.start.ensures c.load-next.ensures c.store.ensures c.word.ensures

pub invariant_of-self : goal.invariant_of-self
invariant_of-self g c = (chained g c).pool

pub returns-then-head-gt0-clause-none : goal.returns-then-head-gt0-clause-none
returns-then-head-gt0-clause-none g c =
    (λ h. cc, λ full. absurd (not-all-live _ _ _ _ (chained g c) (ap (λ (v : Slots). length v.live) c.self.view_is ∙ full)))

pub returns-then-head-gt0-clause-taken : goal.returns-then-head-gt0-clause-taken
returns-then-head-gt0-clause-taken g c =
    subst (λ (n : ℕ). GoesLive c.args.self.now (slots_of (g.M.WordMem.words c.store.new.self) c.self.inside.slot_words) n) (sym c.from.ensures)
    (subst (λ (v : Slots). GoesLive v (slots_of (g.M.WordMem.words c.store.new.self) c.self.inside.slot_words) (c.of-head.result.top - 1)) c.self.view_is
    (goes-live _ _ _ _ (chained g c)))

pub returns-then-head-gt0-clause-all : goal.returns-then-head-gt0-clause-all
returns-then-head-gt0-clause-all g c = all-slots _ _ (chained g c).pool

-- ---- no slot

pub returns-then-head-eq-SLOTS-clause-none : goal.returns-then-head-eq-SLOTS-clause-none
returns-then-head-eq-SLOTS-clause-none g c =
    let full = all-live (g.M.WordMem.words c.self.inside.mem) c.self.inside.slot_words _ _ _ _ c.load.ensures c.of-head.ensures c.self.invariant c.if-head-gt0.false c.if-head-eq-SLOTS.true in
    (λ h. sym (ap (λ (v : Slots). length v.live) c.self.view_is) ∙ full, λ h. refl)

pub returns-then-head-eq-SLOTS-clause-all : goal.returns-then-head-eq-SLOTS-clause-all
returns-then-head-eq-SLOTS-clause-all g c =
    subst (λ (v : Slots). AreAllSlots v.free v.live) c.self.view_is (all-slots (g.M.WordMem.words c.self.inside.mem) c.self.inside.slot_words c.self.invariant)

-- ---- the first slot that was never taken

unused : (g : Over) (c : goal.After-from-2 g) → Moved (g.M.WordMem.words c.self.inside.mem) (g.M.WordMem.words c.store-2.new.self) c.self.inside.slot_words c.of-head.result.used
unused g c =
    take-unused _ _ _ _ _ _ _ _ c.load.ensures c.of-head.ensures c.self.invariant c.if-head-gt0.false c.if-head-eq-SLOTS.false c.store-2.ensures c.word-2.ensures

pub invariant_of-self-2 : goal.invariant_of-self-2
invariant_of-self-2 g c = (unused g c).pool

pub returns-clause-none : goal.returns-clause-none
returns-clause-none g c =
    (λ h. cc, λ full. absurd (not-all-live _ _ _ _ (unused g c) (ap (λ (v : Slots). length v.live) c.self.view_is ∙ full)))

pub returns-clause-taken : goal.returns-clause-taken
returns-clause-taken g c =
    subst (λ (n : ℕ). GoesLive c.args.self.now (slots_of (g.M.WordMem.words c.store-2.new.self) c.self.inside.slot_words) n) (sym c.from-2.ensures)
    (subst (λ (v : Slots). GoesLive v (slots_of (g.M.WordMem.words c.store-2.new.self) c.self.inside.slot_words) c.of-head.result.used) c.self.view_is
    (goes-live _ _ _ _ (unused g c)))

pub returns-clause-all : goal.returns-clause-all
returns-clause-all g c = all-slots _ _ (unused g c).pool
