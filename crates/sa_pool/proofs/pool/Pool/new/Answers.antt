use Rattle.sa_pool.proofs.Moves.{made, none-live, all-slots}
use Rattle.sa_pool.proofs.pool.Pool.new.Goals as goal

pub invariant_of-result : goal.invariant_of-result
invariant_of-result g c = made (g.M.WordMem.words c.args.mem) _ c.args.slot_words c.requires.some c.requires.room c.store.ensures

pub returns-clause-none : goal.returns-clause-none
returns-clause-none g c = none-live (g.M.WordMem.words c.args.mem) _ c.args.slot_words c.requires.some c.requires.room c.store.ensures

pub returns-clause-all : goal.returns-clause-all
returns-clause-all g c =
    all-slots (g.M.WordMem.words c.store.new.self) c.args.slot_words
    (made (g.M.WordMem.words c.args.mem) _ c.args.slot_words c.requires.some c.requires.room c.store.ensures)
