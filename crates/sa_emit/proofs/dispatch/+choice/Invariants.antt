-- The level of the dispatch.
use Rattle.sa_emit.proofs.dispatch.+choice.Given as goal

abbrev pub decreases-emit_dispatch : goal.decreases-emit_dispatch
decreases-emit_dispatch l = l.level
