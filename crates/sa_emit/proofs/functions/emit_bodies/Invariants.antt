use Rattle.sa_emit.proofs.Growing.{Leads}
use Rattle.sa_emit.proofs.functions.emit_bodies.Given as goal

abbrev pub invariant-loop-place : goal.invariant-loop-place
invariant-loop-place l = Leads l.initial.funcs l.bodies l.place l.funcs
