use Rattle.std.proofs.Common.{◌≡◌, drop, slice_get}
use Rattle.wa_syntax.specs.Locals.{types_of_runs}
use Rattle.wa_syntax.proofs.locals.type_at.Given as goal

abbrev pub invariant-loop-run : goal.invariant-loop-run
invariant-loop-run l = slice_get (types_of_runs (drop l.run-index l.runs)) l.rest ≡ slice_get (types_of_runs l.runs) l.at
