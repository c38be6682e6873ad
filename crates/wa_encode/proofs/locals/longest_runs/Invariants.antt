use Rattle.std.proofs.Common.{◌≡◌, ◌++◌, ◌∷◌, [], take}
use Rattle.wa_syntax.specs.Locals.{types_of_runs}
use Rattle.wa_encode.specs.Spelling.{AreLongestTo}
use Rattle.wa_encode.proofs.locals.longest_runs.Given as goal

abbrev pub invariant-loop-run : goal.invariant-loop-run
invariant-loop-run l = record {
  same : types_of_runs (l.longest.items ++ l.last ∷ []) ≡ types_of_runs (take l.run-index l.runs);
  longest : AreLongestTo l.longest.items l.last;
}
