use Rattle.std.proofs.Common.{◌≡◌, ◌≤◌, take}
use Rattle.std.specs.Prelude.{All}
use Rattle.std.specs.List.Sorted.{IsNonDecreasingBy}
use Rattle.wa_syntax.specs.Locals.{types_of_runs}
use Rattle.wa_valid.specs.Ends.{types_of_ends}
use Rattle.wa_valid.proofs.Ends.{last_end}
use Rattle.wa_valid.proofs.locals.ends_of.Given as goal

abbrev pub invariant-loop-run : goal.invariant-loop-run
invariant-loop-run l = record {
  last : l.end ≡ last_end 0 l.ends.items;
  types : types_of_ends 0 l.ends.items ≡ types_of_runs (take l.run-index l.runs);
  sorted : IsNonDecreasingBy (λ run. run.end) l.ends.items;
  below : All (λ run. run.end ≤ l.end) l.ends.items;
}
