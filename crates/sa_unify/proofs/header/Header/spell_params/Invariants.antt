use Rattle.std.proofs.Common.{◌≡◌, ◌++◌}
use Rattle.sa_unify.specs.Spelled.{variables}
use Rattle.sa_unify.proofs.header.Header.spell_params.Given as goal

abbrev pub invariant-loop-number : goal.invariant-loop-number
invariant-loop-number l = l.out.items ≡ l.initial.out.items ++ variables l.number
