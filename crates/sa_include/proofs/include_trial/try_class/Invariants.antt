use Rattle.std.proofs.Common.{take}
use Rattle.std.specs.List.{All}
use Rattle.sa_include_names.specs.Tables.{number_in}
use Rattle.sa_include.specs.Included.{BringsAll}
use Rattle.sa_include.proofs.include_trial.try_class.Given as goal

abbrev pub invariant-loop-clause : goal.invariant-loop-clause
invariant-loop-clause l = All (BringsAll (number_in l.includes.numbers) l.whole l.made) (take l.clause-index l.clauses)
