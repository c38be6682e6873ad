use Rattle.std.proofs.Common.{◌≡◌, take}
use Rattle.std.specs.Prelude.{cond, count_by}
use Rattle.sa_include_names.specs.Includes.{brings_array}
use Rattle.sa_include_names.specs.Tables.{number_in}
use Rattle.sa_include_names.proofs.order.Includes.second_with_array.Given as goal

abbrev pub invariant-loop-clause : goal.invariant-loop-clause
invariant-loop-clause l = count_by (brings_array (number_in l.self.numbers) l.self.arrays.items) (take l.clause l.includes) ≡ cond l.one 1 0
