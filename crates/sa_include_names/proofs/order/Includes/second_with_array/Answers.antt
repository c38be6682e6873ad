use Rattle.std.proofs.Common.{arith}
use Rattle.sa_include_names.specs.Includes.{brings_array}
use Rattle.sa_include_names.specs.Tables.{number_in}
use Rattle.sa_include_names.proofs.Seconds.{second-is}
use Rattle.sa_include_names.proofs.order.Includes.second_with_array.Goals as goal

pub returns-then-one : goal.returns-then-one
returns-then-one c =
    second-is (brings_array (number_in c.args.self.now.numbers) c.args.self.now.arrays.items) c.args.includes.now c.loop-clause.clause c.index-includes-clause.result c.loop-clause.one c.has_array.result
    (omega arith) c.index-includes-clause.is c.has_array.ensures c.if-has_array.true c.loop-clause.invariant c.if-one.true
