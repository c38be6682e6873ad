-- A protect, with the statements of its `else` or without.
use Rattle.std.proofs.Common.{ap, arith}
use Rattle.sa_typed.specs.Nodes.{stmt_nodes}
use Rattle.sa_typed.proofs.Copies.{protect_of-None, protect_of-Some}
use Rattle.sa_typed.proofs.count.+count_stmt.Goals as goal

pub count_stmt-returns-in-Some-other : goal.count_stmt-returns-in-Some-other
count_stmt-returns-in-Some-other t c =
    grind (arith, ap stmt_nodes (protect_of-Some c.args.stmt.now _ _ _ _ c.in-Protect.is c.in-Some-other.is))

pub count_stmt-returns-in-None-other : goal.count_stmt-returns-in-None-other
count_stmt-returns-in-None-other t c =
    grind (arith, ap stmt_nodes (protect_of-None c.args.stmt.now _ _ _ c.in-Protect.is c.in-None-other.is))
