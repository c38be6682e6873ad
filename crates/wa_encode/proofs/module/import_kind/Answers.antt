use Rattle.wa_encode.proofs.Adding.{Adds-last}
use Rattle.wa_encode.proofs.module.import_kind.Goals as goal

pub returns-in_ok-byte-in-Func : goal.returns-in_ok-byte-in-Func
returns-in_ok-byte-in-Func c = rw c.in-Func.is (Adds-last _ _ _ c.in_ok-byte-in-Func.ensures c.number.ensures)

pub returns-in_ok-byte-in-Table : goal.returns-in_ok-byte-in-Table
returns-in_ok-byte-in-Table c = rw c.in-Table.is (Adds-last _ _ _ c.in_ok-byte-in-Table.ensures c.table_type.ensures)

pub returns-in_ok-byte-in-Memory : goal.returns-in_ok-byte-in-Memory
returns-in_ok-byte-in-Memory c = rw c.in-Memory.is (Adds-last _ _ _ c.in_ok-byte-in-Memory.ensures c.limits.ensures)

pub returns-in_ok-byte-in-Global : goal.returns-in_ok-byte-in-Global
returns-in_ok-byte-in-Global c = rw c.in-Global.is (Adds-last _ _ _ c.in_ok-byte-in-Global.ensures c.global_type.ensures)
