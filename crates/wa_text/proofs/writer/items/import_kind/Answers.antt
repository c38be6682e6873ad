use Rattle.wa_text.proofs.Adding.{Adds-last}
use Rattle.wa_text.proofs.writer.items.import_kind.Goals as goal

pub returns-in_ok-word-in-Func : goal.returns-in_ok-word-in-Func
returns-in_ok-word-in-Func c =
    rw c.in-Func.is (Adds-last _ _ _ c.in_ok-word-in-Func.ensures c.index.ensures)

pub returns-in_ok-word-in-Table : goal.returns-in_ok-word-in-Table
returns-in_ok-word-in-Table c =
    rw c.in-Table.is (Adds-last _ _ _ c.in_ok-word-in-Table.ensures c.limits.ensures)

pub returns-in_ok-word-in-Memory : goal.returns-in_ok-word-in-Memory
returns-in_ok-word-in-Memory c =
    rw c.in-Memory.is (Adds-last _ _ _ c.in_ok-word-in-Memory.ensures c.limits-in-Memory.ensures)

pub returns-in_ok-word-in-Global : goal.returns-in_ok-word-in-Global
returns-in_ok-word-in-Global c =
    rw c.in-Global.is (Adds-last _ _ _ c.in_ok-word-in-Global.ensures c.global_type.ensures)
