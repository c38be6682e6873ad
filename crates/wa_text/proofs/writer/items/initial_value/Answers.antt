use Rattle.wa_text.proofs.Adding.{Adds-last}
use Rattle.wa_text.proofs.Productions.{Ok-bits}
use Rattle.wa_text.proofs.writer.items.initial_value.Goals as goal

pub returns-in_ok-word-in-Const32 : goal.returns-in_ok-word-in-Const32
returns-in_ok-word-in-Const32 c =
    rw c.in-Const32.is (Adds-last _ _ _ c.in_ok-word-in-Const32.ensures c.index.ensures)

pub returns-in_ok-word-in-Const64 : goal.returns-in_ok-word-in-Const64
returns-in_ok-word-in-Const64 c =
    rw c.in-Const64.is (Adds-last _ _ _ c.in_ok-word-in-Const64.ensures (Ok-bits _ 64 _ _ _ c.number.ensures))

pub returns-in_ok-word-in-Global : goal.returns-in_ok-word-in-Global
returns-in_ok-word-in-Global c =
    rw c.in-Global.is (Adds-last _ _ _ c.in_ok-word-in-Global.ensures c.index-in-Global.ensures)
