use Rattle.std.proofs.lemmas.Result.{on_ok_weaker}
use Rattle.wa_encode.proofs.Adding.{Adds-following}
use Rattle.wa_encode.proofs.instruction.constant_expression.Goals as goal

pub returns-in_ok-i32_const-in-Const32 : goal.returns-in_ok-i32_const-in-Const32
returns-in_ok-i32_const-in-Const32 c = rw c.in-Const32.is (on_ok_weaker _ (λ last. Adds-following c.in_ok-i32_const-in-Const32.ensures last) c.byte.ensures)

pub returns-in_ok-i64_const-in-Const64 : goal.returns-in_ok-i64_const-in-Const64
returns-in_ok-i64_const-in-Const64 c = rw c.in-Const64.is (on_ok_weaker _ (λ last. Adds-following c.in_ok-i64_const-in-Const64.ensures last) c.byte-in-Const64.ensures)

pub returns-in_ok-indexed-in-Global : goal.returns-in_ok-indexed-in-Global
returns-in_ok-indexed-in-Global c = rw c.in-Global.is (on_ok_weaker _ (λ last. Adds-following c.in_ok-indexed-in-Global.ensures last) c.byte-in-Global.ensures)
