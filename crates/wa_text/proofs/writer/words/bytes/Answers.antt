use Rattle.std.proofs.Common.{◌≡◌, ◌≢◌, [], arith}
use Rattle.std.proofs.lemmas.Grind.{common_steps}
use Rattle.std.proofs.lemmas.Result.{on_ok_weaker}
use Rattle.wa_text.proofs.Productions.{Adds-bytes, Adds-no_bytes}
use Rattle.wa_text.proofs.writer.words.bytes.Goals as goal

pub returns-then-is_empty : goal.returns-then-is_empty
returns-then-is_empty c =
    let empty : c.args.bytes.now ≡ [] = grind (arith, common_steps) in
    on_ok_weaker _ (Adds-no_bytes c.args.bytes.now _ _ empty) c.word.ensures

pub returns : goal.returns
returns c =
    let some : c.args.bytes.now ≢ [] = grind (arith, common_steps) in
    on_ok_weaker _ (Adds-bytes c.args.bytes.now _ _ _ some c.in_ok-push.ensures.items) c.digits.ensures
