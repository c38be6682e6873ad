use Rattle.std.proofs.Common.{[], sym}
use Rattle.std.proofs.lemmas.Result.{on_ok_weaker}
use Rattle.wa_syntax.specs.Formats.{u32}
use Rattle.wa_encode.proofs.Adding.{Adds-between}
use Rattle.wa_encode.proofs.Productions.{Adds-section}
use Rattle.wa_encode.proofs.module.start.Goals as goal

pub returns : goal.returns
returns c =
    let content = Adds-between [] c.as_slice.result.now c.new-content.ensures.items (sym c.as_slice.ensures.value) c.in_ok-number.ensures in
    rw c.in-Some.is (on_ok_weaker _ (Adds-section 8 (u32 c.in-Some.func) _ _ _ content) c.section.ensures)
