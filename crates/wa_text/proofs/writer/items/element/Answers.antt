use Rattle.wa_text.specs.Words.{u32}
use Rattle.wa_text.proofs.Adding.{Adds-each-called, Adds-then, Ok-line}
use Rattle.wa_text.proofs.writer.items.element.Goals as goal

pub returns : goal.returns
returns c =
    Ok-line _ _ _ _ _ _ _ c.in_ok-first.ensures (Adds-then c.in_ok-index.ensures (Adds-then c.in_ok-initial_value.ensures (Adds-each-called u32 _ _ _ _ _ c.as_slice.ensures (λ old shown new k. k) c.in_ok-each.ensures))) c.end_line.ensures
