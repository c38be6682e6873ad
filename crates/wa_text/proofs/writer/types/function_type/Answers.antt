use Rattle.wa_text.specs.Words.{val}
use Rattle.wa_text.proofs.Adding.{Adds-each-called, Adds-then, Ok-line}
use Rattle.wa_text.proofs.writer.types.function_type.Goals as goal

pub returns : goal.returns
returns c =
    Ok-line _ _ _ _ _ _ _ c.in_ok-first.ensures
    (Adds-then (Adds-each-called val _ _ _ _ _ c.as_slice.ensures (λ old shown new k. k) c.in_ok-each.ensures)
    (Adds-then c.in_ok-word.ensures (Adds-each-called val _ _ _ _ _ c.as_slice-2.ensures (λ old shown new k. k) c.in_ok-each-2.ensures)))
    c.end_line.ensures
