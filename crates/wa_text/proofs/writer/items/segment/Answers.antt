use Rattle.std.proofs.Common.{List, ℕ, subst}
use Rattle.wa_text.specs.Words.{bytes}
use Rattle.wa_text.specs.Writing.{AddsWords}
use Rattle.wa_text.proofs.Adding.{Adds-then, Ok-line}
use Rattle.wa_text.proofs.writer.items.segment.Goals as goal

pub returns : goal.returns
returns c =
    Ok-line _ _ _ _ _ _ _ c.in_ok-first.ensures (Adds-then c.in_ok-index.ensures (Adds-then c.in_ok-initial_value.ensures (subst (λ (content : List ℕ). AddsWords (bytes content) c.initial_value.new.out.items c.bytes.new.out.items) c.as_slice.ensures c.in_ok-bytes.ensures))) c.end_line.ensures
