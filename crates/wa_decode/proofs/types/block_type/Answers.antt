use Rattle.std.proofs.Common.{sym, ◌∙◌}
use Rattle.wa_decode.proofs.Reading.{one_byte-none}
use Rattle.wa_decode.proofs.TypeParts.{blocktype-byte, blocktype-none}
use Rattle.wa_decode.proofs.types.block_type.Goals as goal

pub returns-else-byte-eq-EMPTY-clause-reads : goal.returns-else-byte-eq-EMPTY-clause-reads
returns-else-byte-eq-EMPTY-clause-reads c =
    one_byte-none blocktype-byte c.in_ok-byte.ensures.reads
    (blocktype-none _ _ c.value_type-ty.ensures.complete (sym c.is_some.ensures ∙ c.if-byte-eq-EMPTY.false.0) c.if-byte-eq-EMPTY.false.1)
