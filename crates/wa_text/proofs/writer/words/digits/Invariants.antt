use Rattle.std.proofs.Common.{◌≡◌, ◌++◌, drop}
use Rattle.hex.specs.Hex.{encode_lower}
use Rattle.wa_text.proofs.writer.words.digits.Given as goal

-- the digits so far, and those of the bytes that are left
abbrev pub invariant-loop-byte : goal.invariant-loop-byte
invariant-loop-byte l =
    l.out.items ++ encode_lower (drop l.byte-index l.bytes) ≡ l.initial.out.items ++ encode_lower l.bytes
