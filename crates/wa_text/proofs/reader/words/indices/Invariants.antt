use Rattle.std.proofs.Common.{take}
use Rattle.wa_text.specs.Forms.{each}
use Rattle.wa_text.specs.Reading.{texts}
use Rattle.wa_text.specs.Words.{u32}
use Rattle.wa_text.proofs.reader.words.indices.Given as goal

-- the indices of the words so far
abbrev pub invariant-loop-word : goal.invariant-loop-word
invariant-loop-word l = each u32 l.numbers (take l.word-index (texts l.words))
