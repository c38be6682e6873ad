use Rattle.std.proofs.Common.{arith}
use Rattle.wa_text.proofs.NoWords.{too_large}
use Rattle.wa_text.proofs.reader.words.index.Goals as goal

pub returns-else-n : goal.returns-else-n
returns-else-n c = too_large c.args.word.now c.in_ok-n.n c.in_ok-n.ensures (omega arith)
