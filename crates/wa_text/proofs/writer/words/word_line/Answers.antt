use Rattle.std.proofs.lemmas.Result.{on_ok_weaker}
use Rattle.wa_text.specs.Words.{word}
use Rattle.wa_text.proofs.Adding.{Adds-word_line}
use Rattle.wa_text.proofs.writer.words.word_line.Goals as goal

pub returns : goal.returns
returns c =
    on_ok_weaker _ (Adds-word_line (word c.args.word.now) c.args.word.now _ _ _ (λ other same. same) c.in_ok-first.ensures) c.end_line.ensures
