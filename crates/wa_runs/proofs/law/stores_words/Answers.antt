use Rattle.wa_runs.proofs.Words.{word-same, word-apart, length-with_word}
use Rattle.wa_runs.proofs.law.stores_words.Goals as goal

pub returns : goal.returns
returns c = record { same = word-same; apart = word-apart; size = length-with_word }
