use Rattle.std.proofs.Common.{◌≡◌, drop}
use Rattle.std.specs.List.{find}
use Rattle.std.specs.Str.{bytes_eq}
use Rattle.sa_lexer.specs.declared.word.Word.{Word}
use Rattle.sa_lexer.specs.Words.{word_text}
use Rattle.sa_lexer.proofs.name.first_spelled.Given as goal

abbrev pub invariant-loop-word : goal.invariant-loop-word
invariant-loop-word l =
    let is_spelled_so = λ (word : Word). bytes_eq l.name (word_text word) in
    find is_spelled_so l.words ≡ find is_spelled_so (drop l.word-index l.words)
