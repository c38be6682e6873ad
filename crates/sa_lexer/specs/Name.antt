-- Names.
use Rattle.std.specs.Prelude.{not, ℕ, ◌+◌, Bool, ◌&&◌, List, [], ◌∷◌, length, drop}
use Rattle.std.specs.Prelude.{Option, Some, None, Result, Ok, Err, nat_lt, if◌then◌else◌}
use Rattle.std.specs.List.{take_while, list_any}
use Rattle.std.specs.Char.{is_ascii_alphabetic, is_ascii_lowercase}
use Rattle.sa_lexer.specs.Bytes.{is_name_byte, begins_with}
use Rattle.sa_lexer.specs.declared.token.TokenKind.{TokenKind}
use Rattle.sa_lexer.specs.declared.token.TokenKind.TheVariants as token
use Rattle.sa_lexer.specs.declared.word.Word.{Word}
use Rattle.sa_lexer.specs.Words.{word_spelled}
use Rattle.sa_lexer.specs.declared.scan_result.ScannedToken.{ScannedToken}
use Rattle.sa_lexer.specs.declared.scan_result.Fault.{Fault}
use Rattle.sa_ast.specs.declared.rule.Rule.TheVariants as rule

-- the longest name at the front, or nothing: a letter, and letters, digits and `_`
unfoldable pub name_at : List ℕ → List ℕ
name_at [] = []
name_at (b ∷ bs) = if is_ascii_alphabetic b then b ∷ take_while is_name_byte bs else []

abbrev pub has_lower : List ℕ → Bool
has_lower name = list_any is_ascii_lowercase name

-- the word, if there is one, or else a token of this kind
abbrev pub word_or : TokenKind → Option Word → TokenKind
word_or kind (Some word) = token.Word word
word_or kind None = kind

-- a name is a word, or else a class name if it has no lower-case letter
unfoldable pub kind_of_name : List ℕ → TokenKind
kind_of_name name = word_or (if has_lower name then token.Lower else token.ClassName) (word_spelled name)

-- a name with a lower-case letter, and `!` directly after it: no such name is a word
abbrev pub is_iter_name : List ℕ → List ℕ → Bool
is_iter_name name following = begins_with 0x21 following && has_lower name

-- the token of the name at the front
unfoldable pub name_token : List ℕ → ScannedToken
name_token bs =
    let name = name_at bs in
    if is_iter_name name (drop (length name) bs)
    then record { kind = token.IterName; len = length name + 1 }
    else record { kind = kind_of_name name; len = length name }

-- the longest class's name at the front, or nothing: the name there, up to its first lower-case letter
unfoldable pub class_name_at : List ℕ → List ℕ
class_name_at bs = take_while (λ b. not (is_ascii_lowercase b)) (name_at bs)

-- the token of a `$`, of which the bytes after it are given: it comes directly before a class's name
unfoldable pub abstract_token : List ℕ → Result ScannedToken Fault
abstract_token bs =
    let name = class_name_at bs in
    if nat_lt 0 (length name)
    then Ok (record { kind = token.AbstractName; len = 1 + length name })
    else Err (record { rule = rule.BadByte; offset = 0 })
