-- Characters and texts.
use Rattle.std.specs.Prelude.{not, ℕ, zero, suc, ◌+◌, ◌-◌, Bool, ◌&&◌, ◌||◌, false, ◌==◌, List, [], ◌∷◌, length}
use Rattle.std.specs.Prelude.{take, Option, Some, None, option_map, Result, Ok, Err, nat_le, nat_lt, if◌then◌else◌}
use Rattle.std.specs.List.{take_while}
use Rattle.std.specs.Char.{is_digit}
use Rattle.sa_lexer.specs.declared.token.TokenKind.TheVariants.{Char, Text}
use Rattle.sa_lexer.specs.declared.scan_result.ScannedToken.{ScannedToken}
use Rattle.sa_lexer.specs.declared.scan_result.Fault.{Fault}
use Rattle.sa_ast.specs.declared.rule.Rule.TheVariants as rule
use Rattle.sa_lexer.specs.Number.{value_of}
use Rattle.sa_lexer.specs.declared.literal.Item.{Item}

-- how many bytes come before the closing quote on the line, where the first byte may be escaped by a `\` before it
unfoldable pub inside_len : ℕ → Bool → List ℕ → Option ℕ
inside_len quote escaped [] = None
inside_len quote escaped (b ∷ bs) =
    if b == 0x0A then None
    else (if not escaped && b == quote then Some 0
    else option_map suc (inside_len quote (not escaped && b == 0x5C) bs))

-- the bytes of `\a \b \f \n \r \t \v`, and the sign itself in `\\ \' \"`
unfoldable pub named_escape : List ℕ → Option ℕ
named_escape [] = None
named_escape (b ∷ bs) =
    if b == 0x61 then Some 0x07
    else (if b == 0x62 then Some 0x08
    else (if b == 0x66 then Some 0x0C
    else (if b == 0x6E then Some 0x0A
    else (if b == 0x72 then Some 0x0D
    else (if b == 0x74 then Some 0x09
    else (if b == 0x76 then Some 0x0B
    else (if b == 0x5C || b == 0x27 || b == 0x22 then Some b
    else None)))))))

-- the octal digits of an escape, as many as are there up to three
unfoldable pub octal_digits : List ℕ → List ℕ
octal_digits bs = take_while (λ b. is_digit b 8) (take 3 bs)

-- the escape of a `\` that these bytes follow. It denotes no byte where there is no such escape
unfoldable pub escape_at : List ℕ → Item
escape_at bs =
    let digits = octal_digits bs in
    let value = value_of 8 digits in
    if nat_lt 0 (length digits)
    then record { len = 1 + length digits; byte = (if nat_le value 255 then Some value else None) }
    else record { len = 2; byte = named_escape bs }

-- the byte or the escape that these bytes begin with
unfoldable pub item_at : ℕ → List ℕ → Item
item_at b bs = if b == 0x5C then escape_at bs else record { len = 1; byte = Some b }

-- the bytes and escapes one after the other. The first bytes may belong to an item before them
abbrev pub items_from : ℕ → List ℕ → List Item
items_from before [] = []
items_from (suc n) (b ∷ bs) = items_from n bs
items_from zero (b ∷ bs) = let item = item_at b bs in item ∷ items_from (item.len - 1) bs

-- a character of the byte that its item denotes
abbrev pub character_of_byte : ℕ → Option ℕ → Result ScannedToken Fault
character_of_byte len (Some b) = Ok (record { kind = Char b; len = len })
character_of_byte len None = Err (record { rule = rule.UnknownEscape; offset = 1 })

-- a character has exactly one item inside
abbrev pub character_of : ℕ → List Item → Result ScannedToken Fault
character_of len [] = Err (record { rule = rule.LiteralNotEnded; offset = 0 })
character_of len (item ∷ []) = character_of_byte len item.byte
character_of len (item ∷ other ∷ items) = Err (record { rule = rule.LiteralNotEnded; offset = 0 })

-- the character with so many bytes inside, if it is closed
abbrev pub character_up_to : List ℕ → Option ℕ → Result ScannedToken Fault
character_up_to bs (Some n) = character_of (n + 2) (items_from 0 (take n bs))
character_up_to bs None = Err (record { rule = rule.LiteralNotEnded; offset = 0 })

-- the character of an opening quote that these bytes follow
unfoldable pub character_token : List ℕ → Result ScannedToken Fault
character_token bs = character_up_to bs (inside_len 0x27 false bs)

-- the byte of an item before the others, or the first escape that denotes none
abbrev pub following : Item → Option ℕ → Result (List ℕ) ℕ → Result (List ℕ) ℕ
following item None bytes = Err 0
following item (Some b) (Ok bytes) = Ok (b ∷ bytes)
following item (Some b) (Err n) = Err (item.len + n)

-- the bytes that the items denote, or how many bytes come before the first item that denotes none
abbrev pub bytes_of : List Item → Result (List ℕ) ℕ
bytes_of [] = Ok []
bytes_of (item ∷ items) = following item item.byte (bytes_of items)

-- a text of these bytes, or the fault of its escape: the opening quote comes before them
abbrev pub text_of : ℕ → Result (List ℕ) ℕ → Result ScannedToken Fault
text_of len (Ok bytes) = Ok (record { kind = Text bytes; len = len })
text_of len (Err n) = Err (record { rule = rule.UnknownEscape; offset = 1 + n })

-- the text with so many bytes inside, if it is closed
abbrev pub text_up_to : List ℕ → Option ℕ → Result ScannedToken Fault
text_up_to bs (Some n) = text_of (n + 2) (bytes_of (items_from 0 (take n bs)))
text_up_to bs None = Err (record { rule = rule.LiteralNotEnded; offset = 0 })

-- the text of an opening quote that these bytes follow
unfoldable pub text_token : List ℕ → Result ScannedToken Fault
text_token bs = text_up_to bs (inside_len 0x22 false bs)
