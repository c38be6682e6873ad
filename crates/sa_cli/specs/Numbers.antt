-- Numbers in a command line.
use Rattle.std.specs.Prelude.{ℕ, ◌&&◌, Bool, not, List, Option, None, Some, if◌then◌else◌, nat_le}
use Rattle.std.specs.List.{list_all}
use Rattle.std.specs.Char.{is_ascii_digit}
use Rattle.std.specs.Str.Parse.{digits_value}
use Rattle.clap.specs.Walk.{is_empty}

-- one decimal digit or more, and nothing else
abbrev pub is_numeral : List ℕ → Bool
is_numeral text = not (is_empty text) && list_all is_ascii_digit text

-- the number that the text spells, if it is one from `least` to `most`
abbrev pub number_in : ℕ → ℕ → List ℕ → Option ℕ
number_in least most text =
    let value = digits_value 10 text in
    if is_numeral text && (nat_le least value && nat_le value most) then Some value else None

-- the same of a text that may be absent: then it is the default
abbrev pub number_or : ℕ → ℕ → ℕ → Option (List ℕ) → Option ℕ
number_or default least most None = Some default
number_or default least most (Some text) = number_in least most text
