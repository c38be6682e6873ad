-- The classes of bytes that the lexical rules name.
use Rattle.std.specs.Prelude.{ℕ, Bool, false, ◌||◌, ◌==◌, List, [], ◌∷◌}
use Rattle.std.specs.Char.{is_ascii_alphanumeric}

-- space, tab, line feed, form feed and carriage return
abbrev pub is_blank : ℕ → Bool
is_blank b = b == 0x20 || b == 0x09 || b == 0x0A || b == 0x0C || b == 0x0D

-- a letter, a digit or `_`
abbrev pub is_name_byte : ℕ → Bool
is_name_byte b = is_ascii_alphanumeric b || b == 0x5F

-- the first byte is this one
abbrev pub begins_with : ℕ → List ℕ → Bool
begins_with b [] = false
begins_with b (c ∷ cs) = c == b
