-- Blanks, comments and the byte order mark.
use Rattle.std.specs.Prelude.{not, ℕ, ◌+◌, Bool, ◌||◌, ◌&&◌, ◌==◌, List, [], ◌∷◌, if◌then◌else◌}
use Rattle.sa_lexer.specs.Bytes.{is_blank, begins_with}

-- how many bytes the byte order mark at the front has, 3 where there is one: it is a blank at the beginning of a text alone
abbrev pub mark_len : List ℕ → ℕ
mark_len (a ∷ b ∷ c ∷ _) = if a == 0xEF && (b == 0xBB && c == 0xBF) then 3 else 0
mark_len [] = 0
mark_len (a ∷ []) = 0
mark_len (a ∷ b ∷ []) = 0

-- the byte is a `-` and another one follows
abbrev pub opens_comment : ℕ → List ℕ → Bool
opens_comment b bs = b == 0x2D && begins_with 0x2D bs

-- how many bytes of blanks and comments are at the front, which may be inside a comment already: a comment ends with its line
abbrev pub gap_len : Bool → List ℕ → ℕ
gap_len inside [] = 0
gap_len inside (b ∷ bs) =
    let commented = inside || opens_comment b bs in
    if commented || is_blank b then 1 + gap_len (commented && not (b == 0x0A)) bs else 0
