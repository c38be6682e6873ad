-- The row that a word asks for, among references and among what they point to.
use Rattle.std.proofs.Common.{◌≡◌, ◌∙◌, Bool, cond, false, true, ap, refl, List, [], ◌∷◌, map, None, Option, Some}
use Rattle.std.specs.Prelude.{find, option_map}
use Rattle.std.specs.Borrow.{Bor}
use Rattle.sa_texts.specs.Pages.{Row, Text, asked_row, asks, seen_row}

pub find-map : {X Y : Type 0} (p : Y → Bool) (f : X → Y) (xs : List X) → option_map f (find (λ x. p (f x)) xs) ≡ find p (map f xs)
find-map p f [] = refl
find-map p f (x ∷ xs) = go (p (f x)) (find-map p f xs)
  where
    go : (b : Bool) → option_map f (find (λ y. p (f y)) xs) ≡ find p (map f xs) → option_map f (cond b (Some x) (find (λ y. p (f y)) xs)) ≡ cond b (Some (f x)) (find p (map f xs))
    go true e = refl
    go false e = e

abbrev pub Seen : Type 0
Seen = Bor Text × Bor Text × Bor Text × Bor Text

text_of : (found : Option Seen) → option_map (λ (row : Seen). row.3.now) found ≡ option_map (λ (row : Row). row.3) (option_map seen_row found)
text_of None = refl
text_of (Some row) = refl

-- the text of the row that is found among references
pub asked_by : (word : Text) (table : List Seen) (found : Option Seen) → found ≡ find (λ row. asks word (seen_row row)) table → option_map (λ (row : Seen). row.3.now) found ≡ asked_row word (map seen_row table)
asked_by word table found is = text_of found ∙ ap (option_map (λ (row : Row). row.3)) (ap (option_map seen_row) is ∙ find-map (asks word) seen_row table)
