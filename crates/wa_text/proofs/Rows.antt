-- Tests that pass for each row of a table.
use Rattle.std.proofs.Common.{◌≡◌, ℕ, Bool, true, false, List, [], ◌∷◌, Option, None, Some, refl, ap}
use Rattle.std.proofs.lemmas.Bool.{eqb-true}
use Rattle.std.proofs.lemmas.Slice.Eq.{bytes_eq-Decides}
use Rattle.std.specs.Prelude.{◌&&◌, ◌==◌, if◌then◌else◌, not}
use Rattle.std.specs.List.{AllByRecursion}
use Rattle.std.specs.Str.{bytes_eq}

pub both_true : (x y : Bool) → (x && y) ≡ true → (x ≡ true) × (y ≡ true)
both_true true y h = (refl, h)
both_true false y h = let no : ⊥ = cc in absurd no

pub not_true : (x : Bool) → not x ≡ true → x ≡ false
not_true true h = let no : ⊥ = cc in absurd no
not_true false h = refl

abbrev pub all_pass : {X : Type 0} → (X → Bool) → List X → Bool
all_pass P [] = true
all_pass P (x ∷ xs) = P x && all_pass P xs

pub each_passes : {X : Type 0} (P : X → Bool) (Q : X → Type 0) → ((x : X) → P x ≡ true → Q x) → (xs : List X) → all_pass P xs ≡ true → AllByRecursion Q xs
each_passes P Q to [] h = tt
each_passes P Q to (x ∷ xs) h =
    let both = both_true (P x) (all_pass P xs) h in
    (to x both.0, each_passes P Q to xs both.1)

-- the opcode in the first row with this name
unfoldable pub code_in : List (ℕ × List ℕ) → List ℕ → Option ℕ
code_in [] name = None
code_in (row ∷ rows) name = if bytes_eq row.1 name then Some row.0 else code_in rows name

-- the bytes that may be there are these
abbrev pub has_bytes : Option (List ℕ) → List ℕ → Bool
has_bytes None bytes = false
has_bytes (Some found) bytes = bytes_eq found bytes

pub has_bytes-is : (found : Option (List ℕ)) (bytes : List ℕ) → has_bytes found bytes ≡ true → found ≡ Some bytes
has_bytes-is None bytes h = let no : ⊥ = cc in absurd no
has_bytes-is (Some found) bytes h = ap (λ (b : List ℕ). Some b) ((bytes_eq-Decides found bytes).0 h)

-- the number that may be there is this one
abbrev pub has_number : Option ℕ → ℕ → Bool
has_number None n = false
has_number (Some found) n = found == n

pub has_number-is : (found : Option ℕ) (n : ℕ) → has_number found n ≡ true → found ≡ Some n
has_number-is None n h = let no : ⊥ = cc in absurd no
has_number-is (Some found) n h = ap (λ (m : ℕ). Some m) (eqb-true found n h)
