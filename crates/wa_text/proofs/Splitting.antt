-- A list that is cut at some of its elements.
use Rattle.std.proofs.Common.{◌≡◌, ◌≢◌, ℕ, Bool, true, false, List, [], ◌∷◌, refl}
use Rattle.std.proofs.lemmas.Bool.{eqb-false}
use Rattle.std.specs.Prelude.{cond, ◌==◌}
use Rattle.std.specs.List.{AllByRecursion, onto_first, slice_split}
use Rattle.wa_text.specs.Reading.{IsUnbroken, words_of}
use Rattle.wa_text.specs.Words.{IsWord}

abbrev Each : {X : Type 0} → (X → Type 0) → List (List X) → Type 0
Each P parts = AllByRecursion (AllByRecursion P) parts

-- no element at which a list is cut is in a part
cut_more : {X : Type 0} (p : X → Bool) (x : X) (parts : List (List X)) (b : Bool) → p x ≡ b → Each (λ y. p y ≡ false) parts → Each (λ y. p y ≡ false) (cond b ([] ∷ parts) (onto_first x parts))
cut_more p x parts true is h = (tt, h)
cut_more p x [] false is h = ((is, tt), tt)
cut_more p x (part ∷ parts) false is h = ((is, h.0), h.1)

cut : {X : Type 0} (p : X → Bool) (xs : List X) → Each (λ y. p y ≡ false) (slice_split p xs)
cut p [] = (tt, tt)
cut p (x ∷ xs) = cut_more p x (slice_split p xs) (p x) refl (cut p xs)

-- what holds of each element holds of those of the parts
kept_more : {X : Type 0} (P : X → Type 0) (x : X) (parts : List (List X)) (b : Bool) → P x → Each P parts → Each P (cond b ([] ∷ parts) (onto_first x parts))
kept_more P x parts true k h = (tt, h)
kept_more P x [] false k h = ((k, tt), tt)
kept_more P x (part ∷ parts) false k h = ((k, h.0), h.1)

kept : {X : Type 0} (P : X → Type 0) (p : X → Bool) (xs : List X) → AllByRecursion P xs → Each P (slice_split p xs)
kept P p [] h = (tt, tt)
kept P p (x ∷ xs) h = kept_more P x (slice_split p xs) (p x) h.0 (kept P p xs h.1)

pub both_of : {X : Type 0} {P Q R : X → Type 0} (xs : List X) → ((x : X) → P x → Q x → R x) → AllByRecursion P xs → AllByRecursion Q xs → AllByRecursion R xs
both_of [] to h k = tt
both_of (x ∷ xs) to h k = (to x h.0 k.0, both_of xs to h.1 k.1)

both : {X : Type 0} {P Q R : X → Type 0} (parts : List (List X)) → ((x : X) → P x → Q x → R x) → Each P parts → Each Q parts → Each R parts
both parts to h k = both_of parts (λ part p q. both_of part to p q) h k

-- the words of a line
pub words_are : (line : List ℕ) → IsUnbroken line → AllByRecursion IsWord (words_of line)
words_are line h = both (words_of line) (λ b blank feed. (eqb-false b 32 blank, feed)) (cut (λ b. b == 32) line) (kept (λ b. b ≢ 10) (λ b. b == 32) line h)
