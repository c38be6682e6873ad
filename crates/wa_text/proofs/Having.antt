-- Which forms some words or lines are of, that can be in a text.
use Rattle.std.proofs.Common.{◌≡◌, ◌≢◌, ℕ, zero, suc, ◌+◌, ◌/◌, ◌%◌, ◌^◌, ◌<◌, Bool, true, List, [], ◌∷◌, ◌++◌, refl, arith}
use Rattle.std.proofs.lemmas.Bool.{eqb-false}
use Rattle.std.proofs.lemmas.Fmt.{decimal_by_steps}
use Rattle.std.specs.Prelude.{◌==◌, ◌&&◌, not, codes, decimal, slice_index}
use Rattle.std.specs.List.{AllByRecursion}
use Rattle.std.specs.Str.{IsUtf8}
use Rattle.hex.specs.Hex.{IsBytes, encode_lower, encode_with, lower_digits}
use Rattle.wa_text.specs.Forms.{Form, nothing, ◌then◌, each}
use Rattle.wa_text.specs.Words.{Word, Line, IsWord, line, word, number, u32, u64, digits, bytes, name}
use Rattle.wa_text.proofs.Rows.{both_true, not_true}

-- some items are of the form, and each of them passes
pub record Has {X : Type 0} (P : X → Type 0) (F : Form X) : Type 0 where
  pub items : List X
  pub spelled : F items
  pub pass : AllByRecursion P items

abbrev pub HasWords : Form Word → Type 0
HasWords F = Has IsWord F

abbrev pub HasLines : Form Line → Type 0
HasLines F = Has (AllByRecursion IsWord) F

pub both_pass : {X : Type 0} (P : X → Type 0) (xs ys : List X) → AllByRecursion P xs → AllByRecursion P ys → AllByRecursion P (xs ++ ys)
both_pass P [] ys h k = k
both_pass P (x ∷ xs) ys h k = (h.0, both_pass P xs ys h.1 k)

pub has_nothing : {X : Type 0} {P : X → Type 0} → Has P nothing
has_nothing = record { items = []; spelled = refl; pass = tt }

pub has_then : {X : Type 0} {P : X → Type 0} {A B : Form X} → Has P A → Has P B → Has P (A then B)
has_then {P = P} a b = record {
  items = a.items ++ b.items;
  spelled = (a.items, b.items, refl, a.spelled, b.spelled);
  pass = both_pass P a.items b.items a.pass b.pass;
}

pub has_each : {X V : Type 0} {P : X → Type 0} (F : V → Form X) (vs : List V) → AllByRecursion (λ v. Has P (F v)) vs → Has P (each F vs)
has_each F [] h = has_nothing
has_each F (v ∷ vs) h = has_then h.0 (has_each F vs h.1)

pub has_line : {F : Form Word} → HasWords F → HasLines (line F)
has_line h = record { items = h.items ∷ []; spelled = (h.items, h.spelled, refl); pass = (h.pass, tt) }

-- ---- words

-- no blank and no line feed is in it
abbrev pub is_word : List ℕ → Bool
is_word [] = true
is_word (b ∷ bs) = not (b == 32) && (not (b == 10) && is_word bs)

pub tested : (w : Word) → is_word w ≡ true → IsWord w
tested [] h = tt
tested (b ∷ bs) h =
    let blank = both_true (not (b == 32)) (not (b == 10) && is_word bs) h in
    let feed = both_true (not (b == 10)) (is_word bs) blank.1 in
    ((eqb-false b 32 (not_true (b == 32) blank.0), eqb-false b 10 (not_true (b == 10) feed.0)), tested bs feed.1)

pub has_word : (w : Word) → is_word w ≡ true → HasWords (word w)
has_word w h = record { items = w ∷ []; spelled = refl; pass = (tested w h, tt) }

-- ---- numbers

decimal_word : (n : ℕ) → n < 2 ^ 64 → IsWord (decimal n)
decimal_word n below =
    decimal_by_steps (λ m ds. IsWord ds)
    (λ m small. ((omega arith, omega arith), tt))
    (λ m ds large h. both_pass (λ b. (b ≢ 32) × (b ≢ 10)) ds ((48 + m % 10) ∷ []) h ((omega arith, omega arith), tt))
    n below

has_number : (bits n : ℕ) → n < 2 ^ bits → n < 2 ^ 64 → HasWords (number bits n)
has_number bits n fits below = record { items = decimal n ∷ []; spelled = (fits, refl); pass = (decimal_word n below, tt) }

pub has_u32 : (n : ℕ) → n < 2 ^ 32 → HasWords (u32 n)
has_u32 n fits = has_number 32 n fits (omega arith)

pub has_u64 : (n : ℕ) → n < 2 ^ 64 → HasWords (u64 n)
has_u64 n fits = has_number 64 n fits fits

-- ---- bytes

at_index : (P : ℕ → Type 0) → P 0 → (xs : List ℕ) → AllByRecursion P xs → (i : ℕ) → P (slice_index xs i)
at_index P none [] h i = none
at_index P none (x ∷ xs) h zero = h.0
at_index P none (x ∷ xs) h (suc i) = at_index P none xs h.1 i

digit_passes : (i : ℕ) → (slice_index lower_digits i ≢ 32) × (slice_index lower_digits i ≢ 10)
digit_passes i = at_index (λ b. (b ≢ 32) × (b ≢ 10)) (omega arith, omega arith) lower_digits (tested lower_digits refl) i

encoded_word : (bs : List ℕ) → IsWord (encode_lower bs)
unfolding encode_with
encoded_word [] = tt
encoded_word (b ∷ bs) = (digit_passes (b / 16), (digit_passes (b % 16), encoded_word bs))

digits_word : (bs : List ℕ) → IsWord (digits bs)
digits_word [] = tested (codes "-") refl
digits_word (b ∷ bs) = encoded_word (b ∷ bs)

-- every element is a byte
abbrev pub AreBytes : List ℕ → Type 0
AreBytes = AllByRecursion (λ b. b < 256)

pub are_bytes : (bs : List ℕ) → IsBytes bs → AreBytes bs
are_bytes [] h = tt
are_bytes (b ∷ bs) h = (h 0, are_bytes bs (λ i. h (suc i)))

pub has_bytes : (bs : List ℕ) → AreBytes bs → HasWords (bytes bs)
has_bytes bs h = record {
  items = digits bs ∷ [];
  spelled = (λ i. at_index (λ b. b < 256) (omega arith) bs h i, refl);
  pass = (digits_word bs, tt);
}

pub has_name : (text : List ℕ) → IsUtf8 text → AreBytes text → HasWords (name text)
has_name text utf8 h =
    let written = has_bytes text h in
    record { items = written.items; spelled = (utf8, written.spelled); pass = written.pass }
