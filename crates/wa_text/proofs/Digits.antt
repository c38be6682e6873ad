-- The hexadecimal digits of bytes, one more byte after those that are written.
use Rattle.std.proofs.Common.{◌≡◌, ℕ, ◌+◌, ◌/◌, ◌%◌, List, [], ◌∷◌, ◌++◌, drop, refl, sym, ap, ◌∙◌, append_assoc}
use Rattle.std.specs.Prelude.{slice_index}
use Rattle.std.proofs.lemmas.List.{append-nil}
use Rattle.hex.specs.Hex.{encode_lower, encode_with, lower_digits}

one_byte : (b : ℕ) (bs : List ℕ) → encode_lower (b ∷ bs) ≡ slice_index lower_digits (b / 16) ∷ slice_index lower_digits (b % 16) ∷ encode_lower bs
unfolding encode_with
one_byte b bs = refl

pub encode_lower-more : (bytes : List ℕ) (i b high low : ℕ) (out middle new whole : List ℕ)
    → drop i bytes ≡ b ∷ drop (i + 1) bytes
    → high ≡ slice_index lower_digits (b / 16) → low ≡ slice_index lower_digits (b % 16)
    → middle ≡ out ++ high ∷ [] → new ≡ middle ++ low ∷ []
    → out ++ encode_lower (drop i bytes) ≡ whole
    → new ++ encode_lower (drop (i + 1) bytes) ≡ whole
encode_lower-more bytes i b high low out middle new whole here is_high is_low one two so_far =
    let rest = encode_lower (drop (i + 1) bytes) in
    let pair : encode_lower (drop i bytes) ≡ high ∷ low ∷ rest =
    ap encode_lower here ∙ one_byte b (drop (i + 1) bytes) ∙ ap (λ (h : ℕ). h ∷ slice_index lower_digits (b % 16) ∷ rest) (sym is_high) ∙ ap (λ (l : ℕ). high ∷ l ∷ rest) (sym is_low) in
    ap (λ (text : List ℕ). text ++ rest) two
    ∙ append_assoc middle (low ∷ []) rest
    ∙ ap (λ (text : List ℕ). text ++ low ∷ rest) one
    ∙ append_assoc out (high ∷ []) (low ∷ rest)
    ∙ ap (λ (more : List ℕ). out ++ more) (sym pair)
    ∙ so_far

pub encode_lower-none : (left out whole : List ℕ) → left ≡ [] → out ++ encode_lower left ≡ whole → out ≡ whole
unfolding encode_with
encode_lower-none left out whole none so_far =
    sym (append-nil out) ∙ ap (λ (rest : List ℕ). out ++ encode_lower rest) (sym none) ∙ so_far
