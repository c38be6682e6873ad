-- Words of memory: what is read after a word is written, from the parts of a list in which some elements are replaced.
use Rattle.std.proofs.Common.{◌≡◌, ℕ, zero, suc, ◌+◌, ◌-◌, ◌<◌, ◌≤◌, ◌^◌, List, ◌++◌, length, take, drop, refl, sym, ap, ◌∙◌}
use Rattle.std.proofs.Common.{append_assoc, inl, inr, arith}
use Rattle.std.specs.Prelude.{slice_range}
use Rattle.std.specs.Int.{Width, w8, w16, w32, w64, w128, byte_len, bytes_low_first, from_le_bytes, to_le_bytes}
use Rattle.std.proofs.Math.Seq.{drop-append_seam, take-append_seam}
use Rattle.std.proofs.lemmas.List.{take-append-drop, take-append-le, drop-append-le, length-append, length-take-le, length-drop}
use Rattle.std.proofs.lemmas.Slice.{drop-append-drop}
use Rattle.std.proofs.lemmas.Nat.{from_le_bytes-to_le_bytes_2, from_le_bytes-to_le_bytes_4, from_le_bytes-to_le_bytes_8}
use Rattle.wa_syntax.specs.Numeric.{wrap}
use Rattle.wa_syntax.specs.Operations.{overwritten}
use Rattle.wa_runs.specs.Words.{word_at, with_word, AreApart}

-- ---- n elements of a list from an index on

module _ {A : Type 0} where
  abbrev pub part : List A → (at n : ℕ) → List A
  part xs at n = take n (drop at xs)

  pub range-part : (xs : List A) (at n : ℕ) → slice_range xs at (at + n) ≡ part xs at n
  range-part xs at n = let e : at + n - at ≡ n = omega arith in ap (λ k. take k (drop at xs)) e

  -- those that are all before the index at which the list is cut
  in-front : (xs rest : List A) (at b n : ℕ) → at ≤ length xs → b + n ≤ at → part (take at xs ++ rest) b n ≡ part (take at xs) b n
  in-front xs rest at b n h l =
      let t = length-take-le at xs h in
      let d = length-drop b (take at xs) in
      ap (take n) (drop-append-le b (take at xs) rest (omega (arith, t, l))) ∙
      take-append-le n (drop b (take at xs)) rest (omega (arith, t, d, l))

  -- where some elements are replaced, those before them stay
  pub part-before : (xs ys : List A) (at b n : ℕ) → at + length ys ≤ length xs → b + n ≤ at → part (overwritten xs at ys) b n ≡ part xs b n
  part-before xs ys at b n h l =
      ap (λ z. part z b n) (whole xs ys at) ∙ in-front xs (ys ++ drop (at + length ys) xs) at b n (omega (arith, h)) l ∙
      sym (in-front xs (drop at xs) at b n (omega (arith, h)) l) ∙ ap (λ z. part z b n) (take-append-drop at xs)
    where
      whole : (xs ys : List A) (at : ℕ) → overwritten xs at ys ≡ take at xs ++ (ys ++ drop (at + length ys) xs)
      whole xs ys at = append_assoc (take at xs) ys (drop (at + length ys) xs)

  -- and those after them
  pub part-after : (xs ys : List A) (at b n : ℕ) → at + length ys ≤ length xs → at + length ys ≤ b →
      part (overwritten xs at ys) b n ≡ part xs b n
  part-after xs ys at b n h l =
      let t = length-take-le at xs (omega (arith, h)) in
      let e = length-append (take at xs) ys in
      ap (take n) (ap (drop b) (whole xs ys at) ∙ drop-append-drop (at + length ys) xs (take at xs ++ ys) b l (omega (arith, t, e)))
    where
      whole : (xs ys : List A) (at : ℕ) → overwritten xs at ys ≡ (take at xs ++ ys) ++ drop (at + length ys) xs
      whole xs ys at = refl

  -- the new ones are there
  pub part-same : (xs ys : List A) (at : ℕ) → at + length ys ≤ length xs → part (overwritten xs at ys) at (length ys) ≡ ys
  part-same xs ys at h =
      let t = length-take-le at xs (omega (arith, h)) in
      ap (λ z. take (length ys) (drop at z)) (whole xs ys at) ∙
      ap (λ z. take (length ys) (drop z (take at xs ++ (ys ++ drop (at + length ys) xs)))) (sym t) ∙
      ap (take (length ys)) (drop-append_seam (take at xs) (ys ++ drop (at + length ys) xs)) ∙
      take-append_seam ys (drop (at + length ys) xs)
    where
      whole : (xs ys : List A) (at : ℕ) → overwritten xs at ys ≡ take at xs ++ (ys ++ drop (at + length ys) xs)
      whole xs ys at = append_assoc (take at xs) ys (drop (at + length ys) xs)

  -- and the length stays
  pub length-overwritten : (xs ys : List A) (at : ℕ) → at + length ys ≤ length xs → length (overwritten xs at ys) ≡ length xs
  length-overwritten xs ys at h =
      let front = length-take-le at xs (omega arith) in
      let back = length-drop (at + length ys) xs in
      simp length-append (omega (arith, front, back))

-- ---- the bytes of a number

low-length : (i k n : ℕ) → length (bytes_low_first i k n) ≡ k
low-length i zero n = refl
low-length i (suc k) n = ap suc (low-length (suc i) k n)

pub length-to_le_bytes : (w : Width) (n : ℕ) → length (to_le_bytes w n) ≡ byte_len w
length-to_le_bytes w n = low-length 0 (byte_len w) n

one-byte : (n : ℕ) → n < 2 ^ 8 → from_le_bytes w8 (to_le_bytes w8 n) ≡ n
one-byte n h = omega (arith, h)

-- the low bits of a number are read from its bytes
pub read-back : (w : Width) (n : ℕ) → byte_len w ≤ 8 → from_le_bytes w (to_le_bytes w (wrap w n)) ≡ wrap w n
read-back w8 n h = one-byte (wrap w8 n) (omega arith)
read-back w16 n h = from_le_bytes-to_le_bytes_2 (wrap w16 n) (omega arith)
read-back w32 n h = from_le_bytes-to_le_bytes_4 (wrap w32 n) (omega arith)
read-back w64 n h = from_le_bytes-to_le_bytes_8 (wrap w64 n) (omega arith)
read-back w128 n h = absurd (omega (arith, h))

-- ---- words

pub word-same : (w : Width) (memory : List ℕ) (a n : ℕ) → byte_len w ≤ 8 → a + byte_len w ≤ length memory →
    word_at w (with_word w memory a n) a ≡ wrap w n
word-same w memory a n few h =
    let bytes = to_le_bytes w (wrap w n) in
    let e = length-to_le_bytes w (wrap w n) in
    ap (from_le_bytes w)
    (range-part (with_word w memory a n) a (byte_len w) ∙ ap (part (with_word w memory a n) a) (sym e) ∙
    part-same memory bytes a (omega (arith, h, e))) ∙
    read-back w n few

-- the bytes of a word that is apart
bytes-apart : (v w : Width) (memory : List ℕ) (a b n : ℕ) → a + byte_len w ≤ length memory → AreApart a (byte_len w) b (byte_len v) →
    part (with_word w memory a n) b (byte_len v) ≡ part memory b (byte_len v)
bytes-apart v w memory a b n h (inl l) =
    let e = length-to_le_bytes w (wrap w n) in
    part-after memory (to_le_bytes w (wrap w n)) a b (byte_len v) (omega (arith, h, e)) (omega (arith, l, e))
bytes-apart v w memory a b n h (inr l) =
    let e = length-to_le_bytes w (wrap w n) in
    part-before memory (to_le_bytes w (wrap w n)) a b (byte_len v) (omega (arith, h, e)) l

pub word-apart : (v w : Width) (memory : List ℕ) (a b n : ℕ) → a + byte_len w ≤ length memory → AreApart a (byte_len w) b (byte_len v) →
    word_at v (with_word w memory a n) b ≡ word_at v memory b
word-apart v w memory a b n h l =
    ap (from_le_bytes v)
    (range-part (with_word w memory a n) b (byte_len v) ∙ bytes-apart v w memory a b n h l ∙ sym (range-part memory b (byte_len v)))

pub length-with_word : (w : Width) (memory : List ℕ) (a n : ℕ) → a + byte_len w ≤ length memory →
    length (with_word w memory a n) ≡ length memory
length-with_word w memory a n h =
    let e = length-to_le_bytes w (wrap w n) in
    length-overwritten memory (to_le_bytes w (wrap w n)) a (omega (arith, h, e))
