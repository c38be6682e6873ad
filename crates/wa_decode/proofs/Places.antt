-- Formats one after another, at positions.
use Rattle.std.proofs.Common.{◌≡◌, ℕ, zero, suc, ◌+◌, ◌-◌, ◌<◌, ◌≤◌, List, [], ◌∷◌, ◌++◌, length, take, drop, get_or, slice_get, slice_range, Some, refl, sym, ap, subst, ◌∙◌, arith, append_assoc}
use Rattle.std.proofs.lemmas.List.{length-append}
use Rattle.std.proofs.lemmas.List.Folds.{drop_split}
use Rattle.wa_syntax.specs.Formats.{Format, ◌then◌, exactly, byte}
use Rattle.wa_syntax.proofs.Places.{slice_range-more, length-slice_range}
use Rattle.wa_decode.specs.Reading.{Spelled}

pub same_fronts : (a b x y : List ℕ) → length a ≡ length b → a ++ x ≡ b ++ y → (a ≡ b) × (x ≡ y)
same_fronts [] [] x y long same = (refl, same)
same_fronts [] (d ∷ b) x y long same = absurd (omega arith)
same_fronts (c ∷ a) [] x y long same = absurd (omega arith)
same_fronts (c ∷ a) (d ∷ b) x y long same =
    let tails : a ++ x ≡ b ++ y = cc in
    let heads : c ≡ d = cc in
    let rest = same_fronts a b x y (omega arith) tails in
    let fronts : a ≡ b = rest.0 in
    (cc, rest.1)

same_front_of : (a b x : List ℕ) → a ++ x ≡ b ++ x → a ≡ b
same_front_of a b x same =
    (same_fronts a b x x (omega (arith, ap length same, length-append a x, length-append b x)) same).0

pub slice_range-append : (bytes : List ℕ) (at mid end : ℕ) → at ≤ mid → mid ≤ end → slice_range bytes at end ≡ slice_range bytes at mid ++ slice_range bytes mid end
slice_range-append bytes at mid end first second =
    same_front_of (slice_range bytes at end) (slice_range bytes at mid ++ slice_range bytes mid end) (drop end bytes)
    (sym (drop_split bytes at end (omega arith))
    ∙ drop_split bytes at mid first
    ∙ ap (λ (rest : List ℕ). slice_range bytes at mid ++ rest) (drop_split bytes mid end second)
    ∙ sym (append_assoc (slice_range bytes at mid) (slice_range bytes mid end) (drop end bytes)))

-- the one format up to a position, and after it the other
pub join : {A B : Format} {bytes : List ℕ} {at mid end : ℕ} → Spelled A bytes at mid → Spelled B bytes mid end → Spelled (A then B) bytes at end
join {bytes = bytes} {at = at} {mid = mid} {end = end} h k = record {
  forward = omega (arith, h.forward, k.forward);
  within = k.within;
  spelling = (slice_range bytes at mid, slice_range bytes mid end, slice_range-append bytes at mid end h.forward k.forward, h.spelling, k.spelling);
}

pub record Split (A B : Format) (bytes : List ℕ) (at end : ℕ) : Type 0 where
  pub mid : ℕ
  pub first : Spelled A bytes at mid
  pub second : Spelled B bytes mid end

pub split : {A B : Format} {bytes : List ℕ} {at end : ℕ} → Spelled (A then B) bytes at end → Split A B bytes at end
split {A = A} {B = B} {bytes = bytes} {at = at} {end = end} h =
    let front : List ℕ = h.spelling.0 in
    let back : List ℕ = h.spelling.1 in
    let whole : slice_range bytes at end ≡ front ++ back = h.spelling.2 in
    let forward : at ≤ end = h.forward in
    let within : end ≤ length bytes = h.within in
    let long : length front + length back ≡ end - at = sym (length-append front back) ∙ sym (ap length whole) ∙ length-slice_range bytes at end within in
    let mid : ℕ = at + length front in
    let before : at ≤ mid = omega arith in
    let after : mid ≤ end = omega arith in
    let parts = same_fronts (slice_range bytes at mid) front (slice_range bytes mid end) back (omega (arith, length-slice_range bytes at mid (omega arith))) (sym (slice_range-append bytes at mid end before after) ∙ whole) in
    record {
      mid = mid;
      first = record { forward = before; within = omega arith; spelling = subst A (sym parts.0) h.spelling.3 };
      second = record { forward = after; within = within; spelling = subst B (sym parts.1) h.spelling.4 };
    }

-- ---- no bytes, and one byte

pub slice_range-none : (bytes : List ℕ) (at : ℕ) → slice_range bytes at at ≡ []
slice_range-none bytes at =
    let none : at - at ≡ 0 = omega arith in
    ap (λ (n : ℕ). take n (drop at bytes)) none

pub none_here : (bytes : List ℕ) (at : ℕ) → at ≤ length bytes → Spelled (exactly []) bytes at at
none_here bytes at within = record { forward = omega arith; within = within; spelling = slice_range-none bytes at }

pub none_only : {bytes : List ℕ} {at end : ℕ} → Spelled (exactly []) bytes at end → at ≡ end
none_only {bytes = bytes} {at = at} {end = end} h =
    let none : length (slice_range bytes at end) ≡ 0 = ap length h.spelling in
    omega (arith, length-slice_range bytes at end h.within, h.forward, none)

pub slice_get-get_or : (bytes : List ℕ) (at b : ℕ) → slice_get bytes at ≡ Some b → (at < length bytes) × (get_or bytes at 0 ≡ b)
slice_get-get_or [] at b is = absurd (cc)
slice_get-get_or (c ∷ bytes) zero b is = (omega arith, cc)
slice_get-get_or (c ∷ bytes) (suc at) b is =
    let rest = slice_get-get_or bytes at b is in
    let within : at < length bytes = rest.0 in
    (omega arith, rest.1)

pub get_or-slice_get : (bytes : List ℕ) (at : ℕ) → at < length bytes → slice_get bytes at ≡ Some (get_or bytes at 0)
get_or-slice_get [] at within = absurd (omega arith)
get_or-slice_get (c ∷ bytes) zero within = refl
get_or-slice_get (c ∷ bytes) (suc at) within = get_or-slice_get bytes at (omega arith)

pub byte_here : (bytes : List ℕ) (at b : ℕ) → slice_get bytes at ≡ Some b → Spelled (byte b) bytes at (at + 1)
byte_here bytes at b is =
    let here = slice_get-get_or bytes at b is in
    let within : at < length bytes = here.0 in
    record {
      forward = omega arith;
      within = omega arith;
      spelling = slice_range-more bytes at (at + 1) within (omega arith) ∙ ap (λ (c : ℕ). c ∷ slice_range bytes (at + 1) (at + 1)) here.1 ∙ ap (λ (rest : List ℕ). b ∷ rest) (slice_range-none bytes (at + 1));
    }

pub byte_only : {b : ℕ} {bytes : List ℕ} {at end : ℕ} → Spelled (byte b) bytes at end → (slice_get bytes at ≡ Some b) × (end ≡ at + 1)
byte_only {b = b} {bytes = bytes} {at = at} {end = end} h =
    let one : slice_range bytes at end ≡ b ∷ [] = h.spelling in
    let long : end - at ≡ 1 = sym (length-slice_range bytes at end h.within) ∙ ap length one in
    let within : end ≤ length bytes = h.within in
    let more = slice_range-more bytes at end (omega arith) (omega arith) in
    let here : get_or bytes at 0 ≡ b = cc in
    (get_or-slice_get bytes at (omega arith) ∙ ap (λ (c : ℕ). Some c) here, omega (arith, h.forward))
