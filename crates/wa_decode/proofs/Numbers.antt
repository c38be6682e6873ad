-- The readers of numbers, as readers of formats.
use Rattle.std.proofs.Common.{◌≡◌, ℕ, ◌<◌, ◌≤◌, ℤ, List, [], Option, Some, None, w32, w64, refl, sym, ap, subst, ◌∙◌, inl, inr, arith}
use Rattle.std.proofs.lemmas.Option.{some_pair_parts}
use Rattle.std.specs.Int.{cast_unsigned}
use Rattle.std.specs.Prelude.{Ok, Err}
use Rattle.wa_syntax.specs.Formats.{u32, i32, i64}
use Rattle.wa_syntax.specs.Leb128.{IsUnsigned, IsSigned, Spells}
use Rattle.wa_syntax.proofs.Places.{slice_range-cases}
use Rattle.wa_decode.specs.declared.fault.DecodeFault.TheVariants.{Malformed}
use Rattle.wa_decode.specs.Reading.{Reads}
use Rattle.wa_decode.proofs.Reading.{nothing}

-- what has no empty spelling ends after the position at which it begins
forward_of : {V : Type 0} (IsSpelling : List ℕ → V → Type 0) (bytes : List ℕ) (at end : ℕ) (v : V) → (IsSpelling [] v → ⊥) → Spells IsSpelling bytes at end v → at ≤ end
forward_of IsSpelling bytes at end v some h =
    elim (slice_range-cases bytes at end h.within) [
      | inl none ↦ absurd (some (subst (λ (s : List ℕ). IsSpelling s v) none h.spelling))
      | inr more ↦ let before : at < end = more.0 in omega arith
    ]

-- what an answer of Some says
abbrev pub IsRead : {V : Type 0} → (List ℕ → V → Type 0) → List ℕ → ℕ → V → ℕ → Type 0
IsRead {V = V} IsSpelling bytes at v end =
    (w : V) (to : ℕ) → Spells IsSpelling bytes at to w → ◌≡◌ {A = Option (V × ℕ)} (Some (v, end)) (Some (w, to))

abbrev pub IsNotRead : {V : Type 0} → (List ℕ → V → Type 0) → List ℕ → ℕ → Type 0
IsNotRead {V = V} IsSpelling bytes at =
    (w : V) (to : ℕ) → Spells IsSpelling bytes at to w → ◌≡◌ {A = Option (V × ℕ)} None (Some (w, to))

pub u32-ok : (bytes : List ℕ) (at n end : ℕ) → Spells (IsUnsigned 32) bytes at end n → IsRead (IsUnsigned 32) bytes at n end → Reads u32 bytes at (Ok (n, end))
u32-ok bytes at n end h k = record {
  found = record { forward = forward_of (IsUnsigned 32) bytes at end n (λ none. none) h; within = h.within; spelling = h.spelling };
  complete = λ m to s. some_pair_parts n m end to (k m to (record { within = s.within; spelling = s.spelling }));
}

pub u32-none : (bytes : List ℕ) (at : ℕ) → IsNotRead (IsUnsigned 32) bytes at → Reads u32 bytes at (Err Malformed)
u32-none bytes at k = nothing (λ m to s. let never = k m to (record { within = s.within; spelling = s.spelling }) in absurd (cc))

pub i32-ok : (bytes : List ℕ) (at : ℕ) (z : ℤ) (end : ℕ) → Spells (IsSigned 32) bytes at end z → IsRead (IsSigned 32) bytes at z end → Reads i32 bytes at (Ok (cast_unsigned w32 z, end))
i32-ok bytes at z end h k = record {
  found = record { forward = forward_of (IsSigned 32) bytes at end z (λ none. none) h; within = h.within; spelling = (z, h.spelling, refl) };
  complete = λ n to s.
      let parts = some_pair_parts z s.spelling.0 end to (k s.spelling.0 to (record { within = s.within; spelling = s.spelling.1 })) in
      (ap (cast_unsigned w32) parts.0 ∙ sym s.spelling.2, parts.1);
}

pub i32-none : (bytes : List ℕ) (at : ℕ) → IsNotRead (IsSigned 32) bytes at → Reads i32 bytes at (Err Malformed)
i32-none bytes at k = nothing (λ n to s. let never = k s.spelling.0 to (record { within = s.within; spelling = s.spelling.1 }) in absurd (cc))

pub i64-ok : (bytes : List ℕ) (at : ℕ) (z : ℤ) (end : ℕ) → Spells (IsSigned 64) bytes at end z → IsRead (IsSigned 64) bytes at z end → Reads i64 bytes at (Ok (cast_unsigned w64 z, end))
i64-ok bytes at z end h k = record {
  found = record { forward = forward_of (IsSigned 64) bytes at end z (λ none. none) h; within = h.within; spelling = (z, h.spelling, refl) };
  complete = λ n to s.
      let parts = some_pair_parts z s.spelling.0 end to (k s.spelling.0 to (record { within = s.within; spelling = s.spelling.1 })) in
      (ap (cast_unsigned w64) parts.0 ∙ sym s.spelling.2, parts.1);
}

pub i64-none : (bytes : List ℕ) (at : ℕ) → IsNotRead (IsSigned 64) bytes at → Reads i64 bytes at (Err Malformed)
i64-none bytes at k = nothing (λ n to s. let never = k s.spelling.0 to (record { within = s.within; spelling = s.spelling.1 }) in absurd (cc))
