-- Values whose first byte says what they are.
use Rattle.std.proofs.Common.{◌≡◌, ℕ, List, [], ◌∷◌, slice_range, refl, sym, ap, subst, ◌∙◌}
use Rattle.std.specs.Prelude.{Ok, Err}
use Rattle.wa_syntax.specs.Formats.{Format, ◌then◌, exactly, byte}
use Rattle.wa_decode.specs.declared.fault.DecodeFault.{DecodeFault}
use Rattle.wa_decode.specs.declared.fault.DecodeFault.TheVariants.{Malformed}
use Rattle.wa_decode.specs.Reading.{Spelled, Reads}
use Rattle.wa_decode.proofs.Places.{join, split}
use Rattle.wa_decode.proofs.Reading.{same_read, none_read, after_read, nothing}
use Rattle.wa_decode.proofs.Tails.{Starts}

-- each spelling has a first byte
abbrev pub HasFirst : {V : Type 0} → (V → Format) → Type 0
HasFirst {V = V} F = (w : V) (s : List ℕ) → F w s → (c : ℕ) × Starts c s

-- the values that begin with a byte: the byte, and after it another value
pub record Arm {U V : Type 0} (F : V → Format) (A : U → Format) (b : ℕ) (con : U → V) : Type 0 where
  pub into : (u : U) (s : List ℕ) → (byte b then A u) s → F (con u) s
  pub only : (w : V) (s : List ℕ) → F w s → Starts b s → (u : U) × (w ≡ con u) × (byte b then A u) s

pub first_byte : {V : Type 0} {F : V → Format} {bytes : List ℕ} {at to : ℕ} (w : V) (first : HasFirst F) (s : Spelled (F w) bytes at to) → Spelled (byte (first w (slice_range bytes at to) s.spelling).0 then exactly (first w (slice_range bytes at to) s.spelling).1.0) bytes at to
first_byte {bytes = bytes} {at = at} {to = to} w first s =
    let c = first w (slice_range bytes at to) s.spelling in
    record { forward = s.forward; within = s.within; spelling = (c.0 ∷ [], c.1.0, c.1.1, refl, refl) }

-- the byte that was read is the first byte
the_first : {V : Type 0} {F : V → Format} {bytes : List ℕ} {at mid to k : ℕ} (w : V) (first : HasFirst F) → Reads byte bytes at (Ok (k, mid)) → Spelled (F w) bytes at to → Starts k (slice_range bytes at to)
the_first {bytes = bytes} {at = at} {to = to} w first h s =
    let c = first w (slice_range bytes at to) s.spelling in
    let after = after_read {w = c.0} h (first_byte w first s) in
    subst (λ (b : ℕ). Starts b (slice_range bytes at to)) (sym after.0) c.1

following_first : {U V : Type 0} {F : V → Format} {A : U → Format} {con : U → V} {bytes : List ℕ} {at mid to k : ℕ} (b : ℕ) (w : V) (first : HasFirst F) → Arm F A b con → Reads byte bytes at (Ok (k, mid)) → k ≡ b → Spelled (F w) bytes at to → (u : U) × (w ≡ con u) × Spelled (A u) bytes mid to
following_first {A = A} {bytes = bytes} {at = at} {mid = mid} {to = to} b w first arm h is s =
    let starts = subst (λ (c : ℕ). Starts c (slice_range bytes at to)) is (the_first w first h s) in
    let only = arm.only w (slice_range bytes at to) s.spelling starts in
    let whole : Spelled (byte b then A only.0) bytes at to = record { forward = s.forward; within = s.within; spelling = only.2 } in
    (only.0, only.1, (after_read {w = b} h whole).1)

pub arm-ok : {U V : Type 0} {F : V → Format} {A : U → Format} {bytes : List ℕ} {at mid end k : ℕ} {u : U} (b : ℕ) (con : U → V) → HasFirst F → Arm F A b con → Reads byte bytes at (Ok (k, mid)) → k ≡ b → Reads A bytes mid (Ok (u, end)) → Reads F bytes at (Ok (con u, end))
arm-ok {F = F} {A = A} {bytes = bytes} {at = at} {mid = mid} {end = end} {u = u} b con first arm h is read =
    let front : Spelled (byte b) bytes at mid = subst (λ (c : ℕ). Spelled (byte c) bytes at mid) is h.found in
    let whole : Spelled (byte b then A u) bytes at end = join front read.found in
    record {
      found = record { forward = whole.forward; within = whole.within; spelling = arm.into u (slice_range bytes at end) whole.spelling };
      complete = λ w to s.
          let following = following_first b w first arm h is s in
          let same = same_read {w = following.0} read following.2 in
          (ap con same.0 ∙ sym following.1, same.1);
    }

pub arm-err : {U V : Type 0} {F : V → Format} {A : U → Format} {bytes : List ℕ} {at mid k : ℕ} {e : DecodeFault} (b : ℕ) (con : U → V) → HasFirst F → Arm F A b con → Reads byte bytes at (Ok (k, mid)) → k ≡ b → Reads A bytes mid (Err e) → Reads F bytes at (Err e)
arm-err b con first arm h is read = record {
  found = tt;
  complete = λ w to s.
      let following = following_first b w first arm h is s in
      none_read {w = following.0} read following.2;
}

pub arms-none : {V : Type 0} {F : V → Format} {bytes : List ℕ} {at mid k : ℕ} → HasFirst F → Reads byte bytes at (Ok (k, mid)) → ((w : V) (s : List ℕ) → F w s → Starts k s → ⊥) → Reads F bytes at (Err Malformed)
arms-none {bytes = bytes} {at = at} first h none =
    nothing (λ w to s. none w (slice_range bytes at to) s.spelling (the_first w first h s))

pub arms-unread : {V : Type 0} {F : V → Format} {bytes : List ℕ} {at : ℕ} {e : DecodeFault} → HasFirst F → Reads byte bytes at (Err e) → Reads F bytes at (Err e)
arms-unread {bytes = bytes} {at = at} first h = record {
  found = tt;
  complete = λ w to s. none_read {w = (first w (slice_range bytes at to) s.spelling).0} h (split (first_byte w first s)).first;
}
