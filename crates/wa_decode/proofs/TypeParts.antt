-- Types, by what their parts are.
use Rattle.std.proofs.Common.{◌≡◌, ℕ, List, [], ◌∷◌, Bool, true, false, Option, None, Some, refl, ap, subst, ◌∙◌}
use Rattle.std.specs.Prelude.{Ok, Err, is_some}
use Rattle.wa_syntax.specs.declared.module.FuncTy.{FuncTy}
use Rattle.wa_syntax.specs.declared.module.GlobalTy.{GlobalTy}
use Rattle.wa_syntax.specs.declared.module.Limits.{Limits}
use Rattle.wa_syntax.specs.declared.module.ValTy.{ValTy}
use Rattle.wa_syntax.specs.declared.module.ValTy.TheVariants.{I32, I64}
use Rattle.wa_syntax.specs.Binary.{functype, limits, limits_of, mut, globaltype}
use Rattle.wa_syntax.specs.BinaryInstructions.{valtype, blocktype}
use Rattle.wa_syntax.specs.Formats.{Format, ◌then◌, byte, vec, u32}
use Rattle.wa_decode.specs.declared.fault.DecodeFault.{DecodeFault}
use Rattle.wa_decode.specs.Reading.{Spelled, Reads}
use Rattle.wa_decode.specs.declared.fault.DecodeFault.TheVariants.{NoMemory}
use Rattle.wa_decode.proofs.Places.{join, split}
use Rattle.wa_decode.proofs.Reading.{IsOneByte, pair, as-ok, as-err, same_read, none_read, after_read}

pub valtype-byte : IsOneByte valtype
valtype-byte I32 s h = (0x7f, h)
valtype-byte I64 s h = (0x7e, h)

pub blocktype-byte : IsOneByte blocktype
blocktype-byte None s h = (0x40, h)
blocktype-byte (Some t) s h = valtype-byte t s h

pub mut-byte : IsOneByte mut
mut-byte false s h = (0x00, h)
mut-byte true s h = (0x01, h)

-- the parameters and the results
abbrev pub functype_parts : List ValTy × List ValTy → Format
functype_parts p = byte 0x60 then pair (vec valtype) (vec valtype) p

pub functype-ok : {bytes : List ℕ} {at end : ℕ} (params results : List ValTy) → Reads functype_parts bytes at (Ok ((params, results), end)) → Reads functype bytes at (Ok (record { params = params; results = results }, end))
functype-ok params results = as-ok (λ (p : List ValTy × List ValTy). record { params = p.0; results = p.1 }) (λ (t : FuncTy). (t.params, t.results)) (λ t. refl) (λ t s h. h) (λ h. h)

pub functype-err : {bytes : List ℕ} {at : ℕ} {e : DecodeFault} → Reads functype_parts bytes at (Err e) → Reads functype bytes at (Err e)
functype-err = as-err (λ (t : FuncTy). (t.params, t.results)) (λ t s h. h)

-- the type of the value, and whether it may be changed
pub globaltype-ok : {bytes : List ℕ} {at end : ℕ} (val : ValTy) (mutable : Bool) → Reads (pair valtype mut) bytes at (Ok ((val, mutable), end)) → Reads globaltype bytes at (Ok (record { val = val; mutable = mutable }, end))
globaltype-ok val mutable = as-ok (λ (p : ValTy × Bool). record { val = p.0; mutable = p.1 }) (λ (t : GlobalTy). (t.val, t.mutable)) (λ t. refl) (λ t s h. h) (λ h. h)

pub globaltype-err : {bytes : List ℕ} {at : ℕ} {e : DecodeFault} → Reads (pair valtype mut) bytes at (Err e) → Reads globaltype bytes at (Err e)
globaltype-err = as-err (λ (t : GlobalTy). (t.val, t.mutable)) (λ t s h. h)

-- ---- limits

limits-unread : {bytes : List ℕ} {at to : ℕ} {e : DecodeFault} (m : ℕ) (p : Option ℕ) → Reads mut bytes at (Err e) → Spelled (limits_of m p) bytes at to → e ≡ NoMemory
limits-unread m None h s = none_read {w = false} h (split s).first
limits-unread m (Some q) h s = none_read {w = true} h (split s).first

pub limits-none : {bytes : List ℕ} {at : ℕ} {e : DecodeFault} → Reads mut bytes at (Err e) → Reads limits bytes at (Err e)
limits-none h = record { found = tt; complete = λ l to s. limits-unread l.min l.max h s }

limits-min_unread : {bytes : List ℕ} {at mid to : ℕ} {b : Bool} {e : DecodeFault} (m : ℕ) (p : Option ℕ) → Reads mut bytes at (Ok (b, mid)) → Reads u32 bytes mid (Err e) → Spelled (limits_of m p) bytes at to → e ≡ NoMemory
limits-min_unread m None h k s = none_read {w = m} k (after_read {w = false} h s).1
limits-min_unread m (Some q) h k s = none_read {w = m} k (split (after_read {w = true} h s).1).first

pub limits-min : {bytes : List ℕ} {at mid : ℕ} {b : Bool} {e : DecodeFault} → Reads mut bytes at (Ok (b, mid)) → Reads u32 bytes mid (Err e) → Reads limits bytes at (Err e)
limits-min h k = record { found = tt; complete = λ l to s. limits-min_unread l.min l.max h k s }

limits-max_unread : {bytes : List ℕ} {at mid next to n : ℕ} {b : Bool} {e : DecodeFault} (m : ℕ) (p : Option ℕ) → b ≡ true → Reads mut bytes at (Ok (b, mid)) → Reads u32 bytes mid (Ok (n, next)) → Reads u32 bytes next (Err e) → Spelled (limits_of m p) bytes at to → e ≡ NoMemory
limits-max_unread m None is h k l s =
    let same = (after_read {w = false} h s).0 in
    absurd (cc)
limits-max_unread m (Some q) is h k l s = none_read {w = q} l (after_read {w = m} k (after_read {w = true} h s).1).1

pub limits-max : {bytes : List ℕ} {at mid next n : ℕ} {b : Bool} {e : DecodeFault} → b ≡ true → Reads mut bytes at (Ok (b, mid)) → Reads u32 bytes mid (Ok (n, next)) → Reads u32 bytes next (Err e) → Reads limits bytes at (Err e)
limits-max is h k l = record { found = tt; complete = λ w to s. limits-max_unread w.min w.max is h k l s }

same_limits : (m n : ℕ) (p q : Option ℕ) → m ≡ n → p ≡ q → ◌≡◌ {A = Limits} (record { min = m; max = p }) (record { min = n; max = q })
same_limits m n p q least greatest =
    ap (λ (x : ℕ). let l : Limits = record { min = x; max = p } in l) least ∙ ap (λ (y : Option ℕ). let l : Limits = record { min = n; max = y } in l) greatest

limits-at_least_only : {bytes : List ℕ} {at mid end to n : ℕ} {b : Bool} (m : ℕ) (p : Option ℕ) → b ≡ false → Reads mut bytes at (Ok (b, mid)) → Reads u32 bytes mid (Ok (n, end)) → Spelled (limits_of m p) bytes at to → (n ≡ m) × (None ≡ p) × (end ≡ to)
limits-at_least_only m None is h k s =
    let same = same_read {w = m} k (after_read {w = false} h s).1 in
    (same.0, refl, same.1)
limits-at_least_only m (Some q) is h k s =
    let same = (after_read {w = true} h s).0 in
    absurd (cc)

pub limits-at_least : {bytes : List ℕ} {at mid end n : ℕ} {b : Bool} → b ≡ false → Reads mut bytes at (Ok (b, mid)) → Reads u32 bytes mid (Ok (n, end)) → Reads limits bytes at (Ok (record { min = n; max = None }, end))
limits-at_least {bytes = bytes} {at = at} {mid = mid} {n = n} is h k = record {
  found = join (subst (λ (b : Bool). Spelled (mut b) bytes at mid) is h.found) k.found;
  complete = λ w to s.
      let same = limits-at_least_only w.min w.max is h k s in
      (same_limits n w.min None w.max same.0 same.1, same.2);
}

limits-between_only : {bytes : List ℕ} {at mid next end to n o : ℕ} {b : Bool} (m : ℕ) (p : Option ℕ) → b ≡ true → Reads mut bytes at (Ok (b, mid)) → Reads u32 bytes mid (Ok (n, next)) → Reads u32 bytes next (Ok (o, end)) → Spelled (limits_of m p) bytes at to → (n ≡ m) × (Some o ≡ p) × (end ≡ to)
limits-between_only m None is h k l s =
    let same = (after_read {w = false} h s).0 in
    absurd (cc)
limits-between_only m (Some q) is h k l s =
    let first = after_read {w = m} k (after_read {w = true} h s).1 in
    let second = same_read {w = q} l first.1 in
    (first.0, ap (λ (x : ℕ). Some x) second.0, second.1)

pub limits-between : {bytes : List ℕ} {at mid next end n o : ℕ} {b : Bool} → b ≡ true → Reads mut bytes at (Ok (b, mid)) → Reads u32 bytes mid (Ok (n, next)) → Reads u32 bytes next (Ok (o, end)) → Reads limits bytes at (Ok (record { min = n; max = Some o }, end))
limits-between {bytes = bytes} {at = at} {mid = mid} {n = n} {o = o} is h k l = record {
  found = join (subst (λ (b : Bool). Spelled (mut b) bytes at mid) is h.found) (join k.found l.found);
  complete = λ w to s.
      let same = limits-between_only w.min w.max is h k l s in
      (same_limits n w.min (Some o) w.max same.0 same.1, same.2);
}

-- ---- the type of a block

pub blocktype-none : (b : ℕ) (r : Option ValTy) → ((t : ValTy) → valtype t (b ∷ []) → r ≡ Some t) → is_some r ≡ false → (b ≡ 0x40 → ⊥) → (w : Option ValTy) → blocktype w (b ∷ []) → ⊥
blocktype-none b r complete none not_empty None h = not_empty (cc)
blocktype-none b r complete none not_empty (Some t) h =
    let some : is_some r ≡ true = ap is_some (complete t h) in
    absurd (cc)
