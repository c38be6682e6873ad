-- Readers one after another.
use Rattle.std.proofs.Common.{◌≡◌, ℕ, ◌+◌, ◌<◌, List, [], ◌∷◌, length, get_or, slice_get, slice_range, Some, refl, sym, ap, subst, ◌∙◌}
use Rattle.std.specs.Prelude.{Result, Ok, Err, IsErrAnd}
use Rattle.std.proofs.lemmas.Result.{IfOk-weaker, err_from_is_err_and}
use Rattle.wa_syntax.specs.Formats.{Format, ◌then◌, byte}
use Rattle.wa_decode.specs.declared.fault.DecodeFault.{DecodeFault}
use Rattle.wa_decode.specs.declared.fault.DecodeFault.TheVariants.{NoMemory, Malformed}
use Rattle.wa_decode.specs.Reading.{Spelled, Reads, Passes}
use Rattle.wa_decode.proofs.Places.{join, split, byte_here, byte_only, get_or-slice_get}

-- what is spelled where the value was read is that value
pub same_read : {V : Type 0} {B : V → Format} {bytes : List ℕ} {at mid end : ℕ} {v w : V} → Reads B bytes at (Ok (v, mid)) → Spelled (B w) bytes at end → (v ≡ w) × (mid ≡ end)
same_read {end = end} {w = w} h k = h.complete w end k

pub none_read : {V : Type 0} {B : V → Format} {bytes : List ℕ} {at end : ℕ} {w : V} {e : DecodeFault} → Reads B bytes at (Err e) → Spelled (B w) bytes at end → e ≡ NoMemory
none_read {end = end} {w = w} h k = h.complete w end k

-- ---- two values

-- one value after another
abbrev pub pair : {U V : Type 0} → (U → Format) → (V → Format) → U × V → Format
pair A B p = A p.0 then B p.1

pub same_pair : {U V : Type 0} (a c : U) (b d : V) → a ≡ c → b ≡ d → ◌≡◌ {A = U × V} (a, b) (c, d)
same_pair {U = U} {V = V} a c b d first second =
    ap (λ (x : U). let p : U × V = (x, b) in p) first ∙ ap (λ (y : V). let p : U × V = (c, y) in p) second

-- what is spelled after what was read
pub after_read : {U : Type 0} {A : U → Format} {B : Format} {bytes : List ℕ} {at mid end : ℕ} {u w : U} → Reads A bytes at (Ok (u, mid)) → Spelled (A w then B) bytes at end → (u ≡ w) × Spelled B bytes mid end
after_read {B = B} {bytes = bytes} {end = end} h s =
    let parts = split s in
    let first = same_read h parts.first in
    (first.0, subst (λ (m : ℕ). Spelled B bytes m end) (sym first.1) parts.second)

pub pair-ok : {U V : Type 0} {A : U → Format} {B : V → Format} {bytes : List ℕ} {at mid end : ℕ} {u : U} {v : V} → Reads A bytes at (Ok (u, mid)) → Reads B bytes mid (Ok (v, end)) → Reads (pair A B) bytes at (Ok ((u, v), end))
pair-ok {u = u} {v = v} h k = record {
  found = join h.found k.found;
  complete = λ w to s.
      let first = after_read {w = w.0} h s in
      let second = same_read {w = w.1} k first.1 in
      (same_pair u w.0 v w.1 first.0 second.0, second.1);
}

pub pair-err : {U V : Type 0} {A : U → Format} {B : V → Format} {bytes : List ℕ} {at mid : ℕ} {u : U} {e : DecodeFault} → Reads A bytes at (Ok (u, mid)) → Reads B bytes mid (Err e) → Reads (pair A B) bytes at (Err e)
pair-err h k = record {
  found = tt;
  complete = λ w to s. none_read {w = w.1} k (after_read {w = w.0} h s).1;
}

pub pair-none : {U V : Type 0} {A : U → Format} (B : V → Format) {bytes : List ℕ} {at : ℕ} {e : DecodeFault} → Reads A bytes at (Err e) → Reads (pair A B) bytes at (Err e)
pair-none B h = record {
  found = tt;
  complete = λ w to s. none_read {w = w.0} h (split s).first;
}

-- ---- what is known before a value, or after it

pub pass : {V : Type 0} {A : Format} {B : V → Format} {bytes : List ℕ} {at mid : ℕ} {r : Result (V × ℕ) DecodeFault} → Passes A bytes at (Ok mid) → Reads B bytes mid r → Reads (λ v. A then B v) bytes at r
pass {A = A} {B = B} {bytes = bytes} {at = at} {mid = mid} {r = r} h k = record {
  found = IfOk-weaker r (λ read. Spelled (B read.0) bytes mid read.1) (λ read. Spelled (A then B read.0) bytes at read.1) (λ read s. join h.found s) k.found;
  complete = λ v end s.
      let parts = split s in
      k.complete v end (subst (λ (m : ℕ). Spelled (B v) bytes m end) (sym (h.complete parts.mid parts.first)) parts.second);
}

pub pass-none : {V : Type 0} {A : Format} {B : V → Format} {bytes : List ℕ} {at : ℕ} {e : DecodeFault} → Passes A bytes at (Err e) → Reads (λ v. A then B v) bytes at (Err e)
pass-none h = record {
  found = tt;
  complete = λ v end s. let parts = split s in h.complete parts.mid parts.first;
}

pub closed : {V : Type 0} {A : V → Format} {B : Format} {bytes : List ℕ} {at mid end : ℕ} {v : V} → Reads A bytes at (Ok (v, mid)) → Passes B bytes mid (Ok end) → Reads (λ w. A w then B) bytes at (Ok (v, end))
closed {B = B} {bytes = bytes} h k = record {
  found = join h.found k.found;
  complete = λ w to s.
      let parts = split s in
      let first = same_read h parts.first in
      (first.0, k.complete to (subst (λ (m : ℕ). Spelled B bytes m to) (sym first.1) parts.second));
}

pub closed-err : {V : Type 0} {A : V → Format} {B : Format} {bytes : List ℕ} {at mid : ℕ} {v : V} {e : DecodeFault} → Reads A bytes at (Ok (v, mid)) → Passes B bytes mid (Err e) → Reads (λ w. A w then B) bytes at (Err e)
closed-err {B = B} {bytes = bytes} h k = record {
  found = tt;
  complete = λ w to s.
      let parts = split s in
      let first = same_read h parts.first in
      k.complete to (subst (λ (m : ℕ). Spelled B bytes m to) (sym first.1) parts.second);
}

pub closed-none : {V : Type 0} {A : V → Format} {B : Format} {bytes : List ℕ} {at : ℕ} {e : DecodeFault} → Reads A bytes at (Err e) → Reads (λ w. A w then B) bytes at (Err e)
closed-none h = record {
  found = tt;
  complete = λ w to s. none_read h (split s).first;
}

-- ---- another form of the value

pub as-ok : {U V : Type 0} {P : U → Format} {F : V → Format} {bytes : List ℕ} {at end : ℕ} {u : U} (to : U → V) (of : V → U) → ((v : V) → to (of v) ≡ v) → ((v : V) (s : List ℕ) → F v s → P (of v) s) → (P u (slice_range bytes at end) → F (to u) (slice_range bytes at end)) → Reads P bytes at (Ok (u, end)) → Reads F bytes at (Ok (to u, end))
as-ok {u = u} to of back down up h = record {
  found = record { forward = h.found.forward; within = h.found.within; spelling = up h.found.spelling };
  complete = λ w last s.
      let same = h.complete (of w) last (record { forward = s.forward; within = s.within; spelling = down w _ s.spelling }) in
      (ap to same.0 ∙ back w, same.1);
}

pub as-err : {U V : Type 0} {P : U → Format} {F : V → Format} {bytes : List ℕ} {at : ℕ} {e : DecodeFault} (of : V → U) → ((v : V) (s : List ℕ) → F v s → P (of v) s) → Reads P bytes at (Err e) → Reads F bytes at (Err e)
as-err of down h = record {
  found = tt;
  complete = λ w last s. h.complete (of w) last (record { forward = s.forward; within = s.within; spelling = down w _ s.spelling });
}

-- ---- failures

pub no_memory : {V : Type 0} (F : V → Format) (bytes : List ℕ) (at : ℕ) → Reads F bytes at (Err NoMemory)
no_memory F bytes at = record { found = tt; complete = λ w to s. refl }

pub nothing : {V : Type 0} {F : V → Format} {bytes : List ℕ} {at : ℕ} → ((v : V) (end : ℕ) → Spelled (F v) bytes at end → ⊥) → Reads F bytes at (Err Malformed)
nothing none = record { found = tt; complete = λ w to s. absurd (none w to s) }

-- what was read through a slice
pub read : {V : Type 0} {F : V → Format} {bytes : List ℕ} {at end : ℕ} {v : V} → Spelled (F v) bytes at end → ((w : V) (to : ℕ) → Spelled (F w) bytes at to → (v ≡ w) × (end ≡ to)) → Reads F bytes at (Ok (v, end))
read found complete = record { found = found; complete = complete }

pub unread : {V : Type 0} {F : V → Format} {bytes : List ℕ} {at : ℕ} {e : DecodeFault} → ((w : V) (to : ℕ) → Spelled (F w) bytes at to → e ≡ NoMemory) → Reads F bytes at (Err e)
unread complete = record { found = tt; complete = complete }

-- what `?` returns
pub returned : {V : Type 0} {F : V → Format} {bytes : List ℕ} {at : ℕ} {e : DecodeFault} (r : Result (V × ℕ) DecodeFault) → IsErrAnd r (λ fault. fault ≡ e) → Reads F bytes at (Err e) → Reads F bytes at r
returned {F = F} {bytes = bytes} {at = at} r is h =
    let failed = err_from_is_err_and r is in
    let whole : r ≡ Err failed.0 = failed.1 in
    let same : failed.0 ≡ _ = failed.2 in
    subst (λ (answer : _). Reads F bytes at answer) (sym whole) (subst (λ (fault : DecodeFault). Reads F bytes at (Err fault)) (sym same) h)

-- ---- one byte

pub byte-ok : (bytes : List ℕ) (at b : ℕ) → slice_get bytes at ≡ Some b → Reads byte bytes at (Ok (b, at + 1))
byte-ok bytes at b is = record {
  found = byte_here bytes at b is;
  complete = λ c end s. let only = byte_only s in let here = only.0 in (cc, sym only.1);
}

pub byte-at : (bytes : List ℕ) (at b : ℕ) → at < length bytes → b ≡ get_or bytes at 0 → Reads byte bytes at (Ok (b, at + 1))
byte-at bytes at b within is = byte-ok bytes at b (get_or-slice_get bytes at within ∙ ap (λ (c : ℕ). Some c) (sym is))

-- a value that is one byte, by that byte
abbrev pub IsOneByte : {V : Type 0} → (V → Format) → Type 0
IsOneByte {V = V} F = (v : V) (s : List ℕ) → F v s → (b : ℕ) × (s ≡ b ∷ [])

the_byte : {V : Type 0} {F : V → Format} {bytes : List ℕ} {at mid end : ℕ} {b : ℕ} (v : V) → IsOneByte F → Reads byte bytes at (Ok (b, mid)) → Spelled (F v) bytes at end → F v (b ∷ []) × (mid ≡ end)
the_byte {F = F} {bytes = bytes} {at = at} {end = end} v one h s =
    let it = one v (slice_range bytes at end) s.spelling in
    let same = same_read {end = end} {w = it.0} h (record { forward = s.forward; within = s.within; spelling = it.1 }) in
    (subst (F v) (it.1 ∙ ap (λ (c : ℕ). c ∷ []) (sym same.0)) s.spelling, same.1)

pub one_byte-ok : {V : Type 0} {F : V → Format} {bytes : List ℕ} {at mid b : ℕ} {v : V} → IsOneByte F → Reads byte bytes at (Ok (b, mid)) → F v (b ∷ []) → ((w : V) → F w (b ∷ []) → v ≡ w) → Reads F bytes at (Ok (v, mid))
one_byte-ok {F = F} {v = v} one h is only = record {
  found = record { forward = h.found.forward; within = h.found.within; spelling = subst (F v) (sym h.found.spelling) is };
  complete = λ w to s. let it = the_byte w one h s in (only w it.0, it.1);
}

pub one_byte-none : {V : Type 0} {F : V → Format} {bytes : List ℕ} {at mid b : ℕ} → IsOneByte F → Reads byte bytes at (Ok (b, mid)) → ((w : V) → F w (b ∷ []) → ⊥) → Reads F bytes at (Err Malformed)
one_byte-none one h none = record {
  found = tt;
  complete = λ w to s. absurd (none w (the_byte w one h s).0);
}

pub one_byte-err : {V : Type 0} {F : V → Format} {bytes : List ℕ} {at : ℕ} {e : DecodeFault} → IsOneByte F → Reads byte bytes at (Err e) → Reads F bytes at (Err e)
one_byte-err {bytes = bytes} {at = at} one h = record {
  found = tt;
  complete = λ w to s. let it = one w (slice_range bytes at to) s.spelling in none_read {end = to} {w = it.0} h (record { forward = s.forward; within = s.within; spelling = it.1 });
}
