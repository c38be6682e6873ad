-- Values read one after another, and vectors of them.
use Rattle.std.proofs.Common.{◌≡◌, ℕ, ◌+◌, ◌<◌, ◌≤◌, List, [], ◌∷◌, ◌++◌, length, refl, sym, ap, subst, ◌∙◌, arith, append_assoc}
use Rattle.std.proofs.lemmas.List.{append-nil, length-append}
use Rattle.std.specs.Prelude.{Ok, Err}
use Rattle.wa_syntax.specs.Formats.{Format, each, vec, u32}
use Rattle.wa_decode.specs.declared.fault.DecodeFault.{DecodeFault}
use Rattle.wa_decode.specs.declared.fault.DecodeFault.TheVariants.{NoMemory}
use Rattle.wa_decode.specs.Reading.{Spelled, Reads}
use Rattle.wa_decode.proofs.Places.{join, split, none_here, none_only}
use Rattle.wa_decode.proofs.Reading.{none_read, after_read}

-- what comes after some first values
pub record Behind {V : Type 0} (B : V → Format) (bytes : List ℕ) (at end : ℕ) (values all : List V) : Type 0 where
  pub rest : List V
  pub whole : all ≡ values ++ rest
  pub spelled : Spelled (each B rest) bytes at end

-- of so many values, the first were read, up to a position
pub record Row {V : Type 0} (B : V → Format) (bytes : List ℕ) (start count : ℕ) (values : List V) (at : ℕ) : Type 0 where
  pub found : Spelled (each B values) bytes start at
  pub complete : (all : List V) (end : ℕ) → length all ≡ count → Spelled (each B all) bytes start end → Behind B bytes at end values all

pub row-none : {V : Type 0} (B : V → Format) (bytes : List ℕ) (start count : ℕ) → start ≤ length bytes → Row B bytes start count [] start
row-none B bytes start count within = record {
  found = none_here bytes start within;
  complete = λ all end long s. record { rest = all; whole = refl; spelled = s };
}

pub each-more : {V : Type 0} (B : V → Format) (bytes : List ℕ) (start at next : ℕ) (values : List V) (v : V) → next ≤ length bytes → Spelled (each B values) bytes start at → Spelled (B v) bytes at next → Spelled (each B (values ++ v ∷ [])) bytes start next
each-more B bytes start at next [] v within s here =
    let same : start ≡ at = none_only s in
    join (subst (λ (place : ℕ). Spelled (B v) bytes place next) (sym same) here) (none_here bytes next within)
each-more B bytes start at next (w ∷ values) v within s here =
    let parts = split s in
    join parts.first (each-more B bytes parts.mid at next values v within parts.second here)

-- another value is read
following-more : {V : Type 0} (B : V → Format) (bytes : List ℕ) (at next end : ℕ) (values : List V) (v : V) (all rest : List V) → length values < length all → all ≡ values ++ rest → Spelled (each B rest) bytes at end → Reads B bytes at (Ok (v, next)) → Behind B bytes next end (values ++ v ∷ []) all
following-more B bytes at next end values v all [] few whole s h =
    absurd (omega (arith, ap length whole, ap length (append-nil values), few))
following-more B bytes at next end values v all (r ∷ rest) few whole s h =
    let after = after_read h s in
    record {
      rest = rest;
      whole = whole ∙ ap (λ (first : _). values ++ first ∷ rest) (sym after.0) ∙ sym (append_assoc values (v ∷ []) rest);
      spelled = after.1;
    }

pub row-more : {V : Type 0} {B : V → Format} {bytes : List ℕ} {start count : ℕ} {values : List V} {at next : ℕ} {v : V} → length values < count → Row B bytes start count values at → Reads B bytes at (Ok (v, next)) → Row B bytes start count (values ++ v ∷ []) next
row-more {B = B} {bytes = bytes} {start = start} {values = values} {at = at} {next = next} {v = v} few row h = record {
  found = each-more B bytes start at next values v h.found.within row.found h.found;
  complete = λ all end long s.
      let following = row.complete all end long s in
      following-more B bytes at next end values v all following.rest (omega arith) following.whole following.spelled h;
}

-- no other value is
following-none : {V : Type 0} (B : V → Format) (bytes : List ℕ) (at end : ℕ) (values all rest : List V) (e : DecodeFault) → length values < length all → all ≡ values ++ rest → Spelled (each B rest) bytes at end → Reads B bytes at (Err e) → e ≡ NoMemory
following-none B bytes at end values all [] e few whole s h =
    absurd (omega (arith, ap length whole, ap length (append-nil values), few))
following-none B bytes at end values all (r ∷ rest) e few whole s h = none_read h (split s).first

pub row-err : {V : Type 0} {B : V → Format} {bytes : List ℕ} {start count : ℕ} {values : List V} {at : ℕ} {e : DecodeFault} → length values < count → Row B bytes start count values at → Reads B bytes at (Err e) → (all : List V) (end : ℕ) → length all ≡ count → Spelled (each B all) bytes start end → e ≡ NoMemory
row-err {B = B} {bytes = bytes} {values = values} {at = at} {e = e} few row h all end long s =
    let following = row.complete all end long s in
    following-none B bytes at end values all following.rest e (omega arith) following.whole following.spelled h

-- all were read
following-done : {V : Type 0} (B : V → Format) (bytes : List ℕ) (at end : ℕ) (values all rest : List V) → length values ≡ length all → all ≡ values ++ rest → Spelled (each B rest) bytes at end → (values ≡ all) × (at ≡ end)
following-done B bytes at end values all [] long whole s = (sym (whole ∙ append-nil values), none_only s)
following-done B bytes at end values all (r ∷ rest) long whole s =
    absurd (omega (arith, ap length whole, length-append values (r ∷ rest)))

pub row-done : {V : Type 0} {B : V → Format} {bytes : List ℕ} {start count : ℕ} {values : List V} {at : ℕ} → length values ≡ count → Row B bytes start count values at → (all : List V) (end : ℕ) → length all ≡ count → Spelled (each B all) bytes start end → (values ≡ all) × (at ≡ end)
row-done {B = B} {bytes = bytes} {values = values} {at = at} done row all end long s =
    let following = row.complete all end long s in
    following-done B bytes at end values all following.rest (omega arith) following.whole following.spelled

-- ---- vectors

pub vec-ok : {V : Type 0} {B : V → Format} {bytes : List ℕ} {from start count : ℕ} {values : List V} {at : ℕ} → Reads u32 bytes from (Ok (count, start)) → length values ≡ count → Row B bytes start count values at → Reads (vec B) bytes from (Ok (values, at))
vec-ok {B = B} {bytes = bytes} {from = from} {start = start} {values = values} {at = at} h done row = record {
  found = join (subst (λ (n : ℕ). Spelled (u32 n) bytes from start) (sym done) h.found) row.found;
  complete = λ all end s.
      let after = after_read h s in
      row-done done row all end (sym after.0) after.1;
}

pub vec-err : {V : Type 0} {B : V → Format} {bytes : List ℕ} {from start count : ℕ} {values : List V} {at : ℕ} {e : DecodeFault} → Reads u32 bytes from (Ok (count, start)) → length values < count → Row B bytes start count values at → Reads B bytes at (Err e) → Reads (vec B) bytes from (Err e)
vec-err h few row k = record {
  found = tt;
  complete = λ all end s.
      let after = after_read h s in
      row-err few row k all end (sym after.0) after.1;
}

pub vec-none : {V : Type 0} {B : V → Format} {bytes : List ℕ} {from : ℕ} {e : DecodeFault} → Reads u32 bytes from (Err e) → Reads (vec B) bytes from (Err e)
vec-none h = record {
  found = tt;
  complete = λ all end s. none_read h (split s).first;
}
