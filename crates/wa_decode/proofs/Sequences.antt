-- Values one after another up to an `end` or an `else`, with which none of them begins.
use Rattle.std.proofs.Common.{◌≡◌, ℕ, ◌≤◌, List, [], ◌∷◌, ◌++◌, length, refl, sym, ap, subst, ◌∙◌, append_assoc}
use Rattle.std.proofs.lemmas.List.{append-nil}
use Rattle.std.specs.Prelude.{Ok, Err}
use Rattle.wa_syntax.specs.Formats.{Format, each}
use Rattle.wa_decode.specs.declared.fault.DecodeFault.{DecodeFault}
use Rattle.wa_decode.specs.declared.fault.DecodeFault.TheVariants.{NoMemory}
use Rattle.wa_decode.specs.Reading.{Spelled, Reads, ReadsUpTo, Stops}
use Rattle.wa_decode.proofs.Places.{split, none_here, none_only}
use Rattle.wa_decode.proofs.Reading.{none_read, after_read}
use Rattle.wa_decode.proofs.Vectors.{Behind, each-more}

-- no value begins with an `end` or an `else`
abbrev pub GoesOn : {V : Type 0} → (V → Format) → List ℕ → Type 0
GoesOn {V = V} B bytes = (v : V) (at end : ℕ) → Spelled (B v) bytes at end → Stops bytes at → ⊥

-- the first values were read, up to a position
pub record Begun {V : Type 0} (B : V → Format) (bytes : List ℕ) (start : ℕ) (values : List V) (at : ℕ) : Type 0 where
  pub found : Spelled (each B values) bytes start at
  pub complete : (all : List V) (end : ℕ) → Spelled (each B all) bytes start end → Stops bytes end → Behind B bytes at end values all

pub begun-none : {V : Type 0} (B : V → Format) (bytes : List ℕ) (start : ℕ) → start ≤ length bytes → Begun B bytes start [] start
begun-none B bytes start within = record {
  found = none_here bytes start within;
  complete = λ all end s stops. record { rest = all; whole = refl; spelled = s };
}

more_behind : {V : Type 0} (B : V → Format) (bytes : List ℕ) (at next end : ℕ) (values : List V) (v : V) (all rest : List V) → (Stops bytes at → ⊥) → Stops bytes end → all ≡ values ++ rest → Spelled (each B rest) bytes at end → Reads B bytes at (Ok (v, next)) → Behind B bytes next end (values ++ v ∷ []) all
more_behind B bytes at next end values v all [] goes_on stops whole s h =
    absurd (goes_on (subst (λ (place : ℕ). Stops bytes place) (sym (none_only s)) stops))
more_behind B bytes at next end values v all (r ∷ rest) goes_on stops whole s h =
    let after = after_read h s in
    record {
      rest = rest;
      whole = whole ∙ ap (λ (first : _). values ++ first ∷ rest) (sym after.0) ∙ sym (append_assoc values (v ∷ []) rest);
      spelled = after.1;
    }

pub begun-more : {V : Type 0} {B : V → Format} {bytes : List ℕ} {start : ℕ} {values : List V} {at next : ℕ} {v : V} → (Stops bytes at → ⊥) → Begun B bytes start values at → Reads B bytes at (Ok (v, next)) → Begun B bytes start (values ++ v ∷ []) next
begun-more {B = B} {bytes = bytes} {start = start} {values = values} {at = at} {next = next} {v = v} goes_on row h = record {
  found = each-more B bytes start at next values v h.found.within row.found h.found;
  complete = λ all end s stops.
      let following = row.complete all end s stops in
      more_behind B bytes at next end values v all following.rest goes_on stops following.whole following.spelled h;
}

none_behind : {V : Type 0} (B : V → Format) (bytes : List ℕ) (at end : ℕ) (rest : List V) (e : DecodeFault) → (Stops bytes at → ⊥) → Stops bytes end → Spelled (each B rest) bytes at end → Reads B bytes at (Err e) → e ≡ NoMemory
none_behind B bytes at end [] e goes_on stops s h =
    absurd (goes_on (subst (λ (place : ℕ). Stops bytes place) (sym (none_only s)) stops))
none_behind B bytes at end (r ∷ rest) e goes_on stops s h = none_read h (split s).first

pub begun-err : {V : Type 0} {B : V → Format} {bytes : List ℕ} {start : ℕ} {values : List V} {at : ℕ} {e : DecodeFault} → (Stops bytes at → ⊥) → Begun B bytes start values at → Reads B bytes at (Err e) → ReadsUpTo B bytes start (Err e)
begun-err {B = B} {bytes = bytes} {at = at} {e = e} goes_on row h = record {
  found = tt;
  complete = λ all end s stops.
      let following = row.complete all end s stops in
      none_behind B bytes at end following.rest e goes_on stops following.spelled h;
}

all_behind : {V : Type 0} (B : V → Format) (bytes : List ℕ) (at end : ℕ) (values all rest : List V) → GoesOn B bytes → Stops bytes at → all ≡ values ++ rest → Spelled (each B rest) bytes at end → (values ≡ all) × (at ≡ end)
all_behind B bytes at end values all [] goes_on stops whole s = (sym (whole ∙ append-nil values), none_only s)
all_behind B bytes at end values all (r ∷ rest) goes_on stops whole s =
    let parts = split s in
    absurd (goes_on r at parts.mid parts.first stops)

pub begun-done : {V : Type 0} {B : V → Format} {bytes : List ℕ} {start : ℕ} {values : List V} {at : ℕ} → GoesOn B bytes → Stops bytes at → Begun B bytes start values at → ReadsUpTo B bytes start (Ok (values, at))
begun-done {B = B} {bytes = bytes} {values = values} {at = at} goes_on stops row = record {
  found = (row.found, stops);
  complete = λ all end s stop.
      let following = row.complete all end s stop in
      all_behind B bytes at end values all following.rest goes_on stops following.whole following.spelled;
}
