-- Sections by their positions, and the custom ones before them.
use Rattle.std.proofs.Common.{◌≡◌, ◌≢◌, ℕ, ◌+◌, ◌-◌, ◌<◌, ◌≤◌, ◌⊎◌, List, [], ◌∷◌, ◌++◌, length, drop, map, slice_get, slice_range, Option, None, Some, refl, sym, ap, subst, ◌∙◌, inl, inr, arith}
use Rattle.std.proofs.lemmas.Result.{err_from_is_err_and}
use Rattle.std.specs.Prelude.{Result, Ok, Err, IsErrAnd}
use Rattle.wa_syntax.specs.declared.module.Func.{Func}
use Rattle.wa_syntax.specs.Binary.{section, vecsec, custom, startsec, code}
use Rattle.wa_syntax.specs.Binary as binary
use Rattle.wa_syntax.specs.Formats.{Format, ◌then◌, exactly, each, byte, vec, name, sized, u32}
use Rattle.wa_syntax.proofs.Places.{slice_range-more}
use Rattle.wa_decode.specs.declared.fault.DecodeFault.{DecodeFault}
use Rattle.wa_decode.specs.declared.fault.DecodeFault.TheVariants.{NoMemory, Malformed}
use Rattle.wa_decode.specs.Codes.{codes_of, codesec}
use Rattle.wa_decode.specs.Reading.{Spelled, Reads, Passes, counted}
use Rattle.wa_decode.specs.Sections.{meaningless, PastCustoms, IsSection, ReadsTo}
use Rattle.wa_decode.proofs.Places.{join, split, none_here, none_only, byte_here, byte_only, slice_get-get_or, slice_range-none}
use Rattle.wa_decode.proofs.Reading.{same_read, none_read}
use Rattle.wa_decode.proofs.Sized.{Holds, slice_range-rest}
use Rattle.wa_decode.proofs.Tails.{Starts}

-- ---- the byte at a position

-- what begins with a byte has it at the position
pub starts_there : {bytes : List ℕ} {at end b : ℕ} {A : Format} → Spelled A bytes at end → Starts b (slice_range bytes at end) → slice_get bytes at ≡ Some b
starts_there {bytes = bytes} {at = at} {end = end} {b = b} s starts =
    let whole : Spelled (byte b then exactly starts.0) bytes at end = record { forward = s.forward; within = s.within; spelling = (b ∷ [], starts.0, starts.1, refl, refl) } in
    (byte_only (split whole).first).0

-- the bytes from there on begin with it
pub there_starts : (bytes : List ℕ) (at end : ℕ) {b : ℕ} → at < end → slice_get bytes at ≡ Some b → Starts b (slice_range bytes at end)
there_starts bytes at end {b = b} some is =
    let here = slice_get-get_or bytes at b is in
    (slice_range bytes (at + 1) end, slice_range-more bytes at end here.0 some ∙ ap (λ (c : ℕ). c ∷ slice_range bytes (at + 1) end) here.1)

-- ---- custom sections

no_customs : (cs : List (List ℕ × List ℕ)) (bytes : List ℕ) (at end : ℕ) → slice_get bytes at ≢ Some 0 → Spelled (each custom cs) bytes at end → at ≡ end
no_customs [] bytes at end over s = none_only s
no_customs (c ∷ cs) bytes at end over s = absurd (over (byte_only (split (split s).first).first).0)

-- there is none where there is another byte
pub customs-none : {bytes : List ℕ} {at end : ℕ} → slice_get bytes at ≢ Some 0 → Spelled binary.customs bytes at end → at ≡ end
customs-none {bytes = bytes} {at = at} {end = end} over s =
    no_customs s.spelling.0 bytes at end over (record { forward = s.forward; within = s.within; spelling = s.spelling.1 })

pub customs-here : (bytes : List ℕ) (at : ℕ) → at ≤ length bytes → Spelled binary.customs bytes at at
customs-here bytes at within = record { forward = omega arith; within = within; spelling = ([], slice_range-none bytes at) }

-- one more, at the front
pub customs-front : {bytes : List ℕ} {at next end : ℕ} → Spelled (byte 0 then meaningless) bytes at next → Spelled binary.customs bytes next end → Spelled binary.customs bytes at end
customs-front {bytes = bytes} {at = at} {next = next} {end = end} h s =
    let c : List ℕ × List ℕ = h.spelling.4.0 in
    let first : Spelled (custom c) bytes at next = record { forward = h.forward; within = h.within; spelling = (h.spelling.0, h.spelling.1, h.spelling.2, h.spelling.3, h.spelling.4.1) } in
    let rest : Spelled (each custom s.spelling.0) bytes next end = record { forward = s.forward; within = s.within; spelling = s.spelling.1 } in
    let whole : Spelled (each custom (c ∷ s.spelling.0)) bytes at end = join first rest in
    record { forward = whole.forward; within = whole.within; spelling = (c ∷ s.spelling.0, whole.spelling) }

back_custom : (cs : List (List ℕ × List ℕ)) (c : List ℕ × List ℕ) (bytes : List ℕ) (at next end : ℕ) → Spelled (each custom cs) bytes at next → Spelled (custom c) bytes next end → Spelled (each custom (cs ++ c ∷ [])) bytes at end
back_custom [] c bytes at next end s h =
    let same : at ≡ next = none_only s in
    join (subst (λ (place : ℕ). Spelled (custom c) bytes place end) (sym same) h) (none_here bytes end h.within)
back_custom (d ∷ cs) c bytes at next end s h =
    let parts = split s in
    join parts.first (back_custom cs c bytes parts.mid next end parts.second h)

-- one more, at the end
pub customs-more : {bytes : List ℕ} {at next end : ℕ} → Spelled binary.customs bytes at next → Spelled (byte 0 then meaningless) bytes next end → Spelled binary.customs bytes at end
customs-more {bytes = bytes} {at = at} {next = next} {end = end} s h =
    let c : List ℕ × List ℕ = h.spelling.4.0 in
    let last : Spelled (custom c) bytes next end = record { forward = h.forward; within = h.within; spelling = (h.spelling.0, h.spelling.1, h.spelling.2, h.spelling.3, h.spelling.4.1) } in
    let first : Spelled (each custom s.spelling.0) bytes at next = record { forward = s.forward; within = s.within; spelling = s.spelling.1 } in
    let whole = back_custom s.spelling.0 c bytes at next end first last in
    record { forward = whole.forward; within = whole.within; spelling = (s.spelling.0 ++ c ∷ [], whole.spelling) }

customs_split : (cs : List (List ℕ × List ℕ)) (bytes : List ℕ) (at place : ℕ) → slice_get bytes at ≡ Some 0 → Spelled (each custom cs) bytes at place → slice_get bytes place ≢ Some 0 → (next : ℕ) × Spelled meaningless bytes (at + 1) next × PastCustoms bytes next place
customs_split [] bytes at place is s over =
    let same : at ≡ place = none_only s in
    absurd (over (ap (λ (n : ℕ). slice_get bytes n) (sym same) ∙ is))
customs_split (c ∷ cs) bytes at place is s over =
    let parts = split s in
    let first = split parts.first in
    let following : first.mid ≡ at + 1 = (byte_only first.first).1 in
    let second : Spelled (sized (name c.0 then exactly c.1)) bytes (at + 1) parts.mid = subst (λ (m : ℕ). Spelled (sized (name c.0 then exactly c.1)) bytes m parts.mid) following first.second in (
      parts.mid,
      (record { forward = second.forward; within = second.within; spelling = (c, second.spelling) }),
      (record { customs = record { forward = parts.second.forward; within = parts.second.within; spelling = (cs, parts.second.spelling) }; over = over }),
    )

-- the first of them, and what is after it
pub past-split : {bytes : List ℕ} {at place : ℕ} → slice_get bytes at ≡ Some 0 → PastCustoms bytes at place → (next : ℕ) × Spelled meaningless bytes (at + 1) next × PastCustoms bytes next place
past-split {bytes = bytes} {at = at} {place = place} is past =
    let s = past.customs in
    customs_split s.spelling.0 bytes at place is (record { forward = s.forward; within = s.within; spelling = s.spelling.1 }) past.over

-- ---- the reader of custom sections

-- the first of them were skipped, up to a position
pub record Over (bytes : List ℕ) (start at : ℕ) : Type 0 where
  pub found : Spelled binary.customs bytes start at
  pub complete : (place : ℕ) → PastCustoms bytes start place → PastCustoms bytes at place

pub over-none : (bytes : List ℕ) (start : ℕ) → start ≤ length bytes → Over bytes start start
over-none bytes start within = record { found = customs-here bytes start within; complete = λ place past. past }

pub over-more : {bytes : List ℕ} {start at next : ℕ} → slice_get bytes at ≡ Some 0 → Over bytes start at → Passes meaningless bytes (at + 1) (Ok next) → Over bytes start next
over-more {bytes = bytes} {start = start} {at = at} {next = next} is row h = record {
  found = customs-more row.found (join (byte_here bytes at 0 is) h.found);
  complete = λ place past.
      let parts = past-split is (row.complete place past) in
      subst (λ (m : ℕ). PastCustoms bytes m place) (sym (h.complete parts.0 parts.1)) parts.2;
}

pub over-err : {bytes : List ℕ} {start at place : ℕ} {e : DecodeFault} → slice_get bytes at ≡ Some 0 → Over bytes start at → Passes meaningless bytes (at + 1) (Err e) → PastCustoms bytes start place → e ≡ NoMemory
over-err {place = place} is row h past =
    let parts = past-split is (row.complete place past) in
    h.complete parts.0 parts.1

pub over-done : {bytes : List ℕ} {start at place : ℕ} → slice_get bytes at ≢ Some 0 → Over bytes start at → PastCustoms bytes start place → at ≡ place
over-done over row past = customs-none over (row.complete _ past).customs

-- a custom section, after its id
custom_of : {bytes : List ℕ} {at : ℕ} {front : List ℕ} {start to : ℕ} → Holds bytes at front start → Spelled meaningless bytes at to → (c : List ℕ × List ℕ) × Spelled (name c.0 then exactly c.1) front start (length front) × (length front ≡ to)
custom_of {front = front} {start = start} {to = to} h s =
    let c : List ℕ × List ℕ = s.spelling.0 in
    let content : List ℕ = s.spelling.1.0 in
    let same = h.complete content to (record { forward = s.forward; within = s.within; spelling = s.spelling.1.2 }) in
    (c, (record { forward = h.starts; within = omega arith; spelling = subst (name c.0 then exactly c.1) (sym (slice_range-rest front start ∙ same.0)) s.spelling.1.1 }), same.1)

pub custom-ok : {bytes : List ℕ} {at : ℕ} {front : List ℕ} {start mid : ℕ} (text : List ℕ) → Holds bytes at front start → Spelled (name text) front start mid → Passes meaningless bytes at (Ok (length front))
custom-ok {bytes = bytes} {at = at} {front = front} {start = start} {mid = mid} text h named =
    let c : List ℕ × List ℕ = (text, slice_range front mid (length front)) in
    let rest : Spelled (exactly c.1) front mid (length front) = record { forward = named.within; within = omega arith; spelling = refl } in
    let whole : Spelled (name text then exactly c.1) front start (length front) = join named rest in
    record {
      found = record {
        forward = h.found.forward;
        within = h.found.within;
        spelling = (c, (drop start front, subst (name text then exactly c.1) (slice_range-rest front start) whole.spelling, h.found.spelling));
      };
      complete = λ to s. (custom_of h s).2;
    }

pub custom-unnamed : {bytes : List ℕ} {at : ℕ} {front : List ℕ} {start : ℕ} {e : DecodeFault} → Holds bytes at front start → ((text : List ℕ) (end : ℕ) → Spelled (name text) front start end → e ≡ NoMemory) → Passes meaningless bytes at (Err e)
custom-unnamed h none = record {
  found = tt;
  complete = λ to s.
      let c = custom_of h s in
      let parts = split c.1 in
      none c.0.0 parts.mid parts.first;
}

pub custom-none : {bytes : List ℕ} {at : ℕ} {e : DecodeFault} → ((content : List ℕ) (end : ℕ) → Spelled (counted content) bytes at end → e ≡ NoMemory) → Passes meaningless bytes at (Err e)
custom-none none = record {
  found = tt;
  complete = λ to s. none s.spelling.1.0 to (record { forward = s.forward; within = s.within; spelling = s.spelling.1.2 });
}

-- what `?` returns
pub returned-place : {A : Format} {bytes : List ℕ} {at : ℕ} {e : DecodeFault} (r : Result ℕ DecodeFault) → IsErrAnd r (λ fault. fault ≡ e) → Passes A bytes at (Err e) → Passes A bytes at r
returned-place {A = A} {bytes = bytes} {at = at} r is h =
    let failed = err_from_is_err_and r is in
    let whole : r ≡ Err failed.0 = failed.1 in
    subst (λ (answer : _). Passes A bytes at answer) (sym whole) (subst (λ (fault : DecodeFault). Passes A bytes at (Err fault)) (sym failed.2) h)

pub returned-to : {V : Type 0} {Is : V → ℕ → Type 0} {e : DecodeFault} (r : Result (V × ℕ) DecodeFault) → IsErrAnd r (λ fault. fault ≡ e) → ReadsTo Is (Err e) → ReadsTo Is r
returned-to {Is = Is} r is h =
    let failed = err_from_is_err_and r is in
    let whole : r ≡ Err failed.0 = failed.1 in
    subst (λ (answer : _). ReadsTo Is answer) (sym whole) (subst (λ (fault : DecodeFault). ReadsTo Is (Err fault)) (sym failed.2) h)

-- ---- sections

-- what a section's format is made of: its id and its sized content, or no bytes
pub record HasContent {V : Type 0} (id : ℕ) (B S : V → Format) : Type 0 where
  pub into : (v : V) (s : List ℕ) → (byte id then sized (B v)) s → S v s
  pub cases : (v : V) (s : List ℕ) → S v s → (s ≡ []) ⊎ (byte id then sized (B v)) s

pub content-vecsec : {V : Type 0} (id : ℕ) (B : V → Format) → HasContent id (vec B) (vecsec id B)
content-vecsec id B = record {
  into = λ v s h. inr h;
  cases = λ v s h. elim h [ inl none ↦ inl none.1 | inr some ↦ inr some ];
}

-- custom sections were skipped up to a position, and no other
pub record Passed (bytes : List ℕ) (at place : ℕ) : Type 0 where
  pub past : PastCustoms bytes at place
  pub complete : (other : ℕ) → PastCustoms bytes at other → place ≡ other

pub passed : {bytes : List ℕ} {at place : ℕ} → PastCustoms bytes at place → ((other : ℕ) → PastCustoms bytes at other → place ≡ other) → Passed bytes at place
passed past complete = record { past = past; complete = complete }

pub section_at : {V : Type 0} {id : ℕ} {S : V → Format} {bytes : List ℕ} {at place to : ℕ} {v : V} → Passed bytes at place → IsSection id S bytes at v to → Spelled (S v) bytes place to × (place ≡ to → slice_get bytes place ≢ Some id)
section_at {id = id} {S = S} {bytes = bytes} {place = place} {to = to} {v = v} passed is =
    let same : place ≡ is.place = passed.complete is.place is.past in
    (subst (λ (p : ℕ). Spelled (S v) bytes p to) (sym same) is.spelled, subst (λ (p : ℕ). p ≡ to → slice_get bytes p ≢ Some id) (sym same) is.left_out)

-- the content of a section whose id is there
pub content_at : {V : Type 0} {id : ℕ} {B S : V → Format} {bytes : List ℕ} {at place to : ℕ} (w : V) → HasContent id B S → Passed bytes at place → slice_get bytes place ≡ Some id → IsSection id S bytes at w to → Spelled (sized (B w)) bytes (place + 1) to
content_at {id = id} {B = B} {bytes = bytes} {place = place} {to = to} w has passed is s =
    let here = section_at passed s in
    let at_w = here.0 in
    elim (has.cases w (slice_range bytes place to) at_w.spelling) [
      | inl none ↦
          let bare : Spelled (exactly []) bytes place to = record { forward = at_w.forward; within = at_w.within; spelling = none } in
          absurd (here.1 (none_only bare) is)
      | inr some ↦
          let whole : Spelled (byte id then sized (B w)) bytes place to = record { forward = at_w.forward; within = at_w.within; spelling = some } in
          let parts = split whole in
          subst (λ (m : ℕ). Spelled (sized (B w)) bytes m to) (byte_only parts.first).1 parts.second
    ]

pub section-ok : {V : Type 0} {id : ℕ} {B S : V → Format} {bytes : List ℕ} {at place end : ℕ} {v : V} → HasContent id B S → Passed bytes at place → slice_get bytes place ≡ Some id → Reads (λ (w : V). sized (B w)) bytes (place + 1) (Ok (v, end)) → ReadsTo (IsSection id S bytes at) (Ok (v, end))
section-ok {id = id} {B = B} {bytes = bytes} {at = at} {place = place} {end = end} {v = v} has passed is h =
    let whole : Spelled (byte id then sized (B v)) bytes place end = join (byte_here bytes place id is) h.found in
    let forward : place + 1 ≤ end = h.found.forward in
    record {
      found = record {
        place = place;
        past = passed.past;
        spelled = record { forward = whole.forward; within = whole.within; spelling = has.into v (slice_range bytes place end) whole.spelling };
        left_out = λ same. absurd (omega (arith, same, forward));
      };
      complete = λ w to s. h.complete w to (content_at w has passed is s);
    }

pub section-err : {V : Type 0} {id : ℕ} {B S : V → Format} {bytes : List ℕ} {at place : ℕ} {e : DecodeFault} → HasContent id B S → Passed bytes at place → slice_get bytes place ≡ Some id → Reads (λ (w : V). sized (B w)) bytes (place + 1) (Err e) → ReadsTo (IsSection id S bytes at) (Err e)
section-err has passed is h = record {
  found = tt;
  complete = λ w to s. h.complete w to (content_at w has passed is s);
}

pub section-unread : {V : Type 0} {id : ℕ} {S : V → Format} {bytes : List ℕ} {at : ℕ} {e : DecodeFault} → ((place : ℕ) → PastCustoms bytes at place → e ≡ NoMemory) → ReadsTo (IsSection id S bytes at) (Err e)
section-unread none = record { found = tt; complete = λ w to s. none s.place s.past }

-- the id isn't there, so no bytes are the section
pub bare_at : {V : Type 0} {id : ℕ} {B S : V → Format} {bytes : List ℕ} {at place to : ℕ} (w : V) → HasContent id B S → Passed bytes at place → slice_get bytes place ≢ Some id → IsSection id S bytes at w to → S w [] × (place ≡ to)
bare_at {id = id} {B = B} {S = S} {bytes = bytes} {place = place} {to = to} w has passed other s =
    let at_w = (section_at passed s).0 in
    elim (has.cases w (slice_range bytes place to) at_w.spelling) [
      | inl none ↦
          let bare : Spelled (exactly []) bytes place to = record { forward = at_w.forward; within = at_w.within; spelling = none } in
          (subst (S w) none at_w.spelling, none_only bare)
      | inr some ↦
          let whole : Spelled (byte id then sized (B w)) bytes place to = record { forward = at_w.forward; within = at_w.within; spelling = some } in
          absurd (other (byte_only (split whole).first).0)
    ]

pub section-bare : {V : Type 0} {id : ℕ} {B S : V → Format} {bytes : List ℕ} {at place : ℕ} (v : V) → HasContent id B S → Passed bytes at place → slice_get bytes place ≢ Some id → S v [] → ((w : V) → S w [] → v ≡ w) → ReadsTo (IsSection id S bytes at) (Ok (v, place))
section-bare {S = S} {bytes = bytes} {at = at} {place = place} v has passed other empty only = record {
  found = record {
    place = place;
    past = passed.past;
    spelled = record { forward = omega arith; within = passed.past.customs.within; spelling = subst (S v) (sym (slice_range-none bytes place)) empty };
    left_out = λ same. other;
  };
  complete = λ w to s.
      let bare = bare_at w has passed other s in
      (only w bare.0, bare.1);
}

pub section-none : {V : Type 0} {id : ℕ} {B S : V → Format} {bytes : List ℕ} {at place : ℕ} → HasContent id B S → Passed bytes at place → slice_get bytes place ≢ Some id → ((w : V) → S w [] → ⊥) → ReadsTo (IsSection id S bytes at) (Err Malformed)
section-none has passed other none = record {
  found = tt;
  complete = λ w to s. absurd (none w (bare_at w has passed other s).0);
}

pub vecsec-bare : {V : Type 0} (id : ℕ) (B : V → Format) (w : List V) → vecsec id B w [] → [] ≡ w
vecsec-bare id B w h =
    elim h [
      | inl none ↦ sym none.0
      | inr some ↦
          let whole : [] ≡ some.0 ++ some.1 = some.2 in
          let first : some.0 ≡ id ∷ [] = some.3 in
          absurd (cc (ap (λ (front : List ℕ). front ++ some.1) first))
    ]

-- ---- the section of the start function

abbrev pub start_content : Option ℕ → Format
start_content None = λ bytes. ⊥
start_content (Some x) = u32 x

start-into : (v : Option ℕ) (s : List ℕ) → (byte 8 then sized (start_content v)) s → startsec v s
start-into None s h = absurd h.4.1
start-into (Some x) s h = h

start-cases : (v : Option ℕ) (s : List ℕ) → startsec v s → (s ≡ []) ⊎ (byte 8 then sized (start_content v)) s
start-cases None s h = inl h
start-cases (Some x) s h = inr h

pub content-startsec : HasContent 8 start_content startsec
content-startsec = record { into = start-into; cases = start-cases }

start_only : {bytes : List ℕ} {at end to x : ℕ} (w : Option ℕ) → Reads u32 bytes at (Ok (x, end)) → Spelled (start_content w) bytes at to → (Some x ≡ w) × (end ≡ to)
start_only None h s = absurd s.spelling
start_only (Some y) h s =
    let same = same_read {w = y} h s in
    (ap (λ (n : ℕ). Some n) same.0, same.1)

pub start-ok : {bytes : List ℕ} {at end x : ℕ} → Reads u32 bytes at (Ok (x, end)) → Reads start_content bytes at (Ok (Some x, end))
start-ok h = record { found = h.found; complete = λ w to s. start_only w h s }

start_unread : {bytes : List ℕ} {at to : ℕ} {e : DecodeFault} (w : Option ℕ) → Reads u32 bytes at (Err e) → Spelled (start_content w) bytes at to → e ≡ NoMemory
start_unread None h s = absurd s.spelling
start_unread (Some y) h s = none_read {w = y} h s

pub start-err : {bytes : List ℕ} {at : ℕ} {e : DecodeFault} → Reads u32 bytes at (Err e) → Reads start_content bytes at (Err e)
start-err h = record { found = tt; complete = λ w to s. start_unread w h s }

pub startsec-bare : (w : Option ℕ) → startsec w [] → None ≡ w
startsec-bare None h = refl
startsec-bare (Some x) h =
    let whole : [] ≡ h.0 ++ h.1 = h.2 in
    let first : h.0 ≡ 8 ∷ [] = h.3 in
    absurd (cc (ap (λ (front : List ℕ). front ++ h.1) first))

-- ---- the section of the codes

pub content-codesec : (types : List ℕ) → HasContent 10 (codes_of types) (codesec types)
content-codesec types = record {
  into = λ v s h. (h.4.1.0, inr (h.0, h.1, h.2, h.3, (h.4.0, h.4.1.1, h.4.2)));
  cases = λ v s h. elim h.1 [ inl none ↦ inl none.1 | inr some ↦ inr (some.0, some.1, some.2, some.3, (some.4.0, (h.0, some.4.1), some.4.2)) ];
}

pub codesec-bare : (types : List ℕ) (w : List Func) → codesec types w [] → ([] ≡ w) × (types ≡ [])
codesec-bare types w h =
    let none = vecsec-bare 10 code w h.1 in
    (none, sym h.0 ∙ ap (λ (l : List Func). map (λ f. f.ty) l) (sym none))

pub codes_none : (types : List ℕ) → types ≡ [] → codesec types [] []
codes_none types is = (sym is, inl (refl, refl))

pub not_empty : (types : List ℕ) → (types ≡ [] → ⊥) → types ≡ [] → ⊥
not_empty types some is = some is
