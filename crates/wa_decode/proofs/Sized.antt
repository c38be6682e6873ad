-- What comes with its size, read from the bytes up to its end.
use Rattle.std.proofs.Common.{◌≡◌, ℕ, ◌+◌, ◌-◌, ◌<◌, ◌≤◌, List, [], ◌∷◌, ◌++◌, length, take, drop, slice_range, refl, sym, ap, subst, ◌∙◌, arith}
use Rattle.std.proofs.lemmas.List.{length-drop, length-take, drop-take}
use Rattle.std.proofs.Math.Seq.{take-length}
use Rattle.std.specs.Prelude.{Ok, Err}
use Rattle.wa_syntax.specs.Formats.{Format, exactly, each, vec, byte, sized, u32}
use Rattle.wa_decode.specs.declared.fault.DecodeFault.{DecodeFault}
use Rattle.wa_decode.specs.declared.fault.DecodeFault.TheVariants.{NoMemory, Malformed}
use Rattle.wa_decode.specs.Reading.{Spelled, Reads, counted}
use Rattle.wa_syntax.proofs.Places.{length-slice_range}
use Rattle.wa_decode.proofs.Places.{join, split}
use Rattle.wa_decode.proofs.Reading.{same_read, none_read, nothing, after_read}

-- the content is the bytes of a prefix of these, from a position on
pub record Holds (bytes : List ℕ) (at : ℕ) (front : List ℕ) (start : ℕ) : Type 0 where
  pub starts : start ≤ length front
  pub found : Spelled (counted (drop start front)) bytes at (length front)
  pub complete : (content : List ℕ) (end : ℕ) → Spelled (counted content) bytes at end → (drop start front ≡ content) × (length front ≡ end)

pub holds : {bytes : List ℕ} {at : ℕ} {front : List ℕ} {start : ℕ} → start ≤ length front → Spelled (counted (drop start front)) bytes at (length front) → ((content : List ℕ) (end : ℕ) → Spelled (counted content) bytes at end → (drop start front ≡ content) × (length front ≡ end)) → Holds bytes at front start
holds starts found complete = record { starts = starts; found = found; complete = complete }

pub slice_range-rest : (front : List ℕ) (start : ℕ) → slice_range front start (length front) ≡ drop start front
slice_range-rest front start =
    ap (λ (n : ℕ). take n (drop start front)) (sym (length-drop start front)) ∙ take-length (drop start front)

-- content of a format, where the bytes end with it
content_of : {V : Type 0} (B : V → Format) (bytes : List ℕ) (at : ℕ) (front : List ℕ) (start to : ℕ) (w : V) → Holds bytes at front start → Spelled (sized (B w)) bytes at to → Spelled (B w) front start (length front) × (length front ≡ to)
content_of B bytes at front start to w h s =
    let same = h.complete s.spelling.0 to (record { forward = s.forward; within = s.within; spelling = s.spelling.2 }) in
    (record { forward = h.starts; within = omega arith; spelling = subst (B w) (sym (slice_range-rest front start ∙ same.0)) s.spelling.1 }, same.1)

pub sized-ok : {V : Type 0} {B : V → Format} {bytes : List ℕ} {at : ℕ} {front : List ℕ} {start end : ℕ} {v : V} → Holds bytes at front start → Reads B front start (Ok (v, end)) → end ≡ length front → Reads (λ w. sized (B w)) bytes at (Ok (v, end))
sized-ok {B = B} {bytes = bytes} {at = at} {front = front} {start = start} {end = end} {v = v} h k ends =
    let whole : Spelled (B v) front start (length front) = subst (λ (place : ℕ). Spelled (B v) front start place) ends k.found in
    let here : Spelled (sized (B v)) bytes at (length front) = record {
      forward = h.found.forward;
      within = h.found.within;
      spelling = (drop start front, subst (B v) (slice_range-rest front start) whole.spelling, h.found.spelling);
    } in
    record {
      found = subst (λ (place : ℕ). Spelled (sized (B v)) bytes at place) (sym ends) here;
      complete = λ w to s.
          let it = content_of B bytes at front start to w h s in
          ((same_read k it.0).0, ends ∙ it.1);
    }

-- the content's format ends before its bytes do
pub sized-more : {V : Type 0} {B : V → Format} {bytes : List ℕ} {at : ℕ} {front : List ℕ} {start end : ℕ} {v : V} → Holds bytes at front start → Reads B front start (Ok (v, end)) → (end ≡ length front → ⊥) → Reads (λ w. sized (B w)) bytes at (Err Malformed)
sized-more {B = B} {bytes = bytes} {at = at} {front = front} {start = start} h k more =
    nothing (λ w to s. more (same_read k (content_of B bytes at front start to w h s).0).1)

pub sized-err : {V : Type 0} {B : V → Format} {bytes : List ℕ} {at : ℕ} {front : List ℕ} {start : ℕ} {e : DecodeFault} → Holds bytes at front start → Reads B front start (Err e) → Reads (λ w. sized (B w)) bytes at (Err e)
sized-err {B = B} {bytes = bytes} {at = at} {front = front} {start = start} h k = record {
  found = tt;
  complete = λ w to s. none_read k (content_of B bytes at front start to w h s).0;
}

pub sized-past : {V : Type 0} {B : V → Format} {bytes : List ℕ} {at : ℕ} {front : List ℕ} {start end : ℕ} {v : V} {e : DecodeFault} → Holds bytes at front start → Reads B front start (Ok (v, end)) → (end ≡ length front → ⊥) → e ≡ Malformed → Reads (λ w. sized (B w)) bytes at (Err e)
sized-past {B = B} {bytes = bytes} {at = at} h k more is =
    subst (λ (fault : DecodeFault). Reads (λ w. sized (B w)) bytes at (Err fault)) (sym is) (sized-more h k more)

-- no bytes come after their count
pub sized-none : {V : Type 0} {B : V → Format} {bytes : List ℕ} {at : ℕ} {e : DecodeFault} → ((content : List ℕ) (end : ℕ) → Spelled (counted content) bytes at end → e ≡ NoMemory) → Reads (λ w. sized (B w)) bytes at (Err e)
sized-none none = record {
  found = tt;
  complete = λ w to s. none s.spelling.0 to (record { forward = s.forward; within = s.within; spelling = s.spelling.2 });
}

-- ---- the bytes up to the end of the content

-- what comes after a count of bytes ends so many bytes after it
counted-ends : (bytes : List ℕ) (at size start : ℕ) (content : List ℕ) (end : ℕ) → Reads u32 bytes at (Ok (size, start)) → Spelled (counted content) bytes at end → (slice_range bytes start (start + size) ≡ content) × (start + size ≡ end) × (end ≤ length bytes)
counted-ends bytes at size start content end h s =
    let after = after_read {w = length content} h s in
    let rest = after.1 in
    let whole : slice_range bytes start end ≡ content = rest.spelling in
    let within : end ≤ length bytes = rest.within in
    let long : end - start ≡ length content = sym (length-slice_range bytes start end within) ∙ ap length whole in
    let forward : start ≤ end = rest.forward in
    let same : size ≡ length content = after.0 in
    let ends : start + size ≡ end = omega arith in
    (ap (λ (place : ℕ). slice_range bytes start place) ends ∙ whole, ends, within)

slice_range-front : (bytes front : List ℕ) (start size : ℕ) → front ≡ take (start + size) bytes → slice_range bytes start (start + size) ≡ drop start front
slice_range-front bytes front start size is =
    ap (λ (n : ℕ). take n (drop start bytes)) (omega arith) ∙ sym (drop-take start size bytes) ∙ ap (drop start) (sym is)

pub sized-found : (bytes front : List ℕ) (at size start : ℕ) → Reads u32 bytes at (Ok (size, start)) → front ≡ take (start + size) bytes → start + size ≤ length bytes → Spelled (counted (drop start front)) bytes at (length front)
sized-found bytes front at size start h is within =
    let long : length front ≡ start + size = ap length is ∙ length-take (start + size) bytes ∙ omega arith in
    let content : slice_range bytes start (start + size) ≡ drop start front = slice_range-front bytes front start size is in
    let count : size ≡ length (drop start front) = omega (arith, length-drop start front) in
    let second : Spelled (exactly (drop start front)) bytes start (start + size) = record { forward = omega arith; within = within; spelling = content } in
    let whole : Spelled (counted (drop start front)) bytes at (start + size) = join (subst (λ (n : ℕ). Spelled (u32 n) bytes at start) count h.found) second in
    subst (λ (place : ℕ). Spelled (counted (drop start front)) bytes at place) (sym long) whole

pub sized-complete : (bytes front : List ℕ) (at size start : ℕ) → Reads u32 bytes at (Ok (size, start)) → front ≡ take (start + size) bytes → start + size ≤ length bytes → (content : List ℕ) (end : ℕ) → Spelled (counted content) bytes at end → (drop start front ≡ content) × (length front ≡ end)
sized-complete bytes front at size start h is within content end s =
    let ends = counted-ends bytes at size start content end h s in
    let long : length front ≡ start + size = ap length is ∙ length-take (start + size) bytes ∙ omega arith in
    (sym (slice_range-front bytes front start size is) ∙ ends.0, long ∙ ends.1)

pub sized-short : (bytes : List ℕ) (at size start : ℕ) → Reads u32 bytes at (Ok (size, start)) → length bytes < start + size → (content : List ℕ) (end : ℕ) → Spelled (counted content) bytes at end → ⊥
sized-short bytes at size start h short content end s =
    let ends = counted-ends bytes at size start content end h s in
    omega (arith, ends.1, ends.2, short)

pub sized-unread : (bytes : List ℕ) (at : ℕ) (e : DecodeFault) → Reads u32 bytes at (Err e) → (content : List ℕ) (end : ℕ) → Spelled (counted content) bytes at end → e ≡ NoMemory
sized-unread bytes at e h content end s = none_read {w = length content} h (split s).first

-- ---- vectors of bytes

pub same_format : {A B : Format} {bytes : List ℕ} {at end : ℕ} → ((s : List ℕ) → A s → B s) → Spelled A bytes at end → Spelled B bytes at end
same_format {bytes = bytes} {at = at} {end = end} to s = record { forward = s.forward; within = s.within; spelling = to (slice_range bytes at end) s.spelling }

each-byte : (content s : List ℕ) → each byte content s → s ≡ content
each-byte [] s h = h
each-byte (b ∷ content) s h = h.2 ∙ ap (λ (front : List ℕ). front ++ h.1) h.3 ∙ ap (λ (rest : List ℕ). b ∷ rest) (each-byte content h.1 h.4)

byte-each : (content : List ℕ) → each byte content content
byte-each [] = refl
byte-each (b ∷ content) = (b ∷ [], content, refl, refl, byte-each content)

counted-from_vec : (content s : List ℕ) → vec byte content s → counted content s
counted-from_vec content s h = (h.0, h.1, h.2, h.3, each-byte content h.1 h.4)

pub vec-from_counted : (content s : List ℕ) → counted content s → vec byte content s
vec-from_counted content s h = (h.0, h.1, h.2, h.3, subst (each byte content) (sym h.4) (byte-each content))

pub vec-found : {bytes : List ℕ} {at end : ℕ} (content : List ℕ) → Spelled (counted content) bytes at end → Spelled (vec byte content) bytes at end
vec-found content s = same_format (vec-from_counted content) s

pub vec-counted : {bytes : List ℕ} {at end : ℕ} (content : List ℕ) → Spelled (vec byte content) bytes at end → Spelled (counted content) bytes at end
vec-counted content s = same_format (counted-from_vec content) s
