-- The spelling of a module and its sections by their positions.
use Rattle.std.proofs.Common.{◌≡◌, ℕ, zero, suc, ◌+◌, ◌-◌, ◌<◌, ◌≤◌, ◌⊎◌, List, [], ◌∷◌, ◌++◌, length, map, take, drop, slice_get, slice_range, Bool, true, nat_eq, Option, None, Some, refl, sym, ap, subst, ◌∙◌, inl, inr, arith}
use Rattle.std.proofs.lemmas.List.{drop-take, length-take}
use Rattle.std.specs.Cmp.Lexicographic.{same_text}
use Rattle.std.specs.List.{starts_with}
use Rattle.wa_syntax.specs.declared.module.Module.{Module}
use Rattle.wa_syntax.specs.Binary.{functype, tabletype, memtype, vecsec, custom, customs, import, global, export, startsec, elem, code, segment, magic, version, SpellsModule}
use Rattle.wa_syntax.specs.Formats.{Format, ◌then◌, each, byte, u32}
use Rattle.wa_syntax.proofs.Places.{length-slice_range}
use Rattle.wa_decode.specs.Reading.{Spelled}
use Rattle.wa_decode.specs.Sections.{meaningless, PastCustoms, IsSection, IsSections}
use Rattle.wa_decode.proofs.Places.{join, split, slice_range-append, byte_only, slice_get-get_or}
use Rattle.wa_decode.proofs.Sections.{there_starts, customs-none, customs-here, customs-front}
use Rattle.wa_decode.proofs.Sized.{slice_range-rest}
use Rattle.wa_decode.proofs.Tails.{Starts, Passing, passing-customs, passing-section, Optional, optional-vecsec, optional-startsec, byte_starts, starts-one}

-- ---- what the sections after a position begin with

customs-first : (cs : List (List ℕ × List ℕ)) (b : ℕ) (s : List ℕ) → each custom cs s → Starts b s → b ≡ 0
customs-first [] b s h starts =
    let none : [] ≡ b ∷ starts.0 = sym h ∙ starts.1 in
    absurd (cc)
customs-first (c ∷ cs) b s h starts =
    let first : Starts 0 h.0 = byte_starts 0 h.0 h.3 in
    starts-one b 0 s starts (first.0 ++ h.1, h.2 ∙ ap (λ (front : List ℕ). front ++ h.1) first.1)

first_above : (low id : ℕ) (S T : Format) (cs : List (List ℕ × List ℕ)) (f g s : List ℕ) (b : ℕ) → low < id → Optional id S → ((s : List ℕ) → T s → Starts b s → (b ≡ 0) ⊎ (id < b)) → s ≡ f ++ g → each custom cs f → (S then T) g → Starts b s → (b ≡ 0) ⊎ (low < b)
first_above low id S T [] f g s b less optional above whole h rest starts =
    let bare : s ≡ g = whole ∙ ap (λ (front : List ℕ). front ++ g) h in
    elim (optional.cases rest.0 rest.3) [
      | inl none ↦
          let same : s ≡ rest.1 = bare ∙ rest.2 ∙ ap (λ (front : List ℕ). front ++ rest.1) none in
          elim (above s (subst T (sym same) rest.4) starts) [ inl zero_it_is ↦ inl zero_it_is | inr more ↦ inr (omega (arith, less, more)) ]
      | inr is ↦
          let begins : Starts id s = (is.0 ++ rest.1, bare ∙ rest.2 ∙ ap (λ (front : List ℕ). front ++ rest.1) is.1) in
          inr (omega (arith, starts-one b id s starts begins, less))
    ]
first_above low id S T (c ∷ cs) f g s b less optional above whole h rest starts =
    let first : Starts 0 h.0 = byte_starts 0 h.0 h.3 in
    let front : Starts 0 f = (first.0 ++ h.1, h.2 ∙ ap (λ (front : List ℕ). front ++ h.1) first.1) in
    inl (starts-one b 0 s starts (front.0 ++ g, whole ∙ ap (λ (front : List ℕ). front ++ g) front.1))

-- sections with greater ids than this one, and custom ones
pub record Rest (low : ℕ) (T : Format) : Type 0 where
  pub passing : Passing T
  pub above : (b : ℕ) (s : List ℕ) → T s → Starts b s → (b ≡ 0) ⊎ (low < b)

rest-customs : (low : ℕ) → Rest low customs
rest-customs low = record { passing = passing-customs; above = λ b s h starts. inl (customs-first h.0 b s h.1 starts) }

rest-section : (low id : ℕ) (S T : Format) → low < id → Optional id S → Rest id T → Rest low (customs then S then T)
rest-section low id S T less optional rest = record {
  passing = passing-section id S T (omega arith) optional rest.passing;
  above = λ b s h starts. first_above low id S T h.3.0 h.0 h.1 s b less optional (λ t. rest.above b t) h.2 h.3.1 h.4 starts;
}

-- ---- custom sections are skipped as far as they go

pass_one : (fuel : ℕ) (T : Format) (bytes : List ℕ) (at : ℕ) (first : Option ℕ) → ((next : ℕ) → at < next → Spelled T bytes next (length bytes) → (place : ℕ) × PastCustoms bytes next place × Spelled T bytes place (length bytes)) → Passing T → slice_get bytes at ≡ first → Spelled T bytes at (length bytes) → (place : ℕ) × PastCustoms bytes at place × Spelled T bytes place (length bytes)
pass_one fuel T bytes at None again passing is s =
    (at, (record { customs = customs-here bytes at s.forward; over = λ e. absurd (cc) }), s)
pass_one fuel T bytes at (Some (suc n)) again passing is s =
    (at, (record { customs = customs-here bytes at s.forward; over = λ e. absurd (cc) }), s)
pass_one fuel T bytes at (Some zero) again passing is s =
    let here = slice_get-get_or bytes at 0 is in
    let one = passing.pass (slice_range bytes at (length bytes)) s.spelling (there_starts bytes at (length bytes) here.0 is) in
    let whole : Spelled (custom one.c then T) bytes at (length bytes) = record { forward = s.forward; within = s.within; spelling = (one.front, one.back, one.whole, one.spelled, one.tail) } in
    let parts = split whole in
    let first = split parts.first in
    let following : first.mid ≡ at + 1 = (byte_only first.first).1 in
    let rest = again parts.mid (omega (arith, following, first.second.forward)) parts.second in
    let p = parts.first.spelling in
    let front : Spelled (byte 0 then meaningless) bytes at parts.mid = record { forward = parts.first.forward; within = parts.first.within; spelling = (p.0, p.1, p.2, p.3, (one.c, p.4)) } in
    (rest.0, (record { customs = customs-front {end = rest.0} front rest.1.customs; over = rest.1.over }), rest.2)

greedy : (fuel : ℕ) (T : Format) (bytes : List ℕ) (at : ℕ) → length bytes - at < fuel → Passing T → Spelled T bytes at (length bytes) → (place : ℕ) × PastCustoms bytes at place × Spelled T bytes place (length bytes)
greedy zero T bytes at short passing s = absurd (omega (arith, short))
greedy (suc fuel) T bytes at short passing s =
    pass_one fuel T bytes at (slice_get bytes at) (λ next more r. greedy fuel T bytes next (omega (arith, more, short, r.forward)) passing r) passing refl s

-- ---- one section, and what is after it

is_section : {V : Type 0} {id : ℕ} {bytes : List ℕ} {at : ℕ} (S : V → Format) (v : V) (T : Format) → 0 < id → Optional id (S v) → Rest id T → Spelled (customs then S v then T) bytes at (length bytes) → (end : ℕ) × IsSection id S bytes at v end × Spelled T bytes end (length bytes)
is_section {id = id} {bytes = bytes} {at = at} S v T some optional rest s =
    let past = greedy (length bytes - at + 1) (customs then S v then T) bytes at (omega arith) (passing-section id (S v) T some optional rest.passing) s in
    let parts = split past.2 in
    let none : past.0 ≡ parts.mid = customs-none past.1.over parts.first in
    let both = split (subst (λ (m : ℕ). Spelled (S v then T) bytes m (length bytes)) (sym none) parts.second) in (
      both.mid,
      (record {
        place = past.0;
        past = past.1;
        spelled = both.first;
        left_out = λ same is.
            let occurs : slice_get bytes both.mid ≡ Some id = ap (λ (n : ℕ). slice_get bytes n) (sym same) ∙ is in
            let within = slice_get-get_or bytes both.mid id occurs in
            elim (rest.above id (slice_range bytes both.mid (length bytes)) both.second.spelling (there_starts bytes both.mid (length bytes) within.0 occurs)) [ inl none_it_is ↦ omega (arith, none_it_is, some) | inr more ↦ omega (arith, more) ];
      }),
      both.second,
    )

section_back : {V : Type 0} {id : ℕ} {S : V → Format} {T : Format} {bytes : List ℕ} {at end to : ℕ} {v : V} → IsSection id S bytes at v end → Spelled T bytes end to → Spelled (customs then S v then T) bytes at to
section_back is rest = join is.past.customs (join is.spelled rest)

-- ---- the sections of a module

abbrev tail_11 : Module → Format
tail_11 m = customs then vecsec 11 segment m.segments then customs

abbrev tail_10 : Module → Format
tail_10 m = customs then vecsec 10 code m.funcs then tail_11 m

abbrev tail_9 : Module → Format
tail_9 m = customs then vecsec 9 elem m.elems then tail_10 m

abbrev tail_8 : Module → Format
tail_8 m = customs then startsec m.start then tail_9 m

abbrev tail_7 : Module → Format
tail_7 m = customs then vecsec 7 export m.exports then tail_8 m

abbrev tail_6 : Module → Format
tail_6 m = customs then vecsec 6 global m.globals then tail_7 m

abbrev tail_5 : Module → Format
tail_5 m = customs then vecsec 5 memtype m.memories then tail_6 m

abbrev tail_4 : Module → Format
tail_4 m = customs then vecsec 4 tabletype m.tables then tail_5 m

abbrev tail_3 : Module → Format
tail_3 m = customs then vecsec 3 u32 (map (λ f. f.ty) m.funcs) then tail_4 m

abbrev tail_2 : Module → Format
tail_2 m = customs then vecsec 2 import m.imports then tail_3 m

abbrev tail_1 : Module → Format
tail_1 m = customs then vecsec 1 functype m.types then tail_2 m

rest_11 : (m : Module) → Rest 10 (tail_11 m)
rest_11 m = rest-section 10 11 (vecsec 11 segment m.segments) customs (omega arith) (optional-vecsec 11 segment m.segments) (rest-customs 11)

rest_10 : (m : Module) → Rest 9 (tail_10 m)
rest_10 m = rest-section 9 10 (vecsec 10 code m.funcs) (tail_11 m) (omega arith) (optional-vecsec 10 code m.funcs) (rest_11 m)

rest_9 : (m : Module) → Rest 8 (tail_9 m)
rest_9 m = rest-section 8 9 (vecsec 9 elem m.elems) (tail_10 m) (omega arith) (optional-vecsec 9 elem m.elems) (rest_10 m)

rest_8 : (m : Module) → Rest 7 (tail_8 m)
rest_8 m = rest-section 7 8 (startsec m.start) (tail_9 m) (omega arith) (optional-startsec m.start) (rest_9 m)

rest_7 : (m : Module) → Rest 6 (tail_7 m)
rest_7 m = rest-section 6 7 (vecsec 7 export m.exports) (tail_8 m) (omega arith) (optional-vecsec 7 export m.exports) (rest_8 m)

rest_6 : (m : Module) → Rest 5 (tail_6 m)
rest_6 m = rest-section 5 6 (vecsec 6 global m.globals) (tail_7 m) (omega arith) (optional-vecsec 6 global m.globals) (rest_7 m)

rest_5 : (m : Module) → Rest 4 (tail_5 m)
rest_5 m = rest-section 4 5 (vecsec 5 memtype m.memories) (tail_6 m) (omega arith) (optional-vecsec 5 memtype m.memories) (rest_6 m)

rest_4 : (m : Module) → Rest 3 (tail_4 m)
rest_4 m = rest-section 3 4 (vecsec 4 tabletype m.tables) (tail_5 m) (omega arith) (optional-vecsec 4 tabletype m.tables) (rest_5 m)

rest_3 : (m : Module) → Rest 2 (tail_3 m)
rest_3 m = rest-section 2 3 (vecsec 3 u32 (map (λ f. f.ty) m.funcs)) (tail_4 m) (omega arith) (optional-vecsec 3 u32 (map (λ f. f.ty) m.funcs)) (rest_4 m)

rest_2 : (m : Module) → Rest 1 (tail_2 m)
rest_2 m = rest-section 1 2 (vecsec 2 import m.imports) (tail_3 m) (omega arith) (optional-vecsec 2 import m.imports) (rest_3 m)

to_sections : (m : Module) (bytes : List ℕ) (at : ℕ) → Spelled (tail_1 m) bytes at (length bytes) → (end : ℕ) × IsSections bytes at m end × Spelled customs bytes end (length bytes)
to_sections m bytes at s =
    let a = is_section (vecsec 1 functype) m.types (tail_2 m) (omega arith) (optional-vecsec 1 functype m.types) (rest_2 m) s in
    let b = is_section (vecsec 2 import) m.imports (tail_3 m) (omega arith) (optional-vecsec 2 import m.imports) (rest_3 m) a.2 in
    let c = is_section (vecsec 3 u32) (map (λ f. f.ty) m.funcs) (tail_4 m) (omega arith) (optional-vecsec 3 u32 (map (λ f. f.ty) m.funcs)) (rest_4 m) b.2 in
    let d = is_section (vecsec 4 tabletype) m.tables (tail_5 m) (omega arith) (optional-vecsec 4 tabletype m.tables) (rest_5 m) c.2 in
    let e = is_section (vecsec 5 memtype) m.memories (tail_6 m) (omega arith) (optional-vecsec 5 memtype m.memories) (rest_6 m) d.2 in
    let f = is_section (vecsec 6 global) m.globals (tail_7 m) (omega arith) (optional-vecsec 6 global m.globals) (rest_7 m) e.2 in
    let g = is_section (vecsec 7 export) m.exports (tail_8 m) (omega arith) (optional-vecsec 7 export m.exports) (rest_8 m) f.2 in
    let h = is_section (startsec) m.start (tail_9 m) (omega arith) (optional-startsec m.start) (rest_9 m) g.2 in
    let i = is_section (vecsec 9 elem) m.elems (tail_10 m) (omega arith) (optional-vecsec 9 elem m.elems) (rest_10 m) h.2 in
    let j = is_section (vecsec 10 code) m.funcs (tail_11 m) (omega arith) (optional-vecsec 10 code m.funcs) (rest_11 m) i.2 in
    let k = is_section (vecsec 11 segment) m.segments customs (omega arith) (optional-vecsec 11 segment m.segments) (rest-customs 11) j.2 in
    (k.0, (a.0, a.1, b.0, b.1, c.0, c.1, d.0, d.1, e.0, e.1, f.0, f.1, g.0, g.1, h.0, h.1, i.0, i.1, j.0, j.1, k.1), k.2)

from_sections : (m : Module) (bytes : List ℕ) (at end to : ℕ) → IsSections bytes at m end → Spelled customs bytes end to → Spelled (tail_1 m) bytes at to
from_sections m bytes at end to s rest =
    (section_back s.1 (section_back s.3 (section_back s.5 (section_back s.7 (section_back s.9 (section_back s.11 (section_back s.13 (section_back s.15 (section_back s.17 (section_back s.19 (section_back s.20 rest)))))))))))

-- ---- the whole

whole_slice : (bytes : List ℕ) → slice_range bytes 0 (length bytes) ≡ bytes
whole_slice bytes = slice_range-rest bytes 0

-- what comes before the sections
abbrev pub preamble : List ℕ
preamble = 0x00 ∷ 0x61 ∷ 0x73 ∷ 0x6d ∷ 0x01 ∷ 0x00 ∷ 0x00 ∷ 0x00 ∷ []

-- the test of them
pub begins : (r : Bool) (bytes : List ℕ) → r ≡ starts_with nat_eq bytes preamble → r ≡ true → take 8 bytes ≡ preamble
begins r bytes is yes_it_is = sym (same_text preamble (take 8 bytes) (sym yes_it_is ∙ is))

eight : (bytes : List ℕ) → take 8 bytes ≡ preamble → 8 ≤ length bytes
eight bytes is = omega (arith, ap length is, length-take 8 bytes)

take_four : (bytes : List ℕ) → take 4 (take 8 bytes) ≡ take 4 bytes
take_four [] = refl
take_four (a ∷ []) = refl
take_four (a ∷ b ∷ []) = refl
take_four (a ∷ b ∷ c ∷ []) = refl
take_four (a ∷ b ∷ c ∷ d ∷ bytes) = refl

take_eight : (bytes : List ℕ) → take 8 bytes ≡ preamble → take 4 bytes ≡ 0x00 ∷ 0x61 ∷ 0x73 ∷ 0x6d ∷ []
take_eight bytes is = sym (take_four bytes) ∙ ap (λ (s : List ℕ). take 4 s) is

pub module-found : (bytes : List ℕ) (m : Module) (end : ℕ) → take 8 bytes ≡ preamble → IsSections bytes 8 m end → Spelled customs bytes end (length bytes) → SpellsModule bytes m
module-found bytes m end is sections rest =
    let long = eight bytes is in
    let first : Spelled magic bytes 0 4 = record { forward = omega arith; within = omega (arith, long); spelling = sym (drop-take 0 4 bytes) ∙ take_eight bytes is } in
    let second : Spelled version bytes 4 8 = record { forward = omega arith; within = long; spelling = sym (drop-take 4 4 bytes) ∙ ap (λ (s : List ℕ). drop 4 s) is } in
    let whole : Spelled (magic then version then tail_1 m) bytes 0 (length bytes) = join first (join second (from_sections m bytes 8 end (length bytes) sections rest)) in
    subst (magic then version then tail_1 m) (whole_slice bytes) whole.spelling

pub module-spelled : (bytes : List ℕ) (m : Module) → SpellsModule bytes m → (take 8 bytes ≡ preamble) × (end : ℕ) × IsSections bytes 8 m end × PastCustoms bytes end (length bytes)
module-spelled bytes m h =
    let whole : Spelled (magic then version then tail_1 m) bytes 0 (length bytes) = record { forward = omega arith; within = omega arith; spelling = subst (magic then version then tail_1 m) (sym (whole_slice bytes)) h } in
    let first = split whole in
    let second = split first.second in
    let four : first.mid ≡ 4 = omega (arith, length-slice_range bytes 0 first.mid first.first.within, ap length first.first.spelling) in
    let eight : second.mid ≡ 8 = omega (arith, four, second.first.forward, length-slice_range bytes first.mid second.mid second.first.within, ap length second.first.spelling) in
    let tail : Spelled (tail_1 m) bytes 8 (length bytes) = subst (λ (n : ℕ). Spelled (tail_1 m) bytes n (length bytes)) eight second.second in
    let sections = to_sections m bytes 8 tail in
    let front : slice_range bytes 0 second.mid ≡ preamble = slice_range-append bytes 0 first.mid second.mid first.first.forward second.first.forward ∙ ap (λ (s : List ℕ). s ++ slice_range bytes first.mid second.mid) first.first.spelling ∙ ap (λ (s : List ℕ). 0x00 ∷ 0x61 ∷ 0x73 ∷ 0x6d ∷ s) second.first.spelling in
    let begins : take 8 bytes ≡ preamble = ap (λ (n : ℕ). slice_range bytes 0 n) (sym eight) ∙ front in
    (begins, sections.0, sections.1, (record { customs = sections.2; over = λ is. let within = slice_get-get_or bytes (length bytes) 0 is in omega (arith, within.0) }))
