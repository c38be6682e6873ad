-- No bytes spell two modules.
use Rattle.std.proofs.Common.{◌≡◌, ◌≢◌, ℕ, ◌+◌, ◌-◌, List, [], ◌∷◌, ◌++◌, length, map, drop, slice_get, slice_range, Option, None, Some, refl, sym, ap, subst, ◌∙◌, inl, inr, arith}
use Rattle.std.proofs.lemmas.List.{length-map}
use Rattle.std.proofs.lemmas.List.Folds.{drop_split}
use Rattle.wa_syntax.specs.declared.instr.Instr.{Instr}
use Rattle.wa_syntax.specs.declared.locals.LocalRun.{LocalRun}
use Rattle.wa_syntax.specs.declared.module.DataSegment.{DataSegment}
use Rattle.wa_syntax.specs.declared.module.ElemSegment.{ElemSegment}
use Rattle.wa_syntax.specs.declared.module.Export.{Export}
use Rattle.wa_syntax.specs.declared.module.Func.{Func}
use Rattle.wa_syntax.specs.declared.module.FuncTy.{FuncTy}
use Rattle.wa_syntax.specs.declared.module.GlobalDef.{GlobalDef}
use Rattle.wa_syntax.specs.declared.module.Import.{Import}
use Rattle.wa_syntax.specs.declared.module.Limits.{Limits}
use Rattle.wa_syntax.specs.declared.module.Module.{Module}
use Rattle.wa_syntax.specs.declared.module.ValTy.{ValTy}
use Rattle.wa_syntax.specs.Binary.{vecsec, custom, customs, startsec, run, locals, code, SpellsModule}
use Rattle.wa_syntax.specs.BinaryInstructions.{expr}
use Rattle.wa_syntax.specs.Formats.{Format, ◌then◌, exactly, each, vec, byte, name, sized, u32}
use Rattle.wa_syntax.specs.Locals.{types_of_runs}
use Rattle.wa_syntax.proofs.Places.{length-slice_range}
use Rattle.wa_decode.specs.Codes.{codes_of, codesec}
use Rattle.wa_decode.specs.Reading.{Spelled, counted}
use Rattle.wa_decode.specs.Sections.{PastCustoms, IsSection, IsSections}
use Rattle.wa_decode.proofs.Modules.{module-spelled}
use Rattle.wa_decode.proofs.OneInstruction.{one-expr}
use Rattle.wa_decode.proofs.OneSpelling.{IsOne, one-byte, one-pair, one-as, one-vec, one-sized, one-u32, one-valtype, one-functype, one-limits, one-tabletype, one-import, one-export, one-global, one-elem, one-segment}
use Rattle.wa_decode.proofs.Places.{split, byte_only, none_only}
use Rattle.wa_decode.proofs.Reading.{pair}
use Rattle.wa_decode.proofs.SectionRow.{coded}
use Rattle.wa_decode.proofs.Sections.{HasContent, content-vecsec, content-startsec, content-codesec, start_content, Passed, content_at, bare_at, customs-none, past-split, vecsec-bare, startsec-bare, codesec-bare}
use Rattle.wa_decode.proofs.Sized.{vec-from_counted}

-- ---- at positions

-- what is spelled at a position ends at one position and is one value
pub one_at : {V : Type 0} {F : V → Format} {bytes : List ℕ} {at a b : ℕ} {v w : V} → IsOne F → Spelled (F v) bytes at a → Spelled (F w) bytes at b → (v ≡ w) × (a ≡ b)
one_at {bytes = bytes} {at = at} {a = a} {b = b} {v = v} {w = w} one_F h k =
    let whole : slice_range bytes at a ++ drop a bytes ≡ slice_range bytes at b ++ drop b bytes = sym (drop_split bytes at a h.forward) ∙ drop_split bytes at b k.forward in
    let both = one_F.one v w (slice_range bytes at a) (slice_range bytes at b) (drop a bytes) (drop b bytes) h.spelling k.spelling whole in
    (both.1, omega (arith, ap length both.0, length-slice_range bytes at a h.within, length-slice_range bytes at b k.within, h.forward, k.forward))

-- the same bytes spell one value
pub one_whole : {V : Type 0} {F : V → Format} → IsOne F → (v w : V) (s : List ℕ) → F v s → F w s → v ≡ w
one_whole one_F v w s h k = (one_F.one v w s s [] [] h k refl).1

one-counted : IsOne counted
one-counted = one-as (λ (content : List ℕ). content) (λ v w same. same) vec-from_counted (one-vec one-byte)

-- ---- custom sections

past_one : (cs : List (List ℕ × List ℕ)) (bytes : List ℕ) (at p q : ℕ) → Spelled (each custom cs) bytes at p → slice_get bytes p ≢ Some 0 → PastCustoms bytes at q → p ≡ q
past_one [] bytes at p q s over past =
    let same : at ≡ p = none_only s in
    sym same ∙ customs-none (λ is. over (ap (λ (n : ℕ). slice_get bytes n) (sym same) ∙ is)) past.customs
past_one (c ∷ cs) bytes at p q s over past =
    let parts = split s in
    let first = split parts.first in
    let zero_there = byte_only first.first in
    let content : Spelled (sized (name c.0 then exactly c.1)) bytes (at + 1) parts.mid = subst (λ (m : ℕ). Spelled (sized (name c.0 then exactly c.1)) bytes m parts.mid) zero_there.1 first.second in
    let other = past-split zero_there.0 past in
    let one : Spelled (counted content.spelling.0) bytes (at + 1) parts.mid = record { forward = content.forward; within = content.within; spelling = content.spelling.2 } in
    let two : Spelled (counted other.1.spelling.1.0) bytes (at + 1) other.0 = record { forward = other.1.forward; within = other.1.within; spelling = other.1.spelling.1.2 } in
    let same = (one_at one-counted one two).1 in
    past_one cs bytes parts.mid p q parts.second over (subst (λ (m : ℕ). PastCustoms bytes m q) (sym same) other.2)

-- they end at one position
pub passed_at : {bytes : List ℕ} {at place : ℕ} → PastCustoms bytes at place → Passed bytes at place
passed_at {bytes = bytes} {at = at} {place = place} past = record {
  past = past;
  complete = λ other k. past_one past.customs.spelling.0 bytes at place other (record { forward = past.customs.forward; within = past.customs.within; spelling = past.customs.spelling.1 }) past.over k;
}

-- ---- one section

section_one : {V : Type 0} {id : ℕ} {B S : V → Format} {bytes : List ℕ} {at a b : ℕ} {v w : V} → HasContent id B S → IsOne (λ (x : V). sized (B x)) → ((x y : V) → S x [] → S y [] → x ≡ y) → IsSection id S bytes at v a → IsSection id S bytes at w b → (v ≡ w) × (a ≡ b)
section_one {id = id} {B = B} {S = S} {bytes = bytes} {a = a} {v = v} {w = w} has one_B bare s t =
    let passed = passed_at s.past in
    elim (has.cases v (slice_range bytes s.place a) s.spelled.spelling) [
      | inl none ↦
          let empty : Spelled (exactly []) bytes s.place a = record { forward = s.spelled.forward; within = s.spelled.within; spelling = none } in
          let same : s.place ≡ a = none_only empty in
          let other = bare_at w has passed (s.left_out same) t in
          (bare v w (subst (S v) none s.spelled.spelling) other.0, sym same ∙ other.1)
      | inr some ↦
          let whole : Spelled (byte id then sized (B v)) bytes s.place a = record { forward = s.spelled.forward; within = s.spelled.within; spelling = some } in
          let is = (byte_only (split whole).first).0 in
          one_at one_B (content_at v has passed is s) (content_at w has passed is t)
    ]

vecsec_one : {V : Type 0} {B : V → Format} {bytes : List ℕ} {at a b : ℕ} {vs ws : List V} (id : ℕ) → IsOne B → IsSection id (vecsec id B) bytes at vs a → IsSection id (vecsec id B) bytes at ws b → (vs ≡ ws) × (a ≡ b)
vecsec_one {B = B} id one_B s t =
    section_one (content-vecsec id B) (one-sized (one_whole (one-vec one_B))) (λ x y h k. sym (vecsec-bare id B x h) ∙ vecsec-bare id B y k) s t

start_one : (v w : Option ℕ) (s : List ℕ) → start_content v s → start_content w s → v ≡ w
start_one None w s h k = absurd h
start_one (Some x) None s h k = absurd k
start_one (Some x) (Some y) s h k = ap (λ (n : ℕ). Some n) (one_whole one-u32 x y s h k)

startsec_one : {bytes : List ℕ} {at a b : ℕ} {v w : Option ℕ} → IsSection 8 startsec bytes at v a → IsSection 8 startsec bytes at w b → (v ≡ w) × (a ≡ b)
startsec_one s t = section_one content-startsec (one-sized start_one) (λ x y h k. sym (startsec-bare x h) ∙ startsec-bare y k) s t

-- ---- the codes of functions, whose types are known

one-run : IsOne run
one-run = one-as (λ (r : LocalRun). (r.count, r.ty)) (λ v w same. ap (λ (p : ℕ × ValTy). let r : LocalRun = record { count = p.0; ty = p.1 } in r) same) (λ v s h. h) (one-pair one-u32 one-valtype)

one-locals : IsOne locals
one-locals = record {
  one = λ v w a b x y h k same.
      let both = (one-vec one-run).one h.1 k.1 a b x y h.3 k.3 same in
      (both.0, sym h.2 ∙ ap types_of_runs both.1 ∙ k.2);
}

-- the locals and the body
abbrev code_parts : List ValTy × List Instr → Format
code_parts p = sized (pair locals expr p)

one-code_parts : IsOne code_parts
one-code_parts = one-sized (one_whole (one-pair one-locals one-expr))

parts_of : Func → List ValTy × List Instr
parts_of f = (f.locals, f.body)

each-parts : (funcs : List Func) (s : List ℕ) → each code funcs s → each code_parts (map parts_of funcs) s
unfolding parts_of
each-parts [] s h = h
each-parts (f ∷ funcs) s h = (h.0, h.1, h.2, h.3, each-parts funcs h.1 h.4)

vec-parts : (funcs : List Func) (s : List ℕ) → vec code funcs s → vec code_parts (map parts_of funcs) s
vec-parts funcs s h = (h.0, h.1, h.2, subst (λ (n : ℕ). u32 n h.0) (sym (length-map funcs parts_of)) h.3, each-parts funcs h.1 h.4)

same_funcs : (fs gs : List Func) → map (λ f. f.ty) fs ≡ map (λ f. f.ty) gs → map parts_of fs ≡ map parts_of gs → fs ≡ gs
unfolding parts_of
same_funcs [] [] types parts = refl
same_funcs [] (g ∷ gs) types parts = absurd (cc)
same_funcs (f ∷ fs) [] types parts = absurd (cc)
same_funcs (f ∷ fs) (g ∷ gs) types parts =
    let tails = same_funcs fs gs (ap (drop 1) types) (ap (drop 1) parts) in
    let first : f.ty ≡ g.ty = cc in
    let second : parts_of f ≡ parts_of g = cc in
    let heads : f ≡ g = ap (λ (n : ℕ). let h : Func = record { ty = n; locals = f.locals; body = f.body } in h) first ∙ ap (λ (p : List ValTy × List Instr). let h : Func = record { ty = g.ty; locals = p.0; body = p.1 } in h) second in
    ap (λ (h : Func). h ∷ fs) heads ∙ ap (λ (hs : List Func). g ∷ hs) tails

codes_one : (indices : List ℕ) (v w : List Func) (s : List ℕ) → codes_of indices v s → codes_of indices w s → v ≡ w
codes_one indices v w s h k =
    same_funcs v w (h.0 ∙ sym k.0) (one_whole (one-vec one-code_parts) (map parts_of v) (map parts_of w) s (vec-parts v s h.1) (vec-parts w s k.1))

codesec_one : {bytes : List ℕ} {at a b : ℕ} {v w : List Func} (indices : List ℕ) → IsSection 10 (codesec indices) bytes at v a → IsSection 10 (codesec indices) bytes at w b → (v ≡ w) × (a ≡ b)
codesec_one indices s t =
    section_one (content-codesec indices) (one-sized (codes_one indices)) (λ x y h k. sym (codesec-bare indices x h).0 ∙ (codesec-bare indices y k).0) s t

-- ---- the whole

-- a section from the same position
from_place : {V : Type 0} {id : ℕ} {S : V → Format} {bytes : List ℕ} {at place end : ℕ} {v : V} → at ≡ place → IsSection id S bytes place v end → IsSection id S bytes at v end
from_place {id = id} {S = S} {bytes = bytes} {end = end} {v = v} same s = subst (λ (n : ℕ). IsSection id S bytes n v end) (sym same) s

same_parts : (m n : Module) → m.types ≡ n.types → m.imports ≡ n.imports → m.funcs ≡ n.funcs → m.tables ≡ n.tables → m.memories ≡ n.memories → m.globals ≡ n.globals → m.exports ≡ n.exports → m.start ≡ n.start → m.elems ≡ n.elems → m.segments ≡ n.segments → m ≡ n
same_parts m n types imports funcs tables memories globals exports start elems segments =
    ap (λ (x : List FuncTy). let it : Module = record { types = x; imports = m.imports; funcs = m.funcs; tables = m.tables; memories = m.memories; globals = m.globals; exports = m.exports; start = m.start; elems = m.elems; segments = m.segments } in it) types
    ∙ ap (λ (x : List Import). let it : Module = record { types = n.types; imports = x; funcs = m.funcs; tables = m.tables; memories = m.memories; globals = m.globals; exports = m.exports; start = m.start; elems = m.elems; segments = m.segments } in it) imports
    ∙ ap (λ (x : List Func). let it : Module = record { types = n.types; imports = n.imports; funcs = x; tables = m.tables; memories = m.memories; globals = m.globals; exports = m.exports; start = m.start; elems = m.elems; segments = m.segments } in it) funcs
    ∙ ap (λ (x : List Limits). let it : Module = record { types = n.types; imports = n.imports; funcs = n.funcs; tables = x; memories = m.memories; globals = m.globals; exports = m.exports; start = m.start; elems = m.elems; segments = m.segments } in it) tables
    ∙ ap (λ (x : List Limits). let it : Module = record { types = n.types; imports = n.imports; funcs = n.funcs; tables = n.tables; memories = x; globals = m.globals; exports = m.exports; start = m.start; elems = m.elems; segments = m.segments } in it) memories
    ∙ ap (λ (x : List GlobalDef). let it : Module = record { types = n.types; imports = n.imports; funcs = n.funcs; tables = n.tables; memories = n.memories; globals = x; exports = m.exports; start = m.start; elems = m.elems; segments = m.segments } in it) globals
    ∙ ap (λ (x : List Export). let it : Module = record { types = n.types; imports = n.imports; funcs = n.funcs; tables = n.tables; memories = n.memories; globals = n.globals; exports = x; start = m.start; elems = m.elems; segments = m.segments } in it) exports
    ∙ ap (λ (x : Option ℕ). let it : Module = record { types = n.types; imports = n.imports; funcs = n.funcs; tables = n.tables; memories = n.memories; globals = n.globals; exports = n.exports; start = x; elems = m.elems; segments = m.segments } in it) start
    ∙ ap (λ (x : List ElemSegment). let it : Module = record { types = n.types; imports = n.imports; funcs = n.funcs; tables = n.tables; memories = n.memories; globals = n.globals; exports = n.exports; start = n.start; elems = x; segments = m.segments } in it) elems
    ∙ ap (λ (x : List DataSegment). let it : Module = record { types = n.types; imports = n.imports; funcs = n.funcs; tables = n.tables; memories = n.memories; globals = n.globals; exports = n.exports; start = n.start; elems = n.elems; segments = x } in it) segments

sections_one : (bytes : List ℕ) (at a b : ℕ) (m n : Module) → IsSections bytes at m a → IsSections bytes at n b → m ≡ n
sections_one bytes at a b m n s t =
    let types = vecsec_one 1 one-functype s.1 t.1 in
    let imports = vecsec_one 2 one-import s.3 (from_place types.1 t.3) in
    let indices = vecsec_one 3 one-u32 s.5 (from_place imports.1 t.5) in
    let tables = vecsec_one 4 one-tabletype s.7 (from_place indices.1 t.7) in
    let memories = vecsec_one 5 one-limits s.9 (from_place tables.1 t.9) in
    let globals = vecsec_one 6 one-global s.11 (from_place memories.1 t.11) in
    let exports = vecsec_one 7 one-export s.13 (from_place globals.1 t.13) in
    let start = startsec_one s.15 (from_place exports.1 t.15) in
    let elems = vecsec_one 9 one-elem s.17 (from_place start.1 t.17) in
    let funcs = codesec_one (map (λ f. f.ty) m.funcs) (coded refl s.19) (coded (sym indices.0) (from_place elems.1 t.19)) in
    let segments = vecsec_one 11 one-segment s.20 (from_place funcs.1 t.20) in
    same_parts m n types.0 imports.0 funcs.0 tables.0 memories.0 globals.0 exports.0 start.0 elems.0 segments.0

-- no bytes spell two modules
pub one-module : (bytes : List ℕ) (m n : Module) → SpellsModule bytes m → SpellsModule bytes n → m ≡ n
one-module bytes m n h k =
    let first = module-spelled bytes m h in
    let second = module-spelled bytes n k in
    sections_one bytes 8 first.1 second.1 m n first.2 second.2
