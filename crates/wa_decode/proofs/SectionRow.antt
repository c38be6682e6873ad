-- The reader of the sections of a module.
use Rattle.std.proofs.Common.{◌≡◌, ℕ, List, map, Option, refl, sym, ap, subst}
use Rattle.std.specs.Prelude.{Result, Ok, Err}
use Rattle.wa_syntax.specs.declared.module.DataSegment.{DataSegment}
use Rattle.wa_syntax.specs.declared.module.ElemSegment.{ElemSegment}
use Rattle.wa_syntax.specs.declared.module.Export.{Export}
use Rattle.wa_syntax.specs.declared.module.Func.{Func}
use Rattle.wa_syntax.specs.declared.module.FuncTy.{FuncTy}
use Rattle.wa_syntax.specs.declared.module.GlobalDef.{GlobalDef}
use Rattle.wa_syntax.specs.declared.module.Import.{Import}
use Rattle.wa_syntax.specs.declared.module.Limits.{Limits}
use Rattle.wa_syntax.specs.declared.module.Module.{Module}
use Rattle.wa_syntax.specs.Binary.{functype, tabletype, memtype, vecsec, import, global, export, startsec, elem, code, segment}
use Rattle.wa_syntax.specs.Formats.{u32}
use Rattle.wa_decode.specs.declared.fault.DecodeFault.{DecodeFault}
use Rattle.wa_decode.specs.Codes.{codesec}
use Rattle.wa_decode.specs.Sections.{IsSection, IsSections, ReadsTo}
use Rattle.wa_decode.proofs.Reading.{same_pair}

-- ---- one after another

-- the one value up to a position, and from there on the other
pub record And {U V : Type 0} (R : U → ℕ → Type 0) (Q : U → ℕ → V → ℕ → Type 0) (p : U × V) (end : ℕ) : Type 0 where
  pub mid : ℕ
  pub first : R p.0 mid
  pub second : Q p.0 mid p.1 end

pub and-ok : {U V : Type 0} {R : U → ℕ → Type 0} {Q : U → ℕ → V → ℕ → Type 0} {u : U} {mid : ℕ} {v : V} {end : ℕ} → ReadsTo R (Ok (u, mid)) → ReadsTo (Q u mid) (Ok (v, end)) → ReadsTo (And R Q) (Ok ((u, v), end))
and-ok {R = R} {Q = Q} {u = u} {mid = mid} {v = v} h k = record {
  found = record { mid = mid; first = h.found; second = k.found };
  complete = λ w to s.
      let first = h.complete w.0 s.mid s.first in
      let second = k.complete w.1 to (subst (λ (x : _). Q x mid w.1 to) (sym first.0) (subst (λ (n : ℕ). Q w.0 n w.1 to) (sym first.1) s.second)) in
      (same_pair u w.0 v w.1 first.0 second.0, second.1);
}

pub and-err : {U V : Type 0} {R : U → ℕ → Type 0} {Q : U → ℕ → V → ℕ → Type 0} {u : U} {mid : ℕ} {e : DecodeFault} → ReadsTo R (Ok (u, mid)) → ReadsTo (Q u mid) (Err e) → ReadsTo (And R Q) (Err e)
and-err {R = R} {Q = Q} {u = u} {mid = mid} h k = record {
  found = tt;
  complete = λ w to s.
      let first = h.complete w.0 s.mid s.first in
      k.complete w.1 to (subst (λ (x : _). Q x mid w.1 to) (sym first.0) (subst (λ (n : ℕ). Q w.0 n w.1 to) (sym first.1) s.second));
}

pub and-none : {U V : Type 0} {R : U → ℕ → Type 0} (Q : U → ℕ → V → ℕ → Type 0) {e : DecodeFault} → ReadsTo R (Err e) → ReadsTo (And R Q) (Err e)
and-none Q h = record {
  found = tt;
  complete = λ w to s. h.complete w.0 s.mid s.first;
}

-- ---- the sections, with the indices of the functions' types for themselves

abbrev pub Parts_11 : Type 0
Parts_11 = List DataSegment

abbrev pub Parts_10 : Type 0
Parts_10 = List Func × Parts_11

abbrev pub Parts_9 : Type 0
Parts_9 = List ElemSegment × Parts_10

abbrev pub Parts_8 : Type 0
Parts_8 = Option ℕ × Parts_9

abbrev pub Parts_7 : Type 0
Parts_7 = List Export × Parts_8

abbrev pub Parts_6 : Type 0
Parts_6 = List GlobalDef × Parts_7

abbrev pub Parts_5 : Type 0
Parts_5 = List Limits × Parts_6

abbrev pub Parts_4 : Type 0
Parts_4 = List Limits × Parts_5

abbrev pub Parts_3 : Type 0
Parts_3 = List ℕ × Parts_4

abbrev pub Parts_2 : Type 0
Parts_2 = List Import × Parts_3

abbrev pub Parts_1 : Type 0
Parts_1 = List FuncTy × Parts_2

abbrev pub parts_11 : List ℕ → ℕ → Parts_11 → ℕ → Type 0
parts_11 bytes at = IsSection 11 (vecsec 11 segment) bytes at

abbrev pub parts_10 : List ℕ → List ℕ → ℕ → Parts_10 → ℕ → Type 0
parts_10 bytes indices at = And (IsSection 10 (codesec indices) bytes at) (λ funcs mid. parts_11 bytes mid)

abbrev pub parts_9 : List ℕ → List ℕ → ℕ → Parts_9 → ℕ → Type 0
parts_9 bytes indices at = And (IsSection 9 (vecsec 9 elem) bytes at) (λ value mid. parts_10 bytes indices mid)

abbrev pub parts_8 : List ℕ → List ℕ → ℕ → Parts_8 → ℕ → Type 0
parts_8 bytes indices at = And (IsSection 8 (startsec) bytes at) (λ value mid. parts_9 bytes indices mid)

abbrev pub parts_7 : List ℕ → List ℕ → ℕ → Parts_7 → ℕ → Type 0
parts_7 bytes indices at = And (IsSection 7 (vecsec 7 export) bytes at) (λ value mid. parts_8 bytes indices mid)

abbrev pub parts_6 : List ℕ → List ℕ → ℕ → Parts_6 → ℕ → Type 0
parts_6 bytes indices at = And (IsSection 6 (vecsec 6 global) bytes at) (λ value mid. parts_7 bytes indices mid)

abbrev pub parts_5 : List ℕ → List ℕ → ℕ → Parts_5 → ℕ → Type 0
parts_5 bytes indices at = And (IsSection 5 (vecsec 5 memtype) bytes at) (λ value mid. parts_6 bytes indices mid)

abbrev pub parts_4 : List ℕ → List ℕ → ℕ → Parts_4 → ℕ → Type 0
parts_4 bytes indices at = And (IsSection 4 (vecsec 4 tabletype) bytes at) (λ value mid. parts_5 bytes indices mid)

abbrev pub parts_3 : List ℕ → ℕ → Parts_3 → ℕ → Type 0
parts_3 bytes at = And (IsSection 3 (vecsec 3 u32) bytes at) (λ indices mid. parts_4 bytes indices mid)

abbrev pub parts_2 : List ℕ → ℕ → Parts_2 → ℕ → Type 0
parts_2 bytes at = And (IsSection 2 (vecsec 2 import) bytes at) (λ value mid. parts_3 bytes mid)

abbrev pub parts_1 : List ℕ → ℕ → Parts_1 → ℕ → Type 0
parts_1 bytes at = And (IsSection 1 (vecsec 1 functype) bytes at) (λ value mid. parts_2 bytes mid)

module_of : Parts_1 → Module
module_of p = record {
  types = p.0;
  imports = p.1.0;
  funcs = p.1.1.1.1.1.1.1.1.1.0;
  tables = p.1.1.1.0;
  memories = p.1.1.1.1.0;
  globals = p.1.1.1.1.1.0;
  exports = p.1.1.1.1.1.1.0;
  start = p.1.1.1.1.1.1.1.0;
  elems = p.1.1.1.1.1.1.1.1.0;
  segments = p.1.1.1.1.1.1.1.1.1.1;
}

parts_of : Module → Parts_1
parts_of m = (m.types, (m.imports, ((map (λ f. f.ty) m.funcs), (m.tables, (m.memories, (m.globals, (m.exports, (m.start, (m.elems, (m.funcs, m.segments))))))))))

pub coded : {bytes : List ℕ} {at end : ℕ} {funcs : List Func} {indices : List ℕ} → map (λ f. f.ty) funcs ≡ indices → IsSection 10 (vecsec 10 code) bytes at funcs end → IsSection 10 (codesec indices) bytes at funcs end
coded same s = record {
  place = s.place;
  past = s.past;
  spelled = record { forward = s.spelled.forward; within = s.spelled.within; spelling = (same, s.spelled.spelling) };
  left_out = s.left_out;
}

uncoded : {bytes : List ℕ} {at end : ℕ} {funcs : List Func} {indices : List ℕ} → IsSection 10 (codesec indices) bytes at funcs end → IsSection 10 (vecsec 10 code) bytes at funcs end
uncoded s = record {
  place = s.place;
  past = s.past;
  spelled = record { forward = s.spelled.forward; within = s.spelled.within; spelling = s.spelled.spelling.1 };
  left_out = s.left_out;
}

to_parts : {bytes : List ℕ} {at end : ℕ} (m : Module) → IsSections bytes at m end → parts_1 bytes at (parts_of m) end
unfolding parts_of
to_parts m s =
    record { mid = s.0; first = s.1; second = record { mid = s.2; first = s.3; second = record { mid = s.4; first = s.5; second = record { mid = s.6; first = s.7; second = record { mid = s.8; first = s.9; second = record { mid = s.10; first = s.11; second = record { mid = s.12; first = s.13; second = record { mid = s.14; first = s.15; second = record { mid = s.16; first = s.17; second = record { mid = s.18; first = coded refl s.19; second = s.20 } } } } } } } } } }

to_module : {bytes : List ℕ} {at end : ℕ} (p : Parts_1) → parts_1 bytes at p end → IsSections bytes at (module_of p) end
unfolding module_of
to_module {bytes = bytes} p s =
    let codes = s.second.second.second.second.second.second.second.second.second.first in
    let same : map (λ f. f.ty) p.1.1.1.1.1.1.1.1.1.0 ≡ p.1.1.0 = codes.spelled.spelling.0 in
    let indices = subst (λ (l : List ℕ). IsSection 3 (vecsec 3 u32) bytes s.second.mid l s.second.second.mid) (sym same) s.second.second.first in
    (s.mid, s.first, s.second.mid, s.second.first, s.second.second.mid, indices, s.second.second.second.mid, s.second.second.second.first, s.second.second.second.second.mid, s.second.second.second.second.first, s.second.second.second.second.second.mid, s.second.second.second.second.second.first, s.second.second.second.second.second.second.mid, s.second.second.second.second.second.second.first, s.second.second.second.second.second.second.second.mid, s.second.second.second.second.second.second.second.first, s.second.second.second.second.second.second.second.second.mid, s.second.second.second.second.second.second.second.second.first, s.second.second.second.second.second.second.second.second.second.mid, uncoded codes, s.second.second.second.second.second.second.second.second.second.second)

pub module-ok : {bytes : List ℕ} {at end : ℕ} (types : List FuncTy) (imports : List Import) (indices : List ℕ) (tables : List Limits) (memories : List Limits) (globals : List GlobalDef) (exports : List Export) (start : Option ℕ) (elems : List ElemSegment) (funcs : List Func) (segments : List DataSegment) → ReadsTo (parts_1 bytes at) (Ok ((types, (imports, (indices, (tables, (memories, (globals, (exports, (start, (elems, (funcs, segments)))))))))), end)) → ReadsTo (IsSections bytes at) (Ok (record { types = types; imports = imports; funcs = funcs; tables = tables; memories = memories; globals = globals; exports = exports; start = start; elems = elems; segments = segments }, end))
unfolding module_of parts_of
module-ok types imports indices tables memories globals exports start elems funcs segments h = record {
  found = to_module (types, (imports, (indices, (tables, (memories, (globals, (exports, (start, (elems, (funcs, segments)))))))))) h.found;
  complete = λ n to s.
      let same = h.complete (parts_of n) to (to_parts n s) in
      (ap module_of same.0, same.1);
}

pub module-err : {bytes : List ℕ} {at : ℕ} {e : DecodeFault} → ReadsTo (parts_1 bytes at) (Err e) → ReadsTo (IsSections bytes at) (Err e)
module-err h = record { found = tt; complete = λ n to s. h.complete (parts_of n) to (to_parts n s) }

-- the indices of the types come as another list that is the same
pub codes_as : {bytes : List ℕ} {at : ℕ} {indices others : List ℕ} {r : Result (List Func × ℕ) DecodeFault} → others ≡ indices → ReadsTo (IsSection 10 (codesec others) bytes at) r → ReadsTo (IsSection 10 (codesec indices) bytes at) r
codes_as {bytes = bytes} {at = at} {r = r} same h = subst (λ (l : List ℕ). ReadsTo (IsSection 10 (codesec l) bytes at) r) same h
