-- What a module begins with: globals of their types, and a memory of bytes that has no more pages than it may.
use Rattle.std.proofs.Common.{◌≡◌, ℕ, ◌+◌, ◌/◌, ◌≤◌, min, List, [], ◌∷◌, map, length, fold, replicate, slice_get, unwrap_or, Option, Some, None, All, refl, sym, subst, ◌∙◌, arith}
use Rattle.std.specs.Prelude.{IfSome}
use Rattle.std.proofs.Math.Nat.{mul-div_left}
use Rattle.std.proofs.lemmas.List.{length-replicate}
use Rattle.std.proofs.lemmas.List.Elements.{All-head, All-tail, All-replicate}
use Rattle.std.proofs.lemmas.Option.{slice_get_within, get_or_from_slice_get}
use Rattle.wa_syntax.specs.declared.module.ValTy.{ValTy}
use Rattle.wa_syntax.specs.declared.module.Limits.{Limits}
use Rattle.wa_syntax.specs.declared.module.GlobalTy.{GlobalTy}
use Rattle.wa_syntax.specs.declared.module.GlobalDef.{GlobalDef}
use Rattle.wa_syntax.specs.declared.module.Init.{Init}
use Rattle.wa_syntax.specs.declared.module.DataSegment.{DataSegment}
use Rattle.wa_syntax.specs.declared.module.Module.{Module}
use Rattle.wa_syntax.specs.ValidModule.{IsValid, IsConstant, IsMemory, imported, imported_global}
use Rattle.wa_syntax.specs.Operations.{page, overwritten}
use Rattle.wa_syntax.specs.Steps.{most_pages}
use Rattle.wa_syntax.specs.Runs.{IsLinked, init_value, first_globals, offset_of, least, memory_size, first_memory}
use Rattle.wa_type_safety.specs.Ranges.{IsByte, IsInitInRange}
use Rattle.wa_type_safety.specs.Typing.{Setting, BeginsInRange, IsOf, EachIsOf, AreOf, global_types, IsStore}
use Rattle.wa_type_safety.proofs.Values.{IsOf-zero}
use Rattle.wa_type_safety.proofs.Memory.{bytes-overwritten, length-overwritten, most_of}
use Rattle.wa_type_safety.proofs.Linked.{own-globals}

-- ---- globals

module _ (r : Setting) where
  first-value : (globals : List GlobalTy) (t : ValTy) (init : Init) → IsConstant globals t init → (BeginsInRange r → IsInitInRange init) → IsOf r t (init_value [] init)
  first-value globals t (Init.Const32 n) is h = subst (λ (u : ValTy). IsOf r u n) (sym is) h
  first-value globals t (Init.Const64 n) is h = subst (λ (u : ValTy). IsOf r u n) (sym is) h
  first-value globals t (Init.Global x) is h = IsOf-zero r t

  each-first : (globals : List GlobalTy) (gs : List GlobalDef) → All (λ (g : GlobalDef). IsConstant globals g.ty.val g.init) gs → (BeginsInRange r → All (λ (g : GlobalDef). IsInitInRange g.init) gs) → EachIsOf r (map (λ (h : GlobalTy). h.val) (map (λ (g : GlobalDef). g.ty) gs)) (map (λ (g : GlobalDef). init_value [] g.init) gs)
  each-first globals [] all h = tt
  each-first globals (g ∷ gs) all h = (
    first-value globals g.ty.val g.init (All-head (λ (g : GlobalDef). IsConstant globals g.ty.val g.init) g gs all) (λ begins. All-head (λ (g : GlobalDef). IsInitInRange g.init) g gs (h begins)),
    each-first globals gs (All-tail (λ (g : GlobalDef). IsConstant globals g.ty.val g.init) g gs all) (λ begins. All-tail (λ (g : GlobalDef). IsInitInRange g.init) g gs (h begins)),
  )

  globals-first : IsValid r.program → IsLinked r.program → AreOf r (global_types r.program) (first_globals r.program)
  globals-first valid linked = record {
    each = subst (λ (gs : List GlobalTy). EachIsOf r (map (λ (h : GlobalTy). h.val) gs) (first_globals r.program)) (sym (own-globals r.program linked))
        (each-first (imported imported_global r.program) r.program.globals valid.outside.globals (λ begins. begins.globals));
  }

-- ---- memory

module _ (at : Init → ℕ) where
  -- the bytes with these segments
  abbrev with_segments : List ℕ → List DataSegment → List ℕ
  with_segments bytes segments = fold (λ bytes segment. overwritten bytes (at segment.offset) segment.bytes) bytes segments

  bytes-segments : (bytes : List ℕ) (segments : List DataSegment) → All IsByte bytes → All (λ (s : DataSegment). All IsByte s.bytes) segments → All IsByte (with_segments bytes segments)
  bytes-segments bytes [] h all = h
  bytes-segments bytes (s ∷ segments) h all =
      bytes-segments (overwritten bytes (at s.offset) s.bytes) segments
      (bytes-overwritten bytes s.bytes (at s.offset) h (All-head (λ (s : DataSegment). All IsByte s.bytes) s segments all))
      (All-tail (λ (s : DataSegment). All IsByte s.bytes) s segments all)

  length-segments : (n : ℕ) (bytes : List ℕ) (segments : List DataSegment) → length bytes ≡ n → All (λ (s : DataSegment). at s.offset + length s.bytes ≤ n) segments → length (with_segments bytes segments) ≡ n
  length-segments n bytes [] h all = h
  length-segments n bytes (s ∷ segments) h all =
      let fits : at s.offset + length s.bytes ≤ n = All-head (λ (s : DataSegment). at s.offset + length s.bytes ≤ n) s segments all in
      length-segments n (overwritten bytes (at s.offset) s.bytes) segments
      (length-overwritten bytes s.bytes (at s.offset) (omega (arith, h, fits)) ∙ h)
      (All-tail (λ (s : DataSegment). at s.offset + length s.bytes ≤ n) s segments all)

-- ---- pages

least-le : (o : Option Limits) → ((limits : Limits) → o ≡ Some limits → IsMemory limits) → least o ≤ most_of o
least-le None h = omega arith
least-le (Some limits) h = let is = h limits refl in by limits.max is.0 is.1
  where
    by : (max : Option ℕ) → limits.min ≤ 65536 → IfSome max (λ most. (limits.min ≤ most) × (most ≤ 65536)) → limits.min ≤ min (unwrap_or max 65536) 65536
    by None low within = omega (arith, low)
    by (Some most) low within = omega (arith, within.0, within.1)

pages-first : (m : Module) → IsValid m → memory_size m / page ≤ most_pages m
pages-first m valid =
    subst (λ (n : ℕ). n ≤ most_pages m) (sym (mul-div_left (least (slice_get m.memories 0)) {n = page} (omega arith)))
    (least-le (slice_get m.memories 0) (λ limits e. subst IsMemory (get_or_from_slice_get m.memories 0 limits limits e) (valid.outside.memories 0 limits (slice_get_within m.memories 0 limits e))))

-- ---- the state that a run begins with

pub store-first : (r : Setting) → IsValid r.program → IsLinked r.program → IsStore r (first_globals r.program) (first_memory r.program) r.input
store-first r valid linked = record {
  globals_are = globals-first r valid linked;
  bytes = λ begins. bytes-segments (offset_of r.program) (replicate (memory_size r.program) 0) r.program.segments (All-replicate IsByte (memory_size r.program) 0 (omega arith)) begins.segments;
  pages = λ begins. subst (λ (n : ℕ). n / page ≤ most_pages r.program)
      (sym (length-segments (offset_of r.program) (memory_size r.program) (replicate (memory_size r.program) 0) r.program.segments (length-replicate (memory_size r.program) 0) begins.fit.segments))
      (pages-first r.program valid);
  input_is = λ begins. begins.input_is;
}
