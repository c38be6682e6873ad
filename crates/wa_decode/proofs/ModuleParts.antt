-- Imports, exports, globals and segments, by what their parts are.
use Rattle.std.proofs.Common.{◌≡◌, ℕ, List, ◌++◌, refl, sym, ap, ◌∙◌, append_assoc, arith}
use Rattle.std.specs.Prelude.{Ok, Err}
use Rattle.wa_syntax.specs.declared.module.ElemSegment.{ElemSegment}
use Rattle.wa_syntax.specs.declared.module.Export.{Export}
use Rattle.wa_syntax.specs.declared.module.ExportKind.{ExportKind}
use Rattle.wa_syntax.specs.declared.module.ExportKind.TheVariants as exported
use Rattle.wa_syntax.specs.declared.module.GlobalDef.{GlobalDef}
use Rattle.wa_syntax.specs.declared.module.GlobalTy.{GlobalTy}
use Rattle.wa_syntax.specs.declared.module.Import.{Import}
use Rattle.wa_syntax.specs.declared.module.ImportKind.{ImportKind}
use Rattle.wa_syntax.specs.declared.module.ImportKind.TheVariants as imported
use Rattle.wa_syntax.specs.declared.module.Init.{Init}
use Rattle.wa_syntax.specs.declared.module.Init.TheVariants.{Const32, Const64, Global}
use Rattle.wa_syntax.specs.declared.module.Limits.{Limits}
use Rattle.wa_syntax.specs.declared.module.DataSegment.{DataSegment}
use Rattle.wa_syntax.specs.Binary.{tabletype, memtype, globaltype, importdesc, import, exportdesc, export, global, elem, segment}
use Rattle.wa_syntax.specs.BinaryInstructions.{init}
use Rattle.wa_syntax.specs.Formats.{Format, ◌then◌, byte, name, vec, u32, i32, i64}
use Rattle.wa_decode.specs.declared.fault.DecodeFault.{DecodeFault}
use Rattle.wa_decode.specs.Reading.{Reads, init_value}
use Rattle.wa_decode.proofs.Arms.{Arm, HasFirst}
use Rattle.wa_decode.proofs.Reading.{pair, as-ok, as-err}
use Rattle.wa_decode.proofs.Tails.{Starts, byte_starts, starts-one}

-- another first byte
other_first : {A : Format} {T : Type 0} (b c : ℕ) (s : List ℕ) → (byte c then A) s → Starts b s → (b ≡ c → ⊥) → T
other_first b c s h starts differ = absurd (differ (starts-one b c s starts (byte_starts c s h)))

-- ---- what is imported

pub importdesc-first : HasFirst importdesc
importdesc-first (imported.Func x) s h = (0x00, byte_starts 0x00 s h)
importdesc-first (imported.Table x) s h = (0x01, byte_starts 0x01 s h)
importdesc-first (imported.Memory x) s h = (0x02, byte_starts 0x02 s h)
importdesc-first (imported.Global x) s h = (0x03, byte_starts 0x03 s h)

importdesc-only_func : (w : ImportKind) (s : List ℕ) → importdesc w s → Starts 0x00 s → (u : ℕ) × (w ≡ imported.Func u) × (byte 0x00 then u32 u) s
importdesc-only_func (imported.Func x) s h starts = (x, refl, h)
importdesc-only_func (imported.Table x) s h starts = other_first 0x00 0x01 s h starts (λ same. omega (arith, same))
importdesc-only_func (imported.Memory x) s h starts = other_first 0x00 0x02 s h starts (λ same. omega (arith, same))
importdesc-only_func (imported.Global x) s h starts = other_first 0x00 0x03 s h starts (λ same. omega (arith, same))

pub importdesc-func : Arm importdesc u32 0x00 (λ (u : ℕ). imported.Func u)
importdesc-func = record { into = λ u s h. h; only = importdesc-only_func }

importdesc-only_table : (w : ImportKind) (s : List ℕ) → importdesc w s → Starts 0x01 s → (u : Limits) × (w ≡ imported.Table u) × (byte 0x01 then tabletype u) s
importdesc-only_table (imported.Func x) s h starts = other_first 0x01 0x00 s h starts (λ same. omega (arith, same))
importdesc-only_table (imported.Table x) s h starts = (x, refl, h)
importdesc-only_table (imported.Memory x) s h starts = other_first 0x01 0x02 s h starts (λ same. omega (arith, same))
importdesc-only_table (imported.Global x) s h starts = other_first 0x01 0x03 s h starts (λ same. omega (arith, same))

pub importdesc-table : Arm importdesc tabletype 0x01 (λ (u : Limits). imported.Table u)
importdesc-table = record { into = λ u s h. h; only = importdesc-only_table }

importdesc-only_memory : (w : ImportKind) (s : List ℕ) → importdesc w s → Starts 0x02 s → (u : Limits) × (w ≡ imported.Memory u) × (byte 0x02 then memtype u) s
importdesc-only_memory (imported.Func x) s h starts = other_first 0x02 0x00 s h starts (λ same. omega (arith, same))
importdesc-only_memory (imported.Table x) s h starts = other_first 0x02 0x01 s h starts (λ same. omega (arith, same))
importdesc-only_memory (imported.Memory x) s h starts = (x, refl, h)
importdesc-only_memory (imported.Global x) s h starts = other_first 0x02 0x03 s h starts (λ same. omega (arith, same))

pub importdesc-memory : Arm importdesc memtype 0x02 (λ (u : Limits). imported.Memory u)
importdesc-memory = record { into = λ u s h. h; only = importdesc-only_memory }

importdesc-only_global : (w : ImportKind) (s : List ℕ) → importdesc w s → Starts 0x03 s → (u : GlobalTy) × (w ≡ imported.Global u) × (byte 0x03 then globaltype u) s
importdesc-only_global (imported.Func x) s h starts = other_first 0x03 0x00 s h starts (λ same. omega (arith, same))
importdesc-only_global (imported.Table x) s h starts = other_first 0x03 0x01 s h starts (λ same. omega (arith, same))
importdesc-only_global (imported.Memory x) s h starts = other_first 0x03 0x02 s h starts (λ same. omega (arith, same))
importdesc-only_global (imported.Global x) s h starts = (x, refl, h)

pub importdesc-global : Arm importdesc globaltype 0x03 (λ (u : GlobalTy). imported.Global u)
importdesc-global = record { into = λ u s h. h; only = importdesc-only_global }

pub importdesc-none : (k : ℕ) → (k ≡ 0x00 → ⊥) → (k ≡ 0x01 → ⊥) → (k ≡ 0x02 → ⊥) → (k ≡ 0x03 → ⊥) → (w : ImportKind) (s : List ℕ) → importdesc w s → Starts k s → ⊥
importdesc-none k n0 n1 n2 n3 (imported.Func x) s h starts = other_first k 0x00 s h starts n0
importdesc-none k n0 n1 n2 n3 (imported.Table x) s h starts = other_first k 0x01 s h starts n1
importdesc-none k n0 n1 n2 n3 (imported.Memory x) s h starts = other_first k 0x02 s h starts n2
importdesc-none k n0 n1 n2 n3 (imported.Global x) s h starts = other_first k 0x03 s h starts n3

-- ---- what is exported

pub exportdesc-first : HasFirst exportdesc
exportdesc-first (exported.Func x) s h = (0x00, byte_starts 0x00 s h)
exportdesc-first (exported.Table x) s h = (0x01, byte_starts 0x01 s h)
exportdesc-first (exported.Memory x) s h = (0x02, byte_starts 0x02 s h)
exportdesc-first (exported.Global x) s h = (0x03, byte_starts 0x03 s h)

exportdesc-only_func : (w : ExportKind) (s : List ℕ) → exportdesc w s → Starts 0x00 s → (u : ℕ) × (w ≡ exported.Func u) × (byte 0x00 then u32 u) s
exportdesc-only_func (exported.Func x) s h starts = (x, refl, h)
exportdesc-only_func (exported.Table x) s h starts = other_first 0x00 0x01 s h starts (λ same. omega (arith, same))
exportdesc-only_func (exported.Memory x) s h starts = other_first 0x00 0x02 s h starts (λ same. omega (arith, same))
exportdesc-only_func (exported.Global x) s h starts = other_first 0x00 0x03 s h starts (λ same. omega (arith, same))

pub exportdesc-func : Arm exportdesc u32 0x00 (λ (u : ℕ). exported.Func u)
exportdesc-func = record { into = λ u s h. h; only = exportdesc-only_func }

exportdesc-only_table : (w : ExportKind) (s : List ℕ) → exportdesc w s → Starts 0x01 s → (u : ℕ) × (w ≡ exported.Table u) × (byte 0x01 then u32 u) s
exportdesc-only_table (exported.Func x) s h starts = other_first 0x01 0x00 s h starts (λ same. omega (arith, same))
exportdesc-only_table (exported.Table x) s h starts = (x, refl, h)
exportdesc-only_table (exported.Memory x) s h starts = other_first 0x01 0x02 s h starts (λ same. omega (arith, same))
exportdesc-only_table (exported.Global x) s h starts = other_first 0x01 0x03 s h starts (λ same. omega (arith, same))

pub exportdesc-table : Arm exportdesc u32 0x01 (λ (u : ℕ). exported.Table u)
exportdesc-table = record { into = λ u s h. h; only = exportdesc-only_table }

exportdesc-only_memory : (w : ExportKind) (s : List ℕ) → exportdesc w s → Starts 0x02 s → (u : ℕ) × (w ≡ exported.Memory u) × (byte 0x02 then u32 u) s
exportdesc-only_memory (exported.Func x) s h starts = other_first 0x02 0x00 s h starts (λ same. omega (arith, same))
exportdesc-only_memory (exported.Table x) s h starts = other_first 0x02 0x01 s h starts (λ same. omega (arith, same))
exportdesc-only_memory (exported.Memory x) s h starts = (x, refl, h)
exportdesc-only_memory (exported.Global x) s h starts = other_first 0x02 0x03 s h starts (λ same. omega (arith, same))

pub exportdesc-memory : Arm exportdesc u32 0x02 (λ (u : ℕ). exported.Memory u)
exportdesc-memory = record { into = λ u s h. h; only = exportdesc-only_memory }

exportdesc-only_global : (w : ExportKind) (s : List ℕ) → exportdesc w s → Starts 0x03 s → (u : ℕ) × (w ≡ exported.Global u) × (byte 0x03 then u32 u) s
exportdesc-only_global (exported.Func x) s h starts = other_first 0x03 0x00 s h starts (λ same. omega (arith, same))
exportdesc-only_global (exported.Table x) s h starts = other_first 0x03 0x01 s h starts (λ same. omega (arith, same))
exportdesc-only_global (exported.Memory x) s h starts = other_first 0x03 0x02 s h starts (λ same. omega (arith, same))
exportdesc-only_global (exported.Global x) s h starts = (x, refl, h)

pub exportdesc-global : Arm exportdesc u32 0x03 (λ (u : ℕ). exported.Global u)
exportdesc-global = record { into = λ u s h. h; only = exportdesc-only_global }

pub exportdesc-none : (k : ℕ) → (k ≡ 0x00 → ⊥) → (k ≡ 0x01 → ⊥) → (k ≡ 0x02 → ⊥) → (k ≡ 0x03 → ⊥) → (w : ExportKind) (s : List ℕ) → exportdesc w s → Starts k s → ⊥
exportdesc-none k n0 n1 n2 n3 (exported.Func x) s h starts = other_first k 0x00 s h starts n0
exportdesc-none k n0 n1 n2 n3 (exported.Table x) s h starts = other_first k 0x01 s h starts n1
exportdesc-none k n0 n1 n2 n3 (exported.Memory x) s h starts = other_first k 0x02 s h starts n2
exportdesc-none k n0 n1 n2 n3 (exported.Global x) s h starts = other_first k 0x03 s h starts n3

-- ---- an initial value without its end

pub init-first : HasFirst init_value
init-first (Const32 x) s h = (0x41, byte_starts 0x41 s h)
init-first (Const64 x) s h = (0x42, byte_starts 0x42 s h)
init-first (Global x) s h = (0x23, byte_starts 0x23 s h)

init-only_const32 : (w : Init) (s : List ℕ) → init_value w s → Starts 0x41 s → (u : ℕ) × (w ≡ Const32 u) × (byte 0x41 then i32 u) s
init-only_const32 (Const32 x) s h starts = (x, refl, h)
init-only_const32 (Const64 x) s h starts = other_first 0x41 0x42 s h starts (λ same. omega (arith, same))
init-only_const32 (Global x) s h starts = other_first 0x41 0x23 s h starts (λ same. omega (arith, same))

pub init-const32 : Arm init_value i32 0x41 (λ (u : ℕ). Const32 u)
init-const32 = record { into = λ u s h. h; only = init-only_const32 }

init-only_const64 : (w : Init) (s : List ℕ) → init_value w s → Starts 0x42 s → (u : ℕ) × (w ≡ Const64 u) × (byte 0x42 then i64 u) s
init-only_const64 (Const32 x) s h starts = other_first 0x42 0x41 s h starts (λ same. omega (arith, same))
init-only_const64 (Const64 x) s h starts = (x, refl, h)
init-only_const64 (Global x) s h starts = other_first 0x42 0x23 s h starts (λ same. omega (arith, same))

pub init-const64 : Arm init_value i64 0x42 (λ (u : ℕ). Const64 u)
init-const64 = record { into = λ u s h. h; only = init-only_const64 }

init-only_global : (w : Init) (s : List ℕ) → init_value w s → Starts 0x23 s → (u : ℕ) × (w ≡ Global u) × (byte 0x23 then u32 u) s
init-only_global (Const32 x) s h starts = other_first 0x23 0x41 s h starts (λ same. omega (arith, same))
init-only_global (Const64 x) s h starts = other_first 0x23 0x42 s h starts (λ same. omega (arith, same))
init-only_global (Global x) s h starts = (x, refl, h)

pub init-global : Arm init_value u32 0x23 (λ (u : ℕ). Global u)
init-global = record { into = λ u s h. h; only = init-only_global }

pub init-none : (k : ℕ) → (k ≡ 0x41 → ⊥) → (k ≡ 0x42 → ⊥) → (k ≡ 0x23 → ⊥) → (w : Init) (s : List ℕ) → init_value w s → Starts k s → ⊥
init-none k n0 n1 n2 (Const32 x) s h starts = other_first k 0x41 s h starts n0
init-none k n0 n1 n2 (Const64 x) s h starts = other_first k 0x42 s h starts n1
init-none k n0 n1 n2 (Global x) s h starts = other_first k 0x23 s h starts n2

init-down : (v : Init) (s : List ℕ) → init v s → (init_value v then byte 0x0b) s
init-down (Const32 x) s h = (h.0 ++ h.4.0, h.4.1, h.2 ∙ ap (λ (back : List ℕ). h.0 ++ back) h.4.2 ∙ sym (append_assoc h.0 h.4.0 h.4.1), (h.0, h.4.0, refl, h.3, h.4.3), h.4.4)
init-down (Const64 x) s h = (h.0 ++ h.4.0, h.4.1, h.2 ∙ ap (λ (back : List ℕ). h.0 ++ back) h.4.2 ∙ sym (append_assoc h.0 h.4.0 h.4.1), (h.0, h.4.0, refl, h.3, h.4.3), h.4.4)
init-down (Global x) s h = (h.0 ++ h.4.0, h.4.1, h.2 ∙ ap (λ (back : List ℕ). h.0 ++ back) h.4.2 ∙ sym (append_assoc h.0 h.4.0 h.4.1), (h.0, h.4.0, refl, h.3, h.4.3), h.4.4)

init-up : (v : Init) (s : List ℕ) → (init_value v then byte 0x0b) s → init v s
init-up (Const32 x) s h = (h.3.0, h.3.1 ++ h.1, h.2 ∙ ap (λ (front : List ℕ). front ++ h.1) h.3.2 ∙ append_assoc h.3.0 h.3.1 h.1, h.3.3, (h.3.1, h.1, refl, h.3.4, h.4))
init-up (Const64 x) s h = (h.3.0, h.3.1 ++ h.1, h.2 ∙ ap (λ (front : List ℕ). front ++ h.1) h.3.2 ∙ append_assoc h.3.0 h.3.1 h.1, h.3.3, (h.3.1, h.1, refl, h.3.4, h.4))
init-up (Global x) s h = (h.3.0, h.3.1 ++ h.1, h.2 ∙ ap (λ (front : List ℕ). front ++ h.1) h.3.2 ∙ append_assoc h.3.0 h.3.1 h.1, h.3.3, (h.3.1, h.1, refl, h.3.4, h.4))

pub init-ok : {bytes : List ℕ} {at end : ℕ} (v : Init) → Reads (λ (w : Init). init_value w then byte 0x0b) bytes at (Ok (v, end)) → Reads init bytes at (Ok (v, end))
init-ok v = as-ok (λ (w : Init). w) (λ (w : Init). w) (λ w. refl) init-down (init-up v _)

pub init-err : {bytes : List ℕ} {at : ℕ} {e : DecodeFault} → Reads (λ (w : Init). init_value w then byte 0x0b) bytes at (Err e) → Reads init bytes at (Err e)
init-err = as-err (λ (w : Init). w) init-down

-- ---- an import

pub import-ok : {bytes : List ℕ} {at end : ℕ} (its_module its_name : List ℕ) (its_kind : ImportKind) → Reads (pair name (pair name importdesc)) bytes at (Ok ((its_module, (its_name, its_kind)), end)) → Reads import bytes at (Ok (record { «module» = its_module; name = its_name; kind = its_kind }, end))
import-ok its_module its_name its_kind = as-ok (λ (p : List ℕ × (List ℕ × ImportKind)). let t : Import = record { «module» = p.0; name = p.1.0; kind = p.1.1 } in t) (λ (t : Import). (t.«module», (t.name, t.kind))) (λ t. refl) (λ t s h. h) (λ h. h)

pub import-err : {bytes : List ℕ} {at : ℕ} {e : DecodeFault} → Reads (pair name (pair name importdesc)) bytes at (Err e) → Reads import bytes at (Err e)
import-err = as-err (λ (t : Import). (t.«module», (t.name, t.kind))) (λ t s h. h)

-- ---- an export

pub export-ok : {bytes : List ℕ} {at end : ℕ} (its_name : List ℕ) (its_kind : ExportKind) → Reads (pair name exportdesc) bytes at (Ok ((its_name, its_kind), end)) → Reads export bytes at (Ok (record { name = its_name; kind = its_kind }, end))
export-ok its_name its_kind = as-ok (λ (p : List ℕ × ExportKind). let t : Export = record { name = p.0; kind = p.1 } in t) (λ (t : Export). (t.name, t.kind)) (λ t. refl) (λ t s h. h) (λ h. h)

pub export-err : {bytes : List ℕ} {at : ℕ} {e : DecodeFault} → Reads (pair name exportdesc) bytes at (Err e) → Reads export bytes at (Err e)
export-err = as-err (λ (t : Export). (t.name, t.kind)) (λ t s h. h)

-- ---- a global

pub global-ok : {bytes : List ℕ} {at end : ℕ} (its_ty : GlobalTy) (its_init : Init) → Reads (pair globaltype init) bytes at (Ok ((its_ty, its_init), end)) → Reads global bytes at (Ok (record { ty = its_ty; init = its_init }, end))
global-ok its_ty its_init = as-ok (λ (p : GlobalTy × Init). let t : GlobalDef = record { ty = p.0; init = p.1 } in t) (λ (t : GlobalDef). (t.ty, t.init)) (λ t. refl) (λ t s h. h) (λ h. h)

pub global-err : {bytes : List ℕ} {at : ℕ} {e : DecodeFault} → Reads (pair globaltype init) bytes at (Err e) → Reads global bytes at (Err e)
global-err = as-err (λ (t : GlobalDef). (t.ty, t.init)) (λ t s h. h)

-- ---- a segment of a table

pub elem-ok : {bytes : List ℕ} {at end : ℕ} (table : ℕ) (offset : Init) (funcs : List ℕ) → Reads (pair u32 (pair init (vec u32))) bytes at (Ok ((table, (offset, funcs)), end)) → Reads elem bytes at (Ok (record { table = table; offset = offset; funcs = funcs }, end))
elem-ok table offset funcs = as-ok (λ (p : ℕ × (Init × List ℕ)). let t : ElemSegment = record { table = p.0; offset = p.1.0; funcs = p.1.1 } in t) (λ (t : ElemSegment). (t.table, (t.offset, t.funcs))) (λ t. refl) (λ t s h. h) (λ h. h)

pub elem-err : {bytes : List ℕ} {at : ℕ} {e : DecodeFault} → Reads (pair u32 (pair init (vec u32))) bytes at (Err e) → Reads elem bytes at (Err e)
elem-err = as-err (λ (t : ElemSegment). (t.table, (t.offset, t.funcs))) (λ t s h. h)

-- ---- a segment of a memory

pub segment-ok : {source : List ℕ} {at end : ℕ} (memory : ℕ) (offset : Init) (bytes : List ℕ) → Reads (pair u32 (pair init (vec byte))) source at (Ok ((memory, (offset, bytes)), end)) → Reads segment source at (Ok (record { memory = memory; offset = offset; bytes = bytes }, end))
segment-ok memory offset bytes = as-ok (λ (p : ℕ × (Init × List ℕ)). let t : DataSegment = record { memory = p.0; offset = p.1.0; bytes = p.1.1 } in t) (λ (t : DataSegment). (t.memory, (t.offset, t.bytes))) (λ t. refl) (λ t s h. h) (λ h. h)

pub segment-err : {bytes : List ℕ} {at : ℕ} {e : DecodeFault} → Reads (pair u32 (pair init (vec byte))) bytes at (Err e) → Reads segment bytes at (Err e)
segment-err = as-err (λ (t : DataSegment). (t.memory, (t.offset, t.bytes))) (λ t s h. h)

-- ---- what is exported, by its kind and its index

abbrev export_code : ExportKind → ℕ
export_code (exported.Func x) = 0x00
export_code (exported.Table x) = 0x01
export_code (exported.Memory x) = 0x02
export_code (exported.Global x) = 0x03

abbrev export_index : ExportKind → ℕ
export_index (exported.Func x) = x
export_index (exported.Table x) = x
export_index (exported.Memory x) = x
export_index (exported.Global x) = x

export-parts : (w : ExportKind) (s : List ℕ) → exportdesc w s → pair byte u32 (export_code w, export_index w) s
export-parts (exported.Func x) s h = h
export-parts (exported.Table x) s h = h
export-parts (exported.Memory x) s h = h
export-parts (exported.Global x) s h = h

pub exportdesc-err : {bytes : List ℕ} {at : ℕ} {e : DecodeFault} → Reads (pair byte u32) bytes at (Err e) → Reads exportdesc bytes at (Err e)
exportdesc-err = as-err (λ (w : ExportKind). (export_code w, export_index w)) export-parts
