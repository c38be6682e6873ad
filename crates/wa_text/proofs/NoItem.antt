-- Which words denote no item.
use Rattle.std.proofs.Common.{◌≡◌, ◌≢◌, ℕ, ◌≤◌, List, [], ◌∷◌, ◌++◌, length, refl, sym, ap, subst, ◌∙◌, arith}
use Rattle.std.specs.Prelude.{codes}
use Rattle.wa_syntax.specs.declared.module.DataSegment.{DataSegment}
use Rattle.wa_syntax.specs.declared.module.ElemSegment.{ElemSegment}
use Rattle.wa_syntax.specs.declared.module.Export.{Export}
use Rattle.wa_syntax.specs.declared.module.ExportKind.{ExportKind}
use Rattle.wa_syntax.specs.declared.module.ExportKind.TheVariants as exported
use Rattle.wa_syntax.specs.declared.module.GlobalDef.{GlobalDef}
use Rattle.wa_syntax.specs.declared.module.GlobalTy.{GlobalTy}
use Rattle.wa_syntax.specs.declared.module.Import.{Import}
use Rattle.wa_syntax.specs.declared.module.ImportKind.{ImportKind}
use Rattle.wa_syntax.specs.declared.module.ImportKind.TheVariants as imported
use Rattle.wa_syntax.specs.declared.module.Init.{Init}
use Rattle.wa_syntax.specs.declared.module.Init.TheVariants.{Const32, Const64, Global}
use Rattle.wa_syntax.specs.declared.module.Limits.{Limits}
use Rattle.wa_syntax.specs.declared.module.ValTy.{ValTy}
use Rattle.wa_text.specs.Forms.{Form, ◌then◌, each}
use Rattle.wa_text.specs.Listing.{exportdesc, globaltype, importdesc, init, limits, locals}
use Rattle.wa_text.specs.Words.{Word, Line, bytes, name, u32, u64}
use Rattle.wa_text.proofs.NoWords.{behind_word, bytes_one, first_of, mut_one, name_one, none_of, u32_one, val_one}
use Rattle.wa_text.proofs.OneItem.{differ, import_begins, init_kind, init_value, init_words}

-- ---- two words

abbrev pub IsTwo : {V : Type 0} → (V → Form Word) → Type 0
IsTwo {V = V} F = (v : V) (s : List Word) → F v s → (b : Word) × (c : Word) × (s ≡ b ∷ c ∷ [])

global_two : IsTwo globaltype
global_two t s h =
    let b = val_one t.val h.0 h.3 in
    let c = mut_one t.mutable h.1 h.4 in
    (b.0, c.0, h.2 ∙ ap (λ (front : Line). front ++ h.1) b.1 ∙ ap (λ (back : Line). b.0 ∷ back) c.1)

init_two : IsTwo init
init_two i s h = (init_kind i, init_value i, init_words i s h)

-- the first two words, and those after them
first_two : {V : Type 0} {F : V → Form Word} {G : Form Word} → IsTwo F → (v : V) (a b : Word) (s : List Word) → (F v then G) (a ∷ b ∷ s) → F v (a ∷ b ∷ []) × G s
first_two {F = F} {G = G} two v a b s h =
    let c = two v h.0 h.3 in
    let rows : a ∷ b ∷ s ≡ c.0 ∷ c.1 ∷ h.1 = h.2 ∙ ap (λ (front : Line). front ++ h.1) c.2 in
    let one : a ≡ c.0 = cc in
    let other : b ≡ c.1 = cc in
    let tail : h.1 ≡ s = cc in
    (subst (F v) (c.2 ∙ ap (λ (x : Word). x ∷ c.1 ∷ []) (sym one) ∙ ap (λ (x : Word). a ∷ x ∷ []) (sym other)) h.3, subst G tail h.4)

pub global_length : (t : GlobalTy) (s : Line) → globaltype t s → length s ≡ 2
global_length t s h = ap length (global_two t s h).2

-- ---- what an import asks for

pub import_func : (k : ImportKind) (w : Word) (s : Line) → w ≡ codes "func" → importdesc k (w ∷ s) → (v : ℕ) × u32 v s
import_func (imported.Func x) w s is h = (x, (behind_word w s h).1)
import_func (imported.Table t) w s is h = absurd (differ (codes "func") (codes "table") refl (sym is ∙ (behind_word w s h).0))
import_func (imported.Memory t) w s is h = absurd (differ (codes "func") (codes "memory") refl (sym is ∙ (behind_word w s h).0))
import_func (imported.Global t) w s is h = absurd (differ (codes "func") (codes "global") refl (sym is ∙ (behind_word w s h).0))

pub import_table : (k : ImportKind) (w : Word) (s : Line) → w ≡ codes "table" → importdesc k (w ∷ s) → (v : Limits) × limits v s
import_table (imported.Func x) w s is h = absurd (differ (codes "table") (codes "func") refl (sym is ∙ (behind_word w s h).0))
import_table (imported.Table t) w s is h = (t, (behind_word w s h).1)
import_table (imported.Memory t) w s is h = absurd (differ (codes "table") (codes "memory") refl (sym is ∙ (behind_word w s h).0))
import_table (imported.Global t) w s is h = absurd (differ (codes "table") (codes "global") refl (sym is ∙ (behind_word w s h).0))

pub import_memory : (k : ImportKind) (w : Word) (s : Line) → w ≡ codes "memory" → importdesc k (w ∷ s) → (v : Limits) × limits v s
import_memory (imported.Func x) w s is h = absurd (differ (codes "memory") (codes "func") refl (sym is ∙ (behind_word w s h).0))
import_memory (imported.Table t) w s is h = absurd (differ (codes "memory") (codes "table") refl (sym is ∙ (behind_word w s h).0))
import_memory (imported.Memory t) w s is h = (t, (behind_word w s h).1)
import_memory (imported.Global t) w s is h = absurd (differ (codes "memory") (codes "global") refl (sym is ∙ (behind_word w s h).0))

pub import_global : (k : ImportKind) (w : Word) (s : Line) → w ≡ codes "global" → importdesc k (w ∷ s) → (v : GlobalTy) × globaltype v s
import_global (imported.Func x) w s is h = absurd (differ (codes "global") (codes "func") refl (sym is ∙ (behind_word w s h).0))
import_global (imported.Table t) w s is h = absurd (differ (codes "global") (codes "table") refl (sym is ∙ (behind_word w s h).0))
import_global (imported.Memory t) w s is h = absurd (differ (codes "global") (codes "memory") refl (sym is ∙ (behind_word w s h).0))
import_global (imported.Global t) w s is h = (t, (behind_word w s h).1)

pub no_import : (k : ImportKind) (w : Word) (s : Line) → w ≢ codes "func" → w ≢ codes "table" → w ≢ codes "memory" → w ≢ codes "global" → importdesc k (w ∷ s) → ⊥
no_import (imported.Func x) w s func table memory global h = func (behind_word w s h).0
no_import (imported.Table t) w s func table memory global h = table (behind_word w s h).0
no_import (imported.Memory t) w s func table memory global h = memory (behind_word w s h).0
no_import (imported.Global t) w s func table memory global h = global (behind_word w s h).0

pub import_parts : (i : Import) (a b : Word) (s : Line) → (name i.«module» then name i.name then importdesc i.kind) (a ∷ b ∷ s) → name i.«module» (a ∷ []) × name i.name (b ∷ []) × importdesc i.kind s
import_parts i a b s h =
    let one = first_of name_one i.«module» a (b ∷ s) h in
    let other = first_of name_one i.name b s one.1 in
    (one.0, other.0, other.1)

pub import_length : (i : Import) (s : Line) → (name i.«module» then name i.name then importdesc i.kind) s → 3 ≤ length s
import_length i [] h = absurd (none_of name_one i.«module» h)
import_length i (a ∷ []) h = absurd (none_of name_one i.name (first_of name_one i.«module» a [] h).1)
import_length i (a ∷ b ∷ []) h = absurd (omega (arith, ap length (import_begins i.kind [] (import_parts i a b [] h).2).1))
import_length i (a ∷ b ∷ c ∷ s) h = omega arith

-- ---- what is exported

pub export_value : (k : ExportKind) (w v : Word) → exportdesc k (w ∷ v ∷ []) → (n : ℕ) × u32 n (v ∷ [])
export_value (exported.Func x) w v h = (x, (behind_word w (v ∷ []) h).1)
export_value (exported.Table x) w v h = (x, (behind_word w (v ∷ []) h).1)
export_value (exported.Memory x) w v h = (x, (behind_word w (v ∷ []) h).1)
export_value (exported.Global x) w v h = (x, (behind_word w (v ∷ []) h).1)

pub no_export : (k : ExportKind) (w : Word) (s : Line) → w ≢ codes "func" → w ≢ codes "table" → w ≢ codes "memory" → w ≢ codes "global" → exportdesc k (w ∷ s) → ⊥
no_export (exported.Func x) w s func table memory global h = func (behind_word w s h).0
no_export (exported.Table x) w s func table memory global h = table (behind_word w s h).0
no_export (exported.Memory x) w s func table memory global h = memory (behind_word w s h).0
no_export (exported.Global x) w s func table memory global h = global (behind_word w s h).0

pub export_parts : (e : Export) (a : Word) (s : Line) → (name e.name then exportdesc e.kind) (a ∷ s) → name e.name (a ∷ []) × exportdesc e.kind s
export_parts e a s h = first_of name_one e.name a s h

kind_length : (k : ExportKind) (s : Line) → exportdesc k s → length s ≡ 2
kind_length (exported.Func x) s h = ap length (h.2 ∙ ap (λ (front : Line). front ++ h.1) h.3 ∙ ap (λ (back : Line). codes "func" ∷ back) h.4.1)
kind_length (exported.Table x) s h = ap length (h.2 ∙ ap (λ (front : Line). front ++ h.1) h.3 ∙ ap (λ (back : Line). codes "table" ∷ back) h.4.1)
kind_length (exported.Memory x) s h = ap length (h.2 ∙ ap (λ (front : Line). front ++ h.1) h.3 ∙ ap (λ (back : Line). codes "memory" ∷ back) h.4.1)
kind_length (exported.Global x) s h = ap length (h.2 ∙ ap (λ (front : Line). front ++ h.1) h.3 ∙ ap (λ (back : Line). codes "global" ∷ back) h.4.1)

pub export_length : (e : Export) (s : Line) → (name e.name then exportdesc e.kind) s → length s ≡ 3
export_length e [] h = absurd (none_of name_one e.name h)
export_length e (a ∷ s) h = omega (arith, kind_length e.kind s (export_parts e a s h).1)

-- ---- initial values

pub init_i32 : (i : Init) (w v : Word) → w ≡ codes "i32" → init i (w ∷ v ∷ []) → (n : ℕ) × u32 n (v ∷ [])
init_i32 (Const32 n) w v is h = (n, (behind_word w (v ∷ []) h).1)
init_i32 (Const64 n) w v is h = absurd (differ (codes "i32") (codes "i64") refl (sym is ∙ (behind_word w (v ∷ []) h).0))
init_i32 (Global x) w v is h = absurd (differ (codes "i32") (codes "get") refl (sym is ∙ (behind_word w (v ∷ []) h).0))

pub init_i64 : (i : Init) (w v : Word) → w ≡ codes "i64" → init i (w ∷ v ∷ []) → (n : ℕ) × u64 n (v ∷ [])
init_i64 (Const32 n) w v is h = absurd (differ (codes "i64") (codes "i32") refl (sym is ∙ (behind_word w (v ∷ []) h).0))
init_i64 (Const64 n) w v is h = (n, (behind_word w (v ∷ []) h).1)
init_i64 (Global x) w v is h = absurd (differ (codes "i64") (codes "get") refl (sym is ∙ (behind_word w (v ∷ []) h).0))

pub init_get : (i : Init) (w v : Word) → w ≡ codes "get" → init i (w ∷ v ∷ []) → (n : ℕ) × u32 n (v ∷ [])
init_get (Const32 n) w v is h = absurd (differ (codes "get") (codes "i32") refl (sym is ∙ (behind_word w (v ∷ []) h).0))
init_get (Const64 n) w v is h = absurd (differ (codes "get") (codes "i64") refl (sym is ∙ (behind_word w (v ∷ []) h).0))
init_get (Global x) w v is h = (x, (behind_word w (v ∷ []) h).1)

pub no_init : (i : Init) (w : Word) (s : Line) → w ≢ codes "i32" → w ≢ codes "i64" → w ≢ codes "get" → init i (w ∷ s) → ⊥
no_init (Const32 n) w s i32 i64 get h = i32 (behind_word w s h).0
no_init (Const64 n) w s i32 i64 get h = i64 (behind_word w s h).0
no_init (Global x) w s i32 i64 get h = get (behind_word w s h).0

-- ---- globals, segments and functions

pub global_parts : (g : GlobalDef) (a b c d : Word) → (globaltype g.ty then init g.init) (a ∷ b ∷ c ∷ d ∷ []) → globaltype g.ty (a ∷ b ∷ []) × init g.init (c ∷ d ∷ [])
global_parts g a b c d h = first_two global_two g.ty a b (c ∷ d ∷ []) h

pub global_words : (g : GlobalDef) (s : Line) → (globaltype g.ty then init g.init) s → length s ≡ 4
global_words g s h =
    let t = global_two g.ty h.0 h.3 in
    let i = init_two g.init h.1 h.4 in
    ap length (h.2 ∙ ap (λ (front : Line). front ++ h.1) t.2 ∙ ap (λ (back : Line). t.0 ∷ t.1 ∷ back) i.2)

pub elem_parts : (e : ElemSegment) (a b c : Word) (s : Line) → (u32 e.table then init e.offset then each u32 e.funcs) (a ∷ b ∷ c ∷ s) → u32 e.table (a ∷ []) × init e.offset (b ∷ c ∷ []) × each u32 e.funcs s
elem_parts e a b c s h =
    let table = first_of u32_one e.table a (b ∷ c ∷ s) h in
    let offset = first_two init_two e.offset b c s table.1 in
    (table.0, offset.0, offset.1)

pub elem_length : (e : ElemSegment) (s : Line) → (u32 e.table then init e.offset then each u32 e.funcs) s → 3 ≤ length s
elem_length e [] h = absurd (none_of u32_one e.table h)
elem_length e (a ∷ s) h =
    let rest = (first_of u32_one e.table a s h).1 in
    let offset = init_two e.offset rest.0 rest.3 in
    let rows : s ≡ offset.0 ∷ offset.1 ∷ rest.1 = rest.2 ∙ ap (λ (front : Line). front ++ rest.1) offset.2 in
    omega (arith, ap length rows)

pub segment_parts : (x : DataSegment) (a b c d : Word) → (u32 x.memory then init x.offset then bytes x.bytes) (a ∷ b ∷ c ∷ d ∷ []) → u32 x.memory (a ∷ []) × init x.offset (b ∷ c ∷ []) × bytes x.bytes (d ∷ [])
segment_parts x a b c d h =
    let memory = first_of u32_one x.memory a (b ∷ c ∷ d ∷ []) h in
    let offset = first_two init_two x.offset b c (d ∷ []) memory.1 in
    (memory.0, offset.0, offset.1)

pub segment_length : (x : DataSegment) (s : Line) → (u32 x.memory then init x.offset then bytes x.bytes) s → length s ≡ 4
segment_length x [] h = absurd (none_of u32_one x.memory h)
segment_length x (a ∷ s) h =
    let rest = (first_of u32_one x.memory a s h).1 in
    let offset = init_two x.offset rest.0 rest.3 in
    let last = bytes_one x.bytes rest.1 rest.4 in
    let rows : s ≡ offset.0 ∷ offset.1 ∷ last.0 ∷ [] = rest.2 ∙ ap (λ (front : Line). front ++ rest.1) offset.2 ∙ ap (λ (back : Line). offset.0 ∷ offset.1 ∷ back) last.1 in
    omega (arith, ap length rows)

pub head_parts : (n : ℕ) (types : List ValTy) (a : Word) (s : Line) → (u32 n then locals types) (a ∷ s) → u32 n (a ∷ []) × locals types s
head_parts n types a s h = first_of u32_one n a s h

pub head_length : (n : ℕ) (types : List ValTy) (s : Line) → (u32 n then locals types) s → 1 ≤ length s
head_length n types [] h = absurd (none_of u32_one n h)
head_length n types (a ∷ s) h = omega arith
