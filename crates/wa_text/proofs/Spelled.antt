-- A module that some bytes spell has a listing: each form of the binary format has one of words or of lines.
use Rattle.std.proofs.Common.{◌≡◌, ℕ, zero, suc, ◌^◌, ◌<◌, Bool, true, false, ℤ, pos, negsuc, ◌<ℤ◌, List, [], ◌∷◌, ◌++◌, Option, Some, None, map, refl, sym, subst, inl, inr, pow_pos, arith}
use Rattle.std.proofs.lemmas.Int.{ints}
use Rattle.std.specs.Prelude.{codes, ◌-◌}
use Rattle.std.specs.Int.{Width, w32, w64, cast_unsigned}
use Rattle.std.specs.List.{AllByRecursion}
use mir.Val.{bits}
use Rattle.wa_syntax.specs.declared.instr.Instr.{Instr, out-Instr}
use Rattle.wa_syntax.specs.declared.instr.Instr.TheOpen.{Instr-F}
use Rattle.wa_syntax.specs.declared.module.ElemSegment.{ElemSegment}
use Rattle.wa_syntax.specs.declared.module.Export.{Export}
use Rattle.wa_syntax.specs.declared.module.ExportKind.{ExportKind}
use Rattle.wa_syntax.specs.declared.module.ExportKind.TheVariants as exported
use Rattle.wa_syntax.specs.declared.module.Func.{Func}
use Rattle.wa_syntax.specs.declared.module.FuncTy.{FuncTy}
use Rattle.wa_syntax.specs.declared.module.GlobalDef.{GlobalDef}
use Rattle.wa_syntax.specs.declared.module.GlobalTy.{GlobalTy}
use Rattle.wa_syntax.specs.declared.module.Import.{Import}
use Rattle.wa_syntax.specs.declared.module.ImportKind.{ImportKind}
use Rattle.wa_syntax.specs.declared.module.ImportKind.TheVariants as imported
use Rattle.wa_syntax.specs.declared.module.Init.{Init}
use Rattle.wa_syntax.specs.declared.module.Init.TheVariants.{Const32, Const64, Global}
use Rattle.wa_syntax.specs.declared.module.Limits.{Limits}
use Rattle.wa_syntax.specs.declared.module.Module.{Module}
use Rattle.wa_syntax.specs.declared.module.DataSegment.{DataSegment}
use Rattle.wa_syntax.specs.declared.module.ValTy.{ValTy}
use Rattle.wa_syntax.specs.declared.module.ValTy.TheVariants.{I32, I64}
use Rattle.wa_syntax.specs.Binary.{SpellsModule, vecsec}
use Rattle.wa_syntax.specs.Binary as binary
use Rattle.wa_syntax.specs.BinaryInstructions.{instr as spelled_instr}
use Rattle.wa_syntax.specs.BinaryInstructions as binary_instr
use Rattle.wa_syntax.specs.Formats as formats
use Rattle.wa_syntax.specs.Formats.{Format}
use Rattle.wa_syntax.proofs.Signed.{IsSigned-within}
use Rattle.wa_syntax.proofs.Unsigned.{IsUnsigned-below}
use Rattle.wa_text.specs.Forms.{Form, each}
use Rattle.wa_text.specs.Instructions.{begin, block_result, else_end, end, expr, indexed, instr, instr_over, max_nesting, named}
use Rattle.wa_text.specs.Listing as listing
use Rattle.wa_text.specs.Listing.{IsListing, module_lines}
use Rattle.wa_text.specs.Words.{Word, Line, line, u32, u64, name, val, mut, text_of}
use Rattle.wa_text.proofs.Having.{AreBytes, HasLines, HasWords, has_bytes, has_each, has_line, has_name, has_nothing, has_then, has_u32, has_u64, has_word, is_word}
use Rattle.wa_text.proofs.Opcodes.{HasName, access_named, bare_named, of_memory_named}
use Rattle.wa_text.proofs.Splitting.{both_of}

-- ---- numbers

number_has : (n : ℕ) (bytes : List ℕ) → formats.u32 n bytes → HasWords (u32 n)
number_has n bytes h = has_u32 n (IsUnsigned-below 32 bytes n h)

below_all : (m n : ℕ) → 0 < m → m - suc n < m
below_all m n h = omega arith

cast_below : (w : Width) (z : ℤ) → z <ℤ pos (2 ^ bits w) → cast_unsigned w z < 2 ^ bits w
cast_below w (pos n) h = omega (arith, ints, h)
cast_below w (negsuc n) h = below_all (2 ^ bits w) n (pow_pos (bits w))

i32_has : (n : ℕ) (bytes : List ℕ) → formats.i32 n bytes → HasWords (u32 n)
i32_has n bytes (z, h, e) =
    let within = IsSigned-within 32 bytes z (omega arith) h in
    has_u32 n (subst (λ (k : ℕ). k < 2 ^ 32) (sym e) (cast_below w32 z (omega (arith, ints, within.below))))

i64_has : (n : ℕ) (bytes : List ℕ) → formats.i64 n bytes → HasWords (u64 n)
i64_has n bytes (z, h, e) =
    let within = IsSigned-within 64 bytes z (omega arith) h in
    has_u64 n (subst (λ (k : ℕ). k < 2 ^ 64) (sym e) (cast_below w64 z (omega (arith, ints, within.below))))

-- ---- vectors and sections

front_bytes : (front back : List ℕ) → AreBytes (front ++ back) → AreBytes front
front_bytes [] back h = tt
front_bytes (b ∷ front) back h = (h.0, front_bytes front back h.1)

back_bytes : (front back : List ℕ) → AreBytes (front ++ back) → AreBytes back
back_bytes [] back h = h
back_bytes (b ∷ front) back h = back_bytes front back h.1

in_front : (front back : List ℕ) {bytes : List ℕ} → bytes ≡ front ++ back → AreBytes bytes → AreBytes front
in_front front back e h = front_bytes front back (subst AreBytes e h)

following : (front back : List ℕ) {bytes : List ℕ} → bytes ≡ front ++ back → AreBytes bytes → AreBytes back
following front back e h = back_bytes front back (subst AreBytes e h)

each_has : {V : Type 0} (B : V → Format) (P : V → Type 0) (vs : List V) (bytes : List ℕ) → ((v : V) (bytes : List ℕ) → AreBytes bytes → B v bytes → P v) → AreBytes bytes → formats.each B vs bytes → AllByRecursion P vs
each_has B P [] bytes f are s = tt
each_has B P (v ∷ vs) bytes f are s = (f v s.0 (in_front _ _ s.2 are) s.3, each_has B P vs s.1 f (following _ _ s.2 are) s.4)

section_has : {V : Type 0} (id : ℕ) (B : V → Format) (P : V → Type 0) (vs : List V) (bytes : List ℕ) → ((v : V) (bytes : List ℕ) → AreBytes bytes → B v bytes → P v) → AreBytes bytes → vecsec id B vs bytes → AllByRecursion P vs
section_has id B P vs bytes f are (inl (none, empty)) = subst (AllByRecursion P) (sym none) tt
section_has id B P vs bytes f are (inr s) =
    let content : AreBytes s.4.0 = subst AreBytes s.4.2.4 (following _ _ s.4.2.2 (following _ _ s.2 are)) in
    each_has B P vs s.4.1.1 f (following _ _ s.4.1.2 content) s.4.1.4

numbers_have : (ns : List ℕ) (bytes : List ℕ) → AreBytes bytes → formats.each formats.u32 ns bytes → AllByRecursion (λ n. HasWords (u32 n)) ns
numbers_have ns bytes are s = each_has formats.u32 (λ n. HasWords (u32 n)) ns bytes (λ n spelled is h. number_has n spelled h) are s

-- ---- types

val_has : (t : ValTy) → HasWords (val t)
val_has I32 = has_word (codes "i32") refl
val_has I64 = has_word (codes "i64") refl

vals_have : (ts : List ValTy) → AllByRecursion (λ t. HasWords (val t)) ts
vals_have [] = tt
vals_have (t ∷ ts) = (val_has t, vals_have ts)

mut_has : (mutable : Bool) → HasWords (mut mutable)
mut_has false = has_word (codes "const") refl
mut_has true = has_word (codes "var") refl

functype_has : (t : FuncTy) → HasWords (listing.functype t)
functype_has t =
    has_then (has_word (codes "type") refl) (has_then (has_each val t.params (vals_have t.params)) (has_then (has_word (codes "->") refl) (has_each val t.results (vals_have t.results))))

limits_of_has : (min : ℕ) (max : Option ℕ) (bytes : List ℕ) → binary.limits_of min max bytes → HasWords (listing.limits_of min max)
limits_of_has min None bytes s = number_has min s.1 s.4
limits_of_has min (Some max) bytes s = has_then (number_has min s.4.0 s.4.3) (number_has max s.4.1 s.4.4)

limits_has : (l : Limits) (bytes : List ℕ) → binary.limits l bytes → HasWords (listing.limits l)
limits_has l bytes s = limits_of_has l.min l.max bytes s

globaltype_has : (t : GlobalTy) → HasWords (listing.globaltype t)
globaltype_has t = has_then (val_has t.val) (mut_has t.mutable)

-- ---- items

importdesc_has : (kind : ImportKind) (bytes : List ℕ) → binary.importdesc kind bytes → HasWords (listing.importdesc kind)
importdesc_has (imported.Func x) bytes s = has_then (has_word (codes "func") refl) (number_has x s.1 s.4)
importdesc_has (imported.Table t) bytes s = has_then (has_word (codes "table") refl) (limits_has t s.4.1 s.4.4)
importdesc_has (imported.Memory t) bytes s = has_then (has_word (codes "memory") refl) (limits_has t s.1 s.4)
importdesc_has (imported.Global t) bytes s = has_then (has_word (codes "global") refl) (globaltype_has t)

-- bytes one after another, each spelled by itself
spelled_bytes : (bs bytes : List ℕ) → AreBytes bytes → formats.each formats.byte bs bytes → AreBytes bs
spelled_bytes bs bytes are s = each_has formats.byte (λ b. b < 256) bs bytes (λ b front is e. (subst AreBytes e is).0) are s

name_has : (text bytes : List ℕ) → AreBytes bytes → formats.name text bytes → HasWords (name text)
name_has text bytes are (utf8, s) = has_name text utf8 (spelled_bytes text s.1 (following _ _ s.2 are) s.4)

import_has : (i : Import) (bytes : List ℕ) → AreBytes bytes → binary.import i bytes → HasWords (listing.import i)
import_has i bytes are s =
    let rest = following _ _ s.2 are in
    has_then (has_word (codes "import") refl) (has_then (name_has i.module s.0 (in_front _ _ s.2 are) s.3) (has_then (name_has i.name s.4.0 (in_front _ _ s.4.2 rest) s.4.3) (importdesc_has i.kind s.4.1 s.4.4)))

init_has : (i : Init) (bytes : List ℕ) → binary_instr.init i bytes → HasWords (listing.init i)
init_has (Const32 n) bytes s = has_then (has_word (codes "i32") refl) (i32_has n s.4.0 s.4.3)
init_has (Const64 n) bytes s = has_then (has_word (codes "i64") refl) (i64_has n s.4.0 s.4.3)
init_has (Global x) bytes s = has_then (has_word (codes "get") refl) (number_has x s.4.0 s.4.3)

table_has : (l : Limits) (bytes : List ℕ) → AreBytes bytes → binary.tabletype l bytes → HasWords (listing.table l)
table_has l bytes are s = has_then (has_word (codes "table") refl) (limits_has l s.1 s.4)

memory_has : (l : Limits) (bytes : List ℕ) → AreBytes bytes → binary.memtype l bytes → HasWords (listing.memory l)
memory_has l bytes are s = has_then (has_word (codes "memory") refl) (limits_has l bytes s)

global_has : (g : GlobalDef) (bytes : List ℕ) → AreBytes bytes → binary.global g bytes → HasWords (listing.global g)
global_has g bytes are s = has_then (has_word (codes "global") refl) (has_then (globaltype_has g.ty) (init_has g.init s.1 s.4))

exportdesc_has : (kind : ExportKind) (bytes : List ℕ) → binary.exportdesc kind bytes → HasWords (listing.exportdesc kind)
exportdesc_has (exported.Func x) bytes s = has_then (has_word (codes "func") refl) (number_has x s.1 s.4)
exportdesc_has (exported.Table x) bytes s = has_then (has_word (codes "table") refl) (number_has x s.1 s.4)
exportdesc_has (exported.Memory x) bytes s = has_then (has_word (codes "memory") refl) (number_has x s.1 s.4)
exportdesc_has (exported.Global x) bytes s = has_then (has_word (codes "global") refl) (number_has x s.1 s.4)

export_has : (e : Export) (bytes : List ℕ) → AreBytes bytes → binary.export e bytes → HasWords (listing.export e)
export_has e bytes are s = has_then (has_word (codes "export") refl) (has_then (name_has e.name s.0 (in_front _ _ s.2 are) s.3) (exportdesc_has e.kind s.1 s.4))

start_has : (func : Option ℕ) (bytes : List ℕ) → binary.startsec func bytes → HasLines (listing.start func)
start_has None bytes s = has_nothing
start_has (Some x) bytes s = has_line (has_then (has_word (codes "start") refl) (number_has x s.4.0 s.4.1))

elem_has : (e : ElemSegment) (bytes : List ℕ) → AreBytes bytes → binary.elem e bytes → HasWords (listing.elem e)
elem_has e bytes are s =
    let funcs = following _ _ s.4.4.2 (following _ _ s.4.2 (following _ _ s.2 are)) in
    has_then (has_word (codes "elem") refl) (has_then (number_has e.table s.0 s.3) (has_then (init_has e.offset s.4.0 s.4.3) (has_each u32 e.funcs (numbers_have e.funcs s.4.4.1 funcs s.4.4.4))))

segment_has : (x : DataSegment) (bytes : List ℕ) → AreBytes bytes → binary.segment x bytes → HasWords (listing.segment x)
segment_has x bytes are s =
    let content = following _ _ s.4.4.2 (following _ _ s.4.2 (following _ _ s.2 are)) in
    has_then (has_word (codes "data") refl) (has_then (number_has x.memory s.0 s.3) (has_then (init_has x.offset s.4.0 s.4.3) (has_bytes x.bytes (spelled_bytes x.bytes s.4.4.1 content s.4.4.4))))

-- ---- instructions

indexed_has : (w : Word) (x : ℕ) (bytes : List ℕ) → is_word w ≡ true → formats.u32 x bytes → HasLines (indexed w x)
indexed_has w x bytes is s = has_line (has_then (has_word w is) (number_has x bytes s))

named_has : {names : List (ℕ × Word)} {op : ℕ} → HasName names op → HasWords (named names op)
named_has h = record { items = h.name ∷ []; spelled = (h.name, h.named, refl); pass = (h.is_word, tt) }

end_has : HasLines end
end_has = has_line (has_word (codes "end") refl)

block_result_has : (t : Option ValTy) → HasWords (block_result t)
block_result_has None = has_nothing
block_result_has (Some t) = val_has t

begin_has : (w : Word) (t : Option ValTy) → is_word w ≡ true → HasLines (begin w t)
begin_has w t is = has_line (has_then (has_word w is) (block_result_has t))

else_end_has : (Body : List Instr → Form Line) (branch : List Instr) → HasLines (Body branch) → HasLines (else_end Body branch)
else_end_has Body [] h = end_has
else_end_has Body (i ∷ is) h = has_then (has_line (has_word (codes "else") refl)) (has_then h end_has)

layer_has : (Spelled : List Instr → Format) (Body : List Instr → Form Line) → ((body : List Instr) (bytes : List ℕ) → AreBytes bytes → Spelled body bytes → HasLines (Body body)) → (layer : Instr-F Instr) (bytes : List ℕ) → AreBytes bytes → binary_instr.instr_over Spelled layer bytes → HasLines (instr_over Body layer)
layer_has Spelled Body held (Instr-F.Plain op) bytes are (inl s) = has_line (named_has (bare_named op s.0))
layer_has Spelled Body held (Instr-F.Plain op) bytes are (inr s) = has_line (named_has (of_memory_named op s.0))
layer_has Spelled Body held (Instr-F.Block t body) bytes are s =
    has_then (begin_has (codes "block") t refl) (has_then (held body s.4.4.0 (in_front _ _ s.4.4.2 (following _ _ s.4.2 (following _ _ s.2 are))) s.4.4.3) end_has)
layer_has Spelled Body held (Instr-F.Loop t body) bytes are s =
    has_then (begin_has (codes "loop") t refl) (has_then (held body s.4.4.0 (in_front _ _ s.4.4.2 (following _ _ s.4.2 (following _ _ s.2 are))) s.4.4.3) end_has)
layer_has Spelled Body held (Instr-F.If t branches) bytes are (inl (none, s)) =
    has_then (begin_has (codes "if") t refl) (has_then (held branches.0 s.4.4.0 (in_front _ _ s.4.4.2 (following _ _ s.4.2 (following _ _ s.2 are))) s.4.4.3) (subst (λ (branch : List Instr). HasLines (else_end Body branch)) (sym none) end_has))
layer_has Spelled Body held (Instr-F.If t branches) bytes are (inr s) =
    let rest = following _ _ s.4.2 (following _ _ s.2 are) in
    let branch = following _ _ s.4.4.4.2 (following _ _ s.4.4.2 rest) in
    has_then (begin_has (codes "if") t refl) (has_then (held branches.0 s.4.4.0 (in_front _ _ s.4.4.2 rest) s.4.4.3) (else_end_has Body branches.1 (held branches.1 s.4.4.4.4.0 (in_front _ _ s.4.4.4.4.2 branch) s.4.4.4.4.3)))
layer_has Spelled Body held (Instr-F.Br l) bytes are s = indexed_has (codes "br") l s.1 refl s.4
layer_has Spelled Body held (Instr-F.BrIf l) bytes are s = indexed_has (codes "br_if") l s.1 refl s.4
layer_has Spelled Body held (Instr-F.BrTable targets) bytes are s =
    let labels = following _ _ s.4.3.2 (in_front _ _ s.4.2 (following _ _ s.2 are)) in
    has_line (has_then (has_word (codes "br_table") refl) (has_then (has_each u32 targets.0 (numbers_have targets.0 s.4.3.1 labels s.4.3.4)) (number_has targets.1 s.4.1 s.4.4)))
layer_has Spelled Body held (Instr-F.Call x) bytes are s = indexed_has (codes "call") x s.1 refl s.4
layer_has Spelled Body held (Instr-F.CallIndirect x) bytes are s = indexed_has (codes "call_indirect") x s.4.0 refl s.4.3
layer_has Spelled Body held (Instr-F.LocalGet x) bytes are s = indexed_has (codes "local.get") x s.1 refl s.4
layer_has Spelled Body held (Instr-F.LocalSet x) bytes are s = indexed_has (codes "local.set") x s.1 refl s.4
layer_has Spelled Body held (Instr-F.LocalTee x) bytes are s = indexed_has (codes "local.tee") x s.1 refl s.4
layer_has Spelled Body held (Instr-F.GlobalGet x) bytes are s = indexed_has (codes "global.get") x s.1 refl s.4
layer_has Spelled Body held (Instr-F.GlobalSet x) bytes are s = indexed_has (codes "global.set") x s.1 refl s.4
layer_has Spelled Body held (Instr-F.Memory op align offset) bytes are (access, s) =
    has_line (has_then (named_has (access_named op access)) (has_then (number_has align s.4.0 s.4.3) (number_has offset s.4.1 s.4.4)))
layer_has Spelled Body held (Instr-F.I32Const n) bytes are s = has_line (has_then (has_word (codes "i32.const") refl) (i32_has n s.1 s.4))
layer_has Spelled Body held (Instr-F.I64Const n) bytes are s = has_line (has_then (has_word (codes "i64.const") refl) (i64_has n s.1 s.4))

instrs_have : (levels : ℕ) → ((i : Instr) (bytes : List ℕ) → AreBytes bytes → spelled_instr levels i bytes → HasLines (instr levels i)) → (body : List Instr) (bytes : List ℕ) → AreBytes bytes → formats.each (spelled_instr levels) body bytes → HasLines (each (instr levels) body)
instrs_have levels has body bytes are s = has_each (instr levels) body (each_has (spelled_instr levels) (λ i. HasLines (instr levels i)) body bytes has are s)

instr_has : (levels : ℕ) (i : Instr) (bytes : List ℕ) → AreBytes bytes → spelled_instr levels i bytes → HasLines (instr levels i)
unfolding instr spelled_instr
instr_has zero i bytes are s = layer_has (λ body bytes. ⊥) (λ body lines. ⊥) (λ body bytes is no. absurd no) (out-Instr i) bytes are s
instr_has (suc levels) i bytes are s = layer_has (formats.each (spelled_instr levels)) (each (instr levels)) (instrs_have levels (instr_has levels)) (out-Instr i) bytes are s

-- ---- functions

-- what a function has besides its type
record HasCode (f : Func) : Type 0 where
  locals : HasWords (listing.locals f.locals)
  body : HasLines (expr f.body)

code_has : (f : Func) (bytes : List ℕ) → AreBytes bytes → binary.code f bytes → HasCode f
code_has f bytes are s =
    let content : AreBytes s.0 = subst AreBytes s.2.4 (following _ _ s.2.2 are) in
    let body = in_front _ _ s.1.4.2 (following _ _ s.1.2 content) in
    let types = has_each val f.locals (vals_have f.locals) in
    record {
      locals = record { items = types.items; spelled = (s.1.3.0, types.spelled); pass = types.pass };
      body = has_then (instrs_have max_nesting (instr_has max_nesting) f.body s.1.4.0 body s.1.4.3) end_has;
    }

func_has : (f : Func) → HasWords (u32 f.ty) → HasCode f → HasLines (listing.func f)
func_has f ty code = has_then (has_line (has_then (has_word (codes "func") refl) (has_then ty code.locals))) code.body

typed : (funcs : List Func) → AllByRecursion (λ n. HasWords (u32 n)) (map (λ f. f.ty) funcs) → AllByRecursion (λ (f : Func). HasWords (u32 f.ty)) funcs
typed [] h = tt
typed (f ∷ funcs) h = (h.0, typed funcs h.1)

-- ---- modules

lines_of : {V : Type 0} (F : V → Form Word) (vs : List V) → AllByRecursion (λ v. HasWords (F v)) vs → HasLines (listing.each_line F vs)
lines_of {V} F vs h = has_each (λ (v : V). line (F v)) vs (each_line F vs h)
  where
    each_line : {V : Type 0} (F : V → Form Word) (vs : List V) → AllByRecursion (λ v. HasWords (F v)) vs → AllByRecursion (λ v. HasLines (line (F v))) vs
    each_line F [] h = tt
    each_line F (v ∷ vs) h = (has_line h.0, each_line F vs h.1)

module_has : (m : Module) (bytes : List ℕ) → AreBytes bytes → SpellsModule bytes m → HasLines (module_lines m)
module_has m bytes are s =
    let types = s.4.4 in
    let in_types = following _ _ s.4.2 (following _ _ s.2 are) in
    let imports = types.4.4 in
    let in_imports = following _ _ types.4.2 (following _ _ types.2 in_types) in
    let functions = imports.4.4 in
    let in_functions = following _ _ imports.4.2 (following _ _ imports.2 in_imports) in
    let tables = functions.4.4 in
    let in_tables = following _ _ functions.4.2 (following _ _ functions.2 in_functions) in
    let memories = tables.4.4 in
    let in_memories = following _ _ tables.4.2 (following _ _ tables.2 in_tables) in
    let globals = memories.4.4 in
    let in_globals = following _ _ memories.4.2 (following _ _ memories.2 in_memories) in
    let exports = globals.4.4 in
    let in_exports = following _ _ globals.4.2 (following _ _ globals.2 in_globals) in
    let start = exports.4.4 in
    let in_start = following _ _ exports.4.2 (following _ _ exports.2 in_exports) in
    let elems = start.4.4 in
    let in_elems = following _ _ start.4.2 (following _ _ start.2 in_start) in
    let codes = elems.4.4 in
    let in_codes = following _ _ elems.4.2 (following _ _ elems.2 in_elems) in
    let segments = codes.4.4 in
    let in_segments = following _ _ codes.4.2 (following _ _ codes.2 in_codes) in
    let all_functypes : AllByRecursion (λ (t : FuncTy). HasWords (listing.functype t)) m.types = section_has 1 binary.functype (λ (t : FuncTy). HasWords (listing.functype t)) m.types types.4.0 (λ t spelled is h. functype_has t) (in_front _ _ types.4.2 (following _ _ types.2 in_types)) types.4.3 in
    let all_imports : AllByRecursion (λ (i : Import). HasWords (listing.import i)) m.imports = section_has 2 binary.import (λ (i : Import). HasWords (listing.import i)) m.imports imports.4.0 import_has (in_front _ _ imports.4.2 (following _ _ imports.2 in_imports)) imports.4.3 in
    let all_types : AllByRecursion (λ n. HasWords (u32 n)) (map (λ f. f.ty) m.funcs) = section_has 3 formats.u32 (λ n. HasWords (u32 n)) (map (λ f. f.ty) m.funcs) functions.4.0 (λ n spelled is h. number_has n spelled h) (in_front _ _ functions.4.2 (following _ _ functions.2 in_functions)) functions.4.3 in
    let all_codes : AllByRecursion HasCode m.funcs = section_has 10 binary.code HasCode m.funcs codes.4.0 code_has (in_front _ _ codes.4.2 (following _ _ codes.2 in_codes)) codes.4.3 in
    let all_funcs : AllByRecursion (λ (f : Func). HasLines (listing.func f)) m.funcs = both_of m.funcs (λ f ty code. func_has f ty code) (typed m.funcs all_types) all_codes in
    let all_tables : AllByRecursion (λ (l : Limits). HasWords (listing.table l)) m.tables = section_has 4 binary.tabletype (λ (l : Limits). HasWords (listing.table l)) m.tables tables.4.0 table_has (in_front _ _ tables.4.2 (following _ _ tables.2 in_tables)) tables.4.3 in
    let all_memories : AllByRecursion (λ (l : Limits). HasWords (listing.memory l)) m.memories = section_has 5 binary.memtype (λ (l : Limits). HasWords (listing.memory l)) m.memories memories.4.0 memory_has (in_front _ _ memories.4.2 (following _ _ memories.2 in_memories)) memories.4.3 in
    let all_globals : AllByRecursion (λ (g : GlobalDef). HasWords (listing.global g)) m.globals = section_has 6 binary.global (λ (g : GlobalDef). HasWords (listing.global g)) m.globals globals.4.0 global_has (in_front _ _ globals.4.2 (following _ _ globals.2 in_globals)) globals.4.3 in
    let all_exports : AllByRecursion (λ (e : Export). HasWords (listing.export e)) m.exports = section_has 7 binary.export (λ (e : Export). HasWords (listing.export e)) m.exports exports.4.0 export_has (in_front _ _ exports.4.2 (following _ _ exports.2 in_exports)) exports.4.3 in
    let all_elems : AllByRecursion (λ (e : ElemSegment). HasWords (listing.elem e)) m.elems = section_has 9 binary.elem (λ (e : ElemSegment). HasWords (listing.elem e)) m.elems elems.4.0 elem_has (in_front _ _ elems.4.2 (following _ _ elems.2 in_elems)) elems.4.3 in
    let all_segments : AllByRecursion (λ (x : DataSegment). HasWords (listing.segment x)) m.segments = section_has 11 binary.segment (λ (x : DataSegment). HasWords (listing.segment x)) m.segments segments.4.0 segment_has (in_front _ _ segments.4.2 (following _ _ segments.2 in_segments)) segments.4.3 in
    has_then (lines_of listing.functype m.types all_functypes)
    (has_then (lines_of listing.import m.imports all_imports)
    (has_then (has_each listing.func m.funcs all_funcs)
    (has_then (lines_of listing.table m.tables all_tables)
    (has_then (lines_of listing.memory m.memories all_memories)
    (has_then (lines_of listing.global m.globals all_globals)
    (has_then (lines_of listing.export m.exports all_exports)
    (has_then (start_has m.start start.4.0 start.4.3)
    (has_then (lines_of listing.elem m.elems all_elems)
    (lines_of listing.segment m.segments all_segments)))))))))

-- the listing of a module that these bytes spell
pub spelled_listing : (m : Module) (bytes : List ℕ) → AreBytes bytes → SpellsModule bytes m → (text : List ℕ) × IsListing text m
spelled_listing m bytes are s =
    let h = module_has m bytes are s in
    (text_of h.items, (h.items, h.spelled, h.pass, refl))
