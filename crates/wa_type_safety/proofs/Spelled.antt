-- A module that bytes spell has its numbers in range: each number of the binary format is read within its width.
use Rattle.std.proofs.Common.{◌≡◌, ℕ, zero, suc, ◌^◌, ◌<◌, Bool, true, false, ℤ, pos, negsuc, ◌<ℤ◌, List, [], ◌∷◌, ◌++◌, All, sym, subst, inl, inr, pow_pos, arith}
use Rattle.std.specs.Prelude.{◌==◌, if◌then◌else◌}
use Rattle.std.specs.Int.{Width, w32, w64, cast_unsigned}
use Rattle.std.proofs.lemmas.Int.{ints}
use Rattle.std.proofs.lemmas.List.Elements.{All-nil, All-cons, All-head, All-tail}
use Rattle.wa_syntax.specs.declared.instr.Instr.{Instr, out-Instr}
use Rattle.wa_syntax.specs.declared.instr.Instr.TheOpen.{Instr-F}
use Rattle.wa_syntax.specs.declared.instr.Instr.TheFolds.{fold-roll-Instr}
use Rattle.wa_syntax.specs.declared.instr.Instr.TheViews.{roll-Instr, roll-out-Instr}
use Rattle.wa_syntax.specs.declared.module.DataSegment.{DataSegment}
use Rattle.wa_syntax.specs.declared.module.Func.{Func}
use Rattle.wa_syntax.specs.declared.module.GlobalDef.{GlobalDef}
use Rattle.wa_syntax.specs.declared.module.Init.{Init}
use Rattle.wa_syntax.specs.declared.module.Module.{Module}
use Rattle.wa_syntax.specs.declared.opcode.TheConstants.{UNREACHABLE, NOP, RETURN, DROP, SELECT, MEMORY_SIZE, MEMORY_GROW}
use Rattle.wa_syntax.specs.Instructions.{Instruction, plain, instruction, instruction_at, sequence}
use Rattle.wa_syntax.specs.Formats.{Format, each, byte, i32, i64}
use Rattle.wa_syntax.specs.BinaryInstructions.{instr_over, instr, max_nesting, init}
use Rattle.wa_syntax.specs.Binary.{vecsec, global, code, segment, SpellsModule}
use Rattle.wa_syntax.specs.Machine.{Input}
use Rattle.wa_syntax.specs.Runs.{SegmentsFit}
use Rattle.wa_syntax.proofs.Signed.{IsSigned-within}
use Rattle.wa_type_safety.specs.Ranges.{IsByte, HasConstants, AreConstants, IsInitInRange, IsInRange}
use Rattle.wa_type_safety.proofs.Ranges.{less}
use mir.Val.{bits}

-- ---- constants

cast-below : (w : Width) (z : ℤ) → z <ℤ pos (2 ^ bits w) → cast_unsigned w z < 2 ^ bits w
cast-below w (pos n) h = omega (arith, ints, h)
cast-below w (negsuc n) h = less (2 ^ bits w) n (pow_pos (bits w))

i32-spelled : (n : ℕ) (bytes : List ℕ) → i32 n bytes → n < 2 ^ 32
i32-spelled n bytes (z, h, e) =
    let within = IsSigned-within 32 bytes z (omega arith) h in
    subst (λ (k : ℕ). k < 2 ^ 32) (sym e) (cast-below w32 z (omega (arith, ints, within.below)))

i64-spelled : (n : ℕ) (bytes : List ℕ) → i64 n bytes → n < 2 ^ 64
i64-spelled n bytes (z, h, e) =
    let within = IsSigned-within 64 bytes z (omega arith) h in
    subst (λ (k : ℕ). k < 2 ^ 64) (sym e) (cast-below w64 z (omega (arith, ints, within.below)))

-- ---- instructions

-- an instruction whose constants are in range
record Has (i : Instruction) : Type 0 where
  constants : HasConstants i

Has-if : {i j : Instruction} (b : Bool) → Has i → Has j → Has (if b then i else j)
Has-if true h k = h
Has-if false h k = k

-- one that is its opcode alone has none
plain-has : (op : ℕ) → Has (plain op)
plain-has op =
    Has-if (op == UNREACHABLE) (record { constants = tt }) (
    Has-if (op == NOP) (record { constants = tt }) (
    Has-if (op == RETURN) (record { constants = tt }) (
    Has-if (op == DROP) (record { constants = tt }) (
    Has-if (op == SELECT) (record { constants = tt }) (
    Has-if (op == MEMORY_SIZE) (record { constants = tt }) (
    Has-if (op == MEMORY_GROW) (record { constants = tt })
    (record { constants = tt })))))))

each-constants : (B : Instr → Format) (body : List Instr) (bytes : List ℕ) → ((i : Instr) (bytes : List ℕ) → B i bytes → HasConstants (instruction i)) → each B body bytes → AreConstants (sequence body)
each-constants B [] bytes h s = tt
each-constants B (i ∷ rest) bytes h s = (h i s.0 s.3, each-constants B rest s.1 h s.4)

-- an instruction, where those that it holds are in range
layer-constants : (Body : List Instr → Format) (layer : Instr-F Instr) (bytes : List ℕ) → ((body : List Instr) (bytes : List ℕ) → Body body bytes → AreConstants (sequence body)) → instr_over Body layer bytes → HasConstants (instruction (roll-Instr layer))
layer-constants Body (Instr-F.Plain op) bytes held s = subst HasConstants (sym (fold-roll-Instr Instruction instruction_at (Instr-F.Plain op))) (plain-has op).constants
layer-constants Body (Instr-F.Block t body) bytes held s = subst HasConstants (sym (fold-roll-Instr Instruction instruction_at (Instr-F.Block t body))) (held body s.4.4.0 s.4.4.3)
layer-constants Body (Instr-F.Loop t body) bytes held s = subst HasConstants (sym (fold-roll-Instr Instruction instruction_at (Instr-F.Loop t body))) (held body s.4.4.0 s.4.4.3)
layer-constants Body (Instr-F.If t arms) bytes held (inl (none, s)) = subst HasConstants (sym (fold-roll-Instr Instruction instruction_at (Instr-F.If t arms))) (held arms.0 s.4.4.0 s.4.4.3, subst (λ (body : List Instr). AreConstants (sequence body)) (sym none) tt)
layer-constants Body (Instr-F.If t arms) bytes held (inr s) = subst HasConstants (sym (fold-roll-Instr Instruction instruction_at (Instr-F.If t arms))) (held arms.0 s.4.4.0 s.4.4.3, held arms.1 s.4.4.4.4.0 s.4.4.4.4.3)
layer-constants Body (Instr-F.Br label) bytes held s = subst HasConstants (sym (fold-roll-Instr Instruction instruction_at (Instr-F.Br label))) tt
layer-constants Body (Instr-F.BrIf label) bytes held s = subst HasConstants (sym (fold-roll-Instr Instruction instruction_at (Instr-F.BrIf label))) tt
layer-constants Body (Instr-F.BrTable table) bytes held s = subst HasConstants (sym (fold-roll-Instr Instruction instruction_at (Instr-F.BrTable table))) tt
layer-constants Body (Instr-F.Call func) bytes held s = subst HasConstants (sym (fold-roll-Instr Instruction instruction_at (Instr-F.Call func))) tt
layer-constants Body (Instr-F.CallIndirect ty) bytes held s = subst HasConstants (sym (fold-roll-Instr Instruction instruction_at (Instr-F.CallIndirect ty))) tt
layer-constants Body (Instr-F.LocalGet local) bytes held s = subst HasConstants (sym (fold-roll-Instr Instruction instruction_at (Instr-F.LocalGet local))) tt
layer-constants Body (Instr-F.LocalSet local) bytes held s = subst HasConstants (sym (fold-roll-Instr Instruction instruction_at (Instr-F.LocalSet local))) tt
layer-constants Body (Instr-F.LocalTee local) bytes held s = subst HasConstants (sym (fold-roll-Instr Instruction instruction_at (Instr-F.LocalTee local))) tt
layer-constants Body (Instr-F.GlobalGet x) bytes held s = subst HasConstants (sym (fold-roll-Instr Instruction instruction_at (Instr-F.GlobalGet x))) tt
layer-constants Body (Instr-F.GlobalSet x) bytes held s = subst HasConstants (sym (fold-roll-Instr Instruction instruction_at (Instr-F.GlobalSet x))) tt
layer-constants Body (Instr-F.Memory op align offset) bytes held s = subst HasConstants (sym (fold-roll-Instr Instruction instruction_at (Instr-F.Memory op align offset))) tt
layer-constants Body (Instr-F.I32Const n) bytes held s = subst HasConstants (sym (fold-roll-Instr Instruction instruction_at (Instr-F.I32Const n))) (i32-spelled n s.1 s.4)
layer-constants Body (Instr-F.I64Const n) bytes held s = subst HasConstants (sym (fold-roll-Instr Instruction instruction_at (Instr-F.I64Const n))) (i64-spelled n s.1 s.4)

instr-constants : (levels : ℕ) (i : Instr) (bytes : List ℕ) → instr levels i bytes → HasConstants (instruction i)
unfolding instr
instr-constants zero i bytes s =
    subst (λ (j : Instr). HasConstants (instruction j)) (roll-out-Instr i)
    (layer-constants (λ body bytes. ⊥) (out-Instr i) bytes (λ body bytes no. absurd no) s)
instr-constants (suc levels) i bytes s =
    subst (λ (j : Instr). HasConstants (instruction j)) (roll-out-Instr i)
    (layer-constants (each (instr levels)) (out-Instr i) bytes (λ body bytes are. each-constants (instr levels) body bytes (instr-constants levels) are) s)

-- ---- what is in sections

front-bytes : (front back : List ℕ) → All IsByte (front ++ back) → All IsByte front
front-bytes [] back h = All-nil IsByte
front-bytes (b ∷ front) back h = All-cons IsByte b front (All-head IsByte b (front ++ back) h) (front-bytes front back (All-tail IsByte b (front ++ back) h))

back-bytes : (front back : List ℕ) → All IsByte (front ++ back) → All IsByte back
back-bytes [] back h = h
back-bytes (b ∷ front) back h = back-bytes front back (All-tail IsByte b (front ++ back) h)

in_front : (front back : List ℕ) {bytes : List ℕ} → bytes ≡ front ++ back → All IsByte bytes → All IsByte front
in_front front back e h = front-bytes front back (subst (All IsByte) e h)

following : (front back : List ℕ) {bytes : List ℕ} → bytes ≡ front ++ back → All IsByte bytes → All IsByte back
following front back e h = back-bytes front back (subst (All IsByte) e h)

each-all : {V : Type 0} (B : V → Format) (P : V → Type 0) (vs : List V) (bytes : List ℕ) → ((v : V) (bytes : List ℕ) → All IsByte bytes → B v bytes → P v) → All IsByte bytes → each B vs bytes → All P vs
each-all B P [] bytes f are s = All-nil P
each-all B P (v ∷ vs) bytes f are s = All-cons P v vs (f v s.0 (in_front _ _ s.2 are) s.3) (each-all B P vs s.1 f (following _ _ s.2 are) s.4)

section-all : {V : Type 0} (id : ℕ) (B : V → Format) (P : V → Type 0) (vs : List V) (bytes : List ℕ) → ((v : V) (bytes : List ℕ) → All IsByte bytes → B v bytes → P v) → All IsByte bytes → vecsec id B vs bytes → All P vs
section-all id B P vs bytes f are (inl (none, empty)) = subst (All P) (sym none) (All-nil P)
section-all id B P vs bytes f are (inr s) =
    let content : All IsByte s.4.0 = subst (All IsByte) s.4.2.4 (following _ _ s.4.2.2 (following _ _ s.2 are)) in
    each-all B P vs s.4.1.1 f (following _ _ s.4.1.2 content) s.4.1.4

init-in_range : (i : Init) (bytes : List ℕ) → init i bytes → IsInitInRange i
init-in_range (Init.Const32 n) bytes s = i32-spelled n s.4.0 s.4.3
init-in_range (Init.Const64 n) bytes s = i64-spelled n s.4.0 s.4.3
init-in_range (Init.Global x) bytes s = tt

global-in_range : (g : GlobalDef) (bytes : List ℕ) → All IsByte bytes → global g bytes → IsInitInRange g.init
global-in_range g bytes are s = init-in_range g.init s.1 s.4

code-in_range : (f : Func) (bytes : List ℕ) → All IsByte bytes → code f bytes → AreConstants (sequence f.body)
code-in_range f bytes are s = each-constants (instr max_nesting) f.body s.1.4.0 (instr-constants max_nesting) s.1.4.3

segment-in_range : (x : DataSegment) (bytes : List ℕ) → All IsByte bytes → segment x bytes → All IsByte x.bytes
segment-in_range x bytes are s =
    each-all byte IsByte x.bytes s.4.4.1 (λ b front are e. All-head IsByte b [] (subst (All IsByte) e are)) (following _ _ s.4.4.2 (following _ _ s.4.2 (following _ _ s.2 are))) s.4.4.4

-- ---- modules

pub spelled-in_range : (m : Module) (bytes : List ℕ) → SpellsModule bytes m → All IsByte bytes → (input : Input) → All IsByte input.bytes → SegmentsFit m → IsInRange m input
spelled-in_range m bytes s are input input_is fit =
    let types = s.4.4 in
    let in_types = following _ _ s.4.2 (following _ _ s.2 are) in
    let imports = types.4.4 in
    let in_imports = following _ _ types.4.2 (following _ _ types.2 in_types) in
    let functions = imports.4.4 in
    let in_functions = following _ _ imports.4.2 (following _ _ imports.2 in_imports) in
    let tables = functions.4.4 in
    let in_tables = following _ _ functions.4.2 (following _ _ functions.2 in_functions) in
    let memories = tables.4.4 in
    let in_memories = following _ _ tables.4.2 (following _ _ tables.2 in_tables) in
    let globals = memories.4.4 in
    let in_globals = following _ _ memories.4.2 (following _ _ memories.2 in_memories) in
    let exports = globals.4.4 in
    let in_exports = following _ _ globals.4.2 (following _ _ globals.2 in_globals) in
    let start = exports.4.4 in
    let in_start = following _ _ exports.4.2 (following _ _ exports.2 in_exports) in
    let elems = start.4.4 in
    let in_elems = following _ _ start.4.2 (following _ _ start.2 in_start) in
    let codes = elems.4.4 in
    let in_codes = following _ _ elems.4.2 (following _ _ elems.2 in_elems) in
    let segments = codes.4.4 in
    let in_segments = following _ _ codes.4.2 (following _ _ codes.2 in_codes) in
    record {
      bodies = section-all 10 code (λ (f : Func). AreConstants (sequence f.body)) m.funcs codes.4.0 code-in_range (in_front _ _ codes.4.2 (following _ _ codes.2 in_codes)) codes.4.3;
      globals = section-all 6 global (λ (g : GlobalDef). IsInitInRange g.init) m.globals globals.4.0 global-in_range (in_front _ _ globals.4.2 (following _ _ globals.2 in_globals)) globals.4.3;
      segments = section-all 11 segment (λ (x : DataSegment). All IsByte x.bytes) m.segments segments.4.0 segment-in_range (in_front _ _ segments.4.2 (following _ _ segments.2 in_segments)) segments.4.3;
      input_is = input_is;
      fit = fit;
    }
