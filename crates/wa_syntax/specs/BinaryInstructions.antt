-- The binary format of instructions (section 5.4 of the WebAssembly Core Specification 1.0) in its integer part.
use Rattle.std.specs.Prelude.{◌≡◌, ℕ, zero, suc, ◌≤◌, ◌⊎◌, List, [], Option, None, Some}
use Rattle.wa_syntax.specs.declared.instr.Instr.{Instr, out-Instr}
use Rattle.wa_syntax.specs.declared.instr.Instr.TheOpen.{Instr-F}
use Rattle.wa_syntax.specs.declared.module.Init.{Init}
use Rattle.wa_syntax.specs.declared.module.Init.TheVariants.{Const32, Const64, Global}
use Rattle.wa_syntax.specs.declared.module.ValTy.{ValTy}
use Rattle.wa_syntax.specs.declared.module.ValTy.TheVariants.{I32, I64}
use Rattle.wa_syntax.specs.Formats.{Format, ◌then◌, each, vec, byte, u32, i32, i64}

-- the type of a value (5.3.1)
abbrev pub valtype : ValTy → Format
valtype I32 = byte 0x7f
valtype I64 = byte 0x7e

-- the type of a block's result, if it has one (5.3.2)
abbrev pub blocktype : Option ValTy → Format
blocktype None = byte 0x40
blocktype (Some t) = valtype t

-- the opcode is from one number up to another
abbrev pub IsFrom : ℕ → ℕ → ℕ → Type 0
IsFrom low high op = (low ≤ op) × (op ≤ high)

-- unreachable, nop, return (5.4.1), drop, select (5.4.2), and the numeric instructions (5.4.5): comparisons and tests,
-- operators, and conversions between the two types
abbrev pub IsBare : ℕ → Type 0
IsBare op =
    IsFrom 0x00 0x01 op ⊎ (op ≡ 0x0f) ⊎ IsFrom 0x1a 0x1b op
    ⊎ IsFrom 0x45 0x5a op ⊎ IsFrom 0x67 0x8a op ⊎ (op ≡ 0xa7) ⊎ IsFrom 0xac 0xad op

-- memory.size and memory.grow, which a zero byte follows (5.4.4)
abbrev pub IsOfMemory : ℕ → Type 0
IsOfMemory op = IsFrom 0x3f 0x40 op

-- loads and stores (5.4.4)
abbrev pub IsAccess : ℕ → Type 0
IsAccess op = IsFrom 0x28 0x29 op ⊎ IsFrom 0x2c 0x37 op ⊎ IsFrom 0x3a 0x3e op

-- an instruction that is its opcode alone
abbrev pub plain : ℕ → Format
plain op bytes = (IsBare op × byte op bytes) ⊎ (IsOfMemory op × (byte op then byte 0x00) bytes)

-- a load or a store: its opcode, its alignment and its offset (5.4.4)
abbrev pub access : ℕ → ℕ → ℕ → Format
access op align offset bytes = IsAccess op × (byte op then u32 align then u32 offset) bytes

-- a conditional: where the second branch is empty, it may be omitted with its `else` (5.4.1)
abbrev pub conditional : (List Instr → Format) → Option ValTy → List Instr → List Instr → Format
conditional Body t yes_branch no_branch bytes =
    ((no_branch ≡ []) × (byte 0x04 then blocktype t then Body yes_branch then byte 0x0b) bytes)
    ⊎ (byte 0x04 then blocktype t then Body yes_branch then byte 0x05 then Body no_branch then byte 0x0b) bytes

-- an instruction, by the format of those that it holds (5.4.1 to 5.4.5)
abbrev pub instr_over : (List Instr → Format) → Instr-F Instr → Format
instr_over Body (Instr-F.Plain op) = plain op
instr_over Body (Instr-F.Block t body) = byte 0x02 then blocktype t then Body body then byte 0x0b
instr_over Body (Instr-F.Loop t body) = byte 0x03 then blocktype t then Body body then byte 0x0b
instr_over Body (Instr-F.If t branches) = conditional Body t branches.0 branches.1
instr_over Body (Instr-F.Br l) = byte 0x0c then u32 l
instr_over Body (Instr-F.BrIf l) = byte 0x0d then u32 l
instr_over Body (Instr-F.BrTable table) = byte 0x0e then vec u32 table.0 then u32 table.1
instr_over Body (Instr-F.Call x) = byte 0x10 then u32 x
instr_over Body (Instr-F.CallIndirect x) = byte 0x11 then u32 x then byte 0x00
instr_over Body (Instr-F.LocalGet x) = byte 0x20 then u32 x
instr_over Body (Instr-F.LocalSet x) = byte 0x21 then u32 x
instr_over Body (Instr-F.LocalTee x) = byte 0x22 then u32 x
instr_over Body (Instr-F.GlobalGet x) = byte 0x23 then u32 x
instr_over Body (Instr-F.GlobalSet x) = byte 0x24 then u32 x
instr_over Body (Instr-F.Memory op align offset) = access op align offset
instr_over Body (Instr-F.I32Const n) = byte 0x41 then i32 n
instr_over Body (Instr-F.I64Const n) = byte 0x42 then i64 n

-- an instruction in which at most so many blocks are open at a point
unfoldable pub instr : ℕ → Instr → Format
instr zero i = instr_over (λ body bytes. ⊥) (out-Instr i)
instr (suc levels) i = instr_over (each (instr levels)) (out-Instr i)

-- how many blocks may be open at a point of a function
abbrev pub max_nesting : ℕ
max_nesting = 1000

-- the body of a function: its instructions, and an end (5.4.6)
abbrev pub expr : List Instr → Format
expr body = each (instr max_nesting) body then byte 0x0b

-- an initial value or an offset: one instruction, and an end (5.4.6)
abbrev pub init : Init → Format
init (Const32 n) = byte 0x41 then i32 n then byte 0x0b
init (Const64 n) = byte 0x42 then i64 n then byte 0x0b
init (Global x) = byte 0x23 then u32 x then byte 0x0b
