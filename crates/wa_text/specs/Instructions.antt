-- The lines of instructions: one for each, and an `end` for each that holds others.
use Rattle.std.specs.Prelude.{◌≡◌, ℕ, zero, suc, List, [], ◌∷◌, Option, None, Some, codes}
use Rattle.wa_syntax.specs.declared.instr.Instr.{Instr, out-Instr}
use Rattle.wa_syntax.specs.declared.instr.Instr.TheOpen.{Instr-F}
use Rattle.wa_syntax.specs.declared.module.ValTy.{ValTy}
use Rattle.wa_text.specs.Forms.{Form, ◌then◌, each, nothing}
use Rattle.wa_text.specs.Mnemonics.{plain_names, access_names, name_in}
use Rattle.wa_text.specs.Words.{Word, Line, line, word, u32, u64, val}

-- a word and the numbers after it
abbrev pub indexed : Word → ℕ → Form Line
indexed w x = line (word w then u32 x)

-- the name of an opcode in a table
abbrev pub named : List (ℕ × Word) → ℕ → Form Word
named names opcode words = (w : Word) × (name_in names opcode ≡ Some w) × word w words

-- the type of a block's result, if it has one
abbrev pub block_result : Option ValTy → Form Word
block_result None = nothing
block_result (Some t) = val t

-- the line that begins a block
abbrev pub begin : Word → Option ValTy → Form Line
begin w t = line (word w then block_result t)

abbrev pub end : Form Line
end = line (word (codes "end"))

-- the rest of an `if`: its other branch, if that holds instructions, and its end
abbrev pub else_end : (List Instr → Form Line) → List Instr → Form Line
else_end Body [] = end
else_end Body (i ∷ is) = line (word (codes "else")) then Body (i ∷ is) then end

-- an instruction, by the form of those that it holds
abbrev pub instr_over : (List Instr → Form Line) → Instr-F Instr → Form Line
instr_over Body (Instr-F.Plain op) = line (named plain_names op)
instr_over Body (Instr-F.Block t body) = begin (codes "block") t then Body body then end
instr_over Body (Instr-F.Loop t body) = begin (codes "loop") t then Body body then end
instr_over Body (Instr-F.If t branches) = begin (codes "if") t then Body branches.0 then else_end Body branches.1
instr_over Body (Instr-F.Br l) = indexed (codes "br") l
instr_over Body (Instr-F.BrIf l) = indexed (codes "br_if") l
instr_over Body (Instr-F.BrTable targets) = line (word (codes "br_table") then each u32 targets.0 then u32 targets.1)
instr_over Body (Instr-F.Call x) = indexed (codes "call") x
instr_over Body (Instr-F.CallIndirect x) = indexed (codes "call_indirect") x
instr_over Body (Instr-F.LocalGet x) = indexed (codes "local.get") x
instr_over Body (Instr-F.LocalSet x) = indexed (codes "local.set") x
instr_over Body (Instr-F.LocalTee x) = indexed (codes "local.tee") x
instr_over Body (Instr-F.GlobalGet x) = indexed (codes "global.get") x
instr_over Body (Instr-F.GlobalSet x) = indexed (codes "global.set") x
instr_over Body (Instr-F.Memory op align offset) = line (named access_names op then u32 align then u32 offset)
instr_over Body (Instr-F.I32Const n) = line (word (codes "i32.const") then u32 n)
instr_over Body (Instr-F.I64Const n) = line (word (codes "i64.const") then u64 n)

-- an instruction in which at most so many blocks are open at a point
unfoldable pub instr : ℕ → Instr → Form Line
instr zero i = instr_over (λ body lines. ⊥) (out-Instr i)
instr (suc levels) i = instr_over (each (instr levels)) (out-Instr i)

-- how many blocks may be open at a point of a function
abbrev pub max_nesting : ℕ
max_nesting = 1000

-- the body of a function, and its end
abbrev pub expr : List Instr → Form Line
expr body = each (instr max_nesting) body then end
