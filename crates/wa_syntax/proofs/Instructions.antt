-- What each instruction denotes in the definitions, one equation for each variant.
use Rattle.std.proofs.Common.{◌≡◌, ℕ, List, Option, sym, ap, ◌∙◌}
use Rattle.wa_syntax.specs.declared.instr.Instr.{Instr}
use Rattle.wa_syntax.specs.declared.instr.Instr.TheOpen.{Instr-F}
use Rattle.wa_syntax.specs.declared.instr.Instr.TheFolds.{fold-roll-Instr}
use Rattle.wa_syntax.specs.declared.instr.Instr.TheVariants as i
use Rattle.wa_syntax.specs.declared.module.ValTy.{ValTy}
use Rattle.wa_syntax.specs.Instructions.{Instruction, Block, Loop, If, Br, BrIf, BrTable, Call, CallIndirect, LocalGet, LocalSet, LocalTee, GlobalGet, GlobalSet, Memory, I32Const, I64Const, plain, instruction, instruction_at, sequence}

pub instruction-Plain : (op : ℕ) → instruction (i.Plain op) ≡ plain op
instruction-Plain op = ap instruction (sym (i.rolls-Plain op)) ∙ fold-roll-Instr Instruction instruction_at (Instr-F.Plain op)

pub instruction-Block : (result : Option ValTy) (body : List Instr) → instruction (i.Block result body) ≡ Block result (sequence body)
instruction-Block result body = ap instruction (sym (i.rolls-Block result body)) ∙ fold-roll-Instr Instruction instruction_at (Instr-F.Block result body)

pub instruction-Loop : (result : Option ValTy) (body : List Instr) → instruction (i.Loop result body) ≡ Loop result (sequence body)
instruction-Loop result body = ap instruction (sym (i.rolls-Loop result body)) ∙ fold-roll-Instr Instruction instruction_at (Instr-F.Loop result body)

pub instruction-If : (result : Option ValTy) (arms : List Instr × List Instr) → instruction (i.If result arms) ≡ If result (sequence arms.0) (sequence arms.1)
instruction-If result arms = ap instruction (sym (i.rolls-If result arms)) ∙ fold-roll-Instr Instruction instruction_at (Instr-F.If result arms)

pub instruction-Br : (label : ℕ) → instruction (i.Br label) ≡ Br label
instruction-Br label = ap instruction (sym (i.rolls-Br label)) ∙ fold-roll-Instr Instruction instruction_at (Instr-F.Br label)

pub instruction-BrIf : (label : ℕ) → instruction (i.BrIf label) ≡ BrIf label
instruction-BrIf label = ap instruction (sym (i.rolls-BrIf label)) ∙ fold-roll-Instr Instruction instruction_at (Instr-F.BrIf label)

pub instruction-BrTable : (table : List ℕ × ℕ) → instruction (i.BrTable table) ≡ BrTable table.0 table.1
instruction-BrTable table = ap instruction (sym (i.rolls-BrTable table)) ∙ fold-roll-Instr Instruction instruction_at (Instr-F.BrTable table)

pub instruction-Call : (func : ℕ) → instruction (i.Call func) ≡ Call func
instruction-Call func = ap instruction (sym (i.rolls-Call func)) ∙ fold-roll-Instr Instruction instruction_at (Instr-F.Call func)

pub instruction-CallIndirect : (ty : ℕ) → instruction (i.CallIndirect ty) ≡ CallIndirect ty
instruction-CallIndirect ty = ap instruction (sym (i.rolls-CallIndirect ty)) ∙ fold-roll-Instr Instruction instruction_at (Instr-F.CallIndirect ty)

pub instruction-LocalGet : (local : ℕ) → instruction (i.LocalGet local) ≡ LocalGet local
instruction-LocalGet local = ap instruction (sym (i.rolls-LocalGet local)) ∙ fold-roll-Instr Instruction instruction_at (Instr-F.LocalGet local)

pub instruction-LocalSet : (local : ℕ) → instruction (i.LocalSet local) ≡ LocalSet local
instruction-LocalSet local = ap instruction (sym (i.rolls-LocalSet local)) ∙ fold-roll-Instr Instruction instruction_at (Instr-F.LocalSet local)

pub instruction-LocalTee : (local : ℕ) → instruction (i.LocalTee local) ≡ LocalTee local
instruction-LocalTee local = ap instruction (sym (i.rolls-LocalTee local)) ∙ fold-roll-Instr Instruction instruction_at (Instr-F.LocalTee local)

pub instruction-GlobalGet : (global : ℕ) → instruction (i.GlobalGet global) ≡ GlobalGet global
instruction-GlobalGet global = ap instruction (sym (i.rolls-GlobalGet global)) ∙ fold-roll-Instr Instruction instruction_at (Instr-F.GlobalGet global)

pub instruction-GlobalSet : (global : ℕ) → instruction (i.GlobalSet global) ≡ GlobalSet global
instruction-GlobalSet global = ap instruction (sym (i.rolls-GlobalSet global)) ∙ fold-roll-Instr Instruction instruction_at (Instr-F.GlobalSet global)

pub instruction-Memory : (op align offset : ℕ) → instruction (i.Memory op align offset) ≡ Memory op align offset
instruction-Memory op align offset = ap instruction (sym (i.rolls-Memory op align offset)) ∙ fold-roll-Instr Instruction instruction_at (Instr-F.Memory op align offset)

pub instruction-I32Const : (n : ℕ) → instruction (i.I32Const n) ≡ I32Const n
instruction-I32Const n = ap instruction (sym (i.rolls-I32Const n)) ∙ fold-roll-Instr Instruction instruction_at (Instr-F.I32Const n)

pub instruction-I64Const : (n : ℕ) → instruction (i.I64Const n) ≡ I64Const n
instruction-I64Const n = ap instruction (sym (i.rolls-I64Const n)) ∙ fold-roll-Instr Instruction instruction_at (Instr-F.I64Const n)

pub ruleset instructions = (instruction-Plain, instruction-Block, instruction-Loop, instruction-If, instruction-Br, instruction-BrIf, instruction-BrTable, instruction-Call, instruction-CallIndirect, instruction-LocalGet, instruction-LocalSet, instruction-LocalTee, instruction-GlobalGet, instruction-GlobalSet, instruction-Memory, instruction-I32Const, instruction-I64Const)
