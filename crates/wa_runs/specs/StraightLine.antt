-- Straight-line code, executed as a function: for instructions after which the next one follows, the state that they lead to, and whether
-- they succeed, which is that none of them traps or lacks an operand, a local or a global. Both compute, so the effect of a fragment of
-- emitted code is computed too. The laws in `Law` say that this is what the machine does.
use Rattle.std.specs.Prelude.{ℕ, zero, suc, ◌+◌, ◌/◌, Bool, true, false, ◌&&◌, ◌==◌, nat_lt, nat_le, if◌then◌else◌}
use Rattle.std.specs.Prelude.{List, [], ◌∷◌, length, slice_index, slice_set, Option, Some, None, Result, Ok, Err}
use Rattle.std.specs.Int.{byte_len}
use Rattle.wa_syntax.specs.declared.module.ValTy.{ValTy}
use Rattle.wa_syntax.specs.declared.module.FuncTy.{FuncTy}
use Rattle.wa_syntax.specs.declared.trap.TrapKind.{TrapKind}
use Rattle.wa_syntax.specs.Instructions.{Instruction, Nop, Drop, Select, MemorySize, LocalGet, LocalSet, LocalTee, GlobalGet}
use Rattle.wa_syntax.specs.Instructions.{GlobalSet, I32Const, I64Const, Numeric, Memory, Sequence, ◌then◌, Access, load_of, store_of}
use Rattle.wa_syntax.specs.Instructions.{numeric_type}
use Rattle.wa_syntax.specs.Machine.{State, as_i32, as_value}
use Rattle.wa_syntax.specs.Operations.{operator, extension, page}
use Rattle.wa_runs.specs.Words.{word_at, with_word}

-- ---- operands, the top one first

-- the top operand, and 0 where there is none
abbrev pub top : List ℕ → ℕ
top [] = 0
top (n ∷ rest) = n

-- the operands below the top one
abbrev pub below : List ℕ → List ℕ
below [] = []
below (n ∷ rest) = rest

-- there is an operand
abbrev pub has_top : List ℕ → Bool
has_top [] = false
has_top (n ∷ rest) = true

-- what an operator gives, and 0 where it traps
abbrev pub value_of : Result ℕ TrapKind → ℕ
value_of (Ok n) = n
value_of (Err kind) = 0

-- it gives a value
abbrev pub gives_value : Result ℕ TrapKind → Bool
gives_value (Ok n) = true
gives_value (Err kind) = false

-- ---- numeric instructions

-- the operands after an operator on operands of these types
abbrev pub operands_after : List ValTy → (opcode : ℕ) → List ℕ → List ℕ
operands_after [] op ns = ns
operands_after (t ∷ []) op ns = value_of (operator op (as_value t (top ns)) 0) ∷ below ns
operands_after (t ∷ u ∷ []) op ns = value_of (operator op (as_value t (top (below ns))) (as_value u (top ns))) ∷ below (below ns)
operands_after (t ∷ u ∷ v ∷ ts) op ns = ns

-- it has its operands, and doesn't trap
abbrev pub operator_succeeds : List ValTy → (opcode : ℕ) → List ℕ → Bool
operator_succeeds [] op ns = false
operator_succeeds (t ∷ []) op ns = has_top ns && gives_value (operator op (as_value t (top ns)) 0)
operator_succeeds (t ∷ u ∷ []) op ns =
    has_top ns && (has_top (below ns) && gives_value (operator op (as_value t (top (below ns))) (as_value u (top ns))))
operator_succeeds (t ∷ u ∷ v ∷ ts) op ns = false

-- the same of an instruction of this type
abbrev pub numeric_effect : Option FuncTy → (opcode : ℕ) → List ℕ → List ℕ
numeric_effect None op ns = ns
numeric_effect (Some ty) op ns = operands_after ty.params op ns

abbrev pub numeric_succeeds : Option FuncTy → (opcode : ℕ) → List ℕ → Bool
numeric_succeeds None op ns = false
numeric_succeeds (Some ty) op ns = operator_succeeds ty.params op ns

-- ---- loads and stores

-- after the load of an opcode, or else its store
abbrev pub access_effect : Option Access → Option Access → (offset : ℕ) → State → State
access_effect (Some a) other offset s =
    record s { operands = extension a (word_at a.width s.memory (as_i32 (top s.operands) + offset)) ∷ below s.operands }
access_effect None (Some a) offset s =
    record s {
      operands = below (below s.operands);
      memory = with_word a.width s.memory (as_i32 (top (below s.operands)) + offset) (top s.operands);
    }
access_effect None None offset s = s

-- it has its operands, and the word is in the memory
abbrev pub access_succeeds : Option Access → Option Access → (offset : ℕ) → State → Bool
access_succeeds (Some a) other offset s =
    has_top s.operands && nat_le (as_i32 (top s.operands) + offset + byte_len a.width) (length s.memory)
access_succeeds None (Some a) offset s =
    has_top s.operands &&
    (has_top (below s.operands) && nat_le (as_i32 (top (below s.operands)) + offset + byte_len a.width) (length s.memory))
access_succeeds None None offset s = false

-- ---- instructions

-- the state after an instruction
abbrev pub effect : Instruction → State → State
effect (LocalGet x) s = record s { operands = slice_index s.locals x ∷ s.operands }
effect (LocalSet x) s = record s { operands = below s.operands; locals = slice_set s.locals x (top s.operands) }
effect (LocalTee x) s =
    record s { operands = top s.operands ∷ below s.operands; locals = slice_set s.locals x (top s.operands) }
effect (GlobalGet x) s = record s { operands = slice_index s.globals x ∷ s.operands }
effect (GlobalSet x) s = record s { operands = below s.operands; globals = slice_set s.globals x (top s.operands) }
effect (I32Const n) s = record s { operands = n ∷ s.operands }
effect (I64Const n) s = record s { operands = n ∷ s.operands }
effect Drop s = record s { operands = below s.operands }
effect Select s =
    record s {
      operands =
          (if as_i32 (top s.operands) == 0 then top (below s.operands) else top (below (below s.operands))) ∷
          below (below (below s.operands));
    }
effect MemorySize s = record s { operands = length s.memory / page ∷ s.operands }
effect (Numeric op) s = record s { operands = numeric_effect (numeric_type op) op s.operands }
effect (Memory op align offset) s = access_effect (load_of op) (store_of op) offset s
effect _ s = s

-- it is one after which the next one follows, and succeeds
abbrev pub succeeds : Instruction → State → Bool
succeeds (LocalGet x) s = nat_lt x (length s.locals)
succeeds (LocalSet x) s = has_top s.operands && nat_lt x (length s.locals)
succeeds (LocalTee x) s = has_top s.operands && nat_lt x (length s.locals)
succeeds (GlobalGet x) s = nat_lt x (length s.globals)
succeeds (GlobalSet x) s = has_top s.operands && nat_lt x (length s.globals)
succeeds (I32Const n) s = true
succeeds (I64Const n) s = true
succeeds Drop s = has_top s.operands
succeeds Select s = has_top s.operands && (has_top (below s.operands) && has_top (below (below s.operands)))
succeeds MemorySize s = true
succeeds (Numeric op) s = numeric_succeeds (numeric_type op) op s.operands
succeeds (Memory op align offset) s = access_succeeds (load_of op) (store_of op) offset s
succeeds Nop s = true
succeeds _ s = false

-- ---- fragments: instructions one after another

abbrev pub fragment_effect : List Instruction → State → State
fragment_effect [] s = s
fragment_effect (i ∷ rest) s = fragment_effect rest (effect i s)

abbrev pub fragment_succeeds : List Instruction → State → Bool
fragment_succeeds [] s = true
fragment_succeeds (i ∷ rest) s = succeeds i s && fragment_succeeds rest (effect i s)

-- the fragment, and then the rest
abbrev pub before : List Instruction → Sequence → Sequence
before [] rest = rest
before (i ∷ is) rest = i then before is rest

-- how many instructions it has, counted so that it computes
abbrev pub count : List Instruction → ℕ
count [] = zero
count (i ∷ is) = suc (count is)

-- a state with this code
abbrev pub with_code : Sequence → State → State
with_code c s = record s { code = c }
