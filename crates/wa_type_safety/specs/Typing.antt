-- Well-typed states of the machine (appendix A.2 of the WebAssembly Core Specification 1.0): what is in a state has the types
-- that validity says.
use Rattle.std.specs.Prelude.{ℕ, ◌<◌, ◌≤◌, ◌/◌, ◌^◌, ◌≡◌, List, [], ◌∷◌, ◌++◌, length, map, reverse, All, ◌⊎◌, Option, Some, None}
use Rattle.wa_syntax.specs.declared.module.ValTy.{ValTy}
use Rattle.wa_syntax.specs.declared.module.Module.{Module}
use Rattle.wa_syntax.specs.Instructions.{Sequence, nothing}
use Rattle.wa_syntax.specs.Validity.{Context, AreTyped}
use Rattle.wa_syntax.specs.ValidModule.{context_of}
use Rattle.wa_syntax.specs.Machine.{Input, Entry, Label, Activation, State}
use Rattle.wa_syntax.specs.Operations.{width_of, page}
use Rattle.wa_syntax.specs.Steps.{most_pages}
use Rattle.wa_type_safety.specs.Ranges.{IsByte, AreConstants, IsInRange}
use mir.Val.{bits}

-- the setting of a run: a module, its input, and the types of the operands that its outermost function leaves, the top one first
pub record Setting : Type 0 where
  pub program : Module
  pub input : Input
  pub ends : List ValTy

-- the numbers that the run begins with are within their widths
abbrev pub BeginsInRange : Setting → Type 0
BeginsInRange r = IsInRange r.program r.input

-- a value of a type is its bits as a number, below 2 to its width if the run begins in range
abbrev pub IsOf : Setting → ValTy → ℕ → Type 0
IsOf r t n = BeginsInRange r → n < 2 ^ bits (width_of t)

-- each value is of the type at its index
abbrev pub EachIsOf : Setting → List ValTy → List ℕ → Type 0
EachIsOf r [] [] = Unit {0}
EachIsOf r [] (n ∷ values) = ⊥
EachIsOf r (t ∷ types) [] = ⊥
EachIsOf r (t ∷ types) (n ∷ values) = IsOf r t n × EachIsOf r types values

-- values of these types, one of each
pub record AreOf (r : Setting) (types : List ValTy) (values : List ℕ) : Type 0 where
  pub each : EachIsOf r types values

-- the types of the globals
abbrev pub global_types : Module → List ValTy
global_types m = map (λ g. g.val) (context_of m).globals

-- The globals are of their types. If the run begins in range, the memory and the rest of the input are bytes, and the memory
-- has no more pages than it may.
pub record IsStore (r : Setting) (globals memory : List ℕ) (input : Input) : Type 0 where
  pub globals_are : AreOf r (global_types r.program) globals
  pub bytes : BeginsInRange r → All IsByte memory
  pub pages : BeginsInRange r → length memory / page ≤ most_pages r.program
  pub input_is : BeginsInRange r → All IsByte input.bytes

-- a point in a function: the types of its locals, of what branches to the enclosing labels want, and of the results of the function
pub record BodyContext : Type 0 where
  pub locals : List ValTy
  pub labels : List (List ValTy)
  pub results : List ValTy

-- what the instructions at a point may name
abbrev pub context : Module → BodyContext → Context
context m p = record (context_of m) { locals = p.locals; labels = p.labels; results = p.results }

-- these instructions at point p lead from operands of the types before to those after, with constants in range if the run begins
-- in range
abbrev pub IsCode : Setting → BodyContext → Sequence → (before after : List ValTy) → Type 0
IsCode r p code before after = AreTyped (context r.program p) code before after × (BeginsInRange r → AreConstants code)

-- a branch to the label of a block continues after it, with what the block leaves, and one to a loop's with the loop's
-- instructions, with nothing
abbrev pub IsTypedTarget : Setting → BodyContext → (wanted left : List ValTy) → Option Sequence → Type 0
IsTypedTarget r p wanted left None = left ≡ reverse wanted
IsTypedTarget r p wanted left (Some body) = (wanted ≡ []) × IsCode r p body [] left

-- From operands of these types the rest of a block at point p leads to its end. After it come the instructions that are outside
-- its label.
pub record IsTypedInBlock (r : Setting) (p : BodyContext) (code : Sequence) (types : List ValTy)
    (kept : ℕ) (again : Option Sequence) (below : List ℕ) (Outside : BodyContext → List ValTy → Type 0) : Type 0 where
  pub wanted : List ValTy
  pub labels : List (List ValTy)
  pub left : List ValTy
  pub types_below : List ValTy
  pub label : p.labels ≡ wanted ∷ labels
  pub typed : IsCode r p code types left
  pub keeps : kept ≡ length wanted
  pub target : IsTypedTarget r p wanted left again
  pub values_below : AreOf r types_below below
  pub outside : Outside (record p { labels = labels }) (left ++ types_below)

-- From operands of these types the rest of a function's body leads to its end. After it the caller continues.
pub record IsTypedInFunction (r : Setting) (p : BodyContext) (code : Sequence) (types : List ValTy)
    (kept : ℕ) (below locals : List ℕ) (Outside : BodyContext → List ValTy → Type 0) : Type 0 where
  pub caller : BodyContext
  pub types_below : List ValTy
  pub label : p.labels ≡ p.results ∷ []
  pub typed : IsCode r p code types (reverse p.results)
  pub keeps : kept ≡ length p.results
  pub values_below : AreOf r types_below below
  pub caller_locals : AreOf r caller.locals locals
  pub outside : Outside caller (reverse p.results ++ types_below)

-- outside all functions no instruction is left, and the operands are those that the outermost one leaves
abbrev pub IsOutside : Setting → Sequence → List ValTy → List Entry → Type 0
IsOutside r code types stack = (code ≡ nothing) × (stack ≡ []) × (types ≡ r.ends)

-- from operands of these types the instructions at point p lead to the end of a function, out of the labels and into the callers
-- that are on the stack
abbrev pub IsInside : Setting → BodyContext → Sequence → List ValTy → List Entry → Type 0
IsInside r p code types [] = ⊥
IsInside r p code types (Label kept again following below ∷ stack) =
    IsTypedInBlock r p code types kept again below (λ q ts. IsInside r q following ts stack)
IsInside r p code types (Activation kept following below locals ∷ stack) =
    IsTypedInFunction r p code types kept below locals (λ q ts. IsOutside r following ts stack ⊎ IsInside r q following ts stack)

-- outside all functions or inside one
abbrev pub IsAround : Setting → BodyContext → Sequence → List ValTy → List Entry → Type 0
IsAround r p code types stack = IsOutside r code types stack ⊎ IsInside r p code types stack

-- a well-typed state
pub record IsState (r : Setting) (s : State) : Type 0 where
  pub place : BodyContext
  pub types : List ValTy
  pub operands : AreOf r types s.operands
  pub locals : AreOf r place.locals s.locals
  pub store : IsStore r s.globals s.memory s.input
  pub around : IsAround r place s.code types s.stack
