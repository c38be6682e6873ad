-- Which types the operands have before and after instructions (section 3.3 of the WebAssembly Core Specification 1.0, in its
-- integer part). A list of the types of operands has the top one first; one of the types of arguments or results has it last.
use Rattle.std.specs.Prelude.{ℕ, ◌<◌, ◌≤◌, ◌≡◌, List, [], ◌∷◌, ◌++◌, reverse, slice_get, All, ◌⊎◌, Some, option_to_list, IsTrue}
use Rattle.wa_syntax.specs.declared.module.ValTy.{ValTy}
use Rattle.wa_syntax.specs.declared.module.ValTy.TheVariants.{I32, I64}
use Rattle.wa_syntax.specs.declared.module.FuncTy.{FuncTy}
use Rattle.wa_syntax.specs.declared.module.GlobalTy.{GlobalTy}
use Rattle.wa_syntax.specs.declared.module.Func.{Func}
use Rattle.wa_syntax.specs.Instructions.{Instruction, Unreachable, Nop, Return, Drop, Select, MemorySize, MemoryGrow}
use Rattle.wa_syntax.specs.Instructions.{Block, Loop, If, Br, BrIf, BrTable, Call, CallIndirect, LocalGet, LocalSet}
use Rattle.wa_syntax.specs.Instructions.{LocalTee, GlobalGet, GlobalSet, I32Const, I64Const, Numeric, Memory}
use Rattle.wa_syntax.specs.Instructions.{Sequence, nothing, ◌then◌, sequence, Access, load_of, store_of, numeric_type}

-- what the parts of a module may name by index, the imported things first (3.1.1): a function is there as the index of
-- its type, and a label, the innermost first, and the end of the function as the types that a branch there wants
pub record Context : Type 0 where
  pub types : List FuncTy
  pub funcs : List ℕ
  pub tables : ℕ
  pub memories : ℕ
  pub globals : List GlobalTy
  pub locals : List ValTy
  pub labels : List (List ValTy)
  pub results : List ValTy

-- the context inside a block
abbrev pub with_label : List ValTy → Context → Context
with_label wanted c = record c { labels = wanted ∷ c.labels }

-- the function of this index has this type
abbrev pub HasFunction : Context → ℕ → FuncTy → Type 0
HasFunction c func ty = (number : ℕ) × (slice_get c.funcs func ≡ Some number) × (slice_get c.types number ≡ Some ty)

-- the label of this index wants these types
abbrev pub HasLabel : Context → List ValTy → ℕ → Type 0
HasLabel c wanted label = slice_get c.labels label ≡ Some wanted

-- it takes operands of some types from the top and puts others there, whatever is below
abbrev pub Gives : (taken given before after : List ValTy) → Type 0
Gives taken given before after = (below : List ValTy) × (before ≡ reverse taken ++ below) × (after ≡ reverse given ++ below)

-- it takes operands of these types from the top, whatever is below. Control doesn't continue after it, so what it leaves is free
abbrev pub Takes : (taken before : List ValTy) → Type 0
Takes taken before = (below : List ValTy) × (before ≡ reverse taken ++ below)

-- a load or a store has a memory and is aligned to no more than its width (3.3.4)
abbrev pub IsAligned : Context → Access → ℕ → Type 0
IsAligned c access align = (0 < c.memories) × (align ≤ access.align)

abbrev mutual
  -- an instruction takes operands of the types before it to those after it (3.3.1 to 3.3.5)
  pub IsTyped : Context → Instruction → (before after : List ValTy) → Type 0
  IsTyped c Unreachable before after = Unit {0}
  IsTyped c Nop before after = after ≡ before
  IsTyped c (Block result body) before after =
      AreTyped (with_label (option_to_list result) c) body [] (option_to_list result) × Gives [] (option_to_list result) before after
  IsTyped c (Loop result body) before after =
      AreTyped (with_label [] c) body [] (option_to_list result) × Gives [] (option_to_list result) before after
  IsTyped c (If result first other) before after =
      AreTyped (with_label (option_to_list result) c) first [] (option_to_list result)
      × AreTyped (with_label (option_to_list result) c) other [] (option_to_list result)
      × Gives (I32 ∷ []) (option_to_list result) before after
  IsTyped c (Br label) before after = (wanted : List ValTy) × HasLabel c wanted label × Takes wanted before
  IsTyped c (BrIf label) before after =
      (wanted : List ValTy) × HasLabel c wanted label × Gives (wanted ++ I32 ∷ []) wanted before after
  IsTyped c (BrTable labels default) before after =
      (wanted : List ValTy) × All (HasLabel c wanted) (default ∷ labels) × Takes (wanted ++ I32 ∷ []) before
  IsTyped c Return before after = Takes c.results before
  IsTyped c (Call func) before after = (ty : FuncTy) × HasFunction c func ty × Gives ty.params ty.results before after
  IsTyped c (CallIndirect number) before after =
      (ty : FuncTy) × (0 < c.tables) × (slice_get c.types number ≡ Some ty) × Gives (ty.params ++ I32 ∷ []) ty.results before after
  IsTyped c Drop before after = (t : ValTy) × Gives (t ∷ []) [] before after
  IsTyped c Select before after = (t : ValTy) × Gives (t ∷ t ∷ I32 ∷ []) (t ∷ []) before after
  IsTyped c (LocalGet local) before after = (t : ValTy) × (slice_get c.locals local ≡ Some t) × Gives [] (t ∷ []) before after
  IsTyped c (LocalSet local) before after = (t : ValTy) × (slice_get c.locals local ≡ Some t) × Gives (t ∷ []) [] before after
  IsTyped c (LocalTee local) before after =
      (t : ValTy) × (slice_get c.locals local ≡ Some t) × Gives (t ∷ []) (t ∷ []) before after
  IsTyped c (GlobalGet global) before after =
      (g : GlobalTy) × (slice_get c.globals global ≡ Some g) × Gives [] (g.val ∷ []) before after
  IsTyped c (GlobalSet global) before after =
      (g : GlobalTy) × (slice_get c.globals global ≡ Some g) × IsTrue g.mutable × Gives (g.val ∷ []) [] before after
  IsTyped c (Memory op align offset) before after =
      ((a : Access) × (load_of op ≡ Some a) × IsAligned c a align × Gives (I32 ∷ []) (a.ty ∷ []) before after)
      ⊎ ((a : Access) × (store_of op ≡ Some a) × IsAligned c a align × Gives (I32 ∷ a.ty ∷ []) [] before after)
  IsTyped c MemorySize before after = (0 < c.memories) × Gives [] (I32 ∷ []) before after
  IsTyped c MemoryGrow before after = (0 < c.memories) × Gives (I32 ∷ []) (I32 ∷ []) before after
  IsTyped c (I32Const n) before after = Gives [] (I32 ∷ []) before after
  IsTyped c (I64Const n) before after = Gives [] (I64 ∷ []) before after
  IsTyped c (Numeric op) before after = (ty : FuncTy) × (numeric_type op ≡ Some ty) × Gives ty.params ty.results before after

  -- each instruction of a sequence takes the operands that the one before it leaves (3.3.6)
  pub AreTyped : Context → Sequence → (before after : List ValTy) → Type 0
  AreTyped c nothing before after = after ≡ before
  AreTyped c (i then rest) before after = (middle : List ValTy) × IsTyped c i before middle × AreTyped c rest middle after

-- a function's body finds no operands and leaves its results, which a branch to its end wants too (3.4.1)
abbrev pub IsTypedFunction : Context → Func → Type 0
IsTypedFunction c func =
    (ty : FuncTy) × (slice_get c.types func.ty ≡ Some ty)
    × AreTyped (record c { locals = ty.params ++ func.locals; labels = ty.results ∷ []; results = ty.results })
    (sequence func.body) [] (reverse ty.results)
