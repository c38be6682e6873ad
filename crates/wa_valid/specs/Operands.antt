-- What the validation algorithm knows of the operands at a point (appendix A.3 of the WebAssembly Core Specification 1.0), and
-- how that follows what the rules say of the operands before and after instructions.
use Rattle.std.specs.Prelude.{◌≡◌, List, [], ◌∷◌, reverse, Bool, true, false, Result, Err, IsOk, IfOk, ◌⊎◌}
use Rattle.wa_syntax.specs.declared.module.ValTy.{ValTy}
use Rattle.wa_valid.specs.declared.fault.Fault.{Fault}
use Rattle.wa_valid.specs.declared.operands.Operand.{Operand}
use Rattle.wa_valid.specs.declared.operands.Operand.TheVariants.{Known, Unknown}
use Rattle.wa_valid.specs.declared.operands.Operands.{Operands}

-- what is known at a point in a block: the block's operands, the top one first, and whether the point can't be reached, so that
-- operands of any types may be below these
pub record Stack : Type 0 where
  pub own : List Operand
  pub unreachable : Bool

abbrev pub stack : Operands → Stack
stack operands = record { own = reverse operands.types.items; unreachable = operands.unreachable }

-- a point at which a block begins
abbrev pub no_operands : Stack
no_operands = record { own = []; unreachable = false }

-- a point that can't be reached
abbrev pub any_operands : Stack
any_operands = record { own = []; unreachable = true }

-- one more operand on top
abbrev pub with_operand : Operand → Stack → Stack
with_operand operand s = record { own = operand ∷ s.own; unreachable = s.unreachable }

-- the operand may have this type
abbrev pub IsOf : Operand → ValTy → Type 0
IsOf (Known known) t = t ≡ known
IsOf Unknown t = Unit {0}

-- operands of these types may be below what is known
abbrev pub IsBottom : Bool → List ValTy → Type 0
IsBottom true types = Unit {0}
IsBottom false types = types ≡ []

abbrev pub Fit : Bool → List Operand → List ValTy → Type 0
Fit unreachable [] types = IsBottom unreachable types
Fit unreachable (operand ∷ own) [] = ⊥
Fit unreachable (operand ∷ own) (t ∷ types) = IsOf operand t × Fit unreachable own types

-- operands of these types, the top one first, may be at the point
abbrev pub Fits : Stack → List ValTy → Type 0
Fits s types = Fit s.unreachable s.own types

-- from what is known at the old point, instructions that take the operands before to those after, as the rule says, lead to just
-- the operands that fit the new point
pub record Leads (Rule : List ValTy → List ValTy → Type 0) (old new : Stack) : Type 0 where
  pub reached : (after : List ValTy) → Fits new after → (before : List ValTy) × Fits old before × Rule before after
  pub kept : (before after : List ValTy) → Fits old before → Rule before after → Fits new after

-- the rule takes none of the operands that may be at the point
pub record IsStuck (Rule : List ValTy → List ValTy → Type 0) (old : Stack) : Type 0 where
  pub none : (before after : List ValTy) → Fits old before → ¬ Rule before after

-- the answer of an instruction: it leads to the new point, or is ill typed at the old one
abbrev pub Answers : {T : Type 0} → (List ValTy → List ValTy → Type 0) → Stack → Stack → Result T Fault → Type 0
Answers Rule old new result = (IsOk result → Leads Rule old new) × (result ≡ Err Fault.Invalid → IsStuck Rule old)

-- the operand is taken off: the top one, or any where none is left and the point can't be reached
abbrev pub IsTaken : Stack → Operand → Stack → Type 0
IsTaken old operand new = (old ≡ with_operand operand new) ⊎ ((old ≡ any_operands) × (new ≡ old) × (operand ≡ Unknown))

-- the answer where the last operand is taken off, of whatever type
abbrev pub TakesOff : Stack → Stack → Result Operand Fault → Type 0
TakesOff old new result = IfOk result (λ operand. IsTaken old operand new) × (result ≡ Err Fault.Invalid → old ≡ no_operands)

-- the operand may have just the types that both may have
pub record IsBoth (one other kept : Operand) : Type 0 where
  pub left : (t : ValTy) → IsOf kept t → IsOf one t
  pub right : (t : ValTy) → IsOf kept t → IsOf other t
  pub back : (t : ValTy) → IsOf one t → IsOf other t → IsOf kept t

-- no type is one that both may have
pub record AreApart (one other : Operand) : Type 0 where
  pub none : (t : ValTy) → IsOf one t → ¬ IsOf other t
