-- What validation answers of a module that isn't known to be valid.
use Rattle.std.specs.Prelude.{◌≡◌, ℕ, List, Some, None, All, take, slice_get}
use Rattle.wa_syntax.specs.declared.module.Func.{Func}
use Rattle.wa_syntax.specs.declared.module.Module.{Module}
use Rattle.wa_syntax.specs.Validity.{Context, IsTypedFunction}
use Rattle.wa_syntax.specs.ValidModule.{IsValidOutside, context_of}
use Rattle.wa_valid.specs.declared.fault.Fault.{Fault}
use Rattle.wa_valid.specs.declared.fault.ValidFault.{ValidFault}

-- the function at this point is the first whose body is ill typed
pub record IsFirstIllTyped (c : Context) (funcs : List Func) (at : ℕ) : Type 0 where
  pub front : All (IsTypedFunction c) (take at funcs)
  pub func : Func
  pub there : slice_get funcs at ≡ Some func
  pub ill_typed : ¬ IsTypedFunction c func

-- the fault of the bodies of these functions names the first that is ill typed
abbrev pub NamesFirst : Context → List Func → ValidFault → Type 0
NamesFirst c funcs (ValidFault.Invalid None) = ⊥
NamesFirst c funcs (ValidFault.Invalid (Some at)) = IsFirstIllTyped c funcs at
NamesFirst c funcs ValidFault.NoMemory = Unit {0}

-- the module isn't valid: a rule outside bodies is broken where the fault names no function, and else they all hold and it names
-- the first function whose body is ill typed. Nothing is said where memory has run out
abbrev pub IsRefused : Module → ValidFault → Type 0
IsRefused m (ValidFault.Invalid None) = ¬ IsValidOutside m (context_of m)
IsRefused m (ValidFault.Invalid (Some at)) = IsValidOutside m (context_of m) × IsFirstIllTyped (context_of m) m.funcs at
IsRefused m ValidFault.NoMemory = Unit {0}

-- the fault of a module where a rule outside bodies has this one
abbrev pub outside_bodies : Fault → ValidFault
outside_bodies Fault.Invalid = ValidFault.Invalid None
outside_bodies Fault.NoMemory = ValidFault.NoMemory

-- the fault of a module where the body at a place has this one. A place that no `u32` numbers is taken as want of memory
abbrev pub IsInBody : Fault → ℕ → ValidFault → Type 0
IsInBody Fault.Invalid at (ValidFault.Invalid func) = func ≡ Some at
IsInBody Fault.Invalid at ValidFault.NoMemory = Unit {0}
IsInBody Fault.NoMemory at fault = fault ≡ ValidFault.NoMemory
