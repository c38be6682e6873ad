-- Types without their positions. In each rule of the language two types are the same where they are equal but for positions.
use Rattle.std.specs.Prelude.{◌≡◌, ℕ, List, [], ◌∷◌, map, Option, Some, None}
use Rattle.std.specs.Option.{option_map}
use Rattle.sa_ast.specs.declared.ty.Mode.{Mode}
use Rattle.sa_ast.specs.declared.ty.ModeTy.{ModeTy}
use Rattle.sa_ast.specs.declared.ty.Ty.{Ty}
use Rattle.sa_ast.specs.declared.ty.Ty.TheOpen.{Ty-F, ModeTy-F}
use Rattle.sa_ast.specs.declared.ty.Ty.TheFolds.{fold-Ty, fold-ModeTy}

mutual
  -- a type without its positions
  pub data BareTy : Type 0 where
    Named : (name : List ℕ) → (params : BareTys) → BareTy
    Same : BareTy
    Rout Iter : (args : BareArgs) → (of : BareResult) → BareTy

  -- the parameters of a class
  pub data BareTys : Type 0 where
    no_types : BareTys
    type : BareTy → BareTys → BareTys

  -- the arguments of a bound routine or iter
  pub data BareArgs : Type 0 where
    no_args : BareArgs
    arg : Mode → BareTy → BareArgs → BareArgs

  -- its result, if it has one
  pub data BareResult : Type 0 where
    no_result : BareResult
    gives : BareTy → BareResult

-- ---- a list or an option, as the AST has them, of types without positions

abbrev pub bare_tys : List BareTy → BareTys
bare_tys [] = no_types
bare_tys (t ∷ more) = type t (bare_tys more)

abbrev pub bare_args : List (Mode × BareTy) → BareArgs
bare_args [] = no_args
bare_args (a ∷ more) = arg a.0 a.1 (bare_args more)

abbrev pub bare_result : Option BareTy → BareResult
bare_result None = no_result
bare_result (Some t) = gives t

-- ---- a type of a source without its positions

-- one level, where the types inside are without their positions already
abbrev pub bare_level : Ty-F BareTy (Mode × BareTy) → BareTy
bare_level (Ty-F.Named name params pos) = Named name (bare_tys params)
bare_level (Ty-F.Same pos) = Same
bare_level (Ty-F.Rout args of pos) = Rout (bare_args args) (bare_result of)
bare_level (Ty-F.Iter args of pos) = Iter (bare_args args) (bare_result of)

abbrev pub bare_arg_level : ModeTy-F BareTy (Mode × BareTy) → Mode × BareTy
bare_arg_level a = (a.mode, a.ty)

-- the type without its positions
unfoldable pub bare : Ty → BareTy
bare = fold-Ty BareTy (Mode × BareTy) bare_level bare_arg_level

-- the argument's mode, and its type without its positions
unfoldable pub bare_arg : ModeTy → Mode × BareTy
bare_arg = fold-ModeTy BareTy (Mode × BareTy) bare_level bare_arg_level

-- ---- several of them

-- each of these types without its positions
abbrev pub all_bare : List Ty → BareTys
all_bare types = bare_tys (map bare types)

-- each of these arguments without its positions
abbrev pub all_bare_args : List ModeTy → BareArgs
all_bare_args args = bare_args (map bare_arg args)

-- the result, if there is one, without its positions
abbrev pub option_bare : Option Ty → BareResult
option_bare of = bare_result (option_map bare of)

-- ---- equal but for positions

-- two types are the same
abbrev pub SameType : Ty → Ty → Type 0
SameType a b = bare a ≡ bare b

-- two arguments have one mode and the same type
abbrev pub SameArg : ModeTy → ModeTy → Type 0
SameArg a b = bare_arg a ≡ bare_arg b
