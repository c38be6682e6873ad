-- Substitution of types for the parameters of a class and for SAME.
use Rattle.std.specs.Prelude.{ℕ, ◌+◌, List, [], ◌∷◌, Option, None, Some, ◌≡◌, cond, drop, nat_eq, slice_get}
use Rattle.std.specs.Option.{option_and_then}
use Rattle.std.specs.Cmp.Lexicographic.{pointwise}
use Rattle.std.specs.HashMap.{HashMap, get}
use Rattle.sa_ast.specs.declared.class.TypeParam.{TypeParam}
use Rattle.sa_ast.specs.declared.pos.Pos.{Pos}
use Rattle.sa_ast.specs.declared.ty.ModeTy.{ModeTy}
use Rattle.sa_ast.specs.declared.ty.Ty.{Ty}
use Rattle.sa_ast.specs.declared.ty.Ty.TheOpen.{Ty-F, ModeTy-F}
use Rattle.sa_ast.specs.declared.ty.Ty.TheFolds.{fold-Ty, fold-ModeTy}
use Rattle.sa_ast.specs.declared.ty.Ty.TheVariants as ty
use Rattle.sa_ast.specs.declared.ty.Ty.TheViews.{out-Ty}

-- ---- the type that is given for a parameter

-- the index of the first parameter with a name, in a list that begins at index i
abbrev pub place_of : List TypeParam → ℕ → List ℕ → Option ℕ
place_of [] i name = None
place_of (p ∷ more) i name = cond (pointwise nat_eq p.name.name name) (Some i) (place_of more (i + 1) name)

-- the type given at the index of the first parameter with a name, if there are both
abbrev pub given_for : List TypeParam → List Ty → List ℕ → Option Ty
given_for params given name = option_and_then (slice_get given) (place_of params 0 name)

-- a table has the indices of the parameters from an index on
abbrev pub HasPlaces : {S : Type 0} → HashMap (List ℕ) ℕ S → List TypeParam → ℕ → Type 0
HasPlaces table params from = (name : List ℕ) → get (pointwise nat_eq) table name ≡ place_of (drop from params) from name

-- ---- substitution

-- a type with another position; the types inside it keep their own
abbrev pub placed_level : Ty-F Ty ModeTy → Pos → Ty
placed_level (Ty-F.Named name args old) pos = ty.Named name args pos
placed_level (Ty-F.Same old) pos = ty.Same pos
placed_level (Ty-F.Rout args of old) pos = ty.Rout args of pos
placed_level (Ty-F.Iter args of old) pos = ty.Iter args of pos

unfoldable pub placed : Ty → Pos → Ty
placed t pos = placed_level (out-Ty t) pos

-- a name without arguments: the type that is substituted for it, at the position of the name, or else the name itself
abbrev pub named_alone : Option Ty → List ℕ → Pos → Ty
named_alone None name pos = ty.Named name [] pos
named_alone (Some t) name pos = placed t pos

-- a name with its arguments. A name with arguments is no parameter.
abbrev pub named : (List ℕ → Option Ty) → List ℕ → List Ty → Pos → Ty
named value name [] pos = named_alone (value name) name pos
named value name (a ∷ more) pos = ty.Named name (a ∷ more) pos

-- one level, after the types inside are done
abbrev pub substituted_level : (List ℕ → Option Ty) → Ty → Ty-F Ty ModeTy → Ty
substituted_level value same (Ty-F.Named name args pos) = named value name args pos
substituted_level value same (Ty-F.Same pos) = placed same pos
substituted_level value same (Ty-F.Rout args of pos) = ty.Rout args of pos
substituted_level value same (Ty-F.Iter args of pos) = ty.Iter args of pos

abbrev pub arg_level : ModeTy-F Ty ModeTy → ModeTy
arg_level a = record { mode = a.mode; ty = a.ty }

-- the type in which each name without arguments is replaced by what it stands for, and SAME by `same`
unfoldable pub substituted : (List ℕ → Option Ty) → Ty → Ty → Ty
substituted value same = fold-Ty Ty ModeTy (substituted_level value same) arg_level

-- the argument of a bound type with the same mode, in whose type this is done
unfoldable pub substituted_arg : (List ℕ → Option Ty) → Ty → ModeTy → ModeTy
substituted_arg value same = fold-ModeTy Ty ModeTy (substituted_level value same) arg_level
