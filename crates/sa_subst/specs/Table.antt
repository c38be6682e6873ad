-- What a prepared substitution substitutes for a name.
use Rattle.std.specs.Prelude.{◌≡◌, ℕ, List, Option, nat_eq, slice_get}
use Rattle.std.specs.Option.{option_and_then}
use Rattle.std.specs.Cmp.Lexicographic.{pointwise}
use Rattle.std.specs.HashMap.{get}
use Rattle.sa_ast.specs.declared.class.TypeParam.{TypeParam}
use Rattle.sa_ast.specs.declared.ty.Ty.{Ty}
use Rattle.sa_subst.specs.declared.substitution.Substitution.{Substitution}
use Rattle.sa_subst.specs.Substitution.{given_for, substituted}

-- the type that a name without arguments stands for
abbrev pub value_in : Substitution → List ℕ → Option Ty
value_in s name = option_and_then (slice_get s.given.now) (get (pointwise nat_eq) s.places name)

-- the substitution is that of these types for these parameters, and of this one for SAME
abbrev pub IsTableFor : List TypeParam → List Ty → Ty → Substitution → Type 0
IsTableFor params given same s = ((name : List ℕ) → value_in s name ≡ given_for params given name) × (s.same.now ≡ same)

-- a type with the substitution made in it
abbrev pub put_in : Substitution → Ty → Ty
put_in s = substituted (value_in s) s.same.now
