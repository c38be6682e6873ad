-- When a signature conforms to another.
use Rattle.std.specs.Prelude.{◌&&◌, Bool, true, false, Option, Some, None, nat_eq}
use Rattle.std.specs.Cmp.Lexicographic.{pointwise}
use Rattle.std.specs.Ordering.{on}
use Rattle.sa_ast.specs.declared.ty.Mode.{Mode}
use Rattle.sa_ast.specs.declared.ty.Mode.TheVariants.{In, Out, Inout, Once}
use Rattle.sa_ast.specs.declared.ty.ModeTy.{ModeTy}
use Rattle.sa_ast.specs.declared.ty.Ty.{Ty}
use Rattle.sa_ast.specs.Types.{bare}
use Rattle.sa_ast.specs.TypeEquality.{same_mode, same_type}
use Rattle.sa_subtypes.specs.SubtypeTest.{is_subtype}
use Rattle.sa_subtypes.specs.declared.edges.SubtypeRelation.{SubtypeRelation}
use Rattle.sa_subst.specs.declared.sig.Sig.{Sig}

-- whether a type of f conforms to that of g at an argument of the mode: at `in` and `once` the type in g is a subtype of that
-- in f, at `inout` they are equal, and at `out` the type in f is a subtype of that in g
abbrev pub type_conforms : SubtypeRelation → Mode → Ty → Ty → Bool
type_conforms edges In f g = is_subtype edges g f
type_conforms edges Once f g = is_subtype edges g f
type_conforms edges Inout f g = on bare same_type f g
type_conforms edges Out f g = is_subtype edges f g

-- whether an argument of f has the mode of g's, and its type conforms
abbrev pub arg_conforms : SubtypeRelation → ModeTy → ModeTy → Bool
arg_conforms edges f g = same_mode f.mode g.mode && type_conforms edges f.mode f.ty g.ty

-- whether both have a result and that of f is a subtype of g's, or neither has one
abbrev pub result_conforms : SubtypeRelation → Option Ty → Option Ty → Bool
result_conforms edges None None = true
result_conforms edges (Some f) (Some g) = is_subtype edges f g
result_conforms edges _ _ = false

-- whether f conforms to g: the names are equal, there are as many arguments and each conforms, and the result conforms
abbrev pub does_conform : SubtypeRelation → Sig → Sig → Bool
does_conform edges f g =
    pointwise nat_eq f.name g.name && pointwise (arg_conforms edges) f.args g.args && result_conforms edges f.result g.result
