-- Which of two candidates is more specific.
use Rattle.std.specs.Prelude.{Bool, true}
use Rattle.std.specs.Cmp.Lexicographic.{pointwise}
use Rattle.std.specs.Ordering.{on}
use Rattle.sa_ast.specs.declared.ty.Mode.{Mode}
use Rattle.sa_ast.specs.declared.ty.Mode.TheVariants.{In, Out, Inout, Once}
use Rattle.sa_ast.specs.declared.ty.ModeTy.{ModeTy}
use Rattle.sa_ast.specs.declared.ty.Ty.{Ty}
use Rattle.sa_ast.specs.Types.{bare}
use Rattle.sa_ast.specs.TypeEquality.{same_type}
use Rattle.sa_subtypes.specs.SubtypeTest.{is_subtype}
use Rattle.sa_subtypes.specs.declared.edges.SubtypeRelation.{SubtypeRelation}
use Rattle.sa_overload.specs.declared.fit.CandidateSignature.{CandidateSignature}

-- whether the first type is as specific as the second at a parameter of the mode: a subtype of it at `in` and `once`, and
-- equal to it at `out`; at `inout` nothing is asked
abbrev pub is_type_as_specific : SubtypeRelation → Mode → Ty → Ty → Bool
is_type_as_specific edges In one other = is_subtype edges one other
is_type_as_specific edges Once one other = is_subtype edges one other
is_type_as_specific edges Out one other = on bare same_type one other
is_type_as_specific edges Inout one other = true

-- the same of two parameters, by the mode of the first
abbrev pub is_param_as_specific : SubtypeRelation → ModeTy → ModeTy → Bool
is_param_as_specific edges one other = is_type_as_specific edges one.mode one.ty other.ty

-- whether the first candidate is at least as specific as the second
abbrev pub is_as_specific : SubtypeRelation → CandidateSignature → CandidateSignature → Bool
is_as_specific edges one other = pointwise (is_param_as_specific edges) one.args other.args
