-- Which candidates of a call fit it.
use Rattle.std.specs.Prelude.{◌||◌, ◌&&◌, Bool, true, false, List, is_some}
use Rattle.std.specs.Bool.{beq}
use Rattle.std.specs.Option.{option_map_or}
use Rattle.std.specs.Cmp.Lexicographic.{pointwise}
use Rattle.std.specs.Ordering.{on}
use Rattle.sa_ast.specs.declared.ty.Mode.{Mode}
use Rattle.sa_ast.specs.declared.ty.Mode.TheVariants.{In, Out, Inout, Once}
use Rattle.sa_ast.specs.declared.ty.ModeTy.{ModeTy}
use Rattle.sa_ast.specs.declared.ty.Ty.{Ty}
use Rattle.sa_ast.specs.Types.{bare}
use Rattle.sa_ast.specs.TypeEquality.{same_type}
use Rattle.sa_subtypes.specs.SubtypeTest.{is_subtype}
use Rattle.sa_subtypes.specs.declared.edges.SubtypeRelation.{SubtypeRelation}
use Rattle.sa_overload.specs.declared.fit.ActualArg.{ActualArg}
use Rattle.sa_overload.specs.declared.fit.CandidateSignature.{CandidateSignature}

-- whether arguments of the two modes are written alike at a call, where nothing is written before those of `in` and `once`
abbrev pub is_written_alike : Mode → Mode → Bool
is_written_alike In In = true
is_written_alike In Once = true
is_written_alike Once In = true
is_written_alike Once Once = true
is_written_alike Out Out = true
is_written_alike Inout Inout = true
is_written_alike _ _ = false

-- whether an argument of the type is assignable to a parameter of the mode and the type: at `in` and `once` its type is a subtype of
-- the parameter's, at `inout` they are equal, and at `out` the parameter's is a subtype of the argument's
abbrev pub goes_to : SubtypeRelation → Mode → Ty → Ty → Bool
goes_to edges In param given = is_subtype edges given param
goes_to edges Once param given = is_subtype edges given param
goes_to edges Inout param given = on bare same_type given param
goes_to edges Out param given = is_subtype edges param given

-- whether the parameter takes the argument: one that is left open fits every mode, and one without a type every type
abbrev pub takes : SubtypeRelation → ModeTy → ActualArg → Bool
takes edges param arg =
    (arg.left || is_written_alike arg.mode param.mode) && option_map_or (goes_to edges param.mode param.ty) arg.ty true

-- whether the candidate fits: presence of a result, number, modes and types agree
abbrev pub is_fit : SubtypeRelation → List ActualArg → Bool → CandidateSignature → Bool
is_fit edges args expects_result cand = beq (is_some cand.result) expects_result && pointwise (takes edges) cand.args args
