-- The signatures of a feature in its class: the one by which it is read or called, and the one by which it is written.
use Rattle.std.specs.Prelude.{Bool, ℕ, List, [], ◌∷◌, Option, Some, None, if◌then◌else◌, map}
use Rattle.std.specs.Option.{option_map, option_to_list, unwrap_or}
use Rattle.sa_ast.specs.declared.class.Feature.{Feature}
use Rattle.sa_ast.specs.declared.class.FormalParam.{FormalParam}
use Rattle.sa_ast.specs.declared.class.FeatureBody.{FeatureBody}
use Rattle.sa_ast.specs.declared.class.FeatureBody.TheVariants.{Attr, Shared, Const}
use Rattle.sa_ast.specs.declared.ty.Mode.TheVariants.{In}
use Rattle.sa_ast.specs.declared.ty.ModeTy.{ModeTy}
use Rattle.sa_ast.specs.declared.ty.Ty.{Ty}
use Rattle.sa_ast.specs.declared.ty.Ty.TheVariants as ty
use Rattle.sa_subst.specs.declared.sig.Sig.{Sig}

-- ---- the one by which it is read or called

-- `INT`, the type of a constant for which none is written
abbrev pub int_name : List ℕ
int_name = 73 ∷ 78 ∷ 84 ∷ []

abbrev pub result_of_part : Feature → FeatureBody → Option Ty
result_of_part f (Const value more) = Some (unwrap_or f.result (ty.Named int_name [] f.name.pos))
result_of_part f part = f.result

abbrev pub argument : FormalParam → ModeTy
argument a = record { mode = a.mode; ty = a.ty }

abbrev pub own_signature : Feature → Sig
own_signature f = record { name = f.name.name; args = map argument f.formals; result = result_of_part f f.part }

-- ---- the one by which it is written, which attributes and shareds have

abbrev pub taken : Ty → ModeTy
taken t = record { mode = In; ty = t }

abbrev pub writing : Feature → Option Ty → Sig
writing f result = record { name = f.name.name; args = option_to_list (option_map taken f.result); result = result }

-- that of an attribute of an immutable class gives the changed copy
abbrev pub writer_of_part : Bool → Feature → FeatureBody → Option Sig
writer_of_part immutable f Attr = Some (writing f (if immutable then Some (ty.Same f.name.pos) else None))
writer_of_part immutable f (Shared value) = Some (writing f None)
writer_of_part immutable f part = None

abbrev pub writer_signature : Bool → Feature → Option Sig
writer_signature immutable f = writer_of_part immutable f f.part
