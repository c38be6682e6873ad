-- When two signatures conflict.
use Rattle.std.specs.Prelude.{◌&&◌, ◌||◌, Bool, is_some, nat_eq}
use Rattle.std.specs.Bool.{beq}
use Rattle.std.specs.Cmp.Lexicographic.{pointwise}
use Rattle.std.specs.Ordering.{on}
use Rattle.sa_ast.specs.declared.ty.ModeTy.{ModeTy}
use Rattle.sa_ast.specs.declared.ty.Ty.{Ty}
use Rattle.sa_ast.specs.Types.{bare}
use Rattle.sa_ast.specs.TypeEquality.{same_mode, same_type}
use Rattle.sa_subst.specs.Abstract.{is_abstract_type}
use Rattle.sa_subst.specs.declared.sig.Sig.{Sig}

-- whether two types are equal or both abstract
abbrev pub types_clash : Ty → Ty → Bool
types_clash f g = on bare same_type f g || is_abstract_type f && is_abstract_type g

-- whether two arguments have one mode, and their types clash
abbrev pub args_clash : ModeTy → ModeTy → Bool
args_clash f g = same_mode f.mode g.mode && types_clash f.ty g.ty

-- whether the two conflict: name and presence of a result are equal, and there are as many arguments, which clash pair by pair
abbrev pub do_conflict : Sig → Sig → Bool
do_conflict f g = pointwise nat_eq f.name g.name && beq (is_some f.result) (is_some g.result) && pointwise args_clash f.args g.args
