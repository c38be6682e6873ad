-- Features with each of the types that are written in them changed.
use Rattle.std.specs.Prelude.{◌≡◌, ℕ, List, Option, None}
use Rattle.std.specs.Option.{option_map}
use Rattle.sa_ast.specs.declared.class.FeatureBody.{FeatureBody}
use Rattle.sa_ast.specs.declared.class.FeatureBody.TheVariants as part
use Rattle.sa_ast.specs.declared.pos.Pos.{Pos}
use Rattle.sa_ast.specs.declared.ty.Ty.{Ty}
use Rattle.sa_ast.specs.declared.ty.Ty.TheVariants as ty
use Rattle.sa_subst.specs.Table.{value_in}
use Rattle.sa_subst.specs.declared.substitution.Substitution.{Substitution}
use Rattle.sa_subst.specs.Trees.{expr_with}

-- what a feature begins with changes, and statements stay
abbrev pub part_with : (Ty → Ty) → FeatureBody → FeatureBody
part_with f (part.Shared value) = part.Shared (option_map (expr_with f) value)
part_with f (part.Const value more) = part.Const (option_map (expr_with f) value) more
part_with f other = other

-- the substitution substitutes nothing for anything
pub record PutsNothing (by : Substitution) : Type 0 where
  pub names : (name : List ℕ) → value_in by name ≡ None
  pub pos : Pos
  pub same : by.same.now ≡ ty.Same pos
