-- A part of a feature in which nothing is substituted for anything is as it was.
use Rattle.std.proofs.Common.{◌≡◌, ℕ, List, [], Option, None, Some, refl, sym, ap, ◌∙◌}
use Rattle.std.specs.Option.{option_map}
use Rattle.sa_ast.specs.declared.class.TypeParam.{TypeParam}
use Rattle.sa_ast.specs.declared.class.FeatureBody.{FeatureBody}
use Rattle.sa_ast.specs.declared.class.FeatureBody.TheVariants as part
use Rattle.sa_ast.specs.declared.expr.Expr.{Expr}
use Rattle.sa_ast.specs.declared.pos.Pos.{Pos}
use Rattle.sa_ast.specs.declared.ty.Ty.{Ty}
use Rattle.sa_ast.specs.declared.ty.Ty.TheVariants as ty
use Rattle.sa_subst.specs.Table.{IsTableFor, put_in, value_in}
use Rattle.sa_subst.specs.declared.substitution.Substitution.{Substitution}
use Rattle.sa_subst.specs.Trees.{expr_with}
use Rattle.sa_subst.proofs.Unchanged.{expr_with-same, substituted-nothing}
use Rattle.sa_include.specs.Parts.{PutsNothing, part_with}

module _ (by : Substitution) (nothing : PutsNothing by) where
  put : (t : Ty) → put_in by t ≡ t
  put = substituted-nothing (value_in by) by.same.now nothing.pos nothing.names nothing.same

  value : (o : Option Expr) → option_map (expr_with (put_in by)) o ≡ o
  value None = refl
  value (Some e) = ap Some (expr_with-same (put_in by) put e)

  pub part_nothing : (p : FeatureBody) → part_with (put_in by) p ≡ p
  part_nothing (part.Routine body) = refl
  part_nothing part.Signature = refl
  part_nothing part.Stub = refl
  part_nothing (part.Builtin class feature) = refl
  part_nothing part.Attr = refl
  part_nothing (part.Shared o) = ap part.Shared (value o)
  part_nothing (part.Const o more) = ap (λ x. part.Const x more) (value o)

-- no parameters have types
pub puts_nothing : (by : Substitution) (same : Ty) (pos : Pos) → IsTableFor [] [] same by → same ≡ ty.Same pos → PutsNothing by
puts_nothing by same pos table is = record {
  names = table.0;
  pos = pos;
  same = table.1 ∙ is;
}
