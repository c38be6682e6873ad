-- A statement with statements for the case that no branch is taken (`else`), with its types changed.
use Rattle.std.proofs.Common.{◌≡◌, List, Option, Some, map}
use Rattle.sa_ast.specs.declared.expr.Expr.{Expr}
use Rattle.sa_ast.specs.declared.pos.Pos.{Pos}
use Rattle.sa_ast.specs.declared.stmt.CaseArm.{CaseArm}
use Rattle.sa_ast.specs.declared.stmt.Local.{Local}
use Rattle.sa_ast.specs.declared.stmt.Stmt.{Stmt}
use Rattle.sa_ast.specs.declared.stmt.Stmt.TheVariants as s
use Rattle.sa_ast.specs.declared.stmt.TypeArm.{TypeArm}
use Rattle.sa_ast.specs.declared.ty.Ty.{Ty}
use Rattle.sa_subst.specs.Trees.{expr_with, stmt_with, case_arm_with, type_arm_with}
use Rattle.sa_subst.proofs.TreeTypes.{stmt_with-Case, stmt_with-TypeCase, stmt_with-Protect}

module _ (f : Ty → Ty) where
  pub case_with-Some : (x : Stmt) (tested : Expr) (arms : List CaseArm) (other : Option (List Stmt)) (inside : List Stmt) (pos : Pos) → x ≡ s.Case tested arms other pos → other ≡ Some inside → stmt_with f x ≡ s.Case (expr_with f tested) (map (case_arm_with f) arms) (Some (map (stmt_with f) inside)) pos
  case_with-Some x tested arms other inside pos is is_other = rw (is, is_other, stmt_with-Case)

  pub typecase_with-Some : (x : Stmt) (tested : Local) (arms : List TypeArm) (other : Option (List Stmt)) (inside : List Stmt) (pos : Pos) → x ≡ s.TypeCase tested arms other pos → other ≡ Some inside → stmt_with f x ≡ s.TypeCase tested (map (type_arm_with f) arms) (Some (map (stmt_with f) inside)) pos
  typecase_with-Some x tested arms other inside pos is is_other = rw (is, is_other, stmt_with-TypeCase)

  pub protect_with-Some : (x : Stmt) (body : List Stmt) (arms : List TypeArm) (other : Option (List Stmt)) (inside : List Stmt) (pos : Pos) → x ≡ s.Protect body arms other pos → other ≡ Some inside → stmt_with f x ≡ s.Protect (map (stmt_with f) body) (map (type_arm_with f) arms) (Some (map (stmt_with f) inside)) pos
  protect_with-Some x body arms other inside pos is is_other = rw (is, is_other, stmt_with-Protect)
