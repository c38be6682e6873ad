-- Expressions and statements with each of the types that are written in them changed. All else in them stays, positions too.
use Rattle.std.specs.Prelude.{map}
use Rattle.std.specs.Option.{option_map}
use Rattle.sa_ast.specs.declared.expr.Expr.{Expr}
use Rattle.sa_ast.specs.declared.expr.ExprArg.{ExprArg}
use Rattle.sa_ast.specs.declared.expr.ExprReceiver.{ExprReceiver}
use Rattle.sa_ast.specs.declared.expr.Expr.TheVariants as e
use Rattle.sa_ast.specs.declared.expr.ExprArg.TheVariants as g
use Rattle.sa_ast.specs.declared.expr.ExprReceiver.TheVariants as r
use Rattle.sa_ast.specs.declared.expr.Expr.TheOpen.{Expr-F, ExprArg-F, ExprReceiver-F}
use Rattle.sa_ast.specs.declared.expr.Expr.TheFolds.{fold-Expr, fold-ExprArg, fold-ExprReceiver}
use Rattle.sa_ast.specs.declared.expr.Expr.TheViews.{roll-Expr, roll-ExprArg, roll-ExprReceiver}
use Rattle.sa_ast.specs.declared.stmt.BranchArm.{BranchArm}
use Rattle.sa_ast.specs.declared.stmt.CaseArm.{CaseArm}
use Rattle.sa_ast.specs.declared.stmt.Stmt.{Stmt}
use Rattle.sa_ast.specs.declared.stmt.Stmt.TheVariants as s
use Rattle.sa_ast.specs.declared.stmt.Stmt.TheOpen.{Stmt-F, BranchArm-F, CaseArm-F, TypeArm-F}
use Rattle.sa_ast.specs.declared.stmt.Stmt.TheFolds.{fold-Stmt, fold-BranchArm, fold-CaseArm, fold-TypeArm}
use Rattle.sa_ast.specs.declared.stmt.Stmt.TheViews.{roll-Stmt}
use Rattle.sa_ast.specs.declared.stmt.TypeArm.{TypeArm}
use Rattle.sa_ast.specs.declared.ty.Ty.{Ty}

module _ (f : Ty → Ty) where
  -- ---- one level of an expression, of a receiver and of an argument, after its parts are done

  abbrev pub expr_level : Expr-F Expr ExprArg ExprReceiver → Expr
  expr_level (Expr-F.Create ty args pos) = e.Create (option_map f ty) args pos
  expr_level x = roll-Expr x

  abbrev pub receiver_level : ExprReceiver-F Expr ExprArg ExprReceiver → ExprReceiver
  receiver_level (ExprReceiver-F.OfClass ty) = r.OfClass (f ty)
  receiver_level x = roll-ExprReceiver x

  abbrev pub argument_level : ExprArg-F Expr ExprArg ExprReceiver → ExprArg
  argument_level (ExprArg-F.Unbound ty pos) = g.Unbound (option_map f ty) pos
  argument_level x = roll-ExprArg x

  -- ---- expressions, receivers and arguments

  unfoldable pub expr_with : Expr → Expr
  expr_with = fold-Expr Expr ExprArg ExprReceiver expr_level argument_level receiver_level

  unfoldable pub receiver_with : ExprReceiver → ExprReceiver
  receiver_with = fold-ExprReceiver Expr ExprArg ExprReceiver expr_level argument_level receiver_level

  unfoldable pub argument_with : ExprArg → ExprArg
  argument_with = fold-ExprArg Expr ExprArg ExprReceiver expr_level argument_level receiver_level

  -- ---- one level of a statement and of an arm, after the statements inside are done

  abbrev pub stmt_level : Stmt-F Stmt BranchArm CaseArm TypeArm → Stmt
  stmt_level (Stmt-F.Declare names ty value) = s.Declare names (option_map f ty) (option_map expr_with value)
  stmt_level (Stmt-F.Assign to value pos) = s.Assign (expr_with to) (expr_with value) pos
  stmt_level (Stmt-F.Case tested arms other pos) = s.Case (expr_with tested) arms other pos
  stmt_level (Stmt-F.Return value pos) = s.Return (option_map expr_with value) pos
  stmt_level (Stmt-F.Yield value pos) = s.Yield (option_map expr_with value) pos
  stmt_level (Stmt-F.Raise value pos) = s.Raise (expr_with value) pos
  stmt_level (Stmt-F.Assert test pos) = s.Assert (expr_with test) pos
  stmt_level (Stmt-F.ExprStmt value) = s.ExprStmt (expr_with value)
  stmt_level x = roll-Stmt x

  abbrev pub arm_level : BranchArm-F Stmt BranchArm CaseArm TypeArm → BranchArm
  arm_level a = record { test = expr_with a.test; body = a.body }

  abbrev pub case_arm_level : CaseArm-F Stmt BranchArm CaseArm TypeArm → CaseArm
  case_arm_level a = record { values = map expr_with a.values; body = a.body }

  abbrev pub type_arm_level : TypeArm-F Stmt BranchArm CaseArm TypeArm → TypeArm
  type_arm_level a = record { ty = f a.ty; body = a.body }

  -- ---- statements and arms

  unfoldable pub stmt_with : Stmt → Stmt
  stmt_with = fold-Stmt Stmt BranchArm CaseArm TypeArm stmt_level arm_level case_arm_level type_arm_level

  unfoldable pub arm_with : BranchArm → BranchArm
  arm_with = fold-BranchArm Stmt BranchArm CaseArm TypeArm stmt_level arm_level case_arm_level type_arm_level

  unfoldable pub case_arm_with : CaseArm → CaseArm
  case_arm_with = fold-CaseArm Stmt BranchArm CaseArm TypeArm stmt_level arm_level case_arm_level type_arm_level

  unfoldable pub type_arm_with : TypeArm → TypeArm
  type_arm_with = fold-TypeArm Stmt BranchArm CaseArm TypeArm stmt_level arm_level case_arm_level type_arm_level
