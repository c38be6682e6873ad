-- Statements whose `return` and `yield` are checked, at each variant.
use Rattle.std.proofs.Common.{◌≡◌, List, Option, None, Some, map, sym, ap, ◌∙◌}
use Rattle.std.proofs.lemmas.List.{map_more}
use Rattle.sa_ast.specs.declared.contract.Condition.{Condition}
use Rattle.sa_ast.specs.declared.expr.Expr.{Expr}
use Rattle.sa_ast.specs.declared.pos.Pos.{Pos}
use Rattle.sa_ast.specs.declared.stmt.BranchArm.{BranchArm}
use Rattle.sa_ast.specs.declared.stmt.CaseArm.{CaseArm}
use Rattle.sa_ast.specs.declared.stmt.Local.{Local}
use Rattle.sa_ast.specs.declared.stmt.Stmt.{Stmt}
use Rattle.sa_ast.specs.declared.stmt.Stmt.TheFolds.{map-Stmt, fold-roll-Stmt, fold_out-BranchArm, fold_out-CaseArm, fold_out-TypeArm}
use Rattle.sa_ast.specs.declared.stmt.Stmt.TheOpen.{Stmt-F}
use Rattle.sa_ast.specs.declared.stmt.Stmt.TheVariants as s
use Rattle.sa_ast.specs.declared.stmt.Stmt.TheViews.{roll-Stmt}
use Rattle.sa_ast.specs.declared.stmt.TypeArm.{TypeArm}
use Rattle.sa_ast.specs.declared.ty.Ty.{Ty}
use Rattle.sa_contracts.specs.declared.statements.Giving.TheVariants as giving
use Rattle.sa_contracts.specs.ExitChecks.{checked, leaving_level, arm_level, case_arm_level, type_arm_level, leaving, leaving_arm, leaving_case_arm, leaving_type_arm}

module _ (conditions : List Condition) (ty : Option Ty) where
  leaving-roll : (x : Stmt-F Stmt BranchArm CaseArm TypeArm) → leaving conditions ty (roll-Stmt x) ≡ leaving_level conditions ty (map-Stmt Stmt BranchArm CaseArm TypeArm Stmt BranchArm CaseArm TypeArm (leaving conditions ty) (leaving_arm conditions ty) (leaving_case_arm conditions ty) (leaving_type_arm conditions ty) x)
  unfolding leaving leaving_arm leaving_case_arm leaving_type_arm
  leaving-roll x = fold-roll-Stmt Stmt BranchArm CaseArm TypeArm (leaving_level conditions ty) arm_level case_arm_level type_arm_level x

  pub leaving-Declare : (names : List Local) (of : Option Ty) (value : Option Expr) → leaving conditions ty (s.Declare names of value) ≡ s.Declare names of value
  leaving-Declare names of value =
      ap (leaving conditions ty) (sym (s.rolls-Declare names of value)) ∙ leaving-roll (Stmt-F.Declare names of value) ∙ s.rolls-Declare names of value

  pub leaving-Assign : (to value : Expr) (pos : Pos) → leaving conditions ty (s.Assign to value pos) ≡ s.Assign to value pos
  leaving-Assign to value pos =
      ap (leaving conditions ty) (sym (s.rolls-Assign to value pos)) ∙ leaving-roll (Stmt-F.Assign to value pos) ∙ s.rolls-Assign to value pos

  pub leaving-If : (arms : List BranchArm) (other : List Stmt) (pos : Pos) → leaving conditions ty (s.If arms other pos) ≡ s.If (map (leaving_arm conditions ty) arms) (map (leaving conditions ty) other) pos
  leaving-If arms other pos =
      ap (leaving conditions ty) (sym (s.rolls-If arms other pos)) ∙ leaving-roll (Stmt-F.If arms other pos) ∙ s.rolls-If (map (leaving_arm conditions ty) arms) (map (leaving conditions ty) other) pos

  pub leaving-Loop : (body : List Stmt) (pos : Pos) → leaving conditions ty (s.Loop body pos) ≡ s.Loop (map (leaving conditions ty) body) pos
  leaving-Loop body pos =
      ap (leaving conditions ty) (sym (s.rolls-Loop body pos)) ∙ leaving-roll (Stmt-F.Loop body pos) ∙ s.rolls-Loop (map (leaving conditions ty) body) pos

  pub leaving-Case-None : (tested : Expr) (arms : List CaseArm) (pos : Pos) → leaving conditions ty (s.Case tested arms None pos) ≡ s.Case tested (map (leaving_case_arm conditions ty) arms) None pos
  leaving-Case-None tested arms pos =
      ap (leaving conditions ty) (sym (s.rolls-Case tested arms None pos)) ∙ leaving-roll (Stmt-F.Case tested arms None pos) ∙ s.rolls-Case tested (map (leaving_case_arm conditions ty) arms) None pos

  pub leaving-Case-Some : (tested : Expr) (arms : List CaseArm) (other : List Stmt) (pos : Pos) → leaving conditions ty (s.Case tested arms (Some other) pos) ≡ s.Case tested (map (leaving_case_arm conditions ty) arms) (Some (map (leaving conditions ty) other)) pos
  leaving-Case-Some tested arms other pos =
      ap (leaving conditions ty) (sym (s.rolls-Case tested arms (Some other) pos)) ∙ leaving-roll (Stmt-F.Case tested arms (Some other) pos) ∙ s.rolls-Case tested (map (leaving_case_arm conditions ty) arms) (Some (map (leaving conditions ty) other)) pos

  pub leaving-TypeCase-None : (tested : Local) (arms : List TypeArm) (pos : Pos) → leaving conditions ty (s.TypeCase tested arms None pos) ≡ s.TypeCase tested (map (leaving_type_arm conditions ty) arms) None pos
  leaving-TypeCase-None tested arms pos =
      ap (leaving conditions ty) (sym (s.rolls-TypeCase tested arms None pos)) ∙ leaving-roll (Stmt-F.TypeCase tested arms None pos) ∙ s.rolls-TypeCase tested (map (leaving_type_arm conditions ty) arms) None pos

  pub leaving-TypeCase-Some : (tested : Local) (arms : List TypeArm) (other : List Stmt) (pos : Pos) → leaving conditions ty (s.TypeCase tested arms (Some other) pos) ≡ s.TypeCase tested (map (leaving_type_arm conditions ty) arms) (Some (map (leaving conditions ty) other)) pos
  leaving-TypeCase-Some tested arms other pos =
      ap (leaving conditions ty) (sym (s.rolls-TypeCase tested arms (Some other) pos)) ∙ leaving-roll (Stmt-F.TypeCase tested arms (Some other) pos) ∙ s.rolls-TypeCase tested (map (leaving_type_arm conditions ty) arms) (Some (map (leaving conditions ty) other)) pos

  pub leaving-Protect-None : (body : List Stmt) (arms : List TypeArm) (pos : Pos) → leaving conditions ty (s.Protect body arms None pos) ≡ s.Protect (map (leaving conditions ty) body) (map (leaving_type_arm conditions ty) arms) None pos
  leaving-Protect-None body arms pos =
      ap (leaving conditions ty) (sym (s.rolls-Protect body arms None pos)) ∙ leaving-roll (Stmt-F.Protect body arms None pos) ∙ s.rolls-Protect (map (leaving conditions ty) body) (map (leaving_type_arm conditions ty) arms) None pos

  pub leaving-Protect-Some : (body : List Stmt) (arms : List TypeArm) (other : List Stmt) (pos : Pos) → leaving conditions ty (s.Protect body arms (Some other) pos) ≡ s.Protect (map (leaving conditions ty) body) (map (leaving_type_arm conditions ty) arms) (Some (map (leaving conditions ty) other)) pos
  leaving-Protect-Some body arms other pos =
      ap (leaving conditions ty) (sym (s.rolls-Protect body arms (Some other) pos)) ∙ leaving-roll (Stmt-F.Protect body arms (Some other) pos) ∙ s.rolls-Protect (map (leaving conditions ty) body) (map (leaving_type_arm conditions ty) arms) (Some (map (leaving conditions ty) other)) pos

  pub leaving-Return : (value : Option Expr) (pos : Pos) → leaving conditions ty (s.Return value pos) ≡ checked conditions ty giving.Return value pos
  leaving-Return value pos =
      ap (leaving conditions ty) (sym (s.rolls-Return value pos)) ∙ leaving-roll (Stmt-F.Return value pos)

  pub leaving-Yield : (value : Option Expr) (pos : Pos) → leaving conditions ty (s.Yield value pos) ≡ checked conditions ty giving.Yield value pos
  leaving-Yield value pos =
      ap (leaving conditions ty) (sym (s.rolls-Yield value pos)) ∙ leaving-roll (Stmt-F.Yield value pos)

  pub leaving-Quit : (pos : Pos) → leaving conditions ty (s.Quit pos) ≡ s.Quit pos
  leaving-Quit pos =
      ap (leaving conditions ty) (sym (s.rolls-Quit pos)) ∙ leaving-roll (Stmt-F.Quit pos) ∙ s.rolls-Quit pos

  pub leaving-Raise : (value : Expr) (pos : Pos) → leaving conditions ty (s.Raise value pos) ≡ s.Raise value pos
  leaving-Raise value pos =
      ap (leaving conditions ty) (sym (s.rolls-Raise value pos)) ∙ leaving-roll (Stmt-F.Raise value pos) ∙ s.rolls-Raise value pos

  pub leaving-Assert : (test : Expr) (pos : Pos) → leaving conditions ty (s.Assert test pos) ≡ s.Assert test pos
  leaving-Assert test pos =
      ap (leaving conditions ty) (sym (s.rolls-Assert test pos)) ∙ leaving-roll (Stmt-F.Assert test pos) ∙ s.rolls-Assert test pos

  pub leaving-Do : (value : Expr) → leaving conditions ty (s.ExprStmt value) ≡ s.ExprStmt value
  leaving-Do value =
      ap (leaving conditions ty) (sym (s.rolls-ExprStmt value)) ∙ leaving-roll (Stmt-F.ExprStmt value) ∙ s.rolls-ExprStmt value

  pub leaving_arm-parts : (a : BranchArm) → leaving_arm conditions ty a ≡ record { test = a.test; body = map (leaving conditions ty) a.body }
  unfolding leaving leaving_arm leaving_case_arm leaving_type_arm
  leaving_arm-parts a = fold_out-BranchArm Stmt BranchArm CaseArm TypeArm (leaving_level conditions ty) arm_level case_arm_level type_arm_level a

  pub leaving_case_arm-parts : (a : CaseArm) → leaving_case_arm conditions ty a ≡ record { values = a.values; body = map (leaving conditions ty) a.body }
  unfolding leaving leaving_arm leaving_case_arm leaving_type_arm
  leaving_case_arm-parts a = fold_out-CaseArm Stmt BranchArm CaseArm TypeArm (leaving_level conditions ty) arm_level case_arm_level type_arm_level a

  pub leaving_type_arm-parts : (a : TypeArm) → leaving_type_arm conditions ty a ≡ record { ty = a.ty; body = map (leaving conditions ty) a.body }
  unfolding leaving leaving_arm leaving_case_arm leaving_type_arm
  leaving_type_arm-parts a = fold_out-TypeArm Stmt BranchArm CaseArm TypeArm (leaving_level conditions ty) arm_level case_arm_level type_arm_level a

pub ruleset statements = (leaving-Declare, leaving-Assign, leaving-If, leaving-Loop, leaving-Case-None, leaving-Case-Some, leaving-TypeCase-None, leaving-TypeCase-Some, leaving-Protect-None, leaving-Protect-Some, leaving-Return, leaving-Yield, leaving-Quit, leaving-Raise, leaving-Assert, leaving-Do)

pub ruleset arms = (leaving_arm-parts, leaving_case_arm-parts, leaving_type_arm-parts)

pub ruleset lists = (map_more)
