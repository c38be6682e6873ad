-- Statements in which what a feature keeps is checked wherever it returns or yields.
use Rattle.std.specs.Prelude.{ℕ, List, [], ◌∷◌, ◌++◌, length, ◌==◌, if◌then◌else◌, Option, None, Some, true, codes}
use Rattle.sa_ast.specs.declared.contract.Condition.{Condition}
use Rattle.sa_ast.specs.declared.expr.Expr.{Expr}
use Rattle.sa_ast.specs.declared.expr.Expr.TheVariants as e
use Rattle.sa_ast.specs.declared.expr.ExprReceiver.TheVariants as r
use Rattle.sa_ast.specs.declared.pos.Pos.{Pos}
use Rattle.sa_ast.specs.declared.stmt.BranchArm.{BranchArm}
use Rattle.sa_ast.specs.declared.stmt.CaseArm.{CaseArm}
use Rattle.sa_ast.specs.declared.stmt.Local.{Local}
use Rattle.sa_ast.specs.declared.stmt.Stmt.{Stmt}
use Rattle.sa_ast.specs.declared.stmt.Stmt.TheVariants as s
use Rattle.sa_ast.specs.declared.stmt.Stmt.TheOpen.{Stmt-F, BranchArm-F, CaseArm-F, TypeArm-F}
use Rattle.sa_ast.specs.declared.stmt.Stmt.TheFolds.{fold-Stmt, fold-BranchArm, fold-CaseArm, fold-TypeArm}
use Rattle.sa_ast.specs.declared.stmt.Stmt.TheViews.{roll-Stmt}
use Rattle.sa_ast.specs.declared.stmt.TypeArm.{TypeArm}
use Rattle.sa_ast.specs.declared.ty.Ty.{Ty}
use Rattle.sa_contracts.specs.declared.asserts.ExitConditions.{ExitConditions}
use Rattle.sa_contracts.specs.declared.statements.Giving.{Giving}
use Rattle.sa_contracts.specs.declared.statements.Giving.TheVariants as giving
use Rattle.sa_contracts.specs.Assertions.{asserts_of}

-- ---- a `return` or a `yield`

abbrev pub gives : Giving → Option Expr → Pos → Stmt
gives giving.Return value pos = s.Return value pos
gives giving.Yield value pos = s.Yield value pos

-- the word
abbrev pub result_word : List ℕ
result_word = codes "result"

-- `result`, as it is declared and as it is read
abbrev pub result_local : Pos → Local
result_local pos = record { name = result_word; pos = pos }

abbrev pub result_read : Pos → Expr
result_read pos = e.Call r.Implied result_word [] pos

-- `result` is declared with the value
abbrev pub result_declared : Option Ty → Expr → Pos → Stmt
result_declared ty value pos = s.Declare (result_local pos ∷ []) ty (Some value)

-- the value is saved in `result`, the conditions are asserted, and `result` is returned or yielded
abbrev pub checked_list : List Condition → Option Ty → Giving → Option Expr → Pos → List Stmt
checked_list conditions ty form None pos = asserts_of conditions ++ gives form None pos ∷ []
checked_list conditions ty form (Some value) pos =
    result_declared ty value pos ∷ [] ++ asserts_of conditions ++ gives form (Some (result_read pos)) pos ∷ []

-- the statements, in an `if` whose test is true
abbrev pub always_arm : List Stmt → Pos → BranchArm
always_arm body pos = record { test = e.Bool true pos; body = body }

abbrev pub always : List Stmt → Pos → Stmt
always body pos = s.If (always_arm body pos ∷ []) [] pos

-- what replaces it: itself, where nothing is kept
abbrev pub checked : List Condition → Option Ty → Giving → Option Expr → Pos → Stmt
checked conditions ty form value pos =
    if length conditions == 0 then gives form value pos else always (checked_list conditions ty form value pos) pos

-- ---- one level of a statement and of an arm: the nested statements are done already

abbrev pub leaving_level : List Condition → Option Ty → Stmt-F Stmt BranchArm CaseArm TypeArm → Stmt
leaving_level conditions ty (Stmt-F.Return value pos) = checked conditions ty giving.Return value pos
leaving_level conditions ty (Stmt-F.Yield value pos) = checked conditions ty giving.Yield value pos
leaving_level conditions ty other = roll-Stmt other

abbrev pub arm_level : BranchArm-F Stmt BranchArm CaseArm TypeArm → BranchArm
arm_level a = record { test = a.test; body = a.body }

abbrev pub case_arm_level : CaseArm-F Stmt BranchArm CaseArm TypeArm → CaseArm
case_arm_level a = record { values = a.values; body = a.body }

abbrev pub type_arm_level : TypeArm-F Stmt BranchArm CaseArm TypeArm → TypeArm
type_arm_level a = record { ty = a.ty; body = a.body }

-- ---- statements and arms: each `return` and `yield` in them is checked, all else is unchanged

unfoldable pub leaving : List Condition → Option Ty → Stmt → Stmt
leaving conditions ty =
    fold-Stmt Stmt BranchArm CaseArm TypeArm (leaving_level conditions ty) arm_level case_arm_level type_arm_level

unfoldable pub leaving_arm : List Condition → Option Ty → BranchArm → BranchArm
leaving_arm conditions ty =
    fold-BranchArm Stmt BranchArm CaseArm TypeArm (leaving_level conditions ty) arm_level case_arm_level type_arm_level

unfoldable pub leaving_case_arm : List Condition → Option Ty → CaseArm → CaseArm
leaving_case_arm conditions ty =
    fold-CaseArm Stmt BranchArm CaseArm TypeArm (leaving_level conditions ty) arm_level case_arm_level type_arm_level

unfoldable pub leaving_type_arm : List Condition → Option Ty → TypeArm → TypeArm
leaving_type_arm conditions ty =
    fold-TypeArm Stmt BranchArm CaseArm TypeArm (leaving_level conditions ty) arm_level case_arm_level type_arm_level

-- ---- the same by what a feature keeps

abbrev pub leaving_by : ExitConditions → Stmt → Stmt
leaving_by k = leaving k.conditions.now k.result.now

abbrev pub leaving_arm_by : ExitConditions → BranchArm → BranchArm
leaving_arm_by k = leaving_arm k.conditions.now k.result.now

abbrev pub leaving_case_arm_by : ExitConditions → CaseArm → CaseArm
leaving_case_arm_by k = leaving_case_arm k.conditions.now k.result.now

abbrev pub leaving_type_arm_by : ExitConditions → TypeArm → TypeArm
leaving_type_arm_by k = leaving_type_arm k.conditions.now k.result.now
