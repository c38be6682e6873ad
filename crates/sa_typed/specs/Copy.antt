-- The ASTs of `src/` as the definitions see them.
use Rattle.std.specs.Prelude.{ℕ, List, [], ◌∷◌, map, Option, Some, None}
use Rattle.std.specs.Option.{option_map}
use Rattle.sa_typed.specs.declared.expr.TypedArg.{TypedArg}
use Rattle.sa_typed.specs.declared.expr.TypedArg.TheOpen.{TypedArg-F, TypedExpr-F}
use Rattle.sa_typed.specs.declared.expr.TypedArg.TheFolds.{fold-TypedArg, fold-TypedExpr}
use Rattle.sa_typed.specs.declared.expr.TypedExpr.{TypedExpr}
use Rattle.sa_typed.specs.declared.stmt.TypedArm.{TypedArm}
use Rattle.sa_typed.specs.declared.stmt.LoopExit.{LoopExit}
use Rattle.sa_typed.specs.declared.stmt.LoopExit.TheVariants as loop_exit
use Rattle.sa_typed.specs.declared.stmt.TypedStmt.{TypedStmt}
use Rattle.sa_typed.specs.declared.stmt.TypedStmt.TheOpen.{TypedStmt-F, TypedBranch-F, TypedArm-F}
use Rattle.sa_typed.specs.declared.stmt.TypedStmt.TheFolds.{fold-TypedStmt, fold-TypedBranch, fold-TypedArm}
use Rattle.sa_typed.specs.declared.stmt.TypedBranch.{TypedBranch}
use Rattle.sa_typed.specs.Tree.{Expr, Int, Truth, Char, Text, VoidValue, SelfRef, Var, Exception, IsVoid, New, NewArray, Array, Call, IterCall}
use Rattle.sa_typed.specs.Tree.{Bind, Reversed, And, Or, Box, Exprs, no_exprs, expr, Arg, Value, Variable, Open, Args, no_args, arg}
use Rattle.sa_typed.specs.Tree.{Exit, Break, While, Until, Stmt, Assign, ExprStmt, If, Loop, ExitLoop, TypeCase, Protect, Return, Yield, Quit, Raise}
use Rattle.sa_typed.specs.Tree.{Fault, Stmts, no_stmts, stmt, Tests, no_tests, branch, Arms, no_arms, arm, Else, no_else, otherwise}

-- ---- lists of expressions and arguments

abbrev pub expr_list : List Expr → Exprs
expr_list [] = no_exprs
expr_list (e ∷ more) = expr e (expr_list more)

abbrev pub arg_list : List Arg → Args
arg_list [] = no_args
arg_list (a ∷ more) = arg a (arg_list more)

-- ---- one level of an expression or an argument, whose parts are done

abbrev pub expr_level : TypedExpr-F Arg Expr → Expr
expr_level (TypedExpr-F.Int value) = Int value
expr_level (TypedExpr-F.Bool value) = Truth value
expr_level (TypedExpr-F.Char byte) = Char byte
expr_level (TypedExpr-F.Text text) = Text text
expr_level (TypedExpr-F.VoidValue ty) = VoidValue ty
expr_level TypedExpr-F.SelfRef = SelfRef
expr_level (TypedExpr-F.Var var) = Var var
expr_level TypedExpr-F.Exception = Exception
expr_level (TypedExpr-F.IsVoid of) = IsVoid of
expr_level (TypedExpr-F.New ty pos) = New ty pos
expr_level (TypedExpr-F.NewArray ty size pos) = NewArray ty size pos
expr_level (TypedExpr-F.Array ty elements pos) = Array ty (expr_list elements) pos
expr_level (TypedExpr-F.Call called on arguments pos) = Call called on (arg_list arguments) pos
expr_level (TypedExpr-F.IterCall site on arguments pos) = IterCall site on (arg_list arguments) pos
expr_level (TypedExpr-F.Bind called on arguments ty pos) = Bind called on (arg_list arguments) ty pos
expr_level (TypedExpr-F.Reversed target first second pos) = Reversed target first second pos
expr_level (TypedExpr-F.And first second) = And first second
expr_level (TypedExpr-F.Or first second) = Or first second
expr_level (TypedExpr-F.Box ty of pos) = Box ty of pos

abbrev pub arg_level : TypedArg-F Arg Expr → Arg
arg_level (TypedArg-F.Value mode value) = Value mode value
arg_level (TypedArg-F.Variable mode var) = Variable mode var
arg_level TypedArg-F.Open = Open

-- ---- expressions and arguments

unfoldable pub expr_of : TypedExpr → Expr
expr_of = fold-TypedExpr Arg Expr arg_level expr_level

unfoldable pub arg_of : TypedArg → Arg
arg_of = fold-TypedArg Arg Expr arg_level expr_level

abbrev pub exprs_of : List TypedExpr → Exprs
exprs_of list = expr_list (map expr_of list)

abbrev pub args_of : List TypedArg → Args
args_of list = arg_list (map arg_of list)

abbrev pub option_expr_of : Option TypedExpr → Option Expr
option_expr_of value = option_map expr_of value

abbrev pub exit_of : LoopExit → Exit
exit_of loop_exit.Break = Break
exit_of (loop_exit.While test) = While (expr_of test)
exit_of (loop_exit.Until test) = Until (expr_of test)

-- ---- lists of statements, tests and branches

abbrev pub stmt_list : List Stmt → Stmts
stmt_list [] = no_stmts
stmt_list (s ∷ more) = stmt s (stmt_list more)

abbrev pub test_list : List (Exprs × Stmts) → Tests
test_list [] = no_tests
test_list (t ∷ more) = branch t.0 t.1 (test_list more)

abbrev pub arm_list : List (ℕ × ℕ × Stmts) → Arms
arm_list [] = no_arms
arm_list (a ∷ more) = arm a.0 a.1 a.2 (arm_list more)

abbrev pub else_stmts : Option (List Stmt) → Else
else_stmts None = no_else
else_stmts (Some list) = otherwise (stmt_list list)

-- ---- one level of a statement, whose nested statements are done

abbrev pub stmt_level : TypedStmt-F Stmt (ℕ × ℕ × Stmts) (Exprs × Stmts) → Stmt
stmt_level (TypedStmt-F.Assign var value) = Assign var (expr_of value)
stmt_level (TypedStmt-F.ExprStmt value) = ExprStmt (expr_of value)
stmt_level (TypedStmt-F.If tests other) = If (test_list tests) (stmt_list other)
stmt_level (TypedStmt-F.Loop number body) = Loop number (stmt_list body)
stmt_level (TypedStmt-F.ExitLoop exit) = ExitLoop (exit_of exit)
stmt_level (TypedStmt-F.TypeCase var arms other pos) = TypeCase var (arm_list arms) (else_stmts other) pos
stmt_level (TypedStmt-F.Protect body arms other) = Protect (stmt_list body) (arm_list arms) (else_stmts other)
stmt_level (TypedStmt-F.Return value) = Return (option_expr_of value)
stmt_level (TypedStmt-F.Yield value) = Yield (option_expr_of value)
stmt_level TypedStmt-F.Quit = Quit
stmt_level (TypedStmt-F.Raise value pos) = Raise (expr_of value) pos
stmt_level (TypedStmt-F.Fault kind pos) = Fault kind pos

abbrev pub test_level : TypedBranch-F Stmt (ℕ × ℕ × Stmts) (Exprs × Stmts) → Exprs × Stmts
test_level t = (exprs_of t.tests, stmt_list t.body)

abbrev pub arm_level : TypedArm-F Stmt (ℕ × ℕ × Stmts) (Exprs × Stmts) → ℕ × ℕ × Stmts
arm_level a = (a.ty, a.var, stmt_list a.body)

-- ---- statements

unfoldable pub stmt_of : TypedStmt → Stmt
stmt_of = fold-TypedStmt Stmt (ℕ × ℕ × Stmts) (Exprs × Stmts) stmt_level arm_level test_level

-- the tests and the statements of an arm of an `if`
unfoldable pub test_of : TypedBranch → Exprs × Stmts
test_of = fold-TypedBranch Stmt (ℕ × ℕ × Stmts) (Exprs × Stmts) stmt_level arm_level test_level

-- the type, the variable and the statements of a branch
unfoldable pub arm_of : TypedArm → ℕ × ℕ × Stmts
arm_of = fold-TypedArm Stmt (ℕ × ℕ × Stmts) (Exprs × Stmts) stmt_level arm_level test_level

abbrev pub block_of : List TypedStmt → Stmts
block_of body = stmt_list (map stmt_of body)

abbrev pub tests_of : List TypedBranch → Tests
tests_of list = test_list (map test_of list)

abbrev pub arms_of : List TypedArm → Arms
arms_of list = arm_list (map arm_of list)

abbrev pub else_of : Option (List TypedStmt) → Else
else_of None = no_else
else_of (Some body) = otherwise (block_of body)
