-- The positions that the expressions and statements of a program carry, in preorder: each before those of its children, and these in the
-- order of the fields.
use Rattle.std.specs.Prelude.{List, [], ◌∷◌, ◌++◌, Option, Some, None, flat_map}
use Rattle.sa_ast.specs.declared.pos.Pos.{Pos}
use Rattle.sa_typed.specs.declared.feature.TypedFeature.{TypedFeature}
use Rattle.sa_typed.specs.declared.program.TypedProgram.{TypedProgram}
use Rattle.sa_typed.specs.declared.program.TypedShared.{TypedShared}
use Rattle.sa_typed.specs.Copy.{block_of, option_expr_of}
use Rattle.sa_typed.specs.Tree.{Expr, IsVoid, New, NewArray, Array, Call, IterCall, Bind, Reversed}
use Rattle.sa_typed.specs.Tree.{And, Or, Box, Exprs, no_exprs, expr, Arg, Value, Args, no_args, arg}
use Rattle.sa_typed.specs.Tree.{Exit, Break, While, Until, Stmt, Assign, ExprStmt, If, Loop, ExitLoop, TypeCase, Protect, Return, Yield, Raise}
use Rattle.sa_typed.specs.Tree.{Fault, Stmts, no_stmts, stmt, Tests, no_tests, branch, Arms, no_arms, arm, Else, no_else, otherwise}

abbrev mutual
  pub expr_positions : Expr → List Pos
  expr_positions (IsVoid of) = expr_positions of
  expr_positions (New ty pos) = pos ∷ []
  expr_positions (NewArray ty size pos) = pos ∷ expr_positions size
  expr_positions (Array ty elements pos) = pos ∷ exprs_positions elements
  expr_positions (Call called on arguments pos) = pos ∷ expr_positions on ++ args_positions arguments
  expr_positions (IterCall site on arguments pos) = pos ∷ expr_positions on ++ args_positions arguments
  expr_positions (Bind called on arguments ty pos) = pos ∷ expr_positions on ++ args_positions arguments
  expr_positions (Reversed target first second pos) = pos ∷ expr_positions first ++ expr_positions second
  expr_positions (And first second) = expr_positions first ++ expr_positions second
  expr_positions (Or first second) = expr_positions first ++ expr_positions second
  expr_positions (Box ty of pos) = pos ∷ expr_positions of
  expr_positions _ = []

  pub exprs_positions : Exprs → List Pos
  exprs_positions no_exprs = []
  exprs_positions (expr e more) = expr_positions e ++ exprs_positions more

  pub arg_positions : Arg → List Pos
  arg_positions (Value mode value) = expr_positions value
  arg_positions _ = []

  pub args_positions : Args → List Pos
  args_positions no_args = []
  args_positions (arg a more) = arg_positions a ++ args_positions more

abbrev pub option_expr_positions : Option Expr → List Pos
option_expr_positions None = []
option_expr_positions (Some e) = expr_positions e

abbrev pub exit_positions : Exit → List Pos
exit_positions Break = []
exit_positions (While test) = expr_positions test
exit_positions (Until test) = expr_positions test

abbrev mutual
  pub stmt_positions : Stmt → List Pos
  stmt_positions (Assign var value) = expr_positions value
  stmt_positions (ExprStmt value) = expr_positions value
  stmt_positions (If tests other) = tests_positions tests ++ stmts_positions other
  stmt_positions (Loop number body) = stmts_positions body
  stmt_positions (ExitLoop exit) = exit_positions exit
  stmt_positions (TypeCase var arms other pos) = pos ∷ arms_positions arms ++ else_positions other
  stmt_positions (Protect body arms other) = stmts_positions body ++ arms_positions arms ++ else_positions other
  stmt_positions (Return value) = option_expr_positions value
  stmt_positions (Yield value) = option_expr_positions value
  stmt_positions (Raise value pos) = pos ∷ expr_positions value
  stmt_positions (Fault kind pos) = pos ∷ []
  stmt_positions _ = []

  pub stmts_positions : Stmts → List Pos
  stmts_positions no_stmts = []
  stmts_positions (stmt s more) = stmt_positions s ++ stmts_positions more

  pub tests_positions : Tests → List Pos
  tests_positions no_tests = []
  tests_positions (branch tests body more) = exprs_positions tests ++ stmts_positions body ++ tests_positions more

  pub arms_positions : Arms → List Pos
  arms_positions no_arms = []
  arms_positions (arm ty var body more) = stmts_positions body ++ arms_positions more

  pub else_positions : Else → List Pos
  else_positions no_else = []
  else_positions (otherwise body) = stmts_positions body

-- those of a shared's initialiser
abbrev pub shared_positions : TypedShared → List Pos
shared_positions shared = option_expr_positions (option_expr_of shared.start)

-- those of a feature's body
abbrev pub feature_positions : TypedFeature → List Pos
feature_positions feature = stmts_positions (block_of feature.body)

-- those of a program: the shareds by number, then the features by number
abbrev pub program_positions : TypedProgram → List Pos
program_positions core = flat_map shared_positions core.shareds ++ flat_map feature_positions core.features
