-- The nodes of a feature: the statements of its body, the branches of its typecases and protects, and its expressions, nested ones
-- included. Those of a shared are the expressions of its initialiser.
use Rattle.std.specs.Prelude.{ℕ, ◌+◌, Option, Some, None, min}
use Rattle.sa_typed.specs.declared.feature.TypedFeature.{TypedFeature}
use Rattle.sa_typed.specs.declared.program.TypedShared.{TypedShared}
use Rattle.sa_typed.specs.Copy.{block_of, option_expr_of}
use Rattle.sa_typed.specs.Tree.{Expr, IsVoid, NewArray, Array, Call, IterCall, Bind, Reversed, And}
use Rattle.sa_typed.specs.Tree.{Or, Box, Exprs, no_exprs, expr, Arg, Value, Args, no_args, arg}
use Rattle.sa_typed.specs.Tree.{Exit, Break, While, Until, Stmt, Assign, ExprStmt, If, Loop, ExitLoop, TypeCase, Protect, Return, Yield, Raise}
use Rattle.sa_typed.specs.Tree.{Stmts, no_stmts, stmt, Tests, no_tests, branch, Arms, no_arms, arm, Else, no_else, otherwise}

abbrev mutual
  pub expr_nodes : Expr → ℕ
  expr_nodes (IsVoid of) = 1 + expr_nodes of
  expr_nodes (NewArray ty size pos) = 1 + expr_nodes size
  expr_nodes (Array ty elements pos) = 1 + exprs_nodes elements
  expr_nodes (Call called on arguments pos) = 1 + expr_nodes on + args_nodes arguments
  expr_nodes (IterCall site on arguments pos) = 1 + expr_nodes on + args_nodes arguments
  expr_nodes (Bind called on arguments ty pos) = 1 + expr_nodes on + args_nodes arguments
  expr_nodes (Reversed target first second pos) = 1 + expr_nodes first + expr_nodes second
  expr_nodes (And first second) = 1 + expr_nodes first + expr_nodes second
  expr_nodes (Or first second) = 1 + expr_nodes first + expr_nodes second
  expr_nodes (Box ty of pos) = 1 + expr_nodes of
  expr_nodes _ = 1

  pub exprs_nodes : Exprs → ℕ
  exprs_nodes no_exprs = 0
  exprs_nodes (expr e more) = expr_nodes e + exprs_nodes more

  -- an argument that is a variable, or that a bind leaves open, has none
  pub arg_nodes : Arg → ℕ
  arg_nodes (Value mode value) = expr_nodes value
  arg_nodes _ = 0

  pub args_nodes : Args → ℕ
  args_nodes no_args = 0
  args_nodes (arg a more) = arg_nodes a + args_nodes more

abbrev pub option_expr_nodes : Option Expr → ℕ
option_expr_nodes None = 0
option_expr_nodes (Some e) = expr_nodes e

abbrev pub exit_nodes : Exit → ℕ
exit_nodes Break = 0
exit_nodes (While test) = expr_nodes test
exit_nodes (Until test) = expr_nodes test

abbrev mutual
  pub stmt_nodes : Stmt → ℕ
  stmt_nodes (Assign var value) = 1 + expr_nodes value
  stmt_nodes (ExprStmt value) = 1 + expr_nodes value
  stmt_nodes (If tests other) = 1 + tests_nodes tests + stmts_nodes other
  stmt_nodes (Loop number body) = 1 + stmts_nodes body
  stmt_nodes (ExitLoop exit) = 1 + exit_nodes exit
  stmt_nodes (TypeCase var arms other pos) = 1 + arms_nodes arms + else_nodes other
  stmt_nodes (Protect body arms other) = 1 + stmts_nodes body + arms_nodes arms + else_nodes other
  stmt_nodes (Return value) = 1 + option_expr_nodes value
  stmt_nodes (Yield value) = 1 + option_expr_nodes value
  stmt_nodes (Raise value pos) = 1 + expr_nodes value
  stmt_nodes _ = 1

  pub stmts_nodes : Stmts → ℕ
  stmts_nodes no_stmts = 0
  stmts_nodes (stmt s more) = stmt_nodes s + stmts_nodes more

  pub tests_nodes : Tests → ℕ
  tests_nodes no_tests = 0
  tests_nodes (branch tests body more) = exprs_nodes tests + stmts_nodes body + tests_nodes more

  pub arms_nodes : Arms → ℕ
  arms_nodes no_arms = 0
  arms_nodes (arm ty var body more) = 1 + stmts_nodes body + arms_nodes more

  pub else_nodes : Else → ℕ
  else_nodes no_else = 0
  else_nodes (otherwise body) = stmts_nodes body

-- the nodes of a feature
abbrev pub feature_nodes : TypedFeature → ℕ
feature_nodes f = stmts_nodes (block_of f.body)

-- the nodes of a shared's initialiser
abbrev pub shared_nodes : TypedShared → ℕ
shared_nodes s = option_expr_nodes (option_expr_of s.start)

-- a number that fits into 32 bits, or the greatest that does
abbrev pub capped : ℕ → ℕ
capped n = min n 4294967295
