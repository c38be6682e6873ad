-- The nodes of lists from an index on.
use Rattle.std.proofs.Common.{◌≡◌, ℕ, ◌+◌, ◌<◌, List, length, get_or, drop, add-one, drop-cons}
use Rattle.std.proofs.Math.Seq.{drop-length}
use Rattle.sa_typed.specs.declared.expr.TypedArg.{TypedArg}
use Rattle.sa_typed.specs.declared.expr.TypedExpr.{TypedExpr}
use Rattle.sa_typed.specs.declared.stmt.TypedArm.{TypedArm}
use Rattle.sa_typed.specs.declared.stmt.TypedStmt.{TypedStmt}
use Rattle.sa_typed.specs.declared.stmt.TypedBranch.{TypedBranch}
use Rattle.sa_typed.specs.Copy.{expr_of, arg_of, stmt_of, test_of, arm_of, exprs_of, args_of, block_of, tests_of, arms_of}
use Rattle.sa_typed.specs.Nodes.{expr_nodes, exprs_nodes, arg_nodes, args_nodes, stmt_nodes, stmts_nodes, tests_nodes, arms_nodes}

pub exprs_nodes-drop : (xs : List TypedExpr) (i : ℕ) (x : TypedExpr) → i < length xs → x ≡ get_or xs i x → exprs_nodes (exprs_of (drop i xs)) ≡ expr_nodes (expr_of x) + exprs_nodes (exprs_of (drop (i + 1) xs))
exprs_nodes-drop xs i x h e = rw (add-one, drop-cons xs i x, ← e)

pub args_nodes-drop : (xs : List TypedArg) (i : ℕ) (x : TypedArg) → i < length xs → x ≡ get_or xs i x → args_nodes (args_of (drop i xs)) ≡ arg_nodes (arg_of x) + args_nodes (args_of (drop (i + 1) xs))
args_nodes-drop xs i x h e = rw (add-one, drop-cons xs i x, ← e)

pub stmts_nodes-drop : (xs : List TypedStmt) (i : ℕ) (x : TypedStmt) → i < length xs → x ≡ get_or xs i x → stmts_nodes (block_of (drop i xs)) ≡ stmt_nodes (stmt_of x) + stmts_nodes (block_of (drop (i + 1) xs))
stmts_nodes-drop xs i x h e = rw (add-one, drop-cons xs i x, ← e)

pub tests_nodes-drop : (xs : List TypedBranch) (i : ℕ) (x : TypedBranch) → i < length xs → x ≡ get_or xs i x → tests_nodes (tests_of (drop i xs)) ≡ exprs_nodes (test_of x).0 + stmts_nodes (test_of x).1 + tests_nodes (tests_of (drop (i + 1) xs))
tests_nodes-drop xs i x h e = rw (add-one, drop-cons xs i x, ← e)

pub arms_nodes-drop : (xs : List TypedArm) (i : ℕ) (x : TypedArm) → i < length xs → x ≡ get_or xs i x → arms_nodes (arms_of (drop i xs)) ≡ 1 + stmts_nodes (arm_of x).2 + arms_nodes (arms_of (drop (i + 1) xs))
arms_nodes-drop xs i x h e = rw (add-one, drop-cons xs i x, ← e)

pub ruleset counts = (exprs_nodes-drop, args_nodes-drop, stmts_nodes-drop, tests_nodes-drop, arms_nodes-drop, drop-length)
