-- The positions in lists from an index on.
use Rattle.std.proofs.Common.{◌≡◌, ℕ, ◌+◌, ◌<◌, List, ◌++◌, length, get_or, drop, add-one, drop-cons, append_assoc}
use Rattle.std.proofs.Math.Seq.{drop-length}
use Rattle.std.proofs.lemmas.List.{append-nil}
use Rattle.std.specs.Prelude.{flat_map}
use Rattle.sa_typed.specs.declared.expr.TypedArg.{TypedArg}
use Rattle.sa_typed.specs.declared.expr.TypedExpr.{TypedExpr}
use Rattle.sa_typed.specs.declared.feature.TypedFeature.{TypedFeature}
use Rattle.sa_typed.specs.declared.program.TypedShared.{TypedShared}
use Rattle.sa_typed.specs.declared.stmt.TypedArm.{TypedArm}
use Rattle.sa_typed.specs.declared.stmt.TypedStmt.{TypedStmt}
use Rattle.sa_typed.specs.declared.stmt.TypedBranch.{TypedBranch}
use Rattle.sa_typed.specs.Copy.{expr_of, arg_of, stmt_of, test_of, arm_of, exprs_of, args_of, block_of, tests_of, arms_of}
use Rattle.sa_typed.specs.PositionList.{expr_positions, exprs_positions, arg_positions, args_positions, stmt_positions, stmts_positions, tests_positions, arms_positions, shared_positions, feature_positions}
use Rattle.sa_typed.proofs.Copies.{copies}

pub exprs_positions-drop : (xs : List TypedExpr) (i : ℕ) (x : TypedExpr) → i < length xs → x ≡ get_or xs i x → exprs_positions (exprs_of (drop i xs)) ≡ expr_positions (expr_of x) ++ exprs_positions (exprs_of (drop (i + 1) xs))
exprs_positions-drop xs i x h e = rw (add-one, drop-cons xs i x, ← e)

pub args_positions-drop : (xs : List TypedArg) (i : ℕ) (x : TypedArg) → i < length xs → x ≡ get_or xs i x → args_positions (args_of (drop i xs)) ≡ arg_positions (arg_of x) ++ args_positions (args_of (drop (i + 1) xs))
args_positions-drop xs i x h e = rw (add-one, drop-cons xs i x, ← e)

pub stmts_positions-drop : (xs : List TypedStmt) (i : ℕ) (x : TypedStmt) → i < length xs → x ≡ get_or xs i x → stmts_positions (block_of (drop i xs)) ≡ stmt_positions (stmt_of x) ++ stmts_positions (block_of (drop (i + 1) xs))
stmts_positions-drop xs i x h e = rw (add-one, drop-cons xs i x, ← e)

pub tests_positions-drop : (xs : List TypedBranch) (i : ℕ) (x : TypedBranch) → i < length xs → x ≡ get_or xs i x → tests_positions (tests_of (drop i xs)) ≡ exprs_positions (test_of x).0 ++ stmts_positions (test_of x).1 ++ tests_positions (tests_of (drop (i + 1) xs))
tests_positions-drop xs i x h e = rw (add-one, drop-cons xs i x, ← e)

pub arms_positions-drop : (xs : List TypedArm) (i : ℕ) (x : TypedArm) → i < length xs → x ≡ get_or xs i x → arms_positions (arms_of (drop i xs)) ≡ stmts_positions (arm_of x).2 ++ arms_positions (arms_of (drop (i + 1) xs))
arms_positions-drop xs i x h e = rw (add-one, drop-cons xs i x, ← e)

pub shareds_positions-drop : (xs : List TypedShared) (i : ℕ) (x : TypedShared) → i < length xs → x ≡ get_or xs i x → flat_map shared_positions (drop i xs) ≡ shared_positions x ++ flat_map shared_positions (drop (i + 1) xs)
shareds_positions-drop xs i x h e = rw (add-one, drop-cons xs i x, ← e)

pub features_positions-drop : (xs : List TypedFeature) (i : ℕ) (x : TypedFeature) → i < length xs → x ≡ get_or xs i x → flat_map feature_positions (drop i xs) ≡ feature_positions x ++ flat_map feature_positions (drop (i + 1) xs)
features_positions-drop xs i x h e = rw (add-one, drop-cons xs i x, ← e)

pub ruleset parts = (copies, append_assoc, append-nil)

pub ruleset places = (exprs_positions-drop, args_positions-drop, stmts_positions-drop, tests_positions-drop, arms_positions-drop, shareds_positions-drop, features_positions-drop, drop-length, append_assoc, append-nil)
