-- Whether statements, tests and branches are well typed, from an index on.
use Rattle.std.proofs.Common.{◌≡◌, ℕ, ◌+◌, ◌<◌, ◌&&◌, Bool, true, false, List, Some, length, get_or, drop, refl, sym, ap, ◌∙◌, add-one, drop-cons}
use Rattle.std.proofs.Math.Seq.{drop-length}
use Rattle.sa_typed.specs.declared.expr.TypedExpr.{TypedExpr}
use Rattle.sa_typed.specs.declared.stmt.TypedArm.{TypedArm}
use Rattle.sa_typed.specs.declared.stmt.TypedStmt.{TypedStmt}
use Rattle.sa_typed.specs.declared.stmt.TypedBranch.{TypedBranch}
use Rattle.sa_typed.specs.Copy.{expr_of, stmt_of, test_of, arm_of, exprs_of, block_of, tests_of, arms_of}
use Rattle.sa_typing.specs.declared.context.TypingContext.{TypingContext}
use Rattle.sa_typing.specs.Forms.{is_test}
use Rattle.sa_typing.specs.Contexts.{Env, in_branch}
use Rattle.sa_typing.specs.Rows.{is_type}
use Rattle.sa_typing.specs.Expressions.{type_of_expr}
use Rattle.sa_typing.specs.Statements.{are_tests, is_branch_variable, well_branches, well_cases, well_stmt, well_stmts, well_tests}

and-assoc : (a b c : Bool) → (a && (b && c)) ≡ ((a && b) && c)
and-assoc true b c = refl
and-assoc false b c = refl

module _ (f : Env) (at : TypingContext) where
  pub are_tests-drop : (xs : List TypedExpr) (i : ℕ) (x : TypedExpr) → i < length xs → x ≡ get_or xs i x → are_tests f at (exprs_of (drop i xs)) ≡ (is_test (type_of_expr f at (expr_of x)) && are_tests f at (exprs_of (drop (i + 1) xs)))
  are_tests-drop xs i x h e = rw (add-one, drop-cons xs i x, ← e)

  pub well_stmts-drop : (xs : List TypedStmt) (i : ℕ) (x : TypedStmt) → i < length xs → x ≡ get_or xs i x → well_stmts f at (block_of (drop i xs)) ≡ (well_stmt f at (stmt_of x) && well_stmts f at (block_of (drop (i + 1) xs)))
  well_stmts-drop xs i x h e = rw (add-one, drop-cons xs i x, ← e)

  pub well_tests-drop : (xs : List TypedBranch) (i : ℕ) (x : TypedBranch) → i < length xs → x ≡ get_or xs i x → well_tests f at (tests_of (drop i xs)) ≡ ((are_tests f at (test_of x).0 && well_stmts f at (test_of x).1) && well_tests f at (tests_of (drop (i + 1) xs)))
  well_tests-drop xs i x h e =
      let step : well_tests f at (tests_of (drop i xs)) ≡ (are_tests f at (test_of x).0 && (well_stmts f at (test_of x).1 && well_tests f at (tests_of (drop (i + 1) xs)))) =
      rw (add-one, drop-cons xs i x, ← e) in
      step ∙ and-assoc (are_tests f at (test_of x).0) (well_stmts f at (test_of x).1) (well_tests f at (tests_of (drop (i + 1) xs)))

  well_cases-drop : (tested : ℕ) (xs : List TypedArm) (i : ℕ) (x : TypedArm) → i < length xs → x ≡ get_or xs i x → well_cases f at (Some tested) (arms_of (drop i xs)) ≡ ((is_branch_variable f tested (arm_of x).0 (arm_of x).1 && well_stmts f at (arm_of x).2) && well_cases f at (Some tested) (arms_of (drop (i + 1) xs)))
  well_cases-drop tested xs i x h e =
      let step : well_cases f at (Some tested) (arms_of (drop i xs)) ≡ (is_branch_variable f tested (arm_of x).0 (arm_of x).1 && (well_stmts f at (arm_of x).2 && well_cases f at (Some tested) (arms_of (drop (i + 1) xs)))) =
      rw (add-one, drop-cons xs i x, ← e) in
      step ∙ and-assoc (is_branch_variable f tested (arm_of x).0 (arm_of x).1) (well_stmts f at (arm_of x).2) (well_cases f at (Some tested) (arms_of (drop (i + 1) xs)))

  -- a branch that isn't well typed, and one that is
  pub well_cases-fails : (tested : ℕ) (xs : List TypedArm) (i : ℕ) (x : TypedArm) → i < length xs → x ≡ get_or xs i x → false ≡ (is_branch_variable f tested (arm_of x).0 (arm_of x).1 && well_stmts f at (arm_of x).2) → well_cases f at (Some tested) (arms_of (drop i xs)) ≡ false
  well_cases-fails tested xs i x h e fails =
      well_cases-drop tested xs i x h e ∙ ap (λ (b : Bool). b && well_cases f at (Some tested) (arms_of (drop (i + 1) xs))) (sym fails)

  pub well_cases-goes : (tested : ℕ) (xs : List TypedArm) (i : ℕ) (x : TypedArm) → i < length xs → x ≡ get_or xs i x → true ≡ (is_branch_variable f tested (arm_of x).0 (arm_of x).1 && well_stmts f at (arm_of x).2) → well_cases f at (Some tested) (arms_of (drop i xs)) ≡ well_cases f at (Some tested) (arms_of (drop (i + 1) xs))
  well_cases-goes tested xs i x h e goes =
      well_cases-drop tested xs i x h e ∙ ap (λ (b : Bool). b && well_cases f at (Some tested) (arms_of (drop (i + 1) xs))) (sym goes)

  pub well_branches-drop : (xs : List TypedArm) (i : ℕ) (x : TypedArm) → i < length xs → x ≡ get_or xs i x → well_branches f at (arms_of (drop i xs)) ≡ ((is_type f.rows (arm_of x).0 && well_stmts f (in_branch (arm_of x).0 at) (arm_of x).2) && well_branches f at (arms_of (drop (i + 1) xs)))
  well_branches-drop xs i x h e =
      let step : well_branches f at (arms_of (drop i xs)) ≡ (is_type f.rows (arm_of x).0 && (well_stmts f (in_branch (arm_of x).0 at) (arm_of x).2 && well_branches f at (arms_of (drop (i + 1) xs)))) =
      rw (add-one, drop-cons xs i x, ← e) in
      step ∙ and-assoc (is_type f.rows (arm_of x).0) (well_stmts f (in_branch (arm_of x).0 at) (arm_of x).2) (well_branches f at (arms_of (drop (i + 1) xs)))

pub ruleset tests = (are_tests-drop, drop-length)

pub ruleset blocks = (well_stmts-drop, well_tests-drop, well_branches-drop, drop-length)
