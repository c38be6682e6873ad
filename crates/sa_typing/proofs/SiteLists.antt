-- The calls of bound values in lists, from an index on.
use Rattle.std.proofs.Common.{◌≡◌, ℕ, ◌+◌, ◌<◌, ◌≤◌, List, ◌++◌, Option, Some, length, get_or, drop, ap, sym, ◌∙◌, add-one, drop-cons, append_assoc, ◌&&◌, Bool, true, false}
use Rattle.std.proofs.Math.Seq.{drop-length}
use Rattle.std.proofs.lemmas.List.{append-nil}
use Rattle.std.proofs.lemmas.Option.{slice_get-get_or, slice_get_past}
use Rattle.std.specs.Option.{option_map_or}
use Rattle.std.specs.Prelude.{set, slice_get}
use Rattle.sa_typed.specs.declared.expr.TypedArg.{TypedArg}
use Rattle.sa_typed.specs.declared.expr.TypedExpr.{TypedExpr}
use Rattle.sa_typed.specs.declared.stmt.TypedArm.{TypedArm}
use Rattle.sa_typed.specs.declared.stmt.TypedStmt.{TypedStmt}
use Rattle.sa_typed.specs.declared.stmt.TypedBranch.{TypedBranch}
use Rattle.sa_typed.specs.Copy.{expr_of, arg_of, stmt_of, test_of, arm_of, exprs_of, args_of, block_of, tests_of, arms_of}
use Rattle.sa_typed.proofs.Copies.{copies}
use Rattle.sa_typing.specs.declared.context.TypingContext.{TypingContext}
use Rattle.sa_typing.specs.Contexts.{Env, in_branch}
use Rattle.sa_typing.specs.Sites.{agree_with, arg_sites, args_sites, branches_sites, cases_sites, expr_sites, exprs_sites, is_known_as, stmt_sites, stmts_sites, tests_sites}

module _ (f : Env) (at : TypingContext) where
  pub exprs_sites-drop : (xs : List TypedExpr) (i : ℕ) (x : TypedExpr) → i < length xs → x ≡ get_or xs i x → exprs_sites f at (exprs_of (drop i xs)) ≡ expr_sites f at (expr_of x) ++ exprs_sites f at (exprs_of (drop (i + 1) xs))
  exprs_sites-drop xs i x h e = rw (add-one, drop-cons xs i x, ← e)

  pub args_sites-drop : (xs : List TypedArg) (i : ℕ) (x : TypedArg) → i < length xs → x ≡ get_or xs i x → args_sites f at (args_of (drop i xs)) ≡ arg_sites f at (arg_of x) ++ args_sites f at (args_of (drop (i + 1) xs))
  args_sites-drop xs i x h e = rw (add-one, drop-cons xs i x, ← e)

  pub stmts_sites-drop : (xs : List TypedStmt) (i : ℕ) (x : TypedStmt) → i < length xs → x ≡ get_or xs i x → stmts_sites f at (block_of (drop i xs)) ≡ stmt_sites f at (stmt_of x) ++ stmts_sites f at (block_of (drop (i + 1) xs))
  stmts_sites-drop xs i x h e = rw (add-one, drop-cons xs i x, ← e)

  pub tests_sites-drop : (xs : List TypedBranch) (i : ℕ) (x : TypedBranch) → i < length xs → x ≡ get_or xs i x → tests_sites f at (tests_of (drop i xs)) ≡ exprs_sites f at (test_of x).0 ++ (stmts_sites f at (test_of x).1 ++ tests_sites f at (tests_of (drop (i + 1) xs)))
  tests_sites-drop xs i x h e = rw (add-one, drop-cons xs i x, ← e)

  pub cases_sites-drop : (xs : List TypedArm) (i : ℕ) (x : TypedArm) → i < length xs → x ≡ get_or xs i x → cases_sites f at (arms_of (drop i xs)) ≡ stmts_sites f at (arm_of x).2 ++ cases_sites f at (arms_of (drop (i + 1) xs))
  cases_sites-drop xs i x h e = rw (add-one, drop-cons xs i x, ← e)

  pub branches_sites-drop : (xs : List TypedArm) (i : ℕ) (x : TypedArm) → i < length xs → x ≡ get_or xs i x → branches_sites f at (arms_of (drop i xs)) ≡ stmts_sites f (in_branch (arm_of x).0 at) (arm_of x).2 ++ branches_sites f at (arms_of (drop (i + 1) xs))
  branches_sites-drop xs i x h e = rw (add-one, drop-cons xs i x, ← e)

-- one more call, which is at no site, of another type than is known of its site, or of this one
module _ (known : List (Option ℕ)) (xs : List (ℕ × ℕ)) (i : ℕ) (other : ℕ × ℕ) where
  agree_with-drop : i < length xs → agree_with known (drop i xs) ≡ (option_map_or (is_known_as (get_or xs i other).1) (slice_get known (get_or xs i other).0) false && agree_with (set known (get_or xs i other).0 (Some (get_or xs i other).1)) (drop (i + 1) xs))
  agree_with-drop h = rw (add-one, drop-cons xs i other)

  pub agree_with-outside : i < length xs → length known ≤ (get_or xs i other).0 → agree_with known (drop i xs) ≡ false
  agree_with-outside h outside =
      agree_with-drop h
      ∙ ap (λ (o : Option (Option ℕ)). option_map_or (is_known_as (get_or xs i other).1) o false && agree_with (set known (get_or xs i other).0 (Some (get_or xs i other).1)) (drop (i + 1) xs)) (slice_get_past known (get_or xs i other).0 outside)

  agree_with-at : (r d : Option ℕ) → i < length xs → (get_or xs i other).0 < length known → r ≡ get_or known (get_or xs i other).0 d → agree_with known (drop i xs) ≡ (is_known_as (get_or xs i other).1 r && agree_with (set known (get_or xs i other).0 (Some (get_or xs i other).1)) (drop (i + 1) xs))
  agree_with-at r d h within is =
      agree_with-drop h
      ∙ ap (λ (o : Option (Option ℕ)). option_map_or (is_known_as (get_or xs i other).1) o false && agree_with (set known (get_or xs i other).0 (Some (get_or xs i other).1)) (drop (i + 1) xs)) (slice_get-get_or known (get_or xs i other).0 d within ∙ ap (λ (o : Option ℕ). Some o) (sym is))

  pub agree_with-another : (r d : Option ℕ) → i < length xs → (get_or xs i other).0 < length known → r ≡ get_or known (get_or xs i other).0 d → false ≡ is_known_as (get_or xs i other).1 r → agree_with known (drop i xs) ≡ false
  agree_with-another r d h within is fails =
      agree_with-at r d h within is
      ∙ ap (λ (b : Bool). b && agree_with (set known (get_or xs i other).0 (Some (get_or xs i other).1)) (drop (i + 1) xs)) (sym fails)

  pub agree_with-same : (r d : Option ℕ) → i < length xs → (get_or xs i other).0 < length known → r ≡ get_or known (get_or xs i other).0 d → true ≡ is_known_as (get_or xs i other).1 r → agree_with known (drop i xs) ≡ agree_with (set known (get_or xs i other).0 (Some (get_or xs i other).1)) (drop (i + 1) xs)
  agree_with-same r d h within is goes =
      agree_with-at r d h within is
      ∙ ap (λ (b : Bool). b && agree_with (set known (get_or xs i other).0 (Some (get_or xs i other).1)) (drop (i + 1) xs)) (sym goes)

pub ruleset parts = (copies, append_assoc, append-nil)

pub ruleset lists = (exprs_sites-drop, args_sites-drop, stmts_sites-drop, tests_sites-drop, cases_sites-drop, branches_sites-drop, drop-length, append_assoc, append-nil)

pub ruleset known = (drop-length)
