-- The first check that isn't quiet, from an index on.
use Rattle.std.proofs.Common.{◌≡◌, ℕ, ◌+◌, ◌<◌, true, false, true≢false, List, [], ◌∷◌, Option, None, Some, length, get_or, drop, add-one, drop-cons, refl, sym, ap, ◌∙◌, arith}
use Rattle.std.proofs.Math.Seq.{drop-length}
use Rattle.std.specs.Option.{is_some, option_or}
use Rattle.sa_ast.specs.declared.pos.Pos.{Pos}
use Rattle.sa_typed.specs.declared.expr.TypedExpr.{TypedExpr}
use Rattle.sa_typed.specs.declared.feature.TypedFeature.{TypedFeature}
use Rattle.sa_typed.specs.declared.stmt.TypedArm.{TypedArm}
use Rattle.sa_typed.specs.declared.stmt.TypedStmt.{TypedStmt}
use Rattle.sa_typed.specs.declared.stmt.TypedBranch.{TypedBranch}
use Rattle.sa_typed.specs.Copy.{expr_of, stmt_of, test_of, arm_of, exprs_of, block_of, tests_of, arms_of}
use Rattle.sa_typed.specs.Tree.{Exprs, Stmts}
use Rattle.sa_typed.specs.declared.stmt.TypedStmt.TheVariants as s
use Rattle.sa_typed.proofs.Copies.{test_of-parts, arm_of-parts, protect_of-None, protect_of-Some}
use Rattle.sa_contracts.specs.AskedChecks.{Asked}
use Rattle.sa_contracts.specs.NotQuiet.{FeatureChecks, asserted_at, condition_of, loud, loud_exprs, loud_tests, first_in, first_in_block, first_in_tests, first_in_arms, first_in_feature, first_in_features}

pub loud_exprs-drop : (check : Option Pos) (xs : List TypedExpr) (i : ℕ) (x : TypedExpr) → i < length xs → x ≡ get_or xs i x → loud_exprs check (exprs_of (drop i xs)) ≡ option_or (loud check (expr_of x)) (loud_exprs check (exprs_of (drop (i + 1) xs)))
loud_exprs-drop check xs i x h e = rw (add-one, drop-cons xs i x, ← e)

pub loud_tests-drop : (check : Option Pos) (xs : List TypedBranch) (i : ℕ) (x : TypedBranch) → i < length xs → x ≡ get_or xs i x → loud_tests check (tests_of (drop i xs)) ≡ option_or (loud_exprs check (exprs_of x.tests)) (loud_tests check (tests_of (drop (i + 1) xs)))
loud_tests-drop check xs i x h e =
    let step : loud_tests check (tests_of (drop i xs)) ≡ option_or (loud_exprs check (test_of x).0) (loud_tests check (tests_of (drop (i + 1) xs))) =
    rw (add-one, drop-cons xs i x, ← e) in
    step ∙ ap (λ (t : Exprs × Stmts). option_or (loud_exprs check t.0) (loud_tests check (tests_of (drop (i + 1) xs)))) (test_of-parts x)

-- the first of two options that is there
or-found : (found more : Option Pos) → is_some found ≡ true → option_or found more ≡ found
or-found None more is = absurd (true≢false (sym is))
or-found (Some pos) more is = refl

or-missing : (found more : Option Pos) → is_some found ≡ false → option_or found more ≡ more
or-missing None more is = refl
or-missing (Some pos) more is = absurd (true≢false is)

-- a test of which one expression is loud, and one of which none is
pub tests-found : (check : Option Pos) (xs : List TypedBranch) (i : ℕ) (x : TypedBranch) (inside : List TypedExpr) (found : Option Pos) → i < length xs → x ≡ get_or xs i x → inside ≡ x.tests → found ≡ loud_exprs check (exprs_of inside) → is_some found ≡ true → loud_tests check (tests_of (drop i xs)) ≡ found
tests-found check xs i x inside found h e same is some =
    loud_tests-drop check xs i x h e
    ∙ ap (λ (o : Option Pos). option_or o (loud_tests check (tests_of (drop (i + 1) xs)))) (sym (is ∙ ap (λ (es : List TypedExpr). loud_exprs check (exprs_of es)) same))
    ∙ or-found found (loud_tests check (tests_of (drop (i + 1) xs))) some

pub tests-passed : (check : Option Pos) (xs : List TypedBranch) (i : ℕ) (x : TypedBranch) (inside : List TypedExpr) (found : Option Pos) → i < length xs → x ≡ get_or xs i x → inside ≡ x.tests → found ≡ loud_exprs check (exprs_of inside) → is_some found ≡ false → loud_tests check (tests_of (drop i xs)) ≡ loud_tests check (tests_of (drop (i + 1) xs))
tests-passed check xs i x inside found h e same is missing =
    loud_tests-drop check xs i x h e
    ∙ ap (λ (o : Option Pos). option_or o (loud_tests check (tests_of (drop (i + 1) xs)))) (sym (is ∙ ap (λ (es : List TypedExpr). loud_exprs check (exprs_of es)) same))
    ∙ or-missing found (loud_tests check (tests_of (drop (i + 1) xs))) missing

module _ (w : FeatureChecks) where
  pub first_in_block-drop : (xs : List TypedStmt) (i : ℕ) (x : TypedStmt) → i < length xs → x ≡ get_or xs i x → first_in_block w (block_of (drop i xs)) ≡ option_or (first_in w (stmt_of x)) (first_in_block w (block_of (drop (i + 1) xs)))
  first_in_block-drop xs i x h e = rw (add-one, drop-cons xs i x, ← e)

  pub first_in_tests-drop : (xs : List TypedBranch) (i : ℕ) (x : TypedBranch) → i < length xs → x ≡ get_or xs i x → first_in_tests w (tests_of (drop i xs)) ≡ option_or (first_in_block w (block_of x.body)) (first_in_tests w (tests_of (drop (i + 1) xs)))
  first_in_tests-drop xs i x h e =
      let step : first_in_tests w (tests_of (drop i xs)) ≡ option_or (first_in_block w (test_of x).1) (first_in_tests w (tests_of (drop (i + 1) xs))) =
      rw (add-one, drop-cons xs i x, ← e) in
      step ∙ ap (λ (t : Exprs × Stmts). option_or (first_in_block w t.1) (first_in_tests w (tests_of (drop (i + 1) xs)))) (test_of-parts x)

  pub first_in_arms-drop : (xs : List TypedArm) (i : ℕ) (x : TypedArm) → i < length xs → x ≡ get_or xs i x → first_in_arms w (arms_of (drop i xs)) ≡ option_or (first_in_block w (block_of x.body)) (first_in_arms w (arms_of (drop (i + 1) xs)))
  first_in_arms-drop xs i x h e =
      let step : first_in_arms w (arms_of (drop i xs)) ≡ option_or (first_in_block w (arm_of x).2) (first_in_arms w (arms_of (drop (i + 1) xs))) =
      rw (add-one, drop-cons xs i x, ← e) in
      step ∙ ap (λ (a : ℕ × ℕ × Stmts). option_or (first_in_block w a.2) (first_in_arms w (arms_of (drop (i + 1) xs)))) (arm_of-parts x)

  -- a test in whose statements a check is loud, and a branch
  pub test-found : (xs : List TypedBranch) (i : ℕ) (x : TypedBranch) (inside : List TypedStmt) (found : Option Pos) → i < length xs → x ≡ get_or xs i x → inside ≡ x.body → found ≡ first_in_block w (block_of inside) → is_some found ≡ true → first_in_tests w (tests_of (drop i xs)) ≡ found
  test-found xs i x inside found h e same is some =
      first_in_tests-drop xs i x h e
      ∙ ap (λ (o : Option Pos). option_or o (first_in_tests w (tests_of (drop (i + 1) xs)))) (sym (is ∙ ap (λ (body : List TypedStmt). first_in_block w (block_of body)) same))
      ∙ or-found found (first_in_tests w (tests_of (drop (i + 1) xs))) some

  pub arm-found : (xs : List TypedArm) (i : ℕ) (x : TypedArm) (inside : List TypedStmt) (found : Option Pos) → i < length xs → x ≡ get_or xs i x → inside ≡ x.body → found ≡ first_in_block w (block_of inside) → is_some found ≡ true → first_in_arms w (arms_of (drop i xs)) ≡ found
  arm-found xs i x inside found h e same is some =
      first_in_arms-drop xs i x h e
      ∙ ap (λ (o : Option Pos). option_or o (first_in_arms w (arms_of (drop (i + 1) xs)))) (sym (is ∙ ap (λ (body : List TypedStmt). first_in_block w (block_of body)) same))
      ∙ or-found found (first_in_arms w (arms_of (drop (i + 1) xs))) some

  -- a protect, with the statements of its `else` or without
  pub protect-None : (x : TypedStmt) (body : List TypedStmt) (arms : List TypedArm) (other : Option (List TypedStmt)) → x ≡ s.Protect body arms other → other ≡ None → first_in w (stmt_of x) ≡ option_or (first_in_block w (block_of body)) (first_in_arms w (arms_of arms))
  protect-None x body arms other is is_other = ap (first_in w) (protect_of-None x body arms other is is_other)

  pub protect-Some : (x : TypedStmt) (body : List TypedStmt) (arms : List TypedArm) (other : Option (List TypedStmt)) (inside : List TypedStmt) → x ≡ s.Protect body arms other → other ≡ Some inside → first_in w (stmt_of x) ≡ option_or (option_or (first_in_block w (block_of body)) (first_in_arms w (arms_of arms))) (first_in_block w (block_of inside))
  protect-Some x body arms other inside is is_other = ap (first_in w) (protect_of-Some x body arms other inside is is_other)

  pub sole : (xs : List TypedStmt) (x : TypedStmt) → length xs ≡ 1 → x ≡ get_or xs 0 x → condition_of w (block_of xs) ≡ asserted_at w (stmt_of x)
  sole [] x one is = absurd (omega arith)
  sole (y ∷ []) x one is = ap (λ z. asserted_at w (stmt_of z)) (sym is)
  sole (y ∷ z ∷ more) x one is = absurd (omega arith)

  pub not_sole : (xs : List TypedStmt) → (length xs ≡ 1 → ⊥) → condition_of w (block_of xs) ≡ None
  not_sole [] other = refl
  not_sole (y ∷ []) other = absurd (other refl)
  not_sole (y ∷ z ∷ more) other = refl

pub first_in_features-drop : (a : Asked) (xs : List TypedFeature) (i : ℕ) (x : TypedFeature) → i < length xs → x ≡ get_or xs i x → first_in_features a (drop i xs) ≡ option_or (first_in_feature a x) (first_in_features a (drop (i + 1) xs))
first_in_features-drop a xs i x h e = rw (add-one, drop-cons xs i x, ← e)

pub ruleset exprs = (loud_exprs-drop, drop-length)

pub ruleset tests = (drop-length)

pub ruleset firsts = (first_in_block-drop, first_in_tests-drop, first_in_arms-drop, drop-length)

pub ruleset features = (first_in_features-drop, drop-length)

pub ruleset soles = (sole, not_sole)
