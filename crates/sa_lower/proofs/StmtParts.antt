-- What the parts of well-typed statements are.
use Rattle.std.proofs.Common.{◌≡◌, ◌<◌, ◌&&◌, ◌∙◌, ℕ, zero, suc, true, false, true≢false, List, [], ◌∷◌, Option, None, Some, length, drop, slice_get, get_or, arith, is_some, refl, sym, ap, subst}
use Rattle.std.specs.Prelude.{All, IfSome, IsTrue}
use Rattle.std.specs.Option.{option_map, option_map_or}
use Rattle.std.proofs.lemmas.List.Elements.{All-cons, All-drop, All-nil}
use Rattle.std.proofs.lemmas.Option.{slice_get_within}
use Rattle.sa_ast.specs.declared.pos.Pos.{Pos}
use Rattle.sa_typed.specs.declared.expr.TypedExpr.{TypedExpr}
use Rattle.sa_typed.specs.declared.stmt.TypedArm.{TypedArm}
use Rattle.sa_typed.specs.declared.stmt.LoopExit.{LoopExit}
use Rattle.sa_typed.specs.declared.stmt.LoopExit.TheVariants.{While, Until}
use Rattle.sa_typed.specs.declared.stmt.TypedStmt.{TypedStmt}
use Rattle.sa_typed.specs.declared.stmt.TypedStmt.TheVariants as s
use Rattle.sa_typed.specs.declared.stmt.TypedBranch.{TypedBranch}
use Rattle.sa_typed.specs.Copy.{arm_of, arms_of, block_of, exit_of, expr_of, exprs_of, option_expr_of, stmt_of, test_of, tests_of, else_of}
use Rattle.sa_typed.specs.Tree as tree
use Rattle.sa_typed.specs.Tree.{Exprs, Stmt, Stmts}
use Rattle.sa_typed.proofs.Copies.{arm_of-parts, stmt_of-Do, stmt_of-If, stmt_of-Leave, stmt_of-Let, stmt_of-Loop, stmt_of-Protect, stmt_of-Raise, stmt_of-Return, stmt_of-TypeCase, stmt_of-Yield, test_of-parts}
use Rattle.sa_lower.specs.TypedStatements.{AreWellTypedStmts, IsArm, IsBranch, IsEntry, IsWellTypedExit, IsWellTypedStmt}
use Rattle.sa_cfg_builder.specs.declared.context.LoweringContext.{LoweringContext}
use Rattle.sa_cfg_builder.specs.declared.context.LoopExits.{LoopExits}
use Rattle.sa_cfg_builder.specs.Contexts.{context_of}
use Rattle.sa_lower_expr.proofs.Values.{first_of, going_has, second_of, test_has, type_known, value_typed}
use Rattle.sa_lower_expr.specs.Typed.{HasValue, IsTyped, gives_value}
use Rattle.sa_typing.specs.declared.context.TypingContext.{TypingContext}
use Rattle.sa_typing.specs.Builtins.{ob_type}
use Rattle.sa_typing.specs.Expressions.{is_assignable_expr}
use Rattle.sa_typing.specs.Contexts.{Env, guarded, in_branch, in_loop, may_leave}
use Rattle.sa_typing.specs.Rows.{is_type}
use Rattle.sa_typing.specs.Statements.{are_tests, gives_as, is_branch_variable, well_branches, well_cases, well_else, well_exit, well_stmt, well_stmts, well_tests}

-- an element of a list
pub item : {X : Type 0} (P : X → Type 0) (list : List X) (i : ℕ) (x : X) → i < length list → x ≡ get_or list i x → All P list → P x
item P list i x within is h = subst P (sym is) (h i x within)

-- what comes before others
pub front : {X : Type 0} (list : List X) (n : ℕ) (x : X) (more : List X) → drop n list ≡ x ∷ more → (n < length list) × (x ≡ get_or list n x)
front [] zero x more e = let f : [] ≡ x ∷ more = e in cc
front [] (suc n) x more e = let f : [] ≡ x ∷ more = e in cc
front (y ∷ list) zero x more e = let f : y ∷ list ≡ x ∷ more = e in (omega arith, cc)
front (y ∷ list) (suc n) x more e = let rest = front list n x more e in (omega (arith, rest.0), rest.1)

-- what comes after the first
pub following : {X : Type 0} (P : X → Type 0) (list : List X) (x : X) (more : List X) → list ≡ x ∷ more → All P list → All P more
following P list x more e h = All-drop P 1 (x ∷ more) (subst (All P) e h)

module _ (f : Env) (at : TypingContext) where
  -- ---- expressions

  pub gives : (e : TypedExpr) → HasValue f at e → gives_value f at e ≡ true
  unfolding HasValue
  gives e h = h

  -- ---- tests, and results

  tests_values : (list : List TypedExpr) → are_tests f at (exprs_of list) ≡ true → All (HasValue f at) list
  tests_values [] h = All-nil (HasValue f at)
  tests_values (e ∷ more) h =
      All-cons (HasValue f at) e more (test_has f at e (first_of _ _ h)) (tests_values more (second_of _ _ h))

  given_value : (value : Option TypedExpr) (ty : Option ℕ) → gives_as f at (option_expr_of value) ty ≡ true → IfSome value (HasValue f at)
  given_value None ty h = tt
  given_value (Some e) None h = absurd (true≢false (sym h))
  given_value (Some e) (Some ty) h = going_has f at ty e h

  -- ---- lists of statements

  all_typed : (list : List TypedStmt) → well_stmts f at (block_of list) ≡ true → AreWellTypedStmts f at list
  unfolding IsWellTypedStmt
  all_typed [] h = All-nil (IsWellTypedStmt f at)
  all_typed (a ∷ more) h = All-cons (IsWellTypedStmt f at) a more (first_of _ _ h) (all_typed more (second_of _ _ h))

  entry : (t : TypedBranch) → are_tests f at (test_of t).0 ≡ true → well_stmts f at (test_of t).1 ≡ true → IsEntry f at t
  entry t h g = record {
    tests = tests_values t.tests (subst (λ (x : Exprs × Stmts). are_tests f at x.0 ≡ true) (test_of-parts t) h);
    body = all_typed t.body (subst (λ (x : Exprs × Stmts). well_stmts f at x.1 ≡ true) (test_of-parts t) g);
  }

  entries : (list : List TypedBranch) → well_tests f at (tests_of list) ≡ true → All (IsEntry f at) list
  entries [] h = All-nil (IsEntry f at)
  entries (t ∷ more) h =
      let rest = second_of (are_tests f at (test_of t).0) _ h in
      All-cons (IsEntry f at) t more (entry t (first_of _ _ h) (first_of _ _ rest)) (entries more (second_of _ _ rest))

variable_there : (xs : List ℕ) (var : ℕ) (found : Option ℕ) → slice_get xs var ≡ found → is_some found ≡ true → var < length xs
variable_there xs var None e h = absurd (true≢false (sym h))
variable_there xs var (Some ty) e h = slice_get_within xs var ty e

module _ (f : Env) (at : TypingContext) where
  -- ---- arms and branches

  arm : (a : TypedArm) → well_stmts f at (arm_of a).2 ≡ true → IsArm f at a
  arm a h = record { body = all_typed f at a.body (subst (λ (x : ℕ × ℕ × Stmts). well_stmts f at x.2 ≡ true) (arm_of-parts a) h) }

  arms : (tested : Option ℕ) (list : List TypedArm) → well_cases f at tested (arms_of list) ≡ true → All (IsArm f at) list
  arms None list h = absurd (true≢false (sym h))
  arms (Some ty) [] h = All-nil (IsArm f at)
  arms (Some ty) (a ∷ more) h =
      let rest = second_of (is_branch_variable f ty (arm_of a).0 (arm_of a).1) _ h in
      All-cons (IsArm f at) a more (arm a (first_of _ _ rest)) (arms (Some ty) more (second_of _ _ rest))

  tested : (found : Option ℕ) (list : tree.Arms) → well_cases f at found list ≡ true → is_some found ≡ true
  tested None list h = h
  tested (Some ty) list h = refl

  branch : (a : TypedArm) → well_stmts f (in_branch (arm_of a).0 at) (arm_of a).2 ≡ true → IsBranch f at a
  branch a h = record {
    body = all_typed f (in_branch a.ty at) a.body (subst (λ (x : ℕ × ℕ × Stmts). well_stmts f (in_branch x.0 at) x.2 ≡ true) (arm_of-parts a) h);
  }

  branches : (list : List TypedArm) → well_branches f at (arms_of list) ≡ true → All (IsBranch f at) list
  branches [] h = All-nil (IsBranch f at)
  branches (a ∷ more) h =
      let rest = second_of (is_type f.rows (arm_of a).0) _ h in
      All-cons (IsBranch f at) a more (branch a (first_of _ _ rest)) (branches more (second_of _ _ rest))

  pub arm_stmts : (a : TypedArm) (given : List TypedStmt) → given ≡ a.body → IsArm f at a → AreWellTypedStmts f at given
  arm_stmts a given same h = subst (λ (l : List TypedStmt). AreWellTypedStmts f at l) (sym same) h.body

  -- ---- what leaves a loop

  pub while_value : (exit : LoopExit) (test : TypedExpr) → exit ≡ While test → IsWellTypedExit f at exit → HasValue f at test
  unfolding IsWellTypedExit
  while_value exit test is h =
      test_has f at test (second_of (may_leave at) _ (subst (λ (e : LoopExit). (may_leave at && well_exit f at (exit_of e)) ≡ true) is h))

  pub until_value : (exit : LoopExit) (test : TypedExpr) → exit ≡ Until test → IsWellTypedExit f at exit → HasValue f at test
  unfolding IsWellTypedExit
  until_value exit test is h =
      test_has f at test (second_of (may_leave at) _ (subst (λ (e : LoopExit). (may_leave at && well_exit f at (exit_of e)) ≡ true) is h))

  -- ---- statements, by their forms

  form : (x y : TypedStmt) (z : Stmt) → x ≡ y → stmt_of y ≡ z → IsWellTypedStmt f at x → well_stmt f at z ≡ true
  unfolding IsWellTypedStmt
  form x y z is of h = subst (λ (a : Stmt). well_stmt f at a ≡ true) (ap stmt_of is ∙ of) h

  pub let_value : (x : TypedStmt) (var : ℕ) (e : TypedExpr) → x ≡ s.Assign var e → IsWellTypedStmt f at x → HasValue f at e
  let_value x var e is h = fitting (slice_get f.vars var) (form x (s.Assign var e) _ is (stmt_of-Let var e) h)
    where
      fitting : (found : Option ℕ) → option_map_or (λ ty. is_assignable_expr f at ty (expr_of e)) found false ≡ true → HasValue f at e
      fitting None g = absurd (true≢false (sym g))
      fitting (Some ty) g = going_has f at ty e g

  pub do_typed : (x : TypedStmt) (e : TypedExpr) → x ≡ s.ExprStmt e → IsWellTypedStmt f at x → IsTyped f at e
  do_typed x e is h = type_known f at e (form x (s.ExprStmt e) _ is (stmt_of-Do e) h)

  pub if_entries : (x : TypedStmt) (list : List TypedBranch) (other : List TypedStmt) (given : List TypedBranch) → x ≡ s.If list other → given ≡ list → IsWellTypedStmt f at x → All (IsEntry f at) given
  if_entries x list other given is same h =
      subst (λ (l : List TypedBranch). All (IsEntry f at) l) (sym same) (entries f at list (first_of _ _ (form x (s.If list other) _ is (stmt_of-If list other) h)))

  pub if_other : (x : TypedStmt) (list : List TypedBranch) (other given : List TypedStmt) → x ≡ s.If list other → given ≡ other → IsWellTypedStmt f at x → AreWellTypedStmts f at given
  if_other x list other given is same h =
      subst (λ (l : List TypedStmt). AreWellTypedStmts f at l) (sym same) (all_typed f at other (second_of _ _ (form x (s.If list other) _ is (stmt_of-If list other) h)))

  pub loop_body : (x : TypedStmt) (number : ℕ) (body given : List TypedStmt) → x ≡ s.Loop number body → given ≡ body → IsWellTypedStmt f at x → AreWellTypedStmts f (in_loop number at) given
  loop_body x number body given is same h =
      subst (λ (l : List TypedStmt). AreWellTypedStmts f (in_loop number at) l) (sym same) (all_typed f (in_loop number at) body (second_of _ _ (form x (s.Loop number body) _ is (stmt_of-Loop number body) h)))

  pub leave_exit : (x : TypedStmt) (exit : LoopExit) → x ≡ s.ExitLoop exit → IsWellTypedStmt f at x → IsWellTypedExit f at exit
  unfolding IsWellTypedExit
  leave_exit x exit is h = form x (s.ExitLoop exit) _ is (stmt_of-Leave exit) h

  pub typecase_variable : (x : TypedStmt) (var : ℕ) (list : List TypedArm) (other : Option (List TypedStmt)) (pos : Pos) → x ≡ s.TypeCase var list other pos → IsWellTypedStmt f at x → var < length f.vars
  typecase_variable x var list other pos is h =
      variable_there f.vars var (slice_get f.vars var) refl (tested (slice_get f.vars var) (arms_of list) (first_of _ _ (form x (s.TypeCase var list other pos) _ is (stmt_of-TypeCase var list other pos) h)))

  pub typecase_arms : (x : TypedStmt) (var : ℕ) (list : List TypedArm) (other : Option (List TypedStmt)) (pos : Pos) (given : List TypedArm) → x ≡ s.TypeCase var list other pos → given ≡ list → IsWellTypedStmt f at x → All (IsArm f at) given
  typecase_arms x var list other pos given is same h =
      subst (λ (l : List TypedArm). All (IsArm f at) l) (sym same) (arms (slice_get f.vars var) list (first_of _ _ (form x (s.TypeCase var list other pos) _ is (stmt_of-TypeCase var list other pos) h)))

  pub typecase_other : (x : TypedStmt) (var : ℕ) (list : List TypedArm) (other : Option (List TypedStmt)) (pos : Pos) (inside given : List TypedStmt) → x ≡ s.TypeCase var list other pos → other ≡ Some inside → given ≡ inside → IsWellTypedStmt f at x → AreWellTypedStmts f at given
  typecase_other x var list other pos inside given is is_other same h =
      subst (λ (l : List TypedStmt). AreWellTypedStmts f at l) (sym same) (all_typed f at inside (subst (λ (o : Option (List TypedStmt)). well_else f at (else_of o) ≡ true) is_other
      (second_of _ _ (form x (s.TypeCase var list other pos) _ is (stmt_of-TypeCase var list other pos) h))))

  pub return_value : (x : TypedStmt) (value : Option TypedExpr) → x ≡ s.Return value → IsWellTypedStmt f at x → IfSome value (HasValue f at)
  return_value x value is h = given_value f at value f.gives (second_of _ _ (form x (s.Return value) _ is (stmt_of-Return value) h))

  pub yield_value : (x : TypedStmt) (value : Option TypedExpr) → x ≡ s.Yield value → IsWellTypedStmt f at x → IfSome value (HasValue f at)
  yield_value x value is h = given_value f at value f.gives (second_of _ _ (second_of _ _ (form x (s.Yield value) _ is (stmt_of-Yield value) h)))

  pub raise_value : (x : TypedStmt) (e : TypedExpr) (pos : Pos) → x ≡ s.Raise e pos → IsWellTypedStmt f at x → HasValue f at e
  raise_value x e pos is h = going_has f at ob_type e (form x (s.Raise e pos) _ is (stmt_of-Raise e pos) h)

module _ (f : Env) (at : TypingContext) (x : TypedStmt) (body : List TypedStmt) (list : List TypedArm) (other : Option (List TypedStmt)) (is : x ≡ s.Protect body list other) (h : IsWellTypedStmt f at x) where
  -- ---- the parts of a protect

  all : well_stmt f at (tree.Protect (block_of body) (arms_of list) (else_of other)) ≡ true
  all = form f at x (s.Protect body list other) _ is (stmt_of-Protect body list other) h

  pub protect_body : (given : List TypedStmt) → given ≡ body → AreWellTypedStmts f (guarded at) given
  protect_body given same = subst (λ (l : List TypedStmt). AreWellTypedStmts f (guarded at) l) (sym same) (all_typed f (guarded at) body (first_of _ _ all))

  pub protect_branches : (given : List TypedArm) → given ≡ list → All (IsBranch f (guarded at)) given
  protect_branches given same =
      subst (λ (l : List TypedArm). All (IsBranch f (guarded at)) l) (sym same) (branches f (guarded at) list (first_of _ _ (second_of _ _ all)))

  pub protect_other : (inside given : List TypedStmt) → other ≡ Some inside → given ≡ inside → AreWellTypedStmts f (in_branch ob_type (guarded at)) given
  protect_other inside given is_other same =
      subst (λ (l : List TypedStmt). AreWellTypedStmts f (in_branch ob_type (guarded at)) l) (sym same) (all_typed f (in_branch ob_type (guarded at)) inside
      (subst (λ (o : Option (List TypedStmt)). well_else f (in_branch ob_type (guarded at)) (else_of o) ≡ true) is_other (second_of _ _ (second_of _ _ all))))

-- ---- contexts

-- a statement that leaves a loop has one around it
pub loop_around : (f : Env) (inside : LoweringContext) (exit : LoopExit) → IsWellTypedExit f (context_of inside) exit → is_some inside.innermost ≡ true
unfolding IsWellTypedExit
loop_around f inside exit h = there inside.innermost (first_of _ _ (first_of _ _ h))
  where
    there : (ways : Option LoopExits) → is_some (option_map (λ l. l.number) ways) ≡ true → is_some ways ≡ true
    there None h = h
    there (Some ways) h = refl

-- the statements of a feature are outside any loop and protect
pub body_typed : (f : Env) (at other : TypingContext) (list : List TypedStmt) → at ≡ other → IsTrue (well_stmts f other (block_of list)) → AreWellTypedStmts f at list
body_typed f at other list e h = subst (λ (p : TypingContext). AreWellTypedStmts f p list) (sym e) (all_typed f other list h)

pub ruleset parts = (gives, value_typed, while_value, until_value, let_value, do_typed, leave_exit, return_value, yield_value, raise_value, loop_around, body_typed)
