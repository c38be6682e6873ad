-- The sites at which bound iters are called, each with the bound type of its receiver. An instance stays at its site from call to call, so
-- that all calls at a site have to be of one type. (A site has several calls where one initialiser is written for several names.)
use Rattle.std.specs.Prelude.{ℕ, Bool, true, false, ◌&&◌, ◌==◌, List, [], ◌∷◌, ◌++◌, replicate, set, slice_get, Option, Some, None}
use Rattle.std.specs.Option.{option_map_or}
use Rattle.sa_typed.specs.declared.feature.TypedCallee.{TypedCallee}
use Rattle.sa_typed.specs.declared.feature.TypedCallee.TheVariants as called
use Rattle.sa_typed.specs.Tree as tree
use Rattle.sa_typed.specs.Tree.{Expr, IsVoid, NewArray, Array, Call, IterCall, Bind, Reversed, And, Or, Box}
use Rattle.sa_typed.specs.Tree.{Exprs, no_exprs, expr, Arg, Args, no_args, arg, Exit, Break, While, Until}
use Rattle.sa_typed.specs.Tree.{Stmt, Assign, ExprStmt, If, Loop, ExitLoop, TypeCase, Protect, Return, Yield, Raise}
use Rattle.sa_typed.specs.Tree.{Stmts, no_stmts, stmt, Tests, no_tests, branch, Arms, no_arms, arm, Else, no_else, otherwise}
use Rattle.sa_typing.specs.declared.expr_type.ExprType.{ExprType}
use Rattle.sa_typing.specs.declared.expr_type.ExprType.TheVariants.{Of}
use Rattle.sa_typing.specs.declared.context.TypingContext.{TypingContext}
use Rattle.sa_typing.specs.Builtins.{ob_type}
use Rattle.sa_typing.specs.Contexts.{Env, guarded, in_branch, in_loop}
use Rattle.sa_typing.specs.Expressions.{type_of_expr}

-- ---- a call at a site

abbrev pub is_bound_call : TypedCallee → Bool
is_bound_call called.Bound = true
is_bound_call _ = false

abbrev pub calls_bound : Env → ℕ → Bool
calls_bound f site = option_map_or (λ s. is_bound_call s.called) (slice_get f.sites site) false

-- the site with the type, where a bound value is called
abbrev pub with_type : ℕ → Bool → Option ExprType → List (ℕ × ℕ)
with_type site true (Some (Of ty)) = (site, ty) ∷ []
with_type site _ given = []

-- ---- those of expressions and statements, in the order of the fields

module _ (f : Env) where
  abbrev mutual
    pub expr_sites : TypingContext → Expr → List (ℕ × ℕ)
    expr_sites at (IsVoid of) = expr_sites at of
    expr_sites at (NewArray ty size pos) = expr_sites at size
    expr_sites at (Array ty elements pos) = exprs_sites at elements
    expr_sites at (Call called on arguments pos) = expr_sites at on ++ args_sites at arguments
    expr_sites at (IterCall site on arguments pos) =
        with_type site (calls_bound f site) (type_of_expr f at on) ++ (expr_sites at on ++ args_sites at arguments)
    expr_sites at (Bind called on arguments ty pos) = expr_sites at on ++ args_sites at arguments
    expr_sites at (Reversed target first second pos) = expr_sites at first ++ expr_sites at second
    expr_sites at (And first second) = expr_sites at first ++ expr_sites at second
    expr_sites at (Or first second) = expr_sites at first ++ expr_sites at second
    expr_sites at (Box ty of pos) = expr_sites at of
    expr_sites at _ = []

    pub exprs_sites : TypingContext → Exprs → List (ℕ × ℕ)
    exprs_sites at no_exprs = []
    exprs_sites at (expr e more) = expr_sites at e ++ exprs_sites at more

    pub arg_sites : TypingContext → Arg → List (ℕ × ℕ)
    arg_sites at (tree.Value mode value) = expr_sites at value
    arg_sites at _ = []

    pub args_sites : TypingContext → Args → List (ℕ × ℕ)
    args_sites at no_args = []
    args_sites at (arg a more) = arg_sites at a ++ args_sites at more

  abbrev pub option_expr_sites : TypingContext → Option Expr → List (ℕ × ℕ)
  option_expr_sites at e = option_map_or (expr_sites at) e []

  abbrev pub exit_sites : TypingContext → Exit → List (ℕ × ℕ)
  exit_sites at Break = []
  exit_sites at (While test) = expr_sites at test
  exit_sites at (Until test) = expr_sites at test

  abbrev mutual
    pub stmt_sites : TypingContext → Stmt → List (ℕ × ℕ)
    stmt_sites at (Assign var value) = expr_sites at value
    stmt_sites at (ExprStmt value) = expr_sites at value
    stmt_sites at (If tests other) = tests_sites at tests ++ stmts_sites at other
    stmt_sites at (Loop number body) = stmts_sites (in_loop number at) body
    stmt_sites at (ExitLoop exit) = exit_sites at exit
    stmt_sites at (TypeCase var arms other pos) = cases_sites at arms ++ else_sites at other
    stmt_sites at (Protect body arms other) =
        stmts_sites (guarded at) body
        ++ (branches_sites (guarded at) arms ++ else_sites (in_branch ob_type (guarded at)) other)
    stmt_sites at (Return value) = option_expr_sites at value
    stmt_sites at (Yield value) = option_expr_sites at value
    stmt_sites at (Raise value pos) = expr_sites at value
    stmt_sites at _ = []

    pub stmts_sites : TypingContext → Stmts → List (ℕ × ℕ)
    stmts_sites at no_stmts = []
    stmts_sites at (stmt s more) = stmt_sites at s ++ stmts_sites at more

    pub tests_sites : TypingContext → Tests → List (ℕ × ℕ)
    tests_sites at no_tests = []
    tests_sites at (branch tests body more) = exprs_sites at tests ++ (stmts_sites at body ++ tests_sites at more)

    pub cases_sites : TypingContext → Arms → List (ℕ × ℕ)
    cases_sites at no_arms = []
    cases_sites at (arm ty var body more) = stmts_sites at body ++ cases_sites at more

    pub branches_sites : TypingContext → Arms → List (ℕ × ℕ)
    branches_sites at no_arms = []
    branches_sites at (arm ty var body more) = stmts_sites (in_branch ty at) body ++ branches_sites at more

    pub else_sites : TypingContext → Else → List (ℕ × ℕ)
    else_sites at no_else = []
    else_sites at (otherwise body) = stmts_sites at body

-- ---- one type at each site

-- the type that is known of a site is this one, or none is known
abbrev pub is_known_as : ℕ → Option ℕ → Bool
is_known_as ty None = true
is_known_as ty (Some known) = known == ty

-- what is known by site, and further calls
abbrev pub agree_with : List (Option ℕ) → List (ℕ × ℕ) → Bool
agree_with known [] = true
agree_with known (s ∷ more) =
    option_map_or (is_known_as s.1) (slice_get known s.0) false && agree_with (set known s.0 (Some s.1)) more

-- all calls at a site are of one type, where there are this many sites
abbrev pub agree_on_types : ℕ → List (ℕ × ℕ) → Bool
agree_on_types sites calls = agree_with (replicate sites None) calls
