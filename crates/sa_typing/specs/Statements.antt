-- Which statements are well typed.
use Rattle.std.specs.Prelude.{ℕ, Bool, true, false, ◌&&◌, not, ◌==◌, if◌then◌else◌, Option, Some, None, is_some, slice_get}
use Rattle.std.specs.Option.{option_map_or}
use Rattle.sa_ast.specs.declared.fault_kind.FaultKind.{FaultKind}
use Rattle.sa_ast.specs.declared.fault_kind.FaultKind.TheVariants as fault_kind
use Rattle.sa_typed.specs.Tree.{Expr, Exprs, no_exprs, expr, Exit, Break, While, Until, Stmt, Assign, ExprStmt, If, Loop, ExitLoop, TypeCase, Protect}
use Rattle.sa_typed.specs.Tree.{Return, Yield, Quit, Raise, Fault, Stmts, no_stmts, stmt, Tests, no_tests, branch, Arms, no_arms, arm}
use Rattle.sa_typed.specs.Tree.{Else, no_else, otherwise}
use Rattle.sa_typing.specs.declared.context.TypingContext.{TypingContext}
use Rattle.sa_typing.specs.Rows.{is_supertype, is_type}
use Rattle.sa_typing.specs.Builtins.{ob_type}
use Rattle.sa_typing.specs.Forms.{is_test}
use Rattle.sa_typing.specs.Contexts.{Env, guarded, in_branch, in_loop, is_inner, may_leave}
use Rattle.sa_typing.specs.Expressions.{is_assignable_expr, type_of_expr}

-- the kinds of faults with which statements stop the program
abbrev pub is_end : FaultKind → Bool
is_end fault_kind.NoBranch = true
is_end fault_kind.NoReturn = true
is_end fault_kind.Assert = true
is_end _ = false

module _ (f : Env) where
  abbrev pub fits_variable : TypingContext → ℕ → Expr → Bool
  fits_variable at var e = option_map_or (λ ty. is_assignable_expr f at ty e) (slice_get f.vars var) false

  abbrev pub are_tests : TypingContext → Exprs → Bool
  are_tests at no_exprs = true
  are_tests at (expr e more) = is_test (type_of_expr f at e) && are_tests at more

  abbrev pub well_exit : TypingContext → Exit → Bool
  well_exit at Break = true
  well_exit at (While test) = is_test (type_of_expr f at test)
  well_exit at (Until test) = is_test (type_of_expr f at test)

  -- the returned value is of the type of the result, or there is neither
  abbrev pub gives_as : TypingContext → Option Expr → Option ℕ → Bool
  gives_as at None None = true
  gives_as at (Some e) (Some ty) = is_assignable_expr f at ty e
  gives_as at _ _ = false

  abbrev pub gives_back : TypingContext → Option Expr → Bool
  gives_back at value = gives_as at value f.gives

  -- The type that the tested variable has in a branch: its own where this is a subtype of the type of the branch, else the type of the
  -- branch.
  abbrev pub narrowed : ℕ → ℕ → ℕ
  narrowed tested ty = if is_supertype f.rows ty tested then tested else ty

  -- the variable of a branch has this type
  abbrev pub is_branch_variable : ℕ → ℕ → ℕ → Bool
  is_branch_variable tested ty var =
      option_map_or (λ own. is_type f.rows ty && own == narrowed tested ty) (slice_get f.vars var) false

  abbrev mutual
    pub well_stmt : TypingContext → Stmt → Bool
    well_stmt at (Assign var e) = fits_variable at var e
    well_stmt at (ExprStmt e) = is_some (type_of_expr f at e)
    well_stmt at (If tests other) = well_tests at tests && well_stmts at other
    well_stmt at (Loop number body) = is_inner number at && well_stmts (in_loop number at) body
    well_stmt at (ExitLoop exit) = may_leave at && well_exit at exit
    well_stmt at (TypeCase var arms other pos) = well_cases at (slice_get f.vars var) arms && well_else at other
    well_stmt at (Protect body arms other) =
        well_stmts (guarded at) body && (well_branches (guarded at) arms && well_else (in_branch ob_type (guarded at)) other)
    well_stmt at (Return value) = not f.iter && gives_back at value
    well_stmt at (Yield value) = f.iter && (not at.protected && gives_back at value)
    well_stmt at Quit = f.iter && not at.protected
    well_stmt at (Raise e pos) = is_assignable_expr f at ob_type e
    well_stmt at (Fault kind pos) = is_end kind

    pub well_stmts : TypingContext → Stmts → Bool
    well_stmts at no_stmts = true
    well_stmts at (stmt a more) = well_stmt at a && well_stmts at more

    pub well_tests : TypingContext → Tests → Bool
    well_tests at no_tests = true
    well_tests at (branch tests body more) = are_tests at tests && (well_stmts at body && well_tests at more)

    -- the branches of a typecase, by the type of the tested variable
    pub well_cases : TypingContext → Option ℕ → Arms → Bool
    well_cases at None arms = false
    well_cases at (Some tested) no_arms = true
    well_cases at (Some tested) (arm ty var body more) =
        is_branch_variable tested ty var && (well_stmts at body && well_cases at (Some tested) more)

    -- the branches of a protect
    pub well_branches : TypingContext → Arms → Bool
    well_branches at no_arms = true
    well_branches at (arm ty var body more) =
        is_type f.rows ty && (well_stmts (in_branch ty at) body && well_branches at more)

    pub well_else : TypingContext → Else → Bool
    well_else at no_else = true
    well_else at (otherwise body) = well_stmts at body
