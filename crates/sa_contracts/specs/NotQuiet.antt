-- The first check of a woven program that isn't quiet: in the order of its features and of their statements, and in the test of a check
-- before its nested statements.
use Rattle.std.specs.Prelude.{ℕ, ◌-◌, Bool, true, false, ◌&&◌, List, [], ◌∷◌, Option, None, Some}
use Rattle.std.specs.Prelude.{if◌then◌else◌, nat_lt, length, slice_get}
use Rattle.std.specs.List.{list_any}
use Rattle.std.specs.Option.{option_or}
use Rattle.sa_ast.specs.declared.fault_kind.FaultKind.{FaultKind}
use Rattle.sa_ast.specs.declared.fault_kind.FaultKind.TheVariants as fault
use Rattle.sa_ast.specs.declared.pos.Pos.{Pos}
use Rattle.sa_typed.specs.Copy.{block_of}
use Rattle.sa_typed.specs.declared.feature.TypedFeature.{TypedFeature}
use Rattle.sa_typed.specs.Tree.{Expr, Exprs, no_exprs, expr, Stmt, Assign, If, Loop, TypeCase, Protect, Fault, Stmts, no_stmts, stmt}
use Rattle.sa_typed.specs.Tree.{Tests, no_tests, branch, Arms, no_arms, arm, no_else, otherwise}
use Rattle.sa_contracts.specs.declared.checks.BodyChecks.{BodyChecks}
use Rattle.sa_contracts.specs.declared.checks.InFeature.{InFeature}
use Rattle.sa_contracts.specs.AskedChecks.{Asked, same_pos}
use Rattle.sa_contracts.specs.Quiet.{is_quiet}

-- ---- which checks there are in a feature

-- the positions of its conditions, and of its words `initial` in order, and how many parameters it has
pub record FeatureChecks : Type 0 where
  pub conditions : List Pos
  pub initials : List Pos
  pub arguments : ℕ

-- the variables after the parameters have the values of the `initial`s, in order
abbrev pub initial_of : FeatureChecks → ℕ → Option Pos
initial_of w variable = if nat_lt variable w.arguments then None else slice_get w.initials (variable - w.arguments)

-- a condition is tested where the program otherwise stops by an assert at its position
abbrev pub is_assert : FaultKind → Bool
is_assert fault.Assert = true
is_assert _ = false

abbrev pub asserted : FeatureChecks → FaultKind → Pos → Option Pos
asserted w kind pos = if is_assert kind && list_any (same_pos pos) w.conditions then Some pos else None

abbrev pub asserted_at : FeatureChecks → Stmt → Option Pos
asserted_at w (Fault kind pos) = asserted w kind pos
asserted_at w _ = None

abbrev pub condition_of : FeatureChecks → Stmts → Option Pos
condition_of w (stmt s no_stmts) = asserted_at w s
condition_of w _ = None

-- ---- the check at this position, if there is one, where it isn't quiet

abbrev pub loud : Option Pos → Expr → Option Pos
loud check test = if is_quiet test then None else check

abbrev pub loud_exprs : Option Pos → Exprs → Option Pos
loud_exprs check no_exprs = None
loud_exprs check (expr test more) = option_or (loud check test) (loud_exprs check more)

abbrev pub loud_tests : Option Pos → Tests → Option Pos
loud_tests check no_tests = None
loud_tests check (branch tests body more) = option_or (loud_exprs check tests) (loud_tests check more)

-- ---- the first in a statement, in statements, and in those of tests and of branches

abbrev mutual
  pub first_in : FeatureChecks → Stmt → Option Pos
  first_in w (Assign variable value) = loud (initial_of w variable) value
  first_in w (If tests other) =
      option_or (option_or (loud_tests (condition_of w other) tests) (first_in_tests w tests)) (first_in_block w other)
  first_in w (Loop number body) = first_in_block w body
  first_in w (TypeCase variable arms no_else pos) = first_in_arms w arms
  first_in w (TypeCase variable arms (otherwise other) pos) = option_or (first_in_arms w arms) (first_in_block w other)
  first_in w (Protect body arms no_else) = option_or (first_in_block w body) (first_in_arms w arms)
  first_in w (Protect body arms (otherwise other)) =
      option_or (option_or (first_in_block w body) (first_in_arms w arms)) (first_in_block w other)
  first_in w _ = None

  pub first_in_block : FeatureChecks → Stmts → Option Pos
  first_in_block w no_stmts = None
  first_in_block w (stmt s more) = option_or (first_in w s) (first_in_block w more)

  pub first_in_tests : FeatureChecks → Tests → Option Pos
  first_in_tests w no_tests = None
  first_in_tests w (branch tests body more) = option_or (first_in_block w body) (first_in_tests w more)

  pub first_in_arms : FeatureChecks → Arms → Option Pos
  first_in_arms w no_arms = None
  first_in_arms w (arm ty variable body more) = option_or (first_in_block w body) (first_in_arms w more)

-- ---- the first in a feature and in a program

abbrev pub plain_checks : InFeature → FeatureChecks
plain_checks w = record { conditions = w.conditions.now; initials = w.initials.now; arguments = w.arguments }

-- the checks of a feature with this many parameters
abbrev pub checks_with : ℕ → BodyChecks → FeatureChecks
checks_with arguments b = record { conditions = b.conditions; initials = b.initials; arguments = arguments }

abbrev pub first_in_body : Option BodyChecks → TypedFeature → Option Pos
first_in_body None f = None
first_in_body (Some b) f = first_in_block (checks_with (length f.modes) b) (block_of f.body)

-- of the checks that are looked up by the position of its name
abbrev pub first_in_feature : Asked → TypedFeature → Option Pos
first_in_feature asked f = first_in_body (asked f.pos) f

abbrev pub first_in_features : Asked → List TypedFeature → Option Pos
first_in_features asked [] = None
first_in_features asked (f ∷ more) = option_or (first_in_feature asked f) (first_in_features asked more)
