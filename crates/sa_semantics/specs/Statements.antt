-- Statements: what they do, case by case, and their continuation after a yield.
use Rattle.std.specs.Prelude.{ℕ, zero, suc, Bool, false, if◌then◌else◌, Option, Some, None}
use Rattle.std.specs.Option.{option_map_or}
use Rattle.sa_ast.specs.declared.fault_kind.FaultKind.TheVariants as fault_kind
use Rattle.sa_ast.specs.declared.pos.Pos.{Pos}
use Rattle.sa_typed.specs.Tree.{Expr, Exit, Break, While, Until, Stmt, Assign, ExprStmt, If, Loop, ExitLoop, TypeCase, Protect, Return, Yield, Quit}
use Rattle.sa_typed.specs.Tree.{Raise, Fault, Stmts, no_stmts, stmt, Tests, no_tests, branch, Arms, no_arms, arm, Else, no_else, otherwise}
use Rattle.sa_semantics.specs.Sequence.{resolve, ◌>>=◌, ◌>>◌, pure, look, change, stop, OutOfTurns, stuck}
use Rattle.sa_semantics.specs.Value.{Value, Void, is_nothing, unboxed}
use Rattle.sa_semantics.specs.Program.{Program, is_supertype, is_immutable}
use Rattle.sa_semantics.specs.State.{Continuation, Finished, Then, InLoop, all_of, append, AbruptCause, Broke}
use Rattle.sa_semantics.specs.State.{Raised, Completion, Done, Yielding, Returning, Quitting}
use Rattle.sa_semantics.specs.Steps.{Eval, turn, fault, read, write}
use Rattle.sa_semantics.specs.Calls.{dynamic_type}
use Rattle.sa_semantics.specs.Instances.{clear_loop, end_loop}
use Rattle.sa_semantics.specs.Evaluation.{evaluate, truth_of, evaluate_tests}

-- ---- lists of statements

abbrev pub after_statement : Continuation → Eval Completion → Completion → Eval Completion
after_statement rest run Done = run
after_statement rest run (Yielding v r) = pure (Yielding v (append r rest))
after_statement rest run flow = pure flow

-- a statement, and then the rest, which `run` runs
abbrev pub run_then : Eval Completion → Continuation → Eval Completion → Eval Completion
run_then first rest run = first >>= after_statement rest run

-- ---- exceptions

abbrev pub set_exception : Option Value → Eval (Unit {0})
set_exception exception = change (λ s. record s { here = record (s.here) { exception = exception } })

-- Nothing is suspended inside a protect.
abbrev pub not_suspended : Completion → Eval Completion
not_suspended (Yielding v r) = stuck
not_suspended flow = pure flow

-- the statements of a branch of a protect, and then, however they end, the exception that was there before
abbrev pub with_exception : Value → Eval Completion → Eval Completion
with_exception v f = do
  before ← look (λ s. s.here.exception)
  set_exception (Some v)
  resolve f (λ flow. set_exception before >> not_suspended flow) (λ cause. set_exception before >> stop cause)

-- What is raised in a protect goes to its branches, which pass on what they don't take. Nothing else is caught.
abbrev pub catch : (Value → Option ℕ → Eval Completion → Eval Completion) → AbruptCause → Eval Completion
catch branches (Raised v kind at) = dynamic_type v >>= (λ dynamic. branches v dynamic (stop (Raised v kind at)))
catch branches cause = stop cause

-- ---- leaving a loop

abbrev pub while_true : Bool → Eval Completion
while_true b = if b then pure Done else stop Broke

abbrev pub until_true : Bool → Eval Completion
until_true b = if b then stop Broke else pure Done

module _ (p : Program) where
  -- the value in a branch of a type
  abbrev pub narrow : ℕ → Value → Value
  narrow ty v = if is_immutable p ty then unboxed v else v

  -- whether a branch of the type takes a value with this dynamic type
  abbrev pub takes : ℕ → Option ℕ → Bool
  takes ty dynamic = option_map_or (is_supertype p ty) dynamic false

  abbrev pub raise_value : Pos → Value → Eval Completion
  raise_value at v = if is_nothing v then fault p fault_kind.Void at else stop (Raised v fault_kind.Uncaught at)

-- ---- rounds of loops, and statements

-- What a turn begins is run by `go`, which has a turn less.
module _ (p : Program) (go : Continuation → Eval Completion) where
  abbrev pub round : ℕ → Stmts → Eval Completion
  round loop body = turn (go (InLoop loop body (all_of body) Finished))

  abbrev pub after_round : ℕ → Stmts → Completion → Eval Completion
  after_round loop body Done = round loop body
  after_round loop body (Yielding v r) = pure (Yielding v (InLoop loop body r Finished))
  after_round loop body flow = end_loop p loop >> pure flow

  abbrev pub out_of_round : ℕ → AbruptCause → Eval Completion
  out_of_round loop Broke = end_loop p loop >> pure Done
  out_of_round loop (Raised exception kind at) = end_loop p loop >> stop (Raised exception kind at)
  out_of_round loop cause = stop cause

  -- a round or the rest of one, and then the further rounds
  abbrev pub run_loop : ℕ → Stmts → Eval Completion → Eval Completion
  run_loop loop body round = resolve round (after_round loop body) (out_of_round loop)

  abbrev pub value_of : Option Expr → Eval Value
  value_of None = pure Void
  value_of (Some e) = evaluate p go e

  abbrev pub test_of : Expr → Eval Bool
  test_of e = evaluate p go e >>= truth_of

  abbrev pub leave_loop : Exit → Eval Completion
  leave_loop Break = stop Broke
  leave_loop (While test) = test_of test >>= while_true
  leave_loop (Until test) = test_of test >>= until_true

  abbrev mutual
    pub execute : Stmt → Eval Completion
    execute (Assign var e) = evaluate p go e >>= write var >> pure Done
    execute (ExprStmt e) = evaluate p go e >> pure Done
    execute (If tests other) = execute_first tests (execute_all other)
    execute (Loop loop body) = clear_loop p loop >> round loop body
    execute (ExitLoop exit) = leave_loop exit
    execute (TypeCase var arms other at) = do
      v ← read var
      dynamic ← dynamic_type v
      execute_case v dynamic arms (execute_else other (fault p fault_kind.NoBranch at))
    execute (Protect body arms other) =
        resolve (execute_all body) not_suspended
        (catch (λ v dynamic again. execute_branch v dynamic arms (execute_else_with v other again)))
    execute (Return value) = value_of value >>= (λ v. pure (Returning v))
    execute (Yield value) = value_of value >>= (λ v. pure (Yielding v Finished))
    execute Quit = pure Quitting
    execute (Raise e at) = evaluate p go e >>= raise_value p at
    execute (Fault kind at) = fault p kind at

    pub execute_all : Stmts → Eval Completion
    execute_all no_stmts = pure Done
    execute_all (stmt a more) = run_then (execute a) (all_of more) (execute_all more)

    -- the statements of the first entry of which a test is true
    pub execute_first : Tests → Eval Completion → Eval Completion
    execute_first no_tests other = other
    execute_first (branch tests body more) other =
        evaluate_tests p go tests >>= (λ b. if b then execute_all body else execute_first more other)

    -- The branch of a typecase has a variable of its own.
    pub execute_case : Value → Option ℕ → Arms → Eval Completion → Eval Completion
    execute_case v dynamic no_arms other = other
    execute_case v dynamic (arm ty var body more) other =
        if takes p ty dynamic then (write var (narrow p ty v) >> execute_all body) else execute_case v dynamic more other

    pub execute_branch : Value → Option ℕ → Arms → Eval Completion → Eval Completion
    execute_branch v dynamic no_arms other = other
    execute_branch v dynamic (arm ty var body more) other =
        if takes p ty dynamic then with_exception (narrow p ty v) (execute_all body) else execute_branch v dynamic more other

    pub execute_else : Else → Eval Completion → Eval Completion
    execute_else no_else none = none
    execute_else (otherwise body) none = execute_all body

    pub execute_else_with : Value → Else → Eval Completion → Eval Completion
    execute_else_with v no_else again = again
    execute_else_with v (otherwise body) again = with_exception v (execute_all body)

  -- ---- continuations of statements

  abbrev pub resume_at : Continuation → Eval Completion
  resume_at Finished = pure Done
  resume_at (Then a rest) = run_then (execute a) rest (resume_at rest)
  resume_at (InLoop loop body inner rest) = run_then (run_loop loop body (resume_at inner)) rest (resume_at rest)

-- To a level, which falls at each turn. It is never less than the turns that are left, so that these run out first.
abbrev pub run_to : Program → ℕ → Continuation → Eval Completion
run_to p zero r = λ s. OutOfTurns s
run_to p (suc level) r = resume_at p (run_to p level) r
