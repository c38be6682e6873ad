-- The state of a running program, and the outcomes of its steps.
use Rattle.std.specs.Prelude.{ℕ, Bool, List, Option}
use Rattle.sa_ast.specs.declared.fault_kind.FaultKind.{FaultKind}
use Rattle.sa_ast.specs.declared.pos.Pos.{Pos}
use Rattle.sa_typed.specs.declared.feature.Target.{Target}
use Rattle.sa_typed.specs.Tree.{Stmt, Stmts, no_stmts, stmt}
use Rattle.sa_semantics.specs.Value.{Value}
-- the bytes that are left, and how many times their end can still be reported, where this is limited
pub use Rattle.wa_syntax.specs.Machine.{Input}
use Rattle.sa_semantics.specs.Sequence.{StepOutcome}

-- ---- objects

-- What a bound value calls: a target, by the type whose feature it is, with the arguments that are left open.
pub record Binding : Type 0 where
  pub target : Target
  pub class : ℕ
  pub is_open : List Bool

-- An object. Those of a bound value have the receiver and the given values as fields.
pub record Object : Type 0 where
  pub ty : ℕ
  pub fields : List Value
  pub elements : List Value
  pub binding : Option Binding

-- ---- activations and instances

-- A continuation: nothing, a statement not begun, or a running loop with the rest of its round; and then more.
pub data Continuation : Type 0 where
  Finished : Continuation
  Then : Stmt → Continuation → Continuation
  InLoop : (loop : ℕ) → (body : Stmts) → (inner after : Continuation) → Continuation

abbrev pub all_of : Stmts → Continuation
all_of no_stmts = Finished
all_of (stmt a more) = Then a (all_of more)

-- the first continuation, and then the second
abbrev pub append : Continuation → Continuation → Continuation
append Finished after = after
append (Then a rest) after = Then a (append rest after)
append (InLoop loop body inner rest) after = InLoop loop body inner (append rest after)

-- A suspended iter. Its `once` arguments stay in its variables.
pub record Instance : Type 0 where
  pub number : ℕ
  pub feature : ℕ
  pub self : Value
  -- the bound value that it was started through
  pub through : Option ℕ
  pub variables : List Value
  pub left : Continuation

-- instances by their sites, the lowest first, each with those inside it
pub data SiteInstances : Type 0 where
  Empty : SiteInstances
  Entry : (site : ℕ) → Instance → (inside others : SiteInstances) → SiteInstances

pub record Activation : Type 0 where
  -- none in the initialiser of a shared
  pub feature : Option ℕ
  pub self : Value
  pub variables : List Value
  pub sites : SiteInstances
  -- that of the innermost branch of a protect
  pub exception : Option Value
  -- how many calls, starts and resumptions are running
  pub depth : ℕ

-- ---- what is observed of a run

pub data Event : Type 0 where
  Start Resume Yields Quits Abandon : (feature site number : ℕ) → Event

-- entries into features, their ends or suspensions, and the bytes that are put
pub data TraceMark : Type 0 where
  Enter Leave : (feature : ℕ) → TraceMark
  Byte : (byte : ℕ) → TraceMark

-- ---- the state

pub record State : Type 0 where
  pub objects : List Object
  pub shareds : List Value
  pub output : List ℕ
  pub input : Input
  -- the bytes that may still be charged
  pub room : ℕ
  -- the turns that are left
  pub turns : ℕ
  pub live : ℕ
  pub started : ℕ
  pub events : List Event
  pub trail : List TraceMark
  pub here : Activation

-- ---- the outcome of a step

-- why a run goes on elsewhere or stops
pub data AbruptCause : Type 0 where
  -- the innermost loop is left
  Broke : AbruptCause
  Raised : (exception : Value) → (kind : FaultKind) → (at : Pos) → AbruptCause
  -- a fault that no protect catches
  Failed : (kind : FaultKind) → (at : Pos) → AbruptCause
  InputFailed : AbruptCause

abbrev pub Outcome : Type 0 → Type 0
Outcome A = StepOutcome State AbruptCause A

-- how a statement completes
pub data Completion : Type 0 where
  Done Quitting : Completion
  Yielding : Value → Continuation → Completion
  Returning : Value → Completion
