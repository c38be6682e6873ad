-- The state of a running control-flow graph, and how a body, an operation and a run of operations end.
use Rattle.std.specs.Prelude.{ℕ, List, Option}
use Rattle.sa_ast.specs.declared.fault_kind.FaultKind.{FaultKind}
use Rattle.sa_cfg.specs.declared.call.CallTarget.{CallTarget}
use Rattle.sa_semantics.specs.Value.{Value}
use Rattle.sa_semantics.specs.Sequence.{StepOutcome}
use Rattle.sa_semantics.specs.State as language

-- ---- instances

-- The frame of an instance. A frame has the number of its instance.
pub record Frame : Type 0 where
  pub number : ℕ
  -- the body that was entered at the start, which is another than the feature's where it is an adapter
  pub body : ℕ
  pub feature : ℕ
  -- the callee of the operation that started it
  pub called : CallTarget
  -- the block in which it goes on
  pub block : ℕ
  pub self : Value
  -- the bound value that it was started through
  pub through : Option ℕ
  pub variables : List Value
  -- the numbers of the frames at its sites
  pub sites : List (Option ℕ)

-- The place at which an instance is started or resumed: a site of a feature, with what is called there, and the bound value that a start
-- goes through.
pub record FrameSite : Type 0 where
  pub feature : ℕ
  pub site : ℕ
  pub called : CallTarget
  pub through : Option ℕ

-- ---- the run of a body

pub record Activation : Type 0 where
  pub body : ℕ
  pub self : Value
  -- those of the body, and after them temporaries
  pub variables : List Value
  pub sites : List (Option ℕ)
  -- the frame of the instance that it runs or is entered for; before a start there is none
  pub frame : Option ℕ
  -- the site that it is entered for, in an adapter of an iter
  pub station : Option FrameSite
  -- how many calls, starts and resumptions of features are running
  pub depth : ℕ

-- ---- the state

pub record State : Type 0 where
  -- all that the state of the language has too, but its activation, which isn't used
  pub world : language.State
  -- by number, and none where the instance has ended
  pub frames : List (Option Frame)
  -- the CFG steps that are left
  pub steps : ℕ
  pub here : Activation

-- ---- how a body ends

pub data BodyResult : Type 0 where
  -- with the value that it gives, if it gives one
  Returned : Option Value → BodyResult
  Suspended : Option Value → (frame : ℕ) → BodyResult
  Ended : BodyResult
  -- the index of a position in the program's positions, and the number of a fault's kind
  Raised : (exception : Value) → (place kind : ℕ) → BodyResult
  -- a fault that is that of the operation that entered the body
  CallerFault : (kind : FaultKind) → BodyResult

-- ---- where control goes after an operation or a terminator

pub data Transfer : Type 0 where
  -- to the next operation
  Onward : Transfer
  To : (block : ℕ) → Transfer
  Leaving : BodyResult → Transfer

-- ---- how a run of operations stops

pub data Cause : Type 0 where
  -- a fault of the operation, for which no object is made yet
  Faulted : (kind : FaultKind) → Cause
  -- a fault that stops the program
  Failed : (kind : FaultKind) → (place : ℕ) → Cause
  InputFailed : Cause

abbrev pub Outcome : Type 0 → Type 0
Outcome A = StepOutcome State Cause A
