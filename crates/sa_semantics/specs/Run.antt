-- Whole runs.
use Rattle.std.specs.Prelude.{ℕ, ◌+◌, ◌-◌, ◌%◌, pos, negsuc, List, [], ◌∷◌, map, Option, Some, None}
use Rattle.sa_ast.specs.declared.pos.Pos.{Pos}
use Rattle.sa_ast.specs.Faults.{fault_number}
use Rattle.sa_typed.specs.declared.program.TypedProgram.{TypedProgram}
use Rattle.sa_typed.specs.Tree.{Expr}
use Rattle.sa_semantics.specs.Sequence.{◌>>=◌, ◌>>◌, pure, change, at_index, Normal, Abrupt, OutOfTurns, GoesWrong, last_state}
use Rattle.sa_semantics.specs.Value.{Value, Void, Int}
use Rattle.sa_semantics.specs.Program.{Program, SharedRow, program_of, before, void_of}
use Rattle.sa_semantics.specs.State.{Continuation, Empty, Input, State, Event, TraceMark, Broke, Raised, Failed, InputFailed, Completion, Outcome}
use Rattle.sa_semantics.specs.Steps.{Eval, turn}
use Rattle.sa_semantics.specs.Calls.{routine, set_shared}
use Rattle.sa_semantics.specs.Evaluation.{evaluate}
use Rattle.sa_semantics.specs.Statements.{run_to}

abbrev pub initial : Program → Input → ℕ → ℕ → State
initial p input room turns = record {
  objects = [];
  shareds = map (λ s. void_of p s.ty) p.shareds;
  output = [];
  input = input;
  room = room;
  turns = turns;
  live = 0;
  started = 0;
  events = [];
  trail = [];
  here = record { feature = None; self = Void; variables = []; sites = Empty; exception = None; depth = 0 };
}

abbrev pub set_self : Value → Eval (Unit {0})
set_self v = change (λ s. record s { here = record (s.here) { self = v } })

module _ (p : Program) (go : Continuation → Eval Completion) where
  -- An initialiser takes a turn, and has the void value of its class as self.
  abbrev pub initialise : ℕ → ℕ → Option Expr → Eval (Unit {0})
  initialise k class None = pure tt
  initialise k class (Some e) = turn (set_self (void_of p class) >> evaluate p go e >>= set_shared k)

  -- the initialisers of the shareds from an index on
  abbrev pub initialise_from : ℕ → List SharedRow → Eval (Unit {0})
  initialise_from k [] = pure tt
  initialise_from k (s ∷ more) = initialise k s.class s.start >> initialise_from (k + 1) more

  -- the initialisers of the shareds, and then `main`, with self void
  abbrev pub whole_run : Eval Value
  whole_run = do
    initialise_from 0 p.shareds
    main ← at_index p.features p.main
    r ← routine p go main.pos p.main Void []
    pure r.0

unfoldable pub outcome : Program → Input → ℕ → ℕ → Outcome Value
outcome p input room turns = whole_run p (run_to p turns) (initial p input room turns)

-- ---- what is observed of a run

pub data End : Type 0 where
  Ended : (output : List ℕ) → (status : ℕ) → End
  -- a fault, or a raise that nothing catches, by the number of its kind
  Stopped : (output : List ℕ) → (kind : ℕ) → (at : Pos) → End
  InFault Spent : (output : List ℕ) → End
  -- no rule applies
  Stuck : End

-- the low 8 bits of the number that `main` gives
abbrev pub status_of : Value → ℕ
status_of (Int (pos n)) = n % 256
status_of (Int (negsuc n)) = 255 - n % 256
status_of _ = 0

abbrev pub end_of : Outcome Value → End
end_of (Normal v s) = Ended s.output (status_of v)
end_of (Abrupt (Raised exception kind at) s) = Stopped s.output (fault_number kind) at
end_of (Abrupt (Failed kind at) s) = Stopped s.output (fault_number kind) at
end_of (Abrupt InputFailed s) = InFault s.output
end_of (Abrupt Broke s) = Stuck
end_of (OutOfTurns s) = Spent s.output
end_of (GoesWrong s) = Stuck

-- with an input, so many bytes of room and so many turns
abbrev pub run_program : Program → Input → ℕ → ℕ → End
run_program p input room turns = end_of (outcome p input room turns)

abbrev pub run : TypedProgram → Input → ℕ → ℕ → End
run core = run_program (program_of core)

-- the same where no fault can be caught: each one stops the program, and makes no object
abbrev pub run_before : TypedProgram → Input → ℕ → ℕ → End
run_before core = run_program (before (program_of core))

-- the bytes that are put, whether the run is over or not
abbrev pub output : TypedProgram → Input → ℕ → ℕ → List ℕ
output core input room turns = (last_state (outcome (program_of core) input room turns)).output

-- starts, resumptions and ends of instances, in order
abbrev pub events : TypedProgram → Input → ℕ → ℕ → List Event
events core input room turns = (last_state (outcome (program_of core) input room turns)).events

-- entries and exits of features, and bytes, in order
abbrev pub trail : TypedProgram → Input → ℕ → ℕ → List TraceMark
trail core input room turns = (last_state (outcome (program_of core) input room turns)).trail
