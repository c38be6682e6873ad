-- Runs of bodies from an index in a block on, and whole runs.
use Rattle.std.specs.Prelude.{ℕ, zero, suc, ◌+◌, ◌-◌, ◌*◌, List, [], map, length, slice_get, Option, Some, None, unwrap_or}
use Rattle.sa_cfg.specs.declared.body.BasicBlock.{BasicBlock}
use Rattle.sa_cfg.specs.declared.operation.CfgOperation.{CfgOperation}
use Rattle.sa_cfg.specs.declared.program.CfgProgram.{CfgProgram}
use Rattle.sa_ast.specs.declared.pos.Pos.{Pos}
use Rattle.sa_ast.specs.Faults.{fault_number}
use Rattle.sa_semantics.specs.Value.{Void}
use Rattle.sa_semantics.specs.Program.{void_of}
use Rattle.sa_semantics.specs.Sequence.{◌>>=◌, ◌>>◌, pure, at_index, Normal, Abrupt, OutOfTurns, GoesWrong, stuck, last_state}
use Rattle.sa_semantics.specs.State as language
use Rattle.sa_semantics.specs.Run as whole
use Rattle.sa_semantics.specs.Run.{End, status_of}
use Rattle.sa_cfg_semantics.specs.Frames.{Activation, State, BodyResult, Returned, Raised, Transfer}
use Rattle.sa_cfg_semantics.specs.Frames.{Onward, To, Leaving, Failed, InputFailed, Outcome}
use Rattle.sa_cfg_semantics.specs.Counting.{Eval, count, types_of, this}
use Rattle.sa_cfg_semantics.specs.Calls.{first_variables, run_body, routine}
use Rattle.sa_cfg_semantics.specs.Operations.{step}
use Rattle.sa_cfg_semantics.specs.Terminators.{exit}

-- ---- from an index in a block on

abbrev pub this_block : CfgProgram → ℕ → Eval BasicBlock
this_block p block = do
  here ← this
  b ← at_index p.bodies here.body
  at_index b.blocks block

-- `go` runs a body, from a block and an index in it on.
abbrev pub next : (ℕ → ℕ → Eval BodyResult) → ℕ → ℕ → Transfer → Eval BodyResult
next go block place Onward = go block (place + 1)
next go block place (To other) = go other 0
next go block place (Leaving ending) = pure ending

module _ (p : CfgProgram) (rows : List (List ℕ)) (go : ℕ → ℕ → Eval BodyResult) where
  -- the operation at the index, and the terminator after the last one
  abbrev pub run_next : BasicBlock → Option CfgOperation → Eval Transfer
  run_next b None = exit p b.exit
  run_next b (Some a) = step p rows go a

  abbrev pub run_at : ℕ → ℕ → Eval BodyResult
  run_at block place = do
    count 1
    b ← this_block p block
    way ← run_next b (slice_get b.steps place)
    next go block place way

-- The running body, from a block and the number of operations done in it on. The level falls at each operation and terminator as the CFG
-- steps that are left do, so that it is never less than they are.
abbrev pub run_from : CfgProgram → List (List ℕ) → ℕ → ℕ → ℕ → Eval BodyResult
run_from p rows zero block place = stuck
run_from p rows (suc level) block place = run_at p rows (run_from p rows level) block place

-- ---- whole runs

-- how many CFG steps there are at most in so many turns
abbrev pub most_steps : ℕ → ℕ
most_steps turns = 200201000000 * (turns + 1)

abbrev pub world_of : CfgProgram → language.Input → ℕ → ℕ → language.State
world_of p input room turns = record {
  objects = [];
  shareds = map (void_of (types_of p)) p.shareds;
  output = [];
  input = input;
  room = room;
  turns = turns;
  live = 0;
  started = 0;
  events = [];
  trail = [];
  here = record { feature = None; self = Void; variables = []; sites = language.Empty; exception = None; depth = 0 };
}

-- before any body is entered
abbrev pub outside : Activation
outside = record { body = 0; self = Void; variables = []; sites = []; frame = None; station = None; depth = 0 }

abbrev pub initial : CfgProgram → language.Input → ℕ → ℕ → State
initial p input room turns = record { world = world_of p input room turns; frames = []; steps = most_steps turns; here = outside }

module _ (p : CfgProgram) (go : ℕ → ℕ → Eval BodyResult) where
  -- the last body, at depth 0
  abbrev pub whole_run : Eval BodyResult
  whole_run = do
    let last = length p.bodies - 1
    b ← at_index p.bodies last
    variables ← first_variables p b []
    r ← run_body p go 0 (routine p go last b Void variables 0)
    pure r.0

unfoldable pub outcome : CfgProgram → List (List ℕ) → language.Input → ℕ → ℕ → Outcome BodyResult
outcome p rows input room turns = whole_run p (run_from p rows (most_steps turns)) (initial p input room turns)

-- ---- what is observed of a run

-- Where the program has no such position, no rule applies: the run is stuck.
abbrev pub stop_end : List ℕ → ℕ → Option Pos → End
stop_end output kind None = whole.Stuck
stop_end output kind (Some at) = whole.Stopped output kind at

abbrev pub end_of : CfgProgram → Outcome BodyResult → End
end_of p (Normal (Returned v) s) = whole.Ended s.world.output (status_of (unwrap_or v Void))
end_of p (Normal (Raised v place kind) s) = stop_end s.world.output kind (slice_get p.positions place)
end_of p (Normal _ s) = whole.Stuck
end_of p (Abrupt (Failed kind place) s) = stop_end s.world.output (fault_number kind) (slice_get p.positions place)
end_of p (Abrupt InputFailed s) = whole.InFault s.world.output
end_of p (Abrupt _ s) = whole.Stuck
end_of p (OutOfTurns s) = whole.Spent s.world.output
end_of p (GoesWrong s) = whole.Stuck

-- with an input, so many bytes of room and so many turns
abbrev pub cfg_run : CfgProgram → List (List ℕ) → language.Input → ℕ → ℕ → End
cfg_run p rows input room turns = end_of p (outcome p rows input room turns)

-- entries into bodies and exits from them, and bytes, in order
abbrev pub trail : CfgProgram → List (List ℕ) → language.Input → ℕ → ℕ → List language.TraceMark
trail p rows input room turns = (last_state (outcome p rows input room turns)).world.trail

-- starts, resumptions and ends of instances, in order
abbrev pub events : CfgProgram → List (List ℕ) → language.Input → ℕ → ℕ → List language.Event
events p rows input room turns = (last_state (outcome p rows input room turns)).world.events
