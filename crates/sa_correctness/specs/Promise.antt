-- What is promised of a typed program and of its module, part by part.
use Rattle.std.specs.Prelude.{◌≡◌, ◌≢◌, ℕ, List}
use Rattle.sa_typed.specs.declared.program.TypedProgram.{TypedProgram}
use Rattle.sa_typed.specs.PositionList.{program_positions}
use Rattle.sa_semantics.specs.Law.{IsOver, IsPrefix}
use Rattle.sa_semantics.specs.Program.{program_of}
use Rattle.sa_semantics.specs.Run.{Stuck, output, run}
use Rattle.wa_syntax.specs.declared.module.Module.{Module}
use Rattle.wa_syntax.specs.Binary.{SpellsModule}
use Rattle.wa_syntax.specs.Machine.{Input, Running}
use Rattle.wa_syntax.specs.Runs.{Run, machine_run}
use Rattle.sa_correctness.specs.Bound.{steps_for}
use Rattle.sa_correctness.specs.Ends.{IsOrderly, Same}
use Rattle.sa_correctness.specs.Runnable.{IsRunnable}

-- `room` are the bytes that the program's objects may take, here and in what follows.

-- The program never gets stuck.
abbrev pub NeverStuck : (core : TypedProgram) → (room : ℕ) → Type 0
NeverStuck core room = (input : Input) (turns : ℕ) → run core input room turns ≢ Stuck

module _ (core : TypedProgram) (room : ℕ) (m : Module) where
  -- the most machine steps for so many turns of this program
  abbrev pub steps_within : (turns : ℕ) → ℕ
  steps_within turns = steps_for (program_of core) turns

  -- For every input the module gives the output and the end or fault that the source's semantics gives: where the program is over in
  -- some turns, its module is over within the bound's steps for them.
  abbrev pub PreservesSemantics : Type 0
  PreservesSemantics =
      (input : Input) (turns : ℕ) → IsOver (run core input room turns) →
      Same (program_positions core) (run core input room turns) (machine_run m input (steps_within turns))

  -- It gives only those: where the module is over within some steps, the program is over in as many turns.
  abbrev pub ReflectsSemantics : Type 0
  ReflectsSemantics =
      (input : Input) (steps : ℕ) → (machine_run m input steps).halt ≢ Running →
      Same (program_positions core) (run core input room steps) (machine_run m input steps)

  -- What the program puts out in some turns, its module has put out within the bound's steps for them, whether they end or not.
  abbrev pub PutsTheOutput : Type 0
  PutsTheOutput =
      (input : Input) (turns : ℕ) → IsPrefix (output core input room turns) (machine_run m input (steps_within turns)).output

  -- It puts out nothing else: what it has put out within some steps, the program puts out in as many turns.
  abbrev pub PutsNothingElse : Type 0
  PutsNothingElse = (input : Input) (steps : ℕ) → IsPrefix (machine_run m input steps).output (output core input room steps)

  -- Its module never traps, goes too deep or gets stuck.
  abbrev pub NeverTraps : Type 0
  NeverTraps = (input : Input) (steps : ℕ) → IsOrderly (machine_run m input steps).halt

  -- The module does what the program's semantics says: all of this.
  pub record IsFaithful : Type 0 where
    pub runnable : IsRunnable m
    pub gives : PreservesSemantics
    pub gives_only : ReflectsSemantics
    pub puts : PutsTheOutput
    pub puts_only : PutsNothingElse
    pub never_stuck : NeverStuck core room
    pub never_traps : NeverTraps

-- the bytes spell a module that does what the program's semantics says
pub record SpellsFaithful (core : TypedProgram) (room : ℕ) (bytes : List ℕ) : Type 0 where
  pub «module» : Module
  pub spelled : SpellsModule bytes «module»
  pub faithful : IsFaithful core room «module»
