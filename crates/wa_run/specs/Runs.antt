-- What an answer says of the run of the standard's machine.
use Rattle.std.specs.Prelude.{◌≡◌, ◌≢◌, ℕ, ◌≤◌, ◌⊎◌, List, [], ◌++◌, Option, Some, None, option_map}
use Rattle.host_io.specs.declared.source.Take.{Take}
use Rattle.host_io.specs.Input as source
use Rattle.host_io.specs.Output.{Took, TookFront}
use Rattle.wa_syntax.specs.declared.module.Module.{Module}
use Rattle.wa_syntax.specs.Binary.{SpellsModule}
use Rattle.wa_syntax.specs.Machine.{Input, Halt}
use Rattle.wa_syntax.specs.Machine as standard
use Rattle.wa_syntax.specs.Runs.{machine_run}
use Rattle.wa_exec.specs.Interaction.{Any}
use Rattle.wa_exec.specs.Reading.{Gave, AreRead, Reads, Fails, input_left}
use Rattle.wa_run.specs.declared.answer.Answer.{Answer}
use Rattle.wa_run.specs.declared.answer.Answer.TheVariants as answer
use Rattle.wa_run.specs.declared.module_run.RunResult.{RunResult}

-- what an input has left and what an output has taken, where they say
pub record Streams : Type 0 where
  pub input : Option source.Input
  pub output : Option (List ℕ)

abbrev pub streams : Option source.Input → Option (List ℕ) → Streams
streams input output = record { input = input; output = output }

module _ (m : Module) (answers : List Take) (delivered : List ℕ) where
  -- whatever input gives these answers and goes on so, the run within so many instructions ends so and reads just these answers,
  -- and what was flushed is its output
  abbrev pub IsRun : (fuel : ℕ) → Halt → (steps : ℕ) → (Comes : Input → Type 0) → Type 0
  IsRun fuel halt steps Comes =
      (input rest : Input) → Reads input answers rest → Comes rest →
      (machine_run m input fuel ≡ record { halt = halt; steps = steps; output = delivered }) × (input_left m input fuel ≡ rest)

  -- whatever input gives these answers, a run of so many instructions or more reads them first, and its output begins with what was
  -- flushed
  abbrev pub IsFront : (steps : ℕ) → Type 0
  IsFront steps =
      (input rest : Input) (most : ℕ) → Reads input answers rest → steps ≤ most →
      ((further : List Take) × Reads rest further (input_left m input most))
      × ((more : List ℕ) × ((machine_run m input most).output ≡ delivered ++ more))

  -- nothing is read and nothing flushed
  abbrev pub IsNothing : Type 0
  IsNothing = (answers ≡ []) × (delivered ≡ [])

  -- by the answer, with so much fuel and after so many steps
  abbrev pub IsAnswered : (fuel : ℕ) → Answer → (steps : ℕ) → Type 0
  IsAnswered fuel answer.Malformed steps = IsNothing
  IsAnswered fuel (answer.Invalid func) steps = IsNothing
  IsAnswered fuel (answer.Unlinked import) steps = IsNothing
  IsAnswered fuel answer.Segment steps = IsNothing
  IsAnswered fuel (answer.Ended value) steps = IsRun fuel (standard.Ended value) steps Any
  IsAnswered fuel (answer.Stopped code site) steps = IsRun fuel (standard.Stopped code site) steps Any
  IsAnswered fuel (answer.Trap kind) steps = IsRun fuel (standard.Trap kind) steps Any
  IsAnswered fuel answer.TooDeep steps = IsRun fuel standard.TooDeep steps Any
  IsAnswered fuel answer.Spent steps = IsRun fuel standard.Running steps Any
  IsAnswered fuel answer.InFault steps = IsRun fuel standard.InFault steps Fails
  IsAnswered fuel answer.OutFault steps = IsFront steps
  IsAnswered fuel answer.NoMemory steps = IsFront steps

-- the source gave answers, as some input does, and the sink took bytes, and this holds of them
pub record Transcript (before after : Streams) (Holds : (answers : List Take) → (delivered : List ℕ) → Type 0) : Type 0 where
  pub answers : List Take
  pub gave : Gave answers before.input after.input
  pub read : AreRead answers
  pub delivered : List ℕ
  pub took : Took before.output after.output delivered
  pub holds : Holds answers delivered

-- what the run of a module was
abbrev pub HasRunModule : Module → (fuel : ℕ) → RunResult → (before after : Streams) → Type 0
HasRunModule m fuel run before after = Transcript before after (λ answers delivered. IsAnswered m answers delivered fuel run.answer run.steps)

-- what the run of the module that the bytes spell was
abbrev pub HasRun : (bytes : List ℕ) → (fuel : ℕ) → RunResult → (before after : Streams) → Type 0
HasRun bytes fuel run before after =
    Transcript before after (λ answers delivered. (m : Module) → SpellsModule bytes m → IsAnswered m answers delivered fuel run.answer run.steps)

-- ---- where the source says what it has left

-- how a run of the standard ends that is answered so, where neither the source nor the sink fails and memory doesn't run out
abbrev pub halt_of : Answer → Option Halt
halt_of (answer.Ended value) = Some (standard.Ended value)
halt_of (answer.Stopped code site) = Some (standard.Stopped code site)
halt_of (answer.Trap kind) = Some (standard.Trap kind)
halt_of answer.TooDeep = Some standard.TooDeep
halt_of answer.Spent = Some standard.Running
halt_of _ = None

-- the input of these bytes, which never fails
abbrev pub input_of : source.Input → Input
input_of given = record { bytes = given.left; ends = None }

-- the run is that of the standard over the bytes that the source has left, of which it leaves the same, and the sink takes its output
abbrev pub IsStandardModuleRun : Module → (fuel : ℕ) → RunResult → (before after : Streams) → Type 0
IsStandardModuleRun m fuel run before after =
    (given : source.Input) (halt : Halt) → before.input ≡ Some given → halt_of run.answer ≡ Some halt →
    let whole = machine_run m (input_of given) fuel in
    (whole.halt ≡ halt) × (whole.steps ≡ run.steps) × Took before.output after.output whole.output
    × (option_map (λ (i : source.Input). i.left) after.input ≡ Some (input_left m (input_of given) fuel).bytes)

-- so of the module that the bytes spell
abbrev pub IsStandardRun : (bytes : List ℕ) → (fuel : ℕ) → RunResult → (before after : Streams) → Type 0
IsStandardRun bytes fuel run before after = (m : Module) → SpellsModule bytes m → IsStandardModuleRun m fuel run before after

-- ---- the output that is buffered at the end

-- the buffered bytes are flushed, and the answer stays; or the sink takes a prefix of them alone
abbrev pub IsFlushed : (given result : Answer) → (held : List ℕ) → (before after : Option (List ℕ)) → Type 0
IsFlushed given result held before after =
    ((result ≡ given) × Took before after held)
    ⊎ ((held ≢ []) × ((result ≡ answer.OutFault) ⊎ (result ≡ answer.NoMemory)) × TookFront before after held)

-- the answer at the end, from the one before the flush. After a fault of the sink, or where it had no memory, nothing more is flushed
abbrev pub IsClosed : (given result : Answer) → (held : List ℕ) → (before after : Option (List ℕ)) → Type 0
IsClosed answer.OutFault result held before after = (result ≡ answer.OutFault) × (after ≡ before)
IsClosed answer.NoMemory result held before after = (result ≡ answer.NoMemory) × (after ≡ before)
IsClosed given result held before after = IsFlushed given result held before after
