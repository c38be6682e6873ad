-- What a command shows of the run of a module.
use Rattle.std.specs.Prelude.{◌≡◌, ◌≤◌, ℕ, ◌%◌, ◌^◌, List, [], Option, None, Some}
use Rattle.host_io.specs.Input.{Input}
use Rattle.sa_correctness.specs.Confined.{IsConfined}
use Rattle.sa_correctness.specs.Runnable.{IsRunnable}
use Rattle.sa_trace.specs.Writing.{sink}
use Rattle.sa_trace.specs.declared.sinks.ErrStatus.{ErrStatus}
use Rattle.sa_trace_run.specs.Traced.{AreReported, Sinks, sinks}
use Rattle.sa_ast.specs.declared.pos.Pos.{Pos}
use Rattle.wa_syntax.specs.declared.module.Module.{Module}
use Rattle.wa_syntax.specs.Binary.{SpellsModule}
use Rattle.wa_run.specs.Answers.{IsBeforeRun, IsFaultReported}
use Rattle.wa_run.specs.Modules.{SaysOf, SaysOfValid}
use Rattle.wa_run.specs.Runs.{HasRun, HasRunModule, streams}
use Rattle.wa_run.specs.Within.{HasRunWithin, SaysOfWithin}
use Rattle.wa_run.specs.declared.answer.Answer.{Answer}
use Rattle.wa_run.specs.declared.answer.Answer.TheVariants as answer
use Rattle.wa_run.specs.declared.module_run.RunResult.{RunResult}
use Rattle.sa_driver.specs.Ends.{cause_of}
use Rattle.sa_driver.specs.HostParts.{Failed, HostPart}
use Rattle.sa_driver.specs.declared.cause.Cause.{Cause}
use Rattle.sa_driver.specs.declared.exec.RunEnd.{RunEnd}
use Rattle.sa_driver.specs.declared.outcome.Outcome.{Outcome}

-- the status of a module that ended: the low 8 bits of what `main` returned, and 0 where it returned nothing
abbrev pub done_of : Answer → ℕ
done_of (answer.Ended (Some value)) = value % 2 ^ 8
done_of _ = 0

-- how a run with this fuel ended
abbrev pub ended_of : ℕ → RunResult → RunEnd
ended_of fuel run = record { cause = cause_of fuel run.answer; done = done_of run.answer; steps = run.steps; func = run.func }

-- the module of these bytes was run with this fuel: by the machine of the standard, on what the input gave, of which just what the run
-- reads was taken, to what out took
pub record IsRunOf (input : HostPart Input) (out : HostPart (List ℕ)) (bytes : List ℕ) (fuel : ℕ) (run : RunResult) : Type 0 where
  pub says : SaysOf bytes run.answer
  pub reported : IsFaultReported run.answer (Failed input) (Failed out)
  pub within : run.steps ≤ fuel
  pub ran : HasRun bytes fuel run (streams input.before out.before) (streams input.after out.after)

-- it was run in the same way with a memory of at most this many pages
pub record IsRunWithin (input : HostPart Input) (out : HostPart (List ℕ)) (pages : ℕ) (bytes : List ℕ) (fuel : ℕ) (run : RunResult) : Type 0 where
  pub says : SaysOfWithin pages bytes run.answer
  pub reported : IsFaultReported run.answer (Failed input) (Failed out)
  pub within : run.steps ≤ fuel
  pub ran : HasRunWithin pages bytes fuel run (streams input.before out.before) (streams input.after out.after)

-- it was run with this bound of its memory in pages, or with the module's own
abbrev pub IsRunBounded : HostPart Input → HostPart (List ℕ) → (pages : Option ℕ) → (bytes : List ℕ) → (fuel : ℕ) → RunResult → Type 0
IsRunBounded input out None bytes fuel run = IsRunOf input out bytes fuel run
IsRunBounded input out (Some pages) bytes fuel run = IsRunWithin input out pages bytes fuel run

-- this valid module was run in the same way with this fuel; where it can be run, it was started
pub record IsRunOfModule (input : HostPart Input) (out : HostPart (List ℕ)) (m : Module) (fuel : ℕ) (run : RunResult) : Type 0 where
  pub says : SaysOfValid m run.answer
  pub reported : IsFaultReported run.answer (Failed input) (Failed out)
  pub within : run.steps ≤ fuel
  pub ran : HasRunModule m fuel run (streams input.before out.before) (streams input.after out.after)
  pub starts : IsRunnable m → IsBeforeRun run.answer → ⊥

-- the outcome is that of the run: its cause is related to that of the module by this rule, and its status and its steps, where they are
-- shown, are the run's
pub record Shows (fuel : ℕ) (IsCause : (of_module : Cause) → (reported : Cause) → Type 0) (outcome : Outcome) (run : RunResult) : Type 0 where
  pub cause : IsCause (cause_of fuel run.answer) outcome.cause
  pub done : outcome.done ≡ done_of run.answer
  pub steps : (steps : ℕ) → outcome.steps ≡ Some steps → steps ≡ run.steps

-- the module of the outcome was run with this bound of its memory and this fuel, and the outcome is that of the run
abbrev pub Ran : HostPart Input → HostPart (List ℕ) → (pages : Option ℕ) → (fuel : ℕ)
    → ((of_module : Cause) → (reported : Cause) → Type 0) → Outcome → Type 0
Ran input out pages fuel IsCause outcome =
    (run : RunResult) × IsRunBounded input out pages outcome.«module».items fuel run × Shows fuel IsCause outcome run

-- the bytes of the outcome spell a module that can be run and is confined, with this room in KiB; it was run with this fuel, and the
-- outcome is that of the run
pub record RanBuilt (input : HostPart Input) (out : HostPart (List ℕ)) (room fuel : ℕ)
    (IsCause : (of_module : Cause) → (reported : Cause) → Type 0) (outcome : Outcome) : Type 0 where
  pub built : Module
  pub spelled : SpellsModule outcome.«module».items built
  pub runnable : IsRunnable built
  pub confined : IsConfined room built
  pub run : RunResult
  pub of_module : IsRunOfModule input out built fuel run
  pub of_bytes : IsRunOf input out outcome.«module».items fuel run
  pub shows : Shows fuel IsCause outcome run

-- the output of a traced module itself, which takes these bytes, and fails where out does
abbrev pub framed_output : (out : HostPart (List ℕ)) → (framed : List ℕ) → HostPart (List ℕ)
framed_output out framed =
    record { before = Some []; after = Some framed; faults_before = out.faults_before; faults_after = out.faults_after }

-- out and err before and after, and whether err still listens
abbrev pub sinks_of : (out err : HostPart (List ℕ)) → ErrStatus → Sinks
sinks_of out err listening =
    sinks (sink out.before out.faults_before) (sink out.after out.faults_after) (sink err.before err.faults_before)
    (sink err.after err.faults_after) listening

-- the module of the outcome, a traced one, was run in this way: the bytes of its output are frames, where the sites of the program have
-- these positions, and out and err took what the frames say
pub record RanTraced (input : HostPart Input) (out err : HostPart (List ℕ)) (room fuel : ℕ)
    (IsCause : (of_module : Cause) → (reported : Cause) → Type 0) (sites : List Pos) (outcome : Outcome) : Type 0 where
  pub framed : List ℕ
  pub ran : RanBuilt input (framed_output out framed) room fuel IsCause outcome
  pub reported : AreReported sites outcome.sources framed (sinks_of out err outcome.listening) ran.run.answer
