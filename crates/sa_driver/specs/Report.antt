-- The exit of a call, and what err holds then.
use Rattle.std.specs.Prelude.{◌≡◌, ◌≢◌, ℕ, List, ◌⊎◌}
use Rattle.host_io.specs.Output.{Grew, Took, TookFront}
use Rattle.sa_trace.specs.declared.sinks.ErrStatus.{ErrStatus}
use Rattle.sa_trace.specs.declared.sinks.ErrStatus.TheVariants as listening
use Rattle.sa_cli.specs.Line.{asked_detail}
use Rattle.sa_cli.specs.declared.command.Detail.{Detail}
use Rattle.sa_cli.specs.declared.command.Detail.TheVariants.{Brief, Explained}
use Rattle.sa_driver.specs.Lines.{lines_of}
use Rattle.sa_driver.specs.HostParts.{Failed, IsUntouched, HostPart}
use Rattle.sa_driver.specs.Status.{status_of}
use Rattle.sa_driver.specs.declared.cause.Cause.{Cause}
use Rattle.sa_driver.specs.declared.cause.Cause.TheVariants as cause
use Rattle.sa_driver.specs.declared.cause.Exit.{Exit}
use Rattle.sa_driver.specs.declared.outcome.Outcome.{Outcome}

-- err took the line, whole unless it may have failed, and else a prefix of it
abbrev pub Reports : HostPart (List ℕ) → List ℕ → Type 0
Reports err line = Took err.before err.after line ⊎ (Failed err × TookFront err.before err.after line)

-- err took a prefix of the lines of the outcome, or of those of out of memory
abbrev pub ReportsPart : HostPart (List ℕ) → Outcome → Type 0
ReportsPart err outcome =
    TookFront err.before err.after (lines_of outcome outcome.cause) ⊎ TookFront err.before err.after (lines_of outcome cause.NoMemory)

-- this is the final cause, the outcome's or out of memory, and err took its lines
pub record IsReported (err : HostPart (List ℕ)) (outcome : Outcome) (ends : Cause) : Type 0 where
  pub occurs : (ends ≡ cause.NoMemory) ⊎ (ends ≡ outcome.cause)
  pub reported : ends ≢ cause.NoMemory → Reports err (lines_of outcome ends)
  pub reported_part : ends ≡ cause.NoMemory → ReportsPart err outcome

-- the same if err still listens. Where it failed at the trace, the final cause is the outcome's, and where it had no memory, out of memory;
-- then err takes nothing more
abbrev pub EndsWith : ErrStatus → (err : HostPart (List ℕ)) → Outcome → Cause → Type 0
EndsWith listening.Yes err outcome ends = IsReported err outcome ends
EndsWith listening.Failed err outcome ends = (ends ≡ outcome.cause) × IsUntouched err
EndsWith listening.NoMemory err outcome ends = (ends ≡ cause.NoMemory) × IsUntouched err

-- after the lines err took an explanation, or a prefix of it, where one is asked for, and nothing where none is
abbrev pub ReportsMore : Detail → (err : HostPart (List ℕ)) → Type 0
ReportsMore Brief err = IsUntouched err
ReportsMore Explained err = Grew err.before err.after

-- the same by what the arguments ask for
abbrev pub IsExplained : (words : List (List ℕ)) → (err : HostPart (List ℕ)) → Type 0
IsExplained words err = ReportsMore (asked_detail words) err

-- the exit has the final cause, its status and the outcome's module
pub record IsExitOf (outcome : Outcome) (err : HostPart (List ℕ)) (exit : Exit) : Type 0 where
  pub ends : EndsWith outcome.listening err outcome exit.cause
  pub done : exit.cause ≡ cause.Done → exit.status ≡ outcome.done
  pub status : exit.cause ≢ cause.Done → exit.status ≡ status_of exit.cause
  pub bytes : exit.«module» ≡ outcome.«module».items
