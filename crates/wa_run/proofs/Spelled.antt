-- What is said of a module, said of the bytes that spell it.
use Rattle.std.proofs.Common.{◌≡◌, ◌⊎◌, ℕ, List, inl, inr, refl}
use Rattle.wa_syntax.specs.declared.module.Module.{Module}
use Rattle.wa_syntax.specs.Binary.{SpellsModule}
use Rattle.wa_syntax.specs.ValidModule.{IsValid}
use Rattle.wa_decode.proofs.OneModule.{one-module}
use Rattle.wa_exec.specs.declared.halt.StartFault.{StartFault}
use Rattle.wa_exec.specs.declared.halt.StartFault.TheVariants as start
use Rattle.wa_exec.specs.Links.{IsUnstartable}
use Rattle.wa_run.specs.Answers.{IsBeforeRun, answer_of_start}
use Rattle.wa_run.specs.declared.answer.Answer.TheVariants as answer
use Rattle.wa_run.specs.declared.module_run.RunResult.{RunResult}
use Rattle.wa_run.specs.Modules.{SaysOf}
use Rattle.wa_run.specs.Runs.{HasRun, HasRunModule, Streams}
use Rattle.wa_run.proofs.Runs.{passed-spelled}

-- its run
pub run-spelled : (bytes : List ℕ) (m : Module) (fuel : ℕ) (run : RunResult) (before after : Streams) → SpellsModule bytes m → HasRunModule m fuel run before after → HasRun bytes fuel run before after
run-spelled bytes m fuel run before after spelled = passed-spelled bytes m fuel run before after (λ n other. one-module bytes n m other spelled)

-- why it can't be started
pub says_unstartable : (bytes : List ℕ) (m : Module) (fault : StartFault) → SpellsModule bytes m → IsValid m → IsUnstartable m fault → SaysOf bytes (answer_of_start fault)
says_unstartable bytes m (start.Unlinked import) spelled valid unstartable = (m, spelled, valid, unstartable)
says_unstartable bytes m start.Segment spelled valid unstartable = (m, spelled, valid, unstartable)
says_unstartable bytes m start.NoMemory spelled valid unstartable = tt

-- nothing was run then, or memory ran out
pub before_unstartable : (fault : StartFault) → IsBeforeRun (answer_of_start fault) ⊎ (answer_of_start fault ≡ answer.NoMemory)
before_unstartable (start.Unlinked import) = inl tt
before_unstartable start.Segment = inl tt
before_unstartable start.NoMemory = inr refl
