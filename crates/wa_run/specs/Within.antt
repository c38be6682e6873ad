-- The run of a module whose memory has a bound that isn't the module's.
use Rattle.std.specs.Prelude.{ℕ, List, map, min, Some, ⊤}
use Rattle.std.specs.Option.{option_map_or}
use Rattle.wa_syntax.specs.declared.module.Limits.{Limits}
use Rattle.wa_syntax.specs.declared.module.Module.{Module}
use Rattle.wa_syntax.specs.Binary.{SpellsModule}
use Rattle.wa_syntax.specs.ValidModule.{IsValid}
use Rattle.wa_valid.specs.declared.fault.ValidFault.TheVariants as valid
use Rattle.wa_valid.specs.Verdict.{IsRefused}
use Rattle.wa_run.specs.Modules.{SaysOfValid}
use Rattle.wa_run.specs.Runs.{IsAnswered, Transcript, Streams}
use Rattle.wa_run.specs.declared.answer.Answer.{Answer}
use Rattle.wa_run.specs.declared.answer.Answer.TheVariants as answer
use Rattle.wa_run.specs.declared.module_run.RunResult.{RunResult}

-- limits of at most so many pages
abbrev pub limits_within : ℕ → Limits → Limits
limits_within pages limits = record { min = limits.min; max = Some (option_map_or (min pages) limits.max pages) }

-- the module with a memory of at most so many pages
abbrev pub within : ℕ → Module → Module
within pages m = record m { memories = map (limits_within pages) m.memories }

-- the bytes spell a module that is valid with such a memory, and of which the answer says this
abbrev pub SaysOfSpelledWithin : ℕ → List ℕ → Answer → Type 0
SaysOfSpelledWithin pages bytes answer =
    (m : Module) × SpellsModule bytes m × IsValid (within pages m) × SaysOfValid (within pages m) answer

-- what the answer says of the bytes: as `SaysOf`, where the memory is such a one
abbrev pub SaysOfWithin : ℕ → List ℕ → Answer → Type 0
SaysOfWithin pages bytes answer.Malformed = (m : Module) → ¬ SpellsModule bytes m
SaysOfWithin pages bytes (answer.Invalid func) = (m : Module) × SpellsModule bytes m × IsRefused (within pages m) (valid.Invalid func)
SaysOfWithin pages bytes answer.NoMemory = ⊤
SaysOfWithin pages bytes answer = SaysOfSpelledWithin pages bytes answer

-- what the run of the module that the bytes spell was, with such a memory
abbrev pub HasRunWithin : ℕ → (bytes : List ℕ) → (fuel : ℕ) → RunResult → (before after : Streams) → Type 0
HasRunWithin pages bytes fuel run before after =
    Transcript before after
    (λ answers delivered. (m : Module) → SpellsModule bytes m → IsAnswered (within pages m) answers delivered fuel run.answer run.steps)
