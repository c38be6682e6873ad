-- What an answer says of the bytes that were to be run.
use Rattle.std.specs.Prelude.{◌≡◌, ℕ, List, Some, ⊤}
use Rattle.wa_syntax.specs.declared.module.Module.{Module}
use Rattle.wa_syntax.specs.Binary.{SpellsModule}
use Rattle.wa_syntax.specs.Runs.{unlinked, IsLinked, SegmentsFit}
use Rattle.wa_syntax.specs.ValidModule.{IsValid}
use Rattle.wa_valid.specs.declared.fault.ValidFault.TheVariants as valid
use Rattle.wa_valid.specs.Verdict.{IsRefused}
use Rattle.wa_run.specs.declared.answer.Answer.{Answer}
use Rattle.wa_run.specs.declared.answer.Answer.TheVariants as answer

-- what the answer says of a valid module: it has an import that isn't linked, or is linked and a segment doesn't fit, or it is run
abbrev pub SaysOfValid : Module → Answer → Type 0
SaysOfValid m answer.Malformed = ⊥
SaysOfValid m (answer.Invalid func) = ⊥
SaysOfValid m (answer.Unlinked import) = unlinked m ≡ Some import
SaysOfValid m answer.Segment = IsLinked m × ¬ SegmentsFit m
SaysOfValid m answer.NoMemory = ⊤
SaysOfValid m _ = IsLinked m × SegmentsFit m

-- the bytes spell a valid module of which the answer says this
abbrev pub SaysOfSpelled : List ℕ → Answer → Type 0
SaysOfSpelled bytes answer = (m : Module) × SpellsModule bytes m × IsValid m × SaysOfValid m answer

-- what the answer says of the bytes: they spell no module, or one that isn't valid, or a valid one of which it says more
abbrev pub SaysOf : List ℕ → Answer → Type 0
SaysOf bytes answer.Malformed = (m : Module) → ¬ SpellsModule bytes m
SaysOf bytes (answer.Invalid func) = (m : Module) × SpellsModule bytes m × IsRefused m (valid.Invalid func)
SaysOf bytes answer.NoMemory = ⊤
SaysOf bytes answer = SaysOfSpelled bytes answer
