-- What the answer of a run says.
use Rattle.std.specs.Prelude.{⊤}
use Rattle.wa_exec.specs.declared.halt.Halt.{Halt}
use Rattle.wa_exec.specs.declared.halt.Halt.TheVariants as halt
use Rattle.wa_exec.specs.declared.halt.StartFault.{StartFault}
use Rattle.wa_exec.specs.declared.halt.StartFault.TheVariants as start
use Rattle.wa_run.specs.declared.answer.Answer.{Answer}
use Rattle.wa_run.specs.declared.answer.Answer.TheVariants as answer

abbrev pub answer_of_halt : Halt → Answer
answer_of_halt (halt.Ended value) = answer.Ended value
answer_of_halt (halt.Stopped code site) = answer.Stopped code site
answer_of_halt (halt.Trap kind) = answer.Trap kind
answer_of_halt halt.Spent = answer.Spent
answer_of_halt halt.TooDeep = answer.TooDeep
answer_of_halt halt.InFault = answer.InFault
answer_of_halt halt.OutFault = answer.OutFault
answer_of_halt halt.NoMemory = answer.NoMemory

abbrev pub answer_of_start : StartFault → Answer
answer_of_start (start.Unlinked import) = answer.Unlinked import
answer_of_start start.Segment = answer.Segment
answer_of_start start.NoMemory = answer.NoMemory

-- the answer comes before the run, in which the module puts and gets
abbrev pub IsBeforeRun : Answer → Type 0
IsBeforeRun answer.Malformed = ⊤
IsBeforeRun (answer.Invalid func) = ⊤
IsBeforeRun (answer.Unlinked import) = ⊤
IsBeforeRun answer.Segment = ⊤
IsBeforeRun _ = ⊥

-- a fault is answered only where the source or the sink had one, as these propositions say
abbrev pub IsFaultReported : Answer → Type 0 → Type 0 → Type 0
IsFaultReported answer.InFault input_failed out_failed = input_failed
IsFaultReported answer.OutFault input_failed out_failed = out_failed
IsFaultReported _ input_failed out_failed = ⊤

-- the sink failed, as this proposition says, or memory ran out
abbrev pub IsOutage : Answer → Type 0 → Type 0
IsOutage answer.OutFault out_failed = out_failed
IsOutage answer.NoMemory out_failed = ⊤
IsOutage _ out_failed = ⊥
