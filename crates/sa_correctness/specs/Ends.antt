-- When the run of a program and the run of its module end alike.
use Rattle.std.specs.Prelude.{◌≡◌, ℕ, ◌%◌, ◌^◌, List, slice_get, Option, Some, None, ⊤}
use Rattle.sa_ast.specs.declared.pos.Pos.{Pos}
use Rattle.sa_semantics.specs.Run.{End}
use Rattle.sa_semantics.specs.Run as source
use Rattle.wa_syntax.specs.Machine.{Halt}
use Rattle.wa_syntax.specs.Machine as machine
use Rattle.wa_syntax.specs.Runs.{Run}

-- the status of a module that ended: the low 8 bits of what `main` returned, and 0 where it returned nothing
abbrev pub status_of : Option ℕ → ℕ
status_of None = 0
status_of (Some value) = value % 2 ^ 8

-- The program and its module end alike, where the module names a position by its index in this list, and has put out these bytes.
-- Both end, with the same status; or both stop, by the same fault at the same position; or the input fails both. What they have put
-- out is the same. A program that is stuck or has spent its turns ends like no module, and a module that traps, goes too deep or still
-- runs like no program.
abbrev pub EndAlike : List Pos → List ℕ → End → Halt → Type 0
EndAlike places put (source.Ended output status) (machine.Ended value) = (output ≡ put) × (status ≡ status_of value)
EndAlike places put (source.Stopped output kind at) (machine.Stopped code site) =
    (output ≡ put) × (kind ≡ code) × (slice_get places site ≡ Some at)
EndAlike places put (source.InFault output) machine.InFault = output ≡ put
EndAlike places put _ _ = ⊥

-- the program's run and the module's are over, and the same
abbrev pub Same : List Pos → End → Run → Type 0
Same places end run = EndAlike places run.output end run.halt

-- the module ends as a program can, or it still runs: it doesn't trap, go too deep or get stuck
abbrev pub IsOrderly : Halt → Type 0
IsOrderly (machine.Trap kind) = ⊥
IsOrderly machine.TooDeep = ⊥
IsOrderly machine.Stuck = ⊥
IsOrderly _ = ⊤
