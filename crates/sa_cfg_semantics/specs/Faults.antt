-- Where raises and faults go.
use Rattle.std.specs.Prelude.{ℕ, ◌+◌, pos, Bool, false, not, ◌&&◌, ◌==◌, nat_le, if◌then◌else◌, [], ◌∷◌, length, slice_get, is_none}
use Rattle.std.specs.Option.{option_map_or}
use Rattle.sa_ast.specs.declared.fault_kind.FaultKind.{FaultKind}
use Rattle.sa_ast.specs.Faults.{fault_number}
use Rattle.sa_cfg.specs.declared.call.FaultExit.{FaultExit}
use Rattle.sa_cfg.specs.declared.call.Handler.{Handler}
use Rattle.sa_cfg.specs.declared.program.CfgProgram.{CfgProgram}
use Rattle.sa_semantics.specs.Value.{Value, Int, Ref, fault_type}
use Rattle.sa_semantics.specs.Sequence.{resolve, ◌>>=◌, ◌>>◌, pure, look, stop}
use Rattle.sa_semantics.specs.State.{Object}
use Rattle.sa_semantics.specs.Steps.{plain, object_size, can_be_caught, take_room, add_object}
use Rattle.sa_cfg_semantics.specs.Frames.{Transfer, To, Leaving, CallerFault, Cause, Faulted, Failed}
use Rattle.sa_cfg_semantics.specs.Counting.{Eval, lift, write, write_number, this}

-- to the block of a handler, with the raised value, the index of its position and the number of its kind in variables
abbrev pub raised : Handler → Value → ℕ → ℕ → Eval Transfer
raised to v place kind = do
  write to.value v
  write_number to.place place
  write_number to.kind kind
  pure (To to.block)

abbrev pub fault_object : FaultKind → ℕ → Object
fault_object kind line = plain fault_type (Int (pos (fault_number kind)) ∷ Int (pos line) ∷ []) []

abbrev pub raise_new : FaultExit → FaultKind → Eval Transfer
raise_new fail kind = do
  lift (take_room (object_size 2 0))
  number ← lift (add_object (fault_object kind fail.line))
  raised fail.raised (Ref number) fail.place (fault_number kind)

-- A fault that can't be caught stops the program, and so does each fault for whose object no room is left.
abbrev pub fault_here : FaultExit → FaultKind → Eval Transfer
fault_here fail kind = do
  room ← look (λ s. s.world.room)
  if can_be_caught kind && nat_le (object_size 2 0) room then raise_new fail kind else stop (Failed kind fail.place)

-- an adapter: a body without a feature, but not the last one
abbrev pub is_adapter : CfgProgram → ℕ → Bool
is_adapter p k = not (k + 1 == length p.bodies) && option_map_or (λ b. is_none b.feature) (slice_get p.bodies k) false

module _ (p : CfgProgram) where
  -- An adapter is left by its faults, which are those of the operation that entered it.
  abbrev pub fault : FaultExit → FaultKind → Eval Transfer
  fault fail kind = do
    here ← this
    if is_adapter p here.body then pure (Leaving (CallerFault kind)) else fault_here fail kind

  abbrev pub after_fault : FaultExit → Cause → Eval Transfer
  after_fault fail (Faulted kind) = fault fail kind
  after_fault fail cause = stop cause

  -- an operation that may fail
  abbrev pub guard : FaultExit → Eval Transfer → Eval Transfer
  guard fail f = resolve f pure (after_fault fail)
