-- Terminators: where each leads.
use Rattle.std.specs.Prelude.{ℕ, if◌then◌else◌, Option, Some, None}
use Rattle.sa_cfg.specs.declared.operation.Terminator.{Terminator}
use Rattle.sa_cfg.specs.declared.operation.Terminator.TheVariants.{Jump, Branch, Return, Suspend, Quit, Raise, Fault}
use Rattle.sa_cfg.specs.declared.program.CfgProgram.{CfgProgram}
use Rattle.sa_semantics.specs.Value.{Value, as_int, as_truth}
use Rattle.sa_semantics.specs.Sequence.{◌>>=◌, ◌>>◌, pure, or_stuck, at_index}
use Rattle.sa_semantics.specs.Builtin.{index_of}
use Rattle.sa_cfg_semantics.specs.Frames.{Frame, Activation, Returned, Suspended, Ended, Raised, Transfer, To, Leaving}
use Rattle.sa_cfg_semantics.specs.Counting.{Eval, count, read, this}
use Rattle.sa_cfg_semantics.specs.Faults.{fault}
use Rattle.sa_cfg_semantics.specs.Instances.{frame_at, set_frame}

abbrev pub value_of : Option ℕ → Eval (Option Value)
value_of None = pure None
value_of (Some var) = read var >>= (λ v. pure (Some v))

abbrev pub number_in : ℕ → Eval ℕ
number_in var = do
  v ← read var
  z ← or_stuck (as_int v)
  pure (index_of z)

abbrev pub branch : ℕ → ℕ → ℕ → Eval Transfer
branch test first second = do
  v ← read test
  b ← or_stuck (as_truth v)
  pure (To (if b then first else second))

abbrev pub suspend_at : ℕ → Activation → Frame → Frame
suspend_at block here frame = record frame { block = block; variables = here.variables; sites = here.sites }

module _ (p : CfgProgram) where
  -- The instance is saved in its frame, with a CFG step for each site. Where the body names no block, the frame stays as it is.
  abbrev pub store : ℕ → Option ℕ → Eval (Unit {0})
  store number None = pure tt
  store number (Some block) = do
    here ← this
    b ← at_index p.bodies here.body
    frame ← frame_at number
    count b.sites
    set_frame number (Some (suspend_at block here frame))

  abbrev pub suspend : Option ℕ → Option ℕ → Eval Transfer
  suspend value resume = do
    v ← value_of value
    here ← this
    number ← or_stuck here.frame
    store number resume
    pure (Leaving (Suspended v number))

  abbrev pub exit : Terminator → Eval Transfer
  exit (Jump block) = pure (To block)
  exit (Branch test first second) = branch test first second
  exit (Return value) = value_of value >>= (λ v. pure (Leaving (Returned v)))
  exit (Suspend value resume) = suspend value resume
  exit Quit = pure (Leaving Ended)
  exit (Raise value place kind) = do
    v ← read value
    at ← number_in place
    k ← number_in kind
    pure (Leaving (Raised v at k))
  exit (Fault kind fail) = fault p fail kind
