-- The variables of an iter that are saved while it is suspended.
use Rattle.std.specs.Prelude.{◌≡◌, ℕ, ◌<◌, ◌⊎◌, Bool, true, false, IsTrue, if◌then◌else◌, List}
use Rattle.std.specs.Prelude.{[], ◌∷◌, ◌++◌, Option, Some, None, slice_get, Contains, filter_map}
use Rattle.sa_ast.specs.declared.ty.Mode.{Mode}
use Rattle.sa_ast.specs.declared.ty.Mode.TheVariants as mode
use Rattle.sa_cfg.specs.declared.body.BasicBlock.{BasicBlock}
use Rattle.sa_cfg.specs.declared.body.CfgBody.{CfgBody}
use Rattle.sa_cfg.specs.declared.body.BodyParam.{BodyParam}
use Rattle.sa_cfg.specs.declared.call.CallOperand.{CallOperand}
use Rattle.sa_cfg.specs.declared.call.Handler.{Handler}
use Rattle.sa_cfg.specs.declared.operation.Terminator.{Terminator}
use Rattle.sa_cfg.specs.declared.operation.Terminator.TheVariants.{Jump, Branch, Return, Suspend, Raise, Fault}
use Rattle.sa_cfg.specs.declared.operation.CfgOperation.{CfgOperation}
use Rattle.sa_cfg.specs.declared.operation.CfgOperation.TheVariants.{Const, Move, SelfRef, IsVoid, New, NewArray, SetElement, Box}
use Rattle.sa_cfg.specs.declared.operation.CfgOperation.TheVariants.{BoxFor, Unbox, TypeIs, CheckNotVoid, InitShared, Call}
use Rattle.sa_cfg.specs.declared.operation.CfgOperation.TheVariants.{Bind, HasInstance, Start, Resume, HasFrame, Enter, SetException}

-- ---- arguments

-- whether a call or a start passes a value for it
abbrev pub is_passed : Mode → Bool
is_passed mode.Out = false
is_passed _ = true

-- whether a resumption passes a value for it
abbrev pub is_passed_on_resume : Mode → Bool
is_passed_on_resume mode.In = true
is_passed_on_resume mode.Inout = true
is_passed_on_resume _ = false

abbrev pub is_copied_back : Mode → Bool
is_copied_back mode.Out = true
is_copied_back mode.Inout = true
is_copied_back _ = false

-- an `out` argument is void at each resumption
abbrev pub is_set_anew : Mode → Bool
is_set_anew mode.Once = false
is_set_anew _ = true

-- the variables of the arguments of a call that have such a mode
abbrev pub with_mode : (Mode → Bool) → List CallOperand → List ℕ
with_mode p args = filter_map (λ a. if p a.mode then a.var else None) args

-- that the variable is an argument of the body that has such a mode
abbrev pub IsArgument : (Mode → Bool) → CfgBody → ℕ → Type 0
IsArgument p b v = (formal : BodyParam) × (slice_get b.formals v ≡ Some formal) × IsTrue (p formal.mode)

abbrev pub one_or_none : Option ℕ → List ℕ
one_or_none None = []
one_or_none (Some v) = v ∷ []

-- ---- operations

abbrev pub read_by : CfgOperation → List ℕ
read_by (Move to from) = from ∷ []
read_by (IsVoid to from) = from ∷ []
read_by (NewArray to ty count fail) = count ∷ []
read_by (SetElement array ty at value) = array ∷ at ∷ value ∷ []
read_by (Box to from ty fail) = from ∷ []
read_by (BoxFor to from ty recv types fail) = from ∷ recv ∷ []
read_by (Unbox to from ty) = from ∷ []
read_by (TypeIs to from ty) = from ∷ []
read_by (CheckNotVoid from fail) = from ∷ []
read_by (InitShared shared from) = from ∷ []
read_by (Call plan) = plan.recv ∷ with_mode is_passed plan.args
read_by (Bind plan entry) = plan.recv ∷ with_mode (λ _. true) plan.args
read_by (Start site plan quit) = plan.recv ∷ with_mode is_passed plan.args
read_by (Resume site plan quit) = with_mode is_passed_on_resume plan.args
read_by (Enter body recv args value quit) = recv ∷ with_mode is_passed args
read_by (SetException value place to) = value ∷ []
read_by _ = []

-- the variables that a raise sets
abbrev pub set_by_raise : Handler → List ℕ
set_by_raise to = to.value ∷ to.place ∷ to.kind ∷ []

-- a start and a resumption don't count for their arguments: where the instance ends, nothing is copied out
abbrev pub set_by : CfgOperation → List ℕ
set_by (Const to value) = to ∷ []
set_by (Move to from) = to ∷ []
set_by (SelfRef to) = to ∷ []
set_by (IsVoid to from) = to ∷ []
set_by (New to ty fail) = to ∷ []
set_by (NewArray to ty count fail) = to ∷ []
set_by (Box to from ty fail) = to ∷ []
set_by (BoxFor to from ty recv types fail) = to ∷ []
set_by (Unbox to from ty) = to ∷ []
set_by (TypeIs to from ty) = to ∷ []
set_by (Call plan) = one_or_none plan.value ++ with_mode is_copied_back plan.args
set_by (Bind plan entry) = one_or_none plan.value
set_by (HasInstance to site) = to ∷ []
set_by (Start site plan quit) = quit ∷ one_or_none plan.value
set_by (Resume site plan quit) = quit ∷ one_or_none plan.value
set_by (HasFrame to) = to ∷ []
set_by (Enter body recv args value quit) = quit ∷ one_or_none value
set_by (SetException value place to) = set_by_raise to
set_by _ = []

-- the handler to which a fault or a raise of an operation goes
abbrev pub raised_by : CfgOperation → Option Handler
raised_by (New to ty fail) = Some fail.raised
raised_by (NewArray to ty count fail) = Some fail.raised
raised_by (Box to from ty fail) = Some fail.raised
raised_by (BoxFor to from ty recv types fail) = Some fail.raised
raised_by (CheckNotVoid from fail) = Some fail.raised
raised_by (Call plan) = Some plan.fail.raised
raised_by (Bind plan entry) = Some plan.fail.raised
raised_by (Start site plan quit) = Some plan.fail.raised
raised_by (Resume site plan quit) = Some plan.fail.raised
raised_by _ = None

-- ---- terminators

abbrev pub IsReadBy : CfgBody → Terminator → ℕ → Type 0
IsReadBy b (Branch test first second) v = v ≡ test
IsReadBy b (Return value) v = Contains (one_or_none value) v ⊎ IsArgument is_copied_back b v
IsReadBy b (Suspend value resume) v = Contains (one_or_none value) v ⊎ IsArgument is_copied_back b v
IsReadBy b (Raise value place kind) v = Contains (value ∷ place ∷ kind ∷ []) v
IsReadBy b _ v = ⊥

-- the blocks in which a body goes on without a suspension
abbrev pub next_of : Terminator → List ℕ
next_of (Jump to) = to ∷ []
next_of (Branch test first second) = first ∷ second ∷ []
next_of (Fault kind fail) = fail.raised.block ∷ []
next_of _ = []

-- the variables that a terminator sets
abbrev pub set_by_terminator : Terminator → List ℕ
set_by_terminator (Fault kind fail) = set_by_raise fail.raised
set_by_terminator _ = []

-- the block in which it goes on after a suspension
abbrev pub resume_of : Terminator → List ℕ
resume_of (Suspend value resume) = one_or_none resume
resume_of _ = []

-- ---- paths

-- On some path from here, where these operations and this terminator come next, the variable is read, and not set before. A raise leaves a
-- block before its operation sets anything, and sets variables of its own.
pub data IsLive (b : CfgBody) (v : ℕ) : List CfgOperation → Terminator → Type 0 where
  read : (step : CfgOperation) (more : List CfgOperation) (exit : Terminator) → Contains (read_by step) v → IsLive b v (step ∷ more) exit
  passed : (step : CfgOperation) (more : List CfgOperation) (exit : Terminator) → ¬ (Contains (set_by step) v) → IsLive b v more exit
      → IsLive b v (step ∷ more) exit
  raised : (step : CfgOperation) (more : List CfgOperation) (exit : Terminator) (to : Handler) (block : BasicBlock)
      → raised_by step ≡ Some to → ¬ (Contains (set_by_raise to) v)
      → slice_get b.blocks to.block ≡ Some block → IsLive b v block.steps block.exit
      → IsLive b v (step ∷ more) exit
  read_last : (exit : Terminator) → IsReadBy b exit v → IsLive b v [] exit
  left : (exit : Terminator) (to : ℕ) (block : BasicBlock) → Contains (next_of exit) to → ¬ (Contains (set_by_terminator exit) v)
      → slice_get b.blocks to ≡ Some block → IsLive b v block.steps block.exit → IsLive b v [] exit
  resumed : (exit : Terminator) (to : ℕ) (block : BasicBlock) → Contains (resume_of exit) to → slice_get b.blocks to ≡ Some block
      → ¬ (IsArgument is_set_anew b v) → IsLive b v block.steps block.exit → IsLive b v [] exit

-- where a block of the body suspends it and the variable is live in the block in which it goes on, unless it is set anew
pub record IsSaved (b : CfgBody) (v : ℕ) : Type 0 where
  pub number : ℕ
  pub suspending : BasicBlock
  pub is_block : slice_get b.blocks number ≡ Some suspending
  pub to : ℕ
  pub resumed : BasicBlock
  pub goes_on : Contains (resume_of suspending.exit) to
  pub is_resumed : slice_get b.blocks to ≡ Some resumed
  pub kept : ¬ (IsArgument is_set_anew b v)
  pub live : IsLive b v resumed.steps resumed.exit
  pub own : v < 200
