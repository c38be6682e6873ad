-- Calls, one rule each: of a function of the module's own, of one of the host's, and through the table.
use Rattle.std.proofs.Common.{◌≡◌, ℕ, zero, ◌-◌, ◌^◌, ◌%◌, Bool, true, false, List, [], ◌∷◌, ◌++◌, length, slice_get, Option, Some, None}
use Rattle.std.proofs.Common.{ap, ◌∙◌}
use Rattle.std.specs.Prelude.{nat_lt, nat_le, if◌then◌else◌, reverse, take, drop, replicate}
use Rattle.wa_syntax.specs.declared.module.Func.{Func}
use Rattle.wa_syntax.specs.declared.module.FuncTy.{FuncTy}
use Rattle.wa_syntax.specs.declared.module.Import.{Import}
use Rattle.wa_syntax.specs.declared.module.Module.{Module}
use Rattle.wa_syntax.specs.declared.trap.TrapKind.{TrapKind}
use Rattle.wa_syntax.specs.Instructions.{Call, CallIndirect, Sequence, ◌then◌, sequence}
use Rattle.wa_syntax.specs.Machine.{Activation, State, Trap, Stopped, InFault, TooDeep, Stuck, Gives, Leaves, and_then, bind}
use Rattle.wa_syntax.specs.Machine.{pure, leave, or_leave, as_i32}
use Rattle.wa_syntax.specs.Operations.{activate, depth}
use Rattle.wa_syntax.specs.Hosts.{HostFunction, Put, Get, Stop, host_of, has_type, call_host}
use Rattle.wa_syntax.specs.Steps.{execute, call, call_own, call_import, called}
use Rattle.wa_runs.specs.RunsTo.{RunsTo, HaltsWith}
use Rattle.wa_runs.proofs.Composition.{runs-by, halts-by}

-- ---- functions of the module's own

-- the function of this index has this type, so many locals besides its parameters, and this body
pub record IsFunction (m : Module) (func : ℕ) (ty : FuncTy) (locals : ℕ) (body : Sequence) : Type 0 where
  pub enters : (s : State) → execute m (Call func) s ≡ activate ty locals body s

-- where the module has it
pub is-function : (m : Module) (func : ℕ) (f : Func) (ty : FuncTy) → nat_lt func (length m.imports) ≡ false →
    slice_get m.funcs (func - length m.imports) ≡ Some f → slice_get m.types f.ty ≡ Some ty →
    IsFunction m func ty (length f.locals) (sequence f.body)
unfolding bind
is-function m func f ty own is typed = record {
  enters = λ s.
      (ap
      (λ (b : Bool).
      (if b then call_import m (slice_get m.imports func) else call_own m (slice_get m.funcs (func - length m.imports))) s)
      own ∙
      ap (λ o. call_own m o s) is ∙
      ap (λ o. and_then (or_leave Stuck o s) (λ t. activate t (length f.locals) (sequence f.body))) typed);
}

-- the state in which it begins: its arguments are its first locals, and the others are 0
abbrev pub entered : FuncTy → (locals : ℕ) → (body rest : Sequence) → State → State
entered ty locals body rest s = record s {
  code = body;
  operands = [];
  locals = reverse (take (length ty.params) s.operands) ++ replicate locals 0;
  stack = Activation (length ty.results) rest (drop (length ty.params) s.operands) s.locals ∷ s.stack;
}

pub runs-call : (m : Module) (s : State) (func : ℕ) (ty : FuncTy) (locals : ℕ) (body rest : Sequence) → IsFunction m func ty locals body →
    nat_le 40000 (depth s.stack) ≡ false → RunsTo m 1 (record s { code = Call func then rest }) (entered ty locals body rest s)
runs-call m s func ty locals body rest is few =
    runs-by m (Call func) rest s (entered ty locals body rest s)
    (is.enters (record s { code = rest }) ∙
    ap (λ (b : Bool). if b then Leaves TooDeep (record s { code = rest }) else Gives tt (entered ty locals body rest s)) few)

-- one call too deep
pub halts-call : (m : Module) (s : State) (func : ℕ) (ty : FuncTy) (locals : ℕ) (body rest : Sequence) → IsFunction m func ty locals body →
    nat_le 40000 (depth s.stack) ≡ true → HaltsWith m 1 (record s { code = Call func then rest }) TooDeep (record s { code = rest })
halts-call m s func ty locals body rest is deep =
    halts-by m (Call func) rest s (record s { code = rest }) TooDeep
    (is.enters (record s { code = rest }) ∙
    ap (λ (b : Bool). if b then Leaves TooDeep (record s { code = rest }) else Gives tt (entered ty locals body rest s)) deep)

-- ---- functions of the host

-- the function of this index is this one of the host's
pub record IsHost (m : Module) (func : ℕ) (f : HostFunction) : Type 0 where
  pub calls : (s : State) → execute m (Call func) s ≡ call_host f s

-- where the module imports it
pub is-host : (m : Module) (func : ℕ) (import : Import) (f : HostFunction) → nat_lt func (length m.imports) ≡ true →
    slice_get m.imports func ≡ Some import → host_of m import ≡ Some f → IsHost m func f
unfolding bind
is-host m func import f imported is asked = record {
  calls = λ s.
      (ap
      (λ (b : Bool).
      (if b then call_import m (slice_get m.imports func) else call_own m (slice_get m.funcs (func - length m.imports))) s)
      imported ∙
      ap (λ o. call_import m o s) is ∙ ap (λ o. and_then (or_leave Stuck o s) call_host) asked);
}

-- `put` puts out the lowest 8 bits
pub runs-put : (m : Module) (s : State) (func : ℕ) (rest : Sequence) (n : ℕ) (ops : List ℕ) → IsHost m func Put →
    RunsTo m 1 (record s { code = Call func then rest; operands = n ∷ ops })
    (record s { code = rest; operands = ops; output = s.output ++ n % 2 ^ 8 ∷ [] })
unfolding bind
runs-put m s func rest n ops is =
    runs-by m (Call func) rest (record s { operands = n ∷ ops })
    (record s { code = rest; operands = ops; output = s.output ++ n % 2 ^ 8 ∷ [] })
    (is.calls (record s { code = rest; operands = n ∷ ops }))

-- `stop` stops the run, with a code and the number of a site
pub halts-stop : (m : Module) (s : State) (func : ℕ) (rest : Sequence) (code site : ℕ) (ops : List ℕ) → IsHost m func Stop →
    HaltsWith m 1 (record s { code = Call func then rest; operands = site ∷ code ∷ ops }) (Stopped (as_i32 code) (as_i32 site))
    (record s { code = rest; operands = ops })
unfolding bind
halts-stop m s func rest code site ops is =
    halts-by m (Call func) rest (record s { operands = site ∷ code ∷ ops }) (record s { code = rest; operands = ops })
    (Stopped (as_i32 code) (as_i32 site)) (is.calls (record s { code = rest; operands = site ∷ code ∷ ops }))

-- `get` gives the next byte, or -1 at an end, or fails
pub runs-get-byte : (m : Module) (s : State) (func : ℕ) (rest : Sequence) (b : ℕ) (bytes : List ℕ) (ends : Option ℕ) → IsHost m func Get →
    RunsTo m 1 (record s { code = Call func then rest; input = record { bytes = b ∷ bytes; ends = ends } })
    (record s { code = rest; operands = b ∷ s.operands; input = record { bytes = bytes; ends = ends } })
runs-get-byte m s func rest b bytes ends is =
    runs-by m (Call func) rest (record s { input = record { bytes = b ∷ bytes; ends = ends } })
    (record s { code = rest; operands = b ∷ s.operands; input = record { bytes = bytes; ends = ends } })
    (is.calls (record s { code = rest; input = record { bytes = b ∷ bytes; ends = ends } }))

pub runs-get-end : (m : Module) (s : State) (func : ℕ) (rest : Sequence) → IsHost m func Get →
    RunsTo m 1 (record s { code = Call func then rest; input = record { bytes = []; ends = None } })
    (record s { code = rest; operands = (2 ^ 32 - 1) ∷ s.operands; input = record { bytes = []; ends = None } })
runs-get-end m s func rest is =
    runs-by m (Call func) rest (record s { input = record { bytes = []; ends = None } })
    (record s { code = rest; operands = (2 ^ 32 - 1) ∷ s.operands; input = record { bytes = []; ends = None } })
    (is.calls (record s { code = rest; input = record { bytes = []; ends = None } }))

pub halts-get : (m : Module) (s : State) (func : ℕ) (rest : Sequence) → IsHost m func Get →
    HaltsWith m 1 (record s { code = Call func then rest; input = record { bytes = []; ends = Some zero } }) InFault
    (record s { code = rest; input = record { bytes = []; ends = Some zero } })
halts-get m s func rest is =
    halts-by m (Call func) rest (record s { input = record { bytes = []; ends = Some zero } })
    (record s { code = rest; input = record { bytes = []; ends = Some zero } }) InFault
    (is.calls (record s { code = rest; input = record { bytes = []; ends = Some zero } }))

-- ---- through the table

-- it is the call of the function that the table has at this index, if that one is of the type
pub indirect : (m : Module) (s : State) (ty place func : ℕ) (ops : List ℕ) → slice_get s.table (as_i32 place) ≡ Some (Some func) →
    has_type m func (slice_get m.types ty) ≡ true →
    execute m (CallIndirect ty) (record s { operands = place ∷ ops }) ≡ execute m (Call func) (record s { operands = ops })
unfolding bind
indirect m s ty place func ops is typed =
    ap (λ o. and_then (called m (slice_get m.types ty) o (record s { operands = ops })) (call m)) is ∙
    ap
    (λ (b : Bool).
    and_then ((if b then pure func else leave (Trap TrapKind.Mismatch)) (record s { operands = ops })) (call m))
    typed
