-- The definitions of validity and of a run at small modules, by computation.
use Rattle.std.proofs.Common.{◌≡◌, ℕ, List, [], ◌∷◌, Some, None, codes, refl, ap}
use Rattle.wa_syntax.specs.declared.module.ValTy.TheVariants.{I32}
use Rattle.wa_syntax.specs.declared.module.Module.{Module}
use Rattle.wa_syntax.specs.declared.opcode.TheConstants.{NOP, I32_ADD, I32_DIV_S}
use Rattle.wa_syntax.specs.declared.trap.TrapKind.TheVariants.{DivZero}
use Rattle.wa_syntax.specs.declared.instr.Instr.TheVariants as i
use Rattle.wa_syntax.specs.declared.module.ExportKind.{ExportKind}
use Rattle.wa_syntax.specs.Numeric.{i32_result}
use Rattle.wa_syntax.specs.Instructions.{I32Const, Drop, Numeric, nothing, ◌then◌}
use Rattle.wa_syntax.specs.Validity.{Context, AreTyped}
use Rattle.wa_syntax.specs.Machine.{Entry, Activation, Input, State, Ended, Running, Trap, Leaves, bind}
use Rattle.wa_syntax.specs.Operations.{numeric}
use Rattle.wa_syntax.specs.Steps.{call, Ran, Finished, Halted, Unfinished}
use Rattle.wa_syntax.specs.Runs.{first_state, functions_of, run_from, run_all, machine_run, unlinked}
use Rattle.wa_syntax.proofs.Instructions.{instructions}

abbrev no_names : Context
no_names = record { types = []; funcs = []; tables = 0; memories = 0; globals = []; locals = []; labels = []; results = [] }

-- an empty body leaves what it finds
pub nothing-typed : AreTyped no_names nothing [] []
nothing-typed = refl

-- a sum of two constants leaves one i32
pub sum-typed : AreTyped no_names (I32Const 2 then I32Const 3 then Numeric I32_ADD then nothing) [] (I32 ∷ [])
sum-typed = (I32 ∷ [], ([], refl, refl), (I32 ∷ I32 ∷ [], (I32 ∷ [], refl, refl), (I32 ∷ [], (record { params = I32 ∷ I32 ∷ []; results = I32 ∷ [] }, refl, ([], refl, refl)), refl)))

-- a body that drops an operand which is not there is ill typed
pub drop-untyped : AreTyped no_names (Drop then nothing) [] [] → ⊥
drop-untyped (middle, (t, (below, empty, rest)), left) = cc

abbrev with_operands : List ℕ → State
with_operands operands = record {
  code = nothing;
  operands = operands;
  locals = [];
  stack = [];
  globals = [];
  table = [];
  memory = [];
  input = record { bytes = []; ends = None };
  output = [];
}

-- a division by zero traps
pub division-traps : numeric I32_DIV_S (with_operands (0 ∷ 7 ∷ [])) ≡ Leaves (Trap DivZero) (with_operands [])
unfolding bind i32_result
division-traps = refl

-- a module whose `main` adds two constants
abbrev adding : Module
adding = record {
  types = record { params = []; results = I32 ∷ [] } ∷ [];
  imports = [];
  funcs = record { ty = 0; locals = []; body = i.I32Const 40 ∷ i.I32Const 2 ∷ i.Plain I32_ADD ∷ [] } ∷ [];
  tables = [];
  memories = [];
  globals = [];
  exports = record { name = codes "main"; kind = ExportKind.Func 0 } ∷ [];
  start = None;
  elems = [];
  segments = [];
}

abbrev no_input : Input
no_input = record { bytes = []; ends = None }

pub adding-linked : unlinked adding ≡ None
adding-linked = refl

-- it ends in three steps with their sum
pub adding-ends : machine_run adding no_input 3 ≡ record { halt = Ended (Some 42); steps = 3; output = [] }
unfolding machine_run bind i32_result
adding-ends = simp instructions refl

-- in two steps it has not ended
pub adding-runs : machine_run adding no_input 2 ≡ record { halt = Running; steps = 2; output = [] }
unfolding machine_run bind i32_result
adding-runs = simp instructions refl

-- a module whose start function ends by falling off its end
abbrev starting : Module
starting = record {
  types = record { params = []; results = [] } ∷ record { params = []; results = I32 ∷ [] } ∷ [];
  imports = [];
  funcs = record { ty = 0; locals = []; body = i.Plain NOP ∷ [] } ∷ record { ty = 1; locals = []; body = i.I32Const 42 ∷ [] } ∷ [];
  tables = [];
  memories = [];
  globals = [];
  exports = record { name = codes "main"; kind = ExportKind.Func 1 } ∷ [];
  start = Some 0;
  elems = [];
  segments = [];
}

-- it leaves nothing
abbrev left_by_start : State
left_by_start = record {
  code = nothing;
  operands = [];
  locals = [];
  stack = [];
  globals = [];
  table = [];
  memory = [];
  input = no_input;
  output = [];
}

pub starting-starts : run_from starting 1 (call starting 0 (first_state starting no_input)) ≡ Finished 0 [] left_by_start
unfolding bind
starting-starts = simp instructions refl

-- the labels and activations of the state that a run is left in
abbrev stack_of : Ran → List Entry
stack_of (Finished left results s) = s.stack
stack_of (Halted halt left s) = s.stack
stack_of (Unfinished s) = s.stack

-- after it `main` is in its own activation alone
pub starting-runs : stack_of (run_all starting (functions_of starting) (Finished 1 [] (first_state starting no_input))) ≡ Activation 1 nothing [] [] ∷ []
unfolding bind
starting-runs = ap (λ (ran : Ran). stack_of (run_all starting (1 ∷ []) ran)) starting-starts
