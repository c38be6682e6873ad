-- Without validity a run can get stuck: a `main` that drops an operand which isn't there.
use Rattle.std.proofs.Common.{◌≡◌, [], ◌∷◌, None, codes, refl}
use Rattle.wa_syntax.specs.declared.module.Module.{Module}
use Rattle.wa_syntax.specs.declared.module.ExportKind.{ExportKind}
use Rattle.wa_syntax.specs.declared.opcode.TheConstants.{DROP}
use Rattle.wa_syntax.specs.declared.instr.Instr.TheVariants as i
use Rattle.wa_syntax.specs.Machine.{Input, Stuck, bind}
use Rattle.wa_syntax.specs.Runs.{machine_run, unlinked}
use Rattle.wa_syntax.proofs.Instructions.{instructions}

abbrev dropping : Module
dropping = record {
  types = record { params = []; results = [] } ∷ [];
  imports = [];
  funcs = record { ty = 0; locals = []; body = i.Plain DROP ∷ [] } ∷ [];
  tables = [];
  memories = [];
  globals = [];
  exports = record { name = codes "main"; kind = ExportKind.Func 0 } ∷ [];
  start = None;
  elems = [];
  segments = [];
}

abbrev no_input : Input
no_input = record { bytes = []; ends = None }

pub dropping-linked : unlinked dropping ≡ None
dropping-linked = refl

pub dropping-stuck : (machine_run dropping no_input 1).halt ≡ Stuck
unfolding machine_run bind
dropping-stuck = simp instructions refl
