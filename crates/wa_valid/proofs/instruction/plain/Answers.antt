use Rattle.std.proofs.Common.{ℕ, sym, ap, subst, true≢false}
use Rattle.std.specs.Prelude.{is_ok}
use Rattle.wa_syntax.specs.Instructions.{plain}
use Rattle.wa_syntax.specs.Validity.{IsTyped}
use Rattle.wa_valid.specs.Names.{names_in}
use Rattle.wa_valid.specs.Operands.{stack, Leads}
use Rattle.wa_valid.proofs.Steps.{some_fits}
use Rattle.wa_valid.proofs.Typed.{typed-Unreachable}
use Rattle.wa_valid.proofs.instruction.plain.Goals as goal

pub returns-then-opcode-eq-UNREACHABLE : goal.returns-then-opcode-eq-UNREACHABLE
returns-then-opcode-eq-UNREACHABLE c = λ labels. (
  λ ok. subst (λ (op : ℕ). Leads (IsTyped (names_in c.args.scope.now labels) (plain op)) (stack c.args.operands.now) (stack c.set_unreachable.new.self)) (sym c.if-opcode-eq-UNREACHABLE.true)
      (typed-Unreachable (names_in c.args.scope.now labels) (stack c.args.operands.now) (stack c.set_unreachable.new.self) c.set_unreachable.ensures (some_fits (stack c.args.operands.now))),
  λ is. absurd (true≢false (ap is_ok is)),
)
