use Rattle.std.proofs.Common.{◌≡◌, Err, refl, sym, true≢false, rules}
use Rattle.wa_valid.specs.Operands.{stack, with_operand}
use Rattle.wa_valid.proofs.Steps.{Leads-select, IsStuck-select_first, IsStuck-select_one, IsStuck-select_other, IsStuck-select_apart, not_ok, on_ok, not_invalid}
use Rattle.wa_valid.proofs.operands.Operands.select.Goals as goal

pub returns-in_err-pop : goal.returns-in_err-pop
returns-in_err-pop c = λ ctx.
    let off : c.from_residual.result ≡ Err c.in_err-pop.field-0.0 = search rules in (
      λ ok. absurd (not_ok c.from_residual.result c.in_err-pop.field-0.0 off ok),
      λ is. IsStuck-select_first ctx (stack c.args.self.now) (c.in_err-pop.ensures.1 (cc)),
    )

pub returns-in_err-one : goal.returns-in_err-one
returns-in_err-one c = λ ctx.
    let off : c.from_residual-in_err-one.result ≡ Err c.in_err-one.field-0.0 = search rules in (
      λ ok. absurd (not_ok c.from_residual-in_err-one.result c.in_err-one.field-0.0 off ok),
      λ is. IsStuck-select_one ctx (stack c.args.self.now) (stack c.pop.new.self) (c.in_ok-pop.ensures.0 refl) (c.in_err-one.ensures.1 (cc)),
    )

pub returns-in_err-other : goal.returns-in_err-other
returns-in_err-other c = λ ctx.
    let off : c.from_residual-in_err-other.result ≡ Err c.in_err-other.field-0.0 = search rules in (
      λ ok. absurd (not_ok c.from_residual-in_err-other.result c.in_err-other.field-0.0 off ok),
      λ is. IsStuck-select_other ctx (stack c.args.self.now) (stack c.pop.new.self) (stack c.take.new.self) c.in_ok-one.one (c.in_ok-pop.ensures.0 refl) c.in_ok-one.ensures.0 (c.in_err-other.ensures.1 (cc)),
    )

pub returns-in-Some : goal.returns-in-Some
returns-in-Some c = λ ctx. (
  λ ok. Leads-select ctx (stack c.args.self.now) (stack c.pop.new.self) (stack c.take.new.self) (stack c.take-2.new.self) (stack c.add.new.self) c.in_ok-one.one c.in_ok-other.other c.in-Some.kept (c.in_ok-pop.ensures.0 refl) c.in_ok-one.ensures.0 c.in_ok-other.ensures.0 c.in-Some.ensures.some (on_ok c.add.result (stack c.add.new.self ≡ with_operand c.in-Some.kept (stack c.take-2.new.self)) c.add.ensures.ok ok),
  λ is. absurd (not_invalid c.add.result c.add.ensures.err is),
)

pub returns-in-None : goal.returns-in-None
returns-in-None c = λ ctx. (
  λ ok. absurd (true≢false (sym ok)),
  λ is. IsStuck-select_apart ctx (stack c.args.self.now) (stack c.pop.new.self) (stack c.take.new.self) (stack c.take-2.new.self) c.in_ok-one.one c.in_ok-other.other (c.in_ok-pop.ensures.0 refl) c.in_ok-one.ensures.0 c.in_ok-other.ensures.0 (c.in-None.ensures.none refl),
)
