use Rattle.std.proofs.Common.{◌≡◌, Err, refl, true≢false, ap, rules}
use Rattle.std.specs.Prelude.{is_ok}
use Rattle.wa_valid.specs.Operands.{stack}
use Rattle.wa_valid.proofs.Steps.{pop_all-more, pop_all-any, pop_all-stuck, not_ok}
use Rattle.wa_valid.proofs.operands.Operands.pop_all.Goals as goal

pub returns-then-is_any : goal.returns-then-is_any
returns-then-is_any c = (
  λ ok. pop_all-any c.args.types.now c.loop-last.rest.now c.loop-last.invariant.0 (stack c.args.self.now) (stack c.loop-last.self) c.loop-last.invariant.1 c.loop-last.invariant.2 (c.is_any.ensures.0 c.if-is_any.true),
  λ is. absurd (true≢false (ap is_ok is)),
)

pub returns-in_err-pop : goal.returns-in_err-pop
returns-in_err-pop c =
    let off : c.from_residual.result ≡ Err c.in_err-pop.field-0.0 = search rules in (
      λ ok. absurd (not_ok c.from_residual.result c.in_err-pop.field-0.0 off ok),
      λ is. pop_all-stuck c.args.types.now c.loop-last.rest.now c.in-Some.front.now c.loop-last.invariant.0 c.in-Some.last.now (stack c.args.self.now) (stack c.loop-last.self) c.loop-last.invariant.1 c.in-Some.ensures.cases.0 c.loop-last.invariant.2 (c.in_err-pop.ensures.1 (cc)),
    )

pub loop-last-preserved : goal.loop-last-preserved
loop-last-preserved c =
    pop_all-more c.args.types.now c.loop-last.rest.now c.in-Some.front.now c.loop-last.invariant.0 c.in-Some.last.now (stack c.args.self.now) (stack c.loop-last.self) (stack c.pop.new.self) c.loop-last.invariant.1 c.in-Some.ensures.cases.0 c.loop-last.invariant.2 (c.in_ok-pop.ensures.0 refl)
