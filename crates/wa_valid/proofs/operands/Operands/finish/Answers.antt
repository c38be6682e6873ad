use Rattle.std.proofs.Common.{◌≡◌, Err, refl, sym, ◌∙◌, rules}
use Rattle.wa_valid.specs.Operands.{stack}
use Rattle.wa_valid.proofs.Steps.{Fits-finished, finished-Fits, unfinished, not_ok}
use Rattle.wa_valid.proofs.operands.Operands.finish.Goals as goal

pub returns-in_err-pop_result : goal.returns-in_err-pop_result
returns-in_err-pop_result c =
    let off : c.from_residual.result ≡ Err c.in_err-pop_result.field-0.0 = search rules in (
      λ ok. absurd (not_ok c.from_residual.result c.in_err-pop_result.field-0.0 off ok),
      λ is. unfinished (stack c.args.self.now) c.args.ty (c.in_err-pop_result.ensures.1 (sym off ∙ is)),
    )

pub returns : goal.returns
returns c = (
  λ ok. Fits-finished (stack c.args.self.now) (stack c.pop_result.new.self) c.args.ty (c.in_ok-pop_result.ensures.0 refl) (c.is_empty.ensures.0 (c.require.ensures.0 ok)),
  λ is f. c.require.ensures.1 is (c.is_empty.ensures.1 (finished-Fits (stack c.args.self.now) (stack c.pop_result.new.self) c.args.ty (c.in_ok-pop_result.ensures.0 refl) f)),
)
