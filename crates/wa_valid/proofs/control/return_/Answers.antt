use Rattle.std.proofs.Common.{◌≡◌, Err, refl, ap, true≢false, rules}
use Rattle.std.specs.Prelude.{is_ok}
use Rattle.wa_valid.specs.Operands.{stack}
use Rattle.wa_valid.proofs.Steps.{not_ok}
use Rattle.wa_valid.proofs.Typed.{typed-Return, untyped-Return}
use Rattle.wa_valid.proofs.control.return_.Goals as goal

pub returns-in_err-pop_all : goal.returns-in_err-pop_all
returns-in_err-pop_all c = λ ctx same.
    let off : c.from_residual.result ≡ Err c.in_err-pop_all.field-0.0 = search rules in (
      λ ok. absurd (not_ok c.from_residual.result c.in_err-pop_all.field-0.0 off ok),
      λ is. untyped-Return ctx c.args.func.now.results (stack c.args.operands.now) same (rw c.as_slice.ensures at (c.in_err-pop_all.ensures.1 (cc))),
    )

pub returns : goal.returns
returns c = λ ctx same. (
  λ ok. typed-Return ctx c.args.func.now.results (stack c.args.operands.now) (stack c.pop_all.new.self) (stack c.set_unreachable.new.self) same c.set_unreachable.ensures (rw c.as_slice.ensures at (c.in_ok-pop_all.ensures.0 refl)),
  λ is. absurd (true≢false (ap is_ok is)),
)
