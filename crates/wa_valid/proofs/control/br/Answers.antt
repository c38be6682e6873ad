use Rattle.std.proofs.Common.{◌≡◌, Err, refl, true≢false, ap, rules}
use Rattle.std.specs.Prelude.{is_ok, option_to_list}
use Rattle.wa_valid.specs.Operands.{stack}
use Rattle.wa_valid.proofs.Steps.{not_ok}
use Rattle.wa_valid.proofs.Typed.{HasLabel-from, no_label, typed-Br, untyped-Br, labelless-Br}
use Rattle.wa_valid.proofs.control.br.Goals as goal

pub returns-in_err-wanted : goal.returns-in_err-wanted
returns-in_err-wanted c = λ ctx same.
    let off : c.from_residual.result ≡ Err c.in_err-wanted.field-0.0 = search rules in (
      λ ok. absurd (not_ok c.from_residual.result c.in_err-wanted.field-0.0 off ok),
      λ is. labelless-Br ctx c.args.label (stack c.args.operands.now) (no_label ctx c.args.labels.now c.args.label same c.in_err-wanted.ensures.err.1),
    )

pub returns-in_err-pop_result : goal.returns-in_err-pop_result
returns-in_err-pop_result c = λ ctx same.
    let off : c.from_residual-in_err-pop_result.result ≡ Err c.in_err-pop_result.field-0.0 = search rules in
    let has = HasLabel-from ctx c.args.labels.now c.args.label c.in_ok-wanted.wanted same c.in_ok-wanted.ensures.ok in (
      λ ok. absurd (not_ok c.from_residual-in_err-pop_result.result c.in_err-pop_result.field-0.0 off ok),
      λ is. untyped-Br ctx c.args.label (option_to_list c.in_ok-wanted.wanted) (stack c.args.operands.now) has (c.in_err-pop_result.ensures.1 (cc)),
    )

pub returns : goal.returns
returns c = λ ctx same.
    let has = HasLabel-from ctx c.args.labels.now c.args.label c.in_ok-wanted.wanted same c.in_ok-wanted.ensures.ok in (
      λ ok. typed-Br ctx c.args.label (option_to_list c.in_ok-wanted.wanted) (stack c.args.operands.now) (stack c.pop_result.new.self) (stack c.set_unreachable.new.self) has c.set_unreachable.ensures (c.in_ok-pop_result.ensures.0 refl),
      λ is. absurd (true≢false (ap is_ok is)),
    )
