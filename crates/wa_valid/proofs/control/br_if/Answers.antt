use Rattle.std.proofs.Common.{◌≡◌, Err, rules}
use Rattle.std.specs.Prelude.{option_to_list}
use Rattle.wa_valid.specs.Operands.{stack}
use Rattle.wa_valid.proofs.Steps.{not_ok}
use Rattle.wa_valid.proofs.Typed.{HasLabel-from, no_label, typed-BrIf, labelless-BrIf}
use Rattle.wa_valid.proofs.control.br_if.Goals as goal

pub returns-in_err-wanted : goal.returns-in_err-wanted
returns-in_err-wanted c = λ ctx same.
    let off : c.from_residual.result ≡ Err c.in_err-wanted.field-0.0 = search rules in (
      λ ok. absurd (not_ok c.from_residual.result c.in_err-wanted.field-0.0 off ok),
      λ is. labelless-BrIf ctx c.args.label (stack c.args.operands.now) (no_label ctx c.args.labels.now c.args.label same c.in_err-wanted.ensures.err.1),
    )

pub returns : goal.returns
returns c = λ ctx same.
    let has = HasLabel-from ctx c.args.labels.now c.args.label c.in_ok-wanted.wanted same c.in_ok-wanted.ensures.ok in
    typed-BrIf ctx c.args.label (option_to_list c.in_ok-wanted.wanted) (stack c.args.operands.now) (stack c.apply.new.self) c.apply.result has c.apply.ensures
