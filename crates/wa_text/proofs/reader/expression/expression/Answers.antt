use Rattle.wa_text.specs.Instructions.{max_nesting}
use Rattle.wa_text.proofs.Lines.{join}
use Rattle.wa_text.proofs.NoLines.{refused_body, refused_end, refused_expr}
use Rattle.wa_text.proofs.Refusals.{refused_wrong, refuses_at, returned}
use Rattle.wa_text.proofs.reader.expression.expression.Goals as goal

pub returns-clause-found : goal.returns-clause-found
returns-clause-found c = join c.in_ok-body.ensures.found c.in_ok-end.ensures.found

pub returns-in_err-body-clause-refused : goal.returns-in_err-body-clause-refused
returns-in_err-body-clause-refused c = returned _ _ _ c.from_residual.ensures.1 (refuses_at c.in_err-body.field-0.0 (λ at r. refused_body r) c.in_err-body.ensures.refused)

pub returns-in_err-end-clause-refused : goal.returns-in_err-end-clause-refused
returns-in_err-end-clause-refused c =
    let body = c.in_ok-body.ensures in
    let fault = c.in_err-end.ensures.refused in
    returned _ _ _ c.from_residual-in_err-end.ensures.1 (refused_wrong c.in_err-end.field-0.0 fault.0 (refused_expr (refused_end max_nesting c.in_ok-body.body body.found body.stops fault.1)))
