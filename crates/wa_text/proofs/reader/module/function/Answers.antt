use Rattle.wa_text.proofs.Lines.{join}
use Rattle.wa_text.proofs.NoModule.{refused_code, refused_head}
use Rattle.wa_text.proofs.Refusals.{refuses_at, returned}
use Rattle.wa_text.proofs.reader.module.function.Goals as goal

pub returns-clause-found : goal.returns-clause-found
returns-clause-found c = join c.in_ok-ty.ensures.found c.in_ok-body.ensures.found

pub returns-in_err-ty-clause-refused : goal.returns-in_err-ty-clause-refused
returns-in_err-ty-clause-refused c = returned _ _ _ c.from_residual.ensures.1 (refuses_at c.in_err-ty.field-0.0 (λ at r. refused_head r) c.in_err-ty.ensures.refused)

pub returns-in_err-body-clause-refused : goal.returns-in_err-body-clause-refused
returns-in_err-body-clause-refused c =
    returned _ _ _ c.from_residual-in_err-body.ensures.1 (refuses_at c.in_err-body.field-0.0 (λ at r. refused_code c.in_ok-ty.field-0-0.ty c.in_ok-ty.field-0-0.locals c.in_ok-ty.ensures.found r) c.in_err-body.ensures.refused)
