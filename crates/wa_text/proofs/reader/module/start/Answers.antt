use Rattle.std.proofs.Common.{rules}
use Rattle.wa_text.proofs.NoModule.{refused_start}
use Rattle.wa_text.proofs.Refusals.{refuses_at, returned}
use Rattle.wa_text.proofs.reader.module.start.Goals as goal

pub returns-in_err-func-clause-refused : goal.returns-in_err-func-clause-refused
returns-in_err-func-clause-refused c =
    returned _ _ _ c.from_residual.ensures.1 (refuses_at c.in_err-func.field-0.0 (λ at r. refused_start (c.begins.ensures.yes (search rules)) r) c.in_err-func.ensures.refused)
