-- An element, of which the indices are done after the expression that has the elements.
use Rattle.std.proofs.Common.{◌∙◌}
use Rattle.std.proofs.lemmas.Result.{IfOk-weaker}
use Rattle.sa_contracts.proofs.TakenAt.{index-taken}
use Rattle.sa_contracts.proofs.initials.+taking.Goals as goal

pub take_initials-returns-in_ok-of-in-Index-clause-form : goal.take_initials-returns-in_ok-of-in-Index-clause-form
take_initials-returns-in_ok-of-in-Index-clause-form t c =
    IfOk-weaker c.take_in_index.result _ _ (λ form is. is ∙ index-taken c.args.e.now _ _ _ _ _ _ _ c.in-Index.is c.in_ok-of-in-Index.ensures.form c.in_ok-of-in-Index.ensures.declarations c.as_slice-in-Index.ensures) c.take_in_index.ensures.form
