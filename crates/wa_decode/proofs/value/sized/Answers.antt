use Rattle.std.proofs.Common.{◌∙◌, rules}
use Rattle.std.proofs.lemmas.Result.{err_from_is_err_and}
use Rattle.wa_decode.proofs.Sized.{sized-found, sized-complete, sized-short, sized-unread}
use Rattle.wa_decode.proofs.value.sized.Goals as goal

pub returns-in_err-size-clause-complete : goal.returns-in_err-size-clause-complete
returns-in_err-size-clause-complete c = λ content end s.
    let failed = err_from_is_err_and c.from_residual.result c.from_residual.ensures.1 in
    rw failed.1 (failed.2 ∙ sized-unread _ _ _ c.in_err-size.ensures.reads content end s)

pub returns-in-Some-clause-found : goal.returns-in-Some-clause-found
returns-in-Some-clause-found c = sized-found _ _ _ _ _ c.in_ok-size.ensures.reads (search rules) (search rules)

pub returns-in-Some-clause-complete : goal.returns-in-Some-clause-complete
returns-in-Some-clause-complete c = λ content end s.
    sized-complete _ _ _ _ _ c.in_ok-size.ensures.reads (search rules) (search rules) content end s

pub returns-in-None-clause-complete : goal.returns-in-None-clause-complete
returns-in-None-clause-complete c = λ content end s. absurd (sized-short _ _ _ _ c.in_ok-size.ensures.reads (search rules) content end s)
