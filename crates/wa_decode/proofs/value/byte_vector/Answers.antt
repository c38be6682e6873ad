use Rattle.std.proofs.Common.{◌∙◌}
use Rattle.std.proofs.lemmas.List.{take_rest}
use Rattle.std.proofs.lemmas.Result.{err_from_is_err_and}
use Rattle.wa_decode.proofs.Sized.{vec-found, vec-counted}
use Rattle.wa_decode.proofs.value.byte_vector.Goals as goal

pub returns-in_err-content-clause-complete : goal.returns-in_err-content-clause-complete
returns-in_err-content-clause-complete c = λ content end s.
    let failed = err_from_is_err_and c.from_residual.result c.from_residual.ensures.1 in
    rw failed.1 (failed.2 ∙ c.in_err-content.ensures.complete content end (vec-counted content s))

pub returns-clause-found : goal.returns-clause-found
returns-clause-found c =
    rw (take_rest c.in_ok-content.content.now c.in_ok-content.start) (vec-found _ c.in_ok-content.ensures.found)

pub returns-clause-complete : goal.returns-clause-complete
returns-clause-complete c = λ content end s.
    let same = c.in_ok-content.ensures.complete content end (vec-counted content s) in
    (take_rest c.in_ok-content.content.now c.in_ok-content.start ∙ same.0, same.1)
