use Rattle.std.proofs.Common.{w32, w64, FitsSigned, rules}
use Rattle.std.proofs.lemmas.Int.{to_z-of_z}
use Rattle.wa_syntax.proofs.Signed.{IsSigned-fits}
use Rattle.wa_syntax.proofs.leb128.read_i32.Goals as goal

pub overflow_cast-result : goal.overflow_cast-result
overflow_cast-result c =
    let read : FitsSigned w64 c.in_ok-number.number = search rules in
    rw (to_z-of_z w64 c.in_ok-number.number read) (IsSigned-fits _ _ c.in_ok-number.ensures.found.spelling)

pub returns-clause-found : goal.returns-clause-found
returns-clause-found c =
    let read : FitsSigned w64 c.in_ok-number.number = search rules in
    let fits = IsSigned-fits _ _ c.in_ok-number.ensures.found.spelling in
    rw (to_z-of_z w64 c.in_ok-number.number read, to_z-of_z w32 c.in_ok-number.number fits) c.in_ok-number.ensures.found

pub returns-clause-complete : goal.returns-clause-complete
returns-clause-complete c = λ z end h.
    let read : FitsSigned w64 c.in_ok-number.number = search rules in
    let fits = IsSigned-fits _ _ c.in_ok-number.ensures.found.spelling in
    rw (to_z-of_z w64 c.in_ok-number.number read, to_z-of_z w32 c.in_ok-number.number fits) (c.in_ok-number.ensures.complete z end h)
