use Rattle.std.proofs.Common.{sym, subst}
use Rattle.std.specs.Str.{IsUtf8}
use Rattle.wa_decode.proofs.Sized.{same_format}
use Rattle.wa_decode.proofs.value.name_bytes.Goals as goal

pub returns-in-Ok-clause-complete : goal.returns-in-Ok-clause-complete
returns-in-Ok-clause-complete c = λ text end s. c.in_ok-text.ensures.complete text end (same_format (λ bytes h. h.1) s)

pub returns-in-Err-clause-complete : goal.returns-in-Err-clause-complete
returns-in-Err-clause-complete c = λ text end s.
    let same = c.in_ok-text.ensures.complete text end (same_format (λ bytes h. h.1) s) in
    absurd (c.in-Err.ensures.cases.0 (subst IsUtf8 (sym same.0) s.spelling.0))
