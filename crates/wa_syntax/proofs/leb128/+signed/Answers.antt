use Rattle.std.proofs.Common.{◌≡◌, get_or, w64, FitsSigned, arith, rules}
use Rattle.std.proofs.lemmas.Int.{ints, to_z-of_z}
use Rattle.wa_syntax.proofs.Signed.{IsSigned-from, IsSigned-below, Spells-more, Spells-at_last, Spells-at_more, same_last, same_read}
use Rattle.wa_syntax.proofs.leb128.+signed.Goals as goal

pub returns-in_err-last_signed-clause-complete : goal.returns-in_err-last_signed-clause-complete
returns-in_err-last_signed-clause-complete t c = λ z end h.
    let is : c.in_ok-byte.field-0.now ≡ get_or c.args.b.now c.args.at 0 = search rules in
    let last = Spells-at_last _ _ _ _ _ _ h is c.if-byte-lt128.true in
    let found = c.in_err-last_signed.ensures.complete z last.0 in
    cc

pub returns-then-byte-lt128-clause-complete : goal.returns-then-byte-lt128-clause-complete
returns-then-byte-lt128-clause-complete t c = λ z end h.
    let is : c.in_ok-byte.field-0.now ≡ get_or c.args.b.now c.args.at 0 = search rules in
    let last = Spells-at_last _ _ _ _ _ _ h is c.if-byte-lt128.true in
    let number : FitsSigned w64 c.in_ok-last_signed.field-0 = search rules in
    rw (to_z-of_z w64 c.in_ok-last_signed.field-0 number) (same_last _ _ _ _ (c.in_ok-last_signed.ensures.complete z last.0) last.1)

pub returns-then-bits-le7-clause-complete : goal.returns-then-bits-le7-clause-complete
returns-then-bits-le7-clause-complete t c = λ z end h.
    let is : c.in_ok-byte.field-0.now ≡ get_or c.args.b.now c.args.at 0 = search rules in
    let more = Spells-at_more _ _ _ _ _ _ h is c.if-byte-lt128.false in
    absurd (omega (arith, more.0))

pub returns-in_err-high-clause-complete : goal.returns-in_err-high-clause-complete
returns-in_err-high-clause-complete t c = λ z end h.
    let is : c.in_ok-byte.field-0.now ≡ get_or c.args.b.now c.args.at 0 = search rules in
    let more = Spells-at_more _ _ _ _ _ _ h is c.if-byte-lt128.false in
    let found = c.in_err-high.ensures.complete more.1 end more.3 in
    cc

pub joined-requires-clause-from : goal.joined-requires-clause-from
joined-requires-clause-from t c =
    omega (arith, ints, IsSigned-from _ _ _ c.in_ok-high.ensures.found.spelling (omega arith) (omega arith))

pub joined-requires-clause-below : goal.joined-requires-clause-below
joined-requires-clause-below t c =
    omega (arith, ints, IsSigned-below _ _ _ c.in_ok-high.ensures.found.spelling (omega arith) (omega arith))

pub returns-clause-found : goal.returns-clause-found
returns-clause-found t c =
    let joined : FitsSigned w64 c.joined.result = search rules in
    let high : FitsSigned w64 c.in_ok-high.high = search rules in
    rw (to_z-of_z w64 c.joined.result joined, c.joined.ensures, to_z-of_z w64 c.in_ok-high.high high) (search (rules, Spells-more))

pub returns-clause-complete : goal.returns-clause-complete
returns-clause-complete t c = λ z end h.
    let is : c.in_ok-byte.field-0.now ≡ get_or c.args.b.now c.args.at 0 = search rules in
    let more = Spells-at_more _ _ _ _ _ _ h is c.if-byte-lt128.false in
    let same = c.in_ok-high.ensures.complete more.1 end more.3 in
    let joined : FitsSigned w64 c.joined.result = search rules in
    let high : FitsSigned w64 c.in_ok-high.high = search rules in
    rw (to_z-of_z w64 c.joined.result joined, c.joined.ensures, to_z-of_z w64 c.in_ok-high.high high) (same_read _ _ _ _ _ _ same more.2)
