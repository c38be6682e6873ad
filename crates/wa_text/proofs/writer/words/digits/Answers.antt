use Rattle.std.proofs.Common.{◌≡◌, [], drop, get_or, arith}
use Rattle.std.proofs.lemmas.List.{drop_more, at_drop_all}
use Rattle.wa_text.proofs.Digits.{encode_lower-more, encode_lower-none}
use Rattle.wa_text.proofs.writer.words.digits.Goals as goal

pub loop-byte-preserved : goal.loop-byte-preserved
loop-byte-preserved c =
    let bytes = c.args.bytes.now in
    let i = c.loop-byte.byte-index in
    encode_lower-more bytes i (get_or bytes i 0) _ _ _ _ _ _ (drop_more bytes i 0 (omega arith)) c.digit.ensures c.digit-in-loop-byte.ensures c.in_ok-push.ensures.items c.in_ok-push-2.ensures.items c.loop-byte.invariant

pub returns : goal.returns
returns c =
    let none : drop c.loop-byte.byte-index c.args.bytes.now ≡ [] = at_drop_all (λ ys. ys) c.args.bytes.now c.loop-byte.byte-index (omega arith) in
    encode_lower-none _ _ _ none c.loop-byte.invariant
