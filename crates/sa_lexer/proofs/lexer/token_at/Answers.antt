use Rattle.std.proofs.Common.{◌≡◌, ℕ, ◌+◌, ◌-◌, length, drop, Ok, refl, sym, ap, ◌∙◌, arith}
use Rattle.std.proofs.lemmas.List.{take_rest, length-drop}
use Rattle.sa_lexer.specs.declared.scan_result.ScannedToken.{ScannedToken}
use Rattle.sa_lexer.specs.Front.{front_of}
use Rattle.sa_lexer.proofs.Longest.{front_longest}
use Rattle.sa_lexer.proofs.Reach.{ok}
use Rattle.sa_lexer.proofs.lexer.token_at.Goals as goal

-- what is found at the position is the longest token there
pub returns-in-Ok-clause-token : goal.returns-in-Ok-clause-token
returns-in-Ok-clause-token c =
    let src = c.args.src.now in
    let place = c.args.place in
    let found = c.in-Ok.found in
    let there = rw take_rest at c.in-Ok.ensures.token in
    let among = rw take_rest at c.in-Ok.ensures.among in
    let len : found.len ≡ (place + found.len) - place = omega arith in
    let same : found ≡ record { kind = found.kind; len = (place + found.len) - place } = λ i. record { kind = found.kind; len = len i } in
    let front : front_of (drop place src) ≡ ok (record { kind = found.kind; len = (place + found.len) - place }) = there ∙ ap ok same in
    record {
      start = refl;
      not_empty = omega (arith, among.0);
      in_text = omega (arith, among.1, length-drop place src);
      front = front;
      longest = front_longest (drop place src) (record { kind = found.kind; len = (place + found.len) - place }) front;
    }
