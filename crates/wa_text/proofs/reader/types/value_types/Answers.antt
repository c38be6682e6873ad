use Rattle.std.proofs.Common.{ℕ, List, drop, sym, subst, arith}
use Rattle.std.proofs.lemmas.List.{take_rest}
use denote.Ref.{Bor}
use Rattle.wa_text.specs.Forms.{◌then◌, each, exactly}
use Rattle.wa_text.specs.Reading.{texts}
use Rattle.wa_text.specs.Words.{val}
use Rattle.wa_text.proofs.Lines.{front_more}
use Rattle.wa_text.proofs.Pieces.{first_word}
use Rattle.wa_text.proofs.reader.types.value_types.Goals as goal

pub loop-rest-preserved : goal.loop-rest-preserved
loop-rest-preserved c =
    let rest = c.loop-rest.rest.now in
    let words = texts c.args.words.now in
    subst (λ (left : List (Bor (List ℕ))). (each val c.push.new.self then exactly (texts left)) words) (sym (take_rest rest 1))
    (rw c.in_ok-push.ensures.ok (front_more val c.loop-rest.types c.in-Some.ty _ words (texts rest) (texts (drop 1 rest)) c.loop-rest.invariant (first_word rest _ (omega (arith, c.in-len1-up.len_at_least))) c.in-Some.ensures))
