use Rattle.std.proofs.Common.{Err, ◌<◌, ◌≤◌, length, ◌+◌, sym, ap, ◌∙◌, arith}
use Rattle.std.proofs.lemmas.List.{take_rest, length-drop}
use Rattle.sa_lexer.specs.Literal.{character_of_byte}
use Rattle.sa_lexer.proofs.Items.{character_of-one, character_of-more}
use Rattle.sa_lexer.proofs.literal.character_of.Goals as goal

pub returns-then-item-rest-clause-token : goal.returns-then-item-rest-clause-token
returns-then-item-rest-clause-token c =
    let inside = c.args.inside.now in
    let is = rw take_rest at c.item_at-item.ensures.item in
    let more : c.item_at-item.result.len < length inside = omega (arith, rw take_rest at c.if-item-rest.true, length-drop 1 inside) in
    ap Err c.at_front-then-item-rest.ensures ∙ sym (character_of-more (length inside + 2) c.item_at-item.result inside is c.item_at-item.ensures.not_empty more)

pub returns-in-Some-clause-token : goal.returns-in-Some-clause-token
returns-in-Some-clause-token c =
    let inside = c.args.inside.now in
    let item = c.item_at-item.result in
    let is = rw take_rest at c.item_at-item.ensures.item in
    let one : length inside ≤ item.len = omega (arith, rw take_rest at c.if-item-rest.false, length-drop 1 inside) in
    sym (character_of-one (length inside + 2) item inside is (omega (arith, c.in-len1-up.len_at_least)) one ∙ ap (character_of_byte (length inside + 2)) c.in-Some.is)

pub returns-in-None-clause-token : goal.returns-in-None-clause-token
returns-in-None-clause-token c =
    let inside = c.args.inside.now in
    let item = c.item_at-item.result in
    let is = rw take_rest at c.item_at-item.ensures.item in
    let one : length inside ≤ item.len = omega (arith, rw take_rest at c.if-item-rest.false, length-drop 1 inside) in
    sym (character_of-one (length inside + 2) item inside is (omega (arith, c.in-len1-up.len_at_least)) one ∙ ap (character_of_byte (length inside + 2)) c.in-None.is)
