use Rattle.std.proofs.Common.{◌≡◌, length, ap, arith}
use Rattle.std.proofs.lemmas.Grind.{common_steps}
use Rattle.wa_text.specs.Reading.{texts}
use Rattle.wa_text.proofs.NoWords.{no_length, vals_equal, vals_whole}
use Rattle.wa_text.proofs.reader.items.locals.Goals as goal

pub returns-then-not-is_empty : goal.returns-then-not-is_empty
returns-then-not-is_empty c = λ types h.
    let rest = c.in_ok-types.rest.now in
    let none = vals_whole c.in_ok-types.types types (texts c.args.words.now) (texts rest) c.in_ok-types.ensures.found c.in_ok-types.ensures.stops h.1 in
    let short : length rest ≡ 0 = no_length rest none in
    grind (arith, common_steps)

pub returns-then-len-gt-MAX_LOCALS : goal.returns-then-len-gt-MAX_LOCALS
returns-then-len-gt-MAX_LOCALS c = λ types h.
    let same = vals_equal c.in_ok-types.types types (texts c.args.words.now) (texts c.in_ok-types.rest.now) c.in_ok-types.ensures.found c.in_ok-types.ensures.stops h.1 in
    omega (arith, ap length same, h.0, c.len.ensures)
