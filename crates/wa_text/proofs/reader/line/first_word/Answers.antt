use Rattle.std.proofs.Common.{◌+◌, drop, inl, inr, refl, arith}
use Rattle.std.proofs.lemmas.Grind.{common_steps}
use Rattle.wa_text.proofs.reader.line.first_word.Goals as goal

pub returns-in-Some-clause-front : goal.returns-in-Some-clause-front
returns-in-Some-clause-front c = inr (drop (c.in-Some.end + 1) c.args.line.now, grind (arith, common_steps))

pub returns-in-None-clause-front : goal.returns-in-None-clause-front
returns-in-None-clause-front c = inl refl
