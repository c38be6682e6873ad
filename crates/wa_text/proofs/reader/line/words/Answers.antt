use Rattle.std.proofs.Common.{inl, refl, sym}
use Rattle.wa_text.specs.Reading.{texts}
use Rattle.wa_text.proofs.Lines.{line_here}
use Rattle.wa_text.proofs.Refusals.{no_line}
use Rattle.wa_text.proofs.reader.line.words.Goals as goal

pub returns-in_ok-words_in-in-Some-clause-found : goal.returns-in_ok-words_in-in-Some-clause-found
returns-in_ok-words_in-in-Some-clause-found c =
    line_here c.args.text.now c.args.at c.in-Some.end c.in-Some.line.now (texts c.in_ok-words_in-in-Some.field-0.items) c.in-Some.ensures.found c.in-Some.ensures.unbroken (sym c.in_ok-words_in-in-Some.ensures)

pub returns-in-None-clause-refused : goal.returns-in-None-clause-refused
returns-in-None-clause-refused c = inl (refl, no_line c.args.text.now c.args.at c.in-None.ensures.none)
