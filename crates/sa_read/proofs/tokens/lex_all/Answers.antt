use Rattle.std.proofs.Common.{rules}
use Rattle.sa_read.proofs.FrontLemmas.{lexical}
use Rattle.sa_read.proofs.tokens.lex_all.Goals as goal

pub returns-in_err-lex_text-clause-refused : goal.returns-in_err-lex_text-clause-refused
returns-in_err-lex_text-clause-refused c =
    search (rules, lexical c.args.texts.now c.loop-number.lists c.loop-number.number c.in_err-lex_text.field-0.0 c.loop-number.invariant c.loop-number-test.true c.in_err-lex_text.ensures.refused)
