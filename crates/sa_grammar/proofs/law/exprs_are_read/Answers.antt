use Rattle.sa_grammar.proofs.ExpressionsExact.{exprs_are_read}
use Rattle.sa_grammar.proofs.law.exprs_are_read.Goals as goal

pub returns : goal.returns
returns c = exprs_are_read
