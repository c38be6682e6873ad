use Rattle.sa_grammar.proofs.ExpressionsExact.{lists_of_exprs_are_read}
use Rattle.sa_grammar.proofs.law.lists_of_exprs_are_read.Goals as goal

pub returns : goal.returns
returns c = lists_of_exprs_are_read
