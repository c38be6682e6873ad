use Rattle.sa_grammar.proofs.SignaturesExact.{lists_of_formals_are_read}
use Rattle.sa_grammar.proofs.law.lists_of_formals_are_read.Goals as goal

pub returns : goal.returns
returns c = lists_of_formals_are_read
