use Rattle.sa_grammar.proofs.SignaturesExact.{one_list_of_formals}
use Rattle.sa_grammar.proofs.law.one_list_of_formals.Goals as goal

pub returns : goal.returns
returns c = one_list_of_formals
