use Rattle.sa_grammar.proofs.ExpressionsExact.{one_list_of_exprs}
use Rattle.sa_grammar.proofs.law.one_list_of_exprs.Goals as goal

pub returns : goal.returns
returns c = one_list_of_exprs
