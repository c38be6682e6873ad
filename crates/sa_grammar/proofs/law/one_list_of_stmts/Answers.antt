use Rattle.sa_grammar.proofs.StatementsExact.{one_list_of_stmts}
use Rattle.sa_grammar.proofs.law.one_list_of_stmts.Goals as goal

pub returns : goal.returns
returns c = one_list_of_stmts
