use Rattle.sa_grammar.proofs.StatementsExact.{lists_of_stmts_are_read}
use Rattle.sa_grammar.proofs.law.lists_of_stmts_are_read.Goals as goal

pub returns : goal.returns
returns c = lists_of_stmts_are_read
