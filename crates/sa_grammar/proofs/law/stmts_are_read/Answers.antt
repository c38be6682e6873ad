use Rattle.sa_grammar.proofs.StatementsExact.{stmts_are_read}
use Rattle.sa_grammar.proofs.law.stmts_are_read.Goals as goal

pub returns : goal.returns
returns c = stmts_are_read
