use Rattle.sa_grammar.proofs.StatementsExact.{one_stmt}
use Rattle.sa_grammar.proofs.law.one_stmt.Goals as goal

pub returns : goal.returns
returns c = one_stmt
