use Rattle.sa_grammar.proofs.ExpressionsExact.{one_expr}
use Rattle.sa_grammar.proofs.law.one_expr.Goals as goal

pub returns : goal.returns
returns c = one_expr
