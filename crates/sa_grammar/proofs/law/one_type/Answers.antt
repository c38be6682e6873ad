use Rattle.sa_grammar.proofs.TypesExact.{one_type}
use Rattle.sa_grammar.proofs.law.one_type.Goals as goal

pub returns : goal.returns
returns c = one_type
