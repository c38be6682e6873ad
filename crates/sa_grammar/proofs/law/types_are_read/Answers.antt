use Rattle.sa_grammar.proofs.TypesExact.{types_are_read}
use Rattle.sa_grammar.proofs.law.types_are_read.Goals as goal

pub returns : goal.returns
returns c = types_are_read
