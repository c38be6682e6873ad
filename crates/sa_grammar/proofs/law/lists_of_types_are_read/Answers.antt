use Rattle.sa_grammar.proofs.TypesExact.{lists_of_types_are_read}
use Rattle.sa_grammar.proofs.law.lists_of_types_are_read.Goals as goal

pub returns : goal.returns
returns c = lists_of_types_are_read
