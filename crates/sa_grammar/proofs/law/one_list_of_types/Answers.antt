use Rattle.sa_grammar.proofs.TypesExact.{one_list_of_types}
use Rattle.sa_grammar.proofs.law.one_list_of_types.Goals as goal

pub returns : goal.returns
returns c = one_list_of_types
