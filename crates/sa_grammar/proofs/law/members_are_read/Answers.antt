use Rattle.sa_grammar.proofs.FeaturesExact.{members_are_read}
use Rattle.sa_grammar.proofs.law.members_are_read.Goals as goal

pub returns : goal.returns
returns c = members_are_read
