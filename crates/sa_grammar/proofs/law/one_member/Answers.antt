use Rattle.sa_grammar.proofs.FeaturesExact.{one_member}
use Rattle.sa_grammar.proofs.law.one_member.Goals as goal

pub returns : goal.returns
returns c = one_member
