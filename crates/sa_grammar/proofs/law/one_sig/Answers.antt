use Rattle.sa_grammar.proofs.SignaturesExact.{one_sig}
use Rattle.sa_grammar.proofs.law.one_sig.Goals as goal

pub returns : goal.returns
returns c = one_sig
