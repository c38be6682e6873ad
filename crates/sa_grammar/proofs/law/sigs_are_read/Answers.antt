use Rattle.sa_grammar.proofs.SignaturesExact.{sigs_are_read}
use Rattle.sa_grammar.proofs.law.sigs_are_read.Goals as goal

pub returns : goal.returns
returns c = sigs_are_read
