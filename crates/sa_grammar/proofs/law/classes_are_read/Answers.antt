use Rattle.sa_grammar.proofs.ClassesExact.{classes_are_read}
use Rattle.sa_grammar.proofs.law.classes_are_read.Goals as goal

pub returns : goal.returns
returns c = classes_are_read
