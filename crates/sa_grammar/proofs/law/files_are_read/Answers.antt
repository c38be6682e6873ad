use Rattle.sa_grammar.proofs.ClassesExact.{files_are_read}
use Rattle.sa_grammar.proofs.law.files_are_read.Goals as goal

pub returns : goal.returns
returns c = files_are_read
