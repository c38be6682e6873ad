use Rattle.sa_grammar.proofs.ClassesExact.{one_file}
use Rattle.sa_grammar.proofs.law.one_file.Goals as goal

pub returns : goal.returns
returns c = one_file
