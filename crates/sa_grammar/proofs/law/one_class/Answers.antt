use Rattle.sa_grammar.proofs.ClassesExact.{one_class}
use Rattle.sa_grammar.proofs.law.one_class.Goals as goal

pub returns : goal.returns
returns c = one_class
