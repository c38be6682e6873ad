use Rattle.sa_grammar.proofs.ExpressionsExact.{posts_are_read}
use Rattle.sa_grammar.proofs.law.posts_are_read.Goals as goal

pub returns : goal.returns
returns c = posts_are_read
