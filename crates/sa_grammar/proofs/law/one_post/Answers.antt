use Rattle.sa_grammar.proofs.ExpressionsExact.{one_post}
use Rattle.sa_grammar.proofs.law.one_post.Goals as goal

pub returns : goal.returns
returns c = one_post
