use Rattle.std.proofs.Common.{rules}
use Rattle.std.proofs.lemmas.List.{append-nil}
use Rattle.sa_parser.proofs.statement.push_some.Goals as goal

pub returns-in-None : goal.returns-in-None
returns-in-None c = search (rules, append-nil)
