use Rattle.std.proofs.Common.{rules}
use Rattle.sa_subtypes.proofs.Refusing.{edges-right, refuses-supertype}
use Rattle.sa_subtypes.proofs.edges.SubtypeRelation.make.Goals as goal

pub returns-in-Some-clause-refused : goal.returns-in-Some-clause-refused
returns-in-Some-clause-refused c = refuses-supertype c.args.flat.now c.in_ok-names.names (search rules) c.in-Some.pos c.at.result (search rules) c.at.ensures

pub returns-clause-right : goal.returns-clause-right
returns-clause-right c = edges-right c.args.flat.now c.in_ok-names.names (search rules) c.in_ok-written.written.items (search rules) (search rules) (search rules)
