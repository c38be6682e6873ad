use Rattle.std.proofs.Common.{arith, rules}
use Rattle.sa_parser.specs.ClassForms.{immutable_there, partial_there, no_word}
use Rattle.sa_parser.proofs.class.kind.Goals as goal

pub returns-in-Some-Word-Immutable-clause-exact : goal.returns-in-Some-Word-Immutable-clause-exact
returns-in-Some-Word-Immutable-clause-exact c = immutable_there (grind arith)

pub returns-in-Some-Word-Partial-clause-exact : goal.returns-in-Some-Word-Partial-clause-exact
returns-in-Some-Word-Partial-clause-exact c = partial_there (grind arith)

pub returns-in_default-clause-exact : goal.returns-in_default-clause-exact
returns-in_default-clause-exact c = no_word (search rules) (search rules)

pub returns-in_default-2-clause-exact : goal.returns-in_default-2-clause-exact
returns-in_default-2-clause-exact c = no_word (search rules) (search rules)

pub returns-in_default-3-clause-exact : goal.returns-in_default-3-clause-exact
returns-in_default-3-clause-exact c = no_word (search rules) (search rules)
