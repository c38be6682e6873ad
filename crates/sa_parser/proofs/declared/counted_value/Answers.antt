use Rattle.sa_parser.proofs.declared.counted_value.Goals as goal

pub returns-clause-exact : goal.returns-clause-exact
returns-clause-exact c = record { next = c.in_ok-value.next; is = c.in_ok-value.ensures.exact }
