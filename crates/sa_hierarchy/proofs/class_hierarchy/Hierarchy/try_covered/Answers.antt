use Rattle.sa_hierarchy.specs.Hierarchies.{tables}
use Rattle.sa_hierarchy.proofs.Trials.{covered-passed}
use Rattle.sa_hierarchy.proofs.class_hierarchy.Hierarchy.try_covered.Goals as goal

pub returns-then-begins_bare : goal.returns-then-begins_bare
returns-then-begins_bare c =
    covered-passed (tables c.args.self.now) c.args.edge c.args.place c.as_slice.result.now c.in_ok-entry.entry c.nodes-first.result.now c.nodes-second.result.now c.as_slice.ensures.value c.in_ok-entry.ensures c.nodes-first.ensures c.nodes-second.ensures (c.is_bare.ensures c.if-is_bare.true) (c.begins_bare.ensures c.if-begins_bare.true) c.in_ok-try_passed.ensures
