use Rattle.sa_hierarchy.specs.Hierarchies.{tables}
use Rattle.sa_hierarchy.proofs.Trials.{sound-own}
use Rattle.sa_hierarchy.proofs.class_hierarchy.Hierarchy.try_entry.Goals as goal

pub returns-in_ok-try_own-in-None : goal.returns-in_ok-try_own-in-None
returns-in_ok-try_own-in-None c =
    sound-own (tables c.args.self.now) c.args.place c.args.entry c.as_slice.result.now c.in_ok-edge.edge c.in_ok-above.above c.in_ok-try_form.field-0 c.nodes.result.now c.nodes-2.result.now c.name.result.now c.name-2.result.now c.as_slice.ensures.value c.in_ok-edge.ensures c.if-edge-entry.false c.nodes.ensures c.name.ensures c.in_ok-above.ensures c.nodes-2.ensures c.name-2.ensures c.in_ok-try_form.ensures c.in_ok-try_own-in-None.ensures
