use Rattle.sa_hierarchy.specs.Hierarchies.{tables}
use Rattle.sa_hierarchy.proofs.Trials.{covering-goes}
use Rattle.sa_hierarchy.proofs.class_hierarchy.Hierarchy.try_covering.Goals as goal

pub returns : goal.returns
returns c =
    covering-goes (tables c.args.self.now) c.args.edge c.args.above c.as_slice.result.now c.in_ok-link.link c.as_slice.ensures.value c.in_ok-link.ensures c.as_slice-2.result.now c.in_ok-range.range c.as_slice-2.ensures.value c.in_ok-range.ensures c.in_ok-try_covers.ensures
