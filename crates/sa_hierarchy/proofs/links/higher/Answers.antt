use Rattle.sa_hierarchy.proofs.Jumps.{jump-far}
use Rattle.sa_hierarchy.proofs.links.higher.Goals as goal

pub returns-then-far-depth : goal.returns-then-far-depth
returns-then-far-depth c =
    jump-far c.args.links.now c.args.class c.args.depth c.found.result c.found-2.result c.in-Some.link c.in-Some-found.far c.requires.linked c.found.ensures c.in-Some.is c.requires.deeper c.found-2.ensures c.in-Some-found.is c.if-far-depth.true
