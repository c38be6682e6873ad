use Rattle.std.proofs.Common.{◌∙◌, arith, sym}
use Rattle.sa_graph.proofs.Firsts.{first_here}
use Rattle.sa_include_names.specs.Headers.{misused_class, misused_names}
use Rattle.sa_include_names.proofs.header.first_misused.Goals as goal

pub returns-in-Some : goal.returns-in-Some
unfolding misused_names
returns-in-Some c =
    sym (c.loop-class.invariant ∙ first_here (misused_class c.args.classes.now c.args.arrays.now) c.args.classes.now c.loop-class.class-index c.class-item.result c.in-Some.pos (omega arith) c.class-item.is (sym c.in_ok-pos.ensures ∙ c.in-Some.is))
