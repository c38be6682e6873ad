use Rattle.sa_include_names.proofs.Clauses.{all_classes}
use Rattle.sa_include_names.proofs.graph.Edges.new.Goals as goal

pub returns : goal.returns
returns c = all_classes c.args.classes.now c.loop-place.edges c.loop-place.place c.loop-place-test.false c.loop-place.invariant
