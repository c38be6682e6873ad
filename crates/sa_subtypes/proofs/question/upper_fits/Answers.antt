use Rattle.std.proofs.Common.{◌+◌, ◌-◌, map, drop, take, length}
use Rattle.sa_ast.specs.Types.{bare}
use Rattle.sa_subtypes.proofs.Comparing.{fits-class}
use Rattle.sa_unify.proofs.Compositions.{rest-of}
use Rattle.sa_subtypes.proofs.question.upper_fits.Goals as goal

pub returns : goal.returns
returns c =
    fits-class (map bare c.args.lower.now) (map bare c.args.upper.now) c.args.nodes.now c.args.nodes.now (take (length c.args.nodes.now - (c.args.end + 1)) (drop (c.args.end + 1) c.args.nodes.now)) c.args.end c.index-nodes-end.result c.class_fits.result c.if-end-nodes.false c.index-nodes-end.is (rest-of c.args.nodes.now (c.args.end + 1)) c.class_fits.ensures
