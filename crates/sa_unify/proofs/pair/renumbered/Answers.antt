use Rattle.sa_unify.proofs.Renumbering.{renumbered-same}
use Rattle.sa_unify.proofs.pair.renumbered.Goals as goal

pub returns : goal.returns
returns c =
    renumbered-same c.args.nodes.now c.in_ok-renamed_nodes.renamed_nodes.items c.as_slice.result.now c.in_ok-back.back.items c.as_slice-2.result.now c.deref.result.now c.deref-2.result.now c.in_ok-renamed_nodes.ensures c.as_slice.ensures.value c.in_ok-back.ensures c.as_slice-2.ensures.value c.in_ok-try_equal.ensures
