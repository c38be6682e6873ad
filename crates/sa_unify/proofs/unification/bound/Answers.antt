use Rattle.sa_unify.proofs.Differences.{bound-term}
use Rattle.sa_unify.proofs.unification.bound.Goals as goal

pub returns : goal.returns
returns c =
    bound-term c.args.nodes.now c.in_ok-copy.copy.items c.args.at c.in-Some.end c.args.number c.in-Some.ensures.after c.in-Some.ensures.following c.in_ok-copy.ensures
