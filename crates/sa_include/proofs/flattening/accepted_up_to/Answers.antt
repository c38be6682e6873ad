use Rattle.sa_include.proofs.Resolving.{done_too}
use Rattle.sa_include.proofs.flattening.accepted_up_to.Goals as goal

-- one more class is resolved, and isn't refused
pub loop-number-preserved : goal.loop-number-preserved
loop-number-preserved c =
    done_too c.args.resolved.now c.args.from c.loop-number.number c.in_ok-flattened.flattened.now
    c.loop-number.invariant c.in_ok-flattened.ensures c.if-not-flattened.false c.in-None.is
