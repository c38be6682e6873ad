use Rattle.std.proofs.Common.{◌+◌, ◌-◌, arith}
use Rattle.wa_text.proofs.Adding.{Adds-nothing, Adds-then}
use Rattle.wa_text.proofs.Productions.{replicate_more, replicate_none}
use Rattle.wa_text.proofs.writer.items.run.Goals as goal

pub loop-written-preserved : goal.loop-written-preserved
loop-written-preserved c =
    λ last rest.
    c.loop-written.invariant last (rw (replicate_more (c.args.run.now.count - c.loop-written._written) (c.args.run.now.count - (c.loop-written._written + 1)) c.args.run.now.ty (omega arith)) (Adds-then c.in_ok-value_type.ensures rest))

pub returns : goal.returns
returns c =
    c.loop-written.invariant c.loop-written.out.items (rw (replicate_none (c.args.run.now.count - c.loop-written._written) c.args.run.now.ty (omega arith)) (Adds-nothing _))
