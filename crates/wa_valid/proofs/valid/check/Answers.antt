use Rattle.std.proofs.Common.{refl}
use Rattle.wa_valid.proofs.Functions.{bodies-say}
use Rattle.wa_valid.proofs.valid.check.Goals as goal

pub returns : goal.returns
returns c =
    bodies-say c.args.m.now c.in_ok-context.context c.as_slice.result.now c.bodies.result c.in_ok-context.ensures.ok c.as_slice.ensures (c.in_ok-outside_bodies.ensures.0 refl) c.bodies.ensures
