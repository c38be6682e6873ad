-- A parameter that doesn't conform.
use Rattle.std.proofs.Common.{arith, sym, ◌∙◌}
use Rattle.sa_typing.specs.Rows.{rows}
use Rattle.sa_typing.proofs.Listed.{params_conform-fails}
use Rattle.sa_typing.proofs.signatures.params_conform.Goals as goal

pub returns-then-not-conforms_at : goal.returns-then-not-conforms_at
returns-then-not-conforms_at c =
    sym (c.loop-place.invariant
    ∙ params_conform-fails (rows c.args.view.now) c.args.found c.args.params.now c.loop-place.place _ (omega arith) c.if-not-conforms_at.ensures)
