-- A signature that lacks an implementation, and one that has all of them.
use Rattle.std.proofs.Common.{arith, sym, ◌∙◌}
use Rattle.sa_typing.specs.Rows.{rows}
use Rattle.sa_typing.proofs.Listed.{well_signatures-fails, well_signatures-goes}
use Rattle.sa_typing.proofs.signatures.well_signatures.Goals as goal

pub returns-then-not-well_signature : goal.returns-then-not-well_signature
returns-then-not-well_signature c =
    sym (c.loop-number.invariant.rest
    ∙ well_signatures-fails (rows c.args.view.now) c.args.view.now.signatures.now c.loop-number.number c.signature-item.result (omega arith) c.signature-item.is c.if-not-well_signature.ensures)

pub loop-number-preserved : goal.loop-number-preserved
loop-number-preserved c = record {
  known = c.lowers_of-lowers.ensures.count;
  rest =
      c.loop-number.invariant.rest
      ∙ well_signatures-goes (rows c.args.view.now) c.args.view.now.signatures.now c.loop-number.number c.signature-item.result (omega arith) c.signature-item.is c.if-not-well_signature.ensures;
}
