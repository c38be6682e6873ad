use Rattle.std.proofs.Common.{◌∙◌, arith, rules}
use Rattle.std.proofs.lemmas.Result.{err_from_is_err_and}
use Rattle.wa_decode.proofs.Blocks.{not_true}
use Rattle.wa_decode.proofs.Sections.{over-more, over-err, over-done}
use Rattle.wa_decode.proofs.section.customs.Goals as goal

pub returns-in_err-at-clause-complete : goal.returns-in_err-at-clause-complete
returns-in_err-at-clause-complete c = λ place past.
    let failed = err_from_is_err_and c.from_residual.result c.from_residual.ensures.1 in
    rw failed.1 (failed.2 ∙ over-err (search rules) c.loop-at.invariant.row c.in_err-at.ensures.reads past)

pub loop-at-preserved : goal.loop-at-preserved
loop-at-preserved c =
    record {
      reaches = (omega (arith, c.loop-at.invariant.reaches.0, c.in_ok-at.ensures.ends.0), c.in_ok-at.ensures.ends.1);
      row = over-more (search rules) c.loop-at.invariant.row c.in_ok-at.ensures.reads;
    }

pub returns-clause-complete : goal.returns-clause-complete
returns-clause-complete c = λ place past. over-done (not_true c.begins.result c.begins.ensures.begins (search rules)) c.loop-at.invariant.row past
