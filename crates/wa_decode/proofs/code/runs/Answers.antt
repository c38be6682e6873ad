use Rattle.std.proofs.Common.{arith}
use Rattle.wa_decode.proofs.CodeParts.{runs-more, runs-ok, runs-err, runs-uncounted}
use Rattle.wa_decode.proofs.Reading.{returned}
use Rattle.wa_decode.proofs.code.runs.Goals as goal

pub returns-in_err-count-clause-reads : goal.returns-in_err-count-clause-reads
returns-in_err-count-clause-reads c = returned _ c.from_residual.ensures.1 (runs-uncounted c.in_err-count.ensures.reads)

pub returns-in_err-run-clause-reads : goal.returns-in_err-run-clause-reads
returns-in_err-run-clause-reads c =
    returned _ c.from_residual-in_err-run.ensures.1
    (runs-err c.in_ok-count.ensures.reads (omega arith) c.loop-read.invariant.row c.in_err-run.ensures.reads)

pub returns-clause-reads : goal.returns-clause-reads
returns-clause-reads c = runs-ok c.in_ok-count.ensures.reads (omega arith) c.loop-read.invariant.row

pub loop-read-preserved : goal.loop-read-preserved
loop-read-preserved c =
    let pushed = c.in_ok-push.ensures.ok in
    record {
      ends = (omega (arith, c.loop-read.invariant.ends.0, c.in_ok-run.ensures.ends.0), c.in_ok-run.ensures.ends.1);
      row = rw pushed (runs-more (omega arith) c.loop-read.invariant.row c.in_ok-run.ensures.reads);
    }
