use Rattle.std.proofs.Common.{[], ◌∷◌, arith}
use Rattle.std.proofs.lemmas.List.{length-append}
use Rattle.wa_decode.proofs.Reading.{returned}
use Rattle.wa_decode.proofs.Vectors.{row-more, vec-ok, vec-err, vec-none}
use Rattle.wa_decode.proofs.production.vector.Goals as goal

pub returns-in_err-count-clause-reads : goal.returns-in_err-count-clause-reads
returns-in_err-count-clause-reads g c = returned _ c.from_residual.ensures.1 (vec-none c.in_err-count.ensures.reads)

pub returns-in_err-value-clause-reads : goal.returns-in_err-value-clause-reads
returns-in_err-value-clause-reads g c =
    returned _ c.from_residual-in_err-value.ensures.1
    (vec-err c.in_ok-count.ensures.reads (omega arith) c.loop-read.invariant.row c.in_err-value.ensures.reads)

pub returns-clause-reads : goal.returns-clause-reads
returns-clause-reads g c = vec-ok c.in_ok-count.ensures.reads (omega arith) c.loop-read.invariant.row

pub loop-read-preserved : goal.loop-read-preserved
loop-read-preserved g c =
    let pushed = c.in_ok-push.ensures.ok in
    record {
      ends = (omega (arith, c.loop-read.invariant.ends.0, c.in_ok-value.ensures.ends.0), c.in_ok-value.ensures.ends.1);
      count = rw pushed (omega (arith, length-append c.loop-read.values (c.in_ok-value.value ∷ [])));
      row = rw pushed (row-more (omega arith) c.loop-read.invariant.row c.in_ok-value.ensures.reads);
    }
