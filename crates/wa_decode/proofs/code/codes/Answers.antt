use Rattle.std.proofs.Common.{[], ◌∷◌, arith, rules}
use Rattle.std.proofs.lemmas.List.{length-append}
use Rattle.wa_decode.proofs.CodeParts.{codes-more, codes-ok, codes-err, codes-uncounted, codes-miscounted}
use Rattle.wa_decode.proofs.Reading.{returned}
use Rattle.wa_decode.proofs.code.codes.Goals as goal

pub returns-in_err-count-clause-reads : goal.returns-in_err-count-clause-reads
returns-in_err-count-clause-reads c = returned _ c.from_residual.ensures.1 (codes-uncounted c.args.types.now c.in_err-count.ensures.reads)

pub returns-then-count-types-clause-reads : goal.returns-then-count-types-clause-reads
returns-then-count-types-clause-reads c = codes-miscounted c.args.types.now c.in_ok-count.ensures.reads (λ e. search rules)

pub returns-in_err-func-clause-reads : goal.returns-in_err-func-clause-reads
returns-in_err-func-clause-reads c =
    let invariant = c.loop-ty.invariant in
    returned _ c.from_residual-in_err-func.ensures.1
    (codes-err c.loop-ty.ty-index _ c.in_ok-count.ensures.reads invariant.count c.loop-ty-test.true invariant.row c.in_err-func.ensures.reads)

pub loop-ty-preserved : goal.loop-ty-preserved
loop-ty-preserved c =
    let invariant = c.loop-ty.invariant in
    let pushed = c.in_ok-push.ensures.ok in
    record {
      ends = (omega (arith, invariant.ends.0, c.in_ok-func.ensures.ends.0), c.in_ok-func.ensures.ends.1);
      count = rw pushed (omega (arith, invariant.count, length-append c.loop-ty.funcs (c.in_ok-func.func ∷ [])));
      row = rw pushed (codes-more c.loop-ty.ty-index _ invariant.count c.loop-ty-test.true invariant.row c.in_ok-func.ensures.reads);
    }

pub returns-clause-reads : goal.returns-clause-reads
returns-clause-reads c =
    codes-ok c.in_ok-count.ensures.reads (omega arith) (omega (arith, c.loop-ty.invariant.count)) c.loop-ty.invariant.row
