use Rattle.std.proofs.Common.{arith}
use Rattle.wa_text.specs.Listing.{func}
use Rattle.wa_text.proofs.Lines.{join-more}
use Rattle.wa_text.proofs.NoModule.{refused_funcs}
use Rattle.wa_text.proofs.Refusals.{refuses_at, returned}
use Rattle.wa_text.proofs.reader.module.functions.Goals as goal

pub loop-alloc-preserved : goal.loop-alloc-preserved
loop-alloc-preserved c =
    let pushed = c.in_ok-push.ensures.ok in
    record {
      forward = omega (arith, c.loop-alloc.invariant.forward, c.in_ok-func.ensures.ends.0);
      within = c.in_ok-func.ensures.ends.1;
      row = rw pushed (join-more func _ _ c.loop-alloc.invariant.row c.in_ok-func.ensures.found);
    }

pub returns-in_err-func-clause-refused : goal.returns-in_err-func-clause-refused
returns-in_err-func-clause-refused c =
    returned _ _ _ c.from_residual.ensures.1 (refuses_at c.in_err-func.field-0.0
    (λ at r. refused_funcs c.loop-alloc.funcs c.loop-alloc.invariant.row (c.begins.ensures.yes c.loop-alloc-test.true) r)
    c.in_err-func.ensures.refused)
