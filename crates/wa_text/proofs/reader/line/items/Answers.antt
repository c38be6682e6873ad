use Rattle.std.proofs.Common.{arith}
use Rattle.wa_text.proofs.Lines.{join-more}
use Rattle.wa_text.proofs.NoModule.{line_begins}
use Rattle.wa_text.proofs.Refusals.{begins_otherwise-local, cut_line, refused_each, refuses_at, returned}
use Rattle.wa_text.proofs.reader.line.items.Goals as goal

pub loop-alloc-preserved : goal.loop-alloc-preserved
loop-alloc-preserved g c =
    let pushed = c.in_ok-push.ensures.ok in
    record {
      forward = omega (arith, c.loop-alloc.invariant.forward, c.in_ok-item.ensures.ends.0);
      within = c.in_ok-item.ensures.ends.1;
      row = rw pushed (join-more _ _ _ c.loop-alloc.invariant.row c.in_ok-item.ensures.found);
    }

pub returns-in_err-item-clause-refused : goal.returns-in_err-item-clause-refused
returns-in_err-item-clause-refused g c =
    returned _ _ _ c.from_residual.ensures.1 (refuses_at c.in_err-item.field-0.0
    (λ at r. refused_each c.loop-alloc.items cut_line (λ v s x h other. other (line_begins s x h)) (begins_otherwise-local c.args.first.now) (λ other. other (c.begins.ensures.yes c.loop-alloc-test.true)) c.loop-alloc.invariant.row r)
    c.in_err-item.ensures.refused)
