use Rattle.std.proofs.lemmas.Result.{on_ok_weaker}
use Rattle.wa_text.specs.Words.{line}
use Rattle.wa_text.specs.Listing.{functype, import, func, table, memory, global, export, elem, segment}
use Rattle.wa_text.proofs.Adding.{Adds-each-called, Adds-then}
use Rattle.wa_text.proofs.writer.module.module.Goals as goal

pub returns : goal.returns
returns c =
    on_ok_weaker _ (λ last.
    (Adds-then (Adds-each-called (λ v. line (functype v)) _ _ _ _ _ c.as_slice.ensures (λ old shown new k. k) c.in_ok-each.ensures)
    (Adds-then (Adds-each-called (λ v. line (import v)) _ _ _ _ _ c.as_slice-2.ensures (λ old shown new k. k) c.in_ok-each-2.ensures)
    (Adds-then (Adds-each-called func _ _ _ _ _ c.as_slice-3.ensures (λ old shown new k. k) c.in_ok-each-3.ensures)
    (Adds-then (Adds-each-called (λ v. line (table v)) _ _ _ _ _ c.as_slice-4.ensures (λ old shown new k. k) c.in_ok-each-4.ensures)
    (Adds-then (Adds-each-called (λ v. line (memory v)) _ _ _ _ _ c.as_slice-5.ensures (λ old shown new k. k) c.in_ok-each-5.ensures)
    (Adds-then (Adds-each-called (λ v. line (global v)) _ _ _ _ _ c.as_slice-6.ensures (λ old shown new k. k) c.in_ok-each-6.ensures)
    (Adds-then (Adds-each-called (λ v. line (export v)) _ _ _ _ _ c.as_slice-7.ensures (λ old shown new k. k) c.in_ok-each-7.ensures)
    (Adds-then c.in_ok-start.ensures
    (Adds-then (Adds-each-called (λ v. line (elem v)) _ _ _ _ _ c.as_slice-8.ensures (λ old shown new k. k) c.in_ok-each-8.ensures)
    (Adds-each-called (λ v. line (segment v)) _ _ _ _ _ c.as_slice-9.ensures (λ old shown new k. k) last))))))))))) c.each-9.ensures
