use Rattle.std.proofs.lemmas.Result.{on_ok_weaker}
use Rattle.wa_syntax.specs.Formats.{u32}
use Rattle.wa_syntax.specs.Binary.{functype, tabletype, memtype, import, global, export, elem, code, segment}
use Rattle.wa_encode.proofs.Adding.{Adds-then}
use Rattle.wa_encode.proofs.Productions.{Adds-customs, Adds-vecsec-called, Adds-vecsec-map}
use Rattle.wa_encode.proofs.module.sections.Goals as goal

pub returns : goal.returns
returns c =
    on_ok_weaker _ (λ last.
    Adds-then (Adds-customs _) (Adds-then (Adds-vecsec-called 1 functype _ _ _ _ _ c.as_slice.ensures (λ old shown new k. k) c.in_ok-vector_section.ensures)
    (Adds-then (Adds-customs _) (Adds-then (Adds-vecsec-called 2 import _ _ _ _ _ c.as_slice-2.ensures (λ old shown new k. k) c.in_ok-vector_section-2.ensures)
    (Adds-then (Adds-customs _) (Adds-then (Adds-vecsec-map 3 u32 (λ f. f.ty) _ _ _ _ _ c.as_slice-3.ensures (λ old shown new k. k) c.in_ok-vector_section-3.ensures)
    (Adds-then (Adds-customs _) (Adds-then (Adds-vecsec-called 4 tabletype _ _ _ _ _ c.as_slice-4.ensures (λ old shown new k. k) c.in_ok-vector_section-4.ensures)
    (Adds-then (Adds-customs _) (Adds-then (Adds-vecsec-called 5 memtype _ _ _ _ _ c.as_slice-5.ensures (λ old shown new k. k) c.in_ok-vector_section-5.ensures)
    (Adds-then (Adds-customs _) (Adds-then (Adds-vecsec-called 6 global _ _ _ _ _ c.as_slice-6.ensures (λ old shown new k. k) c.in_ok-vector_section-6.ensures)
    (Adds-then (Adds-customs _) (Adds-then (Adds-vecsec-called 7 export _ _ _ _ _ c.as_slice-7.ensures (λ old shown new k. k) c.in_ok-vector_section-7.ensures)
    (Adds-then (Adds-customs _) (Adds-then c.in_ok-start.ensures
    (Adds-then (Adds-customs _) (Adds-then (Adds-vecsec-called 9 elem _ _ _ _ _ c.as_slice-8.ensures (λ old shown new k. k) c.in_ok-vector_section-8.ensures)
    (Adds-then (Adds-customs _) (Adds-then (Adds-vecsec-called 10 code _ _ _ _ _ c.as_slice-9.ensures (λ old shown new k. k) c.in_ok-vector_section-9.ensures)
    (Adds-then (Adds-customs _) (Adds-then (Adds-vecsec-called 11 segment _ _ _ _ _ c.as_slice-10.ensures (λ old shown new k. k) last)
    (Adds-customs _)))))))))))))))))))))))
    c.vector_section-10.ensures
