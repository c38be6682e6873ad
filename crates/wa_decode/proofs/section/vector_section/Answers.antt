use Rattle.std.proofs.Common.{[], inl, refl, rules}
use Rattle.wa_decode.proofs.Blocks.{not_true}
use Rattle.wa_decode.proofs.Sections.{passed, returned-to, section-ok, section-err, section-unread, section-bare, content-vecsec, vecsec-bare}
use Rattle.wa_decode.proofs.Sized.{holds, sized-ok, sized-err, sized-past, sized-none}
use Rattle.wa_decode.proofs.section.vector_section.Goals as goal

pub returns-in_err-at-clause-reads : goal.returns-in_err-at-clause-reads
returns-in_err-at-clause-reads g c = returned-to _ c.from_residual.ensures.1 (section-unread c.in_err-at.ensures.complete)

pub returns-then-not-begins-clause-reads : goal.returns-then-not-begins-clause-reads
returns-then-not-begins-clause-reads g c =
    rw c.new.ensures
    (section-bare [] (content-vecsec c.args.id g.P.Production.format) (passed c.in_ok-at.ensures.found c.in_ok-at.ensures.complete) (not_true c.begins.result c.begins.ensures.begins (search rules)) (inl (refl, refl))
    (vecsec-bare c.args.id g.P.Production.format))

pub returns-in_err-content-clause-reads : goal.returns-in_err-content-clause-reads
returns-in_err-content-clause-reads g c =
    let past = passed c.in_ok-at.ensures.found c.in_ok-at.ensures.complete in
    returned-to _ c.from_residual-in_err-content.ensures.1 (section-err (content-vecsec c.args.id g.P.Production.format) past (search rules) (sized-none c.in_err-content.ensures.complete))

pub returns-in_err-values-clause-reads : goal.returns-in_err-values-clause-reads
returns-in_err-values-clause-reads g c =
    let past = passed c.in_ok-at.ensures.found c.in_ok-at.ensures.complete in
    let content = holds c.in_ok-content.ensures.holds.starts c.in_ok-content.ensures.found c.in_ok-content.ensures.complete in
    returned-to _ c.from_residual-in_err-values.ensures.1 (section-err (content-vecsec c.args.id g.P.Production.format) past (search rules) (sized-err content c.in_err-values.ensures.reads))

pub returns-in_err-ends-clause-reads : goal.returns-in_err-ends-clause-reads
returns-in_err-ends-clause-reads g c =
    let past = passed c.in_ok-at.ensures.found c.in_ok-at.ensures.complete in
    let content = holds c.in_ok-content.ensures.holds.starts c.in_ok-content.ensures.found c.in_ok-content.ensures.complete in
    returned-to _ c.from_residual-in_err-ends.ensures.1
    (section-err (content-vecsec c.args.id g.P.Production.format) past (search rules) (sized-past content c.in_ok-values.ensures.reads c.in_err-ends.ensures.0 c.in_err-ends.ensures.1))

pub returns-clause-reads : goal.returns-clause-reads
returns-clause-reads g c =
    let past = passed c.in_ok-at.ensures.found c.in_ok-at.ensures.complete in
    let content = holds c.in_ok-content.ensures.holds.starts c.in_ok-content.ensures.found c.in_ok-content.ensures.complete in
    section-ok (content-vecsec c.args.id g.P.Production.format) past (search rules) (sized-ok content c.in_ok-values.ensures.reads c.in_ok-ends.ensures)
