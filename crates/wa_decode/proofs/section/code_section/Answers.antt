use Rattle.std.proofs.Common.{◌≡◌, [], arith, rules}
use Rattle.std.proofs.lemmas.Grind.{common_steps}
use Rattle.wa_decode.proofs.Blocks.{not_true}
use Rattle.wa_decode.proofs.Sections.{passed, returned-to, section-ok, section-err, section-unread, section-bare, section-none, content-codesec, codesec-bare, codes_none, not_empty}
use Rattle.wa_decode.proofs.Sized.{holds, sized-ok, sized-err, sized-past, sized-none}
use Rattle.wa_decode.proofs.section.code_section.Goals as goal

pub returns-in_err-at-clause-reads : goal.returns-in_err-at-clause-reads
returns-in_err-at-clause-reads c = returned-to _ c.from_residual.ensures.1 (section-unread c.in_err-at.ensures.complete)

pub returns-then-is_empty-clause-reads : goal.returns-then-is_empty-clause-reads
returns-then-is_empty-clause-reads c =
    let empty : c.args.types.now ≡ [] = grind (arith, common_steps) in
    let none = codes_none c.args.types.now empty in
    rw c.new.ensures
    (section-bare [] (content-codesec c.args.types.now) (passed c.in_ok-at.ensures.found c.in_ok-at.ensures.complete) (not_true c.begins.result c.begins.ensures.begins (search rules)) none (λ w h. (codesec-bare c.args.types.now w h).0))

pub returns-else-is_empty-clause-reads : goal.returns-else-is_empty-clause-reads
returns-else-is_empty-clause-reads c =
    section-none (content-codesec c.args.types.now) (passed c.in_ok-at.ensures.found c.in_ok-at.ensures.complete) (not_true c.begins.result c.begins.ensures.begins (search rules)) (λ w h. absurd (not_empty c.args.types.now (search rules) (codesec-bare c.args.types.now w h).1))

pub returns-in_err-content-clause-reads : goal.returns-in_err-content-clause-reads
returns-in_err-content-clause-reads c =
    let past = passed c.in_ok-at.ensures.found c.in_ok-at.ensures.complete in
    returned-to _ c.from_residual-in_err-content.ensures.1 (section-err (content-codesec c.args.types.now) past (search rules) (sized-none c.in_err-content.ensures.complete))

pub returns-in_err-funcs-clause-reads : goal.returns-in_err-funcs-clause-reads
returns-in_err-funcs-clause-reads c =
    let past = passed c.in_ok-at.ensures.found c.in_ok-at.ensures.complete in
    let content = holds c.in_ok-content.ensures.holds.starts c.in_ok-content.ensures.found c.in_ok-content.ensures.complete in
    returned-to _ c.from_residual-in_err-funcs.ensures.1 (section-err (content-codesec c.args.types.now) past (search rules) (sized-err content c.in_err-funcs.ensures.reads))

pub returns-in_err-ends-clause-reads : goal.returns-in_err-ends-clause-reads
returns-in_err-ends-clause-reads c =
    let past = passed c.in_ok-at.ensures.found c.in_ok-at.ensures.complete in
    let content = holds c.in_ok-content.ensures.holds.starts c.in_ok-content.ensures.found c.in_ok-content.ensures.complete in
    returned-to _ c.from_residual-in_err-ends.ensures.1
    (section-err (content-codesec c.args.types.now) past (search rules) (sized-past content c.in_ok-funcs.ensures.reads c.in_err-ends.ensures.0 c.in_err-ends.ensures.1))

pub returns-clause-reads : goal.returns-clause-reads
returns-clause-reads c =
    let past = passed c.in_ok-at.ensures.found c.in_ok-at.ensures.complete in
    let content = holds c.in_ok-content.ensures.holds.starts c.in_ok-content.ensures.found c.in_ok-content.ensures.complete in
    section-ok (content-codesec c.args.types.now) past (search rules) (sized-ok content c.in_ok-funcs.ensures.reads c.in_ok-ends.ensures)
