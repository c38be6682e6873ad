use Rattle.wa_syntax.specs.BinaryInstructions.{expr}
use Rattle.wa_decode.proofs.CodeParts.{code-ok, code-err}
use Rattle.wa_decode.proofs.Reading.{pair-ok, pair-err, pair-none, returned}
use Rattle.wa_decode.proofs.Sized.{holds, sized-ok, sized-err, sized-past, sized-none}
use Rattle.wa_decode.proofs.code.code.Goals as goal

pub returns-in_err-content-clause-reads : goal.returns-in_err-content-clause-reads
returns-in_err-content-clause-reads c = returned _ c.from_residual.ensures.1 (code-err _ (sized-none c.in_err-content.ensures.complete))

pub returns-in_err-locals-clause-reads : goal.returns-in_err-locals-clause-reads
returns-in_err-locals-clause-reads c =
    let content = holds c.in_ok-content.ensures.holds.starts c.in_ok-content.ensures.found c.in_ok-content.ensures.complete in
    returned _ c.from_residual-in_err-locals.ensures.1 (code-err _ (sized-err content (pair-none expr c.in_err-locals.ensures.reads)))

pub returns-in_err-body-clause-reads : goal.returns-in_err-body-clause-reads
returns-in_err-body-clause-reads c =
    let content = holds c.in_ok-content.ensures.holds.starts c.in_ok-content.ensures.found c.in_ok-content.ensures.complete in
    returned _ c.from_residual-in_err-body.ensures.1
    (code-err _ (sized-err content (pair-err c.in_ok-locals.ensures.reads c.in_err-body.ensures.reads)))

pub returns-in_err-ends-clause-reads : goal.returns-in_err-ends-clause-reads
returns-in_err-ends-clause-reads c =
    let content = holds c.in_ok-content.ensures.holds.starts c.in_ok-content.ensures.found c.in_ok-content.ensures.complete in
    returned _ c.from_residual-in_err-ends.ensures.1
    (code-err _
    (sized-past content (pair-ok c.in_ok-locals.ensures.reads c.in_ok-body.ensures.reads) c.in_err-ends.ensures.0 c.in_err-ends.ensures.1))

pub returns-clause-reads : goal.returns-clause-reads
returns-clause-reads c =
    let content = holds c.in_ok-content.ensures.holds.starts c.in_ok-content.ensures.found c.in_ok-content.ensures.complete in
    code-ok _ _ _ (sized-ok content (pair-ok c.in_ok-locals.ensures.reads c.in_ok-body.ensures.reads) c.in_ok-ends.ensures)
