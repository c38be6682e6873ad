use Rattle.wa_text.specs.Forms.{◌then◌}
use Rattle.std.proofs.Common.{◌++◌, ap, ◌∙◌, ◌≡◌, ◌∷◌}
use Rattle.wa_text.specs.Reading.{texts}
use Rattle.wa_text.specs.Words.{Line, word}
use Rattle.wa_text.proofs.Refusals.{reads_behind, refuses_as, returned}
use Rattle.wa_text.proofs.reader.line.words_item.Goals as goal

pub returns-in_err-following : goal.returns-in_err-following
returns-in_err-following g c =
    returned _ _ _ c.from_residual.ensures.1 (refuses_as (λ (rest : Line) (line : Line). line ≡ c.args.first.now ∷ rest) (λ (v : _). word c.args.first.now then g.P.LineForm.form v) (texts c.args.words.now) (texts c.args.words.now) c.in_err-following.field-0.0 (λ v h. (h.1, h.2 ∙ ap (λ (front : Line). front ++ h.1) h.3)) c.in_err-following.ensures)

pub returns : goal.returns
returns g c = reads_behind (g.P.LineForm.form) c.args.first.now (texts c.args.words.now) (texts c.in_ok-following.field-0.now) c.read.result c.in_ok-following.ensures c.read.ensures
