use Rattle.std.specs.Str.{IsUtf8}
use Rattle.std.proofs.Common.{[], ◌∷◌, subst, sym}
use Rattle.wa_text.specs.Words.{bytes, name}
use Rattle.wa_text.proofs.NoWords.{no_name}
use Rattle.wa_text.proofs.Refusals.{refuses_as, returned}
use Rattle.wa_text.proofs.reader.words.name.Goals as goal

pub returns-in_err-bytes : goal.returns-in_err-bytes
returns-in_err-bytes c = returned _ _ _ c.from_residual.ensures.1 (refuses_as bytes name (c.args.word.now ∷ []) (c.args.word.now ∷ []) c.in_err-bytes.field-0.0 (λ t h. (t, h.1)) c.in_err-bytes.ensures)

pub returns-in_default : goal.returns-in_default
returns-in_default c = no_name c.args.word.now c.in_ok-bytes.bytes.items c.in_ok-bytes.ensures (λ utf8. c.in_default.ensures.cases.0 (subst IsUtf8 (sym c.as_slice.ensures.value) utf8))
