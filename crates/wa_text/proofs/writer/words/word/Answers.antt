use Rattle.std.proofs.Common.{List, ℕ, [], ◌∷◌, ◌++◌, ap, ◌∙◌, append_assoc}
use Rattle.wa_text.proofs.Adding.{Adds-word}
use Rattle.wa_text.proofs.writer.words.word.Goals as goal

pub returns : goal.returns
returns c =
    Adds-word c.args.word.now _ _ (c.in_ok-extend_from_slice.ensures.items ∙ ap (λ (text : List ℕ). text ++ c.args.word.now) c.in_ok-push.ensures.items ∙ append_assoc c.args.out.now.items (32 ∷ []) c.args.word.now)
