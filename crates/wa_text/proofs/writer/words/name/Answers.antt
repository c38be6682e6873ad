use Rattle.std.proofs.Common.{List, ℕ, subst}
use Rattle.std.proofs.lemmas.Result.{on_ok_weaker}
use Rattle.wa_text.specs.Words.{bytes, name}
use Rattle.wa_text.specs.Writing.{AddsWords}
use Rattle.wa_text.proofs.Adding.{Adds-as}
use Rattle.wa_text.proofs.writer.words.name.Goals as goal

pub returns : goal.returns
returns c =
    on_ok_weaker _ (λ h. Adds-as {A = bytes c.args.name.now} (name c.args.name.now) (λ other spelled. spelled.1) (subst (λ (text : List ℕ). AddsWords (bytes text) c.args.out.now.items c.bytes.new.out.items) c.as_slice.ensures h)) c.bytes.ensures
