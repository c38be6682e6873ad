use Rattle.std.proofs.Common.{◌≡◌, ℕ, OnOk, subst, rules}
use Rattle.wa_text.specs.Words.{u32}
use Rattle.wa_text.specs.Writing.{AddsWords}
use Rattle.wa_text.proofs.Productions.{Ok-bits}
use Rattle.wa_text.proofs.writer.words.index.Goals as goal

pub returns : goal.returns
returns c =
    let is : c.from.result ≡ c.args.n.now = search rules in
    subst (λ (n : ℕ). OnOk c.number.result (AddsWords (u32 n) c.args.out.now.items c.number.new.out.items)) is (Ok-bits c.number.result 32 c.from.result _ _ c.number.ensures)
