use Rattle.std.proofs.Common.{◌≡◌, ℕ, List, [], drop, map, refl, sym, ap, ◌∙◌, arith}
use Rattle.std.proofs.lemmas.List.{at_drop_all}
use denote.Ref.{Bor}
use Rattle.wa_text.specs.Mnemonics.{name_in}
use Rattle.wa_text.proofs.Pieces.{name_here, name_past, shown}
use Rattle.wa_text.proofs.mnemonic.name_in.Goals as goal

pub loop-other-init : goal.loop-other-init
loop-other-init c = refl

pub returns-then-other-opcode : goal.returns-then-other-opcode
returns-then-other-opcode c =
    sym (name_here c.args.table.now c.loop-other.other-index c.args.opcode _ (omega arith) c.if-other-opcode.true) ∙ c.loop-other.invariant

pub loop-other-preserved : goal.loop-other-preserved
loop-other-preserved c =
    name_past c.args.table.now c.loop-other.other-index c.args.opcode _ (omega arith) c.if-other-opcode.false ∙ c.loop-other.invariant

pub returns : goal.returns
returns c =
    let none : drop c.loop-other.other-index c.args.table.now ≡ [] = at_drop_all (λ rows. rows) c.args.table.now c.loop-other.other-index (omega arith) in
    sym (ap (λ (rows : List (ℕ × Bor (List ℕ))). name_in (map shown rows) c.args.opcode) none) ∙ c.loop-other.invariant
