use Rattle.std.proofs.Common.{ℕ, ◌<◌, ◌≤◌, [], ◌∷◌, refl, sym, subst}
use Rattle.wa_syntax.specs.declared.module.ValTy.{ValTy}
use Rattle.wa_syntax.specs.declared.module.ValTy.TheVariants.{I32}
use Rattle.wa_syntax.specs.Validity.{Gives}
use Rattle.wa_valid.specs.Operands.{stack, Answers}
use Rattle.wa_valid.proofs.Typed.{typed-load, typed-store}
use Rattle.wa_valid.proofs.memory.load_or_store.Goals as goal

pub returns-in-Some : goal.returns-in-Some
returns-in-Some c = λ ctx offset same.
    let found = c.in-Some.ensures.load in
    let fine = c.in_ok-aligned.ensures.0 refl in
    typed-load ctx c.args.opcode c.args.align offset found.0 (stack c.args.operands.now) (stack c.apply.new.self) c.apply.result found.1 c.in-Some.ensures.apart
    (subst (λ (n : ℕ). 0 < n) (sym same) fine.0)
    (subst (λ (n : ℕ). c.args.align ≤ n) found.2.1 fine.1)
    (subst (λ (t : ValTy). Answers (Gives (I32 ∷ []) (t ∷ [])) (stack c.args.operands.now) (stack c.apply.new.self) c.apply.result) found.2.0 c.apply.ensures)

pub returns-in_ok-aligned-in-Some-store : goal.returns-in_ok-aligned-in-Some-store
returns-in_ok-aligned-in-Some-store c = λ ctx offset same.
    let found = c.in-Some-store.ensures in
    let fine = c.in_ok-aligned-in-Some-store.ensures.0 refl in
    typed-store ctx c.args.opcode c.args.align offset found.0 (stack c.args.operands.now) (stack c.apply-in-Some-store.new.self) c.apply-in-Some-store.result found.1 c.in_default.ensures.load
    (subst (λ (n : ℕ). 0 < n) (sym same) fine.0)
    (subst (λ (n : ℕ). c.args.align ≤ n) found.2.1 fine.1)
    (subst (λ (t : ValTy). Answers (Gives (I32 ∷ t ∷ []) []) (stack c.args.operands.now) (stack c.apply-in-Some-store.new.self) c.apply-in-Some-store.result) found.2.0 c.apply-in-Some-store.ensures)
