use Rattle.std.proofs.Common.{◌≡◌, ◌≢◌, List, ℕ, [], ◌∷◌, refl, ap, rules, subst}
use Rattle.std.specs.Prelude.{codes}
use Rattle.wa_syntax.specs.declared.instr.Instr.TheOpen.{Instr-F}
use Rattle.wa_syntax.specs.declared.instr.Instr.TheVariants as variant
use Rattle.wa_syntax.specs.declared.instr.Instr.{out-Instr}
use Rattle.wa_text.specs.Reading.{whole}
use Rattle.wa_text.specs.Words.{Word, u32, u64}
use Rattle.wa_text.proofs.Lines.{single}
use Rattle.wa_text.proofs.NoInstruction.{constant_of, index_of, reads_index, simple}
use Rattle.wa_text.proofs.Refusals.{refuses_as, returned}
use Rattle.wa_text.proofs.reader.instruction.with_number.Goals as goal

pub returns-then-eq : goal.returns-then-eq
returns-then-eq c =
    let first = c.args.first.now in
    let value = c.args.value.now in
    let n = c.in_ok-number.field-0 in
    let is : first ≡ codes "i64.const" = search rules in
    single _ (Instr-F.I64Const n) ((first ∷ value ∷ []) ∷ []) (variant.rolls-I64Const n)
    (λ Body. (first ∷ value ∷ [], (first ∷ [], value ∷ [], refl, ap (λ (w : List ℕ). w ∷ []) is, c.in_ok-number.ensures), refl))

pub returns-in_err-number : goal.returns-in_err-number
returns-in_err-number c =
    let value = c.args.value.now in
    let is : c.args.first.now ≡ codes "i64.const" = search rules in
    returned _ _ _ c.from_residual.ensures.1 (refuses_as u64 whole (c.args.first.now ∷ value ∷ []) (value ∷ []) c.in_err-number.field-0.0
    (λ i h. constant_of (out-Instr i) value (simple i (codes "i64.const") (value ∷ []) (subst (λ (w : Word). whole i (w ∷ value ∷ [])) is h)))
    c.in_err-number.ensures)

pub returns-in_err-index : goal.returns-in_err-index
returns-in_err-index c =
    let first = c.args.first.now in
    let value = c.args.value.now in
    let other : first ≢ codes "i64.const" = search rules in
    returned _ _ _ c.from_residual-in_err-index.ensures.1 (refuses_as u32 whole (first ∷ value ∷ []) (value ∷ []) c.in_err-index.field-0.0 (λ i h. index_of (out-Instr i) first value c.requires.table other (simple i first (value ∷ []) h)) c.in_err-index.ensures)

pub returns : goal.returns
returns c = reads_index c.args.first.now c.args.value.now c.in_ok-index.field-0 c.indexed.result c.in_ok-index.ensures c.indexed.ensures
