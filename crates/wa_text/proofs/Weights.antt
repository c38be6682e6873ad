-- How many blocks an instruction has, as the measure of the recursion down into them.
use Rattle.std.proofs.Common.{◌≡◌, ℕ, zero, suc, ◌+◌, ◌<◌, ◌≤◌, List, [], ◌∷◌, length, get_or, map, Option, sym, ap, ◌∙◌, arith}
use Rattle.wa_syntax.specs.declared.instr.Instr.{Instr}
use Rattle.wa_syntax.specs.declared.instr.Instr.TheOpen.{Instr-F}
use Rattle.wa_syntax.specs.declared.instr.Instr.TheFolds.{fold-Instr, fold-roll-Instr}
use Rattle.wa_syntax.specs.declared.instr.Instr.TheVariants as variant
use Rattle.wa_syntax.specs.declared.module.ValTy.{ValTy}

abbrev pub total : List ℕ → ℕ
total [] = 0
total (n ∷ ns) = n + total ns

abbrev pub weight_at : Instr-F ℕ → ℕ
weight_at (Instr-F.Block t body) = total body + 1
weight_at (Instr-F.Loop t body) = total body + 1
weight_at (Instr-F.If t branches) = total branches.0 + total branches.1 + 1
weight_at _ = 0

pub weight : Instr → ℕ
weight = fold-Instr ℕ weight_at

abbrev pub weights : List Instr → ℕ
weights instrs = total (map weight instrs)

pub weight-Block : (i : Instr) (t : Option ValTy) (body : List Instr) → i ≡ variant.Block t body → weight i ≡ weights body + 1
unfolding weight
weight-Block i t body is = ap weight (is ∙ sym (variant.rolls-Block t body)) ∙ fold-roll-Instr ℕ weight_at (Instr-F.Block t body)

pub weight-Loop : (i : Instr) (t : Option ValTy) (body : List Instr) → i ≡ variant.Loop t body → weight i ≡ weights body + 1
unfolding weight
weight-Loop i t body is = ap weight (is ∙ sym (variant.rolls-Loop t body)) ∙ fold-roll-Instr ℕ weight_at (Instr-F.Loop t body)

pub weight-If : (i : Instr) (t : Option ValTy) (branches : List Instr × List Instr) → i ≡ variant.If t branches → weight i ≡ weights branches.0 + weights branches.1 + 1
unfolding weight
weight-If i t branches is = ap weight (is ∙ sym (variant.rolls-If t branches)) ∙ fold-roll-Instr ℕ weight_at (Instr-F.If t branches)

pub weight-item : (instrs : List Instr) (k : ℕ) (d i : Instr) → k < length instrs → i ≡ get_or instrs k d → weight i ≤ weights instrs
weight-item [] k d i within is = absurd (omega arith)
weight-item (first ∷ instrs) zero d i within is = omega (arith, ap weight is)
weight-item (first ∷ instrs) (suc k) d i within is =
    let rest = weight-item instrs k d i (omega arith) is in
    omega (arith, rest)
