-- The types that runs denote, with one more run at the end or at the beginning.
use Rattle.std.proofs.Common.{◌≡◌, ℕ, zero, suc, ◌+◌, ◌-◌, ◌<◌, ◌≤◌, List, [], ◌∷◌, ◌++◌, length, get_or, drop, replicate, slice_get, Some, refl, sym, ap, ◌∙◌, append_assoc, arith}
use Rattle.std.proofs.lemmas.List.{append-nil, at_drop_more, length-append, length-replicate}
use Rattle.wa_syntax.specs.declared.module.ValTy.{ValTy}
use Rattle.wa_syntax.specs.declared.locals.LocalRun.{LocalRun}
use Rattle.wa_syntax.specs.Locals.{types_of_runs}

pub types_of_runs-push : (runs : List LocalRun) (run : LocalRun) → types_of_runs (runs ++ run ∷ []) ≡ types_of_runs runs ++ replicate run.count run.ty
types_of_runs-push [] run = append-nil (replicate run.count run.ty)
types_of_runs-push (first ∷ runs) run =
    ap (λ (types : List ValTy). replicate first.count first.ty ++ types) (types_of_runs-push runs run) ∙ sym (append_assoc (replicate first.count first.ty) (types_of_runs runs) (replicate run.count run.ty))

pub length-types_of_runs-push : (runs : List LocalRun) (run : LocalRun) → length (types_of_runs (runs ++ run ∷ [])) ≡ length (types_of_runs runs) + run.count
length-types_of_runs-push runs run = ap length (types_of_runs-push runs run) ∙ length-append (types_of_runs runs) (replicate run.count run.ty) ∙ ap (λ (n : ℕ). length (types_of_runs runs) + n) (length-replicate run.count run.ty)

slice_get-within : (n : ℕ) (ty : ValTy) (rest : List ValTy) (i : ℕ) → i < n → slice_get (replicate n ty ++ rest) i ≡ Some ty
slice_get-within zero ty rest i within = absurd (omega arith)
slice_get-within (suc n) ty rest zero within = refl
slice_get-within (suc n) ty rest (suc i) within = slice_get-within n ty rest i (omega arith)

slice_get-past : (n : ℕ) (ty : ValTy) (rest : List ValTy) (i : ℕ) → n ≤ i → slice_get (replicate n ty ++ rest) i ≡ slice_get rest (i - n)
slice_get-past zero ty rest i past = ap (slice_get rest) (omega arith)
slice_get-past (suc n) ty rest zero past = absurd (omega arith)
slice_get-past (suc n) ty rest (suc i) past = slice_get-past n ty rest i (omega arith) ∙ ap (slice_get rest) (omega arith)

-- the local is in the run at k, or in the runs after it
pub slice_get-in_run : (runs : List LocalRun) (k : ℕ) (d : LocalRun) (i : ℕ) → k < length runs → i < (get_or runs k d).count → slice_get (types_of_runs (drop k runs)) i ≡ Some (get_or runs k d).ty
slice_get-in_run runs k d i more within =
    at_drop_more (λ (rest : List LocalRun). slice_get (types_of_runs rest) i) runs k d more ∙ slice_get-within (get_or runs k d).count (get_or runs k d).ty (types_of_runs (drop (k + 1) runs)) i within

pub slice_get-after_run : (runs : List LocalRun) (k : ℕ) (d : LocalRun) (i : ℕ) → k < length runs → (get_or runs k d).count ≤ i → slice_get (types_of_runs (drop k runs)) i ≡ slice_get (types_of_runs (drop (k + 1) runs)) (i - (get_or runs k d).count)
slice_get-after_run runs k d i more past =
    at_drop_more (λ (rest : List LocalRun). slice_get (types_of_runs rest) i) runs k d more ∙ slice_get-past (get_or runs k d).count (get_or runs k d).ty (types_of_runs (drop (k + 1) runs)) i past
