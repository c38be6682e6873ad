-- The types that runs of locals denote, by the ends of the runs: one more run, and the type at an index.
use Rattle.std.proofs.Common.{◌≡◌, ℕ, zero, suc, ◌+◌, ◌-◌, ◌<◌, ◌≤◌, true, false, leb, leb-true, take, List, [], ◌∷◌, ◌++◌, length, get_or, replicate, refl, sym, ap, ◌∙◌, append_assoc, arith}
use Rattle.std.specs.Prelude.{Option, Some, All, slice_get, option_map}
use Rattle.std.specs.List.Sorted.{IsNonDecreasingBy, IsPartitionPoint}
use Rattle.std.proofs.lemmas.Bool.Decides.{nat_tests}
use Rattle.std.proofs.lemmas.List.{append-nil, take_more}
use Rattle.std.proofs.lemmas.List.Elements.{All-push}
use Rattle.std.proofs.lemmas.List.Sorted.{IsNonDecreasingBy-push}
use Rattle.wa_syntax.specs.declared.locals.LocalRun.{LocalRun}
use Rattle.wa_syntax.specs.Locals.{types_of_runs}
use Rattle.wa_syntax.proofs.Runs.{types_of_runs-push}
use Rattle.wa_syntax.specs.declared.module.ValTy.{ValTy}
use Rattle.wa_valid.specs.declared.locals.LocalRunEnd.{LocalRunEnd}
use Rattle.wa_valid.specs.Ends.{types_of_ends}

-- the end of the last run, or where they begin
abbrev pub last_end : ℕ → List LocalRunEnd → ℕ
last_end from [] = from
last_end from (run ∷ runs) = last_end run.end runs

pub last_end-push : (from : ℕ) (runs : List LocalRunEnd) (run : LocalRunEnd) → last_end from (runs ++ run ∷ []) ≡ run.end
last_end-push from [] run = refl
last_end-push from (first ∷ runs) run = last_end-push first.end runs run

pub types_of_ends-push : (from : ℕ) (runs : List LocalRunEnd) (run : LocalRunEnd) → types_of_ends from (runs ++ run ∷ []) ≡ types_of_ends from runs ++ replicate (run.end - last_end from runs) run.ty
types_of_ends-push from [] run = append-nil (replicate (run.end - from) run.ty)
types_of_ends-push from (first ∷ runs) run =
    ap (λ (types : List ValTy). replicate (first.end - from) first.ty ++ types) (types_of_ends-push first.end runs run) ∙ sym (append_assoc (replicate (first.end - from) first.ty) (types_of_ends first.end runs) (replicate (run.end - last_end first.end runs) run.ty))

-- the ends rise from this number on
abbrev pub Rise : ℕ → List LocalRunEnd → Type 0
Rise from [] = Unit {0}
Rise from (run ∷ runs) = (from ≤ run.end) × Rise run.end runs

pub Rise-from : (from : ℕ) (runs : List LocalRunEnd) → ((d : LocalRunEnd) → 0 < length runs → from ≤ (get_or runs 0 d).end) → IsNonDecreasingBy (λ (run : LocalRunEnd). run.end) runs → Rise from runs
Rise-from from [] first up = tt
Rise-from from (run ∷ runs) first up =
    (first run (omega arith), Rise-from run.end runs (λ d some. up 0 1 d (omega arith) (omega arith)) (λ i j d le within. up (suc i) (suc j) d (omega arith) (omega arith)))

slice_get-within : (n : ℕ) (ty : ValTy) (rest : List ValTy) (i : ℕ) → i < n → slice_get (replicate n ty ++ rest) i ≡ Some ty
slice_get-within zero ty rest i within = absurd (omega arith)
slice_get-within (suc n) ty rest zero within = refl
slice_get-within (suc n) ty rest (suc i) within = slice_get-within n ty rest i (omega arith)

slice_get-past : (n : ℕ) (ty : ValTy) (rest : List ValTy) (i : ℕ) → n ≤ i → slice_get (replicate n ty ++ rest) i ≡ slice_get rest (i - n)
slice_get-past zero ty rest i past = ap (slice_get rest) (omega arith)
slice_get-past (suc n) ty rest zero past = absurd (omega arith)
slice_get-past (suc n) ty rest (suc i) past = slice_get-past n ty rest i (omega arith) ∙ ap (slice_get rest) (omega arith)

-- the local at an index is in the first run that ends after it
pub slice_get-types_of_ends : (from at k : ℕ) (runs : List LocalRunEnd) → Rise from runs → from ≤ at
    → ((i : ℕ) (d : LocalRunEnd) → i < k → i < length runs → (get_or runs i d).end ≤ at)
    → ((d : LocalRunEnd) → k < length runs → at < (get_or runs k d).end)
    → slice_get (types_of_ends from runs) (at - from) ≡ option_map (λ (run : LocalRunEnd). run.ty) (slice_get runs k)
slice_get-types_of_ends from at k [] rise low before following = refl
slice_get-types_of_ends from at zero (run ∷ runs) rise low before following =
    let high : at < run.end = following run (omega arith) in
    slice_get-within (run.end - from) run.ty (types_of_ends run.end runs) (at - from) (omega arith)
slice_get-types_of_ends from at (suc k) (run ∷ runs) rise low before following =
    let up : from ≤ run.end = rise.0 in
    let past : run.end ≤ at = before 0 run (omega arith) (omega arith) in
    slice_get-past (run.end - from) run.ty (types_of_ends run.end runs) (at - from) (omega arith)
    ∙ ap (slice_get (types_of_ends run.end runs)) (omega arith)
    ∙ slice_get-types_of_ends run.end at k runs rise.1 past (λ i d less within. before (suc i) d (omega arith) (omega arith)) (λ d within. following d (omega arith))

-- what a search among the ends finds
pub type_at-point : (runs : List LocalRunEnd) (at k : ℕ) (found : Option LocalRunEnd) → IsNonDecreasingBy (λ (run : LocalRunEnd). run.end) runs → IsPartitionPoint (λ (run : LocalRunEnd). leb run.end at ≡ true) (λ (run : LocalRunEnd). leb run.end at ≡ false) runs k → found ≡ slice_get runs k → option_map (λ (run : LocalRunEnd). run.ty) found ≡ slice_get (types_of_ends 0 runs) at
type_at-point runs at k found up point is =
    let rise = Rise-from 0 runs (λ d some. omega arith) up in
    let there = slice_get-types_of_ends 0 at k runs rise (omega arith) (λ i d less within. leb-true (get_or runs i d).end at (point.0 i d (omega arith) less)) (λ d within. grind (arith, nat_tests, point.1 k d)) in
    sym (ap (slice_get (types_of_ends 0 runs)) (omega arith) ∙ there ∙ ap (option_map (λ (run : LocalRunEnd). run.ty)) (sym is))

-- one more run
abbrev pub with_end : List LocalRunEnd → ℕ → ValTy → List LocalRunEnd
with_end ends next ty = ends ++ record { end = next; ty = ty } ∷ []

module _ (runs : List LocalRun) (i : ℕ) (d : LocalRun) (ends : List LocalRunEnd) (end next : ℕ) (within : i < length runs) (sum : next ≡ end + (get_or runs i d).count) where
  pub types-more : end ≡ last_end 0 ends → types_of_ends 0 ends ≡ types_of_runs (take i runs) → types_of_ends 0 (with_end ends next (get_or runs i d).ty) ≡ types_of_runs (take (i + 1) runs)
  types-more last types =
      let run : LocalRun = get_or runs i d in
      let count : next - last_end 0 ends ≡ run.count = omega arith in
      types_of_ends-push 0 ends (record { end = next; ty = run.ty })
      ∙ ap (λ (n : ℕ). types_of_ends 0 ends ++ replicate n run.ty) count
      ∙ ap (λ (front : List ValTy). front ++ replicate run.count run.ty) types
      ∙ sym (types_of_runs-push (take i runs) run)
      ∙ ap types_of_runs (sym (take_more runs i d within))

  pub sorted-more : IsNonDecreasingBy (λ (run : LocalRunEnd). run.end) ends → All (λ (run : LocalRunEnd). run.end ≤ end) ends → IsNonDecreasingBy (λ (run : LocalRunEnd). run.end) (with_end ends next (get_or runs i d).ty)
  sorted-more sorted below =
      IsNonDecreasingBy-push (λ (run : LocalRunEnd). run.end) ends (record { end = next; ty = (get_or runs i d).ty }) sorted (λ e some. omega (arith, below (length ends - 1) e (omega arith)))

  pub below-more : All (λ (run : LocalRunEnd). run.end ≤ end) ends → All (λ (run : LocalRunEnd). run.end ≤ next) (with_end ends next (get_or runs i d).ty)
  below-more below =
      All-push (λ (run : LocalRunEnd). run.end ≤ next) ends (record { end = next; ty = (get_or runs i d).ty }) (λ k e less. omega (arith, below k e less)) (omega arith)
