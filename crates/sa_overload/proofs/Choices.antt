-- What follows of which candidate leads, and of the first two that fit.
use Rattle.std.proofs.Common.{◌≡◌, ◌≢◌, ◌∙◌, ℕ, ◌+◌, ◌<◌, ◌≤◌, inl, inr, Option, None, Some, false, true≢false, refl, sym, subst, arith, length, unwrap_or}
use Rattle.std.specs.Prelude.{IfSome, IsNone, IsTrue, IsFalse}
use Rattle.std.proofs.lemmas.Bool.{cases_lt}
use Rattle.std.proofs.lemmas.Option.{slice_get_past}
use Rattle.sa_overload.specs.declared.choice.Resolution.TheVariants.{Several}
use Rattle.sa_overload.specs.Resolution.{Call, Chosen, FirstTied, FirstTwo, Leads, NamesPair, Tied, fits_at, is_before}

-- no candidate is after the last one
past : (call : Call) (k : ℕ) → length call.cands ≤ k → fits_at call k ≡ false
past call k h = rw (slice_get_past call.cands k h) refl

-- a candidate that is at least as specific as those after it and those before it is so of all others
pub before_others : (call : Call) (k n : ℕ) → length call.cands ≡ n
    → ((j : ℕ) → k + 1 ≤ j → j < n → IsTrue (fits_at call j) → IsTrue (is_before call k j))
    → ((j : ℕ) → 0 ≤ j → j < k → IsTrue (fits_at call j) → IsTrue (is_before call k j))
    → (j : ℕ) → IsTrue (fits_at call j) → j ≢ k → IsTrue (is_before call k j)
before_others call k n all following front j fit other =
    elim (cases_lt j k) [
      | inl h ↦ front j (omega arith) h fit
      | inr h ↦ elim (cases_lt j n) [
        | inl g ↦ following j (omega arith) g fit
        | inr g ↦ absurd (true≢false (sym fit ∙ past call j (omega arith)))
      ]
    ]

-- if two candidates lead none is chosen
pub two_lead : (call : Call) (i j k : ℕ) → i < j → Leads call i → Leads call j → ¬ Chosen call k
two_lead call i j k order one other chosen =
    let first = chosen.alone i one in
    let second = chosen.alone j other in
    omega arith

-- the first two candidates that fit
pub first_two : (call : Call) (i j : ℕ) → i + 1 ≤ j → IsTrue (fits_at call i) → IsTrue (fits_at call j)
    → ((k : ℕ) → 0 ≤ k → k < i → IsFalse (fits_at call k))
    → ((k : ℕ) → i + 1 ≤ k → k < j → IsFalse (fits_at call k))
    → FirstTwo call i j
first_two call i j order left right front between = record {
  order = omega arith;
  left = left;
  right = right;
  least = least;
  next = next;
}
  where
    least : (k : ℕ) → IsTrue (fits_at call k) → i ≤ k
    least k fit = elim (cases_lt k i) [
      | inl h ↦ absurd (true≢false (sym fit ∙ front k (omega arith) h))
      | inr h ↦ h
    ]

    next : (k : ℕ) → IsTrue (fits_at call k) → k ≢ i → j ≤ k
    next k fit other = elim (cases_lt k j) [
      | inl h ↦ let from : i ≤ k = least k fit in absurd (true≢false (sym fit ∙ between k (omega arith) h))
      | inr h ↦ h
    ]

-- the pair that a call names is the first one that is tied, or else the first two that fit
pub named : (call : Call) (tied : Option (ℕ × ℕ)) (two pair : ℕ × ℕ) → FirstTwo call two.0 two.1
    → IfSome tied (λ p. FirstTied call p.0 p.1)
    → (IsNone tied → (i j : ℕ) → ¬ Tied call i j)
    → pair ≡ unwrap_or tied two
    → NamesPair call pair.0 pair.1
named call None two pair fit found none e = inr (none refl, subst (λ (p : ℕ × ℕ). FirstTwo call p.0 p.1) (sym e) fit)
named call (Some p) two pair fit found none e = inl (subst (λ (q : ℕ × ℕ). FirstTied call q.0 q.1) (sym e) found)

-- the same of another spelling of the call and of the pair
pub named_as : (call given : Call) (pair : ℕ × ℕ) (i j : ℕ) → call ≡ given → Several pair.0 pair.1 ≡ Several i j
    → NamesPair call pair.0 pair.1 → NamesPair given i j
named_as call given pair i j same several names =
    let left : pair.0 ≡ i = cc in
    let right : pair.1 ≡ j = cc in
    let at_i : NamesPair call i pair.1 = subst (λ k. NamesPair call k pair.1) left names in
    let at_j : NamesPair call i j = subst (λ k. NamesPair call i k) right at_i in
    subst (λ c. NamesPair c i j) same at_j
