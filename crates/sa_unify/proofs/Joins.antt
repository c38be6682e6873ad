-- Composition of two pairs: their variables are kept apart by numbers, and a unifier of the end of the first and the beginning of the
-- second is terms for both.
use Rattle.std.proofs.Common.{◌≡◌, ℕ, zero, suc, ◌+◌, ◌<◌, ◌≤◌, List, ◌++◌, Option, Some, None, sym, ap, refl, subst, ◌∙◌, arith}
use Rattle.std.specs.Prelude.{max}
use Rattle.std.proofs.lemmas.List.{append-nil}
use Rattle.sa_unify.specs.declared.pattern.Node.{Node}
use Rattle.sa_unify.specs.Terms.{Values, AreTerms, substitute, later, free, IsUnified, IsJoined}
use Rattle.sa_unify.proofs.Places.{free-over}
use Rattle.sa_unify.proofs.Terms.{substitute-append, substitute-twice, substitute-same}

-- the variables less than a number stand for the first terms, and those from it on for the second
pick : ℕ → Values → Values → Values
pick zero lower upper k = upper k
pick (suc n) lower upper zero = lower zero
pick (suc n) lower upper (suc k) = pick n (λ j. lower (suc j)) upper k

pick-terms : (n : ℕ) (lower upper : Values) → AreTerms lower → AreTerms upper → AreTerms (pick n lower upper)
unfolding pick
pick-terms zero lower upper h g k = g k
pick-terms (suc n) lower upper h g zero = h zero
pick-terms (suc n) lower upper h g (suc k) = pick-terms n (λ j. lower (suc j)) upper (λ j. h (suc j)) g k

pick-lower : (n : ℕ) (lower upper : Values) (k : ℕ) → k < n → pick n lower upper k ≡ lower k
unfolding pick
pick-lower zero lower upper k h = absurd (omega (arith, h))
pick-lower (suc n) lower upper zero h = refl
pick-lower (suc n) lower upper (suc k) h = let below : k < n = omega (arith, h) in pick-lower n (λ j. lower (suc j)) upper k below

pick-upper : (n : ℕ) (lower upper : Values) (k : ℕ) → pick n lower upper (k + n) ≡ upper k
unfolding pick
pick-upper zero lower upper k = let e : k + zero ≡ k = omega arith in ap upper e
pick-upper (suc n) lower upper k =
    let e : k + suc n ≡ suc (k + n) = omega arith in
    ap (pick (suc n) lower upper) e ∙ pick-upper n (λ j. lower (suc j)) upper k

substitute-later : (values : Values) (n : ℕ) (nodes : List Node) → substitute values (substitute (later n) nodes) ≡ substitute (λ k. values (k + n)) nodes
substitute-later values n nodes =
    substitute-twice values (later n) nodes ∙ substitute-same (λ k. substitute values (later n k)) (λ k. values (k + n)) nodes (λ k _. append-nil (values (k + n)))

module _ (n : ℕ) (lower upper : Values) where
  pick-below : (nodes : List Node) → free nodes ≤ n → substitute (pick n lower upper) nodes ≡ substitute lower nodes
  pick-below nodes under = substitute-same (pick n lower upper) lower nodes (λ k c. let below = free-over k nodes c in pick-lower n lower upper k (omega (arith, below, under)))

  pick-above : (nodes : List Node) → substitute (pick n lower upper) (substitute (later n) nodes) ≡ substitute upper nodes
  pick-above nodes =
      substitute-later (pick n lower upper) n nodes ∙ substitute-same (λ k. pick n lower upper (k + n)) upper nodes (λ k _. pick-upper n lower upper k)

module _ (n : ℕ) (below ends begins above : List Node) (first : free below ≤ n) (last : free ends ≤ n) where
  pick-kept : (lower upper : Values) → substitute (pick n lower upper) (below ++ substitute (later n) above) ≡ substitute lower below ++ substitute upper above
  pick-kept lower upper =
      substitute-append (pick n lower upper) below (substitute (later n) above) ∙ ap (λ l. l ++ substitute (pick n lower upper) (substitute (later n) above)) (pick-below n lower upper below first) ∙ ap (λ l. substitute lower below ++ l) (pick-above n lower upper above)

  pick-meet : (lower upper : Values) → substitute lower ends ≡ substitute upper begins → substitute (pick n lower upper) ends ≡ substitute (pick n lower upper) (substitute (later n) begins)
  pick-meet lower upper e = pick-below n lower upper ends last ∙ e ∙ sym (pick-above n lower upper begins)

  pub joined-unified : (r : Option (List Node)) → IsUnified (below ++ substitute (later n) above) ends (substitute (later n) begins) r → IsJoined below ends begins above r
  joined-unified None h = λ lower upper f g e. h.never (pick n lower upper) (pick-terms n lower upper f g) (pick-meet lower upper e)
  joined-unified (Some joined) h =
      (λ values terms. apart values (h.0 values terms), λ lower upper f g e. (pick n lower upper, pick-terms n lower upper f g, h.1 (pick n lower upper) (pick-terms n lower upper f g) (pick-meet lower upper e) ∙ pick-kept lower upper))
    where
      apart : (values : Values) → ((joint : Values) × AreTerms joint × (substitute joint ends ≡ substitute joint (substitute (later n) begins)) × (substitute values joined ≡ substitute joint (below ++ substitute (later n) above))) → (lower : Values) × (upper : Values) × AreTerms lower × AreTerms upper × (substitute lower ends ≡ substitute upper begins) × (substitute values joined ≡ substitute lower below ++ substitute upper above)
      apart values j =
          (j.0, (λ k. j.0 (k + n)), j.1, (λ k. j.1 (k + n)), j.2 ∙ substitute-later j.0 n begins, j.3 ∙ substitute-append j.0 below (substitute (later n) above) ∙ ap (λ l. substitute j.0 below ++ l) (substitute-later j.0 n above))

-- the same for lists that are equal to these
pub joined-at : (n : ℕ) (below ends begins above kept one other : List Node) (r : Option (List Node)) → n ≡ max (free below) (free ends) → kept ≡ below ++ substitute (later n) above → one ≡ ends → other ≡ substitute (later n) begins → IsUnified kept one other r → IsJoined below ends begins above r
joined-at n below ends begins above kept one other r m k o t h =
    joined-unified n below ends begins above (omega (arith, m)) (omega (arith, m)) r (subst (λ l. IsUnified l ends (substitute (later n) begins) r) k (subst (λ l. IsUnified kept l (substitute (later n) begins) r) o (subst (λ l. IsUnified kept one l r) t h)))
