-- The rounds of a unification: each binds a variable to the term on the other side.
use Rattle.std.proofs.Common.{◌≡◌, ℕ, List, Some, refl, sym, ap, subst, ◌∙◌}
use Rattle.sa_unify.specs.declared.unification.Step.{Step}
use Rattle.sa_unify.specs.declared.unification.Step.TheVariants as step
use Rattle.sa_unify.specs.declared.pattern.Node.{Node}
use Rattle.sa_unify.specs.Terms.{IsTerm, Values, AreTerms, substitute, only, IsStep, IsUnified, NeverEqual}
use Rattle.sa_unify.proofs.Terms.{substitute-twice, substitute-only, substitute-terms, only-terms}

-- `kept`, `one` and `other` are what `first`, `left` and `right` have become
abbrev pub IsRound : (first left right kept one other : List Node) → Type 0
IsRound first left right kept one other = record {
  sound : (values : Values) → AreTerms values → (joint : Values) × AreTerms joint × (substitute joint left ≡ substitute values one) × (substitute joint right ≡ substitute values other) × (substitute joint first ≡ substitute values kept);
  whole : (joint : Values) → AreTerms joint → substitute joint left ≡ substitute joint right → (substitute joint one ≡ substitute joint left) × (substitute joint other ≡ substitute joint right) × (substitute joint kept ≡ substitute joint first);
}

pub round-init : (first left right : List Node) → IsRound first left right first left right
round-init first left right = record {
  sound = λ values terms. (values, terms, refl, refl, refl);
  whole = λ joint terms e. (refl, refl, refl);
}

module _ (first left right kept one other : List Node) (round : IsRound first left right kept one other) where
  -- a unifier of the two lists that were given is one of those that they have become
  equal-still : (joint : Values) → AreTerms joint → substitute joint left ≡ substitute joint right → substitute joint one ≡ substitute joint other
  equal-still joint terms e = let all = round.whole joint terms e in all.0 ∙ e ∙ sym (all.1)

  pub round-Equal : IsStep one other step.Equal → IsUnified first left right (Some kept)
  round-Equal e = (λ values terms. back values (round.sound values terms), λ joint terms p. (round.whole joint terms p).2)
    where
      back : (values : Values) → ((joint : Values) × AreTerms joint × (substitute joint left ≡ substitute values one) × (substitute joint right ≡ substitute values other) × (substitute joint first ≡ substitute values kept)) → (joint : Values) × AreTerms joint × (substitute joint left ≡ substitute joint right) × (substitute values kept ≡ substitute joint first)
      back values (joint, terms, l, r, k) = (joint, terms, l ∙ ap (substitute values) e ∙ sym r, sym k)

  pub round-Never : NeverEqual one other → NeverEqual left right
  round-Never never = record { never = λ joint terms e. never.never joint terms (equal-still joint terms e) }

  pub round-Bind : (number : ℕ) (term : List Node) → IsTerm term → ((values : Values) → AreTerms values → substitute values one ≡ substitute values other → values number ≡ substitute values term) → IsRound first left right (substitute (only number term) kept) (substitute (only number term) one) (substitute (only number term) other)
  round-Bind number term h forced = record { sound = sound; whole = whole }
    where
      sound : (values : Values) → AreTerms values → (joint : Values) × AreTerms joint × (substitute joint left ≡ substitute values (substitute (only number term) one)) × (substitute joint right ≡ substitute values (substitute (only number term) other)) × (substitute joint first ≡ substitute values (substitute (only number term) kept))
      sound values terms =
          let all = round.sound (λ n. substitute values (only number term n)) (substitute-terms values (only number term) terms (only-terms number term h)) in
          let same : (l : List Node) → substitute values (substitute (only number term) l) ≡ substitute (λ n. substitute values (only number term n)) l = substitute-twice values (only number term) in
          (all.0, all.1, all.2 ∙ sym (same one), all.3 ∙ sym (same other), all.4 ∙ sym (same kept))

      whole : (joint : Values) → AreTerms joint → substitute joint left ≡ substitute joint right → (substitute joint (substitute (only number term) one) ≡ substitute joint left) × (substitute joint (substitute (only number term) other) ≡ substitute joint right) × (substitute joint (substitute (only number term) kept) ≡ substitute joint first)
      whole joint terms e =
          let all = round.whole joint terms e in
          let binds : joint number ≡ substitute joint term = forced joint terms (equal-still joint terms e) in
          (substitute-only joint number term one binds ∙ all.0, substitute-only joint number term other binds ∙ all.1, substitute-only joint number term kept binds ∙ all.2)

-- ---- the same, where the lists are known by what they are equal to

pub end-Equal : (first left right kept one other l m : List Node) (r : Step) → IsRound first left right kept one other → IsStep l m r → l ≡ one → m ≡ other → r ≡ step.Equal → IsUnified first left right (Some kept)
end-Equal first left right kept one other l m r round h e f q =
    round-Equal first left right kept one other round (sym e ∙ subst (IsStep l m) q h ∙ f)

pub end-Never : (first left right kept one other l m : List Node) (r : Step) → IsRound first left right kept one other → IsStep l m r → l ≡ one → m ≡ other → r ≡ step.Never → NeverEqual left right
end-Never first left right kept one other l m r round h e f q =
    let never = subst (IsStep l m) q h in
    round-Never first left right kept one other round (record { never = λ values terms p. never.never values terms (ap (substitute values) e ∙ p ∙ sym (ap (substitute values) f)) })

pub substitute-at : (number : ℕ) (v nodes kept w term : List Node) → v ≡ substitute (only number w) nodes → nodes ≡ kept → w ≡ term → v ≡ substitute (only number term) kept
substitute-at number v nodes kept w term h e f = h ∙ ap (substitute (only number w)) e ∙ ap (λ x. substitute (only number x) kept) f

pub round-next : (first left right kept one other l m kept' one' other' : List Node) (number : ℕ) (term : List Node) → IsRound first left right kept one other → l ≡ one → m ≡ other → IsTerm term × ((values : Values) → AreTerms values → substitute values l ≡ substitute values m → values number ≡ substitute values term) → kept' ≡ substitute (only number term) kept → one' ≡ substitute (only number term) one → other' ≡ substitute (only number term) other → IsRound first left right kept' one' other'
round-next first left right kept one other l m kept' one' other' number term round e f h k o t =
    let bound = round-Bind first left right kept one other round number term h.0 (λ values terms p. h.1 values terms (ap (substitute values) e ∙ p ∙ sym (ap (substitute values) f))) in
    let third = subst (λ x. IsRound first left right (substitute (only number term) kept) (substitute (only number term) one) x) (sym t) bound in
    let second = subst (λ x. IsRound first left right (substitute (only number term) kept) x other') (sym o) third in
    subst (λ x. IsRound first left right x one' other') (sym k) second
