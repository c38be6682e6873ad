-- The test of two classes of a tree is true exactly if the one is an ancestor of the other or the same.
use Rattle.std.proofs.Common.{◌≡◌, inl, inr, ℕ, zero, suc, ◌≤◌, Bool, true, false, true≢false, nat_eq, List, Option, Some, None, slice_get, refl, sym, ap, ◌∙◌, arith}
use Rattle.std.specs.Prelude.{◌↔◌}
use Rattle.std.specs.Option.{option_map, option_map_or}
use Rattle.std.proofs.lemmas.Bool.{eqb-true, eq-eqb}
use Rattle.sa_hierarchy.specs.declared.links.ParentLink.{ParentLink}
use Rattle.sa_hierarchy.specs.Hierarchies.{Line, here, up, AreLinked, depth_at}
use Rattle.sa_hierarchy.specs.Lines.{parent_of, line_in, in_line}
use Rattle.sa_hierarchy.proofs.Climbs.{depth-of}
use Rattle.sa_hierarchy.proofs.Lines.{line-to, is-below}
use Rattle.sa_hierarchy.proofs.Tests.{or-cases, or_first, or_second}

module _ (links : List ParentLink) where
  line-self : (n c u : ℕ) → c ≡ u → line_in links n c u ≡ true
  unfolding line_in
  line-self zero c u e = eq-eqb c u e
  line-self (suc n) c u e = or_first _ _ (eq-eqb c u e)

  -- by the parent, if its ancestors are known
  line-up : (c u : ℕ) (test : ℕ → Bool) → ((parent : ℕ) → test parent ≡ true → Line links parent u) → (o : Option ParentLink) → slice_get links c ≡ o → option_map_or test (parent_of o) false ≡ true → Line links c u
  line-up c u test more None is h = absurd (true≢false (sym h))
  line-up c u test more (Some link) is h = go link.edge refl h
    where
      go : (e : Option ℕ) → link.edge ≡ e → option_map_or test (option_map (λ (number : ℕ). link.parent) e) false ≡ true → Line links c u
      go None e k = absurd (true≢false (sym k))
      go (Some number) e k = up link number is e (more link.parent k)

  line-true : (n c u : ℕ) → line_in links n c u ≡ true → Line links c u
  unfolding line_in
  line-true zero c u h = line-to links (eqb-true c u h) here
  line-true (suc n) c u h =
      elim (or-cases (nat_eq c u) (option_map_or (λ parent. line_in links n parent u) (parent_of (slice_get links c)) false) h) [
        | inl e ↦ line-to links (eqb-true c u e) here
        | inr k ↦ line-up c u (λ parent. line_in links n parent u) (λ parent e. line-true n parent u e) (slice_get links c) refl k
      ]

  parent-is : (c number : ℕ) (link : ParentLink) → slice_get links c ≡ Some link → link.edge ≡ Some number → parent_of (slice_get links c) ≡ Some link.parent
  parent-is c number link is edge = ap parent_of is ∙ ap (option_map (λ (k : ℕ). link.parent)) edge

  module _ (all : AreLinked links) where
    line-all : {c u : ℕ} → Line links c u → (n : ℕ) → depth_at links c ≤ n → line_in links n c u ≡ true
    unfolding line_in
    line-all {c = c} here n h = line-self n c c refl
    line-all {c = c} (up link number is edge rest) zero h =
        let below = is-below links all.linked c link number is edge in
        let deep = below.depth in
        let own = depth-of links c link is in
        absurd (omega (arith, h, deep, own))
    line-all {c = c} {u = u} (up link number is edge rest) (suc n) h =
        let below = is-below links all.linked c link number is edge in
        let deep = below.depth in
        let own = depth-of links c link is in
        let parent = depth-of links link.parent below.parent below.is in
        let less : depth_at links link.parent ≤ n = omega (arith, h, deep, own, parent) in
        or_second (nat_eq c u) _ (ap (λ o. option_map_or (λ p. line_in links n p u) o false) (parent-is c number link is edge) ∙ line-all rest n less)

  pub line-decides : AreLinked links → (lower upper : ℕ) → (in_line links lower upper ≡ true) ↔ Line links lower upper
  line-decides all lower upper = (line-true (depth_at links lower) lower upper, λ h. let least : depth_at links lower ≤ depth_at links lower = omega arith in line-all all h (depth_at links lower) least)
