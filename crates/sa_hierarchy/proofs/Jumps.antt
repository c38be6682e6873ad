-- The facts of the trees are known as propositions, without a witness, and so are the facts of what is found in them.
use Rattle.std.proofs.Common.{◌≡◌, ◌≢◌, ℕ, ◌<◌, ◌≤◌, Bool, true, false, List, Option, Some, None, slice_get, length, refl, sym, subst, ◌∙◌}
use Rattle.std.proofs.Math.Bool.{Bool-set}
use Rattle.std.proofs.Math.Bridge.{le_prop}
use Rattle.std.proofs.Math.Logic.{∥∥₁_elim, ∥∥₁_map, ∥∥₁_prop}
use Rattle.std.proofs.lemmas.Option.{get_or_from_slice_get, none-some, slice_get_within}
use Rattle.sa_hierarchy.specs.declared.links.ParentLink.{ParentLink}
use Rattle.sa_hierarchy.specs.Lines.{in_line}
use Rattle.sa_hierarchy.specs.Hierarchies.{Tables, Line, here, AreLinked, AreTried, IsClimbed, IsHigher, depth_at}
use Rattle.sa_hierarchy.proofs.Climbs.{IsOnWay, link-within, depth-of, on_way-init, on_way-within, on_way-more, on_way-end, higher-less, higher-jump, higher-parent, in_line-is, in_line-not, line-outside, line-outside_upper}
use Rattle.sa_hierarchy.proofs.LineTests.{line-decides}
use Rattle.sa_hierarchy.proofs.Lines.{line-to}
use Rattle.sa_hierarchy.proofs.Trials.{tried-linked}

pub tried-trees : (w : Tables) (links : List ParentLink) → ∥ AreTried w ∥₁ → links ≡ w.links → ∥ AreLinked links ∥₁
tried-trees w links tried e = ∥∥₁_map tried (λ t. tried-linked w links t e)

-- ---- going up

pub way-init : (links : List ParentLink) (lower depth : ℕ) → lower < length links → ∥ IsOnWay links lower depth lower ∥₁
way-init links lower depth less = ∣ on_way-init links lower depth less ∣₁

pub way-within : (links : List ParentLink) (lower depth upper : ℕ) → ∥ IsOnWay links lower depth upper ∥₁ → upper < length links
way-within links lower depth upper h = ∥∥₁_elim h le_prop (λ k. on_way-within links lower depth upper k)

pub way-more : (links : List ParentLink) (lower depth upper next : ℕ) → ∥ IsOnWay links lower depth upper ∥₁ → ∥ IsHigher links upper depth next ∥₁ → ∥ IsOnWay links lower depth next ∥₁
way-more links lower depth upper next h k = ∥∥₁_elim h ∥∥₁_prop (λ a. ∥∥₁_map k (λ b. on_way-more links lower depth upper next a b))

pub way-end : (links : List ParentLink) (lower depth upper n : ℕ) → ∥ IsOnWay links lower depth upper ∥₁ → n ≡ depth_at links upper → n ≤ depth → ∥ IsClimbed links lower depth upper ∥₁
way-end links lower depth upper n h e least = ∥∥₁_map h (λ a. on_way-end links lower depth upper a.link a (sym (get_or_from_slice_get links upper a.link a.link a.is)) (subst (λ k. k ≤ depth) (e ∙ depth-of links upper a.link a.is) least))

pub jump-less : (links : List ParentLink) (lower depth upper : ℕ) → lower < length links → ∥ IsHigher links lower depth upper ∥₁ → depth_at links upper < depth_at links lower
jump-less links lower depth upper less h = ∥∥₁_elim h le_prop (λ a. higher-less links lower depth upper less a)

pub jump-far : (links : List ParentLink) (class depth : ℕ) (o p : Option ParentLink) (link far : ParentLink) → ∥ AreLinked links ∥₁ → o ≡ slice_get links class → o ≡ Some link → depth < depth_at links class → p ≡ slice_get links link.jump → p ≡ Some far → depth ≤ far.depth → ∥ IsHigher links class depth link.jump ∥₁
jump-far links class depth o p link far all e is deep f jumps least =
    let own : slice_get links class ≡ Some link = sym e ∙ is in
    ∥∥₁_map all (λ a. higher-jump links a class depth link far (slice_get_within links class link own) (sym (get_or_from_slice_get links class link link own)) deep (sym f ∙ jumps) least)

pub jump-near : (links : List ParentLink) (class depth : ℕ) (o : Option ParentLink) (link : ParentLink) → ∥ AreLinked links ∥₁ → o ≡ slice_get links class → o ≡ Some link → depth < depth_at links class → ∥ IsHigher links class depth link.parent ∥₁
jump-near links class depth o link all e is deep =
    let own : slice_get links class ≡ Some link = sym e ∙ is in
    ∥∥₁_map all (λ a. higher-parent links a class depth link (slice_get_within links class link own) (sym (get_or_from_slice_get links class link link own)) deep)

pub jump-none : (links : List ParentLink) (class depth : ℕ) (o : Option ParentLink) → o ≡ slice_get links class → o ≡ None → class < length links → ∥ IsHigher links class depth class ∥₁
jump-none links class depth o e none less = let own = link-within links class less in absurd (none-some own.0 (sym none ∙ e ∙ own.1))

-- ---- whether a class is an ancestor of another

answered : (links : List ParentLink) (lower upper : ℕ) → AreLinked links → Line links lower upper → true ≡ in_line links lower upper
answered links lower upper all h = sym ((line-decides links all lower upper).1 h)

refused : (links : List ParentLink) (lower upper : ℕ) → AreLinked links → (Line links lower upper → ⊥) → false ≡ in_line links lower upper
refused links lower upper all h = go (in_line links lower upper) refl
  where
    go : (b : Bool) → in_line links lower upper ≡ b → false ≡ b
    go true e = absurd (h ((line-decides links all lower upper).0 e))
    go false e = refl

pub line-here : (links : List ParentLink) (lower upper : ℕ) → ∥ AreLinked links ∥₁ → lower ≡ upper → true ≡ in_line links lower upper
line-here links lower upper all e = ∥∥₁_elim all (Bool-set true (in_line links lower upper)) (λ a. answered links lower upper a (line-to links e here))

pub line-out : (links : List ParentLink) (lower upper : ℕ) → ∥ AreLinked links ∥₁ → lower ≢ upper → length links ≤ lower → false ≡ in_line links lower upper
line-out links lower upper all apart past = ∥∥₁_elim all (Bool-set false (in_line links lower upper)) (λ a. refused links lower upper a (λ h. apart (line-outside links past h)))

pub line-out_upper : (links : List ParentLink) (lower upper : ℕ) → ∥ AreLinked links ∥₁ → lower < length links → length links ≤ upper → false ≡ in_line links lower upper
line-out_upper links lower upper all less past = ∥∥₁_elim all (Bool-set false (in_line links lower upper)) (λ a. refused links lower upper a (λ h. line-outside_upper links a lower upper less past h))

pub line-found : (links : List ParentLink) (lower upper end n : ℕ) → ∥ AreLinked links ∥₁ → ∥ IsClimbed links lower n end ∥₁ → end ≡ upper → true ≡ in_line links lower upper
line-found links lower upper end n all climbed e = ∥∥₁_elim all (Bool-set true (in_line links lower upper)) (λ a. ∥∥₁_elim climbed (Bool-set true (in_line links lower upper)) (λ c. answered links lower upper a (in_line-is links a lower n end upper c e)))

apart-at : (links : List ParentLink) (lower upper end n : ℕ) → AreLinked links → lower < length links → upper < length links → IsClimbed links lower n end → n ≡ depth_at links upper → end ≢ upper → Line links lower upper → ⊥
apart-at links lower upper end n all less under climbed e apart h =
    let own = link-within links upper under in
    apart (in_line-not links all lower end upper own.0 less under (sym (get_or_from_slice_get links upper own.0 own.0 own.1)) (subst (λ k. IsClimbed links lower k end) (e ∙ depth-of links upper own.0 own.1) climbed) h)

pub line-other : (links : List ParentLink) (lower upper end n : ℕ) → ∥ AreLinked links ∥₁ → lower < length links → upper < length links → ∥ IsClimbed links lower n end ∥₁ → n ≡ depth_at links upper → end ≢ upper → false ≡ in_line links lower upper
line-other links lower upper end n all less under climbed e apart = ∥∥₁_elim all (Bool-set false (in_line links lower upper)) (λ a. ∥∥₁_elim climbed (Bool-set false (in_line links lower upper)) (λ c. refused links lower upper a (apart-at links lower upper end n a less under c e apart)))

pub ruleset trees = (tried-trees)

pub ruleset jumps = (way-init, way-within, way-more, way-end, jump-less, jump-far, jump-near, jump-none, line-here, line-out, line-out_upper, line-found, line-other)
