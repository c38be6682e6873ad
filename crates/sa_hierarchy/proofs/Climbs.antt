-- Going up in a tree to a depth.
use Rattle.std.proofs.Common.{◌≡◌, ◌⊎◌, inl, inr, ℕ, ◌<◌, ◌≤◌, List, Some, None, slice_get, length, get_or, refl, ap, subst, arith}
use Rattle.std.specs.Option.{option_map_or}
use Rattle.std.proofs.lemmas.Option.{slice_get_cases, slice_get_read, slice_get_within}
use Rattle.sa_hierarchy.specs.declared.links.ParentLink.{ParentLink}
use Rattle.sa_hierarchy.specs.Hierarchies.{Line, here, up, IsBelow, IsLinked, AreLinked, IsClimbed, IsHigher, depth_at}
use Rattle.sa_hierarchy.proofs.Lines.{same-link, line-over, line-one, line-above, line-same, line-leap, line-to}

-- the class is the other or an ancestor of it, and at this depth or deeper if the other is
pub record IsOnWay (links : List ParentLink) (lower depth upper : ℕ) : Type 0 where
  pub line : Line links lower upper
  pub link : ParentLink
  pub is : slice_get links upper ≡ Some link
  pub most : (own : ParentLink) → slice_get links lower ≡ Some own → depth ≤ own.depth → depth ≤ link.depth

-- a class in the list has a link
pub link-within : (links : List ParentLink) (class : ℕ) → class < length links → (link : ParentLink) × (slice_get links class ≡ Some link)
link-within links class less = go (slice_get_cases links class).1
  where
    go : ((x : ParentLink) × (class < length links) × (slice_get links class ≡ Some x) × (get_or links class x ≡ x)) ⊎ ((length links ≤ class) × (slice_get links class ≡ None)) → (link : ParentLink) × (slice_get links class ≡ Some link)
    go (inl found) = (found.0, found.2)
    go (inr past) = let end = past.0 in absurd (omega (arith, less, end))

pub on_way-init : (links : List ParentLink) (lower depth : ℕ) → lower < length links → IsOnWay links lower depth lower
on_way-init links lower depth less =
    let found = link-within links lower less in
    record {
      line = here;
      link = found.0;
      is = found.1;
      most = λ own is least. subst (λ (x : ParentLink). depth ≤ x.depth) (same-link links lower own found.0 is found.1) least;
    }

pub on_way-within : (links : List ParentLink) (lower depth upper : ℕ) → IsOnWay links lower depth upper → upper < length links
on_way-within links lower depth upper h = slice_get_within links upper h.link h.is

pub on_way-more : (links : List ParentLink) (lower depth upper next : ℕ) → IsOnWay links lower depth upper → IsHigher links upper depth next → IsOnWay links lower depth next
on_way-more links lower depth upper next h k = record {
  line = line-over links h.line k.line;
  link = k.link;
  is = k.is;
  most = λ own is least. k.least;
}

pub on_way-end : (links : List ParentLink) (lower depth upper : ℕ) (link : ParentLink) → IsOnWay links lower depth upper → link ≡ get_or links upper link → link.depth ≤ depth → IsClimbed links lower depth upper
on_way-end links lower depth upper link h e least = record {
  line = h.line;
  link = h.link;
  is = h.is;
  least = subst (λ (x : ParentLink). x.depth ≤ depth) (same-link links upper link h.link (slice_get_read links (length links) upper link refl (slice_get_within links upper h.link h.is) e) h.is) least;
  most = h.most;
}

pub depth-of : (links : List ParentLink) (class : ℕ) (link : ParentLink) → slice_get links class ≡ Some link → depth_at links class ≡ link.depth
depth-of links class link is = ap (λ o. option_map_or (λ (x : ParentLink). x.depth) o 0) is

-- the depth decreases
pub higher-less : (links : List ParentLink) (lower depth upper : ℕ) → lower < length links → IsHigher links lower depth upper → depth_at links upper < depth_at links lower
higher-less links lower depth upper less h =
    let found = link-within links lower less in
    let above = depth-of links upper h.link h.is in
    let below = depth-of links lower found.0 found.1 in
    let fall = h.less found.0 found.1 in
    omega (arith, above, below, fall)

-- and it is that of the link
pub depth-at : (links : List ParentLink) (class : ℕ) (link : ParentLink) → class < length links → link ≡ get_or links class link → depth_at links class ≡ link.depth
depth-at links class link less e = depth-of links class link (slice_get_read links (length links) class link refl less e)

module _ (links : List ParentLink) (all : AreLinked links) where
  hangs : (class depth : ℕ) (link : ParentLink) → slice_get links class ≡ Some link → depth < link.depth → (number : ℕ) × (link.edge ≡ Some number) × IsBelow links link
  hangs class depth link is deeper = go (all.linked class link is)
    where
      go : IsLinked links class link → (number : ℕ) × (link.edge ≡ Some number) × IsBelow links link
      go (inl root) = let none = root.depth in absurd (omega (arith, none, deeper))
      go (inr below) = below

  pub higher-jump : (class depth : ℕ) (link far : ParentLink) → class < length links → link ≡ get_or links class link → depth < depth_at links class → slice_get links link.jump ≡ Some far → depth ≤ far.depth → IsHigher links class depth link.jump
  higher-jump class depth link far less e deep is least =
      let own = slice_get_read links (length links) class link refl less e in
      let at_depth = depth-of links class link own in
      let deeper : depth < link.depth = omega (arith, deep, at_depth) in
      let hang = hangs class depth link own deeper in
      let below = hang.2 in
      let leap = line-leap links all.linked class hang.0 link own hang.1 in
      let over = line-above links all.linked leap below.parent below.is in
      let same : over.other.depth ≡ far.depth = ap (λ (x : ParentLink). x.depth) (same-link links link.jump over.other far over.is is) in
      let one = below.depth in
      let most = over.least in
      record {
        line = line-over links (line-one links class link hang.0 own hang.1) leap;
        link = far;
        is = is;
        least = least;
        less = λ found k. let equal : found.depth ≡ link.depth = ap (λ (x : ParentLink). x.depth) (same-link links class found link k own) in omega (arith, equal, same, one, most);
      }

  pub higher-parent : (class depth : ℕ) (link : ParentLink) → class < length links → link ≡ get_or links class link → depth < depth_at links class → IsHigher links class depth link.parent
  higher-parent class depth link less e deep =
      let own = slice_get_read links (length links) class link refl less e in
      let at_depth = depth-of links class link own in
      let deeper : depth < link.depth = omega (arith, deep, at_depth) in
      let hang = hangs class depth link own deeper in
      let below = hang.2 in
      let one = below.depth in
      record {
        line = line-one links class link hang.0 own hang.1;
        link = below.parent;
        is = below.is;
        least = omega (arith, deeper, one);
        less = λ found k. let equal : found.depth ≡ link.depth = ap (λ (x : ParentLink). x.depth) (same-link links class found link k own) in omega (arith, equal, one);
      }

  -- ---- whether a class is an ancestor of another

  pub in_line-is : (lower depth end upper : ℕ) → IsClimbed links lower depth end → end ≡ upper → Line links lower upper
  in_line-is lower depth end upper h e = line-to links e h.line

  pub in_line-not : (lower end upper : ℕ) (link : ParentLink) → lower < length links → upper < length links → link ≡ get_or links upper link → IsClimbed links lower link.depth end → Line links lower upper → end ≡ upper
  in_line-not lower end upper link less under e h line =
      let own = link-within links lower less in
      let is = slice_get_read links (length links) upper link refl under e in
      let over = line-above links all.linked line own.0 own.1 in
      let same : over.other.depth ≡ link.depth = ap (λ (x : ParentLink). x.depth) (same-link links upper over.other link over.is is) in
      let most = over.least in
      let lower_depth : link.depth ≤ (own.0).depth = omega (arith, same, most) in
      let least = h.most own.0 own.1 lower_depth in
      let great = h.least in
      let equal : h.link.depth ≡ link.depth = omega (arith, least, great) in
      line-same links all.linked h.line line h.link link h.is is equal

-- a number that is no class has no ancestor but itself
pub line-outside : (links : List ParentLink) {lower upper : ℕ} → length links ≤ lower → Line links lower upper → lower ≡ upper
line-outside links past here = refl
line-outside links {lower = lower} past (up link number is edge rest) = let within = slice_get_within links lower link is in absurd (omega (arith, past, within))

pub line-outside_upper : (links : List ParentLink) → AreLinked links → (lower upper : ℕ) → lower < length links → length links ≤ upper → Line links lower upper → ⊥
line-outside_upper links all lower upper less past line =
    let own = link-within links lower less in
    let over = line-above links all.linked line own.0 own.1 in
    let within = slice_get_within links upper over.other over.is in
    omega (arith, past, within)

pub ruleset climbs = (on_way-init, on_way-within, on_way-more, on_way-end, higher-less, higher-jump, higher-parent, in_line-is, in_line-not, line-outside, line-outside_upper)
