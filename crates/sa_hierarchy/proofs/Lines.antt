-- The trees of classes: the ancestors of a class are on one path, and a jump stays on it.
use Rattle.std.proofs.Common.{◌≡◌, ◌⊎◌, inl, inr, ℕ, zero, suc, ◌<◌, ◌≤◌, List, Some, slice_get, refl, sym, ap, subst, ◌∙◌, arith}
use Rattle.std.proofs.lemmas.Option.{none-some}
use Rattle.sa_hierarchy.specs.declared.links.ParentLink.{ParentLink}
use Rattle.sa_hierarchy.specs.Hierarchies.{Line, here, up, IsBelow, IsLinked}

some_links : (l m : ParentLink) → Some l ≡ Some m → l ≡ m
some_links l m e = cc

some_numbers : (m n : ℕ) → Some m ≡ Some n → m ≡ n
some_numbers m n e = cc

-- an ancestor of a class has a link, and is less deep
pub record IsAbove (links : List ParentLink) (link : ParentLink) (c : ℕ) : Type 0 where
  pub other : ParentLink
  pub is : slice_get links c ≡ Some other
  pub least : other.depth ≤ link.depth

module _ (links : List ParentLink) where
  -- a class has one link
  pub same-link : (c : ℕ) (l m : ParentLink) → slice_get links c ≡ Some l → slice_get links c ≡ Some m → l ≡ m
  same-link c l m h k = some_links l m (sym h ∙ k)

  pub line-over : {a b c : ℕ} → Line links a b → Line links b c → Line links a c
  line-over here k = k
  line-over (up link number is edge rest) k = up link number is edge (line-over rest k)

  pub line-one : (c : ℕ) (link : ParentLink) (number : ℕ) → slice_get links c ≡ Some link → link.edge ≡ Some number → Line links c link.parent
  line-one c link number is edge = up link number is edge here

  pub line-from : {a b c : ℕ} → a ≡ b → Line links b c → Line links a c
  line-from {c = c} e h = subst (λ x. Line links x c) (sym e) h

  pub line-to : {a b c : ℕ} → b ≡ c → Line links a b → Line links a c
  line-to {a = a} e h = subst (λ x. Line links a x) e h

  module _ (linked : (class : ℕ) (link : ParentLink) → slice_get links class ≡ Some link → IsLinked links class link) where
    -- a class with an edge is a child of its parent
    pub is-below : (c : ℕ) (link : ParentLink) (number : ℕ) → slice_get links c ≡ Some link → link.edge ≡ Some number → IsBelow links link
    is-below c link number is edge = go (linked c link is)
      where
        go : IsLinked links c link → IsBelow links link
        go (inl root) = absurd (none-some number (sym root.edge ∙ edge))
        go (inr below) = below.2

    pub line-above : {a b : ℕ} → Line links a b → (link : ParentLink) → slice_get links a ≡ Some link → IsAbove links link b
    line-above here link is = record { other = link; is = is; least = omega arith }
    line-above {a = a} (up found number on edge rest) link is =
        let below = is-below a found number on edge in
        let more = line-above rest below.parent below.is in
        let same : found.depth ≡ link.depth = ap (λ (x : ParentLink). x.depth) (same-link a found link on is) in
        let one = below.depth in
        let least = more.least in
        record { other = more.other; is = more.is; least = omega (arith, same, one, least) }

    -- a class is no ancestor of itself
    pub line-strict : (a b number : ℕ) (link : ParentLink) → slice_get links a ≡ Some link → link.edge ≡ Some number → Line links link.parent b → a ≡ b → ⊥
    line-strict a b number link is edge rest e =
        let below = is-below a link number is edge in
        let more = line-above rest below.parent below.is in
        let same : more.other.depth ≡ link.depth = ap (λ (x : ParentLink). x.depth) (same-link b more.other link more.is (ap (slice_get links) (sym e) ∙ is)) in
        let one = below.depth in
        let least = more.least in
        omega (arith, same, one, least)

    -- an ancestor of a class is at another depth
    line-deeper : (a c number : ℕ) (found l m : ParentLink) → slice_get links a ≡ Some found → found.edge ≡ Some number → Line links found.parent c → slice_get links a ≡ Some l → slice_get links c ≡ Some m → l.depth ≡ m.depth → ⊥
    line-deeper a c number found l m on edge rest is to e =
        let below = is-below a found number on edge in
        let more = line-above rest below.parent below.is in
        let lower : found.depth ≡ l.depth = ap (λ (x : ParentLink). x.depth) (same-link a found l on is) in
        let upper : more.other.depth ≡ m.depth = ap (λ (x : ParentLink). x.depth) (same-link c more.other m more.is to) in
        let one = below.depth in
        let least = more.least in
        omega (arith, lower, upper, one, least, e)

    -- two ancestors of a class at one depth are the same
    pub line-same : {a b c : ℕ} → Line links a b → Line links a c → (l m : ParentLink) → slice_get links b ≡ Some l → slice_get links c ≡ Some m → l.depth ≡ m.depth → b ≡ c
    line-same here here l m is to e = refl
    line-same {a = a} {c = c} here (up found number on edge rest) l m is to e = absurd (line-deeper a c number found l m on edge rest is to e)
    line-same {a = a} {b = b} (up found number on edge rest) here l m is to e = absurd (line-deeper a b number found m l on edge rest to is (sym e))
    line-same {a = a} (up found number on edge rest) (up other second on' edge' more) l m is to e =
        line-same rest (line-from (ap (λ (x : ParentLink). x.parent) (same-link a found other on on')) more) l m is to e

    -- a jump stays on the path, and the root is on it
    line-jumps : (fuel c : ℕ) (link : ParentLink) → slice_get links c ≡ Some link → link.depth < fuel → Line links c link.jump × Line links c link.root
    line-jumps zero c link is h = absurd (omega (arith, h))
    line-jumps (suc k) c link is h = go (λ d l i less. line-jumps k d l i less) (linked c link is)
      where
        go : ((d : ℕ) (l : ParentLink) → slice_get links d ≡ Some l → l.depth < k → Line links d l.jump × Line links d l.root) → IsLinked links c link → Line links c link.jump × Line links c link.root
        go more (inl root) = (line-to (sym root.jump) here, line-to (sym root.root) here)
        go more (inr hangs) = (leap below.jump, line-to (sym below.root) (line-over one above.1))
          where
            below : IsBelow links link
            below = hangs.2

            one : Line links c link.parent
            one = line-one c link hangs.0 is hangs.1

            above : Line links link.parent below.parent.jump × Line links link.parent below.parent.root
            above = let deep = below.depth in more link.parent below.parent below.is (omega (arith, h, deep))

            leap : (link.jump ≡ link.parent) ⊎ ((far : ParentLink) × (slice_get links below.parent.jump ≡ Some far) × (link.jump ≡ far.jump)) → Line links c link.jump
            leap (inl e) = line-to (sym e) one
            leap (inr far) =
                let deep = below.depth in
                let over = line-above above.0 below.parent below.is in
                let least = over.least in
                let same : over.other.depth ≡ (far.0).depth = ap (λ (x : ParentLink). x.depth) (same-link below.parent.jump over.other far.0 over.is far.1) in
                let next = more below.parent.jump far.0 far.1 (omega (arith, h, deep, least, same)) in
                line-to (sym far.2) (line-over one (line-over above.0 next.0))

    pub line-jump : (c : ℕ) (link : ParentLink) → slice_get links c ≡ Some link → Line links c link.jump
    line-jump c link is = let less : link.depth < suc link.depth = omega arith in (line-jumps (suc link.depth) c link is less).0

    pub line-root : (c : ℕ) (link : ParentLink) → slice_get links c ≡ Some link → Line links c link.root
    line-root c link is = let less : link.depth < suc link.depth = omega arith in (line-jumps (suc link.depth) c link is less).1

    -- the jump of a class is its parent or an ancestor of it
    pub line-leap : (c number : ℕ) (link : ParentLink) → slice_get links c ≡ Some link → link.edge ≡ Some number → Line links link.parent link.jump
    line-leap c number link is edge = go below.jump
      where
        below : IsBelow links link
        below = is-below c link number is edge

        go : (link.jump ≡ link.parent) ⊎ ((far : ParentLink) × (slice_get links below.parent.jump ≡ Some far) × (link.jump ≡ far.jump)) → Line links link.parent link.jump
        go (inl e) = line-to (sym e) here
        go (inr far) = line-to (sym far.2) (line-over (line-jump link.parent below.parent below.is) (line-jump below.parent.jump far.0 far.1))
