-- How terms are read: a term is one item, and terms in a row are read one by one.
use Rattle.std.proofs.Common.{◌≡◌, ℕ, zero, suc, ◌+◌, ◌-◌, ◌≤◌, List, [], ◌∷◌, ◌++◌, Some, length, take, drop, refl, sym, ap, ◌∙◌, arith, length-drop}
use Rattle.std.proofs.Math.ListN.{drop_of_length-le}
use Rattle.std.proofs.Math.Seq.{take-length}
use Rattle.std.proofs.lemmas.List.{take-append-le, drop-append-le}
use Rattle.std.proofs.lemmas.Option.{none-some}
use Rattle.sa_unify.specs.declared.pattern.Node.{Node}
use Rattle.sa_unify.specs.Terms.{held, following, IsTerm}
use Rattle.sa_unify.specs.Spelled.{Item, made, read, first_item}
use Rattle.sa_unify.proofs.Terms.{following-append}

-- a list that isn't empty is not the empty one
not_empty : (a : Node) (w : List Node) → Some (a ∷ w) ≡ Some [] → ⊥
not_empty a w e = cc

-- a term from the terms that are the children of its first node
pub term-node : (a : Node) (nodes : List Node) → following nodes (held a) ≡ Some [] → IsTerm (a ∷ nodes)
term-node a nodes h = let e : held a + 0 ≡ held a = omega arith in ap (following nodes) e ∙ h

-- n terms are n items
pub length-read : (w : List Node) (k : ℕ) → following w k ≡ Some [] → length (read w k) ≡ k
length-read [] zero h = refl
length-read [] (suc k) h = absurd (none-some [] h)
length-read (a ∷ w) zero h = absurd (not_empty a w h)
length-read (a ∷ w) (suc k) h =
    let more = length-read w (held a + k) h in
    let rest : length (drop (held a) (read w (held a + k))) ≡ length (read w (held a + k)) - held a = length-drop (held a) (read w (held a + k)) in
    omega (arith, more, rest)

-- the items of terms in a row
pub read-append : (w more : List Node) (k n : ℕ) → following w k ≡ Some [] → read (w ++ more) (k + n) ≡ read w k ++ read more n
read-append [] more zero n h = let e : zero + n ≡ n = omega arith in ap (read more) e
read-append [] more (suc k) n h = absurd (none-some [] h)
read-append (a ∷ w) more zero n h = absurd (not_empty a w h)
read-append (a ∷ w) more (suc k) n h =
    let e : suc k + n ≡ suc (k + n) = omega arith in
    let f : held a + (k + n) ≡ (held a + k) + n = omega arith in
    let both = ap (read (w ++ more)) f ∙ read-append w more (held a + k) n h in
    let least : held a ≤ length (read w (held a + k)) = omega (arith, length-read w (held a + k) h) in
    ap (read ((a ∷ w) ++ more)) e
    ∙ ap (λ l. made a (take (held a) l) ∷ drop (held a) l) both
    ∙ ap (λ l. made a l ∷ drop (held a) (read w (held a + k) ++ read more n)) (take-append-le (held a) (read w (held a + k)) (read more n) least)
    ∙ ap (λ l. made a (take (held a) (read w (held a + k))) ∷ l) (drop-append-le (held a) (read w (held a + k)) (read more n) least)

-- a term is what its first node makes of its children
pub read-node : (a : Node) (nodes : List Node) → following nodes (held a) ≡ Some [] → read (a ∷ nodes) 1 ≡ made a (read nodes (held a)) ∷ []
read-node a nodes h =
    let e : held a + 0 ≡ held a = omega arith in
    let count = length-read nodes (held a) h in
    let least : length (read nodes (held a)) ≤ held a = omega (arith, count) in
    ap (λ k. made a (take (held a) (read nodes k)) ∷ drop (held a) (read nodes k)) e
    ∙ ap (λ l. made a l ∷ drop (held a) (read nodes (held a))) (ap (λ k. take k (read nodes (held a))) (sym count) ∙ take-length (read nodes (held a)))
    ∙ ap (λ l. made a (read nodes (held a)) ∷ l) (drop_of_length-le (read nodes (held a)) least)

one_item : (items : List Item) → length items ≡ 1 → items ≡ first_item items ∷ []
one_item [] h = absurd (omega (arith, h))
one_item (x ∷ []) h = refl
one_item (x ∷ y ∷ more) h = absurd (omega (arith, h))

pub read-one : (w : List Node) → IsTerm w → read w 1 ≡ first_item (read w 1) ∷ []
read-one w h = one_item (read w 1) (length-read w 1 h)

-- a term at the head of terms is one item
pub read-term : (w more : List Node) (n : ℕ) → IsTerm w → read (w ++ more) (suc n) ≡ first_item (read w 1) ∷ read more n
read-term w more n h =
    let e : suc n ≡ 1 + n = omega arith in
    ap (read (w ++ more)) e ∙ read-append w more 1 n h ∙ ap (λ l. l ++ read more n) (read-one w h)

-- a node without children at the head of terms is one item
pub read-single : (a : Node) (more : List Node) (n : ℕ) → held a ≡ 0 → read (a ∷ more) (suc n) ≡ made a [] ∷ read more n
read-single a more n h =
    let e : 0 + n ≡ n = omega arith in
    ap (λ k. made a (take k (read more (k + n))) ∷ drop k (read more (k + n))) h ∙ ap (λ k. made a [] ∷ read more k) e

-- n terms and then more of them
pub following-term : (w more : List Node) (n : ℕ) → IsTerm w → following (w ++ more) (suc n) ≡ following more n
following-term w more n h = let e : suc n ≡ 1 + n = omega arith in ap (following (w ++ more)) e ∙ following-append w more 1 n h

pub following-single : (a : Node) (more : List Node) (n : ℕ) → held a ≡ 0 → following (a ∷ more) (suc n) ≡ following more n
following-single a more n h = let e : 0 + n ≡ n = omega arith in ap (λ k. following more (k + n)) h ∙ ap (following more) e
