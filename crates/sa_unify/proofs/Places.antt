-- Lists of nodes from an index on.
use Rattle.std.proofs.Common.{◌≡◌, ℕ, ◌+◌, ◌<◌, Bool, true, false, true≢false, ◌||◌, List, [], ◌∷◌, ◌++◌, length, get_or, take, drop, refl, sym, ap, subst, ◌∙◌, arith, add-one, drop-cons}
use Rattle.std.specs.Prelude.{max}
use Rattle.std.proofs.Math.Seq.{drop-length, take-suc}
use Rattle.std.proofs.lemmas.Bool.{eqb-true}
use Rattle.sa_unify.specs.declared.pattern.Node.{Node}
use Rattle.sa_unify.specs.declared.pattern.Node.TheVariants as node
use Rattle.sa_unify.specs.Terms.{after, comes, Differ, free, is_variable}
use Rattle.sa_unify.proofs.Terms.{behind_none}

pub comes-drop : (number : ℕ) (nodes : List Node) (i : ℕ) (a : Node) → i < length nodes → a ≡ get_or nodes i a → comes number (drop i nodes) ≡ (is_variable number a || comes number (drop (i + 1) nodes))
comes-drop number nodes i a h e = rw (add-one, drop-cons nodes i a, ← e)

-- one more node that is the same in both lists
pub take-same : (one other : List Node) (i : ℕ) (a b : Node) → i < length one → i < length other → a ≡ get_or one i a → b ≡ get_or other i b → a ≡ b → take i one ≡ take i other → take (i + 1) one ≡ take (i + 1) other
take-same one other i a b h k e f same before =
    rw (add-one, take-suc one i a h, take-suc other i b k, ← e, ← f) (ap (λ l. l ++ a ∷ []) before ∙ ap (λ x. take i other ++ x ∷ []) same)

differ-end : (l m : List Node) → m ≡ [] → Differ l m
differ-end [] m e = tt
differ-end (a ∷ l) m e = subst (Differ (a ∷ l)) (sym e) tt

-- the second list ends at the index
pub differ-length : (one other : List Node) (i : ℕ) → i ≡ length other → Differ (drop i one) (drop i other)
differ-length one other i e = differ-end (drop i one) (drop i other) (ap (λ n. drop n other) e ∙ drop-length other)

-- the first list ends at the index
pub differ-length_one : (one other : List Node) → Differ (drop (length one) one) (drop (length one) other)
differ-length_one one other = subst (λ l. Differ l (drop (length one) other)) (sym (drop-length one)) tt

-- the nodes at the index differ
pub differ-at : (one other : List Node) (i : ℕ) (a b : Node) → i < length one → i < length other → a ≡ get_or one i a → b ≡ get_or other i b → (a ≡ b → ⊥) → Differ (drop i one) (drop i other)
differ-at one other i a b h k e f differ = rw (drop-cons one i a, drop-cons other i b, ← e, ← f) differ

free-append : (l m : List Node) → free (l ++ m) ≡ max (free l) (free m)
free-append [] m = omega arith
free-append (a ∷ l) m = let more = free-append l m in omega (arith, more)

pub free-more : (nodes : List Node) (i : ℕ) (a : Node) → i < length nodes → a ≡ get_or nodes i a → free (take (i + 1) nodes) ≡ max (free (take i nodes)) (after a)
free-more nodes i a h e =
    let last : free (take i nodes ++ a ∷ []) ≡ max (free (take i nodes)) (free (a ∷ [])) = free-append (take i nodes) (a ∷ []) in
    let whole : free (take (i + 1) nodes) ≡ free (take i nodes ++ a ∷ []) = rw (add-one, take-suc nodes i a h, ← e) refl in
    omega (arith, last, whole)

after-over : (number : ℕ) (x : Node) → is_variable number x ≡ true → number < after x
after-over number (node.Variable other) e = let same = eqb-true other number e in omega (arith, same)
after-over number (node.Class name count) e = absurd (true≢false (sym e))
after-over number (node.Routine count) e = absurd (true≢false (sym e))
after-over number (node.Iter count) e = absurd (true≢false (sym e))
after-over number (node.Passed mode) e = absurd (true≢false (sym e))
after-over number (node.List count) e = absurd (true≢false (sym e))

-- a variable in the nodes is less than the free number
pub free-over : (number : ℕ) (nodes : List Node) → comes number nodes ≡ true → number < free nodes
free-over number [] h = absurd (true≢false (sym h))
free-over number (a ∷ nodes) h = go (λ k. free-over number nodes k) (is_variable number a) refl
  where
    go : (comes number nodes ≡ true → number < free nodes) → (b : Bool) → is_variable number a ≡ b → number < max (after a) (free nodes)
    go more true e = let own = after-over number a e in omega (arith, own)
    go more false e = let below = more (ap (λ b. b || comes number nodes) (sym e) ∙ h) in omega (arith, below)

pub ruleset places = (comes-drop, take-same, differ-length, differ-length_one, differ-at, drop-length, behind_none, free-more)
