-- The edges of immutable classes, from an index on.
use Rattle.std.proofs.Common.{◌≡◌, ℕ, ◌+◌, ◌<◌, ◌≤◌, ◌++◌, Bool, true, false, List, [], ◌∷◌, cond, length, get_or, drop, refl, sym, ap, ◌∙◌, add-one, drop-cons, append_assoc, append-nil, replicate, filter}
use Rattle.std.proofs.Math.ListN.{drop_of_length-le}
use Rattle.std.proofs.Common.{◌↔◌, subst, true≢false}
use Rattle.std.specs.Prelude.{IsTrue}
use Rattle.sa_typed.specs.declared.program.TypeDef.{TypeDef}
use Rattle.sa_graph.specs.declared.graph.Graph.{Graph}
use Rattle.sa_graph.specs.Paths.{HasEdge, IsFirst, IsOnCycle, HasPath, NoneBefore, ends_of, node_count, starts_of}
use Rattle.sa_typing.specs.Rows.{Rows, is_immutable, is_immutable_kind}
use Rattle.sa_typing.proofs.Listed.{drop-step}
use Rattle.sa_typing.specs.Layout.{Contains, IsAcyclic, ends_from, held, starts_from}

module _ (test : ℕ → Bool) where
  pub filter-kept : (xs : List ℕ) (i x : ℕ) → i < length xs → x ≡ get_or xs i x → test x ≡ true → filter test (drop i xs) ≡ x ∷ filter test (drop (i + 1) xs)
  filter-kept xs i x h e is = let step : filter test (drop i xs) ≡ cond (test x) (x ∷ filter test (drop (i + 1) xs)) (filter test (drop (i + 1) xs)) = rw (add-one, drop-cons xs i x, ← e) in step ∙ ap (λ (b : Bool). cond b (x ∷ filter test (drop (i + 1) xs)) (filter test (drop (i + 1) xs))) is

  pub filter-left : (xs : List ℕ) (i x : ℕ) → i < length xs → x ≡ get_or xs i x → test x ≡ false → filter test (drop i xs) ≡ filter test (drop (i + 1) xs)
  filter-left xs i x h e is = let step : filter test (drop i xs) ≡ cond (test x) (x ∷ filter test (drop (i + 1) xs)) (filter test (drop (i + 1) xs)) = rw (add-one, drop-cons xs i x, ← e) in step ∙ ap (λ (b : Bool). cond b (x ∷ filter test (drop (i + 1) xs)) (filter test (drop (i + 1) xs))) is

  -- one more edge after those so far
  pub kept-start : (front : List ℕ) (n : ℕ) (xs : List ℕ) (i x : ℕ) → i < length xs → x ≡ get_or xs i x → test x ≡ true → front ++ replicate (length (filter test (drop i xs))) n ≡ (front ++ n ∷ []) ++ replicate (length (filter test (drop (i + 1) xs))) n
  kept-start front n xs i x h e is =
      ap (λ (ys : List ℕ). front ++ replicate (length ys) n) (filter-kept xs i x h e is)
      ∙ sym (append_assoc front (n ∷ []) (replicate (length (filter test (drop (i + 1) xs))) n))

  pub kept-end : (front xs : List ℕ) (i x : ℕ) → i < length xs → x ≡ get_or xs i x → test x ≡ true → front ++ filter test (drop i xs) ≡ (front ++ x ∷ []) ++ filter test (drop (i + 1) xs)
  kept-end front xs i x h e is =
      ap (λ (ys : List ℕ). front ++ ys) (filter-kept xs i x h e is) ∙ sym (append_assoc front (x ∷ []) (filter test (drop (i + 1) xs)))

  -- no edge is left
  pub all-starts : (front : List ℕ) (n : ℕ) (xs : List ℕ) (i : ℕ) → length xs ≤ i → front ++ replicate (length (filter test (drop i xs))) n ≡ front
  all-starts front n xs i h = ap (λ (ys : List ℕ). front ++ replicate (length (filter test ys)) n) (drop_of_length-le xs h) ∙ append-nil front

  pub all-ends : (front xs : List ℕ) (i : ℕ) → length xs ≤ i → front ++ filter test (drop i xs) ≡ front
  all-ends front xs i h = ap (λ (ys : List ℕ). front ++ filter test ys) (drop_of_length-le xs h) ∙ append-nil front

module _ (w : Rows) where
  pub starts_from-drop : (xs : List TypeDef) (i : ℕ) (x : TypeDef) → i < length xs → x ≡ get_or xs i x → starts_from w i (drop i xs) ≡ replicate (length (held w x)) i ++ starts_from w (i + 1) (drop (i + 1) xs)
  starts_from-drop xs i x h e = ap (starts_from w i) (drop-step xs i x h e)

  pub ends_from-drop : (xs : List TypeDef) (i : ℕ) (x : TypeDef) → i < length xs → x ≡ get_or xs i x → ends_from w (drop i xs) ≡ held w x ++ ends_from w (drop (i + 1) xs)
  ends_from-drop xs i x h e = rw (add-one, drop-cons xs i x, ← e)

  -- the edges of one more class after those so far: an immutable one, another one, and none
  pub starts-kept : (front : List ℕ) (xs : List TypeDef) (i : ℕ) (x : TypeDef) → i < length xs → x ≡ get_or xs i x → is_immutable_kind x.kind ≡ true → front ++ starts_from w i (drop i xs) ≡ (front ++ replicate (length (filter (is_immutable w) x.attrs)) i) ++ starts_from w (i + 1) (drop (i + 1) xs)
  starts-kept front xs i x h e is =
      ap (λ (ys : List ℕ). front ++ ys) (starts_from-drop xs i x h e)
      ∙ ap (λ (b : Bool). front ++ (replicate (length (cond b (filter (is_immutable w) x.attrs) [])) i ++ starts_from w (i + 1) (drop (i + 1) xs))) is
      ∙ sym (append_assoc front (replicate (length (filter (is_immutable w) x.attrs)) i) (starts_from w (i + 1) (drop (i + 1) xs)))

  pub ends-kept : (front : List ℕ) (xs : List TypeDef) (i : ℕ) (x : TypeDef) → i < length xs → x ≡ get_or xs i x → is_immutable_kind x.kind ≡ true → front ++ ends_from w (drop i xs) ≡ (front ++ filter (is_immutable w) x.attrs) ++ ends_from w (drop (i + 1) xs)
  ends-kept front xs i x h e is =
      ap (λ (ys : List ℕ). front ++ ys) (ends_from-drop xs i x h e)
      ∙ ap (λ (b : Bool). front ++ (cond b (filter (is_immutable w) x.attrs) [] ++ ends_from w (drop (i + 1) xs))) is
      ∙ sym (append_assoc front (filter (is_immutable w) x.attrs) (ends_from w (drop (i + 1) xs)))

  pub starts-left : (xs : List TypeDef) (i : ℕ) (x : TypeDef) → i < length xs → x ≡ get_or xs i x → is_immutable_kind x.kind ≡ false → starts_from w i (drop i xs) ≡ starts_from w (i + 1) (drop (i + 1) xs)
  starts-left xs i x h e is =
      starts_from-drop xs i x h e
      ∙ ap (λ (b : Bool). replicate (length (cond b (filter (is_immutable w) x.attrs) [])) i ++ starts_from w (i + 1) (drop (i + 1) xs)) is

  pub ends-left : (xs : List TypeDef) (i : ℕ) (x : TypeDef) → i < length xs → x ≡ get_or xs i x → is_immutable_kind x.kind ≡ false → ends_from w (drop i xs) ≡ ends_from w (drop (i + 1) xs)
  ends-left xs i x h e is =
      ends_from-drop xs i x h e ∙ ap (λ (b : Bool). cond b (filter (is_immutable w) x.attrs) [] ++ ends_from w (drop (i + 1) xs)) is

  pub starts-all : (front : List ℕ) (xs : List TypeDef) (i : ℕ) → length xs ≤ i → front ++ starts_from w i (drop i xs) ≡ front
  starts-all front xs i h = ap (λ (ys : List TypeDef). front ++ starts_from w i ys) (drop_of_length-le xs h) ∙ append-nil front

  pub ends-all : (front : List ℕ) (xs : List TypeDef) (i : ℕ) → length xs ≤ i → front ++ ends_from w (drop i xs) ≡ front
  ends-all front xs i h = ap (λ (ys : List TypeDef). front ++ ends_from w ys) (drop_of_length-le xs h) ∙ append-nil front

-- where a graph has these edges
module _ (w : Rows) (graph : Graph) (count : node_count graph ≡ length w.types) (begins : starts_of graph ≡ starts_from w 0 w.types) (closes : ends_of graph ≡ ends_from w w.types) where
  into : (n : ℕ) → IsOnCycle graph n → HasPath (Contains w) n n
  into n cycle = subst (λ (ys : List ℕ). HasPath (HasEdge (starts_from w 0 w.types) ys) n n) closes (subst (λ (xs : List ℕ). HasPath (HasEdge xs (ends_of graph)) n n) begins cycle)

  from : (n : ℕ) → HasPath (Contains w) n n → IsOnCycle graph n
  from n cycle = subst (λ (ys : List ℕ). HasPath (HasEdge (starts_of graph) ys) n n) (sym closes) (subst (λ (xs : List ℕ). HasPath (HasEdge xs (ends_from w w.types)) n n) (sym begins) cycle)

  pub flat-none : NoneBefore graph (node_count graph) → IsTrue true ↔ IsAcyclic w
  flat-none none = (λ _ ty within cycle. none.none ty (subst (λ n. ty < n) (sym count) within) (from ty cycle), λ _. refl)

  pub flat-cycle : (node : ℕ) → node < length w.types → IsFirst graph node → IsTrue false ↔ IsAcyclic w
  flat-cycle node within first = (λ no. absurd (true≢false (sym no)), λ flat. absurd (flat node within (into node first.cycle)))

pub ruleset flat = (flat-none, flat-cycle)

pub ruleset held_by = (kept-start, kept-end, filter-left, all-starts, all-ends)

pub ruleset held_from = (starts-kept, ends-kept, starts-left, ends-left, starts-all, ends-all)
