-- The edges of the graph of the classes are those that are written, and so are the cycles.
use Rattle.std.proofs.Common.{◌≡◌, ℕ, zero, suc, ◌<◌, List, [], ◌∷◌, Some, length, get_or, map, slice_get, sym, ap, subst, ◌∙◌, arith}
use Rattle.std.specs.List.{Contains}
use Rattle.sa_graph.specs.Paths.{HasEdge, IsEdge, IsFirst, HasPath, NoneBefore, node_count}
use Rattle.sa_graph.specs.Paths as paths
use Rattle.sa_graph.specs.declared.graph.Graph.{Graph}
use Rattle.sa_graph.proofs.Turned.{leads_along}
use Rattle.sa_ast.specs.declared.class.Class.{Class}
use Rattle.sa_ast.specs.declared.refusal.Rejection.{Rejection}
use Rattle.sa_ast.specs.declared.refusal.Rejection.TheVariants.{Failed, Refused}
use Rattle.sa_ast.specs.declared.refusal.Refusal.{Refusal}
use Rattle.sa_unify.specs.declared.declared.Edge.{Edge}
use Rattle.sa_unify.specs.declared.written.WrittenEdge.{WrittenEdge}
use Rattle.sa_unify.specs.DeclaredEdges.{ends_of, ends_written}
use Rattle.sa_hierarchy.specs.Cycles.{HasEdgeIn, HasNoCycle, IsBetween, IsCycleAt, IsFirstCycle, NamesCycle, RefusesCycle}

module _ (Edge Other : ℕ → ℕ → Type 0) (forth : (a b : ℕ) → Edge a b → Other a b) (back : (a b : ℕ) → Other a b → Edge a b) (classes : List Class) where
  pub first_along : (refusal : Refusal) → IsFirstCycle Edge classes refusal → IsFirstCycle Other classes refusal
  first_along refusal r = record {
    number = r.number;
    at = r.at;
    cycle = leads_along Edge Other forth r.number r.number r.cycle;
    first = λ earlier lt h. r.first earlier lt (leads_along Other Edge back earlier earlier h);
  }

  pub cycle_along : (fault : Rejection) → RefusesCycle Edge classes fault → RefusesCycle Other classes fault
  cycle_along (Refused refusal) r = first_along refusal r
  cycle_along (Failed why) r = tt

  pub none_along : HasNoCycle Edge classes → HasNoCycle Other classes
  none_along acyclic = record { none = λ number lt h. acyclic.none number lt (leads_along Other Edge back number number h) }

-- ---- the graph's edges

some_pair : (edges : List Edge) (k a b : ℕ) → slice_get (map (λ e. e.lower) edges) k ≡ Some a → slice_get (map (λ e. e.upper) edges) k ≡ Some b → (k < length (map ends_of edges)) × (get_or (map ends_of edges) k (a, b) ≡ (a, b))
some_pair [] k a b h g = cc
some_pair (e ∷ edges) zero a b h g = (omega arith, pair (e.lower) (e.upper) h g)
  where
    pair : (x y : ℕ) → Some x ≡ Some a → Some y ≡ Some b → ◌≡◌ {A = ℕ × ℕ} (x, y) (a, b)
    pair x y p q = cc
some_pair (e ∷ edges) (suc k) a b h g = let r = some_pair edges k a b h g in (omega (arith, r.0), r.1)

pair_some : (edges : List Edge) (k a b : ℕ) → k < length (map ends_of edges) → get_or (map ends_of edges) k (a, b) ≡ (a, b) → (slice_get (map (λ e. e.lower) edges) k ≡ Some a) × (slice_get (map (λ e. e.upper) edges) k ≡ Some b)
pair_some [] k a b h g = absurd (omega (arith, h))
pair_some (e ∷ edges) zero a b h g = (ap (λ p. Some p.0) g, ap (λ p. Some p.1) g)
pair_some (e ∷ edges) (suc k) a b h g = pair_some edges k a b (omega (arith, h)) g

module _ (edges : List Edge) (written : List WrittenEdge) (same : map ends_of edges ≡ map ends_written written) where
  pub edge_written : (a b : ℕ) → HasEdgeIn edges a b → IsBetween written a b
  edge_written a b h = subst (λ ps. Contains ps (a, b)) same (let r = some_pair edges h.0 a b h.1 h.2 in (h.0, r.0, r.1))

  pub written_edge : (a b : ℕ) → IsBetween written a b → HasEdgeIn edges a b
  written_edge a b h = let g = subst (λ ps. Contains ps (a, b)) (sym same) h in let r = pair_some edges g.0 a b g.1 g.2 in (g.0, r.0, r.1)

module _ (edges : List Edge) (written : List WrittenEdge) (classes : List Class) (same : map ends_of edges ≡ map ends_written written) where
  pub none-written : HasNoCycle (HasEdgeIn edges) classes → HasNoCycle (IsBetween written) classes
  none-written = none_along (HasEdgeIn edges) (IsBetween written) (edge_written edges written same) (written_edge edges written same) classes

  pub cycle-written : (fault : Rejection) → RefusesCycle (HasEdgeIn edges) classes fault → RefusesCycle (IsBetween written) classes fault
  cycle-written = cycle_along (HasEdgeIn edges) (IsBetween written) (edge_written edges written same) (written_edge edges written same) classes

pub ruleset along = (none-written, cycle-written)

-- ---- the graph of the edges

module _ (edges : List Edge) (classes : List Class) (graph : Graph) (count : ℕ) (starts ends : List ℕ) (is_count : count ≡ length classes) (nodes : node_count graph ≡ count) (lowers : starts ≡ map (λ e. e.lower) edges) (uppers : ends ≡ map (λ e. e.upper) edges) (begins : paths.starts_of graph ≡ starts) (closes : paths.ends_of graph ≡ ends) where
  into : (a b : ℕ) → HasPath (IsEdge graph) a b → HasPath (HasEdgeIn edges) a b
  into = leads_along (IsEdge graph) (HasEdgeIn edges) (λ a b e. (e.0, ap (λ xs. slice_get xs e.0) (sym (begins ∙ lowers)) ∙ e.1, ap (λ xs. slice_get xs e.0) (sym (closes ∙ uppers)) ∙ e.2))

  from : (a b : ℕ) → HasPath (HasEdgeIn edges) a b → HasPath (IsEdge graph) a b
  from = leads_along (HasEdgeIn edges) (IsEdge graph) (λ a b e. (e.0, ap (λ xs. slice_get xs e.0) (begins ∙ lowers) ∙ e.1, ap (λ xs. slice_get xs e.0) (closes ∙ uppers) ∙ e.2))

  pub none-found : NoneBefore graph (node_count graph) → HasNoCycle (HasEdgeIn edges) classes
  none-found none = record { none = λ number lt cycle. none.none number (subst (λ n. number < n) (sym (nodes ∙ is_count)) lt) (from number number cycle) }

  first_is : (number : ℕ) (refusal : Refusal) → IsFirst graph number → IsCycleAt classes number refusal → IsFirstCycle (HasEdgeIn edges) classes refusal
  first_is number refusal first at = record {
    number = number;
    at = at;
    cycle = into number number first.cycle;
    first = λ earlier lt cycle. first.first.none earlier lt (from earlier earlier cycle);
  }

  pub first-found : (number : ℕ) (fault : Rejection) → IsFirst graph number → NamesCycle classes number fault → RefusesCycle (HasEdgeIn edges) classes fault
  first-found number (Refused refusal) first at = first_is number refusal first at
  first-found number (Failed why) first at = tt

pub ruleset ordered = (none-found, first-found)
