-- Paths along other edges, and in the transposed graph.
use Rattle.std.proofs.Common.{ℕ, List}
use Rattle.sa_graph.specs.Paths.{HasEdge, HasPath, by_edge, by_edges}

-- one edge, and then a path
pub edge_before : (Edge : ℕ → ℕ → Type 0) (a b c : ℕ) → Edge a b → HasPath Edge b c → HasPath Edge a c
edge_before Edge a b c e (by_edge f) = by_edges (by_edge e) f
edge_before Edge a b c e (by_edges {between = d} way f) = by_edges (edge_before Edge a b d e way) f

-- along edges that are all of another kind too
pub leads_along : (Edge Other : ℕ → ℕ → Type 0) → ((a b : ℕ) → Edge a b → Other a b) → (a b : ℕ) → HasPath Edge a b → HasPath Other a b
leads_along Edge Other f a b (by_edge e) = by_edge (f a b e)
leads_along Edge Other f a c (by_edges {between = b} way e) = by_edges (leads_along Edge Other f a b way) (f b c e)

-- in the other direction
pub leads_back : (Edge Back : ℕ → ℕ → Type 0) → ((a b : ℕ) → Edge a b → Back b a) → (a b : ℕ) → HasPath Edge a b → HasPath Back b a
leads_back Edge Back f a b (by_edge e) = by_edge (f a b e)
leads_back Edge Back f a c (by_edges {between = b} way e) = edge_before Back c b a (f b c e) (leads_back Edge Back f a b way)

-- where a path begins, an edge does
pub first_edge : (Edge : ℕ → ℕ → Type 0) (a b : ℕ) → HasPath Edge a b → (c : ℕ) × Edge a c
first_edge Edge a b (by_edge e) = (b, e)
first_edge Edge a c (by_edges {between = b} way e) = first_edge Edge a b way

pub edge_back : (starts ends : List ℕ) (a b : ℕ) → HasEdge starts ends a b → HasEdge ends starts b a
edge_back starts ends a b e = (e.0, e.2, e.1)
