-- What closed marks and paths that continue show.
use Rattle.std.proofs.Common.{◌≡◌, ℕ, zero, suc, ◌+◌, ◌<◌, ◌≤◌, Bool, true, false, List, Option, Some, length, slice_get, sym, ap, subst, ◌∙◌, ◌⊎◌, inl, inr, ⊎_elim, arith}
use Rattle.std.proofs.lemmas.Bool.{false≢true}
use Rattle.std.proofs.lemmas.List.{get_or_past}
use Rattle.std.proofs.lemmas.Option.{slice_get_within}
use Rattle.sa_graph.specs.declared.graph.Graph.{Graph}
use Rattle.sa_graph.specs.declared.reach.Ways.{Ways}
use Rattle.sa_graph.specs.Levels.{level_of}
use Rattle.sa_graph.specs.Paths.{IsEdge, HasPath, by_edge, by_edges, ends_of, starts_of}
use Rattle.sa_graph.specs.Reaching.{AreReaching, IsClosed, IsClosedAt, IsOnWay, Reaches, WaysGoOn, is_set}
use Rattle.sa_graph.proofs.Turned.{edge_before}

-- ---- closed marks

at_place : (graph : Graph) (marks : List Bool) (place from next : ℕ) (starts ends : List ℕ) → starts ≡ starts_of graph → ends ≡ ends_of graph → slice_get starts place ≡ Some from → slice_get ends place ≡ Some next → (is_set marks next ≡ true → is_set marks from ≡ true) → IsClosedAt graph marks place
at_place graph marks place from next starts ends are_starts are_ends start end closed = record {
  closed = λ f n g h marked. subst (λ m. is_set marks m ≡ true) (one f from g (ap (λ xs. slice_get xs place) (sym are_starts) ∙ start)) (closed (subst (λ m. is_set marks m ≡ true) (sym (one n next h (ap (λ xs. slice_get xs place) (sym are_ends) ∙ end))) marked));
}
  where
    one : {o : Option ℕ} (x y : ℕ) → o ≡ Some x → o ≡ Some y → y ≡ x
    one x y p q = cc

pub closed-unmarked : (graph : Graph) (marks : List Bool) (place from next : ℕ) (starts ends : List ℕ) (marked : Bool) → starts ≡ starts_of graph → ends ≡ ends_of graph → slice_get starts place ≡ Some from → slice_get ends place ≡ Some next → marked ≡ is_set marks next → marked ≡ false → IsClosedAt graph marks place
closed-unmarked graph marks place from next starts ends marked are_starts are_ends start end is unset =
    at_place graph marks place from next starts ends are_starts are_ends start end (λ h. absurd (false≢true (sym unset ∙ is ∙ h)))

pub closed-marked : (graph : Graph) (marks : List Bool) (place from next : ℕ) (starts ends : List ℕ) (marked : Bool) → starts ≡ starts_of graph → ends ≡ ends_of graph → slice_get starts place ≡ Some from → slice_get ends place ≡ Some next → marked ≡ is_set marks from → marked ≡ true → IsClosedAt graph marks place
closed-marked graph marks place from next starts ends marked are_starts are_ends start end is held =
    at_place graph marks place from next starts ends are_starts are_ends start end (λ h. sym is ∙ held)

pub ruleset closed_at = (closed-unmarked, closed-marked)

pub record ClosedSoFar (graph : Graph) (marks : List Bool) (n : ℕ) : Type 0 where
  pub each : (place : ℕ) → place < n → IsClosedAt graph marks place

pub closed-none : (graph : Graph) (marks : List Bool) → ClosedSoFar graph marks 0
closed-none graph marks = record { each = λ place h. absurd (omega (arith, h)) }

pub closed-more : (graph : Graph) (marks : List Bool) (n : ℕ) → ClosedSoFar graph marks n → IsClosedAt graph marks n → ClosedSoFar graph marks (n + 1)
closed-more graph marks n all here = record { each = λ place h. by place (near place h) }
  where
    near : (place : ℕ) → place < n + 1 → (place < n) ⊎ (n ≡ place)
    near place h = grind (arith, h)

    by : (place : ℕ) → (place < n) ⊎ (n ≡ place) → IsClosedAt graph marks place
    by place (inl lt) = all.each place lt
    by place (inr e) = subst (IsClosedAt graph marks) e here

pub closed-all : (graph : Graph) (marks : List Bool) (n count : ℕ) → ClosedSoFar graph marks n → count ≤ n → count ≡ length (ends_of graph) → IsClosed graph marks
closed-all graph marks n count so_far le is = record {
  closed = λ a b e. (so_far.each e.0 (omega (arith, le, is, slice_get_within (ends_of graph) e.0 b e.2))).closed a b e.1 e.2;
}

pub ruleset closed = (closed-none, closed-more, closed-all)

-- ---- paths that continue

pub end-at : (graph : Graph) (place from node next : ℕ) (starts ends : List ℕ) → starts ≡ starts_of graph → ends ≡ ends_of graph → slice_get starts place ≡ Some from → from ≡ node → slice_get ends place ≡ Some next → IsEdge graph node next
end-at graph place from node next starts ends are_starts are_ends start same end = (place, ap (λ xs. slice_get xs place) (sym are_starts) ∙ start ∙ ap Some same, ap (λ xs. slice_get xs place) (sym are_ends) ∙ end)

pub ruleset ends = (end-at)

pub way-itself : (graph : Graph) (ways : Ways) (to node : ℕ) → node ≡ to → IsOnWay graph ways to node
way-itself graph ways to node same = record { way = λ _. inl same }

pub way-unmarked : (graph : Graph) (ways : Ways) (to node : ℕ) (marked : Bool) → marked ≡ is_set ways.marks.items node → marked ≡ false → IsOnWay graph ways to node
way-unmarked graph ways to node marked is unset = record { way = λ h. absurd (false≢true (sym unset ∙ is ∙ h)) }

pub way-on : (graph : Graph) (ways : Ways) (to node next fewer left : ℕ) (marked : Bool) → IsEdge graph node next → marked ≡ is_set ways.marks.items next → marked ≡ true → fewer ≡ level_of ways.steps.items next → left ≡ level_of ways.steps.items node → fewer < left → IsOnWay graph ways to node
way-on graph ways to node next fewer left marked edge is held is_fewer is_left lt = record {
  way = λ _. inr (record { next = next; edge = edge; marked = sym is ∙ held; fewer = omega (arith, is_fewer, is_left, lt) });
}

pub ruleset on_way = (way-itself, way-unmarked, way-on)

pub record OnWaySoFar (graph : Graph) (ways : Ways) (to n : ℕ) : Type 0 where
  pub each : (node : ℕ) → node < n → IsOnWay graph ways to node

pub ways-none : (graph : Graph) (ways : Ways) (to : ℕ) → OnWaySoFar graph ways to 0
ways-none graph ways to = record { each = λ node h. absurd (omega (arith, h)) }

pub ways-more : (graph : Graph) (ways : Ways) (to n node : ℕ) → OnWaySoFar graph ways to n → IsOnWay graph ways to node → node ≡ n → OnWaySoFar graph ways to (n + 1)
ways-more graph ways to n node all here is = record { each = λ k h. by k (near k h) }
  where
    near : (k : ℕ) → k < n + 1 → (k < n) ⊎ (node ≡ k)
    near k h = grind (arith, h, is)

    by : (k : ℕ) → (k < n) ⊎ (node ≡ k) → IsOnWay graph ways to k
    by k (inl lt) = all.each k lt
    by k (inr e) = subst (IsOnWay graph ways to) e here

pub ways-all : (graph : Graph) (ways : Ways) (to n : ℕ) → OnWaySoFar graph ways to n → length ways.marks.items ≤ n → WaysGoOn graph ways to
ways-all graph ways to n so_far le = record { each = λ node. by node (inside node) }
  where
    inside : (node : ℕ) → (node < n) ⊎ (n ≤ node)
    inside node = grind arith

    by : (node : ℕ) → (node < n) ⊎ (n ≤ node) → IsOnWay graph ways to node
    by node (inl lt) = so_far.each node lt
    by node (inr past) = record { way = λ h. absurd (false≢true (sym (get_or_past ways.marks.items node false (omega (arith, le, past))) ∙ h)) }

pub ruleset on_ways = (ways-none, ways-more, ways-all)

-- ---- the answer

module _ (graph : Graph) (ways : Ways) (to : ℕ) (itself : is_set ways.marks.items to ≡ true) (shut : IsClosed graph ways.marks.items) (on : WaysGoOn graph ways to) where
  way_back : (a b : ℕ) → HasPath (IsEdge graph) a b → is_set ways.marks.items b ≡ true → is_set ways.marks.items a ≡ true
  way_back a b (by_edge e) h = shut.closed a b e h
  way_back a b (by_edges {between = c} way e) h = way_back a c way (shut.closed c b e h)

  reached : (most node : ℕ) → level_of ways.steps.items node < most → is_set ways.marks.items node ≡ true → Reaches graph to node
  reached zero node lt h = absurd (omega (arith, lt))
  reached (suc most) node lt h = ⊎_elim inl (λ goes. ⊎_elim (λ same. inr (by_edge (subst (IsEdge graph node) same goes.edge))) (λ way. inr (edge_before (IsEdge graph) node goes.next to goes.edge way)) (reached most goes.next (omega (arith, lt, goes.fewer)) goes.marked)) ((on.each node).way h)

  answer : AreReaching graph to ways.marks.items
  answer = record {
    exactly = λ node. (λ h. reached (suc (level_of ways.steps.items node)) node (omega arith) h, ⊎_elim (λ same. subst (λ k. is_set ways.marks.items k ≡ true) (sym same) itself) (λ way. way_back node to way itself));
  }

pub reaching-is : (graph : Graph) (ways : Ways) (to : ℕ) (marked : Bool) → marked ≡ is_set ways.marks.items to → marked ≡ true → IsClosed graph ways.marks.items → WaysGoOn graph ways to → AreReaching graph to ways.marks.items
reaching-is graph ways to marked is held shut on = answer graph ways to (sym is ∙ held) shut on

pub ruleset reaching = (reaching-is)
