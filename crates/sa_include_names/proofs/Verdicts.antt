-- The includes of a program's classes, put together.
use Rattle.std.proofs.Common.{◌≡◌, ◌↔◌, ℕ, ◌<◌, Bool, true, false, List, [], ◌∷◌, Option, None, Some, length, set, slice_get, refl, sym, ap, subst, ◌∙◌, ◌⊎◌, inl, inr, ⊎_elim}
use Rattle.std.proofs.lemmas.Bool.{false≢true}
use Rattle.sa_graph.specs.Paths.{HasEdge, IsEdge, IsFirst, IsOnCycle, HasPath, NoneBefore, ends_of, node_count, starts_of}
use Rattle.sa_graph.specs.Reaching.{AreReaching, Reaches}
use Rattle.sa_graph.specs.declared.graph.Graph.{Graph}
use Rattle.sa_graph.proofs.Turned.{leads_along, first_edge}
use Rattle.std.proofs.lemmas.Option.{slice_get_within}
use Rattle.sa_ast.specs.declared.class.Class.{Class}
use Rattle.sa_ast.specs.declared.refusal.Refusal.{Refusal}
use Rattle.sa_include_names.specs.declared.graph.Edges.{Edges}
use Rattle.sa_include_names.specs.declared.names.ClassNumbers.{ClassNumbers}
use Rattle.sa_include_names.specs.Includes.{AreArrays, DoesInclude, HasArrayPart, IncludesItself, array_name, is_set}
use Rattle.sa_include_names.specs.Names.{DifferInName, number_of}
use Rattle.sa_include_names.specs.Headers.{misused_names}
use Rattle.sa_include_names.specs.Refusals.{AreIncludesRight, RefusesNames, RefusesRepeated}
use Rattle.sa_include_names.specs.Tables.{AreEdges, AreGraphOf, CycleAt, HasNumbers, IsNamed, MisusedAt, NoneMisused, number_in}

-- ---- the graph of the include clauses

pub graph_of : (classes : List Class) (edges : Edges) (graph : Graph) → AreEdges classes edges → node_count graph ≡ length classes → starts_of graph ≡ edges.starts.items → ends_of graph ≡ edges.ends.items → AreGraphOf classes graph
graph_of classes edges graph are count starts ends = record {
  count = count;
  includes = λ a b. (λ h. (are.includes a b).0 (h.0, ap (λ xs. slice_get xs h.0) (sym starts) ∙ h.1, ap (λ xs. slice_get xs h.0) (sym ends) ∙ h.2), λ d. let h = (are.includes a b).1 d in (h.0, ap (λ xs. slice_get xs h.0) starts ∙ h.1, ap (λ xs. slice_get xs h.0) ends ∙ h.2));
}

module _ (classes : List Class) (graph : Graph) (of : AreGraphOf classes graph) where
  include_way : (a b : ℕ) → HasPath (IsEdge graph) a b → HasPath (DoesInclude classes) a b
  include_way = leads_along (IsEdge graph) (DoesInclude classes) (λ a b e. (of.includes a b).0 e)

  graph_way : (a b : ℕ) → HasPath (DoesInclude classes) a b → HasPath (IsEdge graph) a b
  graph_way = leads_along (DoesInclude classes) (IsEdge graph) (λ a b d. (of.includes a b).1 d)

  -- ---- array parts

  pub no-array : (numbers : ClassNumbers) (name : List ℕ) (found : Option ℕ) (marks : List Bool) → HasNumbers classes numbers → found ≡ number_in numbers name → name ≡ array_name → found ≡ None → ((n : ℕ) → is_set marks n ≡ false) → AreArrays classes marks
  no-array numbers name found marks numbered is named none unset = record {
    exactly = λ n. (λ h. absurd (false≢true (sym (unset n) ∙ h)), λ h. absurd (differs h.0 (sym h.1 ∙ sym (numbered.each array_name) ∙ ap (number_in numbers) (sym named) ∙ sym is ∙ none)));
  }
    where
      differs : (k : ℕ) → Some k ≡ None → ⊥
      differs k q = cc

  pub array-marks : (numbers : ClassNumbers) (name : List ℕ) (found : Option ℕ) (array : ℕ) (marks : List Bool) → HasNumbers classes numbers → found ≡ number_in numbers name → name ≡ array_name → found ≡ Some array → AreReaching graph array marks → AreArrays classes marks
  array-marks numbers name found array marks numbered is named some reaching = record {
    exactly = λ n. (λ h. (array, known, way n ((reaching.exactly n).0 h)), λ h. (reaching.exactly n).1 (subst (λ a. Reaches graph a n) (same h.0 h.1) (back n h.0 h.2)));
  }
    where
      known : number_of classes array_name ≡ Some array
      known = sym (numbered.each array_name) ∙ ap (number_in numbers) (sym named) ∙ sym is ∙ some

      way : (n : ℕ) → Reaches graph array n → (n ≡ array) ⊎ HasPath (DoesInclude classes) n array
      way n (inl e) = inl e
      way n (inr w) = inr (include_way n array w)

      back : (n a : ℕ) → (n ≡ a) ⊎ HasPath (DoesInclude classes) n a → Reaches graph a n
      back n a (inl e) = inl e
      back n a (inr w) = inr (graph_way n a w)

      same : (a : ℕ) → number_of classes array_name ≡ Some a → a ≡ array
      same a h = one (sym h ∙ known)
        where
          one : Some a ≡ Some array → a ≡ array
          one q = cc

  -- ---- cycles

  pub refuses-cycle : (arrays : List Bool) (refusal : Refusal) → DifferInName classes → AreArrays classes arrays → NoneMisused classes arrays → CycleAt classes graph refusal → RefusesNames classes refusal
  refuses-cycle arrays refusal differ marked right cycle = inr (inr (record {
    right = record { differ = differ; arrays = arrays; marked = marked; right = right.none };
    number = cycle.number;
    class = cycle.named.class;
    at = cycle.named.at;
    cycle = include_way cycle.number cycle.number cycle.first.cycle;
    first = λ earlier lt h. cycle.first.first.none earlier lt (graph_way earlier earlier h);
    is = cycle.named.is;
  }))

  pub includes-right : (arrays : List Bool) → DifferInName classes → AreArrays classes arrays → NoneMisused classes arrays → NoneBefore graph (node_count graph) → AreIncludesRight classes
  includes-right arrays differ marked right none = record {
    names = record { differ = differ; arrays = arrays; marked = marked; right = right.none };
    cycle = λ number h. none.none number (subst (λ n. number < n) (sym of.count) (inside number number h)) (graph_way number number h);
  }
    where
      inside : (a b : ℕ) → HasPath (DoesInclude classes) a b → a < length classes
      inside a b way = let e = first_edge (DoesInclude classes) a b way in slice_get_within classes a e.1.class e.1.at

pub first_named : (classes : List Class) (graph : Graph) (number : ℕ) (refusal : Refusal) → IsFirst graph number → IsNamed classes number refusal → CycleAt classes graph refusal
first_named classes graph number refusal first named = record { number = number; named = named; first = first }

-- ---- names

pub refuses-repeated : (classes : List Class) (refusal : Refusal) → RefusesRepeated classes refusal → RefusesNames classes refusal
refuses-repeated classes refusal repeated = inl repeated

pub refuses-misused : (classes : List Class) (arrays : List Bool) (refusal : Refusal) → DifferInName classes → AreArrays classes arrays → MisusedAt classes arrays refusal → RefusesNames classes refusal
refuses-misused classes arrays refusal differ marked at = inr (inl (record {
  differ = differ;
  arrays = arrays;
  marked = marked;
  first = at.first;
  rule = at.rule;
}))

pub ruleset arrays = (no-array, array-marks)

pub ruleset verdicts = (refuses-cycle, includes-right, refuses-repeated, refuses-misused)
