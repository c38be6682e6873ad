-- Chains of declared edges between terms. Edges of the relation lead from one type to another if declared edges lead from the term of the
-- one to that of the other: whatever the terms between are, they are read as types.
use Rattle.std.proofs.Common.{◌≡◌, ℕ, List, [], ◌∷◌, ◌++◌, Some, slice_get, sym, ap, subst, ◌∙◌}
use Rattle.sa_ast.specs.declared.class.Class.{Class}
use Rattle.sa_ast.specs.declared.class.FlatClass.{FlatClass}
use Rattle.sa_ast.specs.Types.{BareTy, Named}
use Rattle.sa_unify.specs.declared.pattern.Node.{Node}
use Rattle.sa_unify.specs.declared.pattern.Node.TheVariants as node
use Rattle.sa_unify.specs.Terms.{following, Values, AreTerms, substitute}
use Rattle.sa_unify.specs.Spelled.{count_types, spelled, spelled_all, type_of, first_item, read_type, read_types}
use Rattle.sa_unify.specs.DeclaredEdges.{EdgeNodes}
use Rattle.sa_subtypes.specs.Subtypes.{IsEdge}
use Rattle.sa_subtypes.proofs.Chains.{IsNamed, Chain, here, step}
use Rattle.sa_subtypes.proofs.Declarations.{all_edges, edge-declared, declared-edge}
use Rattle.sa_subtypes.proofs.Members.{Among}
use Rattle.sa_unify.proofs.Owns.{spelled-Named}
use Rattle.sa_unify.proofs.Readings.{read-node}
use Rattle.sa_unify.proofs.Spelling.{spelled_all-terms, read-spelled}

-- edges lead from one term to another, over none or more terms between them
pub data TermChain (Edge : List Node → List Node → Type 0) : List Node → List Node → Type 0 where
  at_end : {w : List Node} → TermChain Edge w w
  by_edge : {w x y : List Node} → Edge w x → TermChain Edge x y → TermChain Edge w y

same_class : (d c : Class) → Some d ≡ Some c → d ≡ c
same_class d c e = cc

module _ (flat : FlatClass) where
  -- the nodes of a declared edge at terms, for a term of the edge's subtype
  pub record IsTermEdge (w x : List Node) : Type 0 where
    pub edge : EdgeNodes
    pub among : Among edge (all_edges flat)
    pub lower : Class
    pub lower_there : slice_get flat.classes edge.0 ≡ Some lower
    pub count : ℕ
    pub args : List Node
    pub args_terms : following args count ≡ Some []
    pub from : w ≡ node.Class lower.name.name count ∷ args
    pub values : Values
    pub terms : AreTerms values
    pub to : substitute values edge.2 ≡ node.List count ∷ args ++ x

  pub edge-term : (s t : BareTy) → IsEdge flat s t → IsTermEdge (spelled s) (spelled t)
  edge-term s t h =
      let d = edge-declared flat s t h in
      record {
        edge = d.edge;
        among = d.among;
        lower = d.leads.lower;
        lower_there = d.leads.lower_there;
        count = count_types d.leads.lower_args;
        args = spelled_all d.leads.lower_args;
        args_terms = spelled_all-terms d.leads.lower_args;
        from = ap spelled d.leads.lower_is ∙ spelled-Named d.leads.lower.name.name d.leads.lower_args;
        values = d.leads.values;
        terms = d.leads.terms;
        to = d.leads.spells;
      }

  -- both ends of an edge are classes
  pub edge-named : (s t : BareTy) → IsEdge flat s t → IsNamed s × IsNamed t
  edge-named s t h = let d = edge-declared flat s t h in (subst IsNamed (sym d.leads.lower_is) tt, subst IsNamed (sym d.leads.upper_is) tt)

  pub term-edge : (w x : List Node) → IsTermEdge w x → IsEdge flat (read_type w) (read_type x)
  term-edge w x h =
      let r = declared-edge flat h.edge h.among h.values h.terms h.count h.args x h.args_terms h.to in
      let same : r.lower ≡ h.lower = same_class r.lower h.lower (sym r.lower_there ∙ h.lower_there) in
      let lower : Named r.lower.name.name (read_types h.args h.count) ≡ read_type w = ap (λ c. Named c.name.name (read_types h.args h.count)) same ∙ sym (ap read_type h.from ∙ ap (λ l. type_of (first_item l)) (read-node (node.Class h.lower.name.name h.count) h.args h.args_terms)) in
      subst (λ s. IsEdge flat s (read_type x)) lower r.is_edge

  pub chain-terms : {s t : BareTy} → Chain (IsEdge flat) s t → TermChain IsTermEdge (spelled s) (spelled t)
  chain-terms here = at_end
  chain-terms (step {s = s} {t = t} e h) = by_edge (edge-term s t e) (chain-terms h)

  pub terms-chain : {w x : List Node} → TermChain IsTermEdge w x → Chain (IsEdge flat) (read_type w) (read_type x)
  terms-chain at_end = here
  terms-chain (by_edge {w = w} {x = x} e h) = step (term-edge w x e) (terms-chain h)

  -- edges lead from one type to another exactly if declared edges lead from term to term
  pub spelled-chain : (s t : BareTy) → TermChain IsTermEdge (spelled s) (spelled t) → Chain (IsEdge flat) s t
  spelled-chain s t h =
      subst (λ u. Chain (IsEdge flat) u t) (read-spelled s) (subst (λ u. Chain (IsEdge flat) (read_type (spelled s)) u) (read-spelled t) (terms-chain h))
