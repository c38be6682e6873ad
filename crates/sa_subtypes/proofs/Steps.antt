-- The edges of the tables are the edges of the relation: one or more edges of the tables lead from a class at the terms of its arguments
-- to another exactly if edges of the relation lead from type to type.
use Rattle.std.proofs.Common.{◌≡◌, ◌⊎◌, inl, inr, ℕ, List, Some, slice_get, refl, sym, ap, subst, ◌∙◌}
use Rattle.sa_ast.specs.declared.class.Class.{Class}
use Rattle.sa_ast.specs.declared.class.FlatClass.{FlatClass}
use Rattle.sa_ast.specs.Types.{BareTy, Named, BareTys}
use Rattle.sa_unify.specs.declared.declared.Edge.{Edge}
use Rattle.sa_unify.specs.Spelled.{count_types, spelled_all, read_types}
use Rattle.sa_unify.specs.DeclaredEdges.{EdgeNodes}
use Rattle.sa_hierarchy.specs.Kept.{IsEdgeOf}
use Rattle.sa_hierarchy.specs.Hierarchies.{Tables, At, class_at, pair_of, Step, Leads, by_edge, by_edges}
use Rattle.sa_subtypes.specs.Subtypes.{IsEdge}
use Rattle.sa_subtypes.proofs.Chains.{Chain, here, step}
use Rattle.sa_subtypes.proofs.Declarations.{number_of, all_edges}
use Rattle.sa_subtypes.proofs.EdgeInstances.{Declares, declares-edge, edge-declares}
use Rattle.sa_subtypes.proofs.Members.{Among}
use Rattle.sa_unify.proofs.Spelling.{spelled_all-terms, read-spelled_all}

same_number : (m n : ℕ) → Some m ≡ Some n → m ≡ n
same_number m n e = cc

named_names : (name other : List ℕ) (ts us : BareTys) → Named name ts ≡ Named other us → name ≡ other
named_names name other ts us e = cc

named_types : (name other : List ℕ) (ts us : BareTys) → Named name ts ≡ Named other us → ts ≡ us
named_types name other ts us e = cc

module _ (flat : FlatClass) (w : Tables) where
  -- the edges of the tables are those that the classes declare
  pub record AreEdges : Type 0 where
    pub listed : (number : ℕ) (edge : Edge) → slice_get w.edges number ≡ Some edge → (e : EdgeNodes) × Among e (all_edges flat) × IsEdgeOf w edge e
    pub each : (e : EdgeNodes) → Among e (all_edges flat) → (number : ℕ) × (edge : Edge) × (slice_get w.edges number ≡ Some edge) × IsEdgeOf w edge e
    pub names : (k : ℕ) (c : Class) → slice_get flat.classes k ≡ Some c → w.name k ≡ c.name.name

  -- what a class is at arguments, read as types
  abbrev pub read_at : At → BareTy
  read_at s = Named (w.name s.class) (read_types s.args s.count)

  -- a type is the class with this number at the terms of its arguments
  pub record IsAtType (t : BareTy) (a : At) : Type 0 where
    pub name : List ℕ
    pub types : BareTys
    pub is : t ≡ Named name types
    pub number : number_of flat name ≡ Some a.class
    pub count : a.count ≡ count_types types
    pub args : a.args ≡ spelled_all types

  -- a type is so in one way
  pub one-at : (t : BareTy) (a b : At) → IsAtType t a → IsAtType t b → a ≡ b
  one-at t a b h k =
      let both : Named h.name h.types ≡ Named k.name k.types = sym h.is ∙ k.is in
      let names : h.name ≡ k.name = named_names h.name k.name h.types k.types both in
      let types : h.types ≡ k.types = named_types h.name k.name h.types k.types both in
      let class : a.class ≡ b.class = same_number a.class b.class (sym h.number ∙ ap (number_of flat) names ∙ k.number) in
      let count : a.count ≡ b.count = h.count ∙ ap count_types types ∙ sym k.count in
      let args : a.args ≡ b.args = h.args ∙ ap spelled_all types ∙ sym k.args in
      ap (λ c. class_at c a.count a.args) class ∙ ap (λ n. class_at b.class n a.args) count ∙ ap (class_at b.class b.count) args

  module _ (are : AreEdges) where
    -- ---- from the tables to the relation

    pub step-edge : (s t : At) → Step w s t → IsEdge flat (read_at s) (read_at t)
    step-edge s t h =
        let l = are.listed h.number h.edge h.declared in
        let i = (l.2.nodes.same (pair_of s.count s.args (w.name t.class) t.count t.args)).1 h.instance in
        let d : Declares flat s.class t.class (pair_of s.count s.args (w.name t.class) t.count t.args) = record {
          edge = l.0;
          among = l.1;
          lower_is = sym l.2.lower ∙ h.begins;
          upper_is = sym l.2.upper ∙ h.ends;
          values = i.0;
          terms = i.1;
          to = i.2;
        } in
        let r = declares-edge flat s.class t.class s.count t.count s.args t.args (w.name t.class) h.given h.gives d in
        subst (λ m. IsEdge flat (Named m (read_types s.args s.count)) (read_at t)) (sym (are.names s.class r.lower_class r.lower_there)) r.is_edge

    pub leads-chain : {s t : At} → Leads w s t → Chain (IsEdge flat) (read_at s) (read_at t)
    leads-chain (by_edge {s = s} {t = t} h) = step (step-edge s t h) here
    leads-chain (by_edges {s = s} {t = t} h k) = step (step-edge s t h) (leads-chain k)

    -- ---- from the relation to the tables

    pub record HasStep (s t : BareTy) : Type 0 where
      pub lower : At
      pub upper : At
      pub lower_is : IsAtType s lower
      pub upper_is : IsAtType t upper
      pub steps : Step w lower upper

    pub edge-step : (s t : BareTy) → IsEdge flat s t → HasStep s t
    edge-step s t h =
        let d = edge-declares flat s t h in
        let e = are.each d.declares.edge d.declares.among in
        let upper_name : d.upper_class.name.name ≡ w.name d.upper = sym (are.names d.upper d.upper_class d.upper_there) in
        let instance = (e.3.nodes.same (pair_of (count_types d.args) (spelled_all d.args) d.upper_class.name.name (count_types d.above) (spelled_all d.above))).0 (d.declares.values, d.declares.terms, d.declares.to) in
        record {
          lower = class_at d.lower (count_types d.args) (spelled_all d.args);
          upper = class_at d.upper (count_types d.above) (spelled_all d.above);
          lower_is = record { name = d.lower_class.name.name; types = d.args; is = d.lower_is; number = d.lower_number; count = refl; args = refl };
          upper_is = record { name = d.upper_class.name.name; types = d.above; is = d.upper_is; number = d.upper_number; count = refl; args = refl };
          steps = record {
            number = e.0;
            edge = e.1;
            declared = e.2;
            begins = e.3.lower ∙ d.declares.lower_is;
            ends = e.3.upper ∙ d.declares.upper_is;
            given = spelled_all-terms d.args;
            gives = spelled_all-terms d.above;
            instance = (instance.0, instance.1, instance.2 ∙ ap (λ m. pair_of (count_types d.args) (spelled_all d.args) m (count_types d.above) (spelled_all d.above)) upper_name);
          };
        }

    -- one or more edges lead from a type to another
    pub record HasLeads (s t : BareTy) : Type 0 where
      pub lower : At
      pub upper : At
      pub lower_is : IsAtType s lower
      pub upper_is : IsAtType t upper
      pub leads : Leads w lower upper

    more : (s t u : BareTy) → HasStep s t → (t ≡ u) ⊎ HasLeads t u → HasLeads s u
    more s t u h (inl e) = record {
      lower = h.lower;
      upper = h.upper;
      lower_is = h.lower_is;
      upper_is = subst (λ x. IsAtType x h.upper) e h.upper_is;
      leads = by_edge h.steps;
    }
    more s t u h (inr k) =
        let same : h.upper ≡ k.lower = one-at t h.upper k.lower h.upper_is k.lower_is in
        record {
          lower = h.lower;
          upper = k.upper;
          lower_is = h.lower_is;
          upper_is = k.upper_is;
          leads = by_edges (subst (λ a. Step w h.lower a) same h.steps) k.leads;
        }

    pub chain-leads : {s t : BareTy} → Chain (IsEdge flat) s t → (s ≡ t) ⊎ HasLeads s t
    chain-leads here = inl refl
    chain-leads (step {s = s} {t = t} {u = u} e h) = inr (more s t u (edge-step s t e) (chain-leads h))

    -- a type that is a class at terms is what is read of them
    pub read-at : (t : BareTy) (a : At) (c : Class) → slice_get flat.classes a.class ≡ Some c → (k : IsAtType t a) → c.name.name ≡ k.name → read_at a ≡ t
    read-at t a c there k named =
        ap (λ m. Named m (read_types a.args a.count)) (are.names a.class c there ∙ named)
        ∙ ap (λ l. Named k.name (read_types l a.count)) k.args
        ∙ ap (λ n. Named k.name (read_types (spelled_all k.types) n)) k.count
        ∙ ap (Named k.name) (read-spelled_all k.types)
        ∙ sym k.is
