-- An instance of the nodes of a declared edge between two classes, with the arguments of both, is an edge of the relation between the
-- types that these are; and each edge of the relation is such an instance.
use Rattle.std.proofs.Common.{◌≡◌, ℕ, List, [], ◌∷◌, ◌++◌, Some, slice_get, refl, sym, ap, subst, ◌∙◌}
use Rattle.sa_ast.specs.declared.class.Class.{Class}
use Rattle.sa_ast.specs.declared.class.FlatClass.{FlatClass}
use Rattle.sa_ast.specs.Types.{BareTy, Named, BareTys}
use Rattle.sa_unify.specs.declared.pattern.Node.{Node}
use Rattle.sa_unify.specs.declared.pattern.Node.TheVariants as node
use Rattle.sa_unify.specs.Terms.{following, Values, AreTerms, substitute}
use Rattle.sa_unify.specs.Spelled.{count_types, spelled, spelled_all, type_of, first_item, read_type, read_types}
use Rattle.sa_unify.specs.DeclaredEdges.{EdgeNodes}
use Rattle.sa_subtypes.specs.Subtypes.{IsEdge}
use Rattle.sa_subtypes.proofs.Declarations.{number_of, all_edges, edge-declared, declared-edge}
use Rattle.sa_subtypes.proofs.Members.{Among}
use Rattle.sa_unify.proofs.Owns.{spelled-Named}
use Rattle.sa_unify.proofs.Readings.{read-node}

same_name : (name other : List ℕ) (ts us : BareTys) → Named name ts ≡ Named other us → name ≡ other
same_name name other ts us e = cc

pub read-Class : (name : List ℕ) (count : ℕ) (args : List Node) → following args count ≡ Some [] → read_type (node.Class name count ∷ args) ≡ Named name (read_types args count)
read-Class name count args h = ap (λ l. type_of (first_item l)) (read-node (node.Class name count) args h)

module _ (flat : FlatClass) where
  -- the nodes of an edge between the classes with these numbers become this
  pub record Declares (lower upper : ℕ) (instance : List Node) : Type 0 where
    pub edge : EdgeNodes
    pub among : Among edge (all_edges flat)
    pub lower_is : edge.0 ≡ lower
    pub upper_is : edge.1 ≡ upper
    pub values : Values
    pub terms : AreTerms values
    pub to : substitute values edge.2 ≡ instance

  -- the classes with these numbers have an edge at these arguments, and the supertype's class has this name
  pub record IsEdgeAt (lower upper : ℕ) (name : List ℕ) (args above : BareTys) : Type 0 where
    pub lower_class : Class
    pub lower_there : slice_get flat.classes lower ≡ Some lower_class
    pub upper_class : Class
    pub upper_there : slice_get flat.classes upper ≡ Some upper_class
    pub named : upper_class.name.name ≡ name
    pub is_edge : IsEdge flat (Named lower_class.name.name args) (Named name above)

  pub declares-edge : (lower upper n m : ℕ) (args above : List Node) (name : List ℕ) → following args n ≡ Some [] → following above m ≡ Some [] → Declares lower upper (node.List n ∷ args ++ node.Class name m ∷ above) → IsEdgeAt lower upper name (read_types args n) (read_types above m)
  declares-edge lower upper n m args above name h k d =
      let r = declared-edge flat d.edge d.among d.values d.terms n args (node.Class name m ∷ above) h d.to in
      let is : read_type (node.Class name m ∷ above) ≡ Named name (read_types above m) = read-Class name m above k in
      record {
        lower_class = r.lower;
        lower_there = ap (slice_get flat.classes) (sym d.lower_is) ∙ r.lower_there;
        upper_class = r.upper;
        upper_there = ap (slice_get flat.classes) (sym d.upper_is) ∙ r.upper_there;
        named = same_name r.upper.name.name name r.upper_args (read_types above m) (sym r.upper_is ∙ is);
        is_edge = subst (λ t. IsEdge flat (Named r.lower.name.name (read_types args n)) t) is r.is_edge;
      }

  -- an edge of the relation: its two types, and the declared edge that it is an instance of
  pub record IsDeclaredAt (s t : BareTy) : Type 0 where
    pub lower : ℕ
    pub upper : ℕ
    pub lower_class : Class
    pub lower_there : slice_get flat.classes lower ≡ Some lower_class
    pub lower_number : number_of flat lower_class.name.name ≡ Some lower
    pub upper_class : Class
    pub upper_there : slice_get flat.classes upper ≡ Some upper_class
    pub upper_number : number_of flat upper_class.name.name ≡ Some upper
    pub args : BareTys
    pub above : BareTys
    pub lower_is : s ≡ Named lower_class.name.name args
    pub upper_is : t ≡ Named upper_class.name.name above
    pub declares : Declares lower upper (node.List (count_types args) ∷ spelled_all args ++ node.Class upper_class.name.name (count_types above) ∷ spelled_all above)

  pub edge-declares : (s t : BareTy) → IsEdge flat s t → IsDeclaredAt s t
  edge-declares s t h =
      let d = edge-declared flat s t h in
      let args = d.leads.lower_args in
      record {
        lower = d.edge.0;
        upper = d.edge.1;
        lower_class = d.leads.lower;
        lower_there = d.leads.lower_there;
        lower_number = d.leads.lower_number;
        upper_class = d.leads.upper;
        upper_there = d.leads.upper_there;
        upper_number = d.leads.upper_number;
        args = args;
        above = d.leads.upper_args;
        lower_is = d.leads.lower_is;
        upper_is = d.leads.upper_is;
        declares = record {
          edge = d.edge;
          among = d.among;
          lower_is = refl;
          upper_is = refl;
          values = d.leads.values;
          terms = d.leads.terms;
          to = d.leads.spells ∙ ap (λ l. node.List (count_types args) ∷ spelled_all args ++ l) (ap spelled d.leads.upper_is ∙ spelled-Named d.leads.upper.name.name d.leads.upper_args);
        };
      }
