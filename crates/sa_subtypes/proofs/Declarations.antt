-- The edges of the relation and those that the classes declare as nodes are the same: each edge of the relation is spelled by the nodes of
-- one that is declared, at terms for its variables; and the nodes of each that is declared, at any terms, are read as an edge of the
-- relation.
use Rattle.std.proofs.Common.{◌≡◌, inl, inr, ◌≢◌, true≢false, ℕ, zero, suc, ◌<◌, Bool, true, false, cond, nat_eq, List, [], ◌∷◌, ◌++◌, Option, Some, None, length, flat_map, slice_get, refl, sym, ap, subst, ◌∙◌, arith}
use Rattle.std.proofs.lemmas.Bool.{eqb-true, eq-eqb}
use Rattle.std.proofs.lemmas.Option.{none-some, slice_get_within}
use Rattle.sa_ast.specs.declared.class.Class.{Class}
use Rattle.sa_ast.specs.declared.class.FlatClass.{FlatClass}
use Rattle.sa_ast.specs.declared.ty.Ty.{Ty}
use Rattle.sa_ast.specs.Types.{BareTy, Named, Same, Rout, Iter, BareTys, no_types, type, bare, all_bare}
use Rattle.sa_ast.proofs.BareTypes.{bare-Named}
use Rattle.sa_subst.specs.AtTypes.{own_type, at_instance}
use Rattle.sa_subst.specs.Substitution.{place_of}
use Rattle.sa_unify.specs.declared.pattern.Node.{Node}
use Rattle.sa_unify.specs.declared.pattern.Node.TheVariants as node
use Rattle.sa_unify.specs.Terms.{following, Values, AreTerms, substitute}
use Rattle.sa_unify.specs.Spelled.{count_types, read_type, read_types}
use Rattle.sa_unify.specs.Patterns.{pair_nodes, below_nodes, above_nodes, IsNamedIn, head_name}
use Rattle.sa_unify.specs.Numbers.{class_place}
use Rattle.sa_unify.specs.DeclaredEdges.{EdgeNodes, number_alone, class_number, edge_up, edge_down, edge_below, edge_above, edges_in, where_own, edges_at, edges_upto, declared_edges}
use Rattle.sa_subtypes.specs.Subtypes.{class_named, IsClass, IsClassIn, DeclaresBelow, DeclaresAbove, IsEdge}
use Rattle.sa_subtypes.proofs.ClassPlaces.{IsNumbered, named-numbered, numbered-named, place_of-within}
use Rattle.sa_unify.proofs.Dressed.{count-all_bare, dress_all, all_bare-dressed, length-dressed}
use Rattle.sa_subtypes.proofs.Instances.{bare-at_instance}
use Rattle.sa_subtypes.proofs.Members.{Among, among_left, among_right, among-append, among-contains, contains-among, among-flat_map, among_from-flat_map}
use Rattle.sa_unify.proofs.Owns.{readings, count-readings}
use Rattle.sa_unify.proofs.Patterns.{type_in, args_in, type_in-class, spelled_at, spelled_at-terms, substitute-below, substitute-above, ReadsAs, read-below, read-above}

same_number : (m n : ℕ) → Some m ≡ Some n → m ≡ n
same_number m n e = cc

same_class : (d c : Class) → Some d ≡ Some c → d ≡ c
same_class d c e = cc

-- ---- the indices of the edges among all

among-own : (number : Option ℕ) (k : ℕ) (e : EdgeNodes) (edges : List EdgeNodes) → number ≡ Some k → Among e edges → Among e (where_own number k edges)
among-own number k e edges h a =
    subst (λ n. Among e (where_own n k edges)) (sym h) (subst (λ b. Among e (cond b edges [])) (sym (eq-eqb k k refl)) a)

own-among : (number : Option ℕ) (k : ℕ) (e : EdgeNodes) (edges : List EdgeNodes) → Among e (where_own number k edges) → (number ≡ Some k) × Among e edges
own-among None k e edges a = absurd a
own-among (Some own) k e edges a = go (nat_eq own k) refl a
  where
    go : (b : Bool) → nat_eq own k ≡ b → Among e (cond b edges []) → (Some own ≡ Some k) × Among e edges
    go true h m = (ap Some (eqb-true own k h), m)
    go false h m = absurd m

before : (i m : ℕ) → i < suc m → nat_eq i m ≡ false → i < m
before i m l f = let apart : i ≢ m = λ e. true≢false (sym (eq-eqb i m e) ∙ f) in omega arith

among-upto : (number : List ℕ → Option ℕ) (classes : List Class) (n k : ℕ) (c : Class) (e : EdgeNodes) → k < n → slice_get classes k ≡ Some c → Among e (edges_at number k (Some c)) → Among e (edges_upto number classes n)
among-upto number classes zero k c e h there a = absurd (omega (arith, h))
among-upto number classes (suc n) k c e h there a = go (λ l. among-upto number classes n k c e l there a) (nat_eq k n) refl
  where
    go : (k < n → Among e (edges_upto number classes n)) → (b : Bool) → nat_eq k n ≡ b → Among e (edges_upto number classes (suc n))
    go earlier true same =
        among_right e (edges_upto number classes n) (edges_at number n (slice_get classes n)) (subst (λ m. Among e (edges_at number m (slice_get classes m))) (eqb-true k n same) (subst (λ o. Among e (edges_at number k o)) (sym there) a))
    go earlier false other = among_left e (edges_upto number classes n) (edges_at number n (slice_get classes n)) (earlier (before k n h other))

pub record IsPlaced (number : List ℕ → Option ℕ) (classes : List Class) (e : EdgeNodes) : Type 0 where
  pub at_place : ℕ
  pub by : Class
  pub there : slice_get classes at_place ≡ Some by
  pub has : Among e (edges_at number at_place (Some by))

upto-among : (number : List ℕ → Option ℕ) (classes : List Class) (n : ℕ) (e : EdgeNodes) → Among e (edges_upto number classes n) → IsPlaced number classes e
upto-among number classes zero e a = absurd a
upto-among number classes (suc n) e a =
    elim (among-append e (edges_upto number classes n) (edges_at number n (slice_get classes n)) a) [ inl h ↦ upto-among number classes n e h | inr h ↦ here (slice_get classes n) refl h ]
  where
    here : (o : Option Class) → slice_get classes n ≡ o → Among e (edges_at number n o) → IsPlaced number classes e
    here None there h = absurd h
    here (Some c) there h = record { at_place = n; by = c; there = there; has = h }

module _ (flat : FlatClass) where
  abbrev pub number_of : List ℕ → Option ℕ
  number_of = class_place flat.classes 0

  abbrev pub all_edges : List EdgeNodes
  all_edges = declared_edges number_of flat.classes

  -- ---- the class that a type of a header is

  module _ (c : Class) (own : ℕ) (numbered : IsNumbered flat.classes c.name.name own c) where
    within : (m : List ℕ) (k : ℕ) → place_of c.params 0 m ≡ Some k → k < length c.params
    within m k h = omega (arith, place_of-within c.params 0 m k h)

    -- a type that is a class: its number and the class
    record IsClassAt (v : BareTy) : Type 0 where
      number : ℕ
      class_is : class_number number_of (place_of c.params 0) own c.name.name (length c.params) v ≡ Some number
      of : Class
      there : slice_get flat.classes number ≡ Some of
      number_is : number_of of.name.name ≡ Some number
      named : of.name.name ≡ head_name (place_of c.params 0) c.name.name (length c.params) v
      is_named : IsNamedIn (place_of c.params 0) c.name.name (length c.params) v

    class-at : (v : BareTy) → IsClassIn flat c v → IsClassAt v
    class-at (Named other no_types) h =
        let r = named-numbered flat.classes other h.1.0 h.1.1 in
        record {
          number = r.0;
          class_is = ap (λ p. number_alone p (number_of other)) h.0 ∙ r.1.number;
          of = h.1.0;
          there = r.1.there;
          number_is = ap number_of r.1.named ∙ r.1.number;
          named = r.1.named;
          is_named = h.0;
        }
    class-at (Named other (type t more)) h =
        let r = named-numbered flat.classes other h.0 h.1 in
        record {
          number = r.0;
          class_is = r.1.number;
          of = h.0;
          there = r.1.there;
          number_is = ap number_of r.1.named ∙ r.1.number;
          named = r.1.named;
          is_named = tt;
        }
    class-at Same h = record {
      number = own;
      class_is = refl;
      of = c;
      there = numbered.there;
      number_is = numbered.number;
      named = refl;
      is_named = tt;
    }
    class-at (Rout args of) h = absurd h
    class-at (Iter args of) h = absurd h

    -- a type that has a number is a class
    class-in : (v : BareTy) (k : ℕ) → class_number number_of (place_of c.params 0) own c.name.name (length c.params) v ≡ Some k → IsClassIn flat c v
    class-in (Named other no_types) k h = go (place_of c.params 0 other) refl h
      where
        go : (p : Option ℕ) → place_of c.params 0 other ≡ p → number_alone p (number_of other) ≡ Some k → (place_of c.params 0 other ≡ None) × ((d : Class) × (class_named flat.classes other ≡ Some d))
        go None e f = let r = numbered-named flat.classes other k f in (e, (r.0, r.1))
        go (Some i) e f = absurd (none-some k f)
    class-in (Named other (type t more)) k h = let r = numbered-named flat.classes other k h in (r.0, r.1)
    class-in Same k h = tt
    class-in (Rout args of) k h = absurd (none-some k h)
    class-in (Iter args of) k h = absurd (none-some k h)

    -- ---- the types of an edge

    own-type : (given : List Ty) → bare (own_type c given) ≡ Named c.name.name (all_bare given)
    own-type given = bare-Named c.name.name given c.name.pos

    -- a type at an instance
    abbrev at_types : BareTys → BareTy → BareTy
    at_types given v = type_in (place_of c.params 0) c.name.name (length c.params) within given v

    instance-type : (given : List Ty) (u : Ty) → length given ≡ length c.params → bare (at_instance c given u) ≡ at_types (all_bare given) (bare u)
    instance-type given u count = bare-at_instance c given u within count

  -- ---- each edge of the relation is declared

  -- the nodes of an edge, at terms, spell two types, whose classes have the numbers of the edge
  pub record LeadsFrom (e : EdgeNodes) (s t : BareTy) : Type 0 where
    pub lower : Class
    pub lower_there : slice_get flat.classes e.0 ≡ Some lower
    pub lower_number : number_of lower.name.name ≡ Some e.0
    pub lower_args : BareTys
    pub lower_is : s ≡ Named lower.name.name lower_args
    pub upper : Class
    pub upper_there : slice_get flat.classes e.1 ≡ Some upper
    pub upper_number : number_of upper.name.name ≡ Some e.1
    pub upper_args : BareTys
    pub upper_is : t ≡ Named upper.name.name upper_args
    pub values : Values
    pub terms : AreTerms values
    pub spells : substitute values e.2 ≡ pair_nodes lower_args t

  pub record IsDeclared (s t : BareTy) : Type 0 where
    pub edge : EdgeNodes
    pub among : Among edge all_edges
    pub leads : LeadsFrom edge s t

  among-class : (c : Class) (own : ℕ) (numbered : IsNumbered flat.classes c.name.name own c) (e : EdgeNodes) → Among e (edges_in number_of (place_of c.params 0) own c.name.name (length c.params) c.below c.above) → Among e all_edges
  among-class c own numbered e a =
      among-upto number_of flat.classes (length flat.classes) own c e (slice_get_within flat.classes own c numbered.there) numbered.there
      (among-own (number_of c.name.name) own e (edges_in number_of (place_of c.params 0) own c.name.name (length c.params) c.below c.above) numbered.number a)

  edge-below : (c : Class) → IsClass flat c → (s t : BareTy) → DeclaresBelow flat c s t → IsDeclared s t
  edge-below c own_class s t d =
      let r = named-numbered flat.classes c.name.name c own_class in
      let place = place_of c.params 0 in
      let given = all_bare d.0 in
      let v = bare d.1 in
      let up = class-at c r.0 r.1 v d.4 in
      let count : count_types given ≡ length c.params = count-all_bare d.0 ∙ d.2 in
      let upper : t ≡ at_types c r.0 r.1 given v = d.6 ∙ instance-type c r.0 r.1 d.0 d.1 d.2 in
      let e : EdgeNodes = (r.0, up.number, below_nodes place c.name.name (length c.params) v) in
      let here : Among e (edge_below number_of place r.0 c.name.name (length c.params) v) = subst (λ o. Among e (edge_up number_of place r.0 c.name.name (length c.params) v o)) (sym up.class_is) (inl refl) in
      let below = λ (u : Ty). edge_below number_of place r.0 c.name.name (length c.params) (bare u) in
      let above = λ (u : Ty). edge_above number_of place r.0 c.name.name (length c.params) (bare u) in
      record {
        edge = e;
        among = among-class c r.0 r.1 e (among_left e (flat_map below c.below) (flat_map above c.above) (among-flat_map below c.below d.1 e (among-contains c.below d.1 d.3) here));
        leads = record {
          lower = c;
          lower_there = r.1.there;
          lower_number = r.1.number;
          lower_args = given;
          lower_is = d.5 ∙ own-type c r.0 r.1 d.0;
          upper = up.of;
          upper_there = up.there;
          upper_number = up.number_is;
          upper_args = args_in place c.name.name (length c.params) (within c r.0 r.1) given v;
          upper_is = upper ∙ type_in-class place c.name.name (length c.params) (within c r.0 r.1) given v up.is_named ∙ ap (λ m. Named m (args_in place c.name.name (length c.params) (within c r.0 r.1) given v)) (sym up.named);
          values = spelled_at place c.name.name (length c.params) (within c r.0 r.1) given count;
          terms = spelled_at-terms place c.name.name (length c.params) (within c r.0 r.1) given count;
          spells = substitute-below place c.name.name (length c.params) (within c r.0 r.1) given count v ∙ ap (pair_nodes given) (sym upper);
        };
      }

  edge-above : (c : Class) → IsClass flat c → (s t : BareTy) → DeclaresAbove flat c s t → IsDeclared s t
  edge-above c own_class s t d =
      let r = named-numbered flat.classes c.name.name c own_class in
      let place = place_of c.params 0 in
      let given = all_bare d.0 in
      let v = bare d.1 in
      let low = class-at c r.0 r.1 v d.4 in
      let count : count_types given ≡ length c.params = count-all_bare d.0 ∙ d.2 in
      let args = args_in place c.name.name (length c.params) (within c r.0 r.1) given v in
      let upper : t ≡ Named c.name.name given = d.6 ∙ own-type c r.0 r.1 d.0 in
      let e : EdgeNodes = (low.number, r.0, above_nodes place c.name.name (length c.params) v) in
      let here : Among e (edge_above number_of place r.0 c.name.name (length c.params) v) = subst (λ o. Among e (edge_down number_of place r.0 c.name.name (length c.params) v o)) (sym low.class_is) (inl refl) in
      let below = λ (u : Ty). edge_below number_of place r.0 c.name.name (length c.params) (bare u) in
      let above = λ (u : Ty). edge_above number_of place r.0 c.name.name (length c.params) (bare u) in
      record {
        edge = e;
        among = among-class c r.0 r.1 e (among_right e (flat_map below c.below) (flat_map above c.above) (among-flat_map above c.above d.1 e (among-contains c.above d.1 d.3) here));
        leads = record {
          lower = low.of;
          lower_there = low.there;
          lower_number = low.number_is;
          lower_args = args;
          lower_is = d.5 ∙ instance-type c r.0 r.1 d.0 d.1 d.2 ∙ type_in-class place c.name.name (length c.params) (within c r.0 r.1) given v low.is_named ∙ ap (λ m. Named m args) (sym low.named);
          upper = c;
          upper_there = r.1.there;
          upper_number = r.1.number;
          upper_args = given;
          upper_is = upper;
          values = spelled_at place c.name.name (length c.params) (within c r.0 r.1) given count;
          terms = spelled_at-terms place c.name.name (length c.params) (within c r.0 r.1) given count;
          spells = substitute-above place c.name.name (length c.params) (within c r.0 r.1) given count v low.is_named ∙ ap (pair_nodes args) (sym upper);
        };
      }

  pub edge-declared : (s t : BareTy) → IsEdge flat s t → IsDeclared s t
  edge-declared s t h = elim h.2 [ inl d ↦ edge-below h.0 h.1 s t d | inr d ↦ edge-above h.0 h.1 s t d ]

  -- ---- each declared edge is one of the relation

  -- the nodes of an edge, which are the list of n terms and a term, are read as an edge of the relation between types whose classes
  -- have the numbers of the edge
  pub record IsReadAs (e : EdgeNodes) (n : ℕ) (l x : List Node) : Type 0 where
    pub lower : Class
    pub lower_there : slice_get flat.classes e.0 ≡ Some lower
    pub upper : Class
    pub upper_there : slice_get flat.classes e.1 ≡ Some upper
    pub upper_args : BareTys
    pub upper_is : read_type x ≡ Named upper.name.name upper_args
    pub is_edge : IsEdge flat (Named lower.name.name (read_types l n)) (read_type x)

  module _ (c : Class) (own : ℕ) (numbered : IsNumbered flat.classes c.name.name own c) (own_class : IsClass flat c) (values : Values) (terms : AreTerms values) where
    -- the types of the instance at what is read of the terms
    given : List Ty
    given = dress_all c.name.pos (readings values (length c.params))

    bare-given : all_bare given ≡ readings values (length c.params)
    unfolding given
    bare-given = all_bare-dressed c.name.pos (readings values (length c.params))

    length-given : length given ≡ length c.params
    unfolding given
    length-given = length-dressed c.name.pos (readings values (length c.params)) ∙ count-readings values (length c.params)

    own-given : Named c.name.name (readings values (length c.params)) ≡ bare (own_type c given)
    own-given = ap (Named c.name.name) (sym bare-given) ∙ sym (own-type c own numbered given)

    instance-given : (u : Ty) → at_types c own numbered (readings values (length c.params)) (bare u) ≡ bare (at_instance c given u)
    instance-given u = ap (λ g. at_types c own numbered g (bare u)) (sym bare-given) ∙ sym (instance-type c own numbered given u length-given)

    number-at : (v : BareTy) (k : ℕ) (at_class : IsClassAt c own numbered v) → class_number number_of (place_of c.params 0) own c.name.name (length c.params) v ≡ Some k → slice_get flat.classes k ≡ Some at_class.of
    number-at v k at_class h = ap (slice_get flat.classes) (same_number k at_class.number (sym h ∙ at_class.class_is)) ∙ at_class.there

    from-up : (u : Ty) → Among u c.below → (e : EdgeNodes) (n : ℕ) (l x : List Node) → following l n ≡ Some [] → substitute values e.2 ≡ node.List n ∷ l ++ x → (k : ℕ) → class_number number_of (place_of c.params 0) own c.name.name (length c.params) (bare u) ≡ Some k → (own, k, below_nodes (place_of c.params 0) c.name.name (length c.params) (bare u)) ≡ e → IsReadAs e n l x
    from-up u a e n l x h nodes k is same =
        let v = bare u in
        let place = place_of c.params 0 in
        let inside = class-in c own numbered v k is in
        let up = class-at c own numbered v inside in
        let reads : ReadsAs place c.name.name (length c.params) (within c own numbered) values terms n l x (readings values (length c.params)) (at_types c own numbered (readings values (length c.params)) v) = read-below place c.name.name (length c.params) (within c own numbered) values terms v n l x h (ap (λ p. substitute values p.2) same ∙ nodes) in
        record {
          lower = c;
          lower_there = ap (λ p. slice_get flat.classes p.0) (sym same) ∙ numbered.there;
          upper = up.of;
          upper_there = ap (λ p. slice_get flat.classes p.1) (sym same) ∙ number-at v k up is;
          upper_args = args_in place c.name.name (length c.params) (within c own numbered) (readings values (length c.params)) v;
          upper_is = reads.upper ∙ type_in-class place c.name.name (length c.params) (within c own numbered) (readings values (length c.params)) v up.is_named ∙ ap (λ m. Named m (args_in place c.name.name (length c.params) (within c own numbered) (readings values (length c.params)) v)) (sym up.named);
          is_edge = (c, own_class, inl (given, u, length-given, contains-among c.below u a, inside, ap (Named c.name.name) reads.lower ∙ own-given, reads.upper ∙ instance-given u));
        }

    from-down : (u : Ty) → Among u c.above → (e : EdgeNodes) (n : ℕ) (l x : List Node) → following l n ≡ Some [] → substitute values e.2 ≡ node.List n ∷ l ++ x → (k : ℕ) → class_number number_of (place_of c.params 0) own c.name.name (length c.params) (bare u) ≡ Some k → (k, own, above_nodes (place_of c.params 0) c.name.name (length c.params) (bare u)) ≡ e → IsReadAs e n l x
    from-down u a e n l x h nodes k is same =
        let v = bare u in
        let place = place_of c.params 0 in
        let inside = class-in c own numbered v k is in
        let low = class-at c own numbered v inside in
        let args = args_in place c.name.name (length c.params) (within c own numbered) (readings values (length c.params)) v in
        let reads : ReadsAs place c.name.name (length c.params) (within c own numbered) values terms n l x args (Named c.name.name (readings values (length c.params))) = read-above place c.name.name (length c.params) (within c own numbered) values terms v n l x low.is_named h (ap (λ p. substitute values p.2) same ∙ nodes) in
        let lower : Named low.of.name.name (read_types l n) ≡ bare (at_instance c given u) = ap (Named low.of.name.name) reads.lower ∙ ap (λ m. Named m args) low.named ∙ sym (type_in-class place c.name.name (length c.params) (within c own numbered) (readings values (length c.params)) v low.is_named) ∙ instance-given u in
        record {
          lower = low.of;
          lower_there = ap (λ p. slice_get flat.classes p.0) (sym same) ∙ number-at v k low is;
          upper = c;
          upper_there = ap (λ p. slice_get flat.classes p.1) (sym same) ∙ numbered.there;
          upper_args = readings values (length c.params);
          upper_is = reads.upper;
          is_edge = (c, own_class, inr (given, u, length-given, contains-among c.above u a, inside, lower, reads.upper ∙ own-given));
        }

    from-below : (e : EdgeNodes) (n : ℕ) (l x : List Node) → following l n ≡ Some [] → substitute values e.2 ≡ node.List n ∷ l ++ x → (u : Ty) → Among u c.below → Among e (edge_below number_of (place_of c.params 0) own c.name.name (length c.params) (bare u)) → IsReadAs e n l x
    from-below e n l x h nodes u a b = go (class_number number_of (place_of c.params 0) own c.name.name (length c.params) (bare u)) refl b
      where
        go : (o : Option ℕ) → class_number number_of (place_of c.params 0) own c.name.name (length c.params) (bare u) ≡ o → Among e (edge_up number_of (place_of c.params 0) own c.name.name (length c.params) (bare u) o) → IsReadAs e n l x
        go None is m = absurd m
        go (Some k) is (inl same) = from-up u a e n l x h nodes k is same
        go (Some k) is (inr m) = absurd m

    from-above : (e : EdgeNodes) (n : ℕ) (l x : List Node) → following l n ≡ Some [] → substitute values e.2 ≡ node.List n ∷ l ++ x → (u : Ty) → Among u c.above → Among e (edge_above number_of (place_of c.params 0) own c.name.name (length c.params) (bare u)) → IsReadAs e n l x
    from-above e n l x h nodes u a b = go (class_number number_of (place_of c.params 0) own c.name.name (length c.params) (bare u)) refl b
      where
        go : (o : Option ℕ) → class_number number_of (place_of c.params 0) own c.name.name (length c.params) (bare u) ≡ o → Among e (edge_down number_of (place_of c.params 0) own c.name.name (length c.params) (bare u) o) → IsReadAs e n l x
        go None is m = absurd m
        go (Some k) is (inl same) = from-down u a e n l x h nodes k is same
        go (Some k) is (inr m) = absurd m

    from-class : (e : EdgeNodes) (n : ℕ) (l x : List Node) → following l n ≡ Some [] → substitute values e.2 ≡ node.List n ∷ l ++ x → Among e (edges_in number_of (place_of c.params 0) own c.name.name (length c.params) c.below c.above) → IsReadAs e n l x
    from-class e n l x h nodes m =
        let below = λ (u : Ty). edge_below number_of (place_of c.params 0) own c.name.name (length c.params) (bare u) in
        let above = λ (u : Ty). edge_above number_of (place_of c.params 0) own c.name.name (length c.params) (bare u) in
        elim (among-append e (flat_map below c.below) (flat_map above c.above) m) [
          | inl b ↦ (let f = among_from-flat_map below c.below e b in from-below e n l x h nodes f.0 f.1 f.2)
          | inr b ↦ (let f = among_from-flat_map above c.above e b in from-above e n l x h nodes f.0 f.1 f.2)
        ]

  pub declared-edge : (e : EdgeNodes) → Among e all_edges → (values : Values) → AreTerms values → (n : ℕ) (l x : List Node) → following l n ≡ Some [] → substitute values e.2 ≡ node.List n ∷ l ++ x → IsReadAs e n l x
  declared-edge e a values terms n l x h nodes =
      let p = upto-among number_of flat.classes (length flat.classes) e a in
      let c = p.by in
      let o = own-among (number_of c.name.name) p.at_place e (edges_in number_of (place_of c.params 0) p.at_place c.name.name (length c.params) c.below c.above) p.has in
      let q = numbered-named flat.classes c.name.name p.at_place o.0 in
      let same : q.0 ≡ c = same_class q.0 c (sym q.2.there ∙ p.there) in
      let own_class : IsClass flat c = q.1 ∙ ap Some same in
      let numbered : IsNumbered flat.classes c.name.name p.at_place c = record { number = o.0; there = p.there; named = refl } in
      from-class c p.at_place numbered own_class values terms e n l x h nodes o.1
