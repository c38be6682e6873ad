-- What the edges of a program answer is the subtype relation of the program.
use Rattle.std.proofs.Common.{◌≡◌, ◌⊎◌, inl, inr, ℕ, zero, suc, ◌<◌, ◌≤◌, true, false, true≢false, List, [], ◌∷◌, length, map, get_or, Option, Some, None, slice_get, refl, sym, ap, subst, ◌∙◌, arith}
use Rattle.std.specs.Prelude.{◌↔◌}
use Rattle.std.specs.Option.{option_map}
use Rattle.std.proofs.Math.Path.{fun_ext}
use Rattle.std.proofs.lemmas.Option.{none-some, slice_get_cases, slice_get_within}
use Rattle.sa_ast.specs.declared.class.Class.{Class}
use Rattle.sa_ast.specs.declared.class.FlatClass.{FlatClass}
use Rattle.sa_ast.specs.Types.{BareTy, Named, Same, Rout, Iter, BareTys, no_types, type, bare, bare_tys}
use Rattle.sa_ast.specs.TypeEquality.{same_type, same_type_Decides}
use Rattle.sa_unify.specs.declared.declared.Edge.{Edge}
use Rattle.sa_subtypes.specs.declared.edges.SubtypeRelation.{SubtypeRelation}
use Rattle.sa_hierarchy.specs.declared.class_hierarchy.Hierarchy.{Hierarchy}
use Rattle.sa_unify.specs.declared.names.Names.{Names}
use Rattle.sa_unify.specs.declared.written.WrittenEdge.{WrittenEdge}
use Rattle.sa_subtypes.specs.SubtypeTest.{class_in, leads_in, climbs_in, tops_in, immutable_in, AreSubtypesOf}
use Rattle.sa_subtypes.specs.Bounds.{holds}
use Rattle.sa_subtypes.specs.Deciding.{found_between, types_in}
use Rattle.sa_unify.specs.DeclaredEdges.{EdgeNodes, edge_of, seen, declared_edges}
use Rattle.sa_hierarchy.specs.Kept.{IsEdgeOf, AreWritten}
use Rattle.sa_hierarchy.specs.Hierarchies.{Tables, At, class_at, AreArgs, AreTried, IsFound, tables}
use Rattle.sa_unify.specs.Numbers.{AreNamesOf, number_in}
use Rattle.sa_unify.specs.Spelled.{count_types, spelled_all}
use Rattle.sa_unify.specs.Terms.{following}
use Rattle.sa_subtypes.specs.Subtypes.{IsEdge, Sub, is_immutable_type, top}
use Rattle.sa_subtypes.proofs.Bounds.{holds-exact}
use Rattle.sa_hierarchy.proofs.Tests.{or-cases, or_first, or_second}
use Rattle.sa_subtypes.proofs.Chains.{Chain, here, Below, below-sub, sub-below}
use Rattle.sa_subtypes.proofs.ClassFacts.{name-is, kind-immutable}
use Rattle.sa_subtypes.proofs.ClassPlaces.{numbered-named}
use Rattle.sa_subtypes.proofs.Deciding.{at_types, counts-length, found-decides}
use Rattle.sa_subtypes.proofs.Declarations.{number_of, all_edges}
use Rattle.sa_hierarchy.proofs.Lineages.{leads-found, found-leads}
use Rattle.sa_subtypes.proofs.Members.{Among, among-at}
use Rattle.sa_unify.proofs.Spelling.{spelled_all-terms}
use Rattle.sa_subtypes.proofs.Steps.{AreEdges, IsAtType, HasLeads, read_at, read-at, leads-chain, chain-leads}
use Rattle.sa_subtypes.proofs.TermChains.{edge-named}

-- ---- lists

some_items : {A : Type 0} (a b : A) → Some a ≡ Some b → a ≡ b
some_items a b e = cc

slice_get-among : {A : Type 0} (xs : List A) (k : ℕ) (x : A) → slice_get xs k ≡ Some x → Among x xs
slice_get-among {A = A} xs k x is = go (slice_get_cases xs k).1
  where
    go : ((y : A) × (k < length xs) × (slice_get xs k ≡ Some y) × (get_or xs k y ≡ y)) ⊎ ((length xs ≤ k) × (slice_get xs k ≡ None)) → Among x xs
    go (inl found) = among-at xs k x found.1 (subst (λ y. get_or xs k y ≡ y) (some_items found.0 x (sym found.2 ∙ is)) found.3)
    go (inr past) = absurd (none-some x (sym past.1 ∙ is))

among-slice_get : {A : Type 0} (xs : List A) (x : A) → Among x xs → (k : ℕ) × (slice_get xs k ≡ Some x)
among-slice_get [] x h = absurd h
among-slice_get (y ∷ ys) x (inl e) = (0, ap Some e)
among-slice_get (y ∷ ys) x (inr h) = let r = among-slice_get ys x h in (suc r.0, r.1)

slice_get-map : {A B : Type 0} (f : A → B) (xs : List A) (k : ℕ) → slice_get (map f xs) k ≡ option_map f (slice_get xs k)
slice_get-map f [] k = refl
slice_get-map f (x ∷ xs) zero = refl
slice_get-map f (x ∷ xs) (suc k) = slice_get-map f xs k

-- if a mapped list has an item, the list has one that is mapped to it
mapped : {A B : Type 0} (f : A → B) (xs : List A) (k : ℕ) (y : B) → slice_get (map f xs) k ≡ Some y → (x : A) × (slice_get xs k ≡ Some x) × (f x ≡ y)
mapped f [] k y h = absurd (none-some y h)
mapped f (x ∷ xs) zero y h = (x, refl, some_items (f x) y h)
mapped f (x ∷ xs) (suc k) y h = mapped f xs k y h

-- ---- types as lists

types-list : (ts : BareTys) → bare_tys (types_in ts) ≡ ts
types-list no_types = refl
types-list (type t more) = ap (type t) (types-list more)

-- ---- the tables of a program

module _ (flat : FlatClass) (edges : SubtypeRelation) (are : AreNamesOf flat.classes edges.lineage.names) (written : List WrittenEdge) (all : seen written ≡ declared_edges (number_in edges.lineage.names.places) flat.classes) (tried : AreTried (tables edges.lineage)) (kept : AreWritten (tables edges.lineage) written) where
  w : Tables
  w = tables edges.lineage

  numbers : number_in edges.lineage.names.places ≡ number_of flat
  numbers = fun_ext (λ name. are.0 name)

  declared : seen written ≡ all_edges flat
  declared = all ∙ ap (λ f. declared_edges f flat.classes) numbers

  are-edges : AreEdges flat (tables edges.lineage)
  are-edges = record { listed = listed; each = each; names = λ k c there. name-is flat.classes edges.lineage.names are k c there }
    where
      listed : (number : ℕ) (edge : Edge) → slice_get (tables edges.lineage).edges number ≡ Some edge → (e : EdgeNodes) × Among e (all_edges flat) × IsEdgeOf (tables edges.lineage) edge e
      listed number edge is = go (slice_get_cases written number).1
        where
          go : ((x : WrittenEdge) × (number < length written) × (slice_get written number ≡ Some x) × (get_or written number x ≡ x)) ⊎ ((length written ≤ number) × (slice_get written number ≡ None)) → (e : EdgeNodes) × Among e (all_edges flat) × IsEdgeOf (tables edges.lineage) edge e
          go (inl found) =
              let at_place = kept.each number found.0 found.2 in
              let same : at_place.edge ≡ edge = some_items at_place.edge edge (sym at_place.declared ∙ is) in
              let there : slice_get (seen written) number ≡ Some (edge_of found.0) = slice_get-map edge_of written number ∙ ap (option_map edge_of) found.2 in
              (edge_of found.0, slice_get-among (all_edges flat) number (edge_of found.0) (ap (λ l. slice_get l number) (sym declared) ∙ there), subst (λ e. IsEdgeOf (tables edges.lineage) e (edge_of found.0)) same at_place.is)
          go (inr past) =
              let within = slice_get_within (tables edges.lineage).edges number edge is in
              let equal = kept.equal in
              let end = past.0 in
              absurd (omega (arith, within, equal, end))

      each : (e : EdgeNodes) → Among e (all_edges flat) → (number : ℕ) × (edge : Edge) × (slice_get (tables edges.lineage).edges number ≡ Some edge) × IsEdgeOf (tables edges.lineage) edge e
      each e among =
          let place = among-slice_get (all_edges flat) e among in
          let own = mapped edge_of written place.0 e (ap (λ l. slice_get l place.0) declared ∙ place.1) in
          let at_place = kept.each place.0 own.0 own.1 in
          (place.0, at_place.edge, at_place.declared, subst (IsEdgeOf (tables edges.lineage) at_place.edge) own.2 at_place.is)

  -- ---- a type as a class at terms

  abbrev at-type : (name : List ℕ) (class : ℕ) (args : BareTys) → class_in edges name ≡ Some class → IsAtType flat (tables edges.lineage) (Named name args) (at_types class (types_in args))
  at-type name class args is = record {
    name = name;
    types = args;
    is = refl;
    number = ap (λ f. f name) (sym numbers) ∙ is;
    count = sym (counts-length (types_in args)) ∙ ap count_types (types-list args);
    args = ap spelled_all (types-list args);
  }

  at-terms : (args : List BareTy) → AreArgs (length args) (spelled_all (bare_tys args))
  at-terms args = ap (following (spelled_all (bare_tys args))) (sym (counts-length args)) ∙ spelled_all-terms (bare_tys args)

  reads : (name : List ℕ) (class : ℕ) (args : BareTys) → class_in edges name ≡ Some class → read_at flat (tables edges.lineage) (at_types class (types_in args)) ≡ Named name args
  reads name class args is =
      let r = numbered-named flat.classes name class (sym (are.0 name) ∙ is) in
      read-at flat (tables edges.lineage) are-edges (Named name args) (at_types class (types_in args)) r.0 r.2.there (at-type name class args is) r.2.named

  -- ---- what is answered, edges lead to

  between-chain : (name : List ℕ) (args : BareTys) (other : List ℕ) (above : BareTys) (o p : Option ℕ) → class_in edges name ≡ o → class_in edges other ≡ p → found_between (tables edges.lineage) o (types_in args) p (types_in above) ≡ true → Chain (IsEdge flat) (Named name args) (Named other above)
  between-chain name args other above None p e f h = absurd (true≢false (sym h))
  between-chain name args other above (Some lower) None e f h = absurd (true≢false (sym h))
  between-chain name args other above (Some lower) (Some upper) e f h =
      let found = (found-decides (tables edges.lineage) tried (types_in args) upper (types_in above) lower).0 h in
      let leads = found-leads (tables edges.lineage) tried (at_types lower (types_in args)) (at_types upper (types_in above)) (at-terms (types_in args)) (at-terms (types_in above)) found in
      let chain = leads-chain flat (tables edges.lineage) are-edges leads in
      subst (λ t. Chain (IsEdge flat) (Named name args) t) (reads other upper above f) (subst (λ s. Chain (IsEdge flat) s (read_at flat (tables edges.lineage) (at_types upper (types_in above)))) (reads name lower args e) chain)

  leads-true : (s t : BareTy) → leads_in edges s t ≡ true → Chain (IsEdge flat) s t
  unfolding leads_in
  leads-true (Named name args) (Named other above) h = between-chain name args other above (class_in edges name) (class_in edges other) refl refl h
  leads-true (Named name args) Same h = absurd (true≢false (sym h))
  leads-true (Named name args) (Rout others of) h = absurd (true≢false (sym h))
  leads-true (Named name args) (Iter others of) h = absurd (true≢false (sym h))
  leads-true Same t h = absurd (true≢false (sym h))
  leads-true (Rout args of) t h = absurd (true≢false (sym h))
  leads-true (Iter args of) t h = absurd (true≢false (sym h))

  climbs-true : (s t : BareTy) → climbs_in edges s t ≡ true → Chain (IsEdge flat) s t
  unfolding climbs_in
  climbs-true s t h = elim (or-cases (same_type s t) (leads_in edges s t) h) [ inl e ↦ subst (λ x. Chain (IsEdge flat) s x) ((same_type_Decides s t).0 e) here | inr k ↦ leads-true s t k ]

  -- ---- what edges lead to is answered

  same-at : (t : BareTy) (a : At) (k : IsAtType flat (tables edges.lineage) t a) → a ≡ at_types a.class (types_in k.types)
  same-at t a k =
      let count : a.count ≡ length (types_in k.types) = k.count ∙ ap count_types (sym (types-list k.types)) ∙ counts-length (types_in k.types) in
      let args : a.args ≡ spelled_all (bare_tys (types_in k.types)) = k.args ∙ ap spelled_all (sym (types-list k.types)) in
      ap (λ n. class_at a.class n a.args) count ∙ ap (class_at a.class (length (types_in k.types))) args

  numbered : (name : List ℕ) (class : ℕ) → number_of flat name ≡ Some class → class_in edges name ≡ Some class
  numbered name class e = are.0 name ∙ e

  leads-all : (s t : BareTy) → HasLeads flat (tables edges.lineage) are-edges s t → leads_in edges s t ≡ true
  unfolding leads_in
  leads-all s t h =
      let k = h.lower_is in
      let j = h.upper_is in
      let found = leads-found (tables edges.lineage) tried h.leads in
      let from = subst (λ a. IsFound (tables edges.lineage) a h.upper) (same-at s h.lower k) found in
      let both = subst (IsFound (tables edges.lineage) (at_types h.lower.class (types_in k.types))) (same-at t h.upper j) from in
      ap (λ x. leads_in edges x t) k.is
      ∙ ap (leads_in edges (Named k.name k.types)) j.is
      ∙ ap (λ o. found_between (tables edges.lineage) o (types_in k.types) (class_in edges j.name) (types_in j.types)) (numbered k.name h.lower.class k.number)
      ∙ ap (λ o. found_between (tables edges.lineage) (Some h.lower.class) (types_in k.types) o (types_in j.types)) (numbered j.name h.upper.class j.number)
      ∙ (found-decides (tables edges.lineage) tried (types_in k.types) h.upper.class (types_in j.types) h.lower.class).1 both

  climbs-all : (s t : BareTy) → Chain (IsEdge flat) s t → climbs_in edges s t ≡ true
  unfolding climbs_in
  climbs-all s t h = elim (chain-leads flat (tables edges.lineage) are-edges h) [ inl e ↦ or_first (same_type s t) (leads_in edges s t) ((same_type_Decides s t).1 e) | inr k ↦ or_second (same_type s t) (leads_in edges s t) (leads-all s t k) ]

  climbs-exact : (s t : BareTy) → (climbs_in edges s t ≡ true) ↔ Chain (IsEdge flat) s t
  climbs-exact s t = (climbs-true s t, climbs-all s t)

  -- ---- the relation

  immutables : immutable_in edges ≡ is_immutable_type flat
  immutables = fun_ext (λ t. kind-immutable flat edges.lineage.names are t)

  exact : (s t : BareTy) → (holds (tops_in edges) (climbs_in edges) (immutable_in edges) s t false ≡ true) ↔ Below (IsEdge flat) (immutable_in edges) s t
  exact s t = holds-exact (IsEdge flat) (edge-named flat) (immutable_in edges) (tops_in edges) (climbs_in edges) (λ u. climbs-exact top u) climbs-exact s t

  are-subtypes : AreSubtypesOf flat edges
  are-subtypes = record {
    exact = λ s t. (
      λ h. subst (λ f. Sub (IsEdge flat) f (bare s) (bare t)) immutables (below-sub (IsEdge flat) (immutable_in edges) ((exact (bare s) (bare t)).0 h)),
      λ h. (exact (bare s) (bare t)).1 (sub-below (IsEdge flat) (immutable_in edges) (edge-named flat) (subst (λ f. Sub (IsEdge flat) f (bare s) (bare t)) (sym immutables) h)),
    );
  }

-- the same of what `SubtypeRelation::make` has built
pub subtypes-of : (flat : FlatClass) (classes : List Class) (names : Names) (written l : List WrittenEdge) (lineage : Hierarchy) (edges : SubtypeRelation) → classes ≡ flat.classes → AreNamesOf classes names → seen written ≡ declared_edges (number_in names.places) classes → lineage.names ≡ names → AreTried (tables lineage) → l ≡ written → AreWritten (tables lineage) l → edges.lineage ≡ lineage → AreSubtypesOf flat edges
subtypes-of flat classes names written l lineage edges e are all f tried g kept h =
    let same : names ≡ edges.lineage.names = sym (ap (λ (x : Hierarchy). x.names) h ∙ f) in
    let own : AreNamesOf flat.classes edges.lineage.names = subst (AreNamesOf flat.classes) same (subst (λ c. AreNamesOf c names) e are) in
    let edges_are : seen written ≡ declared_edges (number_in edges.lineage.names.places) flat.classes = all ∙ ap (λ (n : Names). declared_edges (number_in n.places) classes) same ∙ ap (declared_edges (number_in edges.lineage.names.places)) e in
    let tables_are : AreTried (tables edges.lineage) = subst (λ x. AreTried (tables x)) (sym h) tried in
    let written_are : AreWritten (tables edges.lineage) written = subst (λ x. AreWritten (tables x) written) (sym h) (subst (AreWritten (tables lineage)) g kept) in
    are-subtypes flat edges own written edges_are tables_are written_are

pub ruleset making = (subtypes-of)
