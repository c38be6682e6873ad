-- The include clauses of classes as edges.
use Rattle.std.proofs.Common.{◌≡◌, ◌↔◌, ℕ, zero, suc, ◌+◌, ◌<◌, ◌≤◌, Bool, cond, List, [], ◌∷◌, ◌++◌, Option, None, Some, length, get_or, take, slice_get, refl, sym, ap, subst, ◌∙◌, ◌⊎◌, inl, inr, ⊎_elim, arith}
use Rattle.std.proofs.lemmas.List.{length-append, take_more}
use Rattle.std.proofs.lemmas.List.Elements.{Contains-append_left, Contains-push, Contains-push_cases}
use Rattle.std.specs.List.{Contains}
use Rattle.sa_graph.specs.Paths.{HasEdge}
use Rattle.sa_ast.specs.declared.class.Class.{Class}
use Rattle.sa_ast.specs.declared.class.Include.{Include}
use Rattle.sa_ast.specs.Types.{BareTy, Named, Same, Rout, Iter, bare}
use Rattle.sa_include_names.specs.declared.graph.Edges.{Edges}
use Rattle.sa_include_names.specs.declared.names.ClassNumbers.{ClassNumbers}
use Rattle.sa_include_names.specs.declared.names.ParamNames.{ParamNames}
use Rattle.sa_include_names.specs.Includes.{DoesInclude, number_included}
use Rattle.sa_include_names.specs.Names.{hides}
use Rattle.sa_include_names.specs.Tables.{AddsEdges, AreEdges, HasEdgeIn, HasNumbers, HasParams, IsNumber, NamesHere, included_in, number_in}
use Rattle.std.proofs.lemmas.Option.{slice_get_read, slice_get_within}
use Rattle.sa_include_names.proofs.Numbers.{at_push}

-- ---- one more edge

get_left : {X : Type 0} (xs ys : List X) (i : ℕ) (x : X) → slice_get xs i ≡ Some x → slice_get (xs ++ ys) i ≡ Some x
get_left [] ys i x h = cc
get_left (y ∷ xs) ys zero x h = h
get_left (y ∷ xs) ys (suc i) x h = get_left xs ys i x h

get_last : {X : Type 0} (xs : List X) (x : X) (i : ℕ) → length xs ≡ i → slice_get (xs ++ x ∷ []) i ≡ Some x
get_last {X} xs x i e = subst (λ n. slice_get (xs ++ x ∷ []) n ≡ Some x) e (at_end xs)
  where
    at_end : (ys : List X) → slice_get (ys ++ x ∷ []) (length ys) ≡ Some x
    at_end [] = refl
    at_end (y ∷ ys) = at_end ys

edge_only : (starts ends : List ℕ) (s t a b : ℕ) → length starts ≡ length ends → HasEdge (starts ++ s ∷ []) (ends ++ t ∷ []) a b → HasEdge starts ends a b ⊎ ((a ≡ s) × (b ≡ t))
edge_only starts ends s t a b e h = by (at_push starts s a h.0 h.1) (at_push ends t b h.0 h.2)
  where
    by : ((h.0 < length starts) × (slice_get starts h.0 ≡ Some a)) ⊎ ((h.0 ≡ length starts) × (s ≡ a)) → ((h.0 < length ends) × (slice_get ends h.0 ≡ Some b)) ⊎ ((h.0 ≡ length ends) × (t ≡ b)) → HasEdge starts ends a b ⊎ ((a ≡ s) × (b ≡ t))
    by (inl x) (inl y) = inl (h.0, x.1, y.1)
    by (inl x) (inr y) = absurd (omega (arith, x.0, y.0, e))
    by (inr x) (inl y) = absurd (omega (arith, x.0, y.0, e))
    by (inr x) (inr y) = inr (sym x.1, sym y.1)

pub edge_added : (old new : Edges) (s t : ℕ) → new.starts.items ≡ old.starts.items ++ s ∷ [] → new.ends.items ≡ old.ends.items ++ t ∷ [] → AddsEdges s (λ to. to ≡ t) old new
edge_added old new s t starts ends = record {
  count = λ e. let l = length-append old.starts.items (s ∷ []) in let k = length-append old.ends.items (t ∷ []) in let m = ap length starts in let n = ap length ends in omega (arith, e, l, k, m, n);
  kept = λ e a b h. into a b (h.0, get_left old.starts.items (s ∷ []) h.0 a h.1, get_left old.ends.items (t ∷ []) h.0 b h.2);
  added = λ e b h. subst (HasEdgeIn new s) (sym h) (into s t (length old.starts.items, get_last old.starts.items s (length old.starts.items) refl, get_last old.ends.items t (length old.starts.items) (sym e)));
  only = λ e a b h. edge_only old.starts.items old.ends.items s t a b e (h.0, ap (λ xs. slice_get xs h.0) (sym starts) ∙ h.1, ap (λ xs. slice_get xs h.0) (sym ends) ∙ h.2);
}
  where
    into : (a b : ℕ) → HasEdge (old.starts.items ++ s ∷ []) (old.ends.items ++ t ∷ []) a b → HasEdgeIn new a b
    into a b h = (h.0, ap (λ xs. slice_get xs h.0) starts ∙ h.1, ap (λ xs. slice_get xs h.0) ends ∙ h.2)

-- ---- one more clause

module _ (params : ParamNames) (numbers : ClassNumbers) (from : ℕ) (includes : List Include) (i : ℕ) (clause : Include) (within : i < length includes) (is : clause ≡ get_or includes i clause) where
  more : take (i + 1) includes ≡ take i includes ++ clause ∷ []
  more = take_more includes i clause within ∙ ap (λ c. take i includes ++ c ∷ []) (sym is)

  earlier : (to : ℕ) → NamesHere params numbers (take i includes) to → NamesHere params numbers (take (i + 1) includes) to
  earlier to h = (h.0, subst (λ cs. Contains cs h.0) (sym more) (Contains-append_left (take i includes) (clause ∷ []) h.0 h.1), h.2)

  here : (to : ℕ) → included_in params numbers (bare clause.ty) ≡ Some to → NamesHere params numbers (take (i + 1) includes) to
  here to e = (clause, subst (λ cs. Contains cs clause) (sym more) (Contains-push (take i includes) clause), e)

  either : (to : ℕ) → NamesHere params numbers (take (i + 1) includes) to → NamesHere params numbers (take i includes) to ⊎ (included_in params numbers (bare clause.ty) ≡ Some to)
  either to h = ⊎_elim (λ g. inl (h.0, g, h.2)) (λ same. inr (subst (λ (c : Include). included_in params numbers (bare c.ty) ≡ Some to) (sym same) h.2)) (Contains-push_cases (take i includes) clause h.0 (subst (λ cs. Contains cs h.0) more h.1))

  pub clause_added : (s t u : Edges) → AddsEdges from (NamesHere params numbers (take i includes)) s t → AddsEdges from (IsNumber (included_in params numbers (bare clause.ty))) t u → AddsEdges from (NamesHere params numbers (take (i + 1) includes)) s u
  clause_added s t u a b = record {
    count = λ h. b.count (a.count h);
    kept = λ h x y g. b.kept (a.count h) x y (a.kept h x y g);
    added = λ h y g. ⊎_elim (λ k. b.kept (a.count h) from y (a.added h y k)) (λ k. b.added (a.count h) y k) (either y g);
    only = λ h x y g. ⊎_elim (λ k. ⊎_elim inl (λ m. inr (m.0, earlier y m.1)) (a.only h x y k)) (λ k. inr (k.0, here y k.1)) (b.only (a.count h) x y g);
  }

pub edge_named : (s t : Edges) (from to : ℕ) (found named : Option ℕ) → AddsEdges from (λ b. b ≡ to) s t → found ≡ named → found ≡ Some to → AddsEdges from (IsNumber named) s t
edge_named s t from to found named a same is = record {
  count = a.count;
  kept = a.kept;
  added = λ h b g. a.added h b (one (sym g ∙ sym same ∙ is));
  only = λ h x y g. ⊎_elim inl (λ m. inr (m.0, sym same ∙ is ∙ ap Some (sym m.1))) (a.only h x y g);
}
  where
    one : {x y : ℕ} → Some x ≡ Some y → x ≡ y
    one q = cc

pub edge_none : (s : Edges) (from : ℕ) (found named : Option ℕ) → found ≡ named → found ≡ None → AddsEdges from (IsNumber named) s s
edge_none s from found named same is = record {
  count = λ h. h;
  kept = λ h a b g. g;
  added = λ h b g. absurd (differs (sym g ∙ sym same ∙ is));
  only = λ h a b g. inl g;
}
  where
    differs : {x : ℕ} → Some x ≡ None → ⊥
    differs q = cc

pub no_clauses : (params : ParamNames) (numbers : ClassNumbers) (from : ℕ) (s : Edges) → AddsEdges from (NamesHere params numbers []) s s
no_clauses params numbers from s = record {
  count = λ h. h;
  kept = λ h a b g. g;
  added = λ h b g. absurd (none g.0 g.1);
  only = λ h a b g. inl g;
}
  where
    none : (c : Include) → Contains [] c → ⊥
    none c (k, h, e) = omega (arith, h)

-- ---- one more class

-- the edges are the include clauses of the classes up to this one
pub record AreEdgesUpTo (classes : List Class) (n : ℕ) (edges : Edges) : Type 0 where
  pub count : length edges.starts.items ≡ length edges.ends.items
  pub includes : (a b : ℕ) → HasEdgeIn edges a b ↔ ((a < n) × DoesInclude classes a b)

module _ (classes : List Class) (numbers : ClassNumbers) (numbered : HasNumbers classes numbers) where
  same_class : (params : ParamNames) (c : Class) → HasParams c.params params → (t : BareTy) → included_in params numbers t ≡ number_included classes c t
  same_class params c h (Named name given) = ap (λ b. cond b None (number_in numbers name)) (h name) ∙ ap (cond (hides c.params name) None) (numbered.each name)
  same_class params c h Same = refl
  same_class params c h (Rout args of) = refl
  same_class params c h (Iter args of) = refl

  pub class_added : (params : ParamNames) (c : Class) (i : ℕ) (old new : Edges) → HasParams c.params params → i < length classes → c ≡ get_or classes i c → AreEdgesUpTo classes i old → AddsEdges i (NamesHere params numbers c.includes) old new → AreEdgesUpTo classes (i + 1) new
  class_added params c i old new named within is upto adds = record {
    count = adds.count upto.count;
    includes = λ a b. (into a b, from a b);
  }
    where
      at : slice_get classes i ≡ Some c
      at = slice_get_read classes (length classes) i c refl within is

      into : (a b : ℕ) → HasEdgeIn new a b → (a < i + 1) × DoesInclude classes a b
      into a b h = ⊎_elim (λ g. let r = (upto.includes a b).0 g in (omega (arith, r.0), r.1)) (λ m. (omega (arith, m.0), subst (λ n. DoesInclude classes n b) (sym m.0) (record { class = c; at = at; clause = m.1.0; has = m.1.1; names = sym (same_class params c named (bare m.1.0.ty)) ∙ m.1.2 }))) (adds.only upto.count a b h)

      from : (a b : ℕ) → (a < i + 1) × DoesInclude classes a b → HasEdgeIn new a b
      from a b h = let near : (a < i) ⊎ (a ≡ i) = grind (arith, h.0) in by near
        where
          by : (a < i) ⊎ (a ≡ i) → HasEdgeIn new a b
          by (inl lt) = adds.kept upto.count a b ((upto.includes a b).1 (lt, h.1))
          by (inr e) = subst (λ n. HasEdgeIn new n b) (sym e) (adds.added upto.count b (h.1.clause, subst (λ (d : Class). Contains d.includes h.1.clause) (own e) h.1.has, same_class params c named (bare h.1.clause.ty) ∙ subst (λ (d : Class). number_included classes d (bare h.1.clause.ty) ≡ Some b) (own e) h.1.names))
            where
              own : a ≡ i → h.1.class ≡ c
              own e = one (sym h.1.at ∙ ap (slice_get classes) e ∙ at)
                where
                  one : Some h.1.class ≡ Some c → h.1.class ≡ c
                  one q = cc

pub no_classes : (classes : List Class) (edges : Edges) → edges.starts.items ≡ [] → edges.ends.items ≡ [] → AreEdgesUpTo classes 0 edges
no_classes classes edges starts ends = record {
  count = ap length starts ∙ sym (ap length ends);
  includes = λ a b. (λ h. absurd (none h.0 (ap (λ xs. slice_get xs h.0) (sym starts) ∙ h.1)), λ h. absurd (omega (arith, h.0)));
}
  where
    none : {a : ℕ} (k : ℕ) → slice_get [] k ≡ Some a → ⊥
    none k q = cc

pub all_classes : (classes : List Class) (edges : Edges) (n : ℕ) → length classes ≤ n → AreEdgesUpTo classes n edges → AreEdges classes edges
all_classes classes edges n e upto = record {
  count = upto.count;
  includes = λ a b. (λ h. ((upto.includes a b).0 h).1, λ d. (upto.includes a b).1 (omega (arith, e, slice_get_within classes a d.class d.at), d));
}

pub ruleset classes_added = (no_classes, class_added, all_classes)

pub ruleset clauses = (no_clauses, clause_added)

pub ruleset named_edges = (edge_named, edge_none)
