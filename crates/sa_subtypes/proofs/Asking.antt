-- Each step of the queries that the code asks of the tables.
use Rattle.std.proofs.Common.{◌≡◌, ◌≢◌, ℕ, suc, ◌+◌, ◌-◌, ◌<◌, ◌≤◌, Bool, true, false, ◌||◌, ◌&&◌, nat_eq, List, [], ◌∷◌, length, map, Option, Some, None, slice_get, refl, sym, ap, ◌∙◌, arith}
use Rattle.std.specs.Cmp.Lexicographic.{pointwise}
use Rattle.std.specs.Ordering.{on}
use Rattle.std.proofs.lemmas.Bool.{eqb-true, eq-eqb}
use Rattle.std.proofs.lemmas.List.{length-map}
use Rattle.sa_ast.specs.declared.pos.Pos.{Pos}
use Rattle.sa_ast.specs.declared.ty.ModeTy.{ModeTy}
use Rattle.sa_ast.specs.declared.ty.Ty.{Ty}
use Rattle.sa_ast.specs.declared.ty.Ty.TheVariants as ty
use Rattle.sa_ast.specs.Types.{BareTy, Named, no_types, bare, all_bare, bare_tys}
use Rattle.sa_ast.specs.TypeEquality.{same_type, same_types}
use Rattle.sa_ast.proofs.BareTypes.{bare-Named, bare-Same, bare-Rout, bare-Iter}
use Rattle.sa_ast.proofs.TypeTests.{same_types-all_bare}
use Rattle.sa_subtypes.specs.declared.edges.SubtypeRelation.{SubtypeRelation}
use Rattle.sa_hierarchy.specs.declared.class_hierarchy.Ancestor.{Ancestor}
use Rattle.sa_hierarchy.specs.declared.links.ParentLink.{ParentLink}
use Rattle.sa_subtypes.specs.SubtypeTest.{tables_in, class_in, leads_in, climbs_in, tops_in}
use Rattle.sa_subtypes.specs.Deciding.{some_place, is_by, place_by, range_by, list_by, entry_by, link_by, in_list, found_in, found_between, types_in}
use Rattle.sa_hierarchy.specs.Hierarchies.{Tables}
use Rattle.sa_subtypes.specs.Subtypes.{top, top_name}

-- ---- counts and equal lists

pub counted : (args : List Ty) (n m k : ℕ) (r : Bool) → r ≡ nat_eq n m → n ≡ length args → m ≡ k → r ≡ nat_eq (length (map bare args)) k
counted args n m k r h e f = h ∙ ap (λ x. nat_eq x m) (e ∙ sym (length-map args bare)) ∙ ap (nat_eq (length (map bare args))) f

pub ruleset counts = (counted)

pub same-lists : (ts us : List Ty) (r : Bool) → r ≡ pointwise (on bare same_type) ts us → r ≡ same_types (all_bare ts) (all_bare us)
same-lists ts us r h = h ∙ sym (same_types-all_bare ts us)

pub ruleset equals = (same-lists)

-- ---- the lists

same_test : (m n : ℕ) → m ≡ n → nat_eq m n ≡ true
same_test m n e = eq-eqb m n e

other_test : (m n : ℕ) → m ≢ n → nat_eq m n ≡ false
other_test m n h = go (nat_eq m n) refl
  where
    go : (b : Bool) → nat_eq m n ≡ b → b ≡ false
    go true e = absurd (h (eqb-true m n e))
    go false e = refl

module _ (w : Tables) (lower : ℕ) (args : List BareTy) (upper : ℕ) (above : List BareTy) (o : Option ParentLink) (is : o ≡ slice_get w.links lower) where
  pub link-none : o ≡ None → false ≡ in_list w lower args upper above
  unfolding in_list
  link-none e = ap (link_by w lower args upper above) (sym e ∙ is)

  pub link-other : (link : ParentLink) (a : Bool) → o ≡ Some link → a ≡ (nat_eq link.root lower || nat_eq (length args) (w.arity lower)) → a ≡ false → false ≡ in_list w lower args upper above
  unfolding in_list
  link-other link a e h k = ap (λ b. b && list_by w link.root args upper above) (sym k ∙ h) ∙ ap (link_by w lower args upper above) (sym e ∙ is)

  pub link-goes : (link : ParentLink) (a r : Bool) → o ≡ Some link → a ≡ (nat_eq link.root lower || nat_eq (length args) (w.arity lower)) → a ≡ true → r ≡ list_by w link.root args upper above → r ≡ in_list w lower args upper above
  unfolding in_list
  link-goes link a r e h k g = g ∙ ap (λ b. b && list_by w link.root args upper above) (sym k ∙ h) ∙ ap (link_by w lower args upper above) (sym e ∙ is)

module _ (w : Tables) (root : ℕ) (args : List BareTy) (upper : ℕ) (above : List BareTy) where
  pub range-none : (o : Option (ℕ × ℕ)) → o ≡ slice_get w.lists root → o ≡ None → false ≡ list_by w root args upper above
  unfolding list_by
  range-none o is e = ap (range_by w root args upper above) (sym e ∙ is)

  pub range-some : (o : Option (ℕ × ℕ)) (range : ℕ × ℕ) (r : Bool) → o ≡ slice_get w.lists root → o ≡ Some range → r ≡ some_place (place_by w root args upper above) range.0 (range.1 - range.0) → r ≡ list_by w root args upper above
  unfolding list_by
  range-some o range r is e h = h ∙ ap (range_by w root args upper above) (sym e ∙ is)

  pub place-none : (place : ℕ) (o : Option Ancestor) → o ≡ slice_get w.above place → o ≡ None → false ≡ place_by w root args upper above place
  unfolding place_by
  place-none place o is e = ap (entry_by w root args upper above) (sym e ∙ is)

  pub place-other : (place : ℕ) (o : Option Ancestor) (entry : Ancestor) → o ≡ slice_get w.above place → o ≡ Some entry → entry.class ≢ root → false ≡ place_by w root args upper above place
  unfolding place_by
  place-other place o entry is e h = ap (λ b. b && is_by w entry args upper above) (sym (other_test entry.class root h)) ∙ ap (entry_by w root args upper above) (sym e ∙ is)

  pub place-here : (place : ℕ) (o : Option Ancestor) (entry : Ancestor) (r : Bool) → o ≡ slice_get w.above place → o ≡ Some entry → entry.class ≡ root → r ≡ is_by w entry args upper above → r ≡ place_by w root args upper above place
  unfolding place_by
  place-here place o entry r is e h k = k ∙ ap (λ b. b && is_by w entry args upper above) (sym (same_test entry.class root h)) ∙ ap (entry_by w root args upper above) (sym e ∙ is)

pub ruleset lists = (link-none, link-other, link-goes, range-none, range-some, place-none, place-other, place-here)

module _ (w : Tables) (root : ℕ) (args : List BareTy) (upper : ℕ) (above : List BareTy) (first end place : ℕ) (left : some_place (place_by w root args upper above) first (end - first) ≡ some_place (place_by w root args upper above) place (end - place)) where
  within-step : place < end → some_place (place_by w root args upper above) place (end - place) ≡ (place_by w root args upper above place || some_place (place_by w root args upper above) (place + 1) (end - (place + 1)))
  unfolding some_place
  within-step h =
      let n : end - place ≡ suc (end - (place + 1)) = omega (arith, h) in
      let more : suc place ≡ place + 1 = omega arith in
      ap (some_place (place_by w root args upper above) place) n ∙ ap (λ k. place_by w root args upper above place || some_place (place_by w root args upper above) k (end - (place + 1))) more

  pub within-here : (r : Bool) → place < end → r ≡ place_by w root args upper above place → r ≡ true → true ≡ some_place (place_by w root args upper above) first (end - first)
  within-here r h e k = sym (left ∙ within-step h ∙ ap (λ b. b || some_place (place_by w root args upper above) (place + 1) (end - (place + 1))) (sym e ∙ k))

  pub within-more : (r : Bool) → place < end → r ≡ place_by w root args upper above place → r ≡ false → some_place (place_by w root args upper above) first (end - first) ≡ some_place (place_by w root args upper above) (place + 1) (end - (place + 1))
  within-more r h e k = left ∙ within-step h ∙ ap (λ b. b || some_place (place_by w root args upper above) (place + 1) (end - (place + 1))) (sym e ∙ k)

  pub within-end : end ≤ place → false ≡ some_place (place_by w root args upper above) first (end - first)
  unfolding some_place
  within-end h = let n : end - place ≡ 0 = omega (arith, h) in sym (left ∙ ap (some_place (place_by w root args upper above) place) n)

pub ruleset places = (within-here, within-more, within-end)

-- ---- types

types-bare : (l : List BareTy) → types_in (bare_tys l) ≡ l
types-bare [] = refl
types-bare (t ∷ more) = ap (λ l. t ∷ l) (types-bare more)

pub types-all_bare : (ts : List Ty) → types_in (all_bare ts) ≡ map bare ts
types-all_bare ts = types-bare (map bare ts)

module _ (edges : SubtypeRelation) where
  pub from-Named : (s t : Ty) (name : List ℕ) (args l : List Ty) (pos : Pos) (r : Bool) → s ≡ ty.Named name args pos → l ≡ args → r ≡ leads_in edges (Named name (all_bare l)) (bare t) → r ≡ leads_in edges (bare s) (bare t)
  from-Named s t name args l pos r e f h = h ∙ ap (λ x. leads_in edges (Named name (all_bare x)) (bare t)) f ∙ sym (ap (λ x. leads_in edges x (bare t)) (ap bare e ∙ bare-Named name args pos))

  pub from-Same : (s t : Ty) (pos : Pos) → s ≡ ty.Same pos → false ≡ leads_in edges (bare s) (bare t)
  unfolding leads_in
  from-Same s t pos e = sym (ap (λ x. leads_in edges x (bare t)) (ap bare e ∙ bare-Same pos))

  pub from-Rout : (s t : Ty) (args : List ModeTy) (of : Option Ty) (pos : Pos) → s ≡ ty.Rout args of pos → false ≡ leads_in edges (bare s) (bare t)
  unfolding leads_in
  from-Rout s t args of pos e = sym (ap (λ x. leads_in edges x (bare t)) (ap bare e ∙ bare-Rout args of pos))

  pub from-Iter : (s t : Ty) (args : List ModeTy) (of : Option Ty) (pos : Pos) → s ≡ ty.Iter args of pos → false ≡ leads_in edges (bare s) (bare t)
  unfolding leads_in
  from-Iter s t args of pos e = sym (ap (λ x. leads_in edges x (bare t)) (ap bare e ∙ bare-Iter args of pos))

  pub to-Named : (name : List ℕ) (args : List Ty) (t : Ty) (other : List ℕ) (above l : List Ty) (pos : Pos) (r : Bool) → t ≡ ty.Named other above pos → l ≡ above → r ≡ found_between (tables_in edges) (class_in edges name) (map bare args) (class_in edges other) (map bare l) → r ≡ leads_in edges (Named name (all_bare args)) (bare t)
  unfolding leads_in
  to-Named name args t other above l pos r e f h =
      h
      ∙ ap (λ x. found_between (tables_in edges) (class_in edges name) (map bare args) (class_in edges other) (map bare x)) f
      ∙ ap (λ x. found_between (tables_in edges) (class_in edges name) x (class_in edges other) (map bare above)) (sym (types-all_bare args))
      ∙ ap (λ x. found_between (tables_in edges) (class_in edges name) (types_in (all_bare args)) (class_in edges other) x) (sym (types-all_bare above))
      ∙ sym (ap (λ x. leads_in edges (Named name (all_bare args)) x) (ap bare e ∙ bare-Named other above pos))

  pub to-Same : (name : List ℕ) (args : List Ty) (t : Ty) (pos : Pos) → t ≡ ty.Same pos → false ≡ leads_in edges (Named name (all_bare args)) (bare t)
  unfolding leads_in
  to-Same name args t pos e = sym (ap (λ x. leads_in edges (Named name (all_bare args)) x) (ap bare e ∙ bare-Same pos))

  pub to-Rout : (name : List ℕ) (args : List Ty) (t : Ty) (others : List ModeTy) (of : Option Ty) (pos : Pos) → t ≡ ty.Rout others of pos → false ≡ leads_in edges (Named name (all_bare args)) (bare t)
  unfolding leads_in
  to-Rout name args t others of pos e = sym (ap (λ x. leads_in edges (Named name (all_bare args)) x) (ap bare e ∙ bare-Rout others of pos))

  pub to-Iter : (name : List ℕ) (args : List Ty) (t : Ty) (others : List ModeTy) (of : Option Ty) (pos : Pos) → t ≡ ty.Iter others of pos → false ≡ leads_in edges (Named name (all_bare args)) (bare t)
  unfolding leads_in
  to-Iter name args t others of pos e = sym (ap (λ x. leads_in edges (Named name (all_bare args)) x) (ap bare e ∙ bare-Iter others of pos))

  pub top-Named : (t : Ty) (name : List ℕ) (args l : List Ty) (pos : Pos) (r : Bool) → t ≡ ty.Named name args pos → l ≡ args → r ≡ tops_in edges (Named name (all_bare l)) → r ≡ tops_in edges (bare t)
  top-Named t name args l pos r e f h = h ∙ ap (λ x. tops_in edges (Named name (all_bare x))) f ∙ sym (ap (tops_in edges) (ap bare e ∙ bare-Named name args pos))

  pub top-Same : (t : Ty) (pos : Pos) → t ≡ ty.Same pos → false ≡ tops_in edges (bare t)
  unfolding leads_in climbs_in
  top-Same t pos e = sym (ap (tops_in edges) (ap bare e ∙ bare-Same pos))

  pub top-Rout : (t : Ty) (args : List ModeTy) (of : Option Ty) (pos : Pos) → t ≡ ty.Rout args of pos → false ≡ tops_in edges (bare t)
  unfolding leads_in climbs_in
  top-Rout t args of pos e = sym (ap (tops_in edges) (ap bare e ∙ bare-Rout args of pos))

  pub top-Iter : (t : Ty) (args : List ModeTy) (of : Option Ty) (pos : Pos) → t ≡ ty.Iter args of pos → false ≡ tops_in edges (bare t)
  unfolding leads_in climbs_in
  top-Iter t args of pos e = sym (ap (tops_in edges) (ap bare e ∙ bare-Iter args of pos))

  pub above-is : (name : List ℕ) (args : List Ty) (a : Bool) → a ≡ same_type top (Named name (all_bare args)) → a ≡ true → true ≡ tops_in edges (Named name (all_bare args))
  unfolding climbs_in
  above-is name args a h k = sym (ap (λ b. b || leads_in edges top (Named name (all_bare args))) (sym h ∙ k))

  pub above-other : (name : List ℕ) (args : List Ty) (a r : Bool) → a ≡ same_type top (Named name (all_bare args)) → a ≡ false → r ≡ found_between (tables_in edges) (class_in edges top_name) [] (class_in edges name) (map bare args) → r ≡ tops_in edges (Named name (all_bare args))
  unfolding leads_in climbs_in
  above-other name args a r h k g =
      g
      ∙ ap (λ x. found_between (tables_in edges) (class_in edges top_name) [] (class_in edges name) x) (sym (types-all_bare args))
      ∙ sym (ap (λ b. b || leads_in edges top (Named name (all_bare args))) (sym h ∙ k))

pub ruleset froms = (from-Named, from-Same, from-Rout, from-Iter)

pub ruleset tos = (to-Named, to-Same, to-Rout, to-Iter)

pub ruleset tops = (top-Named, top-Same, top-Rout, top-Iter)

pub ruleset top_named = (above-is, above-other)

module _ (w : Tables) (o : Option ℕ) (args : List BareTy) (p : Option ℕ) (above : List BareTy) where
  pub no-lower : (n : Option ℕ) → n ≡ o → n ≡ None → false ≡ found_between w o args p above
  no-lower n e h = ap (λ x. found_between w x args p above) (sym h ∙ e)

  pub no-upper : (n : Option ℕ) → n ≡ p → n ≡ None → false ≡ found_between w o args p above
  no-upper n e h = go o ∙ ap (λ x. found_between w o args x above) (sym h ∙ e)
    where
      go : (q : Option ℕ) → false ≡ found_between w q args None above
      go None = refl
      go (Some lower) = refl

  pub both-classes : (n m : Option ℕ) (lower upper : ℕ) (r : Bool) → n ≡ o → n ≡ Some lower → m ≡ p → m ≡ Some upper → r ≡ found_in w lower args upper above → r ≡ found_between w o args p above
  both-classes n m lower upper r e h f k g =
      g ∙ ap (λ x. found_between w x args (Some upper) above) (sym h ∙ e) ∙ ap (λ x. found_between w o args x above) (sym k ∙ f)

pub ruleset betweens = (no-lower, no-upper, both-classes)

pub none-is : (args : List Ty) → length args ≡ 0 → true ≡ same_types no_types (all_bare args)
none-is [] h = refl
none-is (t ∷ more) h = absurd (omega (arith, h))

pub none-not : (args : List Ty) → length args ≢ 0 → false ≡ same_types no_types (all_bare args)
none-not [] h = absurd (h refl)
none-not (t ∷ more) h = refl

pub ruleset nones = (none-is, none-not)
