-- The tests of the tables are true exactly if the tables say so.
use Rattle.std.proofs.Common.{◌≡◌, ◌≢◌, ◌⊎◌, inl, inr, ℕ, zero, suc, ◌+◌, ◌-◌, ◌<◌, ◌≤◌, Bool, true, false, true≢false, ◌||◌, ◌&&◌, nat_eq, List, [], ◌∷◌, length, Option, Some, None, slice_get, refl, sym, ap, subst, ◌∙◌, arith}
use Rattle.std.specs.Prelude.{◌↔◌, not}
use Rattle.std.specs.Cmp.{first_so, second_so}
use Rattle.std.proofs.lemmas.Bool.{eqb-true, eq-eqb}
use Rattle.sa_ast.specs.Types.{BareTy, BareTys, no_types, type, bare_tys}
use Rattle.sa_ast.specs.TypeEquality.{same_type, same_types, same_type_Decides}
use Rattle.sa_hierarchy.specs.declared.class_hierarchy.Ancestor.{Ancestor}
use Rattle.sa_hierarchy.specs.declared.links.ParentLink.{ParentLink}
use Rattle.sa_unify.specs.declared.pattern.Node.{Node}
use Rattle.sa_hierarchy.specs.Lines.{in_line}
use Rattle.sa_subtypes.specs.Deciding.{some_place, in_tree, is_by, entry_by, place_by, range_by, list_by, link_by, in_list, found_in}
use Rattle.sa_hierarchy.specs.Hierarchies.{Tables, At, class_at, pair_of, Line, AreLinked, InList, HasForm, AreTried, InLine, ByList, IsFound}
use Rattle.sa_subtypes.specs.Questions.{pair_fits}
use Rattle.sa_unify.specs.Spelled.{count_types, spelled_all, read_types}
use Rattle.sa_unify.specs.Terms.{IsInstance}
use Rattle.sa_hierarchy.proofs.Tests.{or-cases, or_first, or_second, both}
use Rattle.sa_hierarchy.proofs.LineTests.{line-decides}
use Rattle.sa_subtypes.proofs.PairsFor.{BecomesPair, pair-for}
use Rattle.sa_subtypes.proofs.Questions.{fits-exact}
use Rattle.sa_unify.proofs.Spelling.{read-spelled_all}

other_test : (m n : ℕ) → m ≢ n → nat_eq m n ≡ false
other_test m n h = go (nat_eq m n) refl
  where
    go : (b : Bool) → nat_eq m n ≡ b → b ≡ false
    go true e = absurd (h (eqb-true m n e))
    go false e = refl

not-true : (b : Bool) → not b ≡ true → b ≡ false
not-true true h = absurd (true≢false (sym h))
not-true false h = refl

-- ---- types and their terms

types-true : (ts us : List BareTy) → same_types (bare_tys ts) (bare_tys us) ≡ true → ts ≡ us
types-true [] [] h = refl
types-true [] (u ∷ us) h = absurd (true≢false (sym h))
types-true (t ∷ ts) [] h = absurd (true≢false (sym h))
types-true (t ∷ ts) (u ∷ us) h =
    let first : t ≡ u = (same_type_Decides t u).0 (first_so (same_type t u) (same_types (bare_tys ts) (bare_tys us)) h) in
    let more : ts ≡ us = types-true ts us (second_so (same_type t u) (same_types (bare_tys ts) (bare_tys us)) h) in
    cc

types-self : (ts : BareTys) → same_types ts ts ≡ true
types-self no_types = refl
types-self (type t more) = both _ _ ((same_type_Decides t t).1 refl) (types-self more)

pub counts-length : (ts : List BareTy) → count_types (bare_tys ts) ≡ length ts
counts-length [] = refl
counts-length (t ∷ ts) = ap suc (counts-length ts)

terms-equal : (ts us : BareTys) → count_types ts ≡ count_types us → spelled_all ts ≡ spelled_all us → ts ≡ us
terms-equal ts us c e = sym (read-spelled_all ts) ∙ ap (λ l. read_types l (count_types ts)) e ∙ ap (read_types (spelled_all us)) c ∙ read-spelled_all us

-- a class at these types
abbrev pub at_types : ℕ → List BareTy → At
at_types class args = class_at class (length args) (spelled_all (bare_tys args))

-- ---- the indices of a list

some-true : (test : ℕ → Bool) (from n : ℕ) → some_place test from n ≡ true → (k : ℕ) × (from ≤ k) × (k < from + n) × (test k ≡ true)
unfolding some_place
some-true test from zero h = absurd (true≢false (sym h))
some-true test from (suc n) h =
    elim (or-cases (test from) (some_place test (suc from) n) h) [
      | inl e ↦ (from, omega arith, omega arith, e)
      | inr k ↦ (let r = some-true test (suc from) n k in let least = r.1 in let most = r.2 in (r.0, omega (arith, least), omega (arith, most), r.3))
    ]

some-step : (test : ℕ → Bool) (from n k : ℕ) → from ≤ k → k < from + suc n → test k ≡ true → (suc from ≤ k → k < suc from + n → some_place test (suc from) n ≡ true) → (test from || some_place test (suc from) n) ≡ true
some-step test from n k h j e more = go (nat_eq from k) refl
  where
    go : (b : Bool) → nat_eq from k ≡ b → (test from || some_place test (suc from) n) ≡ true
    go true s = or_first _ _ (ap test (eqb-true from k s) ∙ e)
    go false s =
        let apart : from ≢ k = λ same. true≢false (sym (eq-eqb from k same) ∙ s) in
        let later : suc from ≤ k = omega (arith, h, apart) in
        let within : k < suc from + n = omega (arith, j) in
        or_second (test from) _ (more later within)

some-all : (test : ℕ → Bool) (from n k : ℕ) → from ≤ k → k < from + n → test k ≡ true → some_place test from n ≡ true
unfolding some_place
some-all test from zero k h j e = absurd (omega (arith, h, j))
some-all test from (suc n) k h j e = some-step test from n k h j e (λ later within. some-all test (suc from) n k later within e)

module _ (w : Tables) (tried : AreTried w) where
  linked : AreLinked w.links
  linked = record { linked = λ class link is. (tried.links.each class link is).linked }

  module _ (args : List BareTy) (upper : ℕ) (above : List BareTy) where
    -- ---- the tree

    in_tree-true : (lower : ℕ) → in_tree w lower args upper above ≡ true → InLine w (at_types lower args) (at_types upper above)
    unfolding in_tree
    in_tree-true lower h =
        let one = not (nat_eq lower upper) in
        let two = nat_eq (length args) (w.arity lower) in
        let three = same_types (bare_tys args) (bare_tys above) in
        let four = in_line w.links lower upper in
        let firsts = first_so (one && two && three) four h in
        let seconds = first_so (one && two) three firsts in
        let same : args ≡ above = types-true args above (second_so (one && two) three firsts) in
        let apart : nat_eq lower upper ≡ false = not-true (nat_eq lower upper) (first_so one two seconds) in
        record {
          line = (line-decides w.links linked lower upper).0 (second_so (one && two && three) four h);
          apart = λ e. true≢false (sym (eq-eqb lower upper e) ∙ apart);
          arity = eqb-true (length args) (w.arity lower) (second_so one two seconds);
          count = ap length same;
          args = ap (λ l. spelled_all (bare_tys l)) same;
        }

    in_tree-all : (lower : ℕ) → InLine w (at_types lower args) (at_types upper above) → in_tree w lower args upper above ≡ true
    unfolding in_tree
    in_tree-all lower h =
        let apart : not (nat_eq lower upper) ≡ true = ap not (other_test lower upper h.apart) in
        let counts : count_types (bare_tys args) ≡ count_types (bare_tys above) = counts-length args ∙ h.count ∙ sym (counts-length above) in
        let same : bare_tys args ≡ bare_tys above = terms-equal (bare_tys args) (bare_tys above) counts h.args in
        let equal : same_types (bare_tys args) (bare_tys above) ≡ true = ap (same_types (bare_tys args)) (sym same) ∙ types-self (bare_tys args) in
        both _ _ (both _ _ (both _ _ apart (eq-eqb (length args) (w.arity lower) h.arity)) equal) ((line-decides w.links linked lower upper).1 h.line)

    -- ---- a pair of a list

    -- it leads from a class with these arguments to the class, or to one that has it as an ancestor in its tree
    record IsBy (entry : Ancestor) : Type 0 where
      line : Line w.links entry.upper upper
      ends : (entry.upper ≡ upper) ⊎ (length above ≡ w.arity upper)
      head : List ℕ
      instance : IsInstance (w.nodes entry.pair) (pair_of (length args) (spelled_all (bare_tys args)) head (length above) (spelled_all (bare_tys above)))

    abbrev Becomes : List Node → ℕ → ℕ → Type 0
    Becomes nodes n m = (head : List ℕ) × IsInstance nodes (pair_of n (spelled_all (bare_tys args)) head m (spelled_all (bare_tys above)))

    becomes-of : (nodes : List Node) → BecomesPair nodes (bare_tys args) (bare_tys above) → Becomes nodes (count_types (bare_tys args)) (count_types (bare_tys above))
    becomes-of nodes (head, values, terms, e) = (head, (values, terms, e))

    becomes-to : (nodes : List Node) → Becomes nodes (count_types (bare_tys args)) (count_types (bare_tys above)) → BecomesPair nodes (bare_tys args) (bare_tys above)
    becomes-to nodes h = (h.0, (h.1).0, (h.1).1, (h.1).2)

    becomes-same : (nodes : List Node) → Becomes nodes (count_types (bare_tys args)) (count_types (bare_tys above)) → Becomes nodes (length args) (length above)
    becomes-same nodes h = subst (λ n. Becomes nodes n (length above)) (counts-length args) (subst (λ m. Becomes nodes (count_types (bare_tys args)) m) (counts-length above) h)

    becomes-back : (nodes : List Node) → Becomes nodes (length args) (length above) → Becomes nodes (count_types (bare_tys args)) (count_types (bare_tys above))
    becomes-back nodes h = subst (λ n. Becomes nodes n (count_types (bare_tys above))) (sym (counts-length args)) (subst (λ m. Becomes nodes (length args) m) (sym (counts-length above)) h)

    fits-instance : (nodes : List Node) (name : List ℕ) (count : ℕ) → HasForm nodes name count → (pair_fits args above nodes ≡ true) ↔ Becomes nodes (length args) (length above)
    fits-instance nodes name count form =
        let exact = pair-for nodes name form.count form.args count form.ends form.is form.given (bare_tys args) (bare_tys above) in
        (λ h. becomes-same nodes (becomes-of nodes (exact.0 ((fits-exact args above nodes).0 h))), λ i. (fits-exact args above nodes).1 (exact.1 (becomes-to nodes (becomes-back nodes i))))

    either-true : (m n k j : ℕ) → (nat_eq m n || nat_eq k j) ≡ true → (m ≡ n) ⊎ (k ≡ j)
    either-true m n k j h = elim (or-cases (nat_eq m n) (nat_eq k j) h) [ inl e ↦ inl (eqb-true m n e) | inr e ↦ inr (eqb-true k j e) ]

    either-all : (m n k j : ℕ) → (m ≡ n) ⊎ (k ≡ j) → (nat_eq m n || nat_eq k j) ≡ true
    either-all m n k j (inl e) = or_first _ _ (eq-eqb m n e)
    either-all m n k j (inr e) = or_second (nat_eq m n) _ (eq-eqb k j e)

    is_by-true : (entry : Ancestor) (name : List ℕ) (count : ℕ) → HasForm (w.nodes entry.pair) name count → is_by w entry args upper above ≡ true → IsBy entry
    unfolding is_by
    is_by-true entry name count form h =
        let one = nat_eq entry.upper upper || nat_eq (length above) (w.arity upper) in
        let two = in_line w.links entry.upper upper in
        let three = pair_fits args above (w.nodes entry.pair) in
        let firsts = first_so (one && two) three h in
        let i = (fits-instance (w.nodes entry.pair) name count form).0 (second_so (one && two) three h) in
        record {
          line = (line-decides w.links linked entry.upper upper).0 (second_so one two firsts);
          ends = either-true entry.upper upper (length above) (w.arity upper) (first_so one two firsts);
          head = i.0;
          instance = i.1;
        }

    is_by-all : (entry : Ancestor) (name : List ℕ) (count : ℕ) → HasForm (w.nodes entry.pair) name count → IsBy entry → is_by w entry args upper above ≡ true
    unfolding is_by
    is_by-all entry name count form h =
        both _ _ (both _ _ (either-all entry.upper upper (length above) (w.arity upper) h.ends) ((line-decides w.links linked entry.upper upper).1 h.line)) ((fits-instance (w.nodes entry.pair) name count form).1 (h.head, h.instance))

    -- ---- the pair at an index

    record ByPlace (root place : ℕ) : Type 0 where
      entry : Ancestor
      is : slice_get w.above place ≡ Some entry
      owner : entry.class ≡ root
      by : IsBy entry

    entry-true : (root place : ℕ) (o : Option Ancestor) → slice_get w.above place ≡ o → entry_by w root args upper above o ≡ true → ByPlace root place
    entry-true root place None is h = absurd (true≢false (sym h))
    entry-true root place (Some entry) is h =
        let sound = tried.lists.each place entry is in
        let test = nat_eq entry.class root in
        record {
          entry = entry;
          is = is;
          owner = eqb-true entry.class root (first_so test (is_by w entry args upper above) h);
          by = is_by-true entry (w.name entry.upper) sound.count sound.whole (second_so test (is_by w entry args upper above) h);
        }

    place-true : (root place : ℕ) → place_by w root args upper above place ≡ true → ByPlace root place
    unfolding place_by
    place-true root place h = entry-true root place (slice_get w.above place) refl h

    place-all : (root place : ℕ) (entry : Ancestor) → slice_get w.above place ≡ Some entry → entry.class ≡ root → IsBy entry → place_by w root args upper above place ≡ true
    unfolding place_by
    place-all root place entry is owner by =
        let sound = tried.lists.each place entry is in
        ap (entry_by w root args upper above) is ∙ both _ _ (eq-eqb entry.class root owner) (is_by-all entry (w.name entry.upper) sound.count sound.whole by)

    -- ---- the list of a root

    record ByRoot (root : ℕ) : Type 0 where
      place : ℕ
      entry : Ancestor
      listed : InList w root place entry
      by : IsBy entry

    range-true : (root : ℕ) (o : Option (ℕ × ℕ)) → slice_get w.lists root ≡ o → range_by w root args upper above o ≡ true → ByRoot root
    range-true root None is h = absurd (true≢false (sym h))
    range-true root (Some range) is h =
        let some = some-true (place_by w root args upper above) range.0 (range.1 - range.0) h in
        let least = some.1 in
        let most = some.2 in
        let found = place-true root some.0 some.3 in
        record {
          place = some.0;
          entry = found.entry;
          listed = record {
            range = range;
            list = is;
            from = least;
            before = omega (arith, least, most);
            is = found.is;
            owner = found.owner;
          };
          by = found.by;
        }

    list-true : (root : ℕ) → list_by w root args upper above ≡ true → ByRoot root
    unfolding list_by
    list-true root h = range-true root (slice_get w.lists root) refl h

    list-all : (root place : ℕ) (entry : Ancestor) → InList w root place entry → IsBy entry → list_by w root args upper above ≡ true
    unfolding list_by
    list-all root place entry listed by =
        let range = listed.range in
        let least = listed.from in
        let most = listed.before in
        ap (range_by w root args upper above) listed.list ∙ some-all (place_by w root args upper above) range.0 (range.1 - range.0) place least (omega (arith, least, most)) (place-all root place entry listed.is listed.owner by)

    -- ---- that of the root of a class

    link-true : (lower : ℕ) (o : Option ParentLink) → slice_get w.links lower ≡ o → link_by w lower args upper above o ≡ true → ByList w (at_types lower args) (at_types upper above)
    link-true lower None is h = absurd (true≢false (sym h))
    link-true lower (Some link) is h =
        let one = nat_eq link.root lower || nat_eq (length args) (w.arity lower) in
        let two = list_by w link.root args upper above in
        let found = list-true link.root (second_so one two h) in
        record {
          link = link;
          is = is;
          whole = either-true link.root lower (length args) (w.arity lower) (first_so one two h);
          place = found.place;
          entry = found.entry;
          listed = found.listed;
          line = found.by.line;
          ends = found.by.ends;
          head = found.by.head;
          instance = found.by.instance;
        }

    in_list-true : (lower : ℕ) → in_list w lower args upper above ≡ true → ByList w (at_types lower args) (at_types upper above)
    unfolding in_list
    in_list-true lower h = link-true lower (slice_get w.links lower) refl h

    in_list-all : (lower : ℕ) → ByList w (at_types lower args) (at_types upper above) → in_list w lower args upper above ≡ true
    unfolding in_list
    in_list-all lower h =
        ap (link_by w lower args upper above) h.is ∙ both _ _ (either-all h.link.root lower (length args) (w.arity lower) h.whole) (list-all h.link.root h.place h.entry h.listed (record { line = h.line; ends = h.ends; head = h.head; instance = h.instance }))

    -- ---- what is found

    found-true : (lower : ℕ) → found_in w lower args upper above ≡ true → IsFound w (at_types lower args) (at_types upper above)
    unfolding found_in
    found-true lower h = elim (or-cases (in_tree w lower args upper above) (in_list w lower args upper above) h) [ inl e ↦ inl (in_tree-true lower e) | inr e ↦ inr (in_list-true lower e) ]

    found-all : (lower : ℕ) → IsFound w (at_types lower args) (at_types upper above) → found_in w lower args upper above ≡ true
    unfolding found_in
    found-all lower (inl h) = or_first _ _ (in_tree-all lower h)
    found-all lower (inr h) = or_second (in_tree w lower args upper above) _ (in_list-all lower h)

    pub found-decides : (lower : ℕ) → (found_in w lower args upper above ≡ true) ↔ IsFound w (at_types lower args) (at_types upper above)
    found-decides lower = (found-true lower, found-all lower)
