-- Nodes match two types exactly if they are those of a pair whose arguments are the types' with terms for the variables.
use Rattle.std.proofs.Common.{◌≡◌, ℕ, zero, suc, ◌+◌, Bool, true, false, true≢false, ◌||◌, ◌&&◌, nat_eq, List, [], ◌∷◌, ◌++◌, length, Option, None, Some, refl, sym, ap, subst, ◌∙◌, arith, inl, inr}
use Rattle.std.specs.Prelude.{◌⊎◌, ◌↔◌, slice_get}
use Rattle.std.specs.Cmp.{first_so, second_so}
use Rattle.std.specs.Option.{option_map, option_or}
use Rattle.std.proofs.lemmas.Bool.{eqb-true, eq-eqb}
use Rattle.std.proofs.lemmas.List.{append_cancel_left, append-nil}
use Rattle.std.proofs.lemmas.Option.{none-some}
use Rattle.sa_ast.specs.TypeEquality.{same_type_Decides}
use Rattle.sa_ast.specs.Types.{BareTy, BareTys, bare_tys}
use Rattle.sa_unify.specs.declared.pattern.Node.{Node}
use Rattle.sa_unify.specs.declared.pattern.Node.TheVariants as node
use Rattle.sa_subtypes.specs.Questions.{term_of, IsPairFor, Seen, found, past, unlike, walk_all, sought, seeking, item_seen, first_in, is_number, counts_up, value_below, value_from, same_item, occurs, passed_if, comparing, is_past, is_end, both_fit, class_fits, upper_fits, first_fits, pair_fits}
use Rattle.sa_unify.specs.Spelled.{count_types, spelled, spelled_all, Item, a_type, a_mode}
use Rattle.sa_unify.specs.Terms.{IsTerm, Values, AreTerms, substitute, is_variable, comes}
use Rattle.sa_subtypes.proofs.TypeTerms.{cons-head, item_head, item_inside, term-head, spelled-term, item-term, item-equal, substitute-empty, not_empty}
use Rattle.sa_subtypes.proofs.Walks.{past-equal, unlike-past, same_mode-self, same_mode-true, head-unbound, IsCut, cut-all, Outcome, outcome-all}
use Rattle.sa_unify.proofs.Terms.{substitute-same, terms-equal}

-- ---- the binding of a variable as a term

-- a variable without a binding is left
abbrev pub item_terms : ℕ → Option Item → List Node
item_terms number None = node.Variable number ∷ []
item_terms number (Some i) = term_of i

abbrev pub terms_from : (ℕ → Option Item) → Values
terms_from value number = item_terms number (value number)

terms_from-terms : (value : ℕ → Option Item) → AreTerms (terms_from value)
terms_from-terms value number = go (value number)
  where
    go : (o : Option Item) → IsTerm (item_terms number o)
    go None = refl
    go (Some i) = item-term i

-- ---- items that are equal

same_item-self : (i : Item) → same_item i i ≡ true
same_item-self (a_type t) = (same_type_Decides t t).1 refl
same_item-self (a_mode m) = same_mode-self m

same_item-true : (i j : Item) → same_item i j ≡ true → i ≡ j
same_item-true (a_type t) (a_type u) h = ap a_type ((same_type_Decides t u).0 h)
same_item-true (a_type t) (a_mode m) h = absurd (true≢false (sym h))
same_item-true (a_mode m) (a_type t) h = absurd (true≢false (sym h))
same_item-true (a_mode m) (a_mode n) h = ap a_mode (same_mode-true m n h)

-- ---- matching that compares

comparing-past : (value : ℕ → Option Item) (number : ℕ) (i : Item) (rest next : List Node) → comparing value number i rest ≡ past next → (next ≡ rest) × (terms_from value number ≡ term_of i)
unfolding comparing
comparing-past value number i rest next h = go (value number) h
  where
    test : (j : Item) (b : Bool) → same_item j i ≡ b → passed_if b rest ≡ past next → (next ≡ rest) × (term_of j ≡ term_of i)
    test j true e k = (sym (past-equal rest next k), ap term_of (same_item-true j i e))
    test j false e k = absurd (unlike-past next k)

    go : (o : Option Item) → passed_if (occurs o i) rest ≡ past next → (next ≡ rest) × (item_terms number o ≡ term_of i)
    go None k = absurd (unlike-past next k)
    go (Some j) k = test j (same_item j i) refl k

-- what is passed becomes the types with the bindings of the variables
fits-cut : (value : ℕ → Option Item) (ts : BareTys) (nodes rest : List Node) → walk_all (comparing value) ts nodes ≡ past rest → IsCut (terms_from value) nodes (spelled_all ts) rest
fits-cut value ts nodes rest h = cut-all (comparing value) (terms_from value) (comparing-past value) ts nodes rest h

-- no item is a variable
no_variable : (number : ℕ) (i : Item) → node.Variable number ∷ [] ≡ term_of i → ⊥
no_variable number i e =
    let same : node.Variable number ≡ item_head i = cons-head (node.Variable number) (item_head i) [] (item_inside i) (e ∙ term-head i) in
    let own : is_variable number (node.Variable number) ≡ true = eq-eqb number number refl in
    true≢false (sym own ∙ ap (is_variable number) same ∙ head-unbound number i)

comparing-passes : (value : ℕ → Option Item) (number : ℕ) (i : Item) (rest : List Node) → terms_from value number ≡ term_of i → ((comparing value number i rest ≡ past rest) × Unit {0}) ⊎ ((j : Item) × (comparing value number i rest ≡ found j) × ⊥)
unfolding comparing
comparing-passes value number i rest h = go (value number) h
  where
    go : (o : Option Item) → item_terms number o ≡ term_of i → ((passed_if (occurs o i) rest ≡ past rest) × Unit {0}) ⊎ ((j : Item) × (passed_if (occurs o i) rest ≡ found j) × ⊥)
    go None k = absurd (no_variable number i k)
    go (Some j) k = inl (ap (λ x. passed_if (same_item x i) rest) (item-equal j i k) ∙ ap (λ b. passed_if b rest) (same_item-self i), tt)

outcome-past : (first rest : List Node) (r : Seen) → Outcome (λ _. Unit {0}) (λ _. ⊥) first rest r → r ≡ past rest
outcome-past first rest r (inl h) = h.0
outcome-past first rest r (inr h) = absurd h.2

fits-passes : (value : ℕ → Option Item) (ts : BareTys) (first rest : List Node) → substitute (terms_from value) first ≡ spelled_all ts → walk_all (comparing value) ts (first ++ rest) ≡ past rest
fits-passes value ts first rest e =
    outcome-past first rest (walk_all (comparing value) ts (first ++ rest)) (outcome-all (comparing value) (terms_from value) (terms_from-terms value) (λ _. Unit {0}) (λ _. ⊥) (comparing-passes value) ts first rest e)

-- ---- matching that searches for nothing

skips : (values : Values) → AreTerms values → (ts : BareTys) (first rest : List Node) → substitute values first ≡ spelled_all ts → walk_all (seeking None) ts (first ++ rest) ≡ past rest
unfolding seeking
skips values terms ts first rest e =
    outcome-past first rest (walk_all (seeking None) ts (first ++ rest)) (outcome-all (seeking None) values terms (λ _. Unit {0}) (λ _. ⊥) (λ number i next k. inl (refl, tt)) ts first rest e)

-- ---- matching that searches for a variable

not_itself : (number : ℕ) → nat_eq number number ≡ false → ⊥
not_itself number h = true≢false (sym (eq-eqb number number refl) ∙ h)

module _ (values : Values) (terms : AreTerms values) (number : ℕ) where
  seeking-passes : (other : ℕ) (i : Item) (rest : List Node) → values other ≡ term_of i → ((seeking (Some number) other i rest ≡ past rest) × (other ≡ number → ⊥)) ⊎ ((j : Item) × (seeking (Some number) other i rest ≡ found j) × (term_of j ≡ values number))
  unfolding seeking
  seeking-passes other i rest h = go (nat_eq other number) refl
    where
      go : (b : Bool) → nat_eq other number ≡ b → ((sought b i rest ≡ past rest) × (other ≡ number → ⊥)) ⊎ ((j : Item) × (sought b i rest ≡ found j) × (term_of j ≡ values number))
      go true e = inr (i, refl, sym h ∙ ap values (eqb-true other number e))
      go false e = inl (refl, λ same. not_itself number (subst (λ k. nat_eq k number ≡ false) same e))

  -- an item is found whose term is the variable's, or none, and then the variable doesn't occur
  first-found : (ts : BareTys) (first rest : List Node) → substitute values first ≡ spelled_all ts → ((i : Item) × (first_in number ts (first ++ rest) ≡ Some i) × (term_of i ≡ values number)) ⊎ ((first_in number ts (first ++ rest) ≡ None) × (comes number first ≡ true → ⊥))
  unfolding first_in
  first-found ts first rest e = go (walk_all (seeking (Some number)) ts (first ++ rest)) (outcome-all (seeking (Some number)) values terms (λ other. other ≡ number → ⊥) (λ j. term_of j ≡ values number) seeking-passes ts first rest e)
    where
      go : (r : Seen) → Outcome (λ other. other ≡ number → ⊥) (λ j. term_of j ≡ values number) first rest r → ((i : Item) × (item_seen r ≡ Some i) × (term_of i ≡ values number)) ⊎ ((item_seen r ≡ None) × (comes number first ≡ true → ⊥))
      go r (inl (e, f)) = inr (ap item_seen e, λ c. f number c refl)
      go r (inr (i, e, good)) = inl (i, ap item_seen e, good)

-- ---- plain variables

is_number-true : (number : ℕ) (a : Node) → is_number number a ≡ true → a ≡ node.Variable number
is_number-true number (node.Variable other) h = ap node.Variable (eqb-true other number h)
is_number-true number _ h = cc

module _ (values : Values) (terms : AreTerms values) where
  -- the first variable is bound to the first type
  plain-step : (from : ℕ) (t : BareTy) (ls : List BareTy) (below rest : List Node) → counts_up from (suc (length ls)) (below ++ rest) ≡ true → substitute values below ≡ spelled t ++ spelled_all (bare_tys ls) → (more : List Node) × (below ≡ node.Variable from ∷ more) × (counts_up (suc from) (length ls) (more ++ rest) ≡ true) × (values from ≡ spelled t) × (substitute values more ≡ spelled_all (bare_tys ls))
  unfolding counts_up
  plain-step from t ls [] rest h e = absurd (not_empty t (spelled_all (bare_tys ls)) (sym e))
  plain-step from t ls (a ∷ more) rest h e =
      let here : a ≡ node.Variable from = is_number-true from a (first_so (is_number from a) (counts_up (suc from) (length ls) (more ++ rest)) h) in
      let f : values from ++ substitute values more ≡ spelled t ++ spelled_all (bare_tys ls) = ap (λ x. substitute values (x ∷ more)) (sym here) ∙ e in
      let same : values from ≡ spelled t = terms-equal (values from) (spelled t) (substitute values more) (spelled_all (bare_tys ls)) (terms from) (spelled-term t) f in
      (more, ap (λ x. x ∷ more) here, second_so (is_number from a) (counts_up (suc from) (length ls) (more ++ rest)) h, same, append_cancel_left (spelled t) (substitute values more) (spelled_all (bare_tys ls)) (ap (λ l. l ++ substitute values more) (sym same) ∙ f))

  plain-value : (from : ℕ) (ls : List BareTy) (below rest : List Node) → counts_up from (length ls) (below ++ rest) ≡ true → substitute values below ≡ spelled_all (bare_tys ls) → (j : ℕ) (t : BareTy) → slice_get ls j ≡ Some t → spelled t ≡ values (from + j)
  plain-value from [] below rest h e j t g = absurd (none-some t g)
  plain-value from (u ∷ ls) below rest h e zero t g =
      let s = plain-step from u ls below rest h e in
      let same : u ≡ t = cc in
      let sum : from ≡ from + 0 = omega arith in
      ap spelled (sym same) ∙ sym s.3 ∙ ap values sum
  plain-value from (u ∷ ls) below rest h e (suc j) t g =
      let s = plain-step from u ls below rest h e in
      let sum : suc from + j ≡ from + suc j = omega arith in
      plain-value (suc from) ls s.0 rest s.2 s.4 j t g ∙ ap values sum

  plain-comes : (from : ℕ) (ls : List BareTy) (below rest : List Node) → counts_up from (length ls) (below ++ rest) ≡ true → substitute values below ≡ spelled_all (bare_tys ls) → (number : ℕ) → comes number below ≡ true → (j : ℕ) × (t : BareTy) × (number ≡ from + j) × (slice_get ls j ≡ Some t)
  plain-comes from [] below rest h e number c = absurd (true≢false (sym c ∙ ap (comes number) (substitute-empty values terms below e)))
  plain-comes from (u ∷ ls) below rest h e number c =
      let s = plain-step from u ls below rest h e in
      go s (nat_eq from number) refl (ap (comes number) (sym s.1) ∙ c) (λ k. plain-comes (suc from) ls s.0 rest s.2 s.4 number k)
    where
      go : (s : (more : List Node) × (below ≡ node.Variable from ∷ more) × (counts_up (suc from) (length ls) (more ++ rest) ≡ true) × (values from ≡ spelled u) × (substitute values more ≡ spelled_all (bare_tys ls))) (b : Bool) → nat_eq from number ≡ b → (nat_eq from number || comes number s.0) ≡ true → (comes number s.0 ≡ true → (j : ℕ) × (t : BareTy) × (number ≡ suc from + j) × (slice_get ls j ≡ Some t)) → (j : ℕ) × (t : BareTy) × (number ≡ from + j) × (slice_get (u ∷ ls) j ≡ Some t)
      go s true k c more = let same : from ≡ number = eqb-true from number k in (0, u, omega arith, refl)
      go s false k c more =
          let found_more = more (ap (λ b. b || comes number s.0) (sym k) ∙ c) in
          let is : number ≡ suc from + found_more.0 = found_more.2 in
          (suc found_more.0, found_more.1, omega (arith, is), found_more.3)

-- ---- the binding of each variable is what it becomes

module _ (lower upper : List BareTy) (values : Values) (terms : AreTerms values) (below rest above : List Node) (first : substitute values below ≡ spelled_all (bare_tys lower)) (second : substitute values above ≡ spelled_all (bare_tys upper)) where
  IsBound : Option Item → ℕ → Type 0
  IsBound o number = (i : Item) × (o ≡ Some i) × (term_of i ≡ values number)

  -- in the subtype's nodes
  below-value : (plain : Bool) → counts_up 0 (length lower) (below ++ rest) ≡ plain → (number : ℕ) → ((i : Item) × (value_below plain lower (below ++ rest) number ≡ Some i) × (term_of i ≡ values number)) ⊎ ((value_below plain lower (below ++ rest) number ≡ None) × (comes number below ≡ true → ⊥))
  below-value false h number = first-found values terms number (bare_tys lower) below rest first
  below-value true h number = go (slice_get lower number) refl
    where
      go : (o : Option BareTy) → slice_get lower number ≡ o → ((i : Item) × (option_map a_type o ≡ Some i) × (term_of i ≡ values number)) ⊎ ((option_map a_type o ≡ None) × (comes number below ≡ true → ⊥))
      go (Some t) e =
          let sum : 0 + number ≡ number = omega arith in
          inl (a_type t, refl, plain-value values terms 0 lower below rest h first number t e ∙ ap values sum)
      go None e = inr (refl, λ c. missing (plain-comes values terms 0 lower below rest h first number c))
        where
          missing : (j : ℕ) × (t : BareTy) × (number ≡ 0 + j) × (slice_get lower j ≡ Some t) → ⊥
          missing (j, t, is, g) =
              let same : j ≡ number = omega (arith, is) in
              none-some t (sym e ∙ ap (slice_get lower) (sym same) ∙ g)

  value : ℕ → Option Item
  value = value_from (counts_up 0 (length lower) (below ++ rest)) lower upper (below ++ rest) above

  abbrev Stands : Option Item → ℕ → Type 0
  Stands o number = (i : Item) × (o ≡ Some i) × (term_of i ≡ values number)

  value-bound : (number : ℕ) → (comes number below ≡ true) ⊎ (comes number above ≡ true) → Stands (value number) number
  unfolding value value_from
  value-bound number c = go (value_below (counts_up 0 (length lower) (below ++ rest)) lower (below ++ rest) number) (below-value (counts_up 0 (length lower) (below ++ rest)) refl number) c
    where
      over : (o : Option Item) → (comes number above ≡ true → ⊥) ⊎ Stands o number → comes number above ≡ true → Stands o number
      over o (inl never) k = absurd (never k)
      over o (inr s) k = s

      last : (o : Option Item) → ((i : Item) × (o ≡ Some i) × (term_of i ≡ values number)) ⊎ ((o ≡ None) × (comes number above ≡ true → ⊥)) → (comes number above ≡ true → ⊥) ⊎ Stands o number
      last o (inl s) = inr s
      last o (inr n) = inl n.1

      go : (o : Option Item) → ((i : Item) × (o ≡ Some i) × (term_of i ≡ values number)) ⊎ ((o ≡ None) × (comes number below ≡ true → ⊥)) → (comes number below ≡ true) ⊎ (comes number above ≡ true) → Stands (option_or o (first_in number (bare_tys upper) above)) number
      go o (inl (i, e, good)) k = (i, ap (λ x. option_or x (first_in number (bare_tys upper) above)) e, good)
      go o (inr (e, never)) (inl k) = absurd (never k)
      go o (inr (e, never)) (inr k) =
          let whole : above ++ [] ≡ above = append-nil above in
          let s = over (first_in number (bare_tys upper) above) (last (first_in number (bare_tys upper) above) (subst (λ l. ((i : Item) × (first_in number (bare_tys upper) l ≡ Some i) × (term_of i ≡ values number)) ⊎ ((first_in number (bare_tys upper) l ≡ None) × (comes number above ≡ true → ⊥))) whole (first-found values terms number (bare_tys upper) above [] second))) k in
          (s.0, ap (λ x. option_or x (first_in number (bare_tys upper) above)) e ∙ s.1, s.2)

  same-terms : (number : ℕ) → (comes number below ≡ true) ⊎ (comes number above ≡ true) → terms_from value number ≡ values number
  same-terms number c = let s = value-bound number c in ap (item_terms number) s.1 ∙ s.2

  below-fits : walk_all (comparing value) (bare_tys lower) (below ++ rest) ≡ past rest
  below-fits = fits-passes value (bare_tys lower) below rest (substitute-same (terms_from value) values below (λ n c. same-terms n (inl c)) ∙ first)

  above-fits : walk_all (comparing value) (bare_tys upper) above ≡ past []
  above-fits = ap (walk_all (comparing value) (bare_tys upper)) (sym (append-nil above)) ∙ fits-passes value (bare_tys upper) above [] (substitute-same (terms_from value) values above (λ n c. same-terms n (inr c)) ∙ second)

  pub both-fit : both_fit (value_from (counts_up 0 (length lower) (below ++ rest)) lower upper (below ++ rest) above) lower upper (below ++ rest) above ≡ true
  unfolding value both_fit
  both-fit = ap (λ r. is_past r && is_end (walk_all (comparing value) (bare_tys upper) above)) below-fits ∙ ap is_end above-fits

-- ---- the whole

counts-length : (ls : List BareTy) → count_types (bare_tys ls) ≡ length ls
counts-length [] = refl
counts-length (t ∷ ls) = let more : count_types (bare_tys ls) ≡ length ls = counts-length ls in omega (arith, more)

and_true : (a b : Bool) → a ≡ true → b ≡ true → (a && b) ≡ true
and_true true b h k = k
and_true false b h k = h

module _ (lower upper : List BareTy) where
  fits-complete : (nodes : List Node) → IsPairFor nodes (bare_tys lower) (bare_tys upper) → pair_fits lower upper nodes ≡ true
  unfolding pair_fits upper_fits
  fits-complete nodes (name, below, above, values, is, terms, first, second) =
      let n = count_types (bare_tys lower) in
      let m = count_types (bare_tys upper) in
      let rest = node.Class name m ∷ above in
      let inner : upper_fits lower upper (below ++ rest) (walk_all (seeking None) (bare_tys lower) (below ++ rest)) ≡ true =
      ap (upper_fits lower upper (below ++ rest)) (skips values terms (bare_tys lower) below rest first) ∙ and_true (nat_eq m (length upper)) (both_fit (value_from (counts_up 0 (length lower) (below ++ rest)) lower upper (below ++ rest) above) lower upper (below ++ rest) above) (eq-eqb m (length upper) (counts-length upper)) (both-fit lower upper values terms below rest above first second) in
      ap (pair_fits lower upper) is ∙ and_true (nat_eq n (length lower)) (upper_fits lower upper (below ++ rest) (walk_all (seeking None) (bare_tys lower) (below ++ rest))) (eq-eqb n (length lower) (counts-length lower)) inner

  -- what `is_past` and `is_end` say
  past-true : (r : Seen) → is_past r ≡ true → (rest : List Node) × (r ≡ past rest)
  past-true (past rest) h = (rest, refl)
  past-true (found i) h = absurd (true≢false (sym h))
  past-true unlike h = absurd (true≢false (sym h))

  end-true : (r : Seen) → is_end r ≡ true → r ≡ past []
  end-true (past []) h = refl
  end-true (past (a ∷ rest)) h = absurd (true≢false (sym h))
  end-true (found i) h = absurd (true≢false (sym h))
  end-true unlike h = absurd (true≢false (sym h))

  class-sound : (count : ℕ) (nodes above : List Node) (a : Node) → walk_all (seeking None) (bare_tys lower) nodes ≡ past (a ∷ above) → count ≡ length lower → class_fits lower upper nodes above a ≡ true → IsPairFor (node.List count ∷ nodes) (bare_tys lower) (bare_tys upper)
  unfolding both_fit
  class-sound count nodes above (node.Class name m) skip c h =
      let value = value_from (counts_up 0 (length lower) nodes) lower upper nodes above in
      let tests = second_so (nat_eq m (length upper)) (is_past (walk_all (comparing value) (bare_tys lower) nodes) && is_end (walk_all (comparing value) (bare_tys upper) above)) h in
      let counted : m ≡ length upper = eqb-true m (length upper) (first_so (nat_eq m (length upper)) (is_past (walk_all (comparing value) (bare_tys lower) nodes) && is_end (walk_all (comparing value) (bare_tys upper) above)) h) in
      let gone = past-true (walk_all (comparing value) (bare_tys lower) nodes) (first_so (is_past (walk_all (comparing value) (bare_tys lower) nodes)) (is_end (walk_all (comparing value) (bare_tys upper) above)) tests) in
      let ended = end-true (walk_all (comparing value) (bare_tys upper) above) (second_so (is_past (walk_all (comparing value) (bare_tys lower) nodes)) (is_end (walk_all (comparing value) (bare_tys upper) above)) tests) in
      let cut = fits-cut value (bare_tys lower) nodes gone.0 gone.1 in
      let last = fits-cut value (bare_tys upper) above [] ended in
      let same : gone.0 ≡ node.Class name m ∷ above = past-equal gone.0 (node.Class name m ∷ above) (sym (ap (walk_all (seeking None) (bare_tys lower)) cut.1 ∙ skips (terms_from value) (terms_from-terms value) (bare_tys lower) cut.0 gone.0 cut.2) ∙ skip) in
      let whole : above ≡ last.0 = last.1 ∙ append-nil last.0 in
      let lowers : count ≡ count_types (bare_tys lower) = c ∙ sym (counts-length lower) in
      let uppers : m ≡ count_types (bare_tys upper) = counted ∙ sym (counts-length upper) in
      (name, cut.0, above, terms_from value, ap (λ l. node.List count ∷ l) (cut.1 ∙ ap (λ l. cut.0 ++ l) same) ∙ ap (λ k. node.List k ∷ (cut.0 ++ node.Class name m ∷ above)) lowers ∙ ap (λ k. node.List (count_types (bare_tys lower)) ∷ (cut.0 ++ node.Class name k ∷ above)) uppers, terms_from-terms value, cut.2, ap (substitute (terms_from value)) whole ∙ last.2)
  class-sound count nodes above _ skip c h = absurd (true≢false (sym h))

  upper-sound : (count : ℕ) (nodes : List Node) (r : Seen) → walk_all (seeking None) (bare_tys lower) nodes ≡ r → count ≡ length lower → upper_fits lower upper nodes r ≡ true → IsPairFor (node.List count ∷ nodes) (bare_tys lower) (bare_tys upper)
  unfolding upper_fits
  upper-sound count nodes (past []) skip c h = absurd (true≢false (sym h))
  upper-sound count nodes (past (a ∷ above)) skip c h = class-sound count nodes above a skip c h
  upper-sound count nodes (found i) skip c h = absurd (true≢false (sym h))
  upper-sound count nodes unlike skip c h = absurd (true≢false (sym h))

  first-sound : (nodes : List Node) (a : Node) → first_fits lower upper nodes a ≡ true → IsPairFor (a ∷ nodes) (bare_tys lower) (bare_tys upper)
  first-sound nodes (node.List count) h =
      let r = walk_all (seeking None) (bare_tys lower) nodes in
      upper-sound count nodes r refl (eqb-true count (length lower) (first_so (nat_eq count (length lower)) (upper_fits lower upper nodes r) h)) (second_so (nat_eq count (length lower)) (upper_fits lower upper nodes r) h)
  first-sound nodes _ h = absurd (true≢false (sym h))

  fits-sound : (nodes : List Node) → pair_fits lower upper nodes ≡ true → IsPairFor nodes (bare_tys lower) (bare_tys upper)
  unfolding pair_fits
  fits-sound [] h = absurd (true≢false (sym h))
  fits-sound (a ∷ nodes) h = first-sound nodes a h

  pub fits-exact : (nodes : List Node) → (pair_fits lower upper nodes ≡ true) ↔ IsPairFor nodes (bare_tys lower) (bare_tys upper)
  fits-exact nodes = (fits-sound nodes, fits-complete nodes)
