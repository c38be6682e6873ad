-- The terms of types: each is one term, and types with equal terms are equal.
use Rattle.std.proofs.Common.{◌≡◌, ℕ, zero, suc, ◌+◌, List, [], ◌∷◌, ◌++◌, Some, length, refl, sym, ap, subst, ◌∙◌, arith, append_assoc, inl, inr}
use Rattle.std.specs.Prelude.{◌⊎◌}
use Rattle.std.proofs.lemmas.List.{append_cancel_left, append-nil}
use Rattle.std.proofs.lemmas.Option.{none-some}
use Rattle.sa_ast.specs.declared.ty.Mode.{Mode}
use Rattle.sa_ast.specs.Types.{BareTy, Named, Same, Rout, Iter, BareTys, no_types, type, BareArgs, no_args, arg, BareResult, no_result, gives}
use Rattle.sa_unify.specs.declared.pattern.Node.{Node}
use Rattle.sa_unify.specs.declared.pattern.Node.TheVariants as node
use Rattle.sa_subtypes.specs.Questions.{spelled_args, spelled_result, term_of}
use Rattle.sa_unify.specs.Spelled.{count_types, count_args, count_result, spelled, spelled_all, Item, a_type, a_mode}
use Rattle.sa_unify.specs.Terms.{held, following, IsTerm, Values, AreTerms, value_of, substitute}
use Rattle.sa_unify.proofs.Terms.{behind_none, following-append, following-split, terms-equal}

-- ---- lists of nodes

pub no_cons : (a : Node) (l : List Node) → a ∷ l ≡ [] → ⊥
no_cons a l e = omega (arith, ap length e)

pub cons-head : (a b : Node) (l m : List Node) → a ∷ l ≡ b ∷ m → a ≡ b
cons-head a b l m e = cc

pub cons-tail : (a b : Node) (l m : List Node) → a ∷ l ≡ b ∷ m → l ≡ m
cons-tail a b l m e = cc

some_cons : (a : Node) (l : List Node) → Some (a ∷ l) ≡ Some [] → ⊥
some_cons a l e = let none : a ∷ l ≡ [] = cc in no_cons a l none

-- ---- a type's first node and what is after it

abbrev pub head_of : BareTy → Node
head_of (Named name args) = node.Class name (count_types args)
head_of Same = node.List 0
head_of (Rout args of) = node.Routine (count_args args + count_result of)
head_of (Iter args of) = node.Iter (count_args args + count_result of)

abbrev pub inside : BareTy → List Node
inside (Named name args) = spelled_all args
inside Same = []
inside (Rout args of) = spelled_args args ++ spelled_result of
inside (Iter args of) = spelled_args args ++ spelled_result of

pub spelled-head : (t : BareTy) → spelled t ≡ head_of t ∷ inside t
spelled-head (Named name no_types) = refl
spelled-head (Named name (type t more)) = refl
spelled-head Same = refl
spelled-head (Rout args of) = refl
spelled-head (Iter args of) = refl

-- the same of an item
abbrev pub item_head : Item → Node
item_head (a_type t) = head_of t
item_head (a_mode m) = node.Passed m

abbrev pub item_inside : Item → List Node
item_inside (a_type t) = inside t
item_inside (a_mode m) = []

pub term-head : (i : Item) → term_of i ≡ item_head i ∷ item_inside i
term-head (a_type t) = spelled-head t
term-head (a_mode m) = refl

-- ---- each is one term

term_from : (t : BareTy) → following (inside t) (held (head_of t)) ≡ Some [] → IsTerm (spelled t)
term_from t h =
    let e : held (head_of t) + 0 ≡ held (head_of t) = omega arith in
    ap (λ l. following l 1) (spelled-head t) ∙ ap (following (inside t)) e ∙ h

mutual
  inside-terms : (t : BareTy) → following (inside t) (held (head_of t)) ≡ Some []
  inside-terms (Named name args) = all-terms args
  inside-terms Same = refl
  inside-terms (Rout args of) = following-append (spelled_args args) (spelled_result of) (count_args args) (count_result of) (args-terms args) ∙ result-terms of
  inside-terms (Iter args of) = following-append (spelled_args args) (spelled_result of) (count_args args) (count_result of) (args-terms args) ∙ result-terms of

  pub all-terms : (ts : BareTys) → following (spelled_all ts) (count_types ts) ≡ Some []
  all-terms no_types = refl
  all-terms (type t more) =
      let e : suc (count_types more) ≡ 1 + count_types more = omega arith in
      ap (following (spelled t ++ spelled_all more)) e ∙ following-append (spelled t) (spelled_all more) 1 (count_types more) (term_from t (inside-terms t)) ∙ all-terms more

  pub args-terms : (xs : BareArgs) → following (spelled_args xs) (count_args xs) ≡ Some []
  args-terms no_args = refl
  args-terms (arg m t more) =
      let e : 0 + suc (count_args more) ≡ 1 + count_args more = omega arith in
      ap (following (spelled t ++ spelled_args more)) e ∙ following-append (spelled t) (spelled_args more) 1 (count_args more) (term_from t (inside-terms t)) ∙ args-terms more

  pub result-terms : (r : BareResult) → following (spelled_result r) (count_result r) ≡ Some []
  result-terms no_result = refl
  result-terms (gives t) = term_from t (inside-terms t)

pub spelled-term : (t : BareTy) → IsTerm (spelled t)
spelled-term t = term_from t (inside-terms t)

pub item-term : (i : Item) → IsTerm (term_of i)
item-term (a_type t) = spelled-term t
item-term (a_mode m) = refl

-- ---- equal terms are those of equal types

pub not_empty : (t : BareTy) (l : List Node) → spelled t ++ l ≡ [] → ⊥
not_empty t l e = no_cons (head_of t) (inside t ++ l) (ap (λ w. w ++ l) (sym (spelled-head t)) ∙ e)

not_passed : (t : BareTy) (m : Mode) → head_of t ≡ node.Passed m → ⊥
not_passed (Named name args) m e = cc
not_passed Same m e = cc
not_passed (Rout args of) m e = cc
not_passed (Iter args of) m e = cc

no_result-args : (r : BareResult) (m : Mode) (l : List Node) → spelled_result r ≡ node.Passed m ∷ l → ⊥
no_result-args no_result m l e = no_cons (node.Passed m) l (sym e)
no_result-args (gives t) m l e = not_passed t m (cons-head (head_of t) (node.Passed m) (inside t) l (sym (spelled-head t) ∙ e))

heads-equal : (t u : BareTy) → spelled t ≡ spelled u → head_of t ≡ head_of u
heads-equal t u e = cons-head (head_of t) (head_of u) (inside t) (inside u) (sym (spelled-head t) ∙ e ∙ spelled-head u)

insides-equal : (t u : BareTy) → spelled t ≡ spelled u → inside t ≡ inside u
insides-equal t u e = cons-tail (head_of t) (head_of u) (inside t) (inside u) (sym (spelled-head t) ∙ e ∙ spelled-head u)

-- a term at the head of two equal lists
split-term : (t u : BareTy) (l m : List Node) → spelled t ++ l ≡ spelled u ++ m → (spelled t ≡ spelled u) × (l ≡ m)
split-term t u l m e =
    let here : spelled t ≡ spelled u = terms-equal (spelled t) (spelled u) l m (spelled-term t) (spelled-term u) e in
    (here, append_cancel_left (spelled t) l m (e ∙ ap (λ w. w ++ m) (sym here)))

passed-equal : (m n : Mode) → node.Passed m ≡ node.Passed n → m ≡ n
passed-equal m n e = cc

mutual
  inside-equal : (t u : BareTy) → head_of t ≡ head_of u → inside t ≡ inside u → t ≡ u
  inside-equal (Named n ts) (Named m us) h e = let names : n ≡ m = cc in let types : ts ≡ us = all-equal ts us e in cc
  inside-equal Same Same h e = refl
  inside-equal (Rout xs a) (Rout ys b) h e = let both = bound-equal xs ys a b e in let args : xs ≡ ys = both.0 in let results : a ≡ b = result-equal a b both.1 in cc
  inside-equal (Iter xs a) (Iter ys b) h e = let both = bound-equal xs ys a b e in let args : xs ≡ ys = both.0 in let results : a ≡ b = result-equal a b both.1 in cc
  inside-equal _ _ h e = cc

  all-equal : (ts us : BareTys) → spelled_all ts ≡ spelled_all us → ts ≡ us
  all-equal no_types no_types e = refl
  all-equal no_types (type u us) e = absurd (not_empty u (spelled_all us) (sym e))
  all-equal (type t ts) no_types e = absurd (not_empty t (spelled_all ts) e)
  all-equal (type t ts) (type u us) e =
      let parts = split-term t u (spelled_all ts) (spelled_all us) e in
      let first : t ≡ u = inside-equal t u (heads-equal t u parts.0) (insides-equal t u parts.0) in
      let rest : ts ≡ us = all-equal ts us parts.1 in
      cc

  bound-equal : (xs ys : BareArgs) (a b : BareResult) → spelled_args xs ++ spelled_result a ≡ spelled_args ys ++ spelled_result b → (xs ≡ ys) × (spelled_result a ≡ spelled_result b)
  bound-equal no_args no_args a b e = (refl, e)
  bound-equal no_args (arg m t ys) a b e = absurd (no_result-args a m ((spelled t ++ spelled_args ys) ++ spelled_result b) e)
  bound-equal (arg m t xs) no_args a b e = absurd (no_result-args b m ((spelled t ++ spelled_args xs) ++ spelled_result a) (sym e))
  bound-equal (arg m t xs) (arg n u ys) a b e =
      let one = (spelled t ++ spelled_args xs) ++ spelled_result a in
      let other = (spelled u ++ spelled_args ys) ++ spelled_result b in
      let modes : m ≡ n = passed-equal m n (cons-head (node.Passed m) (node.Passed n) one other e) in
      let tails : one ≡ other = cons-tail (node.Passed m) (node.Passed n) one other e in
      let parts = split-term t u (spelled_args xs ++ spelled_result a) (spelled_args ys ++ spelled_result b) (sym (append_assoc (spelled t) (spelled_args xs) (spelled_result a)) ∙ tails ∙ append_assoc (spelled u) (spelled_args ys) (spelled_result b)) in
      let first : t ≡ u = inside-equal t u (heads-equal t u parts.0) (insides-equal t u parts.0) in
      let more = bound-equal xs ys a b parts.1 in
      let rest : xs ≡ ys = more.0 in
      let args : arg m t xs ≡ arg n u ys = cc in
      (args, more.1)

  result-equal : (a b : BareResult) → spelled_result a ≡ spelled_result b → a ≡ b
  result-equal no_result no_result e = refl
  result-equal no_result (gives u) e = absurd (no_cons (head_of u) (inside u) (sym (e ∙ spelled-head u)))
  result-equal (gives t) no_result e = absurd (no_cons (head_of t) (inside t) (sym (spelled-head t) ∙ e))
  result-equal (gives t) (gives u) e = ap gives (inside-equal t u (heads-equal t u e) (insides-equal t u e))

pub spelled-equal : (t u : BareTy) → spelled t ≡ spelled u → t ≡ u
spelled-equal t u e = inside-equal t u (heads-equal t u e) (insides-equal t u e)

pub item-equal : (i j : Item) → term_of i ≡ term_of j → i ≡ j
item-equal (a_type t) (a_type u) e = ap a_type (spelled-equal t u e)
item-equal (a_type t) (a_mode m) e = absurd (not_passed t m (cons-head (head_of t) (node.Passed m) (inside t) [] (sym (spelled-head t) ∙ e)))
item-equal (a_mode m) (a_type t) e = absurd (not_passed t m (cons-head (head_of t) (node.Passed m) (inside t) [] (sym (spelled-head t) ∙ sym e)))
item-equal (a_mode m) (a_mode n) e = ap a_mode (passed-equal m n (cons-head (node.Passed m) (node.Passed n) [] [] e))

-- ---- terms substituted for variables that are those of given terms

-- the nodes after n terms are those after some of them and the others
following-parts : (l r : List Node) (j k : ℕ) → following l (j + k) ≡ Some r → (m : List Node) × (following l j ≡ Some m) × (following m k ≡ Some r)
following-parts l r zero k h = let e : zero + k ≡ k = omega arith in (l, behind_none l, ap (following l) (sym e) ∙ h)
following-parts [] r (suc j) k h = let e : suc j + k ≡ suc (j + k) = omega arith in absurd (none-some r (ap (following []) (sym e) ∙ h))
following-parts (a ∷ l) r (suc j) k h =
    let e : suc j + k ≡ suc (j + k) = omega arith in
    let f : held a + (j + k) ≡ (held a + j) + k = omega arith in
    following-parts l r (held a + j) k (ap (following l) (sym f) ∙ ap (following (a ∷ l)) (sym e) ∙ h)

-- what is substituted for a node is something
no_value : (values : Values) → AreTerms values → (a : Node) (l : List Node) → value_of values a ++ l ≡ [] → ⊥
no_value values terms (node.Variable number) l e = go (values number) (terms number) e
  where
    go : (w : List Node) → IsTerm w → w ++ l ≡ [] → ⊥
    go [] h k = none-some [] h
    go (a ∷ w) h k = no_cons a (w ++ l) k
no_value values terms (node.Class name count) l e = no_cons (node.Class name count) l e
no_value values terms (node.Routine count) l e = no_cons (node.Routine count) l e
no_value values terms (node.Iter count) l e = no_cons (node.Iter count) l e
no_value values terms (node.Passed mode) l e = no_cons (node.Passed mode) l e
no_value values terms (node.List count) l e = no_cons (node.List count) l e

pub substitute-empty : (values : Values) → AreTerms values → (w : List Node) → substitute values w ≡ [] → w ≡ []
substitute-empty values terms [] e = refl
substitute-empty values terms (a ∷ w) e = absurd (no_value values terms a (substitute values w) e)

-- nodes that become the one list and then the other
abbrev pub IsSplit : Values → List Node → List Node → List Node → Type 0
IsSplit values w t u = (first : List Node) × (rest : List Node) × (w ≡ first ++ rest) × (substitute values first ≡ t) × (substitute values rest ≡ u)

split-more : (values : Values) (a b : Node) (w t u : List Node) → value_of values a ≡ a ∷ [] → a ≡ b → IsSplit values w t u → IsSplit values (a ∷ w) (b ∷ t) u
split-more values a b w t u own same s =
    (a ∷ s.0, s.1, ap (λ l. a ∷ l) s.2, ap (λ l. l ++ substitute values s.0) own ∙ ap (λ l. a ∷ l) s.3 ∙ ap (λ x. x ∷ t) same, s.4)

split-variable : (values : Values) (number : ℕ) (w term t u : List Node) → values number ≡ term → IsSplit values w t u → IsSplit values (node.Variable number ∷ w) (term ++ t) u
split-variable values number w term t u same s =
    (node.Variable number ∷ s.0, s.1, ap (λ l. node.Variable number ∷ l) s.2, ap (λ l. l ++ substitute values s.0) same ∙ ap (λ l. term ++ l) s.3, s.4)

module _ (values : Values) (terms : AreTerms values) where
  pub substitute-split : (w t u : List Node) (k : ℕ) → following t k ≡ Some [] → substitute values w ≡ t ++ u → IsSplit values w t u
  substitute-split w [] u zero h e = ([], w, refl, refl, e)
  substitute-split w [] u (suc k) h e = absurd (none-some [] h)
  substitute-split w (b ∷ t) u zero h e = absurd (some_cons b t h)
  substitute-split [] (b ∷ t) u (suc k) h e = absurd (no_cons b (t ++ u) (sym e))
  substitute-split (node.Variable number ∷ w) (b ∷ t) u (suc k) h e =
      let sum : 1 + k ≡ suc k = omega arith in
      let parts = following-parts (b ∷ t) [] 1 k (ap (following (b ∷ t)) sum ∙ h) in
      let first = following-split (b ∷ t) parts.0 1 parts.1 in
      let whole : values number ++ substitute values w ≡ first.0 ++ (parts.0 ++ u) = e ∙ ap (λ l. l ++ u) first.1 ∙ append_assoc first.0 parts.0 u in
      let same : values number ≡ first.0 = terms-equal (values number) first.0 (substitute values w) (parts.0 ++ u) (terms number) first.2 whole in
      let rest : substitute values w ≡ parts.0 ++ u = append_cancel_left first.0 (substitute values w) (parts.0 ++ u) (ap (λ l. l ++ substitute values w) (sym same) ∙ whole) in
      subst (λ l. IsSplit values (node.Variable number ∷ w) l u) (sym first.1) (split-variable values number w first.0 parts.0 u same (substitute-split w parts.0 u k parts.2 rest))
  substitute-split (node.Class name count ∷ w) (b ∷ t) u (suc k) h e =
      split-more values (node.Class name count) b w t u refl (cons-head (node.Class name count) b (substitute values w) (t ++ u) e) (substitute-split w t u (held b + k) h (cons-tail (node.Class name count) b (substitute values w) (t ++ u) e))
  substitute-split (node.Routine count ∷ w) (b ∷ t) u (suc k) h e =
      split-more values (node.Routine count) b w t u refl (cons-head (node.Routine count) b (substitute values w) (t ++ u) e) (substitute-split w t u (held b + k) h (cons-tail (node.Routine count) b (substitute values w) (t ++ u) e))
  substitute-split (node.Iter count ∷ w) (b ∷ t) u (suc k) h e =
      split-more values (node.Iter count) b w t u refl (cons-head (node.Iter count) b (substitute values w) (t ++ u) e) (substitute-split w t u (held b + k) h (cons-tail (node.Iter count) b (substitute values w) (t ++ u) e))
  substitute-split (node.Passed mode ∷ w) (b ∷ t) u (suc k) h e =
      split-more values (node.Passed mode) b w t u refl (cons-head (node.Passed mode) b (substitute values w) (t ++ u) e) (substitute-split w t u (held b + k) h (cons-tail (node.Passed mode) b (substitute values w) (t ++ u) e))
  substitute-split (node.List count ∷ w) (b ∷ t) u (suc k) h e =
      split-more values (node.List count) b w t u refl (cons-head (node.List count) b (substitute values w) (t ++ u) e) (substitute-split w t u (held b + k) h (cons-tail (node.List count) b (substitute values w) (t ++ u) e))

  -- nodes that become the term of an item are a variable, or begin with its first node
  pub term-cases : (i : Item) (w : List Node) → substitute values w ≡ term_of i → ((number : ℕ) × (w ≡ node.Variable number ∷ []) × (values number ≡ term_of i)) ⊎ ((more : List Node) × (w ≡ item_head i ∷ more) × (substitute values more ≡ item_inside i))
  term-cases i [] e = absurd (no_cons (item_head i) (item_inside i) (sym (e ∙ term-head i)))
  term-cases i (node.Variable number ∷ w) e =
      let whole : values number ++ substitute values w ≡ term_of i ++ [] = e ∙ sym (append-nil (term_of i)) in
      let same : values number ≡ term_of i = terms-equal (values number) (term_of i) (substitute values w) [] (terms number) (item-term i) whole in
      let rest : substitute values w ≡ [] = append_cancel_left (term_of i) (substitute values w) [] (ap (λ l. l ++ substitute values w) (sym same) ∙ whole) in
      inl (number, ap (λ l. node.Variable number ∷ l) (substitute-empty values terms w rest), same)
  term-cases i (node.Class name count ∷ w) e = inr (w, ap (λ a. a ∷ w) (cons-head (node.Class name count) (item_head i) (substitute values w) (item_inside i) (e ∙ term-head i)), cons-tail (node.Class name count) (item_head i) (substitute values w) (item_inside i) (e ∙ term-head i))
  term-cases i (node.Routine count ∷ w) e = inr (w, ap (λ a. a ∷ w) (cons-head (node.Routine count) (item_head i) (substitute values w) (item_inside i) (e ∙ term-head i)), cons-tail (node.Routine count) (item_head i) (substitute values w) (item_inside i) (e ∙ term-head i))
  term-cases i (node.Iter count ∷ w) e = inr (w, ap (λ a. a ∷ w) (cons-head (node.Iter count) (item_head i) (substitute values w) (item_inside i) (e ∙ term-head i)), cons-tail (node.Iter count) (item_head i) (substitute values w) (item_inside i) (e ∙ term-head i))
  term-cases i (node.Passed mode ∷ w) e = inr (w, ap (λ a. a ∷ w) (cons-head (node.Passed mode) (item_head i) (substitute values w) (item_inside i) (e ∙ term-head i)), cons-tail (node.Passed mode) (item_head i) (substitute values w) (item_inside i) (e ∙ term-head i))
  term-cases i (node.List count ∷ w) e = inr (w, ap (λ a. a ∷ w) (cons-head (node.List count) (item_head i) (substitute values w) (item_inside i) (e ∙ term-head i)), cons-tail (node.List count) (item_head i) (substitute values w) (item_inside i) (e ∙ term-head i))
