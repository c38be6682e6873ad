-- Pairs of types as lists of nodes: their parts, the composition of two of them, and those that keep their arguments.
use Rattle.std.proofs.Common.{◌≡◌, ℕ, zero, suc, ◌+◌, ◌≤◌, Bool, true, false, true≢false, ◌||◌, cond, nat_eq, List, [], ◌∷◌, ◌++◌, Option, Some, refl, sym, ap, subst, ◌∙◌, arith}
use Rattle.std.proofs.lemmas.Bool.{eqb-true, eq-eqb}
use Rattle.std.proofs.lemmas.Option.{none-some}
use Rattle.sa_unify.specs.declared.pattern.Node.{Node}
use Rattle.sa_unify.specs.declared.pattern.Node.TheVariants as node
use Rattle.sa_unify.specs.Terms.{held, following, comes, IsTerm, Values, AreTerms, substitute, IsInstance, IsInstanceOf, IsGiven, Follows, IsComposed}
use Rattle.sa_hierarchy.specs.Hierarchies.{AreArgs, pair_of, HasForm, counts, kept}
use Rattle.sa_unify.proofs.Terms.{behind_none, following-split, following-substitute, substitute-append, substitute-same}
use Rattle.sa_unify.proofs.Compositions.{same_terms}

class_names : (name other : List ℕ) (n m : ℕ) (l k : List Node) → node.Class name n ∷ l ≡ node.Class other m ∷ k → name ≡ other
class_names name other n m l k e = cc

class_counts : (name other : List ℕ) (n m : ℕ) (l k : List Node) → node.Class name n ∷ l ≡ node.Class other m ∷ k → n ≡ m
class_counts name other n m l k e = cc

list_counts : (n m : ℕ) (l k : List Node) → node.List n ∷ l ≡ node.List m ∷ k → n ≡ m
list_counts n m l k e = cc

tails : (a b : Node) (l k : List Node) → a ∷ l ≡ b ∷ k → l ≡ k
tails a b l k e = cc

-- ---- the parts of a pair

pub record SameParts (n : ℕ) (args : List Node) (head : List ℕ) (m : ℕ) (above : List Node) (n' : ℕ) (args' : List Node) (head' : List ℕ) (m' : ℕ) (above' : List Node) : Type 0 where
  pub count : n ≡ n'
  pub args_same : args ≡ args'
  pub head_same : head ≡ head'
  pub count_above : m ≡ m'
  pub above_same : above ≡ above'

pub same-parts : (n : ℕ) (args : List Node) (head : List ℕ) (m : ℕ) (above : List Node) (n' : ℕ) (args' : List Node) (head' : List ℕ) (m' : ℕ) (above' : List Node) → AreArgs n args → AreArgs n' args' → pair_of n args head m above ≡ pair_of n' args' head' m' above' → SameParts n args head m above n' args' head' m' above'
same-parts n args head m above n' args' head' m' above' g g' e =
    let count : n ≡ n' = list_counts n n' (args ++ node.Class head m ∷ above) (args' ++ node.Class head' m' ∷ above') e in
    let rest : args ++ node.Class head m ∷ above ≡ args' ++ node.Class head' m' ∷ above' = tails (node.List n) (node.List n') (args ++ node.Class head m ∷ above) (args' ++ node.Class head' m' ∷ above') e in
    let other : following args' n ≡ Some [] = ap (following args') count ∙ g' in
    let both = same_terms args args' (node.Class head m ∷ above) (node.Class head' m' ∷ above') n g other rest in
    record {
      count = count;
      args_same = both.0;
      head_same = class_names head head' m m' above above' both.1;
      count_above = class_counts head head' m m' above above' both.1;
      above_same = tails (node.Class head m) (node.Class head' m') above above' both.1;
    }

-- a list of n terms is a term
list-term : (n : ℕ) (args : List Node) → AreArgs n args → IsTerm (node.List n ∷ args)
list-term n args g = let e : n + 0 ≡ n = omega arith in ap (following args) e ∙ g

-- terms for the variables of a pair
pub substitute-pair : (values : Values) (n : ℕ) (args : List Node) (head : List ℕ) (m : ℕ) (above : List Node) → substitute values (pair_of n args head m above) ≡ pair_of n (substitute values args) head m (substitute values above)
substitute-pair values n args head m above = ap (λ l. node.List n ∷ l) (substitute-append values args (node.Class head m ∷ above))

-- an instance of a pair has its counts and its class
pub record HasParts (n : ℕ) (head : List ℕ) (m : ℕ) (count : ℕ) (name : List ℕ) (above : ℕ) : Type 0 where
  pub count_is : n ≡ count
  pub head_is : head ≡ name
  pub above_is : m ≡ above

pub form-parts : (nodes : List Node) (name : List ℕ) (top : ℕ) (form : HasForm nodes name top) (n : ℕ) (args : List Node) (head : List ℕ) (m : ℕ) (above : List Node) → AreArgs n args → IsInstance nodes (pair_of n args head m above) → HasParts n head m form.count name top
form-parts nodes name top form n args head m above g i =
    let whole : pair_of n args head m above ≡ pair_of form.count (substitute i.0 form.args) name top (substitute i.0 form.ends) = sym i.2 ∙ ap (substitute i.0) form.is ∙ substitute-pair i.0 form.count form.args name top form.ends in
    let parts = same-parts n args head m above form.count (substitute i.0 form.args) name top (substitute i.0 form.ends) g (following-substitute i.0 i.1 form.args [] form.count form.given) whole in
    record { count_is = parts.count; head_is = parts.head_same; above_is = parts.count_above }

-- ---- the composition of two pairs

pub given-pair : (first second : List Node) (r : Option (List Node)) → IsComposed first second r → (n : ℕ) (args : List Node) (name : List ℕ) (m : ℕ) (meet : List Node) (head : List ℕ) (k : ℕ) (above : List Node) → AreArgs n args → AreArgs m meet → IsInstance first (pair_of n args name m meet) → IsInstance second (pair_of m meet head k above) → IsInstanceOf r (pair_of n args head k above)
given-pair first second r composed n args name m meet head k above g h i j = (composed.same (pair_of n args head k above)).1 (pair_of n args name m meet, pair_of m meet head k above, i, j, follows)
  where
    follows : Follows (pair_of n args name m meet) (pair_of m meet head k above) (pair_of n args head k above)
    follows = record {
      lower = node.List n ∷ args;
      name = name;
      count = m;
      args = meet;
      upper = node.Class head k ∷ above;
      term = list-term n args g;
      terms = h;
      begins = refl;
      ends = refl;
      joins = refl;
    }

-- the type between
pub record Between (first second : List Node) (n : ℕ) (args : List Node) (name : List ℕ) (head : List ℕ) (k : ℕ) (above : List Node) : Type 0 where
  pub count : ℕ
  pub meet : List Node
  pub terms : AreArgs count meet
  pub lower : IsInstance first (pair_of n args name count meet)
  pub upper : IsInstance second (pair_of count meet head k above)

module _ (first second : List Node) (name : List ℕ) (top : ℕ) (form : HasForm first name top) (n : ℕ) (args : List Node) (head : List ℕ) (k : ℕ) (above : List Node) (given : AreArgs n args) where
  between : IsGiven first second (pair_of n args head k above) → Between first second n args name head k above
  between g =
      let t = g.4 in
      let i = g.2 in
      let p : pair_of form.count (substitute i.0 form.args) name top (substitute i.0 form.ends) ≡ t.lower ++ node.Class t.name t.count ∷ t.args = sym (substitute-pair i.0 form.count form.args name top form.ends) ∙ ap (substitute i.0) (sym form.is) ∙ i.2 ∙ t.begins in
      let begin = same_terms (node.List form.count ∷ substitute i.0 form.args) t.lower (node.Class name top ∷ substitute i.0 form.ends) (node.Class t.name t.count ∷ t.args) 1 (list-term form.count (substitute i.0 form.args) (following-substitute i.0 i.1 form.args [] form.count form.given)) t.term p in
      let end = same_terms (node.List n ∷ args) t.lower (node.Class head k ∷ above) t.upper 1 (list-term n args given) t.term t.joins in
      let named : t.name ≡ name = sym (class_names name t.name top t.count (substitute i.0 form.ends) t.args begin.1) in
      let first_is : g.0 ≡ pair_of n args name t.count t.args = t.begins ∙ ap (λ l. l ++ node.Class t.name t.count ∷ t.args) (sym end.0) ∙ ap (λ x. (node.List n ∷ args) ++ node.Class x t.count ∷ t.args) named in
      let second_is : g.1 ≡ pair_of t.count t.args head k above = t.ends ∙ ap (λ l. node.List t.count ∷ t.args ++ l) (sym end.1) in
      record {
        count = t.count;
        meet = t.args;
        terms = t.terms;
        lower = subst (IsInstance first) first_is i;
        upper = subst (IsInstance second) second_is g.3;
      }

  pub between-composed : (r : List Node) → IsComposed first second (Some r) → IsInstance r (pair_of n args head k above) → Between first second n args name head k above
  between-composed r composed i = between ((composed.same (pair_of n args head k above)).0 i)

-- ---- pairs that keep their arguments

counts-terms : (from n : ℕ) → following (counts from n) n ≡ Some []
counts-terms from zero = refl
counts-terms from (suc n) = let e : 0 + n ≡ n = omega arith in ap (following (counts (suc from) n)) e ∙ counts-terms (suc from) n

counts-over : (from n k : ℕ) → comes k (counts from n) ≡ true → from ≤ k
counts-over from zero k h = absurd (true≢false (sym h))
counts-over from (suc n) k h = go (λ e. counts-over (suc from) n k e) (nat_eq from k) refl
  where
    go : (comes k (counts (suc from) n) ≡ true → suc from ≤ k) → (b : Bool) → nat_eq from k ≡ b → from ≤ k
    go more true e = let same : from ≡ k = eqb-true from k e in omega (arith, same)
    go more false e = let least = more (ap (λ b. b || comes k (counts (suc from) n)) (sym e) ∙ h) in omega (arith, least)

some_lists : (l m : List Node) → Some l ≡ Some m → l ≡ m
some_lists l m e = cc

-- the terms after some of them
following-plus : (nodes rest : List Node) (k n : ℕ) → following nodes (k + n) ≡ Some rest → (m : List Node) × (following nodes k ≡ Some m) × (following m n ≡ Some rest)
following-plus nodes rest zero n h = let e : 0 + n ≡ n = omega arith in (nodes, behind_none nodes, ap (following nodes) (sym e) ∙ h)
following-plus [] rest (suc k) n h = let e : suc k + n ≡ suc (k + n) = omega arith in absurd (none-some rest (ap (following []) (sym e) ∙ h))
following-plus (a ∷ nodes) rest (suc k) n h =
    let e : suc k + n ≡ suc (k + n) = omega arith in
    let f : held a + (k + n) ≡ (held a + k) + n = omega arith in
    following-plus nodes rest (held a + k) n (ap (following nodes) (sym f) ∙ ap (following (a ∷ nodes)) (sym e) ∙ h)

-- one variable is bound to the term, and the others to what they were bound to
abbrev with_term : ℕ → List Node → Values → Values
with_term number term values k = cond (nat_eq k number) term (values k)

with_term-terms : (number : ℕ) (term : List Node) (values : Values) → IsTerm term → AreTerms values → AreTerms (with_term number term values)
with_term-terms number term values h terms k = go (nat_eq k number)
  where
    go : (b : Bool) → IsTerm (cond b term (values k))
    go true = h
    go false = terms k

with_term-later : (number n : ℕ) (term : List Node) (values : Values) → substitute (with_term number term values) (counts (suc number) n) ≡ substitute values (counts (suc number) n)
with_term-later number n term values = substitute-same (with_term number term values) values (counts (suc number) n) later
  where
    later : (k : ℕ) → comes k (counts (suc number) n) ≡ true → with_term number term values k ≡ values k
    later k c = go (nat_eq k number) refl
      where
        go : (b : Bool) → nat_eq k number ≡ b → cond b term (values k) ≡ values k
        go true e = let same : k ≡ number = eqb-true k number e in let over = counts-over (suc number) n k c in absurd (omega (arith, same, over))
        go false e = refl

with_term-first : (number n : ℕ) (term : List Node) (values : Values) → substitute (with_term number term values) (counts number (suc n)) ≡ term ++ substitute values (counts (suc number) n)
with_term-first number n term values =
    ap (λ b. cond b term (values number) ++ substitute (with_term number term values) (counts (suc number) n)) (eq-eqb number number refl) ∙ ap (λ l. term ++ l) (with_term-later number n term values)

-- terms to which the variables in order are bound
pub counts-values : (from n : ℕ) (args : List Node) → AreArgs n args → (values : Values) × AreTerms values × (substitute values (counts from n) ≡ args)
counts-values from zero args g = ((λ k. node.List 0 ∷ []), (λ k. refl), some_lists [] args (sym g ∙ behind_none args))
counts-values from (suc n) args g =
    let e : suc n ≡ 1 + n = omega arith in
    let plus = following-plus args [] 1 n (ap (following args) (sym e) ∙ g) in
    let split = following-split args plus.0 1 plus.1 in
    let more = counts-values (suc from) n plus.0 plus.2 in
    (with_term from split.0 more.0, with_term-terms from split.0 more.0 split.2 more.1, with_term-first from n split.0 more.0 ∙ ap (λ l. split.0 ++ l) more.2 ∙ sym split.1)

-- each list of n terms is kept
pub kept-instance : (head : List ℕ) (n : ℕ) (args : List Node) → AreArgs n args → IsInstance (kept head n) (pair_of n args head n args)
kept-instance head n args g =
    let v = counts-values 0 n args g in
    (v.0, v.1, substitute-pair v.0 n (counts 0 n) head n (counts 0 n) ∙ ap (λ l. pair_of n l head n l) v.2)

-- and nothing else is an instance
pub record IsKept (n : ℕ) (count : ℕ) (args : List Node) (m : ℕ) (above : List Node) : Type 0 where
  pub count_is : count ≡ n
  pub above_is : m ≡ n
  pub args_same : args ≡ above

pub kept-parts : (name : List ℕ) (n : ℕ) (count : ℕ) (args : List Node) (head : List ℕ) (m : ℕ) (above : List Node) → AreArgs count args → IsInstance (kept name n) (pair_of count args head m above) → IsKept n count args m above
kept-parts name n count args head m above g i =
    let own = substitute i.0 (counts 0 n) in
    let terms : AreArgs n own = following-substitute i.0 i.1 (counts 0 n) [] n (counts-terms 0 n) in
    let whole : pair_of count args head m above ≡ pair_of n own name n own = sym i.2 ∙ substitute-pair i.0 n (counts 0 n) name n (counts 0 n) in
    let parts = same-parts count args head m above n own name n own g terms whole in
    record { count_is = parts.count; above_is = parts.count_above; args_same = parts.args_same ∙ sym parts.above_same }

-- ---- a class without arguments

-- terms for variables where there are none
no_terms : Values
no_terms k = node.List 0 ∷ []

no_terms-terms : AreTerms no_terms
unfolding no_terms
no_terms-terms k = refl

bare-composed : (head : List ℕ) (rest : List Node) → IsComposed (node.List 0 ∷ node.Class head 0 ∷ []) (node.List 0 ∷ rest) (Some (node.List 0 ∷ rest))
bare-composed head rest = record { same = λ f. (there f, back f) }
  where
    there : (f : List Node) → IsInstance (node.List 0 ∷ rest) f → IsGiven (node.List 0 ∷ node.Class head 0 ∷ []) (node.List 0 ∷ rest) f
    there f i = (
      node.List 0 ∷ node.Class head 0 ∷ [],
      f,
      (no_terms, no_terms-terms, refl),
      i,
      record {
        lower = node.List 0 ∷ [];
        name = head;
        count = 0;
        args = [];
        upper = substitute i.0 rest;
        term = refl;
        terms = refl;
        begins = refl;
        ends = sym i.2;
        joins = sym i.2;
      },
    )

    back : (f : List Node) → IsGiven (node.List 0 ∷ node.Class head 0 ∷ []) (node.List 0 ∷ rest) f → IsInstance (node.List 0 ∷ rest) f
    back f g =
        let t = g.4 in
        let both = same_terms (node.List 0 ∷ []) t.lower (node.Class head 0 ∷ []) (node.Class t.name t.count ∷ t.args) 1 refl t.term ((g.2).2 ∙ t.begins) in
        let none : [] ≡ t.args = tails (node.Class head 0) (node.Class t.name t.count) [] t.args both.1 in
        let zero_is : 0 ≡ t.count = class_counts head t.name 0 t.count [] t.args both.1 in
        let begin : node.List 0 ∷ t.upper ≡ g.1 = ap (λ n. node.List n ∷ t.upper) zero_is ∙ ap (λ l. node.List t.count ∷ l ++ t.upper) none ∙ sym t.ends in
        let end : f ≡ node.List 0 ∷ t.upper = t.joins ∙ ap (λ l. l ++ t.upper) (sym both.0) in
        subst (IsInstance (node.List 0 ∷ rest)) (sym (end ∙ begin)) g.3

-- if the first pair leads from a class without arguments to another, and the second begins at one, their composition is the second
pub bare-gives : (first second rest : List Node) (head : List ℕ) → first ≡ node.List 0 ∷ node.Class head 0 ∷ [] → second ≡ node.List 0 ∷ rest → IsComposed first second (Some second)
bare-gives first second rest head e f =
    subst (λ l. IsComposed l second (Some second)) (sym e) (subst (λ l. IsComposed (node.List 0 ∷ node.Class head 0 ∷ []) l (Some l)) (sym f) (bare-composed head rest))
