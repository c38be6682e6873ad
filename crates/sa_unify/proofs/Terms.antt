-- Terms substituted for variables: two substitutions in a row are one, and if two lists that begin with a term are equal, the
-- terms are equal.
use Rattle.std.proofs.Common.{◌≡◌, ℕ, zero, suc, ◌+◌, ◌≤◌, Bool, true, false, true≢false, ◌||◌, cond, nat_eq, List, [], ◌∷◌, ◌++◌, Some, length, take, drop, refl, sym, ap, subst, ◌∙◌, arith, length-append}
use Rattle.std.proofs.lemmas.Bool.{eqb-true, eq-eqb}
use Rattle.std.proofs.lemmas.Grind.{flat_map-append}
use Rattle.std.proofs.lemmas.List.{append_cancel_left, append_cancel_right, append-nil, take-append-drop}
use Rattle.std.proofs.lemmas.Option.{none-some}
use Rattle.sa_unify.specs.declared.pattern.Node.{Node}
use Rattle.sa_unify.specs.declared.pattern.Node.TheVariants as node
use Rattle.sa_unify.specs.Terms.{held, following, IsTerm, Values, AreTerms, value_of, substitute, only, is_variable, comes}

-- ---- terms

pub behind_none : (nodes : List Node) → following nodes zero ≡ Some nodes
behind_none [] = refl
behind_none (a ∷ more) = refl

some_nodes : (l m : List Node) → Some l ≡ Some m → l ≡ m
some_nodes l m e = cc

heads : (a b : Node) (l m : List Node) → a ∷ l ≡ b ∷ m → a ≡ b
heads a b l m e = cc

no_head : (a : Node) (l : List Node) → a ∷ l ≡ [] → ⊥
no_head a l e = omega (arith, ap length e)

-- what is after terms that end a list is what is after none of what follows
pub following-append : (nodes more : List Node) (k n : ℕ) → following nodes k ≡ Some [] → following (nodes ++ more) (k + n) ≡ following more n
following-append [] more zero n h = let e : zero + n ≡ n = omega arith in ap (following more) e
following-append [] more (suc k) n h = absurd (none-some [] h)
following-append (a ∷ nodes) more zero n h = absurd (no_head a nodes (some_nodes (a ∷ nodes) [] h))
following-append (a ∷ nodes) more (suc k) n h =
    let e : suc k + n ≡ suc (k + n) = omega arith in
    let f : held a + (k + n) ≡ (held a + k) + n = omega arith in
    ap (following ((a ∷ nodes) ++ more)) e ∙ ap (following (nodes ++ more)) f ∙ following-append nodes more (held a + k) n h

-- the terms at the head of a list
pub following-split : (nodes rest : List Node) (n : ℕ) → following nodes n ≡ Some rest → (terms : List Node) × (nodes ≡ terms ++ rest) × (following terms n ≡ Some [])
following-split [] rest zero h = ([], some_nodes [] rest h, refl)
following-split [] rest (suc n) h = absurd (none-some rest h)
following-split (a ∷ nodes) rest zero h = ([], some_nodes (a ∷ nodes) rest h, refl)
following-split (a ∷ nodes) rest (suc n) h =
    let more = following-split nodes rest (held a + n) h in
    (a ∷ more.0, ap (λ l. a ∷ l) more.1, more.2)

-- two terms that begin one list are equal
pub terms-equal : (w u r s : List Node) → IsTerm w → IsTerm u → w ++ r ≡ u ++ s → w ≡ u
terms-equal w u r s h k e =
    let left : following (w ++ r) 1 ≡ Some r = following-append w r 1 0 h ∙ behind_none r in
    let right : following (u ++ s) 1 ≡ Some s = following-append u s 1 0 k ∙ behind_none s in
    let rests : r ≡ s = some_nodes r s (sym left ∙ ap (λ l. following l 1) e ∙ right) in
    append_cancel_right w u s (subst (λ l. w ++ l ≡ u ++ s) rests e)

-- a term at the head of a list is what was taken off it
pub term-taken : (w rest : List Node) → following (w ++ rest) 1 ≡ Some rest → IsTerm w
term-taken w rest h =
    let split = following-split (w ++ rest) rest 1 h in
    subst IsTerm (sym (append_cancel_right w split.0 rest split.1)) split.2

-- ---- substitution

pub substitute-append : (values : Values) (xs ys : List Node) → substitute values (xs ++ ys) ≡ substitute values xs ++ substitute values ys
substitute-append values xs ys = flat_map-append (value_of values) xs ys

substitute-value : (values first : Values) (a : Node) → substitute values (value_of first a) ≡ value_of (λ n. substitute values (first n)) a
substitute-value values first (node.Variable number) = refl
substitute-value values first (node.Class name count) = refl
substitute-value values first (node.Routine count) = refl
substitute-value values first (node.Iter count) = refl
substitute-value values first (node.Passed mode) = refl
substitute-value values first (node.List count) = refl

pub substitute-twice : (values first : Values) (nodes : List Node) → substitute values (substitute first nodes) ≡ substitute (λ n. substitute values (first n)) nodes
substitute-twice values first [] = refl
substitute-twice values first (a ∷ nodes) =
    substitute-append values (value_of first a) (substitute first nodes) ∙ ap (λ l. l ++ substitute values (substitute first nodes)) (substitute-value values first a) ∙ ap (λ l. value_of (λ n. substitute values (first n)) a ++ l) (substitute-twice values first nodes)

value-same : (values others : Values) (a : Node) → ((n : ℕ) → is_variable n a ≡ true → values n ≡ others n) → value_of values a ≡ value_of others a
value-same values others (node.Variable number) h = h number (eq-eqb number number refl)
value-same values others (node.Class name count) h = refl
value-same values others (node.Routine count) h = refl
value-same values others (node.Iter count) h = refl
value-same values others (node.Passed mode) h = refl
value-same values others (node.List count) h = refl

first_or : (a b : Bool) → a ≡ true → a || b ≡ true
first_or true b h = refl
first_or false b h = absurd (true≢false (sym h))

second_or : (a b : Bool) → b ≡ true → a || b ≡ true
second_or true b h = refl
second_or false b h = h

-- two substitutions that agree on the variables of the nodes give the same
pub substitute-same : (values others : Values) (nodes : List Node) → ((n : ℕ) → comes n nodes ≡ true → values n ≡ others n) → substitute values nodes ≡ substitute others nodes
substitute-same values others [] h = refl
substitute-same values others (a ∷ nodes) h =
    let here = value-same values others a (λ n e. h n (first_or (is_variable n a) (comes n nodes) e)) in
    let more = substitute-same values others nodes (λ n e. h n (second_or (is_variable n a) (comes n nodes) e)) in
    ap (λ l. l ++ substitute values nodes) here ∙ ap (λ l. value_of others a ++ l) more

-- a term stays one
pub following-substitute : (values : Values) → AreTerms values → (nodes rest : List Node) (n : ℕ) → following nodes n ≡ Some rest → following (substitute values nodes) n ≡ Some (substitute values rest)
following-substitute values terms [] rest zero h = ap (λ l. Some (substitute values l)) (some_nodes [] rest h)
following-substitute values terms [] rest (suc n) h = absurd (none-some rest h)
following-substitute values terms (a ∷ nodes) rest zero h = behind_none (substitute values (a ∷ nodes)) ∙ ap (λ l. Some (substitute values l)) (some_nodes (a ∷ nodes) rest h)
following-substitute values terms (node.Variable number ∷ nodes) rest (suc n) h =
    let e : suc n ≡ 1 + n = omega arith in
    let f : n ≡ 0 + n = omega arith in
    ap (following (values number ++ substitute values nodes)) e ∙ following-append (values number) (substitute values nodes) 1 n (terms number) ∙ following-substitute values terms nodes rest n (ap (following nodes) f ∙ h)
following-substitute values terms (node.Class name count ∷ nodes) rest (suc n) h = following-substitute values terms nodes rest (count + n) h
following-substitute values terms (node.Routine count ∷ nodes) rest (suc n) h = following-substitute values terms nodes rest (count + n) h
following-substitute values terms (node.Iter count ∷ nodes) rest (suc n) h = following-substitute values terms nodes rest (count + n) h
following-substitute values terms (node.Passed mode ∷ nodes) rest (suc n) h = following-substitute values terms nodes rest (0 + n) h
following-substitute values terms (node.List count ∷ nodes) rest (suc n) h = following-substitute values terms nodes rest (count + n) h

pub substitute-term : (values : Values) (w : List Node) → AreTerms values → IsTerm w → IsTerm (substitute values w)
substitute-term values w terms h = following-substitute values terms w [] 1 h

pub substitute-terms : (values first : Values) → AreTerms values → AreTerms first → AreTerms (λ n. substitute values (first n))
substitute-terms values first terms firsts n = substitute-term values (first n) terms (firsts n)

-- ---- one variable bound

pub only-terms : (number : ℕ) (term : List Node) → IsTerm term → AreTerms (only number term)
only-terms number term h other = go (nat_eq other number)
  where
    go : (b : Bool) → IsTerm (cond b term (node.Variable other ∷ []))
    go true = h
    go false = refl

-- if the variable stands for the term anyway, substituting it changes nothing
pub substitute-only : (values : Values) (number : ℕ) (term nodes : List Node) → values number ≡ substitute values term → substitute values (substitute (only number term) nodes) ≡ substitute values nodes
substitute-only values number term nodes e =
    substitute-twice values (only number term) nodes ∙ substitute-same (λ n. substitute values (only number term n)) values nodes (λ n _. each n (nat_eq n number) refl)
  where
    each : (n : ℕ) (b : Bool) → nat_eq n number ≡ b → substitute values (cond b term (node.Variable n ∷ [])) ≡ values n
    each n true h = sym e ∙ ap values (sym (eqb-true n number h))
    each n false h = append-nil (values n)

-- ---- a variable that occurs in the term

value-variable : (values : Values) (number : ℕ) (a : Node) → is_variable number a ≡ true → value_of values a ≡ values number
value-variable values number (node.Variable other) h = ap values (eqb-true other number h)
value-variable values number (node.Class name count) h = absurd (true≢false (sym h))
value-variable values number (node.Routine count) h = absurd (true≢false (sym h))
value-variable values number (node.Iter count) h = absurd (true≢false (sym h))
value-variable values number (node.Passed mode) h = absurd (true≢false (sym h))
value-variable values number (node.List count) h = absurd (true≢false (sym h))

length-substitute : (values : Values) (number : ℕ) (nodes : List Node) → comes number nodes ≡ true → length (values number) ≤ length (substitute values nodes)
length-substitute values number [] h = absurd (true≢false (sym h))
length-substitute values number (a ∷ nodes) h = go (λ k. length-substitute values number nodes k) (is_variable number a) refl
  where
    sum : length (substitute values (a ∷ nodes)) ≡ length (value_of values a) + length (substitute values nodes)
    sum = length-append (value_of values a) (substitute values nodes)

    go : (comes number nodes ≡ true → length (values number) ≤ length (substitute values nodes)) → (b : Bool) → is_variable number a ≡ b → length (values number) ≤ length (substitute values (a ∷ nodes))
    go more true e = let same : length (value_of values a) ≡ length (values number) = ap length (value-variable values number a e) in omega (arith, sum, same)
    go more false e = let least = more (ap (λ b. b || comes number nodes) (sym e) ∙ h) in omega (arith, sum, least)

longer : (values : Values) (number : ℕ) (a : Node) (nodes : List Node) → comes number nodes ≡ true → values number ≡ a ∷ substitute values nodes → ⊥
longer values number a nodes h e =
    let least = length-substitute values number nodes h in
    let whole : length (values number) ≡ length (a ∷ substitute values nodes) = ap length e in
    omega (arith, least, whole)

or_false : (b : Bool) → b || false ≡ true → b ≡ true
or_false true h = refl
or_false false h = h

alone : (other number : ℕ) (more : List Node) → more ≡ [] → comes number (node.Variable other ∷ more) ≡ true → node.Variable other ∷ more ≡ node.Variable number ∷ []
alone other number [] h c = ap (λ n. node.Variable n ∷ []) (eqb-true other number (or_false (nat_eq other number) c))
alone other number (a ∷ more) h c = absurd (no_head a more h)

-- no term is equal to one in which it occurs
pub never-holds : (values : Values) (number : ℕ) (term : List Node) → IsTerm term → comes number term ≡ true → (term ≡ node.Variable number ∷ [] → ⊥) → values number ≡ substitute values term → ⊥
never-holds values number [] h c other_term e = none-some [] h
never-holds values number (node.Variable other ∷ more) h c other_term e = other_term (alone other number more (some_nodes more [] (sym (behind_none more) ∙ h)) c)
never-holds values number (node.Class name count ∷ more) h c other_term e = longer values number (node.Class name count) more c e
never-holds values number (node.Routine count ∷ more) h c other_term e = longer values number (node.Routine count) more c e
never-holds values number (node.Iter count ∷ more) h c other_term e = longer values number (node.Iter count) more c e
never-holds values number (node.Passed mode ∷ more) h c other_term e = longer values number (node.Passed mode) more c e
never-holds values number (node.List count ∷ more) h c other_term e = longer values number (node.List count) more c e

-- ---- the first difference of two lists

-- what is after equal prefixes is unified too
pub substitute-following : (values : Values) (one other : List Node) (place : ℕ) → take place one ≡ take place other → substitute values one ≡ substitute values other → substitute values (drop place one) ≡ substitute values (drop place other)
substitute-following values one other place same e =
    append_cancel_left (substitute values (take place one)) (substitute values (drop place one)) (substitute values (drop place other)) (parts one ∙ e ∙ sym (parts other) ∙ ap (λ l. substitute values l ++ substitute values (drop place other)) (sym same))
  where
    parts : (l : List Node) → substitute values (take place l) ++ substitute values (drop place l) ≡ substitute values l
    parts l = sym (substitute-append values (take place l) (drop place l)) ∙ ap (substitute values) (take-append-drop place l)

-- a variable at the difference stands for the term on the other side
pub substitute-bound : (values : Values) (number : ℕ) (term rest more : List Node) → AreTerms values → IsTerm term → substitute values (term ++ rest) ≡ substitute values (node.Variable number ∷ more) → values number ≡ substitute values term
substitute-bound values number term rest more terms h e =
    sym (terms-equal (substitute values term) (values number) (substitute values rest) (substitute values more) (substitute-term values term terms h) (terms number) (sym (substitute-append values term rest) ∙ e))

value-itself : (values : Values) (a : Node) → ((n : ℕ) → a ≡ node.Variable n → ⊥) → value_of values a ≡ a ∷ []
value-itself values (node.Variable number) unbound = absurd (unbound number refl)
value-itself values (node.Class name count) unbound = refl
value-itself values (node.Routine count) unbound = refl
value-itself values (node.Iter count) unbound = refl
value-itself values (node.Passed mode) unbound = refl
value-itself values (node.List count) unbound = refl

-- two nodes at the difference that are no variables are never made equal
pub substitute-clash : (values : Values) (a b : Node) (rest more : List Node) → ((n : ℕ) → a ≡ node.Variable n → ⊥) → ((n : ℕ) → b ≡ node.Variable n → ⊥) → substitute values (a ∷ rest) ≡ substitute values (b ∷ more) → a ≡ b
substitute-clash values a b rest more unbound others e =
    heads a b (substitute values rest) (substitute values more) (ap (λ l. l ++ substitute values rest) (sym (value-itself values a unbound)) ∙ e ∙ ap (λ l. l ++ substitute values more) (value-itself values b others))
