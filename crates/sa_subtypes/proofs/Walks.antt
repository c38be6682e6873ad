-- Matching of nodes against types: it ends after the nodes that become the types with terms for variables, or at an item that is
-- searched for.
use Rattle.std.proofs.Common.{◌≡◌, ℕ, ◌+◌, Bool, true, false, true≢false, ◌||◌, ◌&&◌, nat_eq, List, [], ◌∷◌, ◌++◌, Some, refl, sym, ap, subst, ◌∙◌, append_assoc, inl, inr}
use Rattle.std.specs.Prelude.{◌⊎◌}
use Rattle.std.specs.Cmp.{first_so, second_so}
use Rattle.std.specs.Cmp.Lexicographic.{pointwise, bytes_decides}
use Rattle.std.proofs.lemmas.Bool.{eqb-true, eq-eqb}
use Rattle.std.proofs.lemmas.List.{append-nil}
use Rattle.sa_ast.specs.declared.ty.Mode.{Mode}
use Rattle.sa_ast.specs.declared.ty.Mode.TheVariants.{In, Out, Inout, Once}
use Rattle.sa_ast.specs.TypeEquality.{same_mode}
use Rattle.sa_ast.specs.Types.{BareTy, Named, Same, Rout, Iter, BareTys, no_types, type, BareArgs, no_args, arg, BareResult, no_result, gives}
use Rattle.sa_unify.specs.declared.pattern.Node.{Node}
use Rattle.sa_unify.specs.declared.pattern.Node.TheVariants as node
use Rattle.sa_subtypes.specs.Questions.{spelled_args, spelled_result, term_of, is_class, is_list, is_routine, is_iter, is_passed, is_head, Met, a_variable, a_head, another, headed, meets, Seen, found, past, unlike, seen_then, met_then, walk_mode, walk_inside, walk_all, walk_args, walk_result}
use Rattle.sa_unify.specs.Spelled.{count_types, count_args, count_result, spelled, spelled_all, Item, a_type, a_mode}
use Rattle.sa_unify.specs.Terms.{following, Values, AreTerms, value_of, substitute, is_variable, comes}
use Rattle.sa_subtypes.proofs.TypeTerms.{item_head, item_inside, term-head, inside, spelled-term, args-terms, substitute-empty, substitute-split, term-cases}
use Rattle.sa_unify.proofs.Terms.{substitute-append}

-- ---- what is seen

pub past-equal : (l m : List Node) → past l ≡ past m → l ≡ m
past-equal l m e = cc

pub found-past : (i : Item) (l : List Node) → found i ≡ past l → ⊥
found-past i l e = cc

pub unlike-past : (l : List Node) → unlike ≡ past l → ⊥
unlike-past l e = cc

-- ---- one node

and_true : (a b : Bool) → a ≡ true → b ≡ true → (a && b) ≡ true
and_true true b h k = k
and_true false b h k = h

or_false : (b : Bool) → (b || false) ≡ true → b ≡ true
or_false true h = refl
or_false false h = h

pub same_mode-self : (m : Mode) → same_mode m m ≡ true
same_mode-self In = refl
same_mode-self Out = refl
same_mode-self Inout = refl
same_mode-self Once = refl

pub same_mode-true : (m n : Mode) → same_mode m n ≡ true → m ≡ n
same_mode-true In In h = refl
same_mode-true Out Out h = refl
same_mode-true Inout Inout h = refl
same_mode-true Once Once h = refl
same_mode-true _ _ h = cc

is_head-self : (i : Item) → is_head i (item_head i) ≡ true
is_head-self (a_type (Named name args)) = and_true (pointwise nat_eq name name) (nat_eq (count_types args) (count_types args)) ((bytes_decides name name).1 refl) (eq-eqb (count_types args) (count_types args) refl)
is_head-self (a_type Same) = refl
is_head-self (a_type (Rout args of)) = let n = count_args args + count_result of in eq-eqb n n refl
is_head-self (a_type (Iter args of)) = let n = count_args args + count_result of in eq-eqb n n refl
is_head-self (a_mode m) = same_mode-self m

is_class-true : (name : List ℕ) (count : ℕ) (a : Node) → is_class name count a ≡ true → a ≡ node.Class name count
is_class-true name count (node.Class own other) h =
    let names : own ≡ name = (bytes_decides own name).0 (first_so (pointwise nat_eq own name) (nat_eq other count) h) in
    let counts : other ≡ count = eqb-true other count (second_so (pointwise nat_eq own name) (nat_eq other count) h) in
    cc
is_class-true name count _ h = cc

is_list-true : (count : ℕ) (a : Node) → is_list count a ≡ true → a ≡ node.List count
is_list-true count (node.List other) h = ap node.List (eqb-true other count h)
is_list-true count _ h = cc

is_routine-true : (count : ℕ) (a : Node) → is_routine count a ≡ true → a ≡ node.Routine count
is_routine-true count (node.Routine other) h = ap node.Routine (eqb-true other count h)
is_routine-true count _ h = cc

is_iter-true : (count : ℕ) (a : Node) → is_iter count a ≡ true → a ≡ node.Iter count
is_iter-true count (node.Iter other) h = ap node.Iter (eqb-true other count h)
is_iter-true count _ h = cc

is_passed-true : (m : Mode) (a : Node) → is_passed m a ≡ true → a ≡ node.Passed m
is_passed-true m (node.Passed other) h = ap node.Passed (same_mode-true other m h)
is_passed-true m _ h = cc

is_head-true : (i : Item) (a : Node) → is_head i a ≡ true → a ≡ item_head i
is_head-true (a_type (Named name args)) a h = is_class-true name (count_types args) a h
is_head-true (a_type Same) a h = is_list-true 0 a h
is_head-true (a_type (Rout args of)) a h = is_routine-true (count_args args + count_result of) a h
is_head-true (a_type (Iter args of)) a h = is_iter-true (count_args args + count_result of) a h
is_head-true (a_mode m) a h = is_passed-true m a h

-- the node with which an item begins is no variable
pub head-itself : (values : Values) (i : Item) → value_of values (item_head i) ≡ item_head i ∷ []
head-itself values (a_type (Named name args)) = refl
head-itself values (a_type Same) = refl
head-itself values (a_type (Rout args of)) = refl
head-itself values (a_type (Iter args of)) = refl
head-itself values (a_mode m) = refl

pub head-unbound : (number : ℕ) (i : Item) → is_variable number (item_head i) ≡ false
head-unbound number (a_type (Named name args)) = refl
head-unbound number (a_type Same) = refl
head-unbound number (a_type (Rout args of)) = refl
head-unbound number (a_type (Iter args of)) = refl
head-unbound number (a_mode m) = refl

meets-head : (i : Item) (rest : List Node) → meets i (item_head i ∷ rest) ≡ a_head rest
unfolding meets
meets-head (a_type (Named name args)) rest = ap (λ b. headed b rest) (is_head-self (a_type (Named name args)))
meets-head (a_type Same) rest = refl
meets-head (a_type (Rout args of)) rest = ap (λ b. headed b rest) (is_head-self (a_type (Rout args of)))
meets-head (a_type (Iter args of)) rest = ap (λ b. headed b rest) (is_head-self (a_type (Iter args of)))
meets-head (a_mode m) rest = ap (λ b. headed b rest) (is_head-self (a_mode m))

abbrev MeetsHead : Item → List Node → Met → Type 0
MeetsHead i nodes m = ((rest : List Node) × (nodes ≡ item_head i ∷ rest) × (m ≡ a_head rest)) ⊎ (m ≡ another)

headed-cases : (i : Item) (a : Node) (rest : List Node) (b : Bool) → is_head i a ≡ b → MeetsHead i (a ∷ rest) (headed b rest)
headed-cases i a rest true h = inl (rest, ap (λ x. x ∷ rest) (is_head-true i a h), refl)
headed-cases i a rest false h = inr refl

meets-cases : (i : Item) (nodes : List Node) → ((number : ℕ) × (rest : List Node) × (nodes ≡ node.Variable number ∷ rest) × (meets i nodes ≡ a_variable number rest)) ⊎ MeetsHead i nodes (meets i nodes)
unfolding meets
meets-cases i [] = inr (inr refl)
meets-cases i (node.Variable number ∷ rest) = inl (number, rest, refl, refl)
meets-cases i (node.Class name count ∷ rest) = inr (headed-cases i (node.Class name count) rest (is_head i (node.Class name count)) refl)
meets-cases i (node.Routine count ∷ rest) = inr (headed-cases i (node.Routine count) rest (is_head i (node.Routine count)) refl)
meets-cases i (node.Iter count ∷ rest) = inr (headed-cases i (node.Iter count) rest (is_head i (node.Iter count)) refl)
meets-cases i (node.Passed mode ∷ rest) = inr (headed-cases i (node.Passed mode) rest (is_head i (node.Passed mode)) refl)
meets-cases i (node.List count ∷ rest) = inr (headed-cases i (node.List count) rest (is_head i (node.List count)) refl)

-- ---- what a match has passed becomes the types

-- the nodes begin with some that become the term
abbrev pub IsCut : Values → List Node → List Node → List Node → Type 0
IsCut values nodes term rest = (first : List Node) × (nodes ≡ first ++ rest) × (substitute values first ≡ term)

cut-nothing : (values : Values) (nodes rest : List Node) → past nodes ≡ past rest → IsCut values nodes [] rest
cut-nothing values nodes rest h = ([], past-equal nodes rest h, refl)

cut-append : (values : Values) (nodes between rest one other : List Node) → IsCut values nodes one between → IsCut values between other rest → IsCut values nodes (one ++ other) rest
cut-append values nodes between rest one other a b =
    (a.0 ++ b.0, a.1 ∙ ap (λ l. a.0 ++ l) b.1 ∙ sym (append_assoc a.0 b.0 rest), substitute-append values a.0 b.0 ∙ ap (λ l. l ++ substitute values b.0) a.2 ∙ ap (λ l. one ++ l) b.2)

cut-then : (values : Values) (r : Seen) (next : List Node → Seen) (nodes rest one other : List Node) → ((between : List Node) → r ≡ past between → IsCut values nodes one between) → ((between : List Node) → next between ≡ past rest → IsCut values between other rest) → seen_then r next ≡ past rest → IsCut values nodes (one ++ other) rest
cut-then values (found i) next nodes rest one other f g h = absurd (found-past i rest h)
cut-then values (past between) next nodes rest one other f g h = cut-append values nodes between rest one other (f between refl) (g between h)
cut-then values unlike next nodes rest one other f g h = absurd (unlike-past rest h)

module _ (visit : ℕ → Item → List Node → Seen) (values : Values) (visits : (number : ℕ) (i : Item) (rest next : List Node) → visit number i rest ≡ past next → (next ≡ rest) × (values number ≡ term_of i)) where
  cut-item : (i : Item) (inner : List Node → Seen) (nodes rest : List Node) → ((next : List Node) → inner next ≡ past rest → IsCut values next (item_inside i) rest) → met_then visit i inner (meets i nodes) ≡ past rest → IsCut values nodes (term_of i) rest
  cut-item i inner nodes rest f h = go (meets-cases i nodes)
    where
      go : ((number : ℕ) × (next : List Node) × (nodes ≡ node.Variable number ∷ next) × (meets i nodes ≡ a_variable number next)) ⊎ MeetsHead i nodes (meets i nodes) → IsCut values nodes (term_of i) rest
      go (inl (number, next, is, m)) =
          let both = visits number i next rest (ap (met_then visit i inner) (sym m) ∙ h) in
          (node.Variable number ∷ [], is ∙ ap (λ l. node.Variable number ∷ l) (sym both.0), append-nil (values number) ∙ both.1)
      go (inr (inl (next, is, m))) =
          let cut = f next (ap (met_then visit i inner) (sym m) ∙ h) in
          (item_head i ∷ cut.0, is ∙ ap (λ l. item_head i ∷ l) cut.1, ap (λ l. l ++ substitute values cut.0) (head-itself values i) ∙ ap (λ l. item_head i ∷ l) cut.2 ∙ sym (term-head i))
      go (inr (inr m)) = absurd (unlike-past rest (ap (met_then visit i inner) (sym m) ∙ h))

  cut-mode : (m : Mode) (nodes rest : List Node) → walk_mode visit m nodes ≡ past rest → IsCut values nodes (node.Passed m ∷ []) rest
  unfolding walk_mode
  cut-mode m nodes rest h = cut-item (a_mode m) past nodes rest (λ next k. cut-nothing values next rest k) h

  mutual
    unfolding walk_inside walk_all walk_args walk_result

    cut-inside : (t : BareTy) (nodes rest : List Node) → walk_inside visit t nodes ≡ past rest → IsCut values nodes (inside t) rest
    cut-inside (Named name args) nodes rest h = cut-all args nodes rest h
    cut-inside Same nodes rest h = cut-nothing values nodes rest h
    cut-inside (Rout args of) nodes rest h =
        cut-then values (walk_args visit args nodes) (λ next. walk_result visit of next) nodes rest (spelled_args args) (spelled_result of) (λ next k. cut-args args nodes next k) (λ next k. cut-result of next rest k) h
    cut-inside (Iter args of) nodes rest h =
        cut-then values (walk_args visit args nodes) (λ next. walk_result visit of next) nodes rest (spelled_args args) (spelled_result of) (λ next k. cut-args args nodes next k) (λ next k. cut-result of next rest k) h

    pub cut-all : (ts : BareTys) (nodes rest : List Node) → walk_all visit ts nodes ≡ past rest → IsCut values nodes (spelled_all ts) rest
    cut-all no_types nodes rest h = cut-nothing values nodes rest h
    cut-all (type t more) nodes rest h =
        cut-then values (met_then visit (a_type t) (λ next. walk_inside visit t next) (meets (a_type t) nodes)) (λ next. walk_all visit more next) nodes rest (spelled t) (spelled_all more)
        (λ between k. cut-item (a_type t) (λ next. walk_inside visit t next) nodes between (λ next j. cut-inside t next between j) k)
        (λ between k. cut-all more between rest k) h

    cut-args : (xs : BareArgs) (nodes rest : List Node) → walk_args visit xs nodes ≡ past rest → IsCut values nodes (spelled_args xs) rest
    cut-args no_args nodes rest h = cut-nothing values nodes rest h
    cut-args (arg m t more) nodes rest h =
        let step = λ (start : List Node). met_then visit (a_type t) (λ next. walk_inside visit t next) (meets (a_type t) start) in
        cut-then values (seen_then (walk_mode visit m nodes) step) (λ next. walk_args visit more next) nodes rest (node.Passed m ∷ spelled t) (spelled_args more)
        (λ end j.
        cut-then values (walk_mode visit m nodes) step nodes end (node.Passed m ∷ []) (spelled t)
        (λ between k. cut-mode m nodes between k)
        (λ between k. cut-item (a_type t) (λ next. walk_inside visit t next) between end (λ next i. cut-inside t next end i) k) j)
        (λ between k. cut-args more between rest k) h

    cut-result : (r : BareResult) (nodes rest : List Node) → walk_result visit r nodes ≡ past rest → IsCut values nodes (spelled_result r) rest
    cut-result no_result nodes rest h = cut-nothing values nodes rest h
    cut-result (gives t) nodes rest h = cut-item (a_type t) (λ next. walk_inside visit t next) nodes rest (λ next j. cut-inside t next rest j) h

-- ---- nodes that become the types are passed

-- nodes are passed, with a fact of each of their variables, or an item is found, with a fact of it
abbrev pub Outcome : (ℕ → Type 0) → (Item → Type 0) → List Node → List Node → Seen → Type 0
Outcome Past Good first rest r = ((r ≡ past rest) × ((number : ℕ) → comes number first ≡ true → Past number)) ⊎ ((i : Item) × (r ≡ found i) × Good i)

comes-either : (number : ℕ) (l m : List Node) → comes number (l ++ m) ≡ true → (comes number l ≡ true) ⊎ (comes number m ≡ true)
comes-either number [] m h = inr h
comes-either number (a ∷ l) m h = go (is_variable number a) h (comes-either number l m)
  where
    go : (b : Bool) → (b || comes number (l ++ m)) ≡ true → (comes number (l ++ m) ≡ true → (comes number l ≡ true) ⊎ (comes number m ≡ true)) → ((b || comes number l) ≡ true) ⊎ (comes number m ≡ true)
    go true h more = inl refl
    go false h more = more h

module _ (Past : ℕ → Type 0) (Good : Item → Type 0) where
  outcome-nothing : (rest : List Node) → Outcome Past Good [] rest (past rest)
  outcome-nothing rest = inl (refl, λ number c. absurd (true≢false (sym c)))

  outcome-then : (one other rest : List Node) (r : Seen) (next : List Node → Seen) → Outcome Past Good one (other ++ rest) r → Outcome Past Good other rest (next (other ++ rest)) → Outcome Past Good (one ++ other) rest (seen_then r next)
  outcome-then one other rest r next (inl (e, f)) (inl (k, g)) = inl (ap (λ s. seen_then s next) e ∙ k, λ number c. go number (comes-either number one other c))
    where
      go : (number : ℕ) → (comes number one ≡ true) ⊎ (comes number other ≡ true) → Past number
      go number (inl c) = f number c
      go number (inr c) = g number c
  outcome-then one other rest r next (inl (e, f)) (inr (i, k, good)) = inr (i, ap (λ s. seen_then s next) e ∙ k, good)
  outcome-then one other rest r next (inr (i, e, good)) h = inr (i, ap (λ s. seen_then s next) e, good)

  outcome-under : (first more rest : List Node) (r : Seen) → ((number : ℕ) → comes number first ≡ true → comes number more ≡ true) → Outcome Past Good more rest r → Outcome Past Good first rest r
  outcome-under first more rest r f (inl (e, g)) = inl (e, λ number c. g number (f number c))
  outcome-under first more rest r f (inr h) = inr h

module _ (visit : ℕ → Item → List Node → Seen) (values : Values) (terms : AreTerms values) (Past : ℕ → Type 0) (Good : Item → Type 0) (visits : (number : ℕ) (i : Item) (rest : List Node) → values number ≡ term_of i → ((visit number i rest ≡ past rest) × Past number) ⊎ ((j : Item) × (visit number i rest ≡ found j) × Good j)) where
  outcome-empty : (first rest : List Node) → substitute values first ≡ [] → Outcome Past Good first rest (past (first ++ rest))
  outcome-empty first rest e = subst (λ l. Outcome Past Good l rest (past (l ++ rest))) (sym (substitute-empty values terms first e)) (outcome-nothing Past Good rest)

  outcome-parts : (one other : List Node) (n : ℕ) → following one n ≡ Some [] → (start next : List Node → Seen) → ((first rest : List Node) → substitute values first ≡ one → Outcome Past Good first rest (start (first ++ rest))) → ((first rest : List Node) → substitute values first ≡ other → Outcome Past Good first rest (next (first ++ rest))) → (first rest : List Node) → substitute values first ≡ one ++ other → Outcome Past Good first rest (seen_then (start (first ++ rest)) next)
  outcome-parts one other n h start next f g first rest e =
      let s = substitute-split values terms first one other n h e in
      subst (λ l. Outcome Past Good l rest (seen_then (start (l ++ rest)) next)) (sym s.2)
      (subst (λ l. Outcome Past Good (s.0 ++ s.1) rest (seen_then (start l) next)) (sym (append_assoc s.0 s.1 rest))
      (outcome-then Past Good s.0 s.1 rest (start (s.0 ++ (s.1 ++ rest))) next (f s.0 (s.1 ++ rest) s.3) (g s.1 rest s.4)))

  outcome-variable : (number : ℕ) (i : Item) (inner : List Node → Seen) (rest : List Node) → values number ≡ term_of i → Outcome Past Good (node.Variable number ∷ []) rest (met_then visit i inner (meets i (node.Variable number ∷ rest)))
  unfolding meets
  outcome-variable number i inner rest e = go (visits number i rest e)
    where
      go : ((visit number i rest ≡ past rest) × Past number) ⊎ ((j : Item) × (visit number i rest ≡ found j) × Good j) → Outcome Past Good (node.Variable number ∷ []) rest (visit number i rest)
      go (inl (k, p)) = inl (k, λ other c. subst Past (eqb-true number other (or_false (nat_eq number other) c)) p)
      go (inr h) = inr h

  outcome-head : (i : Item) (inner : List Node → Seen) (more rest : List Node) → Outcome Past Good more rest (inner (more ++ rest)) → Outcome Past Good (item_head i ∷ more) rest (met_then visit i inner (meets i (item_head i ∷ (more ++ rest))))
  outcome-head i inner more rest h =
      subst (λ m. Outcome Past Good (item_head i ∷ more) rest (met_then visit i inner m)) (sym (meets-head i (more ++ rest)))
      (outcome-under Past Good (item_head i ∷ more) more rest (inner (more ++ rest)) (λ number c. sym (ap (λ b. b || comes number more) (head-unbound number i)) ∙ c) h)

  outcome-item : (i : Item) (inner : List Node → Seen) → ((first rest : List Node) → substitute values first ≡ item_inside i → Outcome Past Good first rest (inner (first ++ rest))) → (first rest : List Node) → substitute values first ≡ term_of i → Outcome Past Good first rest (met_then visit i inner (meets i (first ++ rest)))
  outcome-item i inner f first rest e = go (term-cases values terms i first e)
    where
      go : ((number : ℕ) × (first ≡ node.Variable number ∷ []) × (values number ≡ term_of i)) ⊎ ((more : List Node) × (first ≡ item_head i ∷ more) × (substitute values more ≡ item_inside i)) → Outcome Past Good first rest (met_then visit i inner (meets i (first ++ rest)))
      go (inl (number, is, v)) = subst (λ l. Outcome Past Good l rest (met_then visit i inner (meets i (l ++ rest)))) (sym is) (outcome-variable number i inner rest v)
      go (inr (more, is, v)) = subst (λ l. Outcome Past Good l rest (met_then visit i inner (meets i (l ++ rest)))) (sym is) (outcome-head i inner more rest (f more rest v))

  outcome-mode : (m : Mode) (first rest : List Node) → substitute values first ≡ node.Passed m ∷ [] → Outcome Past Good first rest (walk_mode visit m (first ++ rest))
  unfolding walk_mode
  outcome-mode m first rest e = outcome-item (a_mode m) past (λ l r k. outcome-empty l r k) first rest e

  mutual
    unfolding walk_inside walk_all walk_args walk_result

    outcome-inside : (t : BareTy) (first rest : List Node) → substitute values first ≡ inside t → Outcome Past Good first rest (walk_inside visit t (first ++ rest))
    outcome-inside (Named name args) first rest e = outcome-all args first rest e
    outcome-inside Same first rest e = outcome-empty first rest e
    outcome-inside (Rout args of) first rest e =
        outcome-parts (spelled_args args) (spelled_result of) (count_args args) (args-terms args) (λ l. walk_args visit args l) (λ l. walk_result visit of l) (λ l r k. outcome-args args l r k) (λ l r k. outcome-result of l r k) first rest e
    outcome-inside (Iter args of) first rest e =
        outcome-parts (spelled_args args) (spelled_result of) (count_args args) (args-terms args) (λ l. walk_args visit args l) (λ l. walk_result visit of l) (λ l r k. outcome-args args l r k) (λ l r k. outcome-result of l r k) first rest e

    pub outcome-all : (ts : BareTys) (first rest : List Node) → substitute values first ≡ spelled_all ts → Outcome Past Good first rest (walk_all visit ts (first ++ rest))
    outcome-all no_types first rest e = outcome-empty first rest e
    outcome-all (type t more) first rest e =
        outcome-parts (spelled t) (spelled_all more) 1 (spelled-term t) (λ l. met_then visit (a_type t) (λ next. walk_inside visit t next) (meets (a_type t) l)) (λ l. walk_all visit more l)
        (λ l r k. outcome-item (a_type t) (λ next. walk_inside visit t next) (λ m s j. outcome-inside t m s j) l r k)
        (λ l r k. outcome-all more l r k) first rest e

    outcome-args : (xs : BareArgs) (first rest : List Node) → substitute values first ≡ spelled_args xs → Outcome Past Good first rest (walk_args visit xs (first ++ rest))
    outcome-args no_args first rest e = outcome-empty first rest e
    outcome-args (arg m t more) first rest e =
        let step = λ (start : List Node). met_then visit (a_type t) (λ next. walk_inside visit t next) (meets (a_type t) start) in
        outcome-parts (node.Passed m ∷ spelled t) (spelled_args more) 2 (spelled-term t) (λ l. seen_then (walk_mode visit m l) step) (λ l. walk_args visit more l)
        (λ l r k.
        outcome-parts (node.Passed m ∷ []) (spelled t) 1 refl (λ n. walk_mode visit m n) step
        (λ n s j. outcome-mode m n s j)
        (λ n s j. outcome-item (a_type t) (λ next. walk_inside visit t next) (λ o q i. outcome-inside t o q i) n s j) l r k)
        (λ l r k. outcome-args more l r k) first rest e

    outcome-result : (r : BareResult) (first rest : List Node) → substitute values first ≡ spelled_result r → Outcome Past Good first rest (walk_result visit r (first ++ rest))
    outcome-result no_result first rest e = outcome-empty first rest e
    outcome-result (gives t) first rest e = outcome-item (a_type t) (λ next. walk_inside visit t next) (λ l s j. outcome-inside t l s j) first rest e
