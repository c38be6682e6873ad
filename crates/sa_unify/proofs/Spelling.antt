-- A type of a class's header as nodes: it is a term; with terms for its variables it spells the type at the instance where the terms
-- spell the types of the instance; and whatever the terms are, it is read as the type at what is read of them.
use Rattle.std.proofs.Common.{◌≡◌, ℕ, suc, ◌+◌, List, [], ◌∷◌, ◌++◌, Option, None, Some, refl, sym, ap, ◌∙◌}
use Rattle.sa_ast.specs.declared.ty.Mode.{Mode}
use Rattle.sa_ast.specs.Types.{BareTy, Named, Same, Rout, Iter, BareTys, no_types, type, BareArgs, no_args, arg, BareResult, no_result, gives}
use Rattle.sa_unify.specs.declared.pattern.Node.{Node}
use Rattle.sa_unify.specs.declared.pattern.Node.TheVariants as node
use Rattle.sa_unify.specs.Terms.{following, IsTerm, Values, AreTerms, substitute}
use Rattle.sa_unify.specs.Spelled.{count_types, count_args, count_result, alone, written, written_all, written_args, written_result, nowhere, same_nodes, spelled, spelled_all, occurrence, instance, instance_all, instance_args, instance_result, Item, a_mode, type_of, types_of, args_of, result_of, first_item, read, read_type, read_types}
use Rattle.sa_unify.proofs.Terms.{following-append, substitute-append, substitute-term, following-substitute}
use Rattle.sa_unify.proofs.Readings.{term-node, read-append, read-node, read-one, read-term, read-single, following-term, following-single}

-- ---- a type is as many terms at an instance

module _ (value : List ℕ → Option BareTy) (same : BareTy) where
  pub count-instance_all : (ts : BareTys) → count_types (instance_all value same ts) ≡ count_types ts
  count-instance_all no_types = refl
  count-instance_all (type t more) = ap suc (count-instance_all more)

  pub count-instance_args : (args : BareArgs) → count_args (instance_args value same args) ≡ count_args args
  count-instance_args no_args = refl
  count-instance_args (arg m t more) = ap (λ k. suc (suc k)) (count-instance_args more)

  pub count-instance_result : (of : BareResult) → count_result (instance_result value same of) ≡ count_result of
  count-instance_result no_result = refl
  count-instance_result (gives t) = refl

-- ---- a type of a header is a term

alone-term : (place : Option ℕ) (name : List ℕ) → IsTerm (alone place name)
alone-term None name = refl
alone-term (Some k) name = refl

module _ (place : List ℕ → Option ℕ) (own : List Node) (own_term : IsTerm own) where
  mutual
    pub written-term : (t : BareTy) → IsTerm (written place own t)
    written-term (Named name no_types) = alone-term (place name) name
    written-term (Named name (type t more)) =
        term-node (node.Class name (suc (count_types more))) (written place own t ++ written_all place own more)
        (following-term (written place own t) (written_all place own more) (count_types more) (written-term t) ∙ written_all-terms more)
    written-term Same = own_term
    written-term (Rout args of) =
        term-node (node.Routine (count_args args + count_result of)) (written_args place own args ++ written_result place own of)
        (following-append (written_args place own args) (written_result place own of) (count_args args) (count_result of) (written_args-terms args) ∙ written_result-terms of)
    written-term (Iter args of) =
        term-node (node.Iter (count_args args + count_result of)) (written_args place own args ++ written_result place own of)
        (following-append (written_args place own args) (written_result place own of) (count_args args) (count_result of) (written_args-terms args) ∙ written_result-terms of)

    pub written_all-terms : (ts : BareTys) → following (written_all place own ts) (count_types ts) ≡ Some []
    written_all-terms no_types = refl
    written_all-terms (type t more) =
        following-term (written place own t) (written_all place own more) (count_types more) (written-term t) ∙ written_all-terms more

    pub written_args-terms : (args : BareArgs) → following (written_args place own args) (count_args args) ≡ Some []
    written_args-terms no_args = refl
    written_args-terms (arg m t more) =
        following-single (node.Passed m) (written place own t ++ written_args place own more) (suc (count_args more)) refl
        ∙ following-term (written place own t) (written_args place own more) (count_args more) (written-term t)
        ∙ written_args-terms more

    pub written_result-terms : (of : BareResult) → following (written_result place own of) (count_result of) ≡ Some []
    written_result-terms no_result = refl
    written_result-terms (gives t) = written-term t

  -- the arguments and then the result
  pub written_parts-terms : (args : BareArgs) (of : BareResult) → following (written_args place own args ++ written_result place own of) (count_args args + count_result of) ≡ Some []
  written_parts-terms args of =
      following-append (written_args place own args) (written_result place own of) (count_args args) (count_result of) (written_args-terms args) ∙ written_result-terms of

-- ---- with the terms of an instance

module _ (place : List ℕ → Option ℕ) (own : List Node) (values : Values) (value : List ℕ → Option BareTy) (same : BareTy) (names : (name : List ℕ) → substitute values (alone (place name) name) ≡ spelled (occurrence (value name) name)) (owns : substitute values own ≡ spelled same) where
  substitute-two : (xs ys us vs : List Node) → substitute values xs ≡ us → substitute values ys ≡ vs → substitute values (xs ++ ys) ≡ us ++ vs
  substitute-two xs ys us vs e f = substitute-append values xs ys ∙ ap (λ l. l ++ substitute values ys) e ∙ ap (λ l. us ++ l) f

  substitute-counts : (args : BareArgs) (of : BareResult) → count_args args + count_result of ≡ count_args (instance_args value same args) + count_result (instance_result value same of)
  substitute-counts args of =
      ap (λ k. k + count_result of) (sym (count-instance_args value same args)) ∙ ap (λ k. count_args (instance_args value same args) + k) (sym (count-instance_result value same of))

  mutual
    pub substitute-written : (t : BareTy) → substitute values (written place own t) ≡ spelled (instance value same t)
    substitute-written (Named name no_types) = names name
    substitute-written (Named name (type t more)) =
        ap (λ l. node.Class name (suc (count_types more)) ∷ l) (substitute-written_all (type t more))
        ∙ ap (λ k. node.Class name (suc k) ∷ spelled_all (instance_all value same (type t more))) (sym (count-instance_all value same more))
    substitute-written Same = owns
    substitute-written (Rout args of) =
        ap (λ l. node.Routine (count_args args + count_result of) ∷ l) (substitute-two (written_args place own args) (written_result place own of) (written_args nowhere same_nodes (instance_args value same args)) (written_result nowhere same_nodes (instance_result value same of)) (substitute-written_args args) (substitute-written_result of))
        ∙ ap (λ k. node.Routine k ∷ written_args nowhere same_nodes (instance_args value same args) ++ written_result nowhere same_nodes (instance_result value same of)) (substitute-counts args of)
    substitute-written (Iter args of) =
        ap (λ l. node.Iter (count_args args + count_result of) ∷ l) (substitute-two (written_args place own args) (written_result place own of) (written_args nowhere same_nodes (instance_args value same args)) (written_result nowhere same_nodes (instance_result value same of)) (substitute-written_args args) (substitute-written_result of))
        ∙ ap (λ k. node.Iter k ∷ written_args nowhere same_nodes (instance_args value same args) ++ written_result nowhere same_nodes (instance_result value same of)) (substitute-counts args of)

    pub substitute-written_all : (ts : BareTys) → substitute values (written_all place own ts) ≡ spelled_all (instance_all value same ts)
    substitute-written_all no_types = refl
    substitute-written_all (type t more) =
        substitute-two (written place own t) (written_all place own more) (spelled (instance value same t)) (spelled_all (instance_all value same more)) (substitute-written t) (substitute-written_all more)

    substitute-written_args : (args : BareArgs) → substitute values (written_args place own args) ≡ written_args nowhere same_nodes (instance_args value same args)
    substitute-written_args no_args = refl
    substitute-written_args (arg m t more) =
        ap (λ l. node.Passed m ∷ l) (substitute-two (written place own t) (written_args place own more) (spelled (instance value same t)) (written_args nowhere same_nodes (instance_args value same more)) (substitute-written t) (substitute-written_args more))

    substitute-written_result : (of : BareResult) → substitute values (written_result place own of) ≡ written_result nowhere same_nodes (instance_result value same of)
    substitute-written_result no_result = refl
    substitute-written_result (gives t) = substitute-written t

-- ---- with any terms

module _ (place : List ℕ → Option ℕ) (own : List Node) (own_term : IsTerm own) (values : Values) (terms : AreTerms values) (value : List ℕ → Option BareTy) (same : BareTy) (names : (name : List ℕ) → read_type (substitute values (alone (place name) name)) ≡ occurrence (value name) name) (owns : read_type (substitute values own) ≡ same) where
  term : (t : BareTy) → IsTerm (substitute values (written place own t))
  term t = substitute-term values (written place own t) terms (written-term place own own_term t)

  -- an argument is its mode and its type
  read-arg : (m : Mode) (t : BareTy) (more : BareArgs) → read (substitute values (written_args place own (arg m t more))) (suc (suc (count_args more))) ≡ a_mode m ∷ first_item (read (substitute values (written place own t)) 1) ∷ read (substitute values (written_args place own more)) (count_args more)
  read-arg m t more =
      read-single (node.Passed m) (substitute values (written place own t ++ written_args place own more)) (suc (count_args more)) refl
      ∙ ap (λ l. a_mode m ∷ read l (suc (count_args more))) (substitute-append values (written place own t) (written_args place own more))
      ∙ ap (λ l. a_mode m ∷ l) (read-term (substitute values (written place own t)) (substitute values (written_args place own more)) (count_args more) (term t))

  -- the arguments and then the result
  read-parts : (args : BareArgs) (of : BareResult) → read (substitute values (written_args place own args ++ written_result place own of)) (count_args args + count_result of) ≡ read (substitute values (written_args place own args)) (count_args args) ++ read (substitute values (written_result place own of)) (count_result of)
  read-parts args of =
      ap (λ l. read l (count_args args + count_result of)) (substitute-append values (written_args place own args) (written_result place own of))
      ∙ read-append (substitute values (written_args place own args)) (substitute values (written_result place own of)) (count_args args) (count_result of) (following-substitute values terms (written_args place own args) [] (count_args args) (written_args-terms place own own_term args))

  no_args_left : (of : BareResult) → args_of (read (substitute values (written_result place own of)) (count_result of)) ≡ no_args
  no_args_left no_result = refl
  no_args_left (gives t) = ap args_of (read-one (substitute values (written place own t)) (term t))

  result_left : (args : BareArgs) (items : List Item) → result_of (read (substitute values (written_args place own args)) (count_args args) ++ items) ≡ result_of items
  result_left no_args items = refl
  result_left (arg m t more) items = ap (λ l. result_of (l ++ items)) (read-arg m t more) ∙ result_left more items

  mutual
    pub read-written : (t : BareTy) → read_type (substitute values (written place own t)) ≡ instance value same t
    read-written (Named name no_types) = names name
    read-written (Named name (type t more)) =
        ap (λ l. type_of (first_item l)) (read-node (node.Class name (suc (count_types more))) (substitute values (written_all place own (type t more))) (following-substitute values terms (written_all place own (type t more)) [] (suc (count_types more)) (written_all-terms place own own_term (type t more))))
        ∙ ap (Named name) (read-written_all (type t more))
    read-written Same = owns
    read-written (Rout args of) =
        let nodes = written_args place own args ++ written_result place own of in
        let count = count_args args + count_result of in
        ap (λ l. type_of (first_item l)) (read-node (node.Routine count) (substitute values nodes) (following-substitute values terms nodes [] count (written_parts-terms place own own_term args of)))
        ∙ ap (λ l. Rout (args_of l) (result_of l)) (read-parts args of)
        ∙ ap (λ x. Rout x (result_of (read (substitute values (written_args place own args)) (count_args args) ++ read (substitute values (written_result place own of)) (count_result of)))) (read-written_args args (read (substitute values (written_result place own of)) (count_result of)) (no_args_left of))
        ∙ ap (Rout (instance_args value same args)) (result_left args (read (substitute values (written_result place own of)) (count_result of)) ∙ read-written_result of)
    read-written (Iter args of) =
        let nodes = written_args place own args ++ written_result place own of in
        let count = count_args args + count_result of in
        ap (λ l. type_of (first_item l)) (read-node (node.Iter count) (substitute values nodes) (following-substitute values terms nodes [] count (written_parts-terms place own own_term args of)))
        ∙ ap (λ l. Iter (args_of l) (result_of l)) (read-parts args of)
        ∙ ap (λ x. Iter x (result_of (read (substitute values (written_args place own args)) (count_args args) ++ read (substitute values (written_result place own of)) (count_result of)))) (read-written_args args (read (substitute values (written_result place own of)) (count_result of)) (no_args_left of))
        ∙ ap (Iter (instance_args value same args)) (result_left args (read (substitute values (written_result place own of)) (count_result of)) ∙ read-written_result of)

    pub read-written_all : (ts : BareTys) → read_types (substitute values (written_all place own ts)) (count_types ts) ≡ instance_all value same ts
    read-written_all no_types = refl
    read-written_all (type t more) =
        ap (λ l. read_types l (suc (count_types more))) (substitute-append values (written place own t) (written_all place own more))
        ∙ ap types_of (read-term (substitute values (written place own t)) (substitute values (written_all place own more)) (count_types more) (term t))
        ∙ ap (λ x. type x (read_types (substitute values (written_all place own more)) (count_types more))) (read-written t)
        ∙ ap (type (instance value same t)) (read-written_all more)

    read-written_args : (args : BareArgs) (items : List Item) → args_of items ≡ no_args → args_of (read (substitute values (written_args place own args)) (count_args args) ++ items) ≡ instance_args value same args
    read-written_args no_args items left = left
    read-written_args (arg m t more) items left =
        ap (λ l. args_of (l ++ items)) (read-arg m t more)
        ∙ ap (λ x. arg m x (args_of (read (substitute values (written_args place own more)) (count_args more) ++ items))) (read-written t)
        ∙ ap (arg m (instance value same t)) (read-written_args more items left)

    read-written_result : (of : BareResult) → result_of (read (substitute values (written_result place own of)) (count_result of)) ≡ instance_result value same of
    read-written_result no_result = refl
    read-written_result (gives t) = ap result_of (read-one (substitute values (written place own t)) (term t)) ∙ ap gives (read-written t)

-- ---- a type without parameters

mutual
  pub instance-itself : (t : BareTy) → instance (λ name. None) Same t ≡ t
  instance-itself (Named name no_types) = refl
  instance-itself (Named name (type t more)) = ap (λ x. Named name (type x (instance_all (λ name. None) Same more))) (instance-itself t) ∙ ap (λ x. Named name (type t x)) (instance_all-itself more)
  instance-itself Same = refl
  instance-itself (Rout args of) = ap (λ x. Rout x (instance_result (λ name. None) Same of)) (instance_args-itself args) ∙ ap (Rout args) (instance_result-itself of)
  instance-itself (Iter args of) = ap (λ x. Iter x (instance_result (λ name. None) Same of)) (instance_args-itself args) ∙ ap (Iter args) (instance_result-itself of)

  pub instance_all-itself : (ts : BareTys) → instance_all (λ name. None) Same ts ≡ ts
  instance_all-itself no_types = refl
  instance_all-itself (type t more) = ap (λ x. type x (instance_all (λ name. None) Same more)) (instance-itself t) ∙ ap (type t) (instance_all-itself more)

  instance_args-itself : (args : BareArgs) → instance_args (λ name. None) Same args ≡ args
  instance_args-itself no_args = refl
  instance_args-itself (arg m t more) = ap (λ x. arg m x (instance_args (λ name. None) Same more)) (instance-itself t) ∙ ap (arg m t) (instance_args-itself more)

  instance_result-itself : (of : BareResult) → instance_result (λ name. None) Same of ≡ of
  instance_result-itself no_result = refl
  instance_result-itself (gives t) = ap gives (instance-itself t)

pub spelled-term : (t : BareTy) → IsTerm (spelled t)
spelled-term t = written-term nowhere same_nodes refl t

pub spelled_all-terms : (ts : BareTys) → following (spelled_all ts) (count_types ts) ≡ Some []
spelled_all-terms ts = written_all-terms nowhere same_nodes refl ts

-- a substitution leaves it unchanged
pub substitute-spelled : (values : Values) (t : BareTy) → substitute values (spelled t) ≡ spelled t
substitute-spelled values t = substitute-written nowhere same_nodes values (λ name. None) Same (λ name. refl) refl t ∙ ap spelled (instance-itself t)

pub substitute-spelled_all : (values : Values) (ts : BareTys) → substitute values (spelled_all ts) ≡ spelled_all ts
substitute-spelled_all values ts = substitute-written_all nowhere same_nodes values (λ name. None) Same (λ name. refl) refl ts ∙ ap spelled_all (instance_all-itself ts)

-- what is spelled is read again
pub read-spelled : (t : BareTy) → read_type (spelled t) ≡ t
read-spelled t =
    ap read_type (sym (substitute-spelled (λ number. same_nodes) t))
    ∙ read-written nowhere same_nodes refl (λ number. same_nodes) (λ number. refl) (λ name. None) Same (λ name. refl) refl t
    ∙ instance-itself t

pub read-spelled_all : (ts : BareTys) → read_types (spelled_all ts) (count_types ts) ≡ ts
read-spelled_all ts =
    ap (λ l. read_types l (count_types ts)) (sym (substitute-spelled_all (λ number. same_nodes) ts))
    ∙ read-written_all nowhere same_nodes refl (λ number. same_nodes) (λ number. refl) (λ name. None) Same (λ name. refl) refl ts
    ∙ instance_all-itself ts
