-- The nodes of a declared edge at an instance: with the terms that spell the types of an instance they spell the two types of the edge
-- there, and with any terms they are read as the two types at what is read of the terms.
use Rattle.std.proofs.Common.{◌≡◌, ℕ, ◌+◌, ◌<◌, List, [], ◌∷◌, ◌++◌, Option, None, Some, refl, sym, ap, ◌∙◌, arith}
use Rattle.std.proofs.lemmas.List.{append-nil, append_cancel_right}
use Rattle.std.specs.Option.{option_map}
use Rattle.sa_ast.specs.Types.{BareTy, Named, Same, Rout, Iter, BareTys, no_types, type}
use Rattle.sa_unify.specs.declared.pattern.Node.{Node}
use Rattle.sa_unify.specs.declared.pattern.Node.TheVariants as node
use Rattle.sa_unify.specs.Terms.{following, Values, AreTerms, substitute}
use Rattle.sa_unify.specs.Spelled.{count_types, variables, own_nodes, alone, written, written_all, spelled, spelled_all, occurrence, instance, instance_all, read_type, read_types}
use Rattle.sa_unify.specs.Patterns.{pair_nodes, below_nodes, lower_nodes, above_nodes, IsNamedIn, head_name}
use Rattle.sa_unify.proofs.Terms.{behind_none, following-append, following-substitute, substitute-append}
use Rattle.sa_unify.proofs.Spelling.{count-instance_all, written_all-terms, substitute-written, substitute-written_all, read-written, read-written_all, spelled-term}
use Rattle.sa_unify.proofs.Owns.{type_at, readings, type_at-readings, own-term, substitute-variables, substitute-variables-terms, read-variables, substitute-own, read-own}

-- ---- two ways to split the nodes are one

list_counts : (m n : ℕ) (l k : List Node) → node.List m ∷ l ≡ node.List n ∷ k → m ≡ n
list_counts m n l k e = cc

list_tails : (m n : ℕ) (l k : List Node) → node.List m ∷ l ≡ node.List n ∷ k → l ≡ k
list_tails m n l k e = cc

some_rest : (l k : List Node) → Some l ≡ Some k → l ≡ k
some_rest l k e = cc

pub record SameParts (m n : ℕ) (a l b x : List Node) : Type 0 where
  pub counts : m ≡ n
  pub args : a ≡ l
  pub upper : b ≡ x

following-all : (a b : List Node) (n : ℕ) → following a n ≡ Some [] → following (a ++ b) n ≡ Some b
following-all a b n h = let e : n ≡ n + 0 = omega arith in ap (following (a ++ b)) e ∙ following-append a b n 0 h ∙ behind_none b

pub parts-equal : (m n : ℕ) (a l b x : List Node) → following a m ≡ Some [] → following l n ≡ Some [] → node.List m ∷ a ++ b ≡ node.List n ∷ l ++ x → SameParts m n a l b x
parts-equal m n a l b x h k e =
    let counts : m ≡ n = list_counts m n (a ++ b) (l ++ x) e in
    let tails : a ++ b ≡ l ++ x = list_tails m n (a ++ b) (l ++ x) e in
    let other : following l m ≡ Some [] = ap (following l) counts ∙ k in
    let rest : b ≡ x = some_rest b x (sym (following-all a b m h) ∙ ap (λ r. following r m) tails ∙ following-all l x m other) in
    record {
      counts = counts;
      args = append_cancel_right a l b (tails ∙ ap (λ r. l ++ r) (sym rest));
      upper = rest;
    }

-- ---- the header of a class

module _ (place : List ℕ → Option ℕ) (name : List ℕ) (arity : ℕ) (within : (m : List ℕ) (k : ℕ) → place m ≡ Some k → k < arity) where
  -- the binding of a name at an instance, and the type that a type of the header is
  abbrev pub value_at : BareTys → List ℕ → Option BareTy
  value_at given m = option_map (type_at given) (place m)

  abbrev pub type_in : BareTys → BareTy → BareTy
  type_in given u = instance (value_at given) (Named name given) u

  -- the arguments of a type that is a class
  abbrev pub args_in : BareTys → BareTy → BareTys
  args_in given (Named other args) = instance_all (value_at given) (Named name given) args
  args_in given Same = given
  args_in given (Rout args of) = no_types
  args_in given (Iter args of) = no_types

  pub type_in-class : (given : BareTys) (u : BareTy) → IsNamedIn place name arity u → type_in given u ≡ Named (head_name place name arity u) (args_in given u)
  type_in-class given (Named other no_types) h = ap (λ p. occurrence (option_map (type_at given) p) other) h
  type_in-class given (Named other (type t more)) h = refl
  type_in-class given Same h = refl
  type_in-class given (Rout args of) h = absurd h
  type_in-class given (Iter args of) h = absurd h

  -- ---- with the terms that spell the types of an instance

  module _ (given : BareTys) (count : count_types given ≡ arity) where
    abbrev pub spelled_at : Values
    spelled_at k = spelled (type_at given k)

    pub spelled_at-terms : AreTerms spelled_at
    spelled_at-terms k = spelled-term (type_at given k)

    substitute-alone : (p : Option ℕ) (m : List ℕ) → substitute spelled_at (alone p m) ≡ spelled (occurrence (option_map (type_at given) p) m)
    substitute-alone None m = refl
    substitute-alone (Some k) m = append-nil (spelled (type_at given k))

    substitute-params : substitute spelled_at (variables arity) ≡ spelled_all given
    substitute-params = ap (λ n. substitute spelled_at (variables n)) (sym count) ∙ substitute-variables spelled_at given (λ k _. refl)

    substitute-class : substitute spelled_at (own_nodes name arity) ≡ spelled (Named name given)
    substitute-class = ap (λ n. substitute spelled_at (own_nodes name n)) (sym count) ∙ substitute-own spelled_at name given (λ k _. refl)

    pub substitute-below : (u : BareTy) → substitute spelled_at (below_nodes place name arity u) ≡ pair_nodes given (type_in given u)
    substitute-below u =
        ap (λ l. node.List arity ∷ l) (substitute-append spelled_at (variables arity) (written place (own_nodes name arity) u))
        ∙ ap (λ l. node.List arity ∷ l ++ substitute spelled_at (written place (own_nodes name arity) u)) substitute-params
        ∙ ap (λ l. node.List arity ∷ spelled_all given ++ l) (substitute-written place (own_nodes name arity) spelled_at (value_at given) (Named name given) (λ m. substitute-alone (place m) m) substitute-class u)
        ∙ ap (λ n. node.List n ∷ spelled_all given ++ spelled (type_in given u)) (sym count)

    substitute-lower : (u : BareTy) → IsNamedIn place name arity u → substitute spelled_at (lower_nodes place name arity u) ≡ node.List (count_types (args_in given u)) ∷ spelled_all (args_in given u)
    substitute-lower (Named other args) h =
        ap (λ l. node.List (count_types args) ∷ l) (substitute-written_all place (own_nodes name arity) spelled_at (value_at given) (Named name given) (λ m. substitute-alone (place m) m) substitute-class args)
        ∙ ap (λ n. node.List n ∷ spelled_all (instance_all (value_at given) (Named name given) args)) (sym (count-instance_all (value_at given) (Named name given) args))
    substitute-lower Same h = ap (λ l. node.List arity ∷ l) substitute-params ∙ ap (λ n. node.List n ∷ spelled_all given) (sym count)
    substitute-lower (Rout args of) h = absurd h
    substitute-lower (Iter args of) h = absurd h

    pub substitute-above : (u : BareTy) → IsNamedIn place name arity u → substitute spelled_at (above_nodes place name arity u) ≡ pair_nodes (args_in given u) (Named name given)
    substitute-above u h =
        substitute-append spelled_at (lower_nodes place name arity u) (own_nodes name arity)
        ∙ ap (λ l. l ++ substitute spelled_at (own_nodes name arity)) (substitute-lower u h)
        ∙ ap (λ l. node.List (count_types (args_in given u)) ∷ spelled_all (args_in given u) ++ l) substitute-class

  -- ---- with any terms

  module _ (values : Values) (terms : AreTerms values) where
    read-alone : (p : Option ℕ) (m : List ℕ) → ((k : ℕ) → p ≡ Some k → k < arity) → read_type (substitute values (alone p m)) ≡ occurrence (option_map (type_at (readings values arity)) p) m
    read-alone None m h = refl
    read-alone (Some k) m h = ap read_type (append-nil (values k)) ∙ sym (type_at-readings values arity k (h k refl))

    read-in : (u : BareTy) → read_type (substitute values (written place (own_nodes name arity) u)) ≡ type_in (readings values arity) u
    read-in u =
        read-written place (own_nodes name arity) (own-term name arity) values terms (value_at (readings values arity)) (Named name (readings values arity)) (λ m. read-alone (place m) m (within m)) (read-own values terms name arity) u

    read-args : (args : BareTys) → read_types (substitute values (written_all place (own_nodes name arity) args)) (count_types args) ≡ instance_all (value_at (readings values arity)) (Named name (readings values arity)) args
    read-args args =
        read-written_all place (own_nodes name arity) (own-term name arity) values terms (value_at (readings values arity)) (Named name (readings values arity)) (λ m. read-alone (place m) m (within m)) (read-own values terms name arity) args

    -- the nodes are the list of n terms and then a term: the types that these are read as
    pub record ReadsAs (n : ℕ) (l x : List Node) (args : BareTys) (t : BareTy) : Type 0 where
      pub lower : read_types l n ≡ args
      pub upper : read_type x ≡ t

    pub read-below : (u : BareTy) (n : ℕ) (l x : List Node) → following l n ≡ Some [] → substitute values (below_nodes place name arity u) ≡ node.List n ∷ l ++ x → ReadsAs n l x (readings values arity) (type_in (readings values arity) u)
    read-below u n l x h e =
        let vars = substitute values (variables arity) in
        let upper = substitute values (written place (own_nodes name arity) u) in
        let same : SameParts arity n vars l upper x = parts-equal arity n vars l upper x (substitute-variables-terms values terms arity) h (ap (λ r. node.List arity ∷ r) (sym (substitute-append values (variables arity) (written place (own_nodes name arity) u))) ∙ e) in
        record {
          lower = ap (λ r. read_types r n) (sym same.args) ∙ ap (read_types vars) (sym same.counts) ∙ read-variables values terms arity;
          upper = ap read_type (sym same.upper) ∙ read-in u;
        }

    read-above-at : (count n : ℕ) (lower l x : List Node) (args : BareTys) → following (substitute values lower) count ≡ Some [] → read_types (substitute values lower) count ≡ args → following l n ≡ Some [] → substitute values ((node.List count ∷ lower) ++ own_nodes name arity) ≡ node.List n ∷ l ++ x → ReadsAs n l x args (Named name (readings values arity))
    read-above-at count n lower l x args k r h e =
        let upper = substitute values (own_nodes name arity) in
        let same : SameParts count n (substitute values lower) l upper x = parts-equal count n (substitute values lower) l upper x k h (ap (λ q. node.List count ∷ q) (sym (substitute-append values lower (own_nodes name arity))) ∙ e) in
        record {
          lower = ap (λ q. read_types q n) (sym same.args) ∙ ap (read_types (substitute values lower)) (sym same.counts) ∙ r;
          upper = ap read_type (sym same.upper) ∙ read-own values terms name arity;
        }

    pub read-above : (u : BareTy) (n : ℕ) (l x : List Node) → IsNamedIn place name arity u → following l n ≡ Some [] → substitute values (above_nodes place name arity u) ≡ node.List n ∷ l ++ x → ReadsAs n l x (args_in (readings values arity) u) (Named name (readings values arity))
    read-above (Named other args) n l x c h e =
        read-above-at (count_types args) n (written_all place (own_nodes name arity) args) l x (args_in (readings values arity) (Named other args)) (following-substitute values terms (written_all place (own_nodes name arity) args) [] (count_types args) (written_all-terms place (own_nodes name arity) (own-term name arity) args)) (read-args args) h e
    read-above Same n l x c h e = read-above-at arity n (variables arity) l x (readings values arity) (substitute-variables-terms values terms arity) (read-variables values terms arity) h e
    read-above (Rout args of) n l x c h e = absurd c
    read-above (Iter args of) n l x c h e = absurd c
