-- The parameters of a class as variables, and the class with them: what they become with terms for the variables, and how that is read.
use Rattle.std.proofs.Common.{◌≡◌, ℕ, zero, suc, ◌+◌, ◌<◌, List, [], ◌∷◌, ◌++◌, Some, refl, sym, ap, ◌∙◌, arith, append_assoc}
use Rattle.sa_ast.specs.Types.{BareTy, Named, Same, BareTys, no_types, type}
use Rattle.sa_unify.specs.declared.pattern.Node.TheVariants as node
use Rattle.sa_unify.specs.Terms.{following, IsTerm, Values, AreTerms, substitute}
use Rattle.sa_unify.specs.Spelled.{count_types, variables, own_nodes, spelled, spelled_all, types_of, type_of, first_item, read_type, read_types}
use Rattle.sa_unify.proofs.Terms.{substitute-append, following-append, following-substitute}
use Rattle.sa_unify.proofs.Readings.{term-node, read-node, read-term}

-- ---- the types at indices

abbrev pub type_at : BareTys → ℕ → BareTy
type_at no_types k = Same
type_at (type t more) zero = t
type_at (type t more) (suc k) = type_at more k

-- what is read of the terms less than a number
abbrev pub readings : Values → ℕ → BareTys
readings values zero = no_types
readings values (suc n) = type (read_type (values 0)) (readings (λ k. values (suc k)) n)

pub count-readings : (values : Values) (n : ℕ) → count_types (readings values n) ≡ n
count-readings values zero = refl
count-readings values (suc n) = ap suc (count-readings (λ k. values (suc k)) n)

pub type_at-readings : (values : Values) (n k : ℕ) → k < n → type_at (readings values n) k ≡ read_type (values k)
type_at-readings values zero k h = absurd (omega (arith, h))
type_at-readings values (suc n) zero h = refl
type_at-readings values (suc n) (suc k) h = type_at-readings (λ i. values (suc i)) n k (omega (arith, h))

-- ---- the variables

pub variables-terms : (n : ℕ) → following (variables n) n ≡ Some []
variables-terms zero = refl
variables-terms (suc n) =
    let e : suc n ≡ n + 1 = omega arith in
    ap (following (variables n ++ node.Variable n ∷ [])) e ∙ following-append (variables n) (node.Variable n ∷ []) n 1 (variables-terms n)

pub own-term : (name : List ℕ) (n : ℕ) → IsTerm (own_nodes name n)
own-term name n = term-node (node.Class name n) (variables n) (variables-terms n)

-- the first term, and those of the other variables
substitute-variables-more : (values : Values) (n : ℕ) → substitute values (variables (suc n)) ≡ values 0 ++ substitute (λ k. values (suc k)) (variables n)
substitute-variables-more values zero = refl
substitute-variables-more values (suc n) =
    substitute-append values (variables (suc n)) (node.Variable (suc n) ∷ [])
    ∙ ap (λ l. l ++ substitute values (node.Variable (suc n) ∷ [])) (substitute-variables-more values n)
    ∙ append_assoc (values 0) (substitute (λ k. values (suc k)) (variables n)) (substitute values (node.Variable (suc n) ∷ []))
    ∙ ap (λ l. values 0 ++ l) (sym (substitute-append (λ k. values (suc k)) (variables n) (node.Variable n ∷ [])))

-- if each term spells a type, they spell the types
pub substitute-variables : (values : Values) (ts : BareTys) → ((k : ℕ) → k < count_types ts → values k ≡ spelled (type_at ts k)) → substitute values (variables (count_types ts)) ≡ spelled_all ts
substitute-variables values no_types h = refl
substitute-variables values (type t more) h =
    substitute-variables-more values (count_types more)
    ∙ ap (λ l. l ++ substitute (λ k. values (suc k)) (variables (count_types more))) (h zero (omega arith))
    ∙ ap (λ l. spelled t ++ l) (substitute-variables (λ k. values (suc k)) more (λ k lt. h (suc k) (omega (arith, lt))))

pub read-variables : (values : Values) → AreTerms values → (n : ℕ) → read_types (substitute values (variables n)) n ≡ readings values n
read-variables values terms zero = refl
read-variables values terms (suc n) =
    ap (λ l. read_types l (suc n)) (substitute-variables-more values n)
    ∙ ap types_of (read-term (values 0) (substitute (λ k. values (suc k)) (variables n)) n (terms 0))
    ∙ ap (type (read_type (values 0))) (read-variables (λ k. values (suc k)) (λ k. terms (suc k)) n)

pub substitute-variables-terms : (values : Values) → AreTerms values → (n : ℕ) → following (substitute values (variables n)) n ≡ Some []
substitute-variables-terms values terms n = following-substitute values terms (variables n) [] n (variables-terms n)

-- ---- the class with them

pub spelled-Named : (name : List ℕ) (ts : BareTys) → spelled (Named name ts) ≡ node.Class name (count_types ts) ∷ spelled_all ts
spelled-Named name no_types = refl
spelled-Named name (type t more) = refl

pub substitute-own : (values : Values) (name : List ℕ) (ts : BareTys) → ((k : ℕ) → k < count_types ts → values k ≡ spelled (type_at ts k)) → substitute values (own_nodes name (count_types ts)) ≡ spelled (Named name ts)
substitute-own values name ts h = ap (λ l. node.Class name (count_types ts) ∷ l) (substitute-variables values ts h) ∙ sym (spelled-Named name ts)

pub read-own : (values : Values) → AreTerms values → (name : List ℕ) (n : ℕ) → read_type (substitute values (own_nodes name n)) ≡ Named name (readings values n)
read-own values terms name n =
    ap (λ l. type_of (first_item l)) (read-node (node.Class name n) (substitute values (variables n)) (substitute-variables-terms values terms n)) ∙ ap (Named name) (read-variables values terms n)
