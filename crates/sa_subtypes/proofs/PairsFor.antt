-- The nodes of a pair match two types exactly if terms for its variables make it the pair of the two types.
use Rattle.std.proofs.Common.{◌≡◌, ℕ, ◌+◌, List, [], ◌∷◌, ◌++◌, Some, sym, ap, subst, ◌∙◌}
use Rattle.std.specs.Prelude.{◌↔◌}
use Rattle.std.proofs.lemmas.List.{append_cancel_right}
use Rattle.sa_ast.specs.Types.{BareTys}
use Rattle.sa_unify.specs.declared.pattern.Node.{Node}
use Rattle.sa_unify.specs.declared.pattern.Node.TheVariants as node
use Rattle.sa_subtypes.specs.Questions.{IsPairFor}
use Rattle.sa_unify.specs.Spelled.{count_types, spelled_all}
use Rattle.sa_unify.specs.Terms.{following, Values, AreTerms, substitute}
use Rattle.sa_subtypes.proofs.TypeTerms.{cons-head, cons-tail, all-terms}
use Rattle.sa_unify.proofs.Terms.{behind_none, following-append, following-substitute, substitute-append}

-- the pair of two types with these arguments
abbrev pub pair_for : BareTys → List ℕ → BareTys → List Node
pair_for lower head upper = node.List (count_types lower) ∷ spelled_all lower ++ node.Class head (count_types upper) ∷ spelled_all upper

abbrev pub BecomesPair : List Node → BareTys → BareTys → Type 0
BecomesPair nodes lower upper = (head : List ℕ) × (values : Values) × AreTerms values × (substitute values nodes ≡ pair_for lower head upper)

-- what is after equally many terms of one list is the same
rest-equal : (first other rest more : List Node) (n : ℕ) → following first n ≡ Some [] → following other n ≡ Some [] → first ++ rest ≡ other ++ more → (first ≡ other) × (rest ≡ more)
rest-equal first other rest more n h k e =
    let left : following (first ++ rest) (n + 0) ≡ Some rest = following-append first rest n 0 h ∙ behind_none rest in
    let right : following (other ++ more) (n + 0) ≡ Some more = following-append other more n 0 k ∙ behind_none more in
    let both : Some rest ≡ Some more = sym left ∙ ap (λ l. following l (n + 0)) e ∙ right in
    let same : rest ≡ more = cc in
    (append_cancel_right first other more (subst (λ l. first ++ l ≡ other ++ more) same e), same)

list-equal : (m n : ℕ) → node.List m ≡ node.List n → m ≡ n
list-equal m n e = cc

class-equal : (l k : List ℕ) (m n : ℕ) → node.Class l m ≡ node.Class k n → m ≡ n
class-equal l k m n e = cc

becomes : (nodes : List Node) (lower upper : BareTys) → IsPairFor nodes lower upper → BecomesPair nodes lower upper
becomes nodes lower upper (name, below, above, values, is, terms, first, second) =
    let last = node.Class name (count_types upper) ∷ above in
    let whole : substitute values (below ++ last) ≡ spelled_all lower ++ (node.Class name (count_types upper) ∷ spelled_all upper) =
    substitute-append values below last ∙ ap (λ l. l ++ substitute values last) first ∙ ap (λ l. spelled_all lower ++ (node.Class name (count_types upper) ∷ l)) second in
    (name, values, terms, ap (substitute values) is ∙ ap (λ l. node.List (count_types lower) ∷ l) whole)

-- if the nodes are those of a pair
module _ (nodes : List Node) (name : List ℕ) (count : ℕ) (below : List Node) (m : ℕ) (above : List Node) (is : nodes ≡ node.List count ∷ below ++ node.Class name m ∷ above) (given : following below count ≡ Some []) where
  fits-as : (lower upper : BareTys) → BecomesPair nodes lower upper → IsPairFor nodes lower upper
  fits-as lower upper (head, values, terms, e) =
      let n = count_types lower in
      let k = count_types upper in
      let last = node.Class name m ∷ above in
      let ends = node.Class head k ∷ spelled_all upper in
      let whole : node.List count ∷ (substitute values below ++ substitute values last) ≡ node.List n ∷ (spelled_all lower ++ ends) =
      ap (λ l. node.List count ∷ l) (sym (substitute-append values below last)) ∙ ap (substitute values) (sym is) ∙ e in
      let counts : count ≡ n = list-equal count n (cons-head (node.List count) (node.List n) (substitute values below ++ substitute values last) (spelled_all lower ++ ends) whole) in
      let tails : substitute values below ++ substitute values last ≡ spelled_all lower ++ ends = cons-tail (node.List count) (node.List n) (substitute values below ++ substitute values last) (spelled_all lower ++ ends) whole in
      let own : following (substitute values below) n ≡ Some [] = ap (following (substitute values below)) (sym counts) ∙ following-substitute values terms below [] count given in
      let parts = rest-equal (substitute values below) (spelled_all lower) (substitute values last) ends n own (all-terms lower) tails in
      let arities : m ≡ k = class-equal name head m k (cons-head (node.Class name m) (node.Class head k) (substitute values above) (spelled_all upper) parts.1) in
      let uppers : substitute values above ≡ spelled_all upper = cons-tail (node.Class name m) (node.Class head k) (substitute values above) (spelled_all upper) parts.1 in
      (name, below, above, values, is ∙ ap (λ x. node.List x ∷ (below ++ node.Class name m ∷ above)) counts ∙ ap (λ x. node.List n ∷ (below ++ node.Class name x ∷ above)) arities, terms, parts.0, uppers)

  pub pair-for : (lower upper : BareTys) → IsPairFor nodes lower upper ↔ BecomesPair nodes lower upper
  pair-for lower upper = (becomes nodes lower upper, fits-as lower upper)
