-- The step at the first difference of two lists of nodes.
use Rattle.std.proofs.Common.{◌≡◌, ◌≢◌, ℕ, ◌+◌, ◌-◌, ◌≤◌, true, List, [], ◌∷◌, ◌++◌, Some, None, length, take, drop, refl, sym, ap, subst, ◌∙◌, arith, length-drop}
use Rattle.std.proofs.Math.Seq.{take-length}
use Rattle.std.proofs.lemmas.List.{drop-drop, take-append-drop}
use Rattle.std.proofs.lemmas.Option.{none-some}
use Rattle.sa_unify.specs.declared.unification.Step.{Step}
use Rattle.sa_unify.specs.declared.unification.Step.TheVariants as step
use Rattle.sa_unify.specs.declared.pattern.Node.{Node}
use Rattle.sa_unify.specs.declared.pattern.Node.TheVariants as node
use Rattle.sa_unify.specs.Terms.{following, IsTerm, Values, AreTerms, substitute, comes, variable_in, Differ, IsBound, IsStep, NeverEqual}
use Rattle.sa_unify.proofs.Terms.{substitute-following, substitute-bound, substitute-clash, never-holds, term-taken}

some_numbers : (m n : ℕ) → Some m ≡ Some n → m ≡ n
some_numbers m n e = cc

-- a list that begins with a variable
variable-head : (nodes : List Node) (number : ℕ) → variable_in nodes ≡ Some number → (more : List Node) × (nodes ≡ node.Variable number ∷ more)
variable-head [] number h = absurd (none-some number h)
variable-head (node.Variable other ∷ more) number h = (more, ap (λ n. node.Variable n ∷ more) (some_numbers other number h))
variable-head (node.Class name count ∷ more) number h = absurd (none-some number h)
variable-head (node.Routine count ∷ more) number h = absurd (none-some number h)
variable-head (node.Iter count ∷ more) number h = absurd (none-some number h)
variable-head (node.Passed mode ∷ more) number h = absurd (none-some number h)
variable-head (node.List count ∷ more) number h = absurd (none-some number h)

-- ---- both lists have ended

-- a list that is taken whole
taken : (nodes : List Node) (place : ℕ) → place ≡ length nodes → take place nodes ≡ nodes
taken nodes place e = ap (λ n. take n nodes) e ∙ take-length nodes

pub step-Equal : (one other : List Node) (place : ℕ) → place ≡ length one → place ≡ length other → take place one ≡ take place other → IsStep one other step.Equal
step-Equal one other place e f same = sym (taken one place e) ∙ same ∙ taken other place f

-- ---- a variable is bound

module _ (one other : List Node) (place number : ℕ) (same : take place one ≡ take place other) where
  forced : (term rest more : List Node) → drop place one ≡ term ++ rest → drop place other ≡ node.Variable number ∷ more → IsTerm term → (values : Values) → AreTerms values → substitute values one ≡ substitute values other → values number ≡ substitute values term
  forced term rest more d e h values terms p =
      substitute-bound values number term rest more terms h (ap (substitute values) (sym d) ∙ substitute-following values one other place same p ∙ ap (substitute values) e)

  not_itself : (term rest more : List Node) → Differ (drop place one) (drop place other) → drop place one ≡ term ++ rest → drop place other ≡ node.Variable number ∷ more → term ≡ node.Variable number ∷ [] → ⊥
  not_itself term rest more differ d e same_term =
      subst (λ l. Differ l (node.Variable number ∷ more)) (d ∙ ap (λ w. w ++ rest) same_term) (subst (λ l. Differ (drop place one) l) e differ) refl

  bound-step : (r : Step) → Differ (drop place one) (drop place other) → (more : List Node) → drop place other ≡ node.Variable number ∷ more → IsBound number (drop place one) r → IsStep one other r
  bound-step step.Equal differ more e h = absurd h
  bound-step step.Never differ more e h = record {
    never = λ values terms p. never-holds values number h.0 h.3 h.4 (not_itself h.0 h.1 more differ h.2 e) (forced h.0 h.1 more h.2 e h.3 values terms p);
  }
  bound-step (step.Bind n term) differ more e h = (h.2, λ values terms p. ap values h.3 ∙ forced term.items h.0 more h.1 e h.2 values terms p)

pub step-bound : (one other : List Node) (place number : ℕ) (r : Step) → take place one ≡ take place other → Differ (drop place one) (drop place other) → variable_in (drop place other) ≡ Some number → IsBound number (drop place one) r → IsStep one other r
step-bound one other place number r same differ v h =
    let head = variable-head (drop place other) number v in
    bound-step one other place number same r differ head.0 head.1 h

-- ---- the same the other way round

differ-turned : (l m : List Node) → Differ l m → Differ m l
differ-turned [] [] d = tt
differ-turned [] (b ∷ more) d = tt
differ-turned (a ∷ more) [] d = tt
differ-turned (a ∷ more) (b ∷ others) d = λ e. d (sym e)

step-turned : (one other : List Node) (r : Step) → IsStep one other r → IsStep other one r
step-turned one other step.Equal h = sym h
step-turned one other step.Never h = record { never = λ values terms p. h.never values terms (sym p) }
step-turned one other (step.Bind number term) h = (h.0, λ values terms p. h.1 values terms (sym p))

pub step-bound_other : (one other : List Node) (place number : ℕ) (r : Step) → take place one ≡ take place other → Differ (drop place one) (drop place other) → variable_in (drop place one) ≡ Some number → IsBound number (drop place other) r → IsStep one other r
step-bound_other one other place number r same differ v h =
    step-turned other one r (step-bound other one place number r (sym same) (differ-turned (drop place one) (drop place other) differ) v h)

-- ---- two nodes that differ and are no variables

no-variable : (a : Node) (more : List Node) → variable_in (a ∷ more) ≡ None → (n : ℕ) → a ≡ node.Variable n → ⊥
no-variable a more h n e = none-some n (sym h ∙ ap (λ x. variable_in (x ∷ more)) e)

clash : (l m : List Node) → Differ l m → (l ≡ [] → ⊥) → (m ≡ [] → ⊥) → variable_in l ≡ None → variable_in m ≡ None → (values : Values) → substitute values l ≡ substitute values m → ⊥
clash [] m differ left right v w values p = left refl
clash (a ∷ rest) [] differ left right v w values p = right refl
clash (a ∷ rest) (b ∷ more) differ left right v w values p = differ (substitute-clash values a b rest more (no-variable a rest v) (no-variable b more w) p)

length-left : (nodes : List Node) (place : ℕ) → place ≤ length nodes → place ≢ length nodes → drop place nodes ≡ [] → ⊥
length-left nodes place h left e =
    let all : length (drop place nodes) ≡ length nodes - place = length-drop place nodes in
    let none : length (drop place nodes) ≡ 0 = ap length e in
    left (omega (arith, h, all, none))

pub step-Never : (one other : List Node) (place : ℕ) → take place one ≡ take place other → Differ (drop place one) (drop place other) → place ≤ length one → place ≤ length other → place ≢ length one → place ≢ length other → variable_in (drop place one) ≡ None → variable_in (drop place other) ≡ None → NeverEqual one other
step-Never one other place same differ h k left right v w = record {
  never = λ values terms p. clash (drop place one) (drop place other) differ (length-left one place h left) (length-left other place k right) v w values (substitute-following values one other place same p);
}

pub ruleset steps = (step-Equal, step-bound, step-bound_other, step-Never)

-- ---- the term at an index

pub slice-rest : (nodes : List Node) (place end : ℕ) → place ≤ end → take (end - place) (drop place nodes) ++ drop end nodes ≡ drop place nodes
slice-rest nodes place end h =
    let sum : place + (end - place) ≡ end = omega (arith, h) in
    let rest : drop (end - place) (drop place nodes) ≡ drop end nodes = drop-drop (end - place) place nodes ∙ ap (λ n. drop n nodes) sum in
    ap (λ l. take (end - place) (drop place nodes) ++ l) (sym rest) ∙ take-append-drop (end - place) (drop place nodes)

slice-term : (nodes : List Node) (place end : ℕ) → place ≤ end → following (drop place nodes) 1 ≡ Some (drop end nodes) → IsTerm (take (end - place) (drop place nodes))
slice-term nodes place end h e =
    term-taken (take (end - place) (drop place nodes)) (drop end nodes) (ap (λ l. following l 1) (slice-rest nodes place end h) ∙ e)

pub bound-Never : (nodes term : List Node) (place end number : ℕ) → place ≤ end → following (drop place nodes) 1 ≡ Some (drop end nodes) → term ≡ take (end - place) (drop place nodes) → comes number term ≡ true → IsBound number (drop place nodes) step.Never
bound-Never nodes term place end number h e w c =
    (term, drop end nodes, sym (slice-rest nodes place end h) ∙ ap (λ l. l ++ drop end nodes) (sym w), subst IsTerm (sym w) (slice-term nodes place end h e), c)

pub bound-term : (nodes term : List Node) (place end number : ℕ) → place ≤ end → following (drop place nodes) 1 ≡ Some (drop end nodes) → term ≡ take (end - place) (drop place nodes) → (rest : List Node) × (drop place nodes ≡ term ++ rest) × IsTerm term × (number ≡ number)
bound-term nodes term place end number h e w =
    (drop end nodes, sym (slice-rest nodes place end h) ∙ ap (λ l. l ++ drop end nodes) (sym w), subst IsTerm (sym w) (slice-term nodes place end h e), refl)

pub ruleset bounds = (bound-Never)
