-- Types with variables as lists of nodes in prefix order (a node comes before its children), and substitution for the variables.
use Rattle.std.specs.Prelude.{◌≡◌, ◌↔◌, ℕ, zero, suc, ◌+◌, max, ◌||◌, Bool, true, false, cond}
use Rattle.std.specs.Prelude.{nat_eq, List, [], ◌∷◌, ◌++◌, get_or, Option, Some, None, flat_map}
use Rattle.sa_unify.specs.declared.pattern.Node.{Node}
use Rattle.sa_unify.specs.declared.pattern.Node.TheVariants as node
use Rattle.sa_unify.specs.declared.unification.Step.{Step}
use Rattle.sa_unify.specs.declared.unification.Step.TheVariants as step

-- ---- terms: a node with all its descendants

-- how many children a node has
abbrev pub held : Node → ℕ
held (node.Variable number) = 0
held (node.Class name count) = count
held (node.Routine count) = count
held (node.Iter count) = count
held (node.Passed mode) = 0
held (node.List count) = count

-- the nodes after n terms at the head of a list, if they are there
abbrev pub following : List Node → ℕ → Option (List Node)
following [] zero = Some []
following [] (suc n) = None
following (a ∷ more) zero = Some (a ∷ more)
following (a ∷ more) (suc n) = following more (held a + n)

-- the nodes are one term
abbrev pub IsTerm : List Node → Type 0
IsTerm nodes = following nodes 1 ≡ Some []

-- ---- substitution of terms for variables

abbrev pub Values : Type 0
Values = ℕ → List Node

-- each variable stands for one term
abbrev pub AreTerms : Values → Type 0
AreTerms values = (number : ℕ) → IsTerm (values number)

abbrev pub value_of : Values → Node → List Node
value_of values (node.Variable number) = values number
value_of values (node.Class name count) = node.Class name count ∷ []
value_of values (node.Routine count) = node.Routine count ∷ []
value_of values (node.Iter count) = node.Iter count ∷ []
value_of values (node.Passed mode) = node.Passed mode ∷ []
value_of values (node.List count) = node.List count ∷ []

-- the nodes with these terms substituted for the variables
abbrev pub substitute : Values → List Node → List Node
substitute values nodes = flat_map (value_of values) nodes

-- the variable is replaced by this term, and each other one by itself
abbrev pub only : ℕ → List Node → Values
only number term other = cond (nat_eq other number) term (node.Variable other ∷ [])

-- each variable is replaced by the one whose number is greater by this much
abbrev pub later : ℕ → Values
later more number = node.Variable (number + more) ∷ []

abbrev pub is_variable : ℕ → Node → Bool
is_variable number (node.Variable other) = nat_eq other number
is_variable number _ = false

-- whether the variable occurs in the nodes
abbrev pub comes : ℕ → List Node → Bool
comes number [] = false
comes number (a ∷ more) = is_variable number a || comes number more

-- the number after that of a variable
abbrev pub after : Node → ℕ
after (node.Variable number) = number + 1
after _ = 0

-- the number after those of all variables in the nodes
abbrev pub free : List Node → ℕ
free [] = 0
free (a ∷ more) = max (after a) (free more)

-- ---- unification of two lists of nodes

-- the variable at the head of the nodes, if there is one
abbrev pub variable_in : List Node → Option ℕ
variable_in [] = None
variable_in (node.Variable number ∷ more) = Some number
variable_in (a ∷ more) = None

-- the heads of two lists differ, and neither has ended
abbrev pub Differ : List Node → List Node → Type 0
Differ [] others = Unit {0}
Differ (a ∷ more) [] = Unit {0}
Differ (a ∷ more) (b ∷ others) = a ≡ b → ⊥

-- the two lists have no unifier: no terms make them equal
pub record NeverEqual (one other : List Node) : Type 0 where
  pub never : (values : Values) → AreTerms values → substitute values one ≡ substitute values other → ⊥

-- the next step of the unification
abbrev pub IsStep : List Node → List Node → Step → Type 0
IsStep one other step.Equal = one ≡ other
IsStep one other step.Never = NeverEqual one other
IsStep one other (step.Bind number term) =
    IsTerm term.items
    × ((values : Values) → AreTerms values → substitute values one ≡ substitute values other → values number ≡ substitute values term.items)

-- the variable is bound to the term at the head of the nodes, if it doesn't occur in it
abbrev pub IsBound : ℕ → List Node → Step → Type 0
IsBound number nodes step.Equal = ⊥
IsBound number nodes step.Never =
    (term : List Node) × (rest : List Node) × (nodes ≡ term ++ rest) × IsTerm term × (comes number term ≡ true)
IsBound number nodes (step.Bind other term) = (rest : List Node) × (nodes ≡ term.items ++ rest) × IsTerm term.items × (other ≡ number)

-- each instance of the result is what `kept` is under a unifier of the two lists
abbrev pub IsByUnifiers : (kept one other unified : List Node) → Type 0
IsByUnifiers kept one other unified =
    (values : Values) → AreTerms values
    → (unifier : Values) × AreTerms unifier
    × (substitute unifier one ≡ substitute unifier other)
    × (substitute values unified ≡ substitute unifier kept)

-- under each unifier the result is what `kept` is
abbrev pub IsUnderUnifiers : (kept one other unified : List Node) → Type 0
IsUnderUnifiers kept one other unified =
    (unifier : Values) → AreTerms unifier → substitute unifier one ≡ substitute unifier other
    → substitute unifier unified ≡ substitute unifier kept

-- what the nodes `kept` become under a most general unifier of the two lists, if they have a unifier
abbrev pub IsUnified : List Node → List Node → List Node → Option (List Node) → Type 0
IsUnified kept one other None = NeverEqual one other
IsUnified kept one other (Some unified) = IsByUnifiers kept one other unified × IsUnderUnifiers kept one other unified

-- ---- the nodes of the composition of two pairs

-- each instance of the result is the beginning of the first pair and the end of the second,
-- each with terms that make the end of the first equal to the beginning of the second
abbrev pub IsOfJoints : (below ends begins above joined : List Node) → Type 0
IsOfJoints below ends begins above joined =
    (values : Values) → AreTerms values
    → (lower : Values) × (upper : Values)
    × AreTerms lower
    × AreTerms upper
    × (substitute lower ends ≡ substitute upper begins)
    × (substitute values joined ≡ substitute lower below ++ substitute upper above)

-- all such terms give an instance of the result
abbrev pub HasJoints : (below ends begins above joined : List Node) → Type 0
HasJoints below ends begins above joined =
    (lower upper : Values) → AreTerms lower → AreTerms upper → substitute lower ends ≡ substitute upper begins
    → (values : Values) × AreTerms values × (substitute values joined ≡ substitute lower below ++ substitute upper above)

abbrev pub IsJoined : (below ends begins above : List Node) → Option (List Node) → Type 0
IsJoined below ends begins above None =
    (lower upper : Values) → AreTerms lower → AreTerms upper → substitute lower ends ≡ substitute upper begins → ⊥
IsJoined below ends begins above (Some joined) = IsOfJoints below ends begins above joined × HasJoints below ends begins above joined

-- ---- the instances of a pair

-- the nodes are what these become with terms for the variables
abbrev pub IsInstance : List Node → List Node → Type 0
IsInstance nodes instance = (values : Values) × AreTerms values × (substitute values nodes ≡ instance)

-- two lists of nodes become equal with terms for their variables
pub record SameInstances (nodes others : List Node) : Type 0 where
  pub same : (instance : List Node) → IsInstance nodes instance ↔ IsInstance others instance

-- each variable is replaced by the one with the number that a list has at its index
abbrev pub named : List ℕ → Values
named numbers k = node.Variable (get_or numbers k 0) ∷ []

-- ---- composition of two pairs

-- two pairs compose to a third one: the supertype of the first has the arguments with which the second begins
pub record Follows (first second both : List Node) : Type 0 where
  pub lower : List Node
  pub name : List ℕ
  pub count : ℕ
  pub args : List Node
  pub upper : List Node
  pub term : IsTerm lower
  pub terms : following args count ≡ Some []
  pub begins : first ≡ lower ++ node.Class name count ∷ args
  pub ends : second ≡ node.List count ∷ args ++ upper
  pub joins : both ≡ lower ++ upper

-- the composition of an instance of the one and an instance of the other
abbrev pub IsGiven : (first second both : List Node) → Type 0
IsGiven first second both = (p : List Node) × (q : List Node) × IsInstance first p × IsInstance second q × Follows p q both

abbrev pub IsInstanceOf : Option (List Node) → List Node → Type 0
IsInstanceOf None instance = ⊥
IsInstanceOf (Some nodes) instance = IsInstance nodes instance

-- the instances of the result are the compositions of instances of the two pairs
pub record IsComposed (first second : List Node) (composed : Option (List Node)) : Type 0 where
  pub same : (instance : List Node) → IsInstanceOf composed instance ↔ IsGiven first second instance
