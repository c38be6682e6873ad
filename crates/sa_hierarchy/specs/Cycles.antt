-- The refusal of edges that form a cycle.
use Rattle.std.specs.Prelude.{◌≡◌, ℕ, ◌<◌, ⊤, List, Some, Contains, length, map, slice_get}
use Rattle.sa_graph.specs.Paths.{HasEdge, HasPath}
use Rattle.sa_ast.specs.declared.class.Class.{Class}
use Rattle.sa_ast.specs.declared.refusal.Rejection.{Rejection}
use Rattle.sa_ast.specs.declared.refusal.Rejection.TheVariants.{Failed, Refused}
use Rattle.sa_ast.specs.declared.refusal.Refusal.{Refusal}
use Rattle.sa_ast.specs.declared.rule.Rule.TheVariants as rule
use Rattle.sa_unify.specs.declared.declared.Edge.{Edge}
use Rattle.sa_unify.specs.declared.written.WrittenEdge.{WrittenEdge}
use Rattle.sa_unify.specs.DeclaredEdges.{ends_written}

-- no class leads to itself
pub record HasNoCycle (Edge : ℕ → ℕ → Type 0) (classes : List Class) : Type 0 where
  pub none : (number : ℕ) → number < length classes → ¬ HasPath Edge number number

-- the refusal is by the rule of subtypes, at the name of the class with this number
pub record IsCycleAt (classes : List Class) (number : ℕ) (refusal : Refusal) : Type 0 where
  pub class : Class
  pub at : slice_get classes number ≡ Some class
  pub is : refusal ≡ record { rule = rule.SubtypeCycle; pos = class.name.pos }

abbrev pub NamesCycle : List Class → ℕ → Rejection → Type 0
NamesCycle classes number (Refused refusal) = IsCycleAt classes number refusal
NamesCycle classes number (Failed why) = ⊤

-- it is that of the first class that leads to itself
pub record IsFirstCycle (Edge : ℕ → ℕ → Type 0) (classes : List Class) (refusal : Refusal) : Type 0 where
  pub number : ℕ
  pub at : IsCycleAt classes number refusal
  pub cycle : HasPath Edge number number
  pub first : (earlier : ℕ) → earlier < number → ¬ HasPath Edge earlier earlier

abbrev pub RefusesCycle : (ℕ → ℕ → Type 0) → List Class → Rejection → Type 0
RefusesCycle Edge classes (Refused refusal) = IsFirstCycle Edge classes refusal
RefusesCycle Edge classes (Failed why) = ⊤

-- one of the edges leads from a class to another
abbrev pub IsBetween : List WrittenEdge → ℕ → ℕ → Type 0
IsBetween written lower upper = Contains (map ends_written written) (lower, upper)

abbrev pub HasEdgeIn : List Edge → ℕ → ℕ → Type 0
HasEdgeIn edges = HasEdge (map (λ e. e.lower) edges) (map (λ e. e.upper) edges)
