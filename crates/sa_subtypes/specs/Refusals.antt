-- The refusals of a program's classes for the supertypes that they declare.
use Rattle.std.specs.Prelude.{◌≡◌, ◌⊎◌, ⊤, ℕ, List, [], Option, Some, Contains, map, slice_get}
use Rattle.std.specs.Option.{option_map}
use Rattle.sa_ast.specs.declared.class.FlatClass.{FlatClass}
use Rattle.sa_ast.specs.declared.class.ClassKind.{ClassKind}
use Rattle.sa_ast.specs.declared.pos.Pos.{Pos}
use Rattle.sa_ast.specs.declared.refusal.Rejection.{Rejection}
use Rattle.sa_ast.specs.declared.refusal.Rejection.TheVariants.{Failed, Refused}
use Rattle.sa_ast.specs.declared.refusal.Refusal.{Refusal}
use Rattle.sa_ast.specs.declared.rule.Rule.TheVariants as rule
use Rattle.sa_unify.specs.DeclaredEdges.{EdgeNodes, declared_edges}
use Rattle.sa_unify.specs.Numbers.{class_place}
use Rattle.sa_unify.specs.Supertypes.{misplaced}
use Rattle.sa_hierarchy.specs.Cycles.{HasNoCycle, IsFirstCycle}
use Rattle.sa_subtypes.specs.Subtypes.{class_named}

-- the numbers of the two classes of an edge
abbrev pub ends_declared : EdgeNodes → ℕ × ℕ
ends_declared e = (e.0, e.1)

module _ (flat : FlatClass) where
  abbrev pub kind_named : List ℕ → Option ClassKind
  kind_named name = option_map (λ c. c.kind) (class_named flat.classes name)

  -- the positions of the types after `<` that are no abstract classes, in source order
  abbrev pub misplaced_in : List Pos
  misplaced_in = misplaced kind_named flat.classes

  -- an edge that a class declares leads from one class to another, by their numbers and whatever their parameters are
  abbrev pub ClassEdge : ℕ → ℕ → Type 0
  ClassEdge lower upper = Contains (map ends_declared (declared_edges (class_place flat.classes 0) flat.classes)) (lower, upper)

  -- the first type after `<` that is no abstract class
  pub record RefusesSupertype (refusal : Refusal) : Type 0 where
    pub first : slice_get misplaced_in 0 ≡ Some refusal.pos
    pub rule : refusal.rule ≡ rule.SupertypeNotAbstract

  -- if there is none, the first class on a cycle of edges
  abbrev pub RefusesEdges : Rejection → Type 0
  RefusesEdges (Refused refusal) = RefusesSupertype refusal ⊎ ((misplaced_in ≡ []) × IsFirstCycle ClassEdge flat.classes refusal)
  RefusesEdges (Failed why) = ⊤

  -- nothing is refused of them
  pub record AreEdgesRight : Type 0 where
    pub supertypes : misplaced_in ≡ []
    pub acyclic : HasNoCycle ClassEdge flat.classes
