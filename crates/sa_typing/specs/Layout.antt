-- Whether immutable classes have a finite layout.
use Rattle.std.specs.Prelude.{ℕ, ◌+◌, ◌<◌, ◌++◌, List, [], ◌∷◌, cond, filter, length, replicate}
use Rattle.sa_typed.specs.declared.program.TypeDef.{TypeDef}
use Rattle.sa_graph.specs.Paths.{HasEdge, HasPath}
use Rattle.sa_typing.specs.Rows.{Rows, is_immutable, is_immutable_kind}

module _ (w : Rows) where
  -- the immutable classes among the types of the attributes of an immutable class
  abbrev pub held : TypeDef → List ℕ
  held t = cond (is_immutable_kind t.kind) (filter (is_immutable w) t.attrs) []

  -- An edge leads from each immutable class to each of these. The starts of the edges, and their ends, of the classes from a number on.
  abbrev pub starts_from : ℕ → List TypeDef → List ℕ
  starts_from n [] = []
  starts_from n (t ∷ more) = replicate (length (held t)) n ++ starts_from (n + 1) more

  abbrev pub ends_from : List TypeDef → List ℕ
  ends_from [] = []
  ends_from (t ∷ more) = held t ++ ends_from more

  abbrev pub Contains : ℕ → ℕ → Type 0
  Contains = HasEdge (starts_from 0 w.types) (ends_from w.types)

  -- no immutable class contains itself through attributes of immutable classes
  abbrev pub IsAcyclic : Type 0
  IsAcyclic = (ty : ℕ) → ty < length w.types → ¬ HasPath Contains ty ty
