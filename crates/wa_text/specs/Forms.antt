-- How the grammar of listings is written. A form is a predicate on lists, of the words of a line or of lines: each production
-- gives the form of its value.
use Rattle.std.specs.Prelude.{◌≡◌, List, [], ◌∷◌, ◌++◌}

abbrev pub Form : Type 0 → Type 1
Form X = List X → Type 0

-- nothing
abbrev pub nothing : {X : Type 0} → Form X
nothing xs = xs ≡ []

-- these and no others
abbrev pub exactly : {X : Type 0} → List X → Form X
exactly wanted xs = xs ≡ wanted

-- the one form, and after it the other
infixr 5 ◌then◌
abbrev pub ◌then◌ : {X : Type 0} → Form X → Form X → Form X
◌then◌ {X} A B xs = (front : List X) × (back : List X) × (xs ≡ front ++ back) × A front × B back

-- the values one after another
abbrev pub each : {X V : Type 0} → (V → Form X) → List V → Form X
each F [] = nothing
each F (v ∷ vs) = F v then each F vs
