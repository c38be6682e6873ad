-- Renumbered variables: if the new numbers have an inverse, the instances are the same.
use Rattle.std.proofs.Common.{◌≡◌, ℕ, List, sym, ap, refl, ◌∙◌}
use Rattle.sa_unify.specs.declared.pattern.Node.{Node}
use Rattle.sa_unify.specs.Terms.{AreTerms, substitute, named, IsInstance, SameInstances}
use Rattle.sa_unify.proofs.Terms.{substitute-twice, substitute-terms}

named-terms : (numbers : List ℕ) → AreTerms (named numbers)
named-terms numbers k = refl

-- the instances of the renumbered nodes are instances of what the inverse makes of them
renamed-instance : (nodes others : List Node) (numbers : List ℕ) → others ≡ substitute (named numbers) nodes → (f : List Node) → IsInstance others f → IsInstance nodes f
renamed-instance nodes others numbers e f i =
    ((λ k. substitute i.0 (named numbers k)), substitute-terms i.0 (named numbers) i.1 (named-terms numbers), sym (substitute-twice i.0 (named numbers) nodes) ∙ ap (substitute i.0) (sym e) ∙ i.2)

pub renamed-same : (nodes others : List Node) (new old : List ℕ) → others ≡ substitute (named new) nodes → nodes ≡ substitute (named old) others → SameInstances nodes others
renamed-same nodes others new old e d = record { same = λ f. (renamed-instance others nodes old d f, renamed-instance nodes others new e f) }

-- the same for lists that are known by what they are equal to
pub renumbered-same : (nodes v w back b : List Node) (new old : List ℕ) → v ≡ substitute (named new) nodes → w ≡ v → back ≡ substitute (named old) w → b ≡ back → nodes ≡ b → SameInstances nodes v
renumbered-same nodes v w back b new old e f d g h =
    renamed-same nodes v new old e (h ∙ g ∙ d ∙ ap (substitute (named old)) f)

pub ruleset renumbers = (renumbered-same)
