-- Written features among the features of a class.
use Rattle.std.proofs.Common.{◌≡◌, ℕ, ◌+◌, ◌<◌, List, [], ◌∷◌, ◌++◌, get_or, length, take, subst, inl, inr}
use Rattle.std.specs.List.{All, Contains}
use Rattle.std.proofs.lemmas.List.Elements.{All-more, All-weaker, Contains-append_left, Contains-push}
use Rattle.sa_ast.specs.declared.class.Feature.{Feature}
use Rattle.sa_include.specs.Flattened.{Wins}

wins_among_more : (features : List Feature) (more : Feature) (f : Feature) → Wins features f → Wins (features ++ more ∷ []) f
wins_among_more features more f (inl stub) = inl stub
wins_among_more features more f (inr has) = inr (Contains-append_left features (more ∷ []) f has)

-- one more written feature, whose copy is put after the others
pub wins_copied : (features : List Feature) (copy : Feature) (written : List Feature) (i : ℕ) (d : Feature) → i < length written → All (Wins features) (take i written) → copy ≡ get_or written i d → All (Wins (features ++ copy ∷ [])) (take (i + 1) written)
wins_copied features copy written i d lt all same =
    All-more (Wins (features ++ copy ∷ [])) written i d lt
    (All-weaker (Wins features) (Wins (features ++ copy ∷ [])) (wins_among_more features copy) (take i written) all)
    (inr (subst (Contains (features ++ copy ∷ [])) same (Contains-push features copy)))
