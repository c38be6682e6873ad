-- The classes between which edges lead, edge by edge.
use Rattle.std.proofs.Common.{◌≡◌, ℕ, ◌+◌, ◌<◌, List, [], ◌∷◌, ◌++◌, length, map, get_or, take, sym, ap, ◌∙◌}
use Rattle.std.proofs.lemmas.List.{map-append, take_more}
use Rattle.sa_unify.specs.declared.declared.Edge.{Edge}
use Rattle.sa_unify.specs.declared.written.WrittenEdge.{WrittenEdge}
use Rattle.sa_unify.specs.DeclaredEdges.{ends_of, ends_written}

pub ends_more : (edges : List Edge) (e : Edge) (written : List WrittenEdge) (i : ℕ) (w : WrittenEdge) → i < length written → w ≡ get_or written i w → map ends_of edges ≡ map ends_written (take i written) → ends_of e ≡ ends_written w → map ends_of (edges ++ e ∷ []) ≡ map ends_written (take (i + 1) written)
ends_more edges e written i w lt is same own =
    map-append ends_of edges (e ∷ []) ∙ ap (λ ps. ps ++ ends_of e ∷ []) same ∙ ap (λ p. map ends_written (take i written) ++ p ∷ []) own
    ∙ sym (map-append ends_written (take i written) (w ∷ [])) ∙ ap (λ x. map ends_written (take i written ++ x ∷ [])) is ∙ ap (map ends_written) (sym (take_more written i w lt))
