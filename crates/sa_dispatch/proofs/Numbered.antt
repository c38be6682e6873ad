-- The indices of the implementations of a signature in the list of all.
use Rattle.std.proofs.Common.{◌≡◌, ℕ, ◌+◌, ◌<◌, ◌≤◌, ◌^◌, List, [], ◌∷◌, ◌++◌, length, take, suc, zero, Some, arith, subst, refl, ap, sym, ◌∙◌, zero-add}
use Rattle.std.specs.Prelude.{sum_by, slice_get, ◌==◌}
use Rattle.std.specs.List.{position}
use Rattle.std.specs.Option.{option_map}
use Rattle.std.proofs.lemmas.List.{length_push, map-append}
use Rattle.std.proofs.lemmas.Option.{same_Some, none-some, slice_get-map}
use Rattle.std.proofs.lemmas.List.Sums.{sum_by-cons, sum_by_push}
use Rattle.sa_dispatch.specs.declared.signature.DispatchTable.{DispatchTable}
use Rattle.sa_dispatch.specs.Layout.{AreNumbered, IsConsistent, implementing_types}
use Rattle.sa_dispatch.specs.Implementations.{first_of, implementation_of}
use Rattle.sa_dispatch.specs.Rising.{IsRising}

pub record IsNumbered (before : ℕ) (signatures : List DispatchTable) (at : ℕ) (signature : DispatchTable) : Type 0 where
  pub rising : IsRising signature.types
  pub first : signature.first ≡ before + sum_by length (take at (implementing_types signatures))
  pub within : signature.first + length signature.types ≤ before + sum_by length (implementing_types signatures)

pub numbered-at : (before : ℕ) (xs : List DispatchTable) (k : ℕ) (s : DispatchTable) → AreNumbered before xs → slice_get xs k ≡ Some s → IsNumbered before xs k s
numbered-at before [] k s h e = absurd (none-some s e)
numbered-at before (x ∷ xs) zero s h e =
    subst (λ y. IsNumbered before (x ∷ xs) 0 y) (same_Some x s e)
    (record { rising = h.0; first = omega (arith, h.1); within = omega (arith, h.1, sum_by-cons length x.types (implementing_types xs)) })
numbered-at before (x ∷ xs) (suc k) s h e =
    let rest = numbered-at (before + length x.types) xs k s h.2 e in
    record {
      rising = rest.rising;
      first = omega (arith, rest.first, sum_by-cons length x.types (take k (implementing_types xs)));
      within = omega (arith, rest.within, sum_by-cons length x.types (implementing_types xs));
    }

pub numbered-push : (before : ℕ) (xs : List DispatchTable) (s : DispatchTable) → AreNumbered before xs → IsRising s.types → s.first ≡ before + sum_by length (implementing_types xs) → AreNumbered before (xs ++ s ∷ [])
numbered-push before [] s h rising e = (rising, omega (arith, e), tt)
numbered-push before (x ∷ xs) s h rising e = (h.0, h.1, numbered-push (before + length x.types) xs s h.2 rising (omega (arith, e, sum_by-cons length x.types (implementing_types xs))))

pub kept-push : (xs : List DispatchTable) (count new_count : ℕ) (s : DispatchTable) → IsConsistent xs count → IsRising s.types → s.first ≡ count → new_count ≡ count + length s.types → new_count < 2 ^ 32 → 1 + length xs < 2 ^ 32 → IsConsistent (xs ++ s ∷ []) new_count
kept-push xs count new_count s kept rising first counted few room = record {
  numbered = numbered-push 0 xs s kept.numbered rising (omega (arith, first, kept.counted));
  counted = rw (map-append (λ (y : DispatchTable). y.types) xs (s ∷ []), sum_by_push length (implementing_types xs) s.types) (omega (arith, kept.counted));
  few_implementations = few;
  few_signatures = rw length_push (omega arith);
}

-- what a look-up by the number of a signature finds, where the implementations are those that are shown
pub found_signature : (xs : List DispatchTable) (count : ℕ) (k : ℕ) (s : DispatchTable) → IsConsistent xs count → Some s ≡ slice_get xs k → IsNumbered 0 xs k s
found_signature xs count k s kept e = numbered-at 0 xs k s kept.numbered (sym e)

pub fits-at : (xs : List DispatchTable) (count : ℕ) (k : ℕ) (s : DispatchTable) → IsConsistent xs count → Some s ≡ slice_get xs k → s.first + length s.types < 2 ^ 32
fits-at xs count k s kept e =
    let at = found_signature xs count k s kept e in
    omega (arith, at.within, kept.counted, kept.few_implementations)

pub first-at : (xs : List DispatchTable) (count : ℕ) (rows : List (List ℕ)) (k : ℕ) (s : DispatchTable) → IsConsistent xs count → implementing_types xs ≡ rows → Some s ≡ slice_get xs k → s.first ≡ first_of rows k
first-at xs count rows k s kept shows e = (found_signature xs count k s kept e).first ∙ zero-add _ ∙ ap (λ (r : List (List ℕ)). sum_by length (take k r)) shows

pub types-at : (xs : List DispatchTable) (rows : List (List ℕ)) (k : ℕ) (s : DispatchTable) → implementing_types xs ≡ rows → Some s ≡ slice_get xs k → slice_get rows k ≡ Some s.types
types-at xs rows k s shows e = rw (← shows, slice_get-map (λ (y : DispatchTable). y.types) xs k, ← e) refl

pub row-at : (xs : List DispatchTable) (count : ℕ) (rows : List (List ℕ)) (k ty : ℕ) (s : DispatchTable) → IsConsistent xs count → implementing_types xs ≡ rows → Some s ≡ slice_get xs k → option_map (λ place. s.first + place) (position (λ t. t == ty) s.types) ≡ implementation_of rows k ty
row-at xs count rows k ty s kept shows e = rw (types-at xs rows k s shows e, first-at xs count rows k s kept shows e) refl
