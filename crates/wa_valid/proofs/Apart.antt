-- Names that all differ: one more that differs from those before it, or doesn't.
use Rattle.std.proofs.Common.{◌≡◌, ℕ, ◌<◌, Bool, true, false, true≢false, List, [], ◌∷◌, ◌++◌, length, get_or, map, refl, sym, ap, ◌∙◌, arith}
use Rattle.std.specs.Prelude.{◌≢◌, AllPairs, Decides, not}
use Rattle.std.specs.List.{list_any}
use Rattle.std.proofs.lemmas.List.{get_or-map, get_or_append_left, get_or_at, length-map, length-append}
use Rattle.std.proofs.lemmas.List.Folds.{list_any_at, Any-from_list_any}
use Rattle.std.proofs.lemmas.List.Quantifiers.{all_pairs_push}

module _ {K : Type 0} (value : K → List ℕ) (eq : K → K → Bool) (decides : (a b : K) → Decides (eq a b) (value a ≡ value b)) (keys : List K) (key : K) where
  pub apart-more : list_any (eq key) keys ≡ false → AllPairs ◌≢◌ (map value keys) → AllPairs ◌≢◌ (map value keys ++ value key ∷ [])
  apart-more none apart =
      all_pairs_push ◌≢◌ (map value keys) (value key) apart
      (λ i d within e.
      (let inside : i < length keys = omega (arith, length-map keys value) in
      let found = list_any_at (eq key) keys i key inside ((decides key (get_or keys i key)).1 (sym (sym (get_or-map value keys i key d inside) ∙ e))) in
      true≢false (sym found ∙ none)))

  pub apart-not : (rest : List (List ℕ)) → list_any (eq key) keys ≡ true → ¬ AllPairs ◌≢◌ (map value keys ++ value key ∷ rest)
  apart-not rest some apart =
      let found = Any-from_list_any (eq key) keys some in
      let i = found.0 in
      let size : length (map value keys) ≡ length keys = length-map keys value in
      let within : i < length (map value keys) = omega (arith, found.2) in
      let all : length keys < length (map value keys ++ value key ∷ rest) = omega (arith, length-append (map value keys) (value key ∷ rest)) in
      let first : get_or (map value keys ++ value key ∷ rest) i (value key) ≡ value found.1 = get_or_append_left (map value keys) (value key ∷ rest) (value key) i within ∙ get_or-map value keys i found.1 (value key) found.2 ∙ ap value found.3 in
      let second : get_or (map value keys ++ value key ∷ rest) (length keys) (value key) ≡ value key = get_or_at (map value keys) (value key) rest (value key) (length keys) size in
      apart i (length keys) (value key) found.2 all (first ∙ sym ((decides key found.1).0 found.4) ∙ sym second)

pub not_new : (known added : Bool) → added ≡ not known → ¬ (added ≡ true) → known ≡ true
not_new true added is old = refl
not_new false added is old = absurd (old is)

pub is_new : (known added : Bool) → added ≡ not known → added ≡ true → known ≡ false
is_new true added is new = absurd (true≢false (sym new ∙ is))
is_new false added is new = refl
