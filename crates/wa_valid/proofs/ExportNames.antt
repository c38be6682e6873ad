-- The names of exports, one more on: gathered as the keys of a set, where each was new.
use Rattle.std.proofs.Common.{◌≡◌, ℕ, ◌+◌, ◌<◌, Bool, true, false, List, [], ◌∷◌, ◌++◌, length, get_or, take, drop, map, sym, ap, subst, ◌∙◌}
use Rattle.std.specs.Prelude.{◌≢◌, AllPairs, Decides, if◌then◌else◌}
use Rattle.std.specs.List.{list_any}
use Rattle.std.proofs.lemmas.List.{map_more, map_push, map-append, take-append-drop, drop_more}
use Rattle.wa_syntax.specs.declared.module.Export.{Export}
use Rattle.wa_valid.proofs.Apart.{apart-more, apart-not}

abbrev pub name_of : Export → List ℕ
name_of export = export.name

module _ {K : Type 0} (value : K → List ℕ) (eq : K → K → Bool) (decides : (a b : K) → Decides (eq a b) (value a ≡ value b)) (keys : List K) (key : K) (exports : List Export) (i : ℕ) (export : Export) (within : i < length exports) (is : export ≡ get_or exports i export) (same : value key ≡ export.name) (keys_are : map value keys ≡ map name_of (take i exports)) where
  next : map name_of (take (i + 1) exports) ≡ map value keys ++ value key ∷ []
  next =
      map_more name_of exports i export within
      ∙ ap (λ (front : List (List ℕ)). front ++ name_of (get_or exports i export) ∷ []) (sym keys_are)
      ∙ ap (λ (name : List ℕ). map value keys ++ name ∷ []) (ap name_of (sym is) ∙ sym same)

  pub keys-more : (new : List K) → list_any (eq key) keys ≡ false → new ≡ (if list_any (eq key) keys then keys else keys ++ key ∷ []) → map value new ≡ map name_of (take (i + 1) exports)
  keys-more new none new_is =
      ap (map value) (new_is ∙ ap (λ (b : Bool). if b then keys else keys ++ key ∷ []) none) ∙ map_push value keys key ∙ sym next

  pub names_apart-more : list_any (eq key) keys ≡ false → AllPairs ◌≢◌ (map name_of (take i exports)) → AllPairs ◌≢◌ (map name_of (take (i + 1) exports))
  names_apart-more none apart =
      subst (λ (names : List (List ℕ)). AllPairs ◌≢◌ names) (sym next)
      (apart-more value eq decides keys key none (subst (λ (names : List (List ℕ)). AllPairs ◌≢◌ names) (sym keys_are) apart))

  pub names_apart-not : list_any (eq key) keys ≡ true → ¬ AllPairs ◌≢◌ (map name_of exports)
  names_apart-not some apart =
      let rest = map name_of (drop (i + 1) exports) in
      let all : map name_of exports ≡ map value keys ++ value key ∷ rest =
      ap (map name_of) (sym (take-append-drop i exports) ∙ ap (λ (ys : List Export). take i exports ++ ys) (drop_more exports i export within))
      ∙ map-append name_of (take i exports) (get_or exports i export ∷ drop (i + 1) exports)
      ∙ ap (λ (front : List (List ℕ)). front ++ name_of (get_or exports i export) ∷ rest) (sym keys_are)
      ∙ ap (λ (name : List ℕ). map value keys ++ name ∷ rest) (ap name_of (sym is) ∙ sym same) in
      apart-not value eq decides keys key rest some (subst (λ (names : List (List ℕ)). AllPairs ◌≢◌ names) all apart)
