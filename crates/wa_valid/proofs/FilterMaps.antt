-- What is imported of one kind, one more import on.
use Rattle.std.proofs.Common.{◌≡◌, ℕ, ◌+◌, ◌<◌, List, [], ◌∷◌, ◌++◌, length, get_or, take, refl, sym, ap, ◌∙◌, arith}
use Rattle.std.specs.Prelude.{Option, Some, None, filter_map, option_to_list}
use Rattle.std.proofs.lemmas.List.{take_more, length-append}
use Rattle.std.proofs.lemmas.List.Elements.{filter_map-append}

filter_map-one : {X Y : Type 0} (h : X → Option Y) (x : X) → filter_map h (x ∷ []) ≡ option_to_list (h x)
filter_map-one {Y = Y} h x = by (h x) refl
  where
    by : (o : Option Y) → h x ≡ o → filter_map h (x ∷ []) ≡ option_to_list (h x)
    by None e = cc
    by (Some y) e = cc

filter_map-next : {X Y : Type 0} (h : X → Option Y) (xs : List X) (i : ℕ) (d : X) → i < length xs → filter_map h (take (i + 1) xs) ≡ filter_map h (take i xs) ++ option_to_list (h (get_or xs i d))
filter_map-next {Y = Y} h xs i d within =
    ap (filter_map h) (take_more xs i d within) ∙ filter_map-append h (take i xs) (get_or xs i d ∷ []) ∙ ap (λ (rest : List Y). filter_map h (take i xs) ++ rest) (filter_map-one h (get_or xs i d))

module _ {X Y : Type 0} (h : X → Option Y) (xs : List X) (i : ℕ) (x : X) where
  pub filter_map-more : (old new : List Y) → x ≡ get_or xs i x → i < length xs → old ≡ filter_map h (take i xs) → new ≡ old ++ option_to_list (h x) → new ≡ filter_map h (take (i + 1) xs)
  filter_map-more old new is within before add =
      add ∙ ap (λ (front : List Y). front ++ option_to_list (h x)) before ∙ ap (λ (y : X). filter_map h (take i xs) ++ option_to_list (h y)) is ∙ sym (filter_map-next h xs i x within)

  pub count-more : x ≡ get_or xs i x → (count one : ℕ) → i < length xs → count ≡ length (filter_map h (take i xs)) → one ≡ length (option_to_list (h x)) → count + one ≡ length (filter_map h (take (i + 1) xs))
  count-more is count one within before add =
      let next : length (filter_map h (take (i + 1) xs)) ≡ length (filter_map h (take i xs)) + length (option_to_list (h (get_or xs i x))) = ap length (filter_map-next h xs i x within) ∙ length-append (filter_map h (take i xs)) (option_to_list (h (get_or xs i x))) in
      let same : length (option_to_list (h x)) ≡ length (option_to_list (h (get_or xs i x))) = ap (λ (y : X). length (option_to_list (h y))) is in
      omega arith
