-- What the table of names says of a class: its number, its name, how many parameters it has, and whether it is immutable.
use Rattle.std.proofs.Common.{◌≡◌, ℕ, zero, suc, Bool, false, List, [], ◌∷◌, Option, Some, None, length, map, slice_get, option_map, refl, sym, ap, ◌∙◌}
use Rattle.std.proofs.lemmas.Option.{none-some}
use Rattle.std.specs.Option.{option_map_or, option_and_then}
use Rattle.sa_ast.specs.declared.class.Class.{Class}
use Rattle.sa_ast.specs.declared.class.FlatClass.{FlatClass}
use Rattle.sa_ast.specs.declared.class.ClassKind.{ClassKind}
use Rattle.sa_ast.specs.Types.{BareTy, Named, Same, Rout, Iter}
use Rattle.sa_unify.specs.declared.names.Names.{Names}
use Rattle.sa_unify.specs.Numbers.{class_place, number_in, row_of, AreNamesOf, kind_bare, kind_of_name, name_of, arity_of}
use Rattle.sa_subtypes.specs.Subtypes.{class_named, is_immutable_kind, is_immutable_type}
use Rattle.sa_subtypes.proofs.ClassPlaces.{named-numbered, numbered-named}

slice_get-map : {A B : Type 0} (f : A → B) (xs : List A) (k : ℕ) → slice_get (map f xs) k ≡ option_map f (slice_get xs k)
slice_get-map f [] k = refl
slice_get-map f (x ∷ xs) zero = refl
slice_get-map f (x ∷ xs) (suc k) = slice_get-map f xs k

module _ (classes : List Class) (names : Names) (are : AreNamesOf classes names) where
  pub number-is : (name : List ℕ) → number_in names.places name ≡ class_place classes 0 name
  number-is name = are.0 name

  row-is : (k : ℕ) (c : Class) → slice_get classes k ≡ Some c → slice_get names.rows.items k ≡ Some (row_of c)
  row-is k c h = ap (λ rows. slice_get rows k) are.2 ∙ slice_get-map row_of classes k ∙ ap (option_map row_of) h

  pub name-is : (k : ℕ) (c : Class) → slice_get classes k ≡ Some c → name_of names k ≡ c.name.name
  name-is k c h = ap (λ o. option_map_or (λ name. name) o []) (ap (λ all. slice_get all k) are.1 ∙ slice_get-map (λ c. c.name.name) classes k ∙ ap (option_map (λ c. c.name.name)) h)

  pub arity-is : (k : ℕ) (c : Class) → slice_get classes k ≡ Some c → arity_of names k ≡ length c.params
  arity-is k c h = ap (λ o. option_map_or (λ row. row.arity) o 0) (row-is k c h)

  -- whether a kind that is known is that of immutable classes
  abbrev pub immutable : Option ClassKind → Bool
  immutable kind = option_map_or is_immutable_kind kind false

  no_number : (name : List ℕ) → class_named classes name ≡ None → class_place classes 0 name ≡ None
  no_number name h = go (class_place classes 0 name) refl
    where
      go : (o : Option ℕ) → class_place classes 0 name ≡ o → o ≡ None
      go None e = refl
      go (Some k) e = let r = numbered-named classes name k e in absurd (none-some r.0 (sym h ∙ r.1))

  named-immutable : (name : List ℕ) → immutable (option_map (λ r. r.kind) (option_and_then (slice_get names.rows.items) (number_in names.places name))) ≡ option_map_or (λ c. is_immutable_kind c.kind) (class_named classes name) false
  named-immutable name = go (class_named classes name) refl
    where
      go : (o : Option Class) → class_named classes name ≡ o → immutable (option_map (λ r. r.kind) (option_and_then (slice_get names.rows.items) (number_in names.places name))) ≡ option_map_or (λ c. is_immutable_kind c.kind) o false
      go None e = ap (λ o. immutable (option_map (λ r. r.kind) (option_and_then (slice_get names.rows.items) o))) (number-is name ∙ no_number name e)
      go (Some c) e =
          let r = named-numbered classes name c e in
          ap (λ o. immutable (option_map (λ r. r.kind) (option_and_then (slice_get names.rows.items) o))) (number-is name ∙ r.1.number)
          ∙ ap (λ o. immutable (option_map (λ row. row.kind) o)) (row-is r.0 c r.1.there)

  -- the kind of the class of a name
  pub kind-named : (name : List ℕ) → kind_of_name names name ≡ option_map (λ c. c.kind) (class_named classes name)
  kind-named name = go (class_named classes name) refl
    where
      go : (o : Option Class) → class_named classes name ≡ o → kind_of_name names name ≡ option_map (λ c. c.kind) o
      go None e = ap (λ o. option_map (λ r. r.kind) (option_and_then (slice_get names.rows.items) o)) (number-is name ∙ no_number name e)
      go (Some c) e =
          let r = named-numbered classes name c e in
          ap (λ o. option_map (λ r. r.kind) (option_and_then (slice_get names.rows.items) o)) (number-is name ∙ r.1.number)
          ∙ ap (option_map (λ row. row.kind)) (row-is r.0 c r.1.there)

pub kind-immutable : (flat : FlatClass) (names : Names) → AreNamesOf flat.classes names → (t : BareTy) → option_map_or is_immutable_kind (kind_bare names t) false ≡ is_immutable_type flat t
kind-immutable flat names are (Named name params) = named-immutable flat.classes names are name
kind-immutable flat names are Same = refl
kind-immutable flat names are (Rout args of) = refl
kind-immutable flat names are (Iter args of) = refl
