-- Calls of bound values that agree by site: each is of the type that comes first at its site.
use Rattle.std.proofs.Common.{◌≡◌, ℕ, zero, suc, inl, inr, true, false, ◌==◌, List, [], ◌∷◌, length, replicate, set, Option, Some, None, slice_get, option_and_then, refl, sym, ap, subst, ◌∙◌, eqb-true}
use Rattle.std.specs.Option.{option_map_or}
use Rattle.std.proofs.lemmas.Bool.{cases_eq, cond-true, cond-false, eq-eqb, ne_eqb}
use Rattle.std.proofs.lemmas.Option.{none-some}
use Rattle.sa_typed.specs.declared.feature.TypedFeature.{TypedFeature}
use Rattle.sa_typed.specs.Copy.{block_of}
use Rattle.sa_typing.specs.Rows.{Rows}
use Rattle.sa_typing.specs.Features.{feature_env, has_well_header}
use Rattle.sa_typing.specs.Contexts.{outside}
use Rattle.sa_typing.specs.Sites.{agree_on_types, agree_with, is_known_as, stmts_sites}
use Rattle.sa_typing.specs.Statements.{well_stmts}
use Rattle.sa_typing.specs.WellTyped.{AreWellTyped}
use Rattle.sa_type_safety.specs.Typing.{Each, first_at}
use Rattle.sa_type_safety.proofs.Facts.{first_of, second_of, some_that, feature_at}

-- ---- a list with another element

set_same : {A : Type 0} (list : List A) (i : ℕ) (a b : A) → slice_get list i ≡ Some b → slice_get (set list i a) i ≡ Some a
set_same [] i a b e = absurd (none-some b e)
set_same (c ∷ more) zero a b e = refl
set_same (c ∷ more) (suc i) a b e = set_same more i a b e

set_other : {A : Type 0} (list : List A) (i j : ℕ) (a : A) → (i ≡ j → ⊥) → slice_get (set list i a) j ≡ slice_get list j
set_other [] i j a h = refl
set_other (c ∷ more) zero zero a h = absurd (h refl)
set_other (c ∷ more) zero (suc j) a h = refl
set_other (c ∷ more) (suc i) zero a h = refl
set_other (c ∷ more) (suc i) (suc j) a h = set_other more i j a (λ e. h (ap suc e))

-- ---- what is known of a site, or else comes first

abbrev or_else : Option ℕ → Option ℕ → Option ℕ
or_else None other = other
or_else (Some a) other = Some a

abbrev known_at : List (Option ℕ) → ℕ → Option ℕ
known_at known site = option_and_then (λ (o : Option ℕ). o) (slice_get known site)

abbrev known_first : List (Option ℕ) → List (ℕ × ℕ) → ℕ → Option ℕ
known_first known list site = or_else (known_at known site) (first_at list site)

nothing_known : (n site : ℕ) → known_at (replicate n None) site ≡ None
nothing_known zero site = refl
nothing_known (suc n) zero = refl
nothing_known (suc n) (suc site) = nothing_known n site

-- what is known of the site of a call is its type
head_known : (o : Option ℕ) (ty : ℕ) → is_known_as ty o ≡ true → or_else o (Some ty) ≡ Some ty
head_known None ty h = refl
head_known (Some known) ty h = ap Some (eqb-true known ty h)

module _ (known : List (Option ℕ)) (s : ℕ × ℕ) (more : List (ℕ × ℕ)) (h : option_map_or (is_known_as s.1) (slice_get known s.0) false ≡ true) where
  head_is : known_first known (s ∷ more) s.0 ≡ Some s.1
  head_is =
      let found = some_that (is_known_as s.1) (slice_get known s.0) h in
      ap (λ o. or_else (option_and_then (λ (p : Option ℕ). p) o) (first_at (s ∷ more) s.0)) found.1
      ∙ ap (or_else found.0) (cond-true (s.0 == s.0) (Some s.1) (first_at more s.0) (eq-eqb s.0 s.0 refl))
      ∙ head_known found.0 s.1 found.2

  -- the same is known of each site when this call is among what is known
  known_on : (site : ℕ) → known_first (set known s.0 (Some s.1)) more site ≡ known_first known (s ∷ more) site
  known_on site =
      elim (cases_eq s.0 site) as (λ x. known_first (set known s.0 (Some s.1)) more site ≡ known_first known (s ∷ more) site) [
        | inl same ↦ subst (λ n. known_first (set known s.0 (Some s.1)) more n ≡ known_first known (s ∷ more) n) same
            (ap (λ o. or_else (option_and_then (λ (p : Option ℕ). p) o) (first_at more s.0)) (set_same known s.0 (Some s.1) (some_that (is_known_as s.1) (slice_get known s.0) h).0 (some_that (is_known_as s.1) (slice_get known s.0) h).1) ∙ sym head_is)
        | inr other ↦ ap (λ o. or_else (option_and_then (λ (p : Option ℕ). p) o) (first_at more site)) (set_other known s.0 site (Some s.1) other)
            ∙ ap (or_else (known_at known site)) (sym (cond-false (s.0 == site) (Some s.1) (first_at more site) (ne_eqb s.0 site other)))
      ]

each_with : (one other : ℕ → Option ℕ) → ((site : ℕ) → one site ≡ other site) → (list : List (ℕ × ℕ)) → Each (λ s. one s.0 ≡ Some s.1) list → Each (λ s. other s.0 ≡ Some s.1) list
each_with one other same [] h = tt
each_with one other same (s ∷ more) h = (sym (same s.0) ∙ h.0, each_with one other same more h.1)

agreeing : (known : List (Option ℕ)) (list : List (ℕ × ℕ)) → agree_with known list ≡ true → Each (λ s. known_first known list s.0 ≡ Some s.1) list
agreeing known [] h = tt
agreeing known (s ∷ more) h =
    let first = first_of (option_map_or (is_known_as s.1) (slice_get known s.0) false) (agree_with (set known s.0 (Some s.1)) more) h in
    let rest = second_of (option_map_or (is_known_as s.1) (slice_get known s.0) false) (agree_with (set known s.0 (Some s.1)) more) h in (
      head_is known s more first,
      each_with (known_first (set known s.0 (Some s.1)) more) (known_first known (s ∷ more)) (known_on known s more first) more (agreeing (set known s.0 (Some s.1)) more rest),
    )

all_agree : (n : ℕ) (list : List (ℕ × ℕ)) → agree_on_types n list ≡ true → Each (λ s. first_at list s.0 ≡ Some s.1) list
all_agree n list h =
    each_with (known_first (replicate n None) list) (first_at list) (λ site. ap (λ o. or_else o (first_at list site)) (nothing_known n site)) list (agreeing (replicate n None) list h)

pub agreed : {w : Rows} {number : ℕ} (well : AreWellTyped w number) (k : ℕ) (f : TypedFeature) → slice_get w.features k ≡ Some f → Each (λ s. first_at (stmts_sites (feature_env w f) outside (block_of f.body)) s.0 ≡ Some s.1) (stmts_sites (feature_env w f) outside (block_of f.body))
agreed {w} well k f e =
    all_agree (length f.sites) (stmts_sites (feature_env w f) outside (block_of f.body))
    (second_of (well_stmts (feature_env w f) outside (block_of f.body)) _ (second_of (has_well_header w f) _ (feature_at well k f e)))
