-- The table of the indices of parameters, filled from the last parameter to the first.
use Rattle.std.proofs.Common.{◌≡◌, ℕ, ◌+◌, ◌<◌, List, Some, cond, nat_eq, length, get_or, drop, sym, ap, ◌∙◌, add-one, drop-cons, suc, arith}
use Rattle.std.specs.Cmp.Lexicographic.{pointwise}
use Rattle.std.specs.HashMap.{HashMap, get}
use Rattle.sa_ast.specs.declared.class.TypeParam.{TypeParam}
use Rattle.sa_subst.specs.Substitution.{place_of, HasPlaces}

-- one more parameter in front, whose name is inserted into the table
pub has_places-more : {S : Type 0} (table more : HashMap (List ℕ) ℕ S) (params : List TypeParam) (i : ℕ) (p : TypeParam) → i < length params → p ≡ get_or params i p → HasPlaces table params (i + 1) → ((name : List ℕ) → get (pointwise nat_eq) more name ≡ cond (pointwise nat_eq p.name.name name) (Some i) (get (pointwise nat_eq) table name)) → HasPlaces more params i
has_places-more table more params i p h e known put name =
    put name ∙ ap (cond (pointwise nat_eq p.name.name name) (Some i)) (known name) ∙ sym (first name)
  where
    first : (name : List ℕ) → place_of (drop i params) i name ≡ cond (pointwise nat_eq p.name.name name) (Some i) (place_of (drop (i + 1) params) (i + 1) name)
    first name =
        let same : i + 1 ≡ suc i = omega arith in
        rw (add-one, drop-cons params i p h, ← e) (ap (λ k. cond (pointwise nat_eq p.name.name name) (Some i) (place_of (drop (suc i) params) k name)) same)
