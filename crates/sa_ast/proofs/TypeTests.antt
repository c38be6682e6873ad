-- The test of two types, at each variant.
use Rattle.std.proofs.Common.{◌≡◌, ℕ, List, [], ◌∷◌, Option, refl, ap, false, ◌&&◌}
use Rattle.std.specs.Cmp.Lexicographic.{pointwise}
use Rattle.std.specs.Ordering.{on}
use Rattle.sa_ast.specs.declared.pos.Pos.{Pos}
use Rattle.sa_ast.specs.declared.ty.ModeTy.{ModeTy}
use Rattle.sa_ast.specs.declared.ty.Ty.{Ty}
use Rattle.sa_ast.specs.declared.ty.Ty.TheVariants as ty
use Rattle.sa_ast.specs.TypeEquality.{same_type, same_types, same_arg, same_args, same_type_Decides, same_arg_Decides}
use Rattle.sa_ast.specs.Types.{bare, bare_arg, all_bare, all_bare_args}
use Rattle.sa_ast.proofs.BareTypes.{bares, by_variants}

pub ruleset decided = (same_type_Decides, same_arg_Decides)

pub same_types-all_bare : (ts us : List Ty) → same_types (all_bare ts) (all_bare us) ≡ pointwise (on bare same_type) ts us
same_types-all_bare [] [] = refl
same_types-all_bare [] (u ∷ us) = refl
same_types-all_bare (t ∷ ts) [] = refl
same_types-all_bare (t ∷ ts) (u ∷ us) = ap (λ b. same_type (bare t) (bare u) && b) (same_types-all_bare ts us)

pub same_args-all_bare_args : (xs ys : List ModeTy) → same_args (all_bare_args xs) (all_bare_args ys) ≡ pointwise (on bare_arg same_arg) xs ys
same_args-all_bare_args [] [] = refl
same_args-all_bare_args [] (y ∷ ys) = refl
same_args-all_bare_args (x ∷ xs) [] = refl
same_args-all_bare_args (x ∷ xs) (y ∷ ys) = ap (λ b. same_arg (bare_arg x) (bare_arg y) && b) (same_args-all_bare_args xs ys)

pub ruleset tests = (bares, same_types-all_bare, same_args-all_bare_args)

-- ---- where the first type alone is of the variant

abbrev IsNoNamed : Ty → Type 0
IsNoNamed u = (name : List ℕ) (params : List Ty) (pos : Pos) → u ≡ ty.Named name params pos → ⊥

pub same_type-Named : (name : List ℕ) (params : List Ty) (pos : Pos) (u : Ty) → IsNoNamed u → false ≡ same_type (bare (ty.Named name params pos)) (bare u)
same_type-Named name params pos = by_variants (λ u. IsNoNamed u → false ≡ same_type (bare (ty.Named name params pos)) (bare u))
    (λ name params pos h. absurd (h name params pos refl))
    (λ pos h. simp bares refl)
    (λ args of pos h. simp bares refl)
    (λ args of pos h. simp bares refl)

abbrev IsNoSame : Ty → Type 0
IsNoSame u = (pos : Pos) → u ≡ ty.Same pos → ⊥

pub same_type-Same : (pos : Pos) (u : Ty) → IsNoSame u → false ≡ same_type (bare (ty.Same pos)) (bare u)
same_type-Same pos = by_variants (λ u. IsNoSame u → false ≡ same_type (bare (ty.Same pos)) (bare u))
    (λ name params pos h. simp bares refl)
    (λ pos h. absurd (h pos refl))
    (λ args of pos h. simp bares refl)
    (λ args of pos h. simp bares refl)

abbrev IsNoRout : Ty → Type 0
IsNoRout u = (args : List ModeTy) (of : Option Ty) (pos : Pos) → u ≡ ty.Rout args of pos → ⊥

pub same_type-Rout : (args : List ModeTy) (of : Option Ty) (pos : Pos) (u : Ty) → IsNoRout u → false ≡ same_type (bare (ty.Rout args of pos)) (bare u)
same_type-Rout args of pos = by_variants (λ u. IsNoRout u → false ≡ same_type (bare (ty.Rout args of pos)) (bare u))
    (λ name params pos h. simp bares refl)
    (λ pos h. simp bares refl)
    (λ args of pos h. absurd (h args of pos refl))
    (λ args of pos h. simp bares refl)

abbrev IsNoIter : Ty → Type 0
IsNoIter u = (args : List ModeTy) (of : Option Ty) (pos : Pos) → u ≡ ty.Iter args of pos → ⊥

pub same_type-Iter : (args : List ModeTy) (of : Option Ty) (pos : Pos) (u : Ty) → IsNoIter u → false ≡ same_type (bare (ty.Iter args of pos)) (bare u)
same_type-Iter args of pos = by_variants (λ u. IsNoIter u → false ≡ same_type (bare (ty.Iter args of pos)) (bare u))
    (λ name params pos h. simp bares refl)
    (λ pos h. simp bares refl)
    (λ args of pos h. simp bares refl)
    (λ args of pos h. absurd (h args of pos refl))
