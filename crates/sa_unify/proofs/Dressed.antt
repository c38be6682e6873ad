-- A type of a source for each type without positions.
use Rattle.std.proofs.Common.{◌≡◌, suc, List, [], ◌∷◌, Option, None, Some, length, refl, ap, ◌∙◌}
use Rattle.sa_ast.specs.declared.pos.Pos.{Pos}
use Rattle.sa_ast.specs.declared.ty.ModeTy.{ModeTy}
use Rattle.sa_ast.specs.declared.ty.Ty.{Ty}
use Rattle.sa_ast.specs.declared.ty.Ty.TheVariants as ty
use Rattle.sa_ast.specs.Types.{BareTy, Named, Same, Rout, Iter, BareTys, no_types, type, BareArgs, no_args, arg, BareResult, no_result, gives, bare, all_bare, all_bare_args, option_bare}
use Rattle.sa_ast.proofs.BareTypes.{bare-Named, bare-Same, bare-Rout, bare-Iter, bare_arg-parts}
use Rattle.sa_unify.specs.Spelled.{count_types}

pub count-all_bare : (types : List Ty) → count_types (all_bare types) ≡ length types
count-all_bare [] = refl
count-all_bare (t ∷ types) = ap suc (count-all_bare types)

module _ (pos : Pos) where
  abbrev mutual
    pub dressed : BareTy → Ty
    dressed (Named name params) = ty.Named name (dress_all params) pos
    dressed Same = ty.Same pos
    dressed (Rout args of) = ty.Rout (dress_args args) (dress_result of) pos
    dressed (Iter args of) = ty.Iter (dress_args args) (dress_result of) pos

    pub dress_all : BareTys → List Ty
    dress_all no_types = []
    dress_all (type t more) = dressed t ∷ dress_all more

    pub dress_args : BareArgs → List ModeTy
    dress_args no_args = []
    dress_args (arg m t more) = record { mode = m; ty = dressed t } ∷ dress_args more

    pub dress_result : BareResult → Option Ty
    dress_result no_result = None
    dress_result (gives t) = Some (dressed t)

  mutual
    pub bare-dressed : (t : BareTy) → bare (dressed t) ≡ t
    bare-dressed (Named name params) = bare-Named name (dress_all params) pos ∙ ap (Named name) (all_bare-dressed params)
    bare-dressed Same = bare-Same pos
    bare-dressed (Rout args of) = bare-Rout (dress_args args) (dress_result of) pos ∙ ap (λ x. Rout x (option_bare (dress_result of))) (all_bare_args-dressed args) ∙ ap (Rout args) (option_bare-dressed of)
    bare-dressed (Iter args of) = bare-Iter (dress_args args) (dress_result of) pos ∙ ap (λ x. Iter x (option_bare (dress_result of))) (all_bare_args-dressed args) ∙ ap (Iter args) (option_bare-dressed of)

    pub all_bare-dressed : (ts : BareTys) → all_bare (dress_all ts) ≡ ts
    all_bare-dressed no_types = refl
    all_bare-dressed (type t more) = ap (λ x. type x (all_bare (dress_all more))) (bare-dressed t) ∙ ap (type t) (all_bare-dressed more)

    all_bare_args-dressed : (args : BareArgs) → all_bare_args (dress_args args) ≡ args
    all_bare_args-dressed no_args = refl
    all_bare_args-dressed (arg m t more) =
        ap (λ p. arg p.0 p.1 (all_bare_args (dress_args more))) (bare_arg-parts (record { mode = m; ty = dressed t }))
        ∙ ap (λ x. arg m x (all_bare_args (dress_args more))) (bare-dressed t)
        ∙ ap (arg m t) (all_bare_args-dressed more)

    option_bare-dressed : (of : BareResult) → option_bare (dress_result of) ≡ of
    option_bare-dressed no_result = refl
    option_bare-dressed (gives t) = ap gives (bare-dressed t)

  pub length-dressed : (ts : BareTys) → length (dress_all ts) ≡ count_types ts
  length-dressed no_types = refl
  length-dressed (type t more) = ap suc (length-dressed more)
