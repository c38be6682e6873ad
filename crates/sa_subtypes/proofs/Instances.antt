-- A type of a header at an instance: without positions, the type after the substitution of types for the parameters and SAME is the type
-- at the instance.
use Rattle.std.proofs.Common.{◌≡◌, ℕ, zero, suc, ◌<◌, List, [], ◌∷◌, Option, None, Some, length, map, slice_get, option_map, refl, sym, ap, subst, ◌∙◌, arith}
use Rattle.std.proofs.Math.Path.{fun_ext}
use Rattle.std.specs.Option.{option_and_then}
use Rattle.sa_ast.specs.declared.class.Class.{Class}
use Rattle.sa_ast.specs.declared.pos.Pos.{Pos}
use Rattle.sa_ast.specs.declared.ty.ModeTy.{ModeTy}
use Rattle.sa_ast.specs.declared.ty.Ty.{Ty}
use Rattle.sa_ast.specs.declared.ty.Ty.TheOpen.{Ty-F}
use Rattle.sa_ast.specs.declared.ty.Ty.TheFolds.{map-Ty, ind-Ty}
use Rattle.sa_ast.specs.declared.ty.Ty.TheVariants as ty
use Rattle.sa_ast.specs.declared.ty.Ty.TheViews.{roll-Ty}
use Rattle.sa_ast.specs.Types.{BareTy, Named, Rout, Iter, type, arg, gives, bare, bare_arg, all_bare, all_bare_args, option_bare}
use Rattle.sa_ast.proofs.BareTypes.{bare-Named, bare-Same, bare-Rout, bare-Iter, bare_arg-parts, by_variants}
use Rattle.sa_subst.specs.Substitution.{place_of, given_for, placed, named_alone, named, substituted, substituted_arg}
use Rattle.sa_subst.proofs.Substituting.{placed-Named, placed-Same, placed-Rout, placed-Iter, substituted-Named, substituted-Same, substituted-Rout, substituted-Iter, substituted_arg-parts}
use Rattle.sa_unify.specs.Spelled.{occurrence, instance, instance_all, instance_args, instance_result}
use Rattle.sa_subst.specs.AtTypes.{own_type, at_instance}
use Rattle.sa_unify.proofs.Owns.{type_at}
use Rattle.sa_unify.proofs.Patterns.{type_in}

-- ---- induction over the types of a source

module _ (P : Ty → Type 0) where
  -- a type that has the fact, and an argument whose type has it
  abbrev pub Known : Type 0
  Known = (t : Ty) × P t

  abbrev pub KnownArg : Type 0
  KnownArg = (a : ModeTy) × P a.ty

  module _ (of_Named : (name : List ℕ) (args : List Known) (pos : Pos) → P (ty.Named name (map (λ e. e.0) args) pos)) (of_Same : (pos : Pos) → P (ty.Same pos)) (of_Rout : (args : List KnownArg) (of : Option Known) (pos : Pos) → P (ty.Rout (map (λ e. e.0) args) (option_map (λ e. e.0) of) pos)) (of_Iter : (args : List KnownArg) (of : Option Known) (pos : Pos) → P (ty.Iter (map (λ e. e.0) args) (option_map (λ e. e.0) of) pos)) where
    rolled : (x : Ty-F Ty ModeTy) (y : Ty-F Known KnownArg) → map-Ty Known KnownArg Ty ModeTy (λ e. e.0) (λ e. e.0) y ≡ x → P (roll-Ty x)
    rolled x (Ty-F.Named name args pos) is = subst (λ z. P (roll-Ty z)) is (subst P (sym (ty.rolls-Named name (map (λ e. e.0) args) pos)) (of_Named name args pos))
    rolled x (Ty-F.Same pos) is = subst (λ z. P (roll-Ty z)) is (subst P (sym (ty.rolls-Same pos)) (of_Same pos))
    rolled x (Ty-F.Rout args None pos) is = subst (λ z. P (roll-Ty z)) is (subst P (sym (ty.rolls-Rout (map (λ e. e.0) args) None pos)) (of_Rout args None pos))
    rolled x (Ty-F.Rout args (Some e) pos) is = subst (λ z. P (roll-Ty z)) is (subst P (sym (ty.rolls-Rout (map (λ e. e.0) args) (Some e.0) pos)) (of_Rout args (Some e) pos))
    rolled x (Ty-F.Iter args None pos) is = subst (λ z. P (roll-Ty z)) is (subst P (sym (ty.rolls-Iter (map (λ e. e.0) args) None pos)) (of_Iter args None pos))
    rolled x (Ty-F.Iter args (Some e) pos) is = subst (λ z. P (roll-Ty z)) is (subst P (sym (ty.rolls-Iter (map (λ e. e.0) args) (Some e.0) pos)) (of_Iter args (Some e) pos))

    pub by_parts : (t : Ty) → P t
    by_parts = ind-Ty P (λ a. P a.ty) rolled (λ x y is. subst (λ z. P z.ty) is y.ty.1)

-- ---- another position

bare-placed : (pos : Pos) (t : Ty) → bare (placed t pos) ≡ bare t
bare-placed pos =
    by_variants (λ t. bare (placed t pos) ≡ bare t)
    (λ name args old. ap bare (placed-Named name args old pos) ∙ bare-Named name args pos ∙ sym (bare-Named name args old))
    (λ old. ap bare (placed-Same old pos) ∙ bare-Same pos ∙ sym (bare-Same old))
    (λ args of old. ap bare (placed-Rout args of old pos) ∙ bare-Rout args of pos ∙ sym (bare-Rout args of old))
    (λ args of old. ap bare (placed-Iter args of old pos) ∙ bare-Iter args of pos ∙ sym (bare-Iter args of old))

-- ---- types substituted for parameters and SAME

module _ (value : List ℕ → Option Ty) (same : Ty) where
  abbrev bare_value : List ℕ → Option BareTy
  bare_value name = option_map bare (value name)

  abbrev put_in : BareTy → BareTy
  put_in = instance bare_value (bare same)

  abbrev IsInstance : Ty → Type 0
  IsInstance t = bare (substituted value same t) ≡ put_in (bare t)

  bare-alone : (o : Option Ty) (name : List ℕ) (pos : Pos) → bare (named_alone o name pos) ≡ occurrence (option_map bare o) name
  bare-alone None name pos = bare-Named name [] pos
  bare-alone (Some t) name pos = bare-placed pos t

  types-instance : (es : List (Known IsInstance)) → all_bare (map (substituted value same) (map (λ e. e.0) es)) ≡ instance_all bare_value (bare same) (all_bare (map (λ e. e.0) es))
  types-instance [] = refl
  types-instance (e ∷ es) =
      ap (λ t. type t (all_bare (map (substituted value same) (map (λ e. e.0) es)))) e.1 ∙ ap (type (put_in (bare e.0))) (types-instance es)

  arg-instance : (e : KnownArg IsInstance) → bare_arg (substituted_arg value same e.0) ≡ (e.0.mode, put_in (bare e.0.ty))
  arg-instance e =
      ap bare_arg (substituted_arg-parts value same e.0)
      ∙ bare_arg-parts (record { mode = e.0.mode; ty = substituted value same e.0.ty })
      ∙ ap (λ t. (e.0.mode, t)) e.1

  args-instance : (es : List (KnownArg IsInstance)) → all_bare_args (map (substituted_arg value same) (map (λ e. e.0) es)) ≡ instance_args bare_value (bare same) (all_bare_args (map (λ e. e.0) es))
  args-instance [] = refl
  args-instance (e ∷ es) =
      ap (λ p. arg p.0 p.1 (all_bare_args (map (substituted_arg value same) (map (λ e. e.0) es)))) (arg-instance e)
      ∙ ap (arg e.0.mode (put_in (bare e.0.ty))) (args-instance es)
      ∙ sym (ap (λ p. arg p.0 (put_in p.1) (instance_args bare_value (bare same) (all_bare_args (map (λ e. e.0) es)))) (bare_arg-parts e.0))

  result-instance : (of : Option (Known IsInstance)) → option_bare (option_map (substituted value same) (option_map (λ e. e.0) of)) ≡ instance_result bare_value (bare same) (option_bare (option_map (λ e. e.0) of))
  result-instance None = refl
  result-instance (Some e) = ap gives e.1

  named-instance : (name : List ℕ) (es : List (Known IsInstance)) (pos : Pos) → bare (named value name (map (substituted value same) (map (λ e. e.0) es)) pos) ≡ put_in (Named name (all_bare (map (λ e. e.0) es)))
  named-instance name [] pos = bare-alone (value name) name pos
  named-instance name (e ∷ es) pos =
      bare-Named name (map (substituted value same) (map (λ e. e.0) (e ∷ es))) pos ∙ ap (Named name) (types-instance (e ∷ es))

  pub bare-substituted : (t : Ty) → bare (substituted value same t) ≡ put_in (bare t)
  bare-substituted =
      by_parts IsInstance
      (λ name es pos. ap bare (substituted-Named value same name (map (λ e. e.0) es) pos) ∙ named-instance name es pos ∙ sym (ap put_in (bare-Named name (map (λ e. e.0) es) pos)))
      (λ pos. ap bare (substituted-Same value same pos) ∙ bare-placed pos same ∙ sym (ap put_in (bare-Same pos)))
      (λ es of pos. ap bare (substituted-Rout value same (map (λ e. e.0) es) (option_map (λ e. e.0) of) pos) ∙ bare-Rout (map (substituted_arg value same) (map (λ e. e.0) es)) (option_map (substituted value same) (option_map (λ e. e.0) of)) pos ∙ ap (λ x. Rout x (option_bare (option_map (substituted value same) (option_map (λ e. e.0) of)))) (args-instance es) ∙ ap (Rout (instance_args bare_value (bare same) (all_bare_args (map (λ e. e.0) es)))) (result-instance of) ∙ sym (ap put_in (bare-Rout (map (λ e. e.0) es) (option_map (λ e. e.0) of) pos)))
      (λ es of pos. ap bare (substituted-Iter value same (map (λ e. e.0) es) (option_map (λ e. e.0) of) pos) ∙ bare-Iter (map (substituted_arg value same) (map (λ e. e.0) es)) (option_map (substituted value same) (option_map (λ e. e.0) of)) pos ∙ ap (λ x. Iter x (option_bare (option_map (substituted value same) (option_map (λ e. e.0) of)))) (args-instance es) ∙ ap (Iter (instance_args bare_value (bare same) (all_bare_args (map (λ e. e.0) es)))) (result-instance of) ∙ sym (ap put_in (bare-Iter (map (λ e. e.0) es) (option_map (λ e. e.0) of) pos)))

-- ---- an instance of a class

bare-given : (given : List Ty) (k : ℕ) → k < length given → option_map bare (slice_get given k) ≡ Some (type_at (all_bare given) k)
bare-given [] k h = absurd (omega (arith, h))
bare-given (t ∷ given) zero h = refl
bare-given (t ∷ given) (suc k) h = bare-given given k (omega (arith, h))

value-given : (given : List Ty) (p : Option ℕ) → ((k : ℕ) → p ≡ Some k → k < length given) → option_map bare (option_and_then (slice_get given) p) ≡ option_map (type_at (all_bare given)) p
value-given given None h = refl
value-given given (Some k) h = bare-given given k (h k refl)

pub bare-at_instance : (c : Class) (given : List Ty) (u : Ty) (within : (m : List ℕ) (k : ℕ) → place_of c.params 0 m ≡ Some k → k < length c.params) → length given ≡ length c.params → bare (at_instance c given u) ≡ type_in (place_of c.params 0) c.name.name (length c.params) within (all_bare given) (bare u)
bare-at_instance c given u within count =
    bare-substituted (given_for c.params given) (own_type c given) u
    ∙ ap (λ t. instance (λ m. option_map bare (given_for c.params given m)) t (bare u)) (bare-Named c.name.name given c.name.pos)
    ∙ ap (λ f. instance f (Named c.name.name (all_bare given)) (bare u)) (fun_ext (λ m. value-given given (place_of c.params 0 m) (λ k e. subst (λ n. k < n) (sym count) (within m k e))))
