-- The types that aren't allowed where they are, at each variant of a type.
use Rattle.std.proofs.Common.{◌≡◌, ◌==◌, ◌&&◌, ◌<◌, ℕ, Bool, true, false, not, List, [], ◌∷◌, ◌++◌, Option, None, Some, length, get_or, drop, map, flat_map, slice_get, refl, sym, ap, ◌∙◌}
use Rattle.std.proofs.lemmas.List.{length-map}
use Rattle.sa_ast.specs.declared.class.Class.{Class}
use Rattle.sa_ast.specs.declared.class.ClassKind.{ClassKind}
use Rattle.sa_ast.specs.declared.pos.Pos.{Pos}
use Rattle.sa_ast.specs.declared.ty.ModeTy.{ModeTy}
use Rattle.sa_ast.specs.declared.ty.Ty.{Ty}
use Rattle.sa_ast.specs.declared.ty.Ty.TheFolds.{fold-roll-Ty, fold_out-ModeTy}
use Rattle.sa_ast.specs.declared.ty.Ty.TheOpen.{Ty-F}
use Rattle.sa_ast.specs.declared.ty.Ty.TheVariants as ty
use Rattle.sa_ast.specs.declared.ty.Ty.TheViews.{out-Ty, out-roll-Ty}
use Rattle.sa_include_names.specs.Headers.{joined, joined_result, unless, may_occur, may_include, misused_above, misused_above_level, misused_include, misused_include_level, misused_level, misused_arg_level, misused, misused_arg, misused_types, misused_option}
use Rattle.sa_graph.proofs.Firsts.{first_some, first_none, first_here, first_later, first_nowhere}

joined-map : {A : Type 0} (f : A → List Pos) (xs : List A) → joined (map f xs) ≡ flat_map f xs
joined-map f [] = refl
joined-map f (x ∷ xs) = ap (λ ps. f x ++ ps) (joined-map f xs)

module _ (may : List ℕ → Bool → Bool) where
  pub misused-Named : (name : List ℕ) (given : List Ty) (pos : Pos) → misused may (ty.Named name given pos) ≡ unless (may name (length given == 0)) pos ++ misused_types may given
  unfolding misused
  misused-Named name given pos =
      ap (misused may) (sym (ty.rolls-Named name given pos)) ∙ fold-roll-Ty (List Pos) (List Pos) (misused_level may) (misused_arg_level may) (Ty-F.Named name given pos)
      ∙ ap (λ n. unless (may name (n == 0)) pos ++ joined (map (misused may) given)) (length-map given (misused may))
      ∙ ap (λ ps. unless (may name (length given == 0)) pos ++ ps) (joined-map (misused may) given)

  pub misused-Same : (pos : Pos) → misused may (ty.Same pos) ≡ []
  unfolding misused
  misused-Same pos = ap (misused may) (sym (ty.rolls-Same pos)) ∙ fold-roll-Ty (List Pos) (List Pos) (misused_level may) (misused_arg_level may) (Ty-F.Same pos)

  pub misused-Rout : (args : List ModeTy) (of : Option Ty) (pos : Pos) → misused may (ty.Rout args of pos) ≡ flat_map (misused_arg may) args ++ misused_option may of
  unfolding misused misused_arg
  misused-Rout args None pos =
      ap (misused may) (sym (ty.rolls-Rout args None pos)) ∙ fold-roll-Ty (List Pos) (List Pos) (misused_level may) (misused_arg_level may) (Ty-F.Rout args None pos)
      ∙ ap (λ ps. ps ++ []) (joined-map (misused_arg may) args)
  misused-Rout args (Some t) pos =
      ap (misused may) (sym (ty.rolls-Rout args (Some t) pos)) ∙ fold-roll-Ty (List Pos) (List Pos) (misused_level may) (misused_arg_level may) (Ty-F.Rout args (Some t) pos)
      ∙ ap (λ ps. ps ++ misused may t) (joined-map (misused_arg may) args)

  pub misused-Iter : (args : List ModeTy) (of : Option Ty) (pos : Pos) → misused may (ty.Iter args of pos) ≡ flat_map (misused_arg may) args ++ misused_option may of
  unfolding misused misused_arg
  misused-Iter args None pos =
      ap (misused may) (sym (ty.rolls-Iter args None pos)) ∙ fold-roll-Ty (List Pos) (List Pos) (misused_level may) (misused_arg_level may) (Ty-F.Iter args None pos)
      ∙ ap (λ ps. ps ++ []) (joined-map (misused_arg may) args)
  misused-Iter args (Some t) pos =
      ap (misused may) (sym (ty.rolls-Iter args (Some t) pos)) ∙ fold-roll-Ty (List Pos) (List Pos) (misused_level may) (misused_arg_level may) (Ty-F.Iter args (Some t) pos)
      ∙ ap (λ ps. ps ++ misused may t) (joined-map (misused_arg may) args)

  pub misused_arg-is : (arg : ModeTy) → misused_arg may arg ≡ misused may arg.ty
  unfolding misused misused_arg
  misused_arg-is arg = fold_out-ModeTy (List Pos) (List Pos) (misused_level may) (misused_arg_level may) arg

-- an argument whose type isn't allowed
pub arg_here : (may : List ℕ → Bool → Bool) (xs : List ModeTy) (i : ℕ) (x : ModeTy) (b : Pos) → i < length xs → x ≡ get_or xs i x → slice_get (misused may x.ty) 0 ≡ Some b → slice_get (flat_map (misused_arg may) (drop i xs)) 0 ≡ Some b
arg_here may xs i x b h e here = first_here (misused_arg may) xs i x b h e (ap (λ ps. slice_get ps 0) (misused_arg-is may x) ∙ here)

-- ---- types by where they are

module _ (classes : List Class) (number : List ℕ → Option ℕ) (arrays : List Bool) (kind : ClassKind) (hidden : List ℕ → Bool) where
  pub above-Named : (name : List ℕ) (given : List Ty) (pos : Pos) → misused_above classes number arrays kind hidden (ty.Named name given pos) ≡ unless (not ((length given == 0) && hidden name)) pos ++ misused (may_occur classes number arrays kind hidden) (ty.Named name given pos)
  unfolding misused_above
  above-Named name given pos =
      ap (misused_above_level classes number arrays kind hidden (ty.Named name given pos)) (ap out-Ty (sym (ty.rolls-Named name given pos)) ∙ out-roll-Ty (Ty-F.Named name given pos))

  pub above-Same : (pos : Pos) → misused_above classes number arrays kind hidden (ty.Same pos) ≡ []
  unfolding misused_above
  above-Same pos = ap (misused_above_level classes number arrays kind hidden (ty.Same pos)) (ap out-Ty (sym (ty.rolls-Same pos)) ∙ out-roll-Ty (Ty-F.Same pos))

  pub above-Rout : (args : List ModeTy) (of : Option Ty) (pos : Pos) → misused_above classes number arrays kind hidden (ty.Rout args of pos) ≡ pos ∷ []
  unfolding misused_above
  above-Rout args of pos = ap (misused_above_level classes number arrays kind hidden (ty.Rout args of pos)) (ap out-Ty (sym (ty.rolls-Rout args of pos)) ∙ out-roll-Ty (Ty-F.Rout args of pos))

  pub above-Iter : (args : List ModeTy) (of : Option Ty) (pos : Pos) → misused_above classes number arrays kind hidden (ty.Iter args of pos) ≡ pos ∷ []
  unfolding misused_above
  above-Iter args of pos = ap (misused_above_level classes number arrays kind hidden (ty.Iter args of pos)) (ap out-Ty (sym (ty.rolls-Iter args of pos)) ∙ out-roll-Ty (Ty-F.Iter args of pos))

  pub include-Named : (name : List ℕ) (given : List Ty) (pos : Pos) → misused_include classes number arrays kind hidden (ty.Named name given pos) ≡ unless (may_include classes number arrays kind hidden name) pos ++ misused_types (may_occur classes number arrays kind hidden) given
  unfolding misused_include
  include-Named name given pos = ap (misused_include_level classes number arrays kind hidden) (ap out-Ty (sym (ty.rolls-Named name given pos)) ∙ out-roll-Ty (Ty-F.Named name given pos))

  pub include-Same : (pos : Pos) → misused_include classes number arrays kind hidden (ty.Same pos) ≡ pos ∷ []
  unfolding misused_include
  include-Same pos = ap (misused_include_level classes number arrays kind hidden) (ap out-Ty (sym (ty.rolls-Same pos)) ∙ out-roll-Ty (Ty-F.Same pos))

  pub include-Rout : (args : List ModeTy) (of : Option Ty) (pos : Pos) → misused_include classes number arrays kind hidden (ty.Rout args of pos) ≡ pos ∷ []
  unfolding misused_include
  include-Rout args of pos = ap (misused_include_level classes number arrays kind hidden) (ap out-Ty (sym (ty.rolls-Rout args of pos)) ∙ out-roll-Ty (Ty-F.Rout args of pos))

  pub include-Iter : (args : List ModeTy) (of : Option Ty) (pos : Pos) → misused_include classes number arrays kind hidden (ty.Iter args of pos) ≡ pos ∷ []
  unfolding misused_include
  include-Iter args of pos = ap (misused_include_level classes number arrays kind hidden) (ap out-Ty (sym (ty.rolls-Iter args of pos)) ∙ out-roll-Ty (Ty-F.Iter args of pos))

module _ (classes : List Class) (number : List ℕ → Option ℕ) (arrays : List Bool) (kind : ClassKind) (hidden : List ℕ → Bool) where
  -- what an included class is given
  pub include_given : (t : Ty) (name : List ℕ) (given : List Ty) (pos : Pos) (may : Bool) (found : Option Pos) → t ≡ ty.Named name given pos → may ≡ may_include classes number arrays kind hidden name → may ≡ true → found ≡ slice_get (misused_types (may_occur classes number arrays kind hidden) given) 0 → found ≡ slice_get (misused_include classes number arrays kind hidden t) 0
  include_given t name given pos may found same is held found_is =
      found_is ∙ ap (λ b. slice_get (unless b pos ++ misused_types (may_occur classes number arrays kind hidden) given) 0) (sym (sym is ∙ held))
      ∙ ap (λ ps. slice_get ps 0) (sym (include-Named classes number arrays kind hidden name given pos)) ∙ ap (λ u. slice_get (misused_include classes number arrays kind hidden u) 0) (sym same)

-- the first of four lists, of which the first three are empty
pub first_fourth : (xs ys zs us : List Pos) (x y z u : Option Pos) → x ≡ slice_get xs 0 → x ≡ None → y ≡ slice_get ys 0 → y ≡ None → z ≡ slice_get zs 0 → z ≡ None → u ≡ slice_get us 0 → u ≡ slice_get (xs ++ ys ++ zs ++ us) 0
first_fourth xs ys zs us x y z u x_is x_none y_is y_none z_is z_none u_is =
    u_is ∙ sym (first_none (xs ++ ys ++ zs) us (first_none (xs ++ ys) zs (first_none xs ys (sym x_is ∙ x_none) ∙ sym y_is ∙ y_none) ∙ sym z_is ∙ z_none))

pub ruleset above = (above-Named, above-Same, above-Rout, above-Iter)

pub ruleset including = (include-Named, include-Same, include-Rout, include-Iter, first_some, first_none)

pub ruleset firsts = (first_some, first_none, first_here, first_later, first_nowhere)

pub ruleset misuses = (misused-Named, misused-Same, misused-Rout, misused-Iter, misused_arg-is, first_some, first_none, first_here, first_later, first_nowhere, arg_here)
