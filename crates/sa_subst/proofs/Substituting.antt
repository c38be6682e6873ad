-- Substitution, and another position, at each variant of a type.
use Rattle.std.proofs.Common.{◌≡◌, ℕ, List, Option, None, Some, map, sym, ap, ◌∙◌}
use Rattle.std.proofs.lemmas.List.{map_more}
use Rattle.std.specs.Option.{option_map}
use Rattle.sa_ast.specs.declared.pos.Pos.{Pos}
use Rattle.sa_ast.specs.declared.ty.ModeTy.{ModeTy}
use Rattle.sa_ast.specs.declared.ty.Ty.{Ty}
use Rattle.sa_ast.specs.declared.ty.Ty.TheOpen.{Ty-F}
use Rattle.sa_ast.specs.declared.ty.Ty.TheFolds.{fold-roll-Ty, fold_out-ModeTy}
use Rattle.sa_ast.specs.declared.ty.Ty.TheVariants as ty
use Rattle.sa_ast.specs.declared.ty.Ty.TheViews.{roll-Ty, out-roll-Ty}
use Rattle.sa_subst.specs.Substitution.{placed_level, placed, named, substituted_level, arg_level, substituted, substituted_arg}

placed-roll : (x : Ty-F Ty ModeTy) (pos : Pos) → placed (roll-Ty x) pos ≡ placed_level x pos
unfolding placed
placed-roll x pos = ap (λ y. placed_level y pos) (out-roll-Ty x)

pub placed-Named : (name : List ℕ) (args : List Ty) (old pos : Pos) → placed (ty.Named name args old) pos ≡ ty.Named name args pos
placed-Named name args old pos = ap (λ t. placed t pos) (sym (ty.rolls-Named name args old)) ∙ placed-roll (Ty-F.Named name args old) pos

pub placed-Same : (old pos : Pos) → placed (ty.Same old) pos ≡ ty.Same pos
placed-Same old pos = ap (λ t. placed t pos) (sym (ty.rolls-Same old)) ∙ placed-roll (Ty-F.Same old) pos

pub placed-Rout : (args : List ModeTy) (of : Option Ty) (old pos : Pos) → placed (ty.Rout args of old) pos ≡ ty.Rout args of pos
placed-Rout args of old pos = ap (λ t. placed t pos) (sym (ty.rolls-Rout args of old)) ∙ placed-roll (Ty-F.Rout args of old) pos

pub placed-Iter : (args : List ModeTy) (of : Option Ty) (old pos : Pos) → placed (ty.Iter args of old) pos ≡ ty.Iter args of pos
placed-Iter args of old pos = ap (λ t. placed t pos) (sym (ty.rolls-Iter args of old)) ∙ placed-roll (Ty-F.Iter args of old) pos

pub ruleset placing = (placed-Named, placed-Same, placed-Rout, placed-Iter)

module _ (value : List ℕ → Option Ty) (same : Ty) where
  pub substituted-Named : (name : List ℕ) (args : List Ty) (pos : Pos) → substituted value same (ty.Named name args pos) ≡ named value name (map (substituted value same) args) pos
  unfolding substituted
  substituted-Named name args pos =
      ap (substituted value same) (sym (ty.rolls-Named name args pos)) ∙ fold-roll-Ty Ty ModeTy (substituted_level value same) arg_level (Ty-F.Named name args pos)

  pub substituted-Same : (pos : Pos) → substituted value same (ty.Same pos) ≡ placed same pos
  unfolding substituted
  substituted-Same pos =
      ap (substituted value same) (sym (ty.rolls-Same pos)) ∙ fold-roll-Ty Ty ModeTy (substituted_level value same) arg_level (Ty-F.Same pos)

  pub substituted-Rout : (args : List ModeTy) (of : Option Ty) (pos : Pos) → substituted value same (ty.Rout args of pos) ≡ ty.Rout (map (substituted_arg value same) args) (option_map (substituted value same) of) pos
  unfolding substituted substituted_arg
  substituted-Rout args None pos =
      ap (substituted value same) (sym (ty.rolls-Rout args None pos)) ∙ fold-roll-Ty Ty ModeTy (substituted_level value same) arg_level (Ty-F.Rout args None pos)
  substituted-Rout args (Some t) pos =
      ap (substituted value same) (sym (ty.rolls-Rout args (Some t) pos)) ∙ fold-roll-Ty Ty ModeTy (substituted_level value same) arg_level (Ty-F.Rout args (Some t) pos)

  pub substituted-Iter : (args : List ModeTy) (of : Option Ty) (pos : Pos) → substituted value same (ty.Iter args of pos) ≡ ty.Iter (map (substituted_arg value same) args) (option_map (substituted value same) of) pos
  unfolding substituted substituted_arg
  substituted-Iter args None pos =
      ap (substituted value same) (sym (ty.rolls-Iter args None pos)) ∙ fold-roll-Ty Ty ModeTy (substituted_level value same) arg_level (Ty-F.Iter args None pos)
  substituted-Iter args (Some t) pos =
      ap (substituted value same) (sym (ty.rolls-Iter args (Some t) pos)) ∙ fold-roll-Ty Ty ModeTy (substituted_level value same) arg_level (Ty-F.Iter args (Some t) pos)

  pub substituted_arg-parts : (a : ModeTy) → substituted_arg value same a ≡ record { mode = a.mode; ty = substituted value same a.ty }
  unfolding substituted substituted_arg
  substituted_arg-parts a = fold_out-ModeTy Ty ModeTy (substituted_level value same) arg_level a

pub ruleset substituting = (placing, map_more, substituted-Named, substituted-Same, substituted-Rout, substituted-Iter, substituted_arg-parts)
