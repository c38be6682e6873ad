-- A type without its positions, at each variant.
use Rattle.std.proofs.Common.{◌≡◌, ℕ, List, Option, None, Some, sym, ap, subst, ◌∙◌}
use Rattle.sa_ast.specs.declared.pos.Pos.{Pos}
use Rattle.sa_ast.specs.declared.ty.Mode.{Mode}
use Rattle.sa_ast.specs.declared.ty.ModeTy.{ModeTy}
use Rattle.sa_ast.specs.declared.ty.Ty.{Ty}
use Rattle.sa_ast.specs.declared.ty.Ty.TheOpen.{Ty-F}
use Rattle.sa_ast.specs.declared.ty.Ty.TheFolds.{fold-roll-Ty, fold_out-ModeTy}
use Rattle.sa_ast.specs.declared.ty.Ty.TheVariants as ty
use Rattle.sa_ast.specs.declared.ty.Ty.TheViews.{out-Ty, roll-Ty, roll-out-Ty}
use Rattle.sa_ast.specs.Types.{BareTy, Named, Same, Rout, Iter, bare_level, bare_arg_level, bare, bare_arg, all_bare, all_bare_args, option_bare}

pub bare-Named : (name : List ℕ) (params : List Ty) (pos : Pos) → bare (ty.Named name params pos) ≡ Named name (all_bare params)
unfolding bare
bare-Named name params pos =
    ap bare (sym (ty.rolls-Named name params pos)) ∙ fold-roll-Ty BareTy (Mode × BareTy) bare_level bare_arg_level (Ty-F.Named name params pos)

pub bare-Same : (pos : Pos) → bare (ty.Same pos) ≡ Same
unfolding bare
bare-Same pos =
    ap bare (sym (ty.rolls-Same pos)) ∙ fold-roll-Ty BareTy (Mode × BareTy) bare_level bare_arg_level (Ty-F.Same pos)

pub bare-Rout : (args : List ModeTy) (of : Option Ty) (pos : Pos) → bare (ty.Rout args of pos) ≡ Rout (all_bare_args args) (option_bare of)
unfolding bare bare_arg
bare-Rout args None pos =
    ap bare (sym (ty.rolls-Rout args None pos)) ∙ fold-roll-Ty BareTy (Mode × BareTy) bare_level bare_arg_level (Ty-F.Rout args None pos)
bare-Rout args (Some t) pos =
    ap bare (sym (ty.rolls-Rout args (Some t) pos)) ∙ fold-roll-Ty BareTy (Mode × BareTy) bare_level bare_arg_level (Ty-F.Rout args (Some t) pos)

pub bare-Iter : (args : List ModeTy) (of : Option Ty) (pos : Pos) → bare (ty.Iter args of pos) ≡ Iter (all_bare_args args) (option_bare of)
unfolding bare bare_arg
bare-Iter args None pos =
    ap bare (sym (ty.rolls-Iter args None pos)) ∙ fold-roll-Ty BareTy (Mode × BareTy) bare_level bare_arg_level (Ty-F.Iter args None pos)
bare-Iter args (Some t) pos =
    ap bare (sym (ty.rolls-Iter args (Some t) pos)) ∙ fold-roll-Ty BareTy (Mode × BareTy) bare_level bare_arg_level (Ty-F.Iter args (Some t) pos)

pub bare_arg-parts : (a : ModeTy) → bare_arg a ≡ (a.mode, bare a.ty)
unfolding bare bare_arg
bare_arg-parts a = fold_out-ModeTy BareTy (Mode × BareTy) bare_level bare_arg_level a

pub ruleset bares = (bare-Named, bare-Same, bare-Rout, bare-Iter, bare_arg-parts)

-- a fact of each variant is a fact of each type
pub by_variants : (P : Ty → Type 0) → ((name : List ℕ) (params : List Ty) (pos : Pos) → P (ty.Named name params pos)) → ((pos : Pos) → P (ty.Same pos)) → ((args : List ModeTy) (of : Option Ty) (pos : Pos) → P (ty.Rout args of pos)) → ((args : List ModeTy) (of : Option Ty) (pos : Pos) → P (ty.Iter args of pos)) → (t : Ty) → P t
by_variants P named same rout iter t = subst P (roll-out-Ty t) (rolled (out-Ty t))
  where
    rolled : (x : Ty-F Ty ModeTy) → P (roll-Ty x)
    rolled (Ty-F.Named name params pos) = subst P (sym (ty.rolls-Named name params pos)) (named name params pos)
    rolled (Ty-F.Same pos) = subst P (sym (ty.rolls-Same pos)) (same pos)
    rolled (Ty-F.Rout args of pos) = subst P (sym (ty.rolls-Rout args of pos)) (rout args of pos)
    rolled (Ty-F.Iter args of pos) = subst P (sym (ty.rolls-Iter args of pos)) (iter args of pos)
