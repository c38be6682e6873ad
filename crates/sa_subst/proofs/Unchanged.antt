-- An AST in which each type is changed to itself is unchanged, and so is one in which nothing is substituted for anything.
use Rattle.std.proofs.Common.{◌≡◌, ℕ, List, [], ◌∷◌, Option, None, Some, map, refl, sym, ap, subst, ◌∙◌}
use Rattle.std.specs.Option.{option_map}
use Rattle.sa_ast.specs.declared.expr.Expr.{Expr}
use Rattle.sa_ast.specs.declared.expr.Expr.TheFolds.{map-Expr, map-ExprArg, map-ExprReceiver, ind-Expr}
use Rattle.sa_ast.specs.declared.expr.Expr.TheOpen.{Expr-F, ExprArg-F, ExprReceiver-F}
use Rattle.sa_ast.specs.declared.expr.Expr.TheVariants as e
use Rattle.sa_ast.specs.declared.expr.Expr.TheViews.{roll-Expr, roll-ExprArg, roll-ExprReceiver}
use Rattle.sa_ast.specs.declared.expr.ExprArg.{ExprArg}
use Rattle.sa_ast.specs.declared.expr.ExprArg.TheVariants as g
use Rattle.sa_ast.specs.declared.expr.ExprReceiver.{ExprReceiver}
use Rattle.sa_ast.specs.declared.expr.ExprReceiver.TheVariants as r
use Rattle.sa_ast.specs.declared.pos.Pos.{Pos}
use Rattle.sa_ast.specs.declared.ty.ModeTy.{ModeTy}
use Rattle.sa_ast.specs.declared.ty.Ty.{Ty}
use Rattle.sa_ast.specs.declared.ty.Ty.TheFolds.{map-Ty, ind-Ty}
use Rattle.sa_ast.specs.declared.ty.Ty.TheOpen.{Ty-F}
use Rattle.sa_ast.specs.declared.ty.Ty.TheVariants as ty
use Rattle.sa_ast.specs.declared.ty.Ty.TheViews.{roll-Ty}
use Rattle.sa_subst.specs.Substitution.{named, named_alone, placed, substituted, substituted_arg}
use Rattle.sa_subst.proofs.Substituting.{placed-Same, substituted-Named, substituted-Same, substituted-Rout, substituted-Iter, substituted_arg-parts}
use Rattle.sa_subst.specs.Trees.{expr_level, receiver_level, argument_level, expr_with, receiver_with, argument_with}
use Rattle.sa_subst.proofs.TreeTypes.{expr_with-roll, receiver_with-roll, argument_with-roll}

-- a value that f leaves unchanged
abbrev Kept : {A : Type 0} → (A → A) → Type 0
Kept {A} f = (a : A) × (f a ≡ a)

-- each of a list
all_kept : {A : Type 0} (f : A → A) (ks : List (Kept f)) → map f (map (λ (k : Kept f). k.0) ks) ≡ map (λ (k : Kept f). k.0) ks
all_kept f [] = refl
all_kept f (k ∷ ks) = ap (λ a. a ∷ map f (map (λ (j : Kept f). j.0) ks)) k.1 ∙ ap (λ xs. k.0 ∷ xs) (all_kept f ks)

-- ---- types

module _ (value : List ℕ → Option Ty) (same : Ty) (old : Pos) (nothing : (name : List ℕ) → value name ≡ None) (is_same : same ≡ ty.Same old) where
  abbrev put_in : Ty → Ty
  put_in = substituted value same

  abbrev KeptArg : Type 0
  KeptArg = (a : ModeTy) × (put_in a.ty ≡ a.ty)

  arg_kept : (a : ModeTy) → put_in a.ty ≡ a.ty → substituted_arg value same a ≡ a
  arg_kept a h = substituted_arg-parts value same a ∙ ap (λ t. record a { ty = t }) h

  args_kept : (ks : List KeptArg) → map (substituted_arg value same) (map (λ (k : KeptArg). k.0) ks) ≡ map (λ (k : KeptArg). k.0) ks
  args_kept [] = refl
  args_kept (k ∷ ks) = ap (λ a. a ∷ map (substituted_arg value same) (map (λ (j : KeptArg). j.0) ks)) (arg_kept k.0 k.1) ∙ ap (λ xs. k.0 ∷ xs) (args_kept ks)

  named_kept : (name : List ℕ) (ts : List Ty) (pos : Pos) → named value name ts pos ≡ ty.Named name ts pos
  named_kept name [] pos = ap (λ o. named_alone o name pos) (nothing name)
  named_kept name (t ∷ ts) pos = refl

  type_kept : (x : Ty-F Ty ModeTy) (y : Ty-F (Kept put_in) KeptArg) → map-Ty (Kept put_in) KeptArg Ty ModeTy (λ k. k.0) (λ k. k.0) y ≡ x → put_in (roll-Ty x) ≡ roll-Ty x
  type_kept x y is = subst (λ z. put_in (roll-Ty z) ≡ roll-Ty z) is (by y)
    where
      by : (y : Ty-F (Kept put_in) KeptArg) → put_in (roll-Ty (map-Ty (Kept put_in) KeptArg Ty ModeTy (λ k. k.0) (λ k. k.0) y)) ≡ roll-Ty (map-Ty (Kept put_in) KeptArg Ty ModeTy (λ k. k.0) (λ k. k.0) y)
      by (Ty-F.Named name ks pos) =
          let ts : List Ty = map (λ (k : Kept put_in). k.0) ks in
          ap put_in (ty.rolls-Named name ts pos) ∙ substituted-Named value same name ts pos ∙ ap (λ us. named value name us pos) (all_kept put_in ks) ∙ named_kept name ts pos ∙ sym (ty.rolls-Named name ts pos)
      by (Ty-F.Same pos) = ap put_in (ty.rolls-Same pos) ∙ substituted-Same value same pos ∙ ap (λ t. placed t pos) is_same ∙ placed-Same old pos ∙ sym (ty.rolls-Same pos)
      by (Ty-F.Rout ks None pos) =
          let args : List ModeTy = map (λ (k : KeptArg). k.0) ks in
          ap put_in (ty.rolls-Rout args None pos) ∙ substituted-Rout value same args None pos ∙ ap (λ xs. ty.Rout xs None pos) (args_kept ks) ∙ sym (ty.rolls-Rout args None pos)
      by (Ty-F.Rout ks (Some k) pos) =
          let args : List ModeTy = map (λ (j : KeptArg). j.0) ks in
          ap put_in (ty.rolls-Rout args (Some k.0) pos) ∙ substituted-Rout value same args (Some k.0) pos ∙ ap (λ xs. ty.Rout xs (Some (put_in k.0)) pos) (args_kept ks) ∙ ap (λ t. ty.Rout args (Some t) pos) k.1 ∙ sym (ty.rolls-Rout args (Some k.0) pos)
      by (Ty-F.Iter ks None pos) =
          let args : List ModeTy = map (λ (k : KeptArg). k.0) ks in
          ap put_in (ty.rolls-Iter args None pos) ∙ substituted-Iter value same args None pos ∙ ap (λ xs. ty.Iter xs None pos) (args_kept ks) ∙ sym (ty.rolls-Iter args None pos)
      by (Ty-F.Iter ks (Some k) pos) =
          let args : List ModeTy = map (λ (j : KeptArg). j.0) ks in
          ap put_in (ty.rolls-Iter args (Some k.0) pos) ∙ substituted-Iter value same args (Some k.0) pos ∙ ap (λ xs. ty.Iter xs (Some (put_in k.0)) pos) (args_kept ks) ∙ ap (λ t. ty.Iter args (Some t) pos) k.1 ∙ sym (ty.rolls-Iter args (Some k.0) pos)

  pub substituted-nothing : (t : Ty) → substituted value same t ≡ t
  substituted-nothing = ind-Ty (λ t. put_in t ≡ t) (λ a. put_in a.ty ≡ a.ty) type_kept (λ x y is. subst (λ z. put_in z.ty ≡ z.ty) is y.ty.1)

-- ---- expressions

module _ (f : Ty → Ty) (same : (t : Ty) → f t ≡ t) where
  type_option : (o : Option Ty) → option_map f o ≡ o
  type_option None = refl
  type_option (Some t) = ap Some (same t)

  abbrev KeptExpr : Type 0
  KeptExpr = Kept (expr_with f)

  abbrev KeptGiven : Type 0
  KeptGiven = Kept (argument_with f)

  abbrev KeptRecv : Type 0
  KeptRecv = Kept (receiver_with f)

  abbrev unkept_expr : Expr-F KeptExpr KeptGiven KeptRecv → Expr-F Expr ExprArg ExprReceiver
  unkept_expr = map-Expr KeptExpr KeptGiven KeptRecv Expr ExprArg ExprReceiver (λ k. k.0) (λ k. k.0) (λ k. k.0)

  abbrev unkept_given : ExprArg-F KeptExpr KeptGiven KeptRecv → ExprArg-F Expr ExprArg ExprReceiver
  unkept_given = map-ExprArg KeptExpr KeptGiven KeptRecv Expr ExprArg ExprReceiver (λ k. k.0) (λ k. k.0) (λ k. k.0)

  abbrev unkept_recv : ExprReceiver-F KeptExpr KeptGiven KeptRecv → ExprReceiver-F Expr ExprArg ExprReceiver
  unkept_recv = map-ExprReceiver KeptExpr KeptGiven KeptRecv Expr ExprArg ExprReceiver (λ k. k.0) (λ k. k.0) (λ k. k.0)

  expr_kept : (x : Expr-F Expr ExprArg ExprReceiver) (y : Expr-F KeptExpr KeptGiven KeptRecv) → unkept_expr y ≡ x → expr_with f (roll-Expr x) ≡ roll-Expr x
  expr_kept x y is = subst (λ z. expr_with f (roll-Expr z) ≡ roll-Expr z) is (expr_with-roll f (unkept_expr y) ∙ by y)
    where
      by : (y : Expr-F KeptExpr KeptGiven KeptRecv) → expr_level f (map-Expr Expr ExprArg ExprReceiver Expr ExprArg ExprReceiver (expr_with f) (argument_with f) (receiver_with f) (unkept_expr y)) ≡ roll-Expr (unkept_expr y)
      by (Expr-F.Int value pos) = refl
      by (Expr-F.Bool value pos) = refl
      by (Expr-F.Char value pos) = refl
      by (Expr-F.Text text pos) = refl
      by (Expr-F.SelfRef pos) = refl
      by (Expr-F.Void pos) = refl
      by (Expr-F.Exception pos) = refl
      by (Expr-F.IsVoid k pos) = ap (λ x. roll-Expr (Expr-F.IsVoid x pos)) k.1
      by (Expr-F.New None pos) = refl
      by (Expr-F.New (Some k) pos) = ap (λ x. roll-Expr (Expr-F.New (Some x) pos)) k.1
      by (Expr-F.Create ty ks pos) =
          let args : List ExprArg = map (λ (k : KeptGiven). k.0) ks in
          ap (λ o. e.Create o (map (argument_with f) args) pos) (type_option ty) ∙ ap (λ xs. e.Create ty xs pos) (all_kept (argument_with f) ks) ∙ sym (e.rolls-Create ty args pos)
      by (Expr-F.Items ks pos) = ap (λ xs. roll-Expr (Expr-F.Items xs pos)) (all_kept (expr_with f) ks)
      by (Expr-F.Call k name ks pos) =
          ap (λ on. roll-Expr (Expr-F.Call on name (map (argument_with f) (map (λ (j : KeptGiven). j.0) ks)) pos)) k.1 ∙ ap (λ xs. roll-Expr (Expr-F.Call k.0 name xs pos)) (all_kept (argument_with f) ks)
      by (Expr-F.Binary op k j pos) = ap (λ x. roll-Expr (Expr-F.Binary op x (expr_with f j.0) pos)) k.1 ∙ ap (λ x. roll-Expr (Expr-F.Binary op k.0 x pos)) j.1
      by (Expr-F.Unary op k pos) = ap (λ x. roll-Expr (Expr-F.Unary op x pos)) k.1
      by (Expr-F.Index None ks pos) = ap (λ xs. roll-Expr (Expr-F.Index None xs pos)) (all_kept (expr_with f) ks)
      by (Expr-F.Index (Some k) ks pos) =
          ap (λ x. roll-Expr (Expr-F.Index (Some x) (map (expr_with f) (map (λ (j : KeptExpr). j.0) ks)) pos)) k.1 ∙ ap (λ xs. roll-Expr (Expr-F.Index (Some k.0) xs pos)) (all_kept (expr_with f) ks)
      by (Expr-F.Bind k pos) = ap (λ x. roll-Expr (Expr-F.Bind x pos)) k.1

  given_kept : (x : ExprArg-F Expr ExprArg ExprReceiver) (y : ExprArg-F KeptExpr KeptGiven KeptRecv) → unkept_given y ≡ x → argument_with f (roll-ExprArg x) ≡ roll-ExprArg x
  given_kept x y is = subst (λ z. argument_with f (roll-ExprArg z) ≡ roll-ExprArg z) is (argument_with-roll f (unkept_given y) ∙ by y)
    where
      by : (y : ExprArg-F KeptExpr KeptGiven KeptRecv) → argument_level f (map-ExprArg Expr ExprArg ExprReceiver Expr ExprArg ExprReceiver (expr_with f) (argument_with f) (receiver_with f) (unkept_given y)) ≡ roll-ExprArg (unkept_given y)
      by (ExprArg-F.Value mode k) = ap (λ x. roll-ExprArg (ExprArg-F.Value mode x)) k.1
      by (ExprArg-F.Unbound ty pos) = ap (λ o. g.Unbound o pos) (type_option ty) ∙ sym (g.rolls-Unbound ty pos)

  recv_kept : (x : ExprReceiver-F Expr ExprArg ExprReceiver) (y : ExprReceiver-F KeptExpr KeptGiven KeptRecv) → unkept_recv y ≡ x → receiver_with f (roll-ExprReceiver x) ≡ roll-ExprReceiver x
  recv_kept x y is = subst (λ z. receiver_with f (roll-ExprReceiver z) ≡ roll-ExprReceiver z) is (receiver_with-roll f (unkept_recv y) ∙ by y)
    where
      by : (y : ExprReceiver-F KeptExpr KeptGiven KeptRecv) → receiver_level f (map-ExprReceiver Expr ExprArg ExprReceiver Expr ExprArg ExprReceiver (expr_with f) (argument_with f) (receiver_with f) (unkept_recv y)) ≡ roll-ExprReceiver (unkept_recv y)
      by ExprReceiver-F.Implied = refl
      by (ExprReceiver-F.Of k) = ap (λ x. roll-ExprReceiver (ExprReceiver-F.Of x)) k.1
      by (ExprReceiver-F.OfClass ty) = ap r.OfClass (same ty) ∙ sym (r.rolls-OfClass ty)

  pub expr_with-same : (x : Expr) → expr_with f x ≡ x
  expr_with-same = ind-Expr (λ x. expr_with f x ≡ x) (λ x. argument_with f x ≡ x) (λ x. receiver_with f x ≡ x) expr_kept given_kept recv_kept
