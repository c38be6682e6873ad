-- An AST with its types changed, at each variant.
use Rattle.std.proofs.Common.{◌≡◌, ℕ, Bool, List, Option, None, Some, map, sym, ap, ◌∙◌}
use Rattle.std.proofs.lemmas.List.{map_more}
use Rattle.std.specs.Option.{option_map}
use Rattle.sa_ast.specs.declared.expr.Expr.{Expr}
use Rattle.sa_ast.specs.declared.expr.Expr.TheFolds.{map-Expr, map-ExprArg, map-ExprReceiver, fold-roll-Expr, fold-roll-ExprArg, fold-roll-ExprReceiver}
use Rattle.sa_ast.specs.declared.expr.Expr.TheOpen.{Expr-F, ExprArg-F, ExprReceiver-F}
use Rattle.sa_ast.specs.declared.expr.Expr.TheVariants as e
use Rattle.sa_ast.specs.declared.expr.Expr.TheViews.{roll-Expr, roll-ExprArg, roll-ExprReceiver}
use Rattle.sa_ast.specs.declared.expr.ExprArg.{ExprArg}
use Rattle.sa_ast.specs.declared.expr.ExprArg.TheVariants as g
use Rattle.sa_ast.specs.declared.expr.Operator.{Operator}
use Rattle.sa_ast.specs.declared.expr.ExprReceiver.{ExprReceiver}
use Rattle.sa_ast.specs.declared.expr.ExprReceiver.TheVariants as r
use Rattle.sa_ast.specs.declared.pos.Pos.{Pos}
use Rattle.sa_ast.specs.declared.stmt.BranchArm.{BranchArm}
use Rattle.sa_ast.specs.declared.stmt.CaseArm.{CaseArm}
use Rattle.sa_ast.specs.declared.stmt.Local.{Local}
use Rattle.sa_ast.specs.declared.stmt.Stmt.{Stmt}
use Rattle.sa_ast.specs.declared.stmt.Stmt.TheFolds.{map-Stmt, fold-roll-Stmt, fold_out-BranchArm, fold_out-CaseArm, fold_out-TypeArm}
use Rattle.sa_ast.specs.declared.stmt.Stmt.TheOpen.{Stmt-F}
use Rattle.sa_ast.specs.declared.stmt.Stmt.TheVariants as s
use Rattle.sa_ast.specs.declared.stmt.Stmt.TheViews.{roll-Stmt}
use Rattle.sa_ast.specs.declared.stmt.TypeArm.{TypeArm}
use Rattle.sa_ast.specs.declared.ty.Mode.{Mode}
use Rattle.sa_ast.specs.declared.ty.Ty.{Ty}
use Rattle.sa_subst.specs.Trees.{expr_level, receiver_level, argument_level, expr_with, receiver_with, argument_with, stmt_level, arm_level, case_arm_level, type_arm_level, stmt_with, arm_with, case_arm_with, type_arm_with}

module _ (f : Ty → Ty) where
  pub expr_with-roll : (x : Expr-F Expr ExprArg ExprReceiver) → expr_with f (roll-Expr x) ≡ expr_level f (map-Expr Expr ExprArg ExprReceiver Expr ExprArg ExprReceiver (expr_with f) (argument_with f) (receiver_with f) x)
  unfolding expr_with argument_with receiver_with
  expr_with-roll x = fold-roll-Expr Expr ExprArg ExprReceiver (expr_level f) (argument_level f) (receiver_level f) x

  pub receiver_with-roll : (x : ExprReceiver-F Expr ExprArg ExprReceiver) → receiver_with f (roll-ExprReceiver x) ≡ receiver_level f (map-ExprReceiver Expr ExprArg ExprReceiver Expr ExprArg ExprReceiver (expr_with f) (argument_with f) (receiver_with f) x)
  unfolding expr_with argument_with receiver_with
  receiver_with-roll x = fold-roll-ExprReceiver Expr ExprArg ExprReceiver (expr_level f) (argument_level f) (receiver_level f) x

  pub argument_with-roll : (x : ExprArg-F Expr ExprArg ExprReceiver) → argument_with f (roll-ExprArg x) ≡ argument_level f (map-ExprArg Expr ExprArg ExprReceiver Expr ExprArg ExprReceiver (expr_with f) (argument_with f) (receiver_with f) x)
  unfolding expr_with argument_with receiver_with
  argument_with-roll x = fold-roll-ExprArg Expr ExprArg ExprReceiver (expr_level f) (argument_level f) (receiver_level f) x

  stmt_with-roll : (x : Stmt-F Stmt BranchArm CaseArm TypeArm) → stmt_with f (roll-Stmt x) ≡ stmt_level f (map-Stmt Stmt BranchArm CaseArm TypeArm Stmt BranchArm CaseArm TypeArm (stmt_with f) (arm_with f) (case_arm_with f) (type_arm_with f) x)
  unfolding stmt_with arm_with case_arm_with type_arm_with
  stmt_with-roll x = fold-roll-Stmt Stmt BranchArm CaseArm TypeArm (stmt_level f) (arm_level f) (case_arm_level f) (type_arm_level f) x

  pub expr_with-Int : (value : ℕ) (pos : Pos) → expr_with f (e.Int value pos) ≡ e.Int value pos
  expr_with-Int value pos =
      ap (expr_with f) (sym (e.rolls-Int value pos)) ∙ expr_with-roll (Expr-F.Int value pos) ∙ e.rolls-Int value pos

  pub expr_with-Bool : (value : Bool) (pos : Pos) → expr_with f (e.Bool value pos) ≡ e.Bool value pos
  expr_with-Bool value pos =
      ap (expr_with f) (sym (e.rolls-Bool value pos)) ∙ expr_with-roll (Expr-F.Bool value pos) ∙ e.rolls-Bool value pos

  pub expr_with-Char : (value : ℕ) (pos : Pos) → expr_with f (e.Char value pos) ≡ e.Char value pos
  expr_with-Char value pos =
      ap (expr_with f) (sym (e.rolls-Char value pos)) ∙ expr_with-roll (Expr-F.Char value pos) ∙ e.rolls-Char value pos

  pub expr_with-Text : (text : List ℕ) (pos : Pos) → expr_with f (e.Text text pos) ≡ e.Text text pos
  expr_with-Text text pos =
      ap (expr_with f) (sym (e.rolls-Text text pos)) ∙ expr_with-roll (Expr-F.Text text pos) ∙ e.rolls-Text text pos

  pub expr_with-Me : (pos : Pos) → expr_with f (e.SelfRef pos) ≡ e.SelfRef pos
  expr_with-Me pos =
      ap (expr_with f) (sym (e.rolls-SelfRef pos)) ∙ expr_with-roll (Expr-F.SelfRef pos) ∙ e.rolls-SelfRef pos

  pub expr_with-Void : (pos : Pos) → expr_with f (e.Void pos) ≡ e.Void pos
  expr_with-Void pos =
      ap (expr_with f) (sym (e.rolls-Void pos)) ∙ expr_with-roll (Expr-F.Void pos) ∙ e.rolls-Void pos

  pub expr_with-IsVoid : (tested : Expr) (pos : Pos) → expr_with f (e.IsVoid tested pos) ≡ e.IsVoid (expr_with f tested) pos
  expr_with-IsVoid tested pos =
      ap (expr_with f) (sym (e.rolls-IsVoid tested pos)) ∙ expr_with-roll (Expr-F.IsVoid tested pos) ∙ e.rolls-IsVoid (expr_with f tested) pos

  pub expr_with-Exception : (pos : Pos) → expr_with f (e.Exception pos) ≡ e.Exception pos
  expr_with-Exception pos =
      ap (expr_with f) (sym (e.rolls-Exception pos)) ∙ expr_with-roll (Expr-F.Exception pos) ∙ e.rolls-Exception pos

  pub expr_with-New : (count : Option Expr) (pos : Pos) → expr_with f (e.New count pos) ≡ e.New (option_map (expr_with f) count) pos
  expr_with-New None pos =
      ap (expr_with f) (sym (e.rolls-New None pos)) ∙ expr_with-roll (Expr-F.New None pos) ∙ e.rolls-New None pos
  expr_with-New (Some inside) pos =
      ap (expr_with f) (sym (e.rolls-New (Some inside) pos)) ∙ expr_with-roll (Expr-F.New (Some inside) pos) ∙ e.rolls-New (Some (expr_with f inside)) pos

  pub expr_with-Create : (ty : Option Ty) (args : List ExprArg) (pos : Pos) → expr_with f (e.Create ty args pos) ≡ e.Create (option_map f ty) (map (argument_with f) args) pos
  expr_with-Create ty args pos =
      ap (expr_with f) (sym (e.rolls-Create ty args pos)) ∙ expr_with-roll (Expr-F.Create ty args pos)

  pub expr_with-Items : (items : List Expr) (pos : Pos) → expr_with f (e.Items items pos) ≡ e.Items (map (expr_with f) items) pos
  expr_with-Items items pos =
      ap (expr_with f) (sym (e.rolls-Items items pos)) ∙ expr_with-roll (Expr-F.Items items pos) ∙ e.rolls-Items (map (expr_with f) items) pos

  pub expr_with-Call : (on : ExprReceiver) (name : List ℕ) (args : List ExprArg) (pos : Pos) → expr_with f (e.Call on name args pos) ≡ e.Call (receiver_with f on) name (map (argument_with f) args) pos
  expr_with-Call on name args pos =
      ap (expr_with f) (sym (e.rolls-Call on name args pos)) ∙ expr_with-roll (Expr-F.Call on name args pos) ∙ e.rolls-Call (receiver_with f on) name (map (argument_with f) args) pos

  pub expr_with-Binary : (op : Operator) (left : Expr) (right : Expr) (pos : Pos) → expr_with f (e.Binary op left right pos) ≡ e.Binary op (expr_with f left) (expr_with f right) pos
  expr_with-Binary op left right pos =
      ap (expr_with f) (sym (e.rolls-Binary op left right pos)) ∙ expr_with-roll (Expr-F.Binary op left right pos) ∙ e.rolls-Binary op (expr_with f left) (expr_with f right) pos

  pub expr_with-Unary : (op : Operator) (of : Expr) (pos : Pos) → expr_with f (e.Unary op of pos) ≡ e.Unary op (expr_with f of) pos
  expr_with-Unary op of pos =
      ap (expr_with f) (sym (e.rolls-Unary op of pos)) ∙ expr_with-roll (Expr-F.Unary op of pos) ∙ e.rolls-Unary op (expr_with f of) pos

  pub expr_with-Index : (of : Option Expr) (at : List Expr) (pos : Pos) → expr_with f (e.Index of at pos) ≡ e.Index (option_map (expr_with f) of) (map (expr_with f) at) pos
  expr_with-Index None at pos =
      ap (expr_with f) (sym (e.rolls-Index None at pos)) ∙ expr_with-roll (Expr-F.Index None at pos) ∙ e.rolls-Index None (map (expr_with f) at) pos
  expr_with-Index (Some inside) at pos =
      ap (expr_with f) (sym (e.rolls-Index (Some inside) at pos)) ∙ expr_with-roll (Expr-F.Index (Some inside) at pos) ∙ e.rolls-Index (Some (expr_with f inside)) (map (expr_with f) at) pos

  pub expr_with-Bind : (call : Expr) (pos : Pos) → expr_with f (e.Bind call pos) ≡ e.Bind (expr_with f call) pos
  expr_with-Bind call pos =
      ap (expr_with f) (sym (e.rolls-Bind call pos)) ∙ expr_with-roll (Expr-F.Bind call pos) ∙ e.rolls-Bind (expr_with f call) pos

  pub receiver_with-Implied : receiver_with f r.Implied ≡ r.Implied
  receiver_with-Implied =
      ap (receiver_with f) (sym r.rolls-Implied) ∙ receiver_with-roll ExprReceiver-F.Implied ∙ r.rolls-Implied

  pub receiver_with-Of : (of : Expr) → receiver_with f (r.Of of) ≡ r.Of (expr_with f of)
  receiver_with-Of of =
      ap (receiver_with f) (sym (r.rolls-Of of)) ∙ receiver_with-roll (ExprReceiver-F.Of of) ∙ r.rolls-Of (expr_with f of)

  pub receiver_with-OfClass : (ty : Ty) → receiver_with f (r.OfClass ty) ≡ r.OfClass (f ty)
  receiver_with-OfClass ty =
      ap (receiver_with f) (sym (r.rolls-OfClass ty)) ∙ receiver_with-roll (ExprReceiver-F.OfClass ty)

  pub argument_with-Value : (mode : Mode) (value : Expr) → argument_with f (g.Value mode value) ≡ g.Value mode (expr_with f value)
  argument_with-Value mode value =
      ap (argument_with f) (sym (g.rolls-Value mode value)) ∙ argument_with-roll (ExprArg-F.Value mode value) ∙ g.rolls-Value mode (expr_with f value)

  pub argument_with-Left : (ty : Option Ty) (pos : Pos) → argument_with f (g.Unbound ty pos) ≡ g.Unbound (option_map f ty) pos
  argument_with-Left ty pos =
      ap (argument_with f) (sym (g.rolls-Unbound ty pos)) ∙ argument_with-roll (ExprArg-F.Unbound ty pos)

  pub stmt_with-Declare : (names : List Local) (ty : Option Ty) (value : Option Expr) → stmt_with f (s.Declare names ty value) ≡ s.Declare names (option_map f ty) (option_map (expr_with f) value)
  stmt_with-Declare names ty value =
      ap (stmt_with f) (sym (s.rolls-Declare names ty value)) ∙ stmt_with-roll (Stmt-F.Declare names ty value)

  pub stmt_with-Assign : (to : Expr) (value : Expr) (pos : Pos) → stmt_with f (s.Assign to value pos) ≡ s.Assign (expr_with f to) (expr_with f value) pos
  stmt_with-Assign to value pos =
      ap (stmt_with f) (sym (s.rolls-Assign to value pos)) ∙ stmt_with-roll (Stmt-F.Assign to value pos)

  pub stmt_with-If : (arms : List BranchArm) (other : List Stmt) (pos : Pos) → stmt_with f (s.If arms other pos) ≡ s.If (map (arm_with f) arms) (map (stmt_with f) other) pos
  stmt_with-If arms other pos =
      ap (stmt_with f) (sym (s.rolls-If arms other pos)) ∙ stmt_with-roll (Stmt-F.If arms other pos) ∙ s.rolls-If (map (arm_with f) arms) (map (stmt_with f) other) pos

  pub stmt_with-Loop : (body : List Stmt) (pos : Pos) → stmt_with f (s.Loop body pos) ≡ s.Loop (map (stmt_with f) body) pos
  stmt_with-Loop body pos =
      ap (stmt_with f) (sym (s.rolls-Loop body pos)) ∙ stmt_with-roll (Stmt-F.Loop body pos) ∙ s.rolls-Loop (map (stmt_with f) body) pos

  pub stmt_with-Case : (tested : Expr) (arms : List CaseArm) (other : Option (List Stmt)) (pos : Pos) → stmt_with f (s.Case tested arms other pos) ≡ s.Case (expr_with f tested) (map (case_arm_with f) arms) (option_map (map (stmt_with f)) other) pos
  stmt_with-Case tested arms None pos =
      ap (stmt_with f) (sym (s.rolls-Case tested arms None pos)) ∙ stmt_with-roll (Stmt-F.Case tested arms None pos)
  stmt_with-Case tested arms (Some inside) pos =
      ap (stmt_with f) (sym (s.rolls-Case tested arms (Some inside) pos)) ∙ stmt_with-roll (Stmt-F.Case tested arms (Some inside) pos)

  pub stmt_with-TypeCase : (tested : Local) (arms : List TypeArm) (other : Option (List Stmt)) (pos : Pos) → stmt_with f (s.TypeCase tested arms other pos) ≡ s.TypeCase tested (map (type_arm_with f) arms) (option_map (map (stmt_with f)) other) pos
  stmt_with-TypeCase tested arms None pos =
      ap (stmt_with f) (sym (s.rolls-TypeCase tested arms None pos)) ∙ stmt_with-roll (Stmt-F.TypeCase tested arms None pos) ∙ s.rolls-TypeCase tested (map (type_arm_with f) arms) None pos
  stmt_with-TypeCase tested arms (Some inside) pos =
      ap (stmt_with f) (sym (s.rolls-TypeCase tested arms (Some inside) pos)) ∙ stmt_with-roll (Stmt-F.TypeCase tested arms (Some inside) pos) ∙ s.rolls-TypeCase tested (map (type_arm_with f) arms) (Some (map (stmt_with f) inside)) pos

  pub stmt_with-Protect : (body : List Stmt) (arms : List TypeArm) (other : Option (List Stmt)) (pos : Pos) → stmt_with f (s.Protect body arms other pos) ≡ s.Protect (map (stmt_with f) body) (map (type_arm_with f) arms) (option_map (map (stmt_with f)) other) pos
  stmt_with-Protect body arms None pos =
      ap (stmt_with f) (sym (s.rolls-Protect body arms None pos)) ∙ stmt_with-roll (Stmt-F.Protect body arms None pos) ∙ s.rolls-Protect (map (stmt_with f) body) (map (type_arm_with f) arms) None pos
  stmt_with-Protect body arms (Some inside) pos =
      ap (stmt_with f) (sym (s.rolls-Protect body arms (Some inside) pos)) ∙ stmt_with-roll (Stmt-F.Protect body arms (Some inside) pos) ∙ s.rolls-Protect (map (stmt_with f) body) (map (type_arm_with f) arms) (Some (map (stmt_with f) inside)) pos

  pub stmt_with-Return : (value : Option Expr) (pos : Pos) → stmt_with f (s.Return value pos) ≡ s.Return (option_map (expr_with f) value) pos
  stmt_with-Return value pos =
      ap (stmt_with f) (sym (s.rolls-Return value pos)) ∙ stmt_with-roll (Stmt-F.Return value pos)

  pub stmt_with-Yield : (value : Option Expr) (pos : Pos) → stmt_with f (s.Yield value pos) ≡ s.Yield (option_map (expr_with f) value) pos
  stmt_with-Yield value pos =
      ap (stmt_with f) (sym (s.rolls-Yield value pos)) ∙ stmt_with-roll (Stmt-F.Yield value pos)

  pub stmt_with-Quit : (pos : Pos) → stmt_with f (s.Quit pos) ≡ s.Quit pos
  stmt_with-Quit pos =
      ap (stmt_with f) (sym (s.rolls-Quit pos)) ∙ stmt_with-roll (Stmt-F.Quit pos) ∙ s.rolls-Quit pos

  pub stmt_with-Raise : (value : Expr) (pos : Pos) → stmt_with f (s.Raise value pos) ≡ s.Raise (expr_with f value) pos
  stmt_with-Raise value pos =
      ap (stmt_with f) (sym (s.rolls-Raise value pos)) ∙ stmt_with-roll (Stmt-F.Raise value pos)

  pub stmt_with-Assert : (test : Expr) (pos : Pos) → stmt_with f (s.Assert test pos) ≡ s.Assert (expr_with f test) pos
  stmt_with-Assert test pos =
      ap (stmt_with f) (sym (s.rolls-Assert test pos)) ∙ stmt_with-roll (Stmt-F.Assert test pos)

  pub stmt_with-Do : (value : Expr) → stmt_with f (s.ExprStmt value) ≡ s.ExprStmt (expr_with f value)
  stmt_with-Do value =
      ap (stmt_with f) (sym (s.rolls-ExprStmt value)) ∙ stmt_with-roll (Stmt-F.ExprStmt value)

  pub arm_with-parts : (a : BranchArm) → arm_with f a ≡ record { test = expr_with f a.test; body = map (stmt_with f) a.body }
  unfolding stmt_with arm_with case_arm_with type_arm_with
  arm_with-parts a = fold_out-BranchArm Stmt BranchArm CaseArm TypeArm (stmt_level f) (arm_level f) (case_arm_level f) (type_arm_level f) a

  pub case_arm_with-parts : (a : CaseArm) → case_arm_with f a ≡ record { values = map (expr_with f) a.values; body = map (stmt_with f) a.body }
  unfolding stmt_with arm_with case_arm_with type_arm_with
  case_arm_with-parts a = fold_out-CaseArm Stmt BranchArm CaseArm TypeArm (stmt_level f) (arm_level f) (case_arm_level f) (type_arm_level f) a

  pub type_arm_with-parts : (a : TypeArm) → type_arm_with f a ≡ record { ty = f a.ty; body = map (stmt_with f) a.body }
  unfolding stmt_with arm_with case_arm_with type_arm_with
  type_arm_with-parts a = fold_out-TypeArm Stmt BranchArm CaseArm TypeArm (stmt_level f) (arm_level f) (case_arm_level f) (type_arm_level f) a

pub ruleset expressions = (map_more, expr_with-Int, expr_with-Bool, expr_with-Char, expr_with-Text, expr_with-Me, expr_with-Void, expr_with-IsVoid, expr_with-Exception, expr_with-New, expr_with-Create, expr_with-Items, expr_with-Call, expr_with-Binary, expr_with-Unary, expr_with-Index, expr_with-Bind, receiver_with-Implied, receiver_with-Of, receiver_with-OfClass, argument_with-Value, argument_with-Left)

pub ruleset statements = (map_more, stmt_with-Declare, stmt_with-Assign, stmt_with-If, stmt_with-Loop, stmt_with-Case, stmt_with-TypeCase, stmt_with-Protect, stmt_with-Return, stmt_with-Yield, stmt_with-Quit, stmt_with-Raise, stmt_with-Assert, stmt_with-Do, arm_with-parts, case_arm_with-parts, type_arm_with-parts)
