-- The ASTs of `src/` as the definitions see them, at each variant.
use Rattle.std.proofs.Common.{◌≡◌, ℕ, ℤ, Bool, List, Option, None, Some, sym, ap, ◌∙◌}
use Rattle.sa_ast.specs.declared.fault_kind.FaultKind.{FaultKind}
use Rattle.sa_ast.specs.declared.pos.Pos.{Pos}
use Rattle.sa_ast.specs.declared.ty.Mode.{Mode}
use Rattle.sa_typed.specs.declared.feature.TypedCallee.{TypedCallee}
use Rattle.sa_typed.specs.declared.feature.Target.{Target}
use Rattle.sa_typed.specs.declared.expr.TypedArg.{TypedArg}
use Rattle.sa_typed.specs.declared.expr.TypedArg.TheOpen.{TypedArg-F, TypedExpr-F}
use Rattle.sa_typed.specs.declared.expr.TypedArg.TheFolds.{fold-roll-TypedArg, fold-roll-TypedExpr}
use Rattle.sa_typed.specs.declared.expr.TypedArg.TheVariants as a
use Rattle.sa_typed.specs.declared.expr.TypedExpr.{TypedExpr}
use Rattle.sa_typed.specs.declared.expr.TypedExpr.TheVariants as e
use Rattle.sa_typed.specs.declared.stmt.TypedArm.{TypedArm}
use Rattle.sa_typed.specs.declared.stmt.LoopExit.{LoopExit}
use Rattle.sa_typed.specs.declared.stmt.TypedStmt.{TypedStmt}
use Rattle.sa_typed.specs.declared.stmt.TypedStmt.TheOpen.{TypedStmt-F}
use Rattle.sa_typed.specs.declared.stmt.TypedStmt.TheFolds.{fold-roll-TypedStmt, fold_out-TypedBranch, fold_out-TypedArm}
use Rattle.sa_typed.specs.declared.stmt.TypedStmt.TheVariants as s
use Rattle.sa_typed.specs.declared.stmt.TypedBranch.{TypedBranch}
use Rattle.sa_typed.specs.Tree.{Expr, Int, Truth, Char, Text, VoidValue, SelfRef, Var, Exception, IsVoid, New, NewArray, Array, Call, IterCall, Bind, Reversed, And, Or, Box, Exprs, Arg, Value, Variable, Open}
use Rattle.sa_typed.specs.Tree.{Stmt, Assign, ExprStmt, If, Loop, ExitLoop, TypeCase, Protect, Return, Yield, Quit, Raise, Fault, Stmts, no_else, otherwise}
use Rattle.sa_typed.specs.Copy.{expr_level, arg_level, expr_of, arg_of, exprs_of, args_of, option_expr_of, exit_of}
use Rattle.sa_typed.specs.Copy.{stmt_level, test_level, arm_level, stmt_of, test_of, arm_of, block_of, tests_of, arms_of, else_of}

pub expr_of-Int : (value : ℤ) → expr_of (e.Int value) ≡ Int value
unfolding expr_of arg_of
expr_of-Int value =
    ap expr_of (sym (e.rolls-Int value)) ∙ fold-roll-TypedExpr Arg Expr arg_level expr_level (TypedExpr-F.Int value)

pub expr_of-Bool : (value : Bool) → expr_of (e.Bool value) ≡ Truth value
unfolding expr_of arg_of
expr_of-Bool value =
    ap expr_of (sym (e.rolls-Bool value)) ∙ fold-roll-TypedExpr Arg Expr arg_level expr_level (TypedExpr-F.Bool value)

pub expr_of-Char : (byte : ℕ) → expr_of (e.Char byte) ≡ Char byte
unfolding expr_of arg_of
expr_of-Char byte =
    ap expr_of (sym (e.rolls-Char byte)) ∙ fold-roll-TypedExpr Arg Expr arg_level expr_level (TypedExpr-F.Char byte)

pub expr_of-Text : (text : List ℕ) → expr_of (e.Text text) ≡ Text text
unfolding expr_of arg_of
expr_of-Text text =
    ap expr_of (sym (e.rolls-Text text)) ∙ fold-roll-TypedExpr Arg Expr arg_level expr_level (TypedExpr-F.Text text)

pub expr_of-VoidOf : (ty : ℕ) → expr_of (e.VoidValue ty) ≡ VoidValue ty
unfolding expr_of arg_of
expr_of-VoidOf ty =
    ap expr_of (sym (e.rolls-VoidValue ty)) ∙ fold-roll-TypedExpr Arg Expr arg_level expr_level (TypedExpr-F.VoidValue ty)

pub expr_of-Me : expr_of e.SelfRef ≡ SelfRef
unfolding expr_of arg_of
expr_of-Me =
    ap expr_of (sym e.rolls-SelfRef) ∙ fold-roll-TypedExpr Arg Expr arg_level expr_level TypedExpr-F.SelfRef

pub expr_of-Var : (var : ℕ) → expr_of (e.Var var) ≡ Var var
unfolding expr_of arg_of
expr_of-Var var =
    ap expr_of (sym (e.rolls-Var var)) ∙ fold-roll-TypedExpr Arg Expr arg_level expr_level (TypedExpr-F.Var var)

pub expr_of-Exception : expr_of e.Exception ≡ Exception
unfolding expr_of arg_of
expr_of-Exception =
    ap expr_of (sym e.rolls-Exception) ∙ fold-roll-TypedExpr Arg Expr arg_level expr_level TypedExpr-F.Exception

pub expr_of-IsVoid : (of : TypedExpr) → expr_of (e.IsVoid of) ≡ IsVoid (expr_of of)
unfolding expr_of arg_of
expr_of-IsVoid of =
    ap expr_of (sym (e.rolls-IsVoid of)) ∙ fold-roll-TypedExpr Arg Expr arg_level expr_level (TypedExpr-F.IsVoid of)

pub expr_of-New : (ty : ℕ) (pos : Pos) → expr_of (e.New ty pos) ≡ New ty pos
unfolding expr_of arg_of
expr_of-New ty pos =
    ap expr_of (sym (e.rolls-New ty pos)) ∙ fold-roll-TypedExpr Arg Expr arg_level expr_level (TypedExpr-F.New ty pos)

pub expr_of-NewArray : (ty : ℕ) (size : TypedExpr) (pos : Pos) → expr_of (e.NewArray ty size pos) ≡ NewArray ty (expr_of size) pos
unfolding expr_of arg_of
expr_of-NewArray ty size pos =
    ap expr_of (sym (e.rolls-NewArray ty size pos)) ∙ fold-roll-TypedExpr Arg Expr arg_level expr_level (TypedExpr-F.NewArray ty size pos)

pub expr_of-Items : (ty : ℕ) (elements : List TypedExpr) (pos : Pos) → expr_of (e.Array ty elements pos) ≡ Array ty (exprs_of elements) pos
unfolding expr_of arg_of
expr_of-Items ty elements pos =
    ap expr_of (sym (e.rolls-Array ty elements pos)) ∙ fold-roll-TypedExpr Arg Expr arg_level expr_level (TypedExpr-F.Array ty elements pos)

pub expr_of-Call : (called : TypedCallee) (on : TypedExpr) (arguments : List TypedArg) (pos : Pos) → expr_of (e.Call called on arguments pos) ≡ Call called (expr_of on) (args_of arguments) pos
unfolding expr_of arg_of
expr_of-Call called on arguments pos =
    ap expr_of (sym (e.rolls-Call called on arguments pos)) ∙ fold-roll-TypedExpr Arg Expr arg_level expr_level (TypedExpr-F.Call called on arguments pos)

pub expr_of-IterCall : (site : ℕ) (on : TypedExpr) (arguments : List TypedArg) (pos : Pos) → expr_of (e.IterCall site on arguments pos) ≡ IterCall site (expr_of on) (args_of arguments) pos
unfolding expr_of arg_of
expr_of-IterCall site on arguments pos =
    ap expr_of (sym (e.rolls-IterCall site on arguments pos)) ∙ fold-roll-TypedExpr Arg Expr arg_level expr_level (TypedExpr-F.IterCall site on arguments pos)

pub expr_of-Bind : (called : TypedCallee) (on : TypedExpr) (arguments : List TypedArg) (ty : ℕ) (pos : Pos) → expr_of (e.Bind called on arguments ty pos) ≡ Bind called (expr_of on) (args_of arguments) ty pos
unfolding expr_of arg_of
expr_of-Bind called on arguments ty pos =
    ap expr_of (sym (e.rolls-Bind called on arguments ty pos)) ∙ fold-roll-TypedExpr Arg Expr arg_level expr_level (TypedExpr-F.Bind called on arguments ty pos)

pub expr_of-Swapped : (target : Target) (first : TypedExpr) (second : TypedExpr) (pos : Pos) → expr_of (e.Reversed target first second pos) ≡ Reversed target (expr_of first) (expr_of second) pos
unfolding expr_of arg_of
expr_of-Swapped target first second pos =
    ap expr_of (sym (e.rolls-Reversed target first second pos)) ∙ fold-roll-TypedExpr Arg Expr arg_level expr_level (TypedExpr-F.Reversed target first second pos)

pub expr_of-And : (first : TypedExpr) (second : TypedExpr) → expr_of (e.And first second) ≡ And (expr_of first) (expr_of second)
unfolding expr_of arg_of
expr_of-And first second =
    ap expr_of (sym (e.rolls-And first second)) ∙ fold-roll-TypedExpr Arg Expr arg_level expr_level (TypedExpr-F.And first second)

pub expr_of-Or : (first : TypedExpr) (second : TypedExpr) → expr_of (e.Or first second) ≡ Or (expr_of first) (expr_of second)
unfolding expr_of arg_of
expr_of-Or first second =
    ap expr_of (sym (e.rolls-Or first second)) ∙ fold-roll-TypedExpr Arg Expr arg_level expr_level (TypedExpr-F.Or first second)

pub expr_of-Widen : (ty : ℕ) (of : TypedExpr) (pos : Pos) → expr_of (e.Box ty of pos) ≡ Box ty (expr_of of) pos
unfolding expr_of arg_of
expr_of-Widen ty of pos =
    ap expr_of (sym (e.rolls-Box ty of pos)) ∙ fold-roll-TypedExpr Arg Expr arg_level expr_level (TypedExpr-F.Box ty of pos)

pub arg_of-Value : (mode : Mode) (value : TypedExpr) → arg_of (a.Value mode value) ≡ Value mode (expr_of value)
unfolding expr_of arg_of
arg_of-Value mode value =
    ap arg_of (sym (a.rolls-Value mode value)) ∙ fold-roll-TypedArg Arg Expr arg_level expr_level (TypedArg-F.Value mode value)

pub arg_of-Variable : (mode : Mode) (var : ℕ) → arg_of (a.Variable mode var) ≡ Variable mode var
unfolding expr_of arg_of
arg_of-Variable mode var =
    ap arg_of (sym (a.rolls-Variable mode var)) ∙ fold-roll-TypedArg Arg Expr arg_level expr_level (TypedArg-F.Variable mode var)

pub arg_of-Left : arg_of a.Open ≡ Open
unfolding expr_of arg_of
arg_of-Left =
    ap arg_of (sym a.rolls-Open) ∙ fold-roll-TypedArg Arg Expr arg_level expr_level TypedArg-F.Open

pub stmt_of-Let : (var : ℕ) (value : TypedExpr) → stmt_of (s.Assign var value) ≡ Assign var (expr_of value)
unfolding stmt_of test_of arm_of
stmt_of-Let var value =
    ap stmt_of (sym (s.rolls-Assign var value)) ∙ fold-roll-TypedStmt Stmt (ℕ × ℕ × Stmts) (Exprs × Stmts) stmt_level arm_level test_level (TypedStmt-F.Assign var value)

pub stmt_of-Do : (value : TypedExpr) → stmt_of (s.ExprStmt value) ≡ ExprStmt (expr_of value)
unfolding stmt_of test_of arm_of
stmt_of-Do value =
    ap stmt_of (sym (s.rolls-ExprStmt value)) ∙ fold-roll-TypedStmt Stmt (ℕ × ℕ × Stmts) (Exprs × Stmts) stmt_level arm_level test_level (TypedStmt-F.ExprStmt value)

pub stmt_of-If : (tests : List TypedBranch) (other : List TypedStmt) → stmt_of (s.If tests other) ≡ If (tests_of tests) (block_of other)
unfolding stmt_of test_of arm_of
stmt_of-If tests other =
    ap stmt_of (sym (s.rolls-If tests other)) ∙ fold-roll-TypedStmt Stmt (ℕ × ℕ × Stmts) (Exprs × Stmts) stmt_level arm_level test_level (TypedStmt-F.If tests other)

pub stmt_of-Loop : (number : ℕ) (body : List TypedStmt) → stmt_of (s.Loop number body) ≡ Loop number (block_of body)
unfolding stmt_of test_of arm_of
stmt_of-Loop number body =
    ap stmt_of (sym (s.rolls-Loop number body)) ∙ fold-roll-TypedStmt Stmt (ℕ × ℕ × Stmts) (Exprs × Stmts) stmt_level arm_level test_level (TypedStmt-F.Loop number body)

pub stmt_of-Leave : (exit : LoopExit) → stmt_of (s.ExitLoop exit) ≡ ExitLoop (exit_of exit)
unfolding stmt_of test_of arm_of
stmt_of-Leave exit =
    ap stmt_of (sym (s.rolls-ExitLoop exit)) ∙ fold-roll-TypedStmt Stmt (ℕ × ℕ × Stmts) (Exprs × Stmts) stmt_level arm_level test_level (TypedStmt-F.ExitLoop exit)

pub stmt_of-TypeCase : (var : ℕ) (arms : List TypedArm) (other : Option (List TypedStmt)) (pos : Pos) → stmt_of (s.TypeCase var arms other pos) ≡ TypeCase var (arms_of arms) (else_of other) pos
unfolding stmt_of test_of arm_of
stmt_of-TypeCase var arms None pos =
    ap stmt_of (sym (s.rolls-TypeCase var arms None pos)) ∙ fold-roll-TypedStmt Stmt (ℕ × ℕ × Stmts) (Exprs × Stmts) stmt_level arm_level test_level (TypedStmt-F.TypeCase var arms None pos)
stmt_of-TypeCase var arms (Some inside) pos =
    ap stmt_of (sym (s.rolls-TypeCase var arms (Some inside) pos)) ∙ fold-roll-TypedStmt Stmt (ℕ × ℕ × Stmts) (Exprs × Stmts) stmt_level arm_level test_level (TypedStmt-F.TypeCase var arms (Some inside) pos)

pub stmt_of-Protect : (body : List TypedStmt) (arms : List TypedArm) (other : Option (List TypedStmt)) → stmt_of (s.Protect body arms other) ≡ Protect (block_of body) (arms_of arms) (else_of other)
unfolding stmt_of test_of arm_of
stmt_of-Protect body arms None =
    ap stmt_of (sym (s.rolls-Protect body arms None)) ∙ fold-roll-TypedStmt Stmt (ℕ × ℕ × Stmts) (Exprs × Stmts) stmt_level arm_level test_level (TypedStmt-F.Protect body arms None)
stmt_of-Protect body arms (Some inside) =
    ap stmt_of (sym (s.rolls-Protect body arms (Some inside))) ∙ fold-roll-TypedStmt Stmt (ℕ × ℕ × Stmts) (Exprs × Stmts) stmt_level arm_level test_level (TypedStmt-F.Protect body arms (Some inside))

pub stmt_of-Return : (value : Option TypedExpr) → stmt_of (s.Return value) ≡ Return (option_expr_of value)
unfolding stmt_of test_of arm_of
stmt_of-Return value =
    ap stmt_of (sym (s.rolls-Return value)) ∙ fold-roll-TypedStmt Stmt (ℕ × ℕ × Stmts) (Exprs × Stmts) stmt_level arm_level test_level (TypedStmt-F.Return value)

pub stmt_of-Yield : (value : Option TypedExpr) → stmt_of (s.Yield value) ≡ Yield (option_expr_of value)
unfolding stmt_of test_of arm_of
stmt_of-Yield value =
    ap stmt_of (sym (s.rolls-Yield value)) ∙ fold-roll-TypedStmt Stmt (ℕ × ℕ × Stmts) (Exprs × Stmts) stmt_level arm_level test_level (TypedStmt-F.Yield value)

pub stmt_of-Quit : stmt_of s.Quit ≡ Quit
unfolding stmt_of test_of arm_of
stmt_of-Quit =
    ap stmt_of (sym s.rolls-Quit) ∙ fold-roll-TypedStmt Stmt (ℕ × ℕ × Stmts) (Exprs × Stmts) stmt_level arm_level test_level TypedStmt-F.Quit

pub stmt_of-Raise : (value : TypedExpr) (pos : Pos) → stmt_of (s.Raise value pos) ≡ Raise (expr_of value) pos
unfolding stmt_of test_of arm_of
stmt_of-Raise value pos =
    ap stmt_of (sym (s.rolls-Raise value pos)) ∙ fold-roll-TypedStmt Stmt (ℕ × ℕ × Stmts) (Exprs × Stmts) stmt_level arm_level test_level (TypedStmt-F.Raise value pos)

pub stmt_of-Stop : (kind : FaultKind) (pos : Pos) → stmt_of (s.Fault kind pos) ≡ Fault kind pos
unfolding stmt_of test_of arm_of
stmt_of-Stop kind pos =
    ap stmt_of (sym (s.rolls-Fault kind pos)) ∙ fold-roll-TypedStmt Stmt (ℕ × ℕ × Stmts) (Exprs × Stmts) stmt_level arm_level test_level (TypedStmt-F.Fault kind pos)

pub stmt_of-TypeCase-None : (var : ℕ) (arms : List TypedArm) (pos : Pos) → stmt_of (s.TypeCase var arms None pos) ≡ TypeCase var (arms_of arms) no_else pos
stmt_of-TypeCase-None var arms pos = stmt_of-TypeCase var arms None pos

pub stmt_of-TypeCase-Some : (var : ℕ) (arms : List TypedArm) (inside : List TypedStmt) (pos : Pos) → stmt_of (s.TypeCase var arms (Some inside) pos) ≡ TypeCase var (arms_of arms) (otherwise (block_of inside)) pos
stmt_of-TypeCase-Some var arms inside pos = stmt_of-TypeCase var arms (Some inside) pos

pub stmt_of-Protect-None : (body : List TypedStmt) (arms : List TypedArm) → stmt_of (s.Protect body arms None) ≡ Protect (block_of body) (arms_of arms) no_else
stmt_of-Protect-None body arms = stmt_of-Protect body arms None

pub stmt_of-Protect-Some : (body : List TypedStmt) (arms : List TypedArm) (inside : List TypedStmt) → stmt_of (s.Protect body arms (Some inside)) ≡ Protect (block_of body) (arms_of arms) (otherwise (block_of inside))
stmt_of-Protect-Some body arms inside = stmt_of-Protect body arms (Some inside)

pub test_of-parts : (t : TypedBranch) → test_of t ≡ (exprs_of t.tests, block_of t.body)
unfolding stmt_of test_of arm_of
test_of-parts t = fold_out-TypedBranch Stmt (ℕ × ℕ × Stmts) (Exprs × Stmts) stmt_level arm_level test_level t

pub arm_of-parts : (a : TypedArm) → arm_of a ≡ (a.ty, a.var, block_of a.body)
unfolding stmt_of test_of arm_of
arm_of-parts a = fold_out-TypedArm Stmt (ℕ × ℕ × Stmts) (Exprs × Stmts) stmt_level arm_level test_level a

pub ruleset copies = (expr_of-Int, expr_of-Bool, expr_of-Char, expr_of-Text, expr_of-VoidOf, expr_of-Me, expr_of-Var, expr_of-Exception, expr_of-IsVoid, expr_of-New, expr_of-NewArray, expr_of-Items, expr_of-Call, expr_of-IterCall, expr_of-Bind, expr_of-Swapped, expr_of-And, expr_of-Or, expr_of-Widen, arg_of-Value, arg_of-Variable, arg_of-Left, stmt_of-Let, stmt_of-Do, stmt_of-If, stmt_of-Loop, stmt_of-Leave, stmt_of-TypeCase, stmt_of-Protect, stmt_of-Return, stmt_of-Yield, stmt_of-Quit, stmt_of-Raise, stmt_of-Stop, test_of-parts, arm_of-parts)

-- ---- a typecase or a protect, with the statements of its `else` or without

pub typecase_of-None : (x : TypedStmt) (var : ℕ) (arms : List TypedArm) (other : Option (List TypedStmt)) (pos : Pos) → x ≡ s.TypeCase var arms other pos → other ≡ None → stmt_of x ≡ TypeCase var (arms_of arms) no_else pos
typecase_of-None x var arms other pos is is_other = rw (is, is_other, stmt_of-TypeCase)

pub typecase_of-Some : (x : TypedStmt) (var : ℕ) (arms : List TypedArm) (other : Option (List TypedStmt)) (inside : List TypedStmt) (pos : Pos) → x ≡ s.TypeCase var arms other pos → other ≡ Some inside → stmt_of x ≡ TypeCase var (arms_of arms) (otherwise (block_of inside)) pos
typecase_of-Some x var arms other inside pos is is_other = rw (is, is_other, stmt_of-TypeCase)

pub protect_of-None : (x : TypedStmt) (body : List TypedStmt) (arms : List TypedArm) (other : Option (List TypedStmt)) → x ≡ s.Protect body arms other → other ≡ None → stmt_of x ≡ Protect (block_of body) (arms_of arms) no_else
protect_of-None x body arms other is is_other = rw (is, is_other, stmt_of-Protect)

pub protect_of-Some : (x : TypedStmt) (body : List TypedStmt) (arms : List TypedArm) (other : Option (List TypedStmt)) (inside : List TypedStmt) → x ≡ s.Protect body arms other → other ≡ Some inside → stmt_of x ≡ Protect (block_of body) (arms_of arms) (otherwise (block_of inside))
protect_of-Some x body arms other inside is is_other = rw (is, is_other, stmt_of-Protect)
