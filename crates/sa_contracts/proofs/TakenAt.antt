-- A form with a variable in place of each `initial`, and the declarations, at each variant.
use Rattle.std.proofs.Common.{◌≡◌, ℕ, ◌+◌, ◌<◌, Bool, List, [], ◌∷◌, ◌++◌, length, get_or, take, Option, None, Some, map, refl, sym, ap, ◌∙◌}
use Rattle.std.proofs.lemmas.List.{map_more}
use Rattle.std.proofs.lemmas.List.Sums.{fold_push}
use Rattle.sa_ast.specs.declared.expr.Expr.{Expr}
use Rattle.sa_ast.specs.declared.expr.Expr.TheFolds.{map-Expr, map-ExprArg, map-ExprReceiver, fold-roll-Expr, fold-roll-ExprArg, fold-roll-ExprReceiver}
use Rattle.sa_ast.specs.declared.expr.Expr.TheOpen.{Expr-F, ExprArg-F, ExprReceiver-F}
use Rattle.sa_ast.specs.declared.expr.Expr.TheVariants as e
use Rattle.sa_ast.specs.declared.expr.Expr.TheViews.{roll-Expr, roll-ExprArg, roll-ExprReceiver, out-roll-ExprArg}
use Rattle.sa_ast.specs.declared.expr.ExprArg.{ExprArg}
use Rattle.sa_ast.specs.declared.expr.ExprArg.TheVariants as g
use Rattle.sa_ast.specs.declared.expr.Operator.{Operator}
use Rattle.sa_ast.specs.declared.expr.ExprReceiver.{ExprReceiver}
use Rattle.sa_ast.specs.declared.expr.ExprReceiver.TheVariants as r
use Rattle.sa_ast.specs.declared.pos.Pos.{Pos}
use Rattle.sa_ast.specs.declared.stmt.Stmt.{Stmt}
use Rattle.sa_ast.specs.declared.ty.Mode.{Mode}
use Rattle.sa_ast.specs.declared.ty.Ty.{Ty}
use Rattle.sa_contracts.specs.InitialValues.{Taking, each, expr_level, argument_level, receiver_level, taking, taking_argument, taking_receiver, value_level, value_in, value_of, call_replaced, call_declared}
use Rattle.sa_contracts.specs.InitialValues.{replaced, replaced_argument, replaced_receiver, replaced_exprs, replaced_arguments, replaced_option}
use Rattle.sa_contracts.specs.InitialValues.{declared_by, declared_by_argument, declared_by_receiver, declared_by_exprs, declared_by_arguments, declared_by_option}

taking-roll : (x : Expr-F Expr ExprArg ExprReceiver) → taking (roll-Expr x) ≡ expr_level (map-Expr Expr ExprArg ExprReceiver (Taking Expr) (Taking ExprArg) (Taking ExprReceiver) taking taking_argument taking_receiver x)
unfolding taking taking_argument taking_receiver
taking-roll x = fold-roll-Expr (Taking Expr) (Taking ExprArg) (Taking ExprReceiver) expr_level argument_level receiver_level x

argument-roll : (x : ExprArg-F Expr ExprArg ExprReceiver) → taking_argument (roll-ExprArg x) ≡ argument_level (map-ExprArg Expr ExprArg ExprReceiver (Taking Expr) (Taking ExprArg) (Taking ExprReceiver) taking taking_argument taking_receiver x)
unfolding taking taking_argument taking_receiver
argument-roll x = fold-roll-ExprArg (Taking Expr) (Taking ExprArg) (Taking ExprReceiver) expr_level argument_level receiver_level x

receiver-roll : (x : ExprReceiver-F Expr ExprArg ExprReceiver) → taking_receiver (roll-ExprReceiver x) ≡ receiver_level (map-ExprReceiver Expr ExprArg ExprReceiver (Taking Expr) (Taking ExprArg) (Taking ExprReceiver) taking taking_argument taking_receiver x)
unfolding taking taking_argument taking_receiver
receiver-roll x = fold-roll-ExprReceiver (Taking Expr) (Taking ExprArg) (Taking ExprReceiver) expr_level argument_level receiver_level x

pub replaced-Int : (value : ℕ) (pos : Pos) (before : List Stmt) → replaced (e.Int value pos) before ≡ e.Int value pos
unfolding replaced replaced_argument replaced_receiver replaced_exprs replaced_arguments replaced_option declared_by declared_by_argument declared_by_receiver declared_by_exprs declared_by_arguments declared_by_option
replaced-Int value pos before =
    ap (λ (k : Taking Expr). (k before).0) (ap taking (sym (e.rolls-Int value pos)) ∙ taking-roll (Expr-F.Int value pos))

pub declared_by-Int : (value : ℕ) (pos : Pos) (before : List Stmt) → declared_by (e.Int value pos) before ≡ before
unfolding replaced replaced_argument replaced_receiver replaced_exprs replaced_arguments replaced_option declared_by declared_by_argument declared_by_receiver declared_by_exprs declared_by_arguments declared_by_option
declared_by-Int value pos before =
    ap (λ (k : Taking Expr). (k before).1) (ap taking (sym (e.rolls-Int value pos)) ∙ taking-roll (Expr-F.Int value pos))

pub replaced-Bool : (value : Bool) (pos : Pos) (before : List Stmt) → replaced (e.Bool value pos) before ≡ e.Bool value pos
unfolding replaced replaced_argument replaced_receiver replaced_exprs replaced_arguments replaced_option declared_by declared_by_argument declared_by_receiver declared_by_exprs declared_by_arguments declared_by_option
replaced-Bool value pos before =
    ap (λ (k : Taking Expr). (k before).0) (ap taking (sym (e.rolls-Bool value pos)) ∙ taking-roll (Expr-F.Bool value pos))

pub declared_by-Bool : (value : Bool) (pos : Pos) (before : List Stmt) → declared_by (e.Bool value pos) before ≡ before
unfolding replaced replaced_argument replaced_receiver replaced_exprs replaced_arguments replaced_option declared_by declared_by_argument declared_by_receiver declared_by_exprs declared_by_arguments declared_by_option
declared_by-Bool value pos before =
    ap (λ (k : Taking Expr). (k before).1) (ap taking (sym (e.rolls-Bool value pos)) ∙ taking-roll (Expr-F.Bool value pos))

pub replaced-Char : (value : ℕ) (pos : Pos) (before : List Stmt) → replaced (e.Char value pos) before ≡ e.Char value pos
unfolding replaced replaced_argument replaced_receiver replaced_exprs replaced_arguments replaced_option declared_by declared_by_argument declared_by_receiver declared_by_exprs declared_by_arguments declared_by_option
replaced-Char value pos before =
    ap (λ (k : Taking Expr). (k before).0) (ap taking (sym (e.rolls-Char value pos)) ∙ taking-roll (Expr-F.Char value pos))

pub declared_by-Char : (value : ℕ) (pos : Pos) (before : List Stmt) → declared_by (e.Char value pos) before ≡ before
unfolding replaced replaced_argument replaced_receiver replaced_exprs replaced_arguments replaced_option declared_by declared_by_argument declared_by_receiver declared_by_exprs declared_by_arguments declared_by_option
declared_by-Char value pos before =
    ap (λ (k : Taking Expr). (k before).1) (ap taking (sym (e.rolls-Char value pos)) ∙ taking-roll (Expr-F.Char value pos))

pub replaced-Text : (text : List ℕ) (pos : Pos) (before : List Stmt) → replaced (e.Text text pos) before ≡ e.Text text pos
unfolding replaced replaced_argument replaced_receiver replaced_exprs replaced_arguments replaced_option declared_by declared_by_argument declared_by_receiver declared_by_exprs declared_by_arguments declared_by_option
replaced-Text text pos before =
    ap (λ (k : Taking Expr). (k before).0) (ap taking (sym (e.rolls-Text text pos)) ∙ taking-roll (Expr-F.Text text pos))

pub declared_by-Text : (text : List ℕ) (pos : Pos) (before : List Stmt) → declared_by (e.Text text pos) before ≡ before
unfolding replaced replaced_argument replaced_receiver replaced_exprs replaced_arguments replaced_option declared_by declared_by_argument declared_by_receiver declared_by_exprs declared_by_arguments declared_by_option
declared_by-Text text pos before =
    ap (λ (k : Taking Expr). (k before).1) (ap taking (sym (e.rolls-Text text pos)) ∙ taking-roll (Expr-F.Text text pos))

pub replaced-Me : (pos : Pos) (before : List Stmt) → replaced (e.SelfRef pos) before ≡ e.SelfRef pos
unfolding replaced replaced_argument replaced_receiver replaced_exprs replaced_arguments replaced_option declared_by declared_by_argument declared_by_receiver declared_by_exprs declared_by_arguments declared_by_option
replaced-Me pos before =
    ap (λ (k : Taking Expr). (k before).0) (ap taking (sym (e.rolls-SelfRef pos)) ∙ taking-roll (Expr-F.SelfRef pos))

pub declared_by-Me : (pos : Pos) (before : List Stmt) → declared_by (e.SelfRef pos) before ≡ before
unfolding replaced replaced_argument replaced_receiver replaced_exprs replaced_arguments replaced_option declared_by declared_by_argument declared_by_receiver declared_by_exprs declared_by_arguments declared_by_option
declared_by-Me pos before =
    ap (λ (k : Taking Expr). (k before).1) (ap taking (sym (e.rolls-SelfRef pos)) ∙ taking-roll (Expr-F.SelfRef pos))

pub replaced-Void : (pos : Pos) (before : List Stmt) → replaced (e.Void pos) before ≡ e.Void pos
unfolding replaced replaced_argument replaced_receiver replaced_exprs replaced_arguments replaced_option declared_by declared_by_argument declared_by_receiver declared_by_exprs declared_by_arguments declared_by_option
replaced-Void pos before =
    ap (λ (k : Taking Expr). (k before).0) (ap taking (sym (e.rolls-Void pos)) ∙ taking-roll (Expr-F.Void pos))

pub declared_by-Void : (pos : Pos) (before : List Stmt) → declared_by (e.Void pos) before ≡ before
unfolding replaced replaced_argument replaced_receiver replaced_exprs replaced_arguments replaced_option declared_by declared_by_argument declared_by_receiver declared_by_exprs declared_by_arguments declared_by_option
declared_by-Void pos before =
    ap (λ (k : Taking Expr). (k before).1) (ap taking (sym (e.rolls-Void pos)) ∙ taking-roll (Expr-F.Void pos))

pub replaced-Exception : (pos : Pos) (before : List Stmt) → replaced (e.Exception pos) before ≡ e.Exception pos
unfolding replaced replaced_argument replaced_receiver replaced_exprs replaced_arguments replaced_option declared_by declared_by_argument declared_by_receiver declared_by_exprs declared_by_arguments declared_by_option
replaced-Exception pos before =
    ap (λ (k : Taking Expr). (k before).0) (ap taking (sym (e.rolls-Exception pos)) ∙ taking-roll (Expr-F.Exception pos))

pub declared_by-Exception : (pos : Pos) (before : List Stmt) → declared_by (e.Exception pos) before ≡ before
unfolding replaced replaced_argument replaced_receiver replaced_exprs replaced_arguments replaced_option declared_by declared_by_argument declared_by_receiver declared_by_exprs declared_by_arguments declared_by_option
declared_by-Exception pos before =
    ap (λ (k : Taking Expr). (k before).1) (ap taking (sym (e.rolls-Exception pos)) ∙ taking-roll (Expr-F.Exception pos))

pub replaced-IsVoid : (tested : Expr) (pos : Pos) (before : List Stmt) → replaced (e.IsVoid tested pos) before ≡ e.IsVoid (replaced tested before) pos
unfolding replaced replaced_argument replaced_receiver replaced_exprs replaced_arguments replaced_option declared_by declared_by_argument declared_by_receiver declared_by_exprs declared_by_arguments declared_by_option
replaced-IsVoid tested pos before =
    ap (λ (k : Taking Expr). (k before).0) (ap taking (sym (e.rolls-IsVoid tested pos)) ∙ taking-roll (Expr-F.IsVoid tested pos))

pub declared_by-IsVoid : (tested : Expr) (pos : Pos) (before : List Stmt) → declared_by (e.IsVoid tested pos) before ≡ declared_by tested before
unfolding replaced replaced_argument replaced_receiver replaced_exprs replaced_arguments replaced_option declared_by declared_by_argument declared_by_receiver declared_by_exprs declared_by_arguments declared_by_option
declared_by-IsVoid tested pos before =
    ap (λ (k : Taking Expr). (k before).1) (ap taking (sym (e.rolls-IsVoid tested pos)) ∙ taking-roll (Expr-F.IsVoid tested pos))

pub replaced-New : (count : Option Expr) (pos : Pos) (before : List Stmt) → replaced (e.New count pos) before ≡ e.New (replaced_option count before) pos
unfolding replaced replaced_argument replaced_receiver replaced_exprs replaced_arguments replaced_option declared_by declared_by_argument declared_by_receiver declared_by_exprs declared_by_arguments declared_by_option
replaced-New None pos before =
    ap (λ (k : Taking Expr). (k before).0) (ap taking (sym (e.rolls-New None pos)) ∙ taking-roll (Expr-F.New None pos))
replaced-New (Some inside) pos before =
    ap (λ (k : Taking Expr). (k before).0) (ap taking (sym (e.rolls-New (Some inside) pos)) ∙ taking-roll (Expr-F.New (Some inside) pos))

pub declared_by-New : (count : Option Expr) (pos : Pos) (before : List Stmt) → declared_by (e.New count pos) before ≡ declared_by_option count before
unfolding replaced replaced_argument replaced_receiver replaced_exprs replaced_arguments replaced_option declared_by declared_by_argument declared_by_receiver declared_by_exprs declared_by_arguments declared_by_option
declared_by-New None pos before =
    ap (λ (k : Taking Expr). (k before).1) (ap taking (sym (e.rolls-New None pos)) ∙ taking-roll (Expr-F.New None pos))
declared_by-New (Some inside) pos before =
    ap (λ (k : Taking Expr). (k before).1) (ap taking (sym (e.rolls-New (Some inside) pos)) ∙ taking-roll (Expr-F.New (Some inside) pos))

pub replaced-Create : (ty : Option Ty) (arguments : List ExprArg) (pos : Pos) (before : List Stmt) → replaced (e.Create ty arguments pos) before ≡ e.Create ty (replaced_arguments arguments before) pos
unfolding replaced replaced_argument replaced_receiver replaced_exprs replaced_arguments replaced_option declared_by declared_by_argument declared_by_receiver declared_by_exprs declared_by_arguments declared_by_option
replaced-Create ty arguments pos before =
    ap (λ (k : Taking Expr). (k before).0) (ap taking (sym (e.rolls-Create ty arguments pos)) ∙ taking-roll (Expr-F.Create ty arguments pos))

pub declared_by-Create : (ty : Option Ty) (arguments : List ExprArg) (pos : Pos) (before : List Stmt) → declared_by (e.Create ty arguments pos) before ≡ declared_by_arguments arguments before
unfolding replaced replaced_argument replaced_receiver replaced_exprs replaced_arguments replaced_option declared_by declared_by_argument declared_by_receiver declared_by_exprs declared_by_arguments declared_by_option
declared_by-Create ty arguments pos before =
    ap (λ (k : Taking Expr). (k before).1) (ap taking (sym (e.rolls-Create ty arguments pos)) ∙ taking-roll (Expr-F.Create ty arguments pos))

pub replaced-Items : (items : List Expr) (pos : Pos) (before : List Stmt) → replaced (e.Items items pos) before ≡ e.Items (replaced_exprs items before) pos
unfolding replaced replaced_argument replaced_receiver replaced_exprs replaced_arguments replaced_option declared_by declared_by_argument declared_by_receiver declared_by_exprs declared_by_arguments declared_by_option
replaced-Items items pos before =
    ap (λ (k : Taking Expr). (k before).0) (ap taking (sym (e.rolls-Items items pos)) ∙ taking-roll (Expr-F.Items items pos))

pub declared_by-Items : (items : List Expr) (pos : Pos) (before : List Stmt) → declared_by (e.Items items pos) before ≡ declared_by_exprs items before
unfolding replaced replaced_argument replaced_receiver replaced_exprs replaced_arguments replaced_option declared_by declared_by_argument declared_by_receiver declared_by_exprs declared_by_arguments declared_by_option
declared_by-Items items pos before =
    ap (λ (k : Taking Expr). (k before).1) (ap taking (sym (e.rolls-Items items pos)) ∙ taking-roll (Expr-F.Items items pos))

pub replaced-Call : (on : ExprReceiver) (name : List ℕ) (arguments : List ExprArg) (pos : Pos) (before : List Stmt) → replaced (e.Call on name arguments pos) before ≡ call_replaced name (replaced_receiver on before) (replaced_arguments arguments (declared_by_receiver on before)) pos (length (declared_by_arguments arguments (declared_by_receiver on before)))
unfolding replaced replaced_argument replaced_receiver replaced_exprs replaced_arguments replaced_option declared_by declared_by_argument declared_by_receiver declared_by_exprs declared_by_arguments declared_by_option
replaced-Call on name arguments pos before =
    ap (λ (k : Taking Expr). (k before).0) (ap taking (sym (e.rolls-Call on name arguments pos)) ∙ taking-roll (Expr-F.Call on name arguments pos))

pub declared_by-Call : (on : ExprReceiver) (name : List ℕ) (arguments : List ExprArg) (pos : Pos) (before : List Stmt) → declared_by (e.Call on name arguments pos) before ≡ call_declared name (replaced_arguments arguments (declared_by_receiver on before)) pos (declared_by_arguments arguments (declared_by_receiver on before))
unfolding replaced replaced_argument replaced_receiver replaced_exprs replaced_arguments replaced_option declared_by declared_by_argument declared_by_receiver declared_by_exprs declared_by_arguments declared_by_option
declared_by-Call on name arguments pos before =
    ap (λ (k : Taking Expr). (k before).1) (ap taking (sym (e.rolls-Call on name arguments pos)) ∙ taking-roll (Expr-F.Call on name arguments pos))

pub replaced-Binary : (op : Operator) (left right : Expr) (pos : Pos) (before : List Stmt) → replaced (e.Binary op left right pos) before ≡ e.Binary op (replaced left before) (replaced right (declared_by left before)) pos
unfolding replaced replaced_argument replaced_receiver replaced_exprs replaced_arguments replaced_option declared_by declared_by_argument declared_by_receiver declared_by_exprs declared_by_arguments declared_by_option
replaced-Binary op left right pos before =
    ap (λ (k : Taking Expr). (k before).0) (ap taking (sym (e.rolls-Binary op left right pos)) ∙ taking-roll (Expr-F.Binary op left right pos))

pub declared_by-Binary : (op : Operator) (left right : Expr) (pos : Pos) (before : List Stmt) → declared_by (e.Binary op left right pos) before ≡ declared_by right (declared_by left before)
unfolding replaced replaced_argument replaced_receiver replaced_exprs replaced_arguments replaced_option declared_by declared_by_argument declared_by_receiver declared_by_exprs declared_by_arguments declared_by_option
declared_by-Binary op left right pos before =
    ap (λ (k : Taking Expr). (k before).1) (ap taking (sym (e.rolls-Binary op left right pos)) ∙ taking-roll (Expr-F.Binary op left right pos))

pub replaced-Unary : (op : Operator) (of : Expr) (pos : Pos) (before : List Stmt) → replaced (e.Unary op of pos) before ≡ e.Unary op (replaced of before) pos
unfolding replaced replaced_argument replaced_receiver replaced_exprs replaced_arguments replaced_option declared_by declared_by_argument declared_by_receiver declared_by_exprs declared_by_arguments declared_by_option
replaced-Unary op of pos before =
    ap (λ (k : Taking Expr). (k before).0) (ap taking (sym (e.rolls-Unary op of pos)) ∙ taking-roll (Expr-F.Unary op of pos))

pub declared_by-Unary : (op : Operator) (of : Expr) (pos : Pos) (before : List Stmt) → declared_by (e.Unary op of pos) before ≡ declared_by of before
unfolding replaced replaced_argument replaced_receiver replaced_exprs replaced_arguments replaced_option declared_by declared_by_argument declared_by_receiver declared_by_exprs declared_by_arguments declared_by_option
declared_by-Unary op of pos before =
    ap (λ (k : Taking Expr). (k before).1) (ap taking (sym (e.rolls-Unary op of pos)) ∙ taking-roll (Expr-F.Unary op of pos))

pub replaced-Index : (of : Option Expr) (at : List Expr) (pos : Pos) (before : List Stmt) → replaced (e.Index of at pos) before ≡ e.Index (replaced_option of before) (replaced_exprs at (declared_by_option of before)) pos
unfolding replaced replaced_argument replaced_receiver replaced_exprs replaced_arguments replaced_option declared_by declared_by_argument declared_by_receiver declared_by_exprs declared_by_arguments declared_by_option
replaced-Index None at pos before =
    ap (λ (k : Taking Expr). (k before).0) (ap taking (sym (e.rolls-Index None at pos)) ∙ taking-roll (Expr-F.Index None at pos))
replaced-Index (Some inside) at pos before =
    ap (λ (k : Taking Expr). (k before).0) (ap taking (sym (e.rolls-Index (Some inside) at pos)) ∙ taking-roll (Expr-F.Index (Some inside) at pos))

pub declared_by-Index : (of : Option Expr) (at : List Expr) (pos : Pos) (before : List Stmt) → declared_by (e.Index of at pos) before ≡ declared_by_exprs at (declared_by_option of before)
unfolding replaced replaced_argument replaced_receiver replaced_exprs replaced_arguments replaced_option declared_by declared_by_argument declared_by_receiver declared_by_exprs declared_by_arguments declared_by_option
declared_by-Index None at pos before =
    ap (λ (k : Taking Expr). (k before).1) (ap taking (sym (e.rolls-Index None at pos)) ∙ taking-roll (Expr-F.Index None at pos))
declared_by-Index (Some inside) at pos before =
    ap (λ (k : Taking Expr). (k before).1) (ap taking (sym (e.rolls-Index (Some inside) at pos)) ∙ taking-roll (Expr-F.Index (Some inside) at pos))

-- the parts of an element are done one after the other
pub index-taken : (form : Expr) (of put : Option Expr) (at inside : List Expr) (pos : Pos) (before after : List Stmt) → form ≡ e.Index of at pos → put ≡ replaced_option of before → after ≡ declared_by_option of before → inside ≡ at → e.Index put (replaced_exprs inside after) pos ≡ replaced form before
index-taken form of put at inside pos before after is taken declared same =
    ap (λ (d : Option Expr). e.Index d (replaced_exprs inside after) pos) taken
    ∙ ap (λ (a : List Stmt). e.Index (replaced_option of before) (replaced_exprs inside a) pos) declared
    ∙ ap (λ (xs : List Expr). e.Index (replaced_option of before) (replaced_exprs xs (declared_by_option of before)) pos) same
    ∙ sym (replaced-Index of at pos before)
    ∙ ap (λ (f : Expr). replaced f before) (sym is)

pub replaced-Bind : (call : Expr) (pos : Pos) (before : List Stmt) → replaced (e.Bind call pos) before ≡ e.Bind (replaced call before) pos
unfolding replaced replaced_argument replaced_receiver replaced_exprs replaced_arguments replaced_option declared_by declared_by_argument declared_by_receiver declared_by_exprs declared_by_arguments declared_by_option
replaced-Bind call pos before =
    ap (λ (k : Taking Expr). (k before).0) (ap taking (sym (e.rolls-Bind call pos)) ∙ taking-roll (Expr-F.Bind call pos))

pub declared_by-Bind : (call : Expr) (pos : Pos) (before : List Stmt) → declared_by (e.Bind call pos) before ≡ declared_by call before
unfolding replaced replaced_argument replaced_receiver replaced_exprs replaced_arguments replaced_option declared_by declared_by_argument declared_by_receiver declared_by_exprs declared_by_arguments declared_by_option
declared_by-Bind call pos before =
    ap (λ (k : Taking Expr). (k before).1) (ap taking (sym (e.rolls-Bind call pos)) ∙ taking-roll (Expr-F.Bind call pos))

pub replaced_argument-Value : (mode : Mode) (value : Expr) (before : List Stmt) → replaced_argument (g.Value mode value) before ≡ g.Value mode (replaced value before)
unfolding replaced replaced_argument replaced_receiver replaced_exprs replaced_arguments replaced_option declared_by declared_by_argument declared_by_receiver declared_by_exprs declared_by_arguments declared_by_option
replaced_argument-Value mode value before =
    ap (λ (k : Taking ExprArg). (k before).0) (ap taking_argument (sym (g.rolls-Value mode value)) ∙ argument-roll (ExprArg-F.Value mode value))

pub declared_by_argument-Value : (mode : Mode) (value : Expr) (before : List Stmt) → declared_by_argument (g.Value mode value) before ≡ declared_by value before
unfolding replaced replaced_argument replaced_receiver replaced_exprs replaced_arguments replaced_option declared_by declared_by_argument declared_by_receiver declared_by_exprs declared_by_arguments declared_by_option
declared_by_argument-Value mode value before =
    ap (λ (k : Taking ExprArg). (k before).1) (ap taking_argument (sym (g.rolls-Value mode value)) ∙ argument-roll (ExprArg-F.Value mode value))

pub replaced_argument-Left : (ty : Option Ty) (pos : Pos) (before : List Stmt) → replaced_argument (g.Unbound ty pos) before ≡ g.Unbound ty pos
unfolding replaced replaced_argument replaced_receiver replaced_exprs replaced_arguments replaced_option declared_by declared_by_argument declared_by_receiver declared_by_exprs declared_by_arguments declared_by_option
replaced_argument-Left ty pos before =
    ap (λ (k : Taking ExprArg). (k before).0) (ap taking_argument (sym (g.rolls-Unbound ty pos)) ∙ argument-roll (ExprArg-F.Unbound ty pos))

pub declared_by_argument-Left : (ty : Option Ty) (pos : Pos) (before : List Stmt) → declared_by_argument (g.Unbound ty pos) before ≡ before
unfolding replaced replaced_argument replaced_receiver replaced_exprs replaced_arguments replaced_option declared_by declared_by_argument declared_by_receiver declared_by_exprs declared_by_arguments declared_by_option
declared_by_argument-Left ty pos before =
    ap (λ (k : Taking ExprArg). (k before).1) (ap taking_argument (sym (g.rolls-Unbound ty pos)) ∙ argument-roll (ExprArg-F.Unbound ty pos))

pub replaced_receiver-Implied : (before : List Stmt) → replaced_receiver r.Implied before ≡ r.Implied
unfolding replaced replaced_argument replaced_receiver replaced_exprs replaced_arguments replaced_option declared_by declared_by_argument declared_by_receiver declared_by_exprs declared_by_arguments declared_by_option
replaced_receiver-Implied before =
    ap (λ (k : Taking ExprReceiver). (k before).0) (ap taking_receiver (sym r.rolls-Implied) ∙ receiver-roll ExprReceiver-F.Implied)

pub declared_by_receiver-Implied : (before : List Stmt) → declared_by_receiver r.Implied before ≡ before
unfolding replaced replaced_argument replaced_receiver replaced_exprs replaced_arguments replaced_option declared_by declared_by_argument declared_by_receiver declared_by_exprs declared_by_arguments declared_by_option
declared_by_receiver-Implied before =
    ap (λ (k : Taking ExprReceiver). (k before).1) (ap taking_receiver (sym r.rolls-Implied) ∙ receiver-roll ExprReceiver-F.Implied)

pub replaced_receiver-Of : (of : Expr) (before : List Stmt) → replaced_receiver (r.Of of) before ≡ r.Of (replaced of before)
unfolding replaced replaced_argument replaced_receiver replaced_exprs replaced_arguments replaced_option declared_by declared_by_argument declared_by_receiver declared_by_exprs declared_by_arguments declared_by_option
replaced_receiver-Of of before =
    ap (λ (k : Taking ExprReceiver). (k before).0) (ap taking_receiver (sym (r.rolls-Of of)) ∙ receiver-roll (ExprReceiver-F.Of of))

pub declared_by_receiver-Of : (of : Expr) (before : List Stmt) → declared_by_receiver (r.Of of) before ≡ declared_by of before
unfolding replaced replaced_argument replaced_receiver replaced_exprs replaced_arguments replaced_option declared_by declared_by_argument declared_by_receiver declared_by_exprs declared_by_arguments declared_by_option
declared_by_receiver-Of of before =
    ap (λ (k : Taking ExprReceiver). (k before).1) (ap taking_receiver (sym (r.rolls-Of of)) ∙ receiver-roll (ExprReceiver-F.Of of))

pub replaced_receiver-OfClass : (ty : Ty) (before : List Stmt) → replaced_receiver (r.OfClass ty) before ≡ r.OfClass ty
unfolding replaced replaced_argument replaced_receiver replaced_exprs replaced_arguments replaced_option declared_by declared_by_argument declared_by_receiver declared_by_exprs declared_by_arguments declared_by_option
replaced_receiver-OfClass ty before =
    ap (λ (k : Taking ExprReceiver). (k before).0) (ap taking_receiver (sym (r.rolls-OfClass ty)) ∙ receiver-roll (ExprReceiver-F.OfClass ty))

pub declared_by_receiver-OfClass : (ty : Ty) (before : List Stmt) → declared_by_receiver (r.OfClass ty) before ≡ before
unfolding replaced replaced_argument replaced_receiver replaced_exprs replaced_arguments replaced_option declared_by declared_by_argument declared_by_receiver declared_by_exprs declared_by_arguments declared_by_option
declared_by_receiver-OfClass ty before =
    ap (λ (k : Taking ExprReceiver). (k before).1) (ap taking_receiver (sym (r.rolls-OfClass ty)) ∙ receiver-roll (ExprReceiver-F.OfClass ty))

pub replaced_option-None : (before : List Stmt) → replaced_option None before ≡ None
unfolding replaced_option
replaced_option-None before = refl

pub replaced_option-Some : (of : Expr) (before : List Stmt) → replaced_option (Some of) before ≡ Some (replaced of before)
unfolding replaced_option replaced
replaced_option-Some of before = refl

pub declared_by_option-None : (before : List Stmt) → declared_by_option None before ≡ before
unfolding declared_by_option
declared_by_option-None before = refl

pub declared_by_option-Some : (of : Expr) (before : List Stmt) → declared_by_option (Some of) before ≡ declared_by of before
unfolding declared_by_option declared_by
declared_by_option-Some of before = refl

-- ---- lists of forms, from the first on

each-snoc : (A : Type 0) (forms : List (Taking A)) (form : Taking A) (before : List Stmt) → each (forms ++ form ∷ []) before ≡ ((each forms before).0 ++ (form (each forms before).1).0 ∷ [], (form (each forms before).1).1)
each-snoc A [] form before = refl
each-snoc A (first ∷ more) form before =
    ap (λ (taken : List A × List Stmt). ((first before).0 ∷ taken.0, taken.1)) (each-snoc A more form (first before).1)

each-more : (A X : Type 0) (f : X → Taking A) (list : List X) (i : ℕ) (x : X) (before : List Stmt) → i < length list → each (map f (take (i + 1) list)) before ≡ ((each (map f (take i list)) before).0 ++ (f (get_or list i x) (each (map f (take i list)) before).1).0 ∷ [], (f (get_or list i x) (each (map f (take i list)) before).1).1)
each-more A X f list i x before within =
    ap (λ (forms : List (Taking A)). each forms before) (map_more f list i x within) ∙ each-snoc A (map f (take i list)) (f (get_or list i x)) before

pub replaced_exprs-more : (list : List Expr) (i : ℕ) (x : Expr) (before : List Stmt) → i < length list → replaced_exprs (take (i + 1) list) before ≡ replaced_exprs (take i list) before ++ replaced (get_or list i x) (declared_by_exprs (take i list) before) ∷ []
unfolding replaced replaced_argument replaced_receiver replaced_exprs replaced_arguments replaced_option declared_by declared_by_argument declared_by_receiver declared_by_exprs declared_by_arguments declared_by_option
replaced_exprs-more list i x before within = ap (λ (taken : List Expr × List Stmt). taken.0) (each-more Expr Expr taking list i x before within)

pub replaced_exprs-none : (before : List Stmt) → replaced_exprs [] before ≡ []
unfolding replaced_exprs
replaced_exprs-none before = refl

pub declared_by_exprs-more : (list : List Expr) (i : ℕ) (x : Expr) (before : List Stmt) → i < length list → declared_by_exprs (take (i + 1) list) before ≡ declared_by (get_or list i x) (declared_by_exprs (take i list) before)
unfolding replaced replaced_argument replaced_receiver replaced_exprs replaced_arguments replaced_option declared_by declared_by_argument declared_by_receiver declared_by_exprs declared_by_arguments declared_by_option
declared_by_exprs-more list i x before within = ap (λ (taken : List Expr × List Stmt). taken.1) (each-more Expr Expr taking list i x before within)

pub declared_by_exprs-none : (before : List Stmt) → declared_by_exprs [] before ≡ before
unfolding declared_by_exprs
declared_by_exprs-none before = refl

pub replaced_arguments-more : (list : List ExprArg) (i : ℕ) (x : ExprArg) (before : List Stmt) → i < length list → replaced_arguments (take (i + 1) list) before ≡ replaced_arguments (take i list) before ++ replaced_argument (get_or list i x) (declared_by_arguments (take i list) before) ∷ []
unfolding replaced replaced_argument replaced_receiver replaced_exprs replaced_arguments replaced_option declared_by declared_by_argument declared_by_receiver declared_by_exprs declared_by_arguments declared_by_option
replaced_arguments-more list i x before within = ap (λ (taken : List ExprArg × List Stmt). taken.0) (each-more ExprArg ExprArg taking_argument list i x before within)

pub replaced_arguments-none : (before : List Stmt) → replaced_arguments [] before ≡ []
unfolding replaced_arguments
replaced_arguments-none before = refl

pub declared_by_arguments-more : (list : List ExprArg) (i : ℕ) (x : ExprArg) (before : List Stmt) → i < length list → declared_by_arguments (take (i + 1) list) before ≡ declared_by_argument (get_or list i x) (declared_by_arguments (take i list) before)
unfolding replaced replaced_argument replaced_receiver replaced_exprs replaced_arguments replaced_option declared_by declared_by_argument declared_by_receiver declared_by_exprs declared_by_arguments declared_by_option
declared_by_arguments-more list i x before within = ap (λ (taken : List ExprArg × List Stmt). taken.1) (each-more ExprArg ExprArg taking_argument list i x before within)

pub declared_by_arguments-none : (before : List Stmt) → declared_by_arguments [] before ≡ before
unfolding declared_by_arguments
declared_by_arguments-none before = refl

pub ruleset forms = (replaced-Int, declared_by-Int, replaced-Bool, declared_by-Bool, replaced-Char, declared_by-Char, replaced-Text, declared_by-Text, replaced-Me, declared_by-Me, replaced-Void, declared_by-Void, replaced-Exception, declared_by-Exception, replaced-IsVoid, declared_by-IsVoid, replaced-New, declared_by-New, replaced-Create, declared_by-Create, replaced-Items, declared_by-Items, replaced-Call, declared_by-Call, replaced-Binary, declared_by-Binary, replaced-Unary, declared_by-Unary, replaced-Index, declared_by-Index, replaced-Bind, declared_by-Bind)

pub ruleset argument = (replaced_argument-Value, declared_by_argument-Value, replaced_argument-Left, declared_by_argument-Left)

pub ruleset receivers = (replaced_receiver-Implied, declared_by_receiver-Implied, replaced_receiver-Of, declared_by_receiver-Of, replaced_receiver-OfClass, declared_by_receiver-OfClass)

pub ruleset options = (replaced_option-None, replaced_option-Some, declared_by_option-None, declared_by_option-Some)

pub ruleset exprs = (replaced_exprs-more, replaced_exprs-none, declared_by_exprs-more, declared_by_exprs-none)

pub ruleset arguments = (replaced_arguments-more, replaced_arguments-none, declared_by_arguments-more, declared_by_arguments-none)

-- ---- the value of the last argument

value_in-roll : (x : ExprArg-F Expr ExprArg ExprReceiver) → value_in (roll-ExprArg x) ≡ value_level x
unfolding value_in
value_in-roll x = ap value_level (out-roll-ExprArg x)

pub value_in-Value : (mode : Mode) (value : Expr) → value_in (g.Value mode value) ≡ Some value
value_in-Value mode value = ap value_in (sym (g.rolls-Value mode value)) ∙ value_in-roll (ExprArg-F.Value mode value)

pub value_in-Left : (ty : Option Ty) (pos : Pos) → value_in (g.Unbound ty pos) ≡ None
value_in-Left ty pos = ap value_in (sym (g.rolls-Unbound ty pos)) ∙ value_in-roll (ExprArg-F.Unbound ty pos)

pub value_of-last : (before : List ExprArg) (last : ExprArg) → value_of (before ++ last ∷ []) ≡ value_in last
value_of-last before last = fold_push (λ found argument. value_in argument) None before last

pub ruleset values = (value_in-Value, value_in-Left, value_of-last)
