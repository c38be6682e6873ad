-- A `post` with a variable in place of each `initial`, and the declarations of these variables, in the order of the text.
use Rattle.std.specs.Prelude.{ℕ, List, [], ◌∷◌, ◌++◌, length, map, fold, Option, None, Some, if◌then◌else◌}
use Rattle.std.specs.Prelude.{codes, decimal, nat_eq}
use Rattle.std.specs.Cmp.Lexicographic.{pointwise}
use Rattle.std.specs.Option.{option_map}
use Rattle.sa_ast.specs.declared.expr.Expr.{Expr}
use Rattle.sa_ast.specs.declared.expr.Expr.TheFolds.{fold-Expr, fold-ExprArg, fold-ExprReceiver}
use Rattle.sa_ast.specs.declared.expr.Expr.TheOpen.{Expr-F, ExprArg-F, ExprReceiver-F}
use Rattle.sa_ast.specs.declared.expr.Expr.TheVariants as e
use Rattle.sa_ast.specs.declared.expr.Expr.TheViews.{out-ExprArg}
use Rattle.sa_ast.specs.declared.expr.ExprArg.{ExprArg}
use Rattle.sa_ast.specs.declared.expr.ExprArg.TheVariants as g
use Rattle.sa_ast.specs.declared.expr.ExprReceiver.{ExprReceiver}
use Rattle.sa_ast.specs.declared.expr.ExprReceiver.TheVariants as r
use Rattle.sa_ast.specs.declared.pos.Pos.{Pos}
use Rattle.sa_ast.specs.declared.stmt.Local.{Local}
use Rattle.sa_ast.specs.declared.stmt.Stmt.{Stmt}
use Rattle.sa_ast.specs.declared.stmt.Stmt.TheVariants as s

-- ---- the variable of an `initial`

abbrev pub initial_word : List ℕ
initial_word = codes "initial"

-- the name of the variable with this number, which no source can spell
abbrev pub variable_name : ℕ → List ℕ
variable_name number = codes "initial!" ++ decimal number

abbrev pub variable_local : ℕ → Pos → Local
variable_local number pos = record { name = variable_name number; pos = pos }

-- the variable as it is read
abbrev pub variable_read : ℕ → Pos → Expr
variable_read number pos = e.Call r.Implied (variable_name number) [] pos

-- the variable is declared with the value
abbrev pub variable_declared : ℕ → Option Expr → Pos → Stmt
variable_declared number value pos = s.Declare (variable_local number pos ∷ []) None value

-- the value of an argument
abbrev pub value_level : ExprArg-F Expr ExprArg ExprReceiver → Option Expr
value_level (ExprArg-F.Value mode value) = Some value
value_level (ExprArg-F.Unbound ty pos) = None

unfoldable pub value_in : ExprArg → Option Expr
value_in argument = value_level (out-ExprArg argument)

-- the value of the last argument
abbrev pub value_of : List ExprArg → Option Expr
value_of arguments = fold (λ before argument. value_in argument) None arguments

-- ---- what replaces a form after declarations, and these declarations with the form's own after them

abbrev pub Taking : Type 0 → Type 0
Taking A = List Stmt → A × List Stmt

-- each of them, in order
abbrev pub each : {A : Type 0} → List (Taking A) → Taking (List A)
each [] before = ([], before)
each (first ∷ more) before =
    ((first before).0 ∷ (each more (first before).1).0, (each more (first before).1).1)

abbrev pub if_any : {A : Type 0} → Option (Taking A) → Taking (Option A)
if_any None before = (None, before)
if_any (Some form) before = (Some (form before).0, (form before).1)

-- a call of this name: in place of an `initial` the variable with this number, and else the call
abbrev pub call_replaced : List ℕ → ExprReceiver → List ExprArg → Pos → ℕ → Expr
call_replaced name on arguments pos number =
    if pointwise nat_eq name initial_word then variable_read number pos else e.Call on name arguments pos

-- an `initial` declares its variable, numbered by those before
abbrev pub call_declared : List ℕ → List ExprArg → Pos → List Stmt → List Stmt
call_declared name arguments pos before =
    if pointwise nat_eq name initial_word
    then before ++ variable_declared (length before) (value_of arguments) pos ∷ []
    else before

abbrev pub call_taken : List ℕ → ExprReceiver → List ExprArg → Pos → Taking Expr
call_taken name on arguments pos before =
    (call_replaced name on arguments pos (length before), call_declared name arguments pos before)

-- ---- one level of an expression, of an argument and of a receiver

abbrev pub expr_level : Expr-F (Taking Expr) (Taking ExprArg) (Taking ExprReceiver) → Taking Expr
expr_level (Expr-F.Int value pos) before = (e.Int value pos, before)
expr_level (Expr-F.Bool value pos) before = (e.Bool value pos, before)
expr_level (Expr-F.Char value pos) before = (e.Char value pos, before)
expr_level (Expr-F.Text text pos) before = (e.Text text pos, before)
expr_level (Expr-F.SelfRef pos) before = (e.SelfRef pos, before)
expr_level (Expr-F.Void pos) before = (e.Void pos, before)
expr_level (Expr-F.Exception pos) before = (e.Exception pos, before)
expr_level (Expr-F.IsVoid tested pos) before = (e.IsVoid (tested before).0 pos, (tested before).1)
expr_level (Expr-F.New count pos) before = (e.New (if_any count before).0 pos, (if_any count before).1)
expr_level (Expr-F.Create ty arguments pos) before =
    (e.Create ty (each arguments before).0 pos, (each arguments before).1)
expr_level (Expr-F.Items items pos) before = (e.Items (each items before).0 pos, (each items before).1)
expr_level (Expr-F.Call on name arguments pos) before =
    call_taken name (on before).0 (each arguments (on before).1).0 pos (each arguments (on before).1).1
expr_level (Expr-F.Binary op left right pos) before =
    (e.Binary op (left before).0 (right (left before).1).0 pos, (right (left before).1).1)
expr_level (Expr-F.Unary op of pos) before = (e.Unary op (of before).0 pos, (of before).1)
expr_level (Expr-F.Index of at pos) before =
    (e.Index (if_any of before).0 (each at (if_any of before).1).0 pos, (each at (if_any of before).1).1)
expr_level (Expr-F.Bind call pos) before = (e.Bind (call before).0 pos, (call before).1)

abbrev pub argument_level : ExprArg-F (Taking Expr) (Taking ExprArg) (Taking ExprReceiver) → Taking ExprArg
argument_level (ExprArg-F.Value mode value) before = (g.Value mode (value before).0, (value before).1)
argument_level (ExprArg-F.Unbound ty pos) before = (g.Unbound ty pos, before)

abbrev pub receiver_level : ExprReceiver-F (Taking Expr) (Taking ExprArg) (Taking ExprReceiver) → Taking ExprReceiver
receiver_level ExprReceiver-F.Implied before = (r.Implied, before)
receiver_level (ExprReceiver-F.Of of) before = (r.Of (of before).0, (of before).1)
receiver_level (ExprReceiver-F.OfClass ty) before = (r.OfClass ty, before)

unfoldable pub taking : Expr → Taking Expr
taking = fold-Expr (Taking Expr) (Taking ExprArg) (Taking ExprReceiver) expr_level argument_level receiver_level

unfoldable pub taking_argument : ExprArg → Taking ExprArg
taking_argument = fold-ExprArg (Taking Expr) (Taking ExprArg) (Taking ExprReceiver) expr_level argument_level receiver_level

unfoldable pub taking_receiver : ExprReceiver → Taking ExprReceiver
taking_receiver = fold-ExprReceiver (Taking Expr) (Taking ExprArg) (Taking ExprReceiver) expr_level argument_level receiver_level

-- ---- the form with a variable in place of each `initial`, where these declarations come before

unfoldable pub replaced : Expr → List Stmt → Expr
replaced form before = (taking form before).0

unfoldable pub replaced_argument : ExprArg → List Stmt → ExprArg
replaced_argument form before = (taking_argument form before).0

unfoldable pub replaced_receiver : ExprReceiver → List Stmt → ExprReceiver
replaced_receiver form before = (taking_receiver form before).0

unfoldable pub replaced_exprs : List Expr → List Stmt → List Expr
replaced_exprs list before = (each (map taking list) before).0

unfoldable pub replaced_arguments : List ExprArg → List Stmt → List ExprArg
replaced_arguments list before = (each (map taking_argument list) before).0

unfoldable pub replaced_option : Option Expr → List Stmt → Option Expr
replaced_option form before = (if_any (option_map taking form) before).0

-- ---- these declarations, and after them those of the form's variables

unfoldable pub declared_by : Expr → List Stmt → List Stmt
declared_by form before = (taking form before).1

unfoldable pub declared_by_argument : ExprArg → List Stmt → List Stmt
declared_by_argument form before = (taking_argument form before).1

unfoldable pub declared_by_receiver : ExprReceiver → List Stmt → List Stmt
declared_by_receiver form before = (taking_receiver form before).1

unfoldable pub declared_by_exprs : List Expr → List Stmt → List Stmt
declared_by_exprs list before = (each (map taking list) before).1

unfoldable pub declared_by_arguments : List ExprArg → List Stmt → List Stmt
declared_by_arguments list before = (each (map taking_argument list) before).1

unfoldable pub declared_by_option : Option Expr → List Stmt → List Stmt
declared_by_option form before = (if_any (option_map taking form) before).1
