-- Which expressions are calls, and which have no subexpressions.
use Rattle.std.specs.Prelude.{◌≡◌, ◌⊎◌, ℕ, Bool, true, false, IsTrue, List}
use Rattle.sa_ast.specs.declared.pos.Pos.{Pos}
use Rattle.sa_typed.specs.declared.expr.TypedArg.{TypedArg}
use Rattle.sa_typed.specs.declared.expr.TypedExpr.{TypedExpr}
use Rattle.sa_typed.specs.declared.expr.TypedExpr.TheVariants as form
use Rattle.sa_typed.specs.declared.feature.TypedCallee.{TypedCallee}
use Rattle.sa_typed.specs.declared.feature.Target.{Target}

abbrev pub is_leaf : TypedExpr → Bool
is_leaf (form.Int value) = true
is_leaf (form.Bool value) = true
is_leaf (form.Char byte) = true
is_leaf (form.Text text) = true
is_leaf (form.VoidValue ty) = true
is_leaf form.SelfRef = true
is_leaf (form.Var var) = true
is_leaf form.Exception = true
is_leaf (form.New ty pos) = true
is_leaf _ = false

abbrev pub IsLeaf : TypedExpr → Type 0
IsLeaf e = IsTrue (is_leaf e)

-- a call, a call of an iter, a bind, or a comparison that is called on its second operand
unfoldable pub IsCall : TypedExpr → Type 0
IsCall e =
    ((called : TypedCallee) × (on : TypedExpr) × (args : List TypedArg) × (pos : Pos) × (e ≡ form.Call called on args pos))
    ⊎ (((site : ℕ) × (on : TypedExpr) × (args : List TypedArg) × (pos : Pos) × (e ≡ form.IterCall site on args pos))
    ⊎ (((called : TypedCallee) × (on : TypedExpr) × (args : List TypedArg) × (ty : ℕ) × (pos : Pos) × (e ≡ form.Bind called on args ty pos))
    ⊎ ((target : Target) × (first : TypedExpr) × (second : TypedExpr) × (pos : Pos) × (e ≡ form.Reversed target first second pos))))
