-- Which arguments a parameter takes.
use Rattle.std.specs.Prelude.{ℕ, Bool, true, false, ◌&&◌, ◌==◌}
use Rattle.sa_ast.specs.declared.ty.Mode.{Mode}
use Rattle.sa_ast.specs.declared.ty.Mode.TheVariants as mode
use Rattle.sa_ast.specs.TypeEquality.{same_mode}
use Rattle.sa_typing.specs.declared.expr_type.ExprType.{ExprType}
use Rattle.sa_typing.specs.declared.expr_type.ParamType.{ParamType}
use Rattle.sa_typing.specs.Rows.{Rows, is_supertype}
use Rattle.sa_typing.specs.ExprType.{is_assignable}

-- arguments of this mode are values, and no variables that are written
abbrev pub is_value_mode : Mode → Bool
is_value_mode mode.In = true
is_value_mode mode.Once = true
is_value_mode _ = false

-- a value that is passed by this mode
abbrev pub takes_value : Rows → ParamType → Mode → ExprType → Bool
takes_value w p m given = same_mode p.mode m && (is_value_mode m && is_assignable w given p.ty)

-- an `out` variable may be of a supertype, and an `inout` variable is of the same type
abbrev pub is_assignable_back : Rows → ℕ → Mode → ℕ → Bool
is_assignable_back w ty mode.Out variable = is_supertype w variable ty
is_assignable_back w ty mode.Inout variable = variable == ty
is_assignable_back w ty _ variable = false

-- a variable of this type, which is written by this mode
abbrev pub takes_variable : Rows → ParamType → Mode → ℕ → Bool
takes_variable w p m variable = same_mode p.mode m && is_assignable_back w p.ty m variable
