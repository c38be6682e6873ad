-- Which expressions are quiet: they create no object, change nothing, write no output and read no input.
use Rattle.std.specs.Prelude.{Bool, true, false, ◌&&◌}
use Rattle.sa_typed.specs.Tree.{Expr, Int, Truth, Char, Text, VoidValue, SelfRef, Var, IsVoid}
use Rattle.sa_typed.specs.Tree.{Call, Reversed, And, Or, Arg, Value, Args, no_args, arg}
use Rattle.sa_typed.specs.declared.feature.TypedCallee.{TypedCallee}
use Rattle.sa_typed.specs.declared.feature.TypedCallee.TheVariants.{Static}
use Rattle.sa_typed.specs.declared.feature.Target.{Target}
use Rattle.sa_typed.specs.declared.feature.Target.TheVariants as target
use Rattle.sa_prelude.specs.declared.feature.BuiltinFeature.{BuiltinFeature}
use Rattle.sa_prelude.specs.declared.feature.BuiltinFeature.TheVariants.{IntStr, CharStr, StrCat, StrSubstring, StrOf, OutPut}
use Rattle.sa_prelude.specs.declared.feature.BuiltinFeature.TheVariants.{OutPutInt, OutPutChar, InGetByte, ArefAset, ArrayCreate}

-- all built-in features but those that create a text or an array, set an element, write output or read input
abbrev pub reads_alone : BuiltinFeature → Bool
reads_alone IntStr = false
reads_alone CharStr = false
reads_alone StrCat = false
reads_alone StrSubstring = false
reads_alone StrOf = false
reads_alone OutPut = false
reads_alone OutPutInt = false
reads_alone OutPutChar = false
reads_alone InGetByte = false
reads_alone ArefAset = false
reads_alone ArrayCreate = false
reads_alone _ = true

abbrev pub is_quiet_builtin : Target → Bool
is_quiet_builtin (target.Builtin feature) = reads_alone feature
is_quiet_builtin _ = false

-- an attribute or a shared is read, or a built-in feature only reads
abbrev pub is_quiet_target : Target → Bool
is_quiet_target (target.Get place) = true
is_quiet_target (target.GetShared number) = true
is_quiet_target called = is_quiet_builtin called

-- the callee is statically known, and is one of these
abbrev pub is_quiet_call : TypedCallee → Bool
is_quiet_call (Static called class) = is_quiet_target called
is_quiet_call _ = false

abbrev mutual
  pub is_quiet : Expr → Bool
  is_quiet (Int value) = true
  is_quiet (Truth value) = true
  is_quiet (Char byte) = true
  is_quiet (Text text) = true
  is_quiet (VoidValue ty) = true
  is_quiet SelfRef = true
  is_quiet (Var var) = true
  is_quiet (IsVoid of) = is_quiet of
  is_quiet (And first second) = is_quiet first && is_quiet second
  is_quiet (Or first second) = is_quiet first && is_quiet second
  is_quiet (Call called on arguments pos) = is_quiet_call called && (is_quiet on && are_quiet_args arguments)
  is_quiet (Reversed called first second pos) = is_quiet_builtin called && (is_quiet first && is_quiet second)
  is_quiet _ = false

  -- an argument that a call writes isn't quiet
  pub is_quiet_arg : Arg → Bool
  is_quiet_arg (Value mode value) = is_quiet value
  is_quiet_arg _ = false

  pub are_quiet_args : Args → Bool
  are_quiet_args no_args = true
  are_quiet_args (arg a more) = is_quiet_arg a && are_quiet_args more
