-- Whether a type is a subtype of another, from the supertypes of every type and what declared edges lead to: the rule for bound types.
use Rattle.std.specs.Prelude.{Bool, true, false, cond, not, ◌&&◌, ◌||◌}
use Rattle.sa_ast.specs.declared.ty.Mode.{Mode}
use Rattle.sa_ast.specs.declared.ty.Mode.TheVariants.{In, Out, Inout, Once}
use Rattle.sa_ast.specs.TypeEquality.{same_mode, same_type}
use Rattle.sa_ast.specs.Types.{BareTy, Rout, Iter, BareArgs, no_args, arg, BareResult, no_result, gives}

-- by the mode of an argument: the types are the same, or covariant, or contravariant
abbrev pub goes_by : Mode → Bool → Bool → Bool → Bool
goes_by In same forth back = back
goes_by Once same forth back = back
goes_by Inout same forth back = same
goes_by Out same forth back = forth

-- `tops` are supertypes of every type, `climbs` says what edges lead to, and these types are immutable classes
module _ (tops : BareTy → Bool) (climbs : BareTy → BareTy → Bool) (immutable : BareTy → Bool) where
  -- the second type is a supertype of every type, or edges lead to it; reversed, the first
  abbrev pub rises : BareTy → BareTy → Bool → Bool
  rises s t turned = tops (cond turned s t) || cond turned (climbs t s) (climbs s t)

  -- at an index of two bound types: if one is an immutable class, they are the same
  abbrev pub occurs_as : BareTy → BareTy → Bool → Bool
  occurs_as s t otherwise = cond (immutable s || immutable t) (same_type s t) otherwise

  -- the first type is a subtype of the second, or, reversed, the second of the first
  unfoldable mutual
    pub holds : BareTy → BareTy → Bool → Bool
    holds (Rout xs a) (Rout ys b) turned = tops (cond turned (Rout xs a) (Rout ys b)) || (args_hold xs ys turned && result_holds a b turned)
    holds (Iter xs a) (Iter ys b) turned = tops (cond turned (Iter xs a) (Iter ys b)) || (args_hold xs ys turned && result_holds a b turned)
    holds s t turned = rises s t turned

    pub args_hold : BareArgs → BareArgs → Bool → Bool
    args_hold no_args no_args turned = true
    args_hold (arg m s xs) (arg n t ys) turned =
        same_mode m n && occurs_as s t (goes_by m (same_type s t) (holds s t turned) (holds s t (not turned))) && args_hold xs ys turned
    args_hold _ _ turned = false

    pub result_holds : BareResult → BareResult → Bool → Bool
    result_holds no_result no_result turned = true
    result_holds (gives s) (gives t) turned = occurs_as s t (holds s t turned)
    result_holds _ _ turned = false

  -- the same of one argument
  unfoldable pub arg_holds : Mode × BareTy → Mode × BareTy → Bool → Bool
  arg_holds a b turned =
      same_mode a.0 b.0 && occurs_as a.1 b.1 (goes_by a.0 (same_type a.1 b.1) (holds a.1 b.1 turned) (holds a.1 b.1 (not turned)))
