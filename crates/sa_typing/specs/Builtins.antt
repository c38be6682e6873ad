-- The parameters and results of the built-in features.
use Rattle.std.specs.Prelude.{ℕ, Bool, true, false, ◌&&◌, ◌==◌, Option, Some, None, is_some}
use Rattle.std.specs.Option.{option_map_or}
use Rattle.sa_prelude.specs.declared.feature.BuiltinFeature.{BuiltinFeature}
use Rattle.sa_prelude.specs.declared.feature.BuiltinFeature.TheVariants.{BoolIsEq, BoolNot, IntPlus, IntMinus, IntTimes, IntNegate, IntDiv}
use Rattle.sa_prelude.specs.declared.feature.BuiltinFeature.TheVariants.{IntMod, IntIsEq, IntIsLt, IntBand, IntBor, IntBxor, IntStr}
use Rattle.sa_prelude.specs.declared.feature.BuiltinFeature.TheVariants.{IntChar, CharIsEq, CharIsLt, CharInt, CharStr, StrSize, StrAget}
use Rattle.sa_prelude.specs.declared.feature.BuiltinFeature.TheVariants.{StrCat, StrSubstring, StrOf, OutPut, OutPutInt, OutPutChar}
use Rattle.sa_prelude.specs.declared.feature.BuiltinFeature.TheVariants.{InGetByte, SysObEq, ArefAsize, ArefAget, ArefAset, ArrayCreate}
use Rattle.sa_typing.specs.Rows.{Rows, has_array, element_of}

-- ---- types that have the same numbers in each program

abbrev pub ob_type : ℕ
ob_type = 0

abbrev pub bool_type : ℕ
bool_type = 3

abbrev pub int_type : ℕ
int_type = 4

abbrev pub char_type : ℕ
char_type = 5

abbrev pub str_type : ℕ
str_type = 6

abbrev pub fault_type : ℕ
fault_type = 7

-- a type of arrays of characters
abbrev pub is_characters : Rows → Option ℕ → Bool
is_characters w None = false
is_characters w (Some ty) = has_array w ty && option_map_or (λ elem. elem == char_type) (element_of w ty) false

-- The feature is one of the class, as far as it asks what its receiver is.
abbrev pub is_of : Rows → ℕ → BuiltinFeature → Bool
is_of w class BoolIsEq = class == bool_type
is_of w class BoolNot = class == bool_type
is_of w class IntPlus = class == int_type
is_of w class IntMinus = class == int_type
is_of w class IntTimes = class == int_type
is_of w class IntNegate = class == int_type
is_of w class IntDiv = class == int_type
is_of w class IntMod = class == int_type
is_of w class IntIsEq = class == int_type
is_of w class IntIsLt = class == int_type
is_of w class IntBand = class == int_type
is_of w class IntBor = class == int_type
is_of w class IntBxor = class == int_type
is_of w class IntStr = class == int_type
is_of w class IntChar = class == int_type
is_of w class CharIsEq = class == char_type
is_of w class CharIsLt = class == char_type
is_of w class CharInt = class == char_type
is_of w class CharStr = class == char_type
is_of w class StrSize = class == str_type
is_of w class StrAget = class == str_type
is_of w class StrCat = class == str_type
is_of w class StrSubstring = class == str_type
is_of w class StrOf = is_characters w w.characters
is_of w class ArefAsize = has_array w class
is_of w class ArrayCreate = has_array w class
is_of w class ArefAget = has_array w class && is_some (element_of w class)
is_of w class ArefAset = has_array w class && is_some (element_of w class)
is_of w class _ = true

-- ---- the types of the parameters and of the result

abbrev pub first_type : Rows → BuiltinFeature → Option ℕ
first_type w BoolNot = None
first_type w IntNegate = None
first_type w IntStr = None
first_type w IntChar = None
first_type w CharInt = None
first_type w CharStr = None
first_type w StrSize = None
first_type w InGetByte = None
first_type w ArefAsize = None
first_type w BoolIsEq = Some bool_type
first_type w CharIsEq = Some char_type
first_type w CharIsLt = Some char_type
first_type w OutPutChar = Some char_type
first_type w StrCat = Some str_type
first_type w OutPut = Some str_type
first_type w StrOf = w.characters
first_type w SysObEq = Some ob_type
first_type w _ = Some int_type

abbrev pub second_type : Rows → ℕ → BuiltinFeature → Option ℕ
second_type w class StrSubstring = Some int_type
second_type w class StrOf = Some int_type
second_type w class SysObEq = Some ob_type
second_type w class ArefAset = element_of w class
second_type w class _ = None

abbrev pub arity_of : BuiltinFeature → ℕ
arity_of BoolNot = 0
arity_of IntNegate = 0
arity_of IntStr = 0
arity_of IntChar = 0
arity_of CharInt = 0
arity_of CharStr = 0
arity_of StrSize = 0
arity_of InGetByte = 0
arity_of ArefAsize = 0
arity_of StrSubstring = 2
arity_of StrOf = 2
arity_of SysObEq = 2
arity_of ArefAset = 2
arity_of _ = 1

abbrev pub result_type : Rows → ℕ → BuiltinFeature → Option ℕ
result_type w class BoolIsEq = Some bool_type
result_type w class BoolNot = Some bool_type
result_type w class IntIsEq = Some bool_type
result_type w class IntIsLt = Some bool_type
result_type w class CharIsEq = Some bool_type
result_type w class CharIsLt = Some bool_type
result_type w class SysObEq = Some bool_type
result_type w class IntChar = Some char_type
result_type w class StrAget = Some char_type
result_type w class IntStr = Some str_type
result_type w class CharStr = Some str_type
result_type w class StrCat = Some str_type
result_type w class StrSubstring = Some str_type
result_type w class StrOf = Some str_type
result_type w class ArefAget = element_of w class
result_type w class ArrayCreate = Some class
result_type w class OutPut = None
result_type w class OutPutInt = None
result_type w class OutPutChar = None
result_type w class ArefAset = None
result_type w class _ = Some int_type
