-- What the features do that the prelude leaves to the implementation.
use Rattle.std.specs.Prelude.{ℕ, ◌-◌, ℤ, pos, negsuc, ◌+ℤ◌, ◌-ℤ◌, ◌*ℤ◌, neg_ℤ, int_le, int_lt, int_div, int_rem, Bool, not}
use Rattle.std.specs.Prelude.{◌&&◌, ◌==◌, nat_le, nat_lt, if◌then◌else◌, List, [], ◌∷◌, ◌++◌, map, length, take, drop, set}
use Rattle.std.specs.Prelude.{replicate, slice_get, Option, Some, option_map, option_and_then, bit_and, bit_or, bit_xor}
use Rattle.std.specs.Fmt.{signed_decimal}
use Rattle.std.specs.Option.{option_map_or}
use Rattle.sa_ast.specs.declared.fault_kind.FaultKind.TheVariants as fault_kind
use Rattle.sa_ast.specs.declared.pos.Pos.{Pos}
use Rattle.sa_prelude.specs.declared.feature.BuiltinFeature.{BuiltinFeature}
use Rattle.sa_prelude.specs.declared.feature.BuiltinFeature.TheVariants.{BoolIsEq, BoolNot, IntPlus, IntMinus, IntTimes, IntNegate, IntDiv}
use Rattle.sa_prelude.specs.declared.feature.BuiltinFeature.TheVariants.{IntMod, IntIsEq, IntIsLt, IntBand, IntBor, IntBxor, IntStr}
use Rattle.sa_prelude.specs.declared.feature.BuiltinFeature.TheVariants.{IntChar, CharIsEq, CharIsLt, CharInt, CharStr, StrSize, StrAget}
use Rattle.sa_prelude.specs.declared.feature.BuiltinFeature.TheVariants.{StrCat, StrSubstring, StrOf, OutPut, OutPutInt, OutPutChar}
use Rattle.sa_prelude.specs.declared.feature.BuiltinFeature.TheVariants.{InGetByte, SysObEq, ArefAsize, ArefAget, ArefAset, ArrayCreate}
use Rattle.sa_semantics.specs.Sequence.{◌>>=◌, ◌>>◌, pure, or_stuck, at_index, stuck}
use Rattle.sa_semantics.specs.Value.{Value, Void, Int, Truth, Char, Ref, Bound, is_void, is_nothing}
use Rattle.sa_semantics.specs.Value.{is_zero, as_int, as_truth, as_char, as_text, as_object}
use Rattle.sa_semantics.specs.Program.{Program, void_of}
use Rattle.sa_semantics.specs.State.{Object}
use Rattle.sa_semantics.specs.Steps.{Eval, spend, charge, object_size, eights, add_object, object_at}
use Rattle.sa_semantics.specs.Steps.{set_object, plain, fault, new_text, put_byte, put_bytes, put_text, get_byte}

-- ---- numbers

abbrev pub is_between : ℤ → ℤ → ℤ → Bool
is_between low high z = int_le low z && int_le z high

abbrev pub same_int : ℤ → ℤ → Bool
same_int a b = int_le a b && int_le b a

-- the 32 bits of a number in two's complement
abbrev pub bits_of : ℤ → ℕ
bits_of (pos n) = n
bits_of (negsuc n) = 4294967295 - n

abbrev pub of_bits : ℕ → ℤ
of_bits bits = if nat_le bits 2147483647 then pos bits else negsuc (4294967295 - bits)

abbrev pub on_bits : (ℕ → ℕ → ℕ) → ℤ → ℤ → ℤ
on_bits f a b = of_bits (f (bits_of a) (bits_of b))

-- the index as a natural number, less than a length
abbrev pub index_of : ℤ → ℕ
index_of (pos n) = n
index_of (negsuc n) = 0

abbrev pub is_index : ℤ → ℕ → Bool
is_index z length = is_between (pos 0) (pos length) z && not (same_int z (pos length))

-- ---- objects

-- both are the same object, or the same bound value, or both are void
abbrev pub is_same : Value → Value → Bool
is_same (Ref a) (Ref b) = a == b
is_same (Bound a) (Bound b) = a == b
is_same a b = is_void a && is_void b

-- the bytes of elements that are characters
abbrev pub bytes_of : List Value → Option (List ℕ)
bytes_of [] = Some []
bytes_of (v ∷ more) = option_and_then (λ byte. option_map (λ bytes. byte ∷ bytes) (bytes_of more)) (as_char v)

abbrev pub elements_of : Value → Eval (List Value)
elements_of v = if is_nothing v then pure [] else (do
  number ← or_stuck (as_object v)
  o ← object_at number
  pure o.elements)

-- `new(n)`: an object with its attributes and so many elements, all void
abbrev pub new_array : Program → ℕ → Pos → ℤ → Eval Value
new_array p ty at count = if int_lt count (pos 0) then fault p fault_kind.Index at else (do
  t ← at_index p.types ty
  charge at (object_size (length t.attrs) (index_of count))
  number ← add_object (plain ty (map (void_of p) t.attrs) (replicate (index_of count) (option_map_or (void_of p) t.elem Void)))
  pure (Ref number))

-- ---- arguments

-- how many arguments a feature takes
abbrev pub arity : BuiltinFeature → ℕ
arity BoolNot = 0
arity IntNegate = 0
arity IntStr = 0
arity IntChar = 0
arity CharInt = 0
arity CharStr = 0
arity StrSize = 0
arity InGetByte = 0
arity ArefAsize = 0
arity StrSubstring = 2
arity StrOf = 2
arity SysObEq = 2
arity ArefAset = 2
arity _ = 1

-- ---- the features, of a type, at a call

module _ (p : Program) (class : Option ℕ) (at : Pos) (self : Value) (arguments : List Value) where
  abbrev pub argument : {A : Type 0} → (Value → Option A) → ℕ → Eval A
  argument see place = or_stuck (option_and_then see (slice_get arguments place))

  abbrev pub one : {A : Type 0} → (Value → Option A) → (A → Eval Value) → Eval Value
  one see f = or_stuck (see self) >>= f

  abbrev pub two : {A : Type 0} → (Value → Option A) → (A → A → Eval Value) → Eval Value
  two see f = do
    a ← or_stuck (see self)
    b ← argument see 0
    f a b

  -- a result that has to be a number of the language
  abbrev pub whole : ℤ → Eval Value
  whole z = if is_between (negsuc 2147483647) (pos 2147483647) z then pure (Int z) else fault p fault_kind.Overflow at

  abbrev pub divide : (ℤ → ℤ → ℤ) → ℤ → ℤ → Eval Value
  divide f a b = if is_zero b then fault p fault_kind.DivisionByZero at else whole (f a b)

  -- a text that takes turns by its length
  abbrev pub long_text : List ℕ → Eval Value
  long_text bytes = spend (eights (length bytes)) >> new_text at bytes

  abbrev pub byte_at : List ℕ → ℤ → Eval Value
  byte_at bytes i =
      if is_index i (length bytes) then (at_index bytes (index_of i) >>= (λ byte. pure (Char byte))) else fault p fault_kind.Index at

  -- so many bytes from an index on
  abbrev pub part : List ℕ → ℤ → ℤ → Eval Value
  part bytes i n =
      if int_le (pos 0) i && int_le (pos 0) n && int_le (i +ℤ n) (pos (length bytes))
      then long_text (take (index_of n) (drop (index_of i) bytes))
      else fault p fault_kind.Index at

  -- a text of the first elements of an array of characters
  abbrev pub text_of : List Value → ℤ → Eval Value
  text_of elements n =
      if is_between (pos 0) (pos (length elements)) n then (or_stuck (bytes_of (take (index_of n) elements)) >>= long_text)
      else fault p fault_kind.Index at

  abbrev pub element_at : ℤ → Eval Value
  element_at i = do
    number ← or_stuck (as_object self)
    o ← object_at number
    if is_index i (length o.elements) then at_index o.elements (index_of i) else fault p fault_kind.Index at

  abbrev pub store_element : ℕ → Object → ℤ → Value → Eval Value
  store_element number o i v = set_object number (record o { elements = set o.elements (index_of i) v }) >> pure Void

  abbrev pub set_element : ℤ → Value → Eval Value
  set_element i v = do
    number ← or_stuck (as_object self)
    o ← object_at number
    if is_index i (length o.elements) then store_element number o i v else fault p fault_kind.Index at

  abbrev pub unless_void : Eval Value → Eval Value
  unless_void f = if is_nothing self then fault p fault_kind.Void at else f

  abbrev pub builtin : BuiltinFeature → Eval Value
  builtin BoolIsEq = two as_truth (λ a b. pure (Truth (if a then b else not b)))
  builtin BoolNot = one as_truth (λ a. pure (Truth (not a)))
  builtin IntPlus = two as_int (λ a b. whole (a +ℤ b))
  builtin IntMinus = two as_int (λ a b. whole (a -ℤ b))
  builtin IntTimes = two as_int (λ a b. whole (a *ℤ b))
  builtin IntNegate = one as_int (λ a. whole (neg_ℤ a))
  builtin IntDiv = two as_int (divide int_div)
  builtin IntMod = two as_int (divide int_rem)
  builtin IntIsEq = two as_int (λ a b. pure (Truth (same_int a b)))
  builtin IntIsLt = two as_int (λ a b. pure (Truth (int_lt a b)))
  builtin IntBand = two as_int (λ a b. pure (Int (on_bits bit_and a b)))
  builtin IntBor = two as_int (λ a b. pure (Int (on_bits bit_or a b)))
  builtin IntBxor = two as_int (λ a b. pure (Int (on_bits bit_xor a b)))
  builtin IntStr = one as_int (λ a. new_text at (signed_decimal a))
  builtin IntChar = one as_int (λ a. if is_between (pos 0) (pos 255) a then pure (Char (index_of a)) else fault p fault_kind.Overflow at)
  builtin CharIsEq = two as_char (λ a b. pure (Truth (a == b)))
  builtin CharIsLt = two as_char (λ a b. pure (Truth (nat_lt a b)))
  builtin CharInt = one as_char (λ a. pure (Int (pos a)))
  builtin CharStr = one as_char (λ a. new_text at (a ∷ []))
  builtin StrSize = one as_text (λ a. pure (Int (pos (length a))))
  builtin StrAget = one as_text (λ a. argument as_int 0 >>= byte_at a)
  builtin StrCat = two as_text (λ a b. long_text (a ++ b))
  builtin StrSubstring = do
    a ← or_stuck (as_text self)
    i ← argument as_int 0
    n ← argument as_int 1
    part a i n
  builtin StrOf = do
    a ← argument Some 0
    n ← argument as_int 1
    elements ← elements_of a
    text_of elements n
  builtin OutPut = argument as_text 0 >>= put_text 0 >> pure Void
  builtin OutPutInt = argument as_int 0 >>= (λ a. put_bytes (signed_decimal a)) >> pure Void
  builtin OutPutChar = argument as_char 0 >>= put_byte >> pure Void
  builtin InGetByte = get_byte >>= (λ z. pure (Int z))
  builtin SysObEq = do
    a ← argument Some 0
    b ← argument Some 1
    pure (Truth (is_same a b))
  builtin ArefAsize = elements_of self >>= (λ elements. pure (Int (pos (length elements))))
  builtin ArefAget = argument as_int 0 >>= (λ i. unless_void (element_at i))
  builtin ArefAset = do
    i ← argument as_int 0
    v ← argument Some 1
    unless_void (set_element i v)
  builtin ArrayCreate = do
    ty ← or_stuck class
    count ← argument as_int 0
    new_array p ty at count

  -- a call with as many arguments as the feature takes
  abbrev pub builtin_call : BuiltinFeature → Eval Value
  builtin_call f = if length arguments == arity f then builtin f else stuck
