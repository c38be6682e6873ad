-- The values of a running program.
use Rattle.std.specs.Prelude.{ℕ, ℤ, pos, negsuc, Bool, true, false, not, ◌&&◌, ◌==◌, List, [], ◌∷◌, Option, Some, None}

-- ---- types that have the same index in each program

abbrev pub bool_type : ℕ
bool_type = 3

abbrev pub int_type : ℕ
int_type = 4

abbrev pub char_type : ℕ
char_type = 5

abbrev pub str_type : ℕ
str_type = 6

abbrev pub fault_type : ℕ
fault_type = 7

-- ---- values

mutual
  pub data Value : Type 0 where
    -- the void of a reference, an abstract or a bound type
    Void : Value
    Int : ℤ → Value
    Truth : Bool → Value
    Char : (byte : ℕ) → Value
    -- a text, which may be empty; a void text is Void
    Text : (bytes : List ℕ) → Value
    -- an object, by its index
    Ref : (object : ℕ) → Value
    -- a value of an immutable class, by its type and its attributes
    Imm : (ty : ℕ) → (fields : Fields) → Value
    -- a bound routine or iter, by the index of its object
    Bound : (object : ℕ) → Value
    -- a boxed value: one of an immutable class, at an abstract type
    Boxed : Value → Value

  pub data Fields : Type 0 where
    no_fields : Fields
    field : Value → Fields → Fields

-- ---- attributes as lists

abbrev pub fields_of : List Value → Fields
fields_of [] = no_fields
fields_of (v ∷ more) = field v (fields_of more)

abbrev pub field_list : Fields → List Value
field_list no_fields = []
field_list (field v more) = v ∷ field_list more

-- ---- void

abbrev pub is_zero : ℤ → Bool
is_zero (pos n) = n == 0
is_zero (negsuc n) = false

abbrev mutual
  pub is_void : Value → Bool
  is_void Void = true
  is_void (Int z) = is_zero z
  is_void (Truth b) = not b
  is_void (Char byte) = byte == 0
  is_void (Imm ty fields) = are_void fields
  is_void _ = false

  pub are_void : Fields → Bool
  are_void no_fields = true
  are_void (field v more) = is_void v && are_void more

-- Void itself, which no call is dispatched on
abbrev pub is_nothing : Value → Bool
is_nothing Void = true
is_nothing _ = false

-- ---- what a value is

abbrev pub as_int : Value → Option ℤ
as_int (Int z) = Some z
as_int _ = None

abbrev pub as_truth : Value → Option Bool
as_truth (Truth b) = Some b
as_truth _ = None

abbrev pub as_char : Value → Option ℕ
as_char (Char byte) = Some byte
as_char _ = None

-- the bytes of a text, none where it is void
abbrev pub as_text : Value → Option (List ℕ)
as_text Void = Some []
as_text (Text bytes) = Some bytes
as_text _ = None

abbrev pub as_object : Value → Option ℕ
as_object (Ref object) = Some object
as_object _ = None

abbrev pub as_bound : Value → Option ℕ
as_bound (Bound object) = Some object
as_bound _ = None

-- the index of the type of an unboxed value of an immutable class
abbrev pub unboxed_type : Value → Option ℕ
unboxed_type (Int z) = Some int_type
unboxed_type (Truth b) = Some bool_type
unboxed_type (Char byte) = Some char_type
unboxed_type (Imm ty _) = Some ty
unboxed_type _ = None

-- the value in a boxed one
abbrev pub unboxed : Value → Value
unboxed (Boxed v) = v
unboxed v = v
