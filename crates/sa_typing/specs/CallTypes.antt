-- The call types of bound values and of signatures, with types given by their numbers.
use Rattle.std.specs.Prelude.{ℕ, ◌+◌, Bool, true, false, ◌&&◌, cond, List, [], ◌∷◌, Option, Some, None}
use Rattle.std.specs.Prelude.{bytes_eq, codes, drop, if◌then◌else◌, nat_eq, option_map, option_and_then, ◌≡◌}
use Rattle.std.specs.HashMap.{HashMap, get}
use Rattle.std.specs.List.{ends_with}
use Rattle.std.specs.Ordering.{on}
use Rattle.sa_ast.specs.declared.ty.Ty.{Ty}
use Rattle.sa_ast.specs.TypeEquality.{same_type}
use Rattle.sa_ast.specs.Types.{BareTy, Named, Rout, Iter, BareTys, no_types, type, BareArgs, no_args, arg, BareResult, no_result, gives}
use Rattle.sa_ast.specs.Types.{all_bare_args, bare, option_bare}
use Rattle.sa_typed.specs.declared.program.TypedSignature.{TypedSignature}
use Rattle.sa_typed.specs.declared.program.TypeDef.{TypeDef}
use Rattle.sa_typing.specs.declared.expr_type.ParamType.{ParamType}
use Rattle.sa_typing.specs.declared.call_type.Numbers.{Numbers}
use Rattle.sa_typing.specs.declared.call_type.CallType.{CallType}

-- ---- the numbers of types

-- the number of the first type that is this one but for positions, where the list begins at a number
abbrev pub number_in : List TypeDef → ℕ → BareTy → Option ℕ
number_in [] n ty = None
number_in (t ∷ more) n ty = cond (same_type (bare t.ty) ty) (Some n) (number_in more (n + 1) ty)

-- a table has the numbers of the types from a number on
abbrev pub HasNumbers : {S : Type 0} → HashMap Ty ℕ S → List TypeDef → ℕ → Type 0
HasNumbers table types from = (ty : Ty) → get (on bare same_type) table ty ≡ number_in (drop from types) from (bare ty)

-- the table has those of all types
abbrev pub AreNumbers : Numbers → Type 0
AreNumbers numbers = HasNumbers numbers.by_type numbers.types.now 0

-- ---- names of iters

-- the name ends in `!`
abbrev pub is_iter_name : List ℕ → Bool
is_iter_name name = ends_with nat_eq name (codes "!")

-- ---- ARRAY{CHAR}

abbrev pub is_char : BareTy → Bool
is_char (Named name no_types) = bytes_eq name (codes "CHAR")
is_char _ = false

abbrev pub is_char_alone : BareTys → Bool
is_char_alone (type ty no_types) = is_char ty
is_char_alone _ = false

abbrev pub is_char_array : BareTy → Bool
is_char_array (Named name given) = bytes_eq name (codes "ARRAY") && is_char_alone given
is_char_array _ = false

-- the number of the first, where the list begins at a number
abbrev pub characters_in : ℕ → List TypeDef → Option ℕ
characters_in n [] = None
characters_in n (t ∷ more) = if is_char_array (bare t.ty) then Some n else characters_in (n + 1) more

-- ---- call types

-- of these parameters and this result, where there are both
abbrev pub call_type_with : Bool → Option (List ParamType) → Option (Option ℕ) → Option CallType
call_type_with iter (Some params) (Some of) = Some (record { iter = iter; params = params; result = of })
call_type_with iter _ _ = None

-- ---- where `types` are the types of the program

module _ (types : List TypeDef) where
  abbrev pub number_of : BareTy → Option ℕ
  number_of ty = number_in types 0 ty

  -- no result, or one of a type of the program
  abbrev pub result_number : BareResult → Option (Option ℕ)
  result_number no_result = Some None
  result_number (gives ty) = option_map (λ n. Some n) (number_of ty)

  abbrev pub parameters_of : BareArgs → Option (List ParamType)
  parameters_of no_args = Some []
  parameters_of (arg mode ty more) =
      option_and_then (λ n. option_map (λ rest. record { mode = mode; ty = n } ∷ rest) (parameters_of more)) (number_of ty)

  -- unless the program lacks one of the types
  abbrev pub call_type_of : Bool → BareArgs → BareResult → Option CallType
  call_type_of iter arguments of = call_type_with iter (parameters_of arguments) (result_number of)

  -- that of a bound type
  abbrev pub bound_call_type : BareTy → Option CallType
  bound_call_type (Rout arguments of) = call_type_of false arguments of
  bound_call_type (Iter arguments of) = call_type_of true arguments of
  bound_call_type _ = None

  -- that of a type, where it is a bound type
  abbrev pub call_type_of_bound : TypeDef → Option CallType
  call_type_of_bound t = bound_call_type (bare t.ty)

  abbrev pub signature_call_type : TypedSignature → Option CallType
  signature_call_type s = call_type_of (is_iter_name s.sig.name) (all_bare_args s.sig.args) (option_bare s.sig.result)
