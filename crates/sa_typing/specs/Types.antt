-- Which types of a program are well formed, each by itself.
use Rattle.std.specs.Prelude.{ℕ, ◌+◌, Bool, true, false, ◌&&◌, ◌||◌, not, ◌==◌, nat_eq, nat_lt, if◌then◌else◌, is_some, is_none}
use Rattle.std.specs.Prelude.{List, [], ◌∷◌, length, slice_get, Option, Some, None}
use Rattle.std.specs.Cmp.Lexicographic.{pointwise}
use Rattle.std.specs.Option.{option_map_or}
use Rattle.sa_ast.specs.declared.class.ClassKind.{ClassKind}
use Rattle.sa_ast.specs.declared.class.ClassKind.TheVariants as kind
use Rattle.sa_ast.specs.declared.ty.Mode.{Mode}
use Rattle.sa_ast.specs.declared.ty.Mode.TheVariants as mode
use Rattle.sa_ast.specs.TypeEquality.{same_mode}
use Rattle.sa_ast.specs.Types.{BareTy, Named, Same, Rout, Iter, bare}
use Rattle.sa_subst.specs.Abstract.{is_abstract_type}
use Rattle.sa_typed.specs.declared.program.TypeDef.{TypeDef}
use Rattle.sa_typing.specs.declared.expr_type.ParamType.{ParamType}
use Rattle.sa_typing.specs.declared.call_type.CallType.{CallType}
use Rattle.sa_typing.specs.Rows.{Rows, has_array, is_abstract, is_abstract_kind, is_strict_supertype, is_immutable, is_immutable_kind}
use Rattle.sa_typing.specs.Rows.{is_reference, is_reference_kind, of_type, call_type_at}
use Rattle.sa_typing.specs.ExprType.{agree}
use Rattle.sa_typing.specs.Builtins.{bool_type, char_type, fault_type, int_type, ob_type, str_type}
use Rattle.sa_typing.specs.Features.{are_types, is_type_or_none}

-- ---- lists of numbers

abbrev pub is_after : Option ℕ → ℕ → Bool
is_after None n = true
is_after (Some last) n = nat_lt last n

-- each number is greater than the one before it
abbrev pub rises_from : Option ℕ → List ℕ → Bool
rises_from last [] = true
rises_from last (n ∷ more) = is_after last n && rises_from (Some n) more

-- the one is a sublist of the other, in the same order
abbrev pub is_part : List ℕ → List ℕ → Bool
is_part [] whole = true
is_part (a ∷ part) [] = false
is_part (a ∷ part) (b ∷ whole) = if a == b then is_part part whole else is_part (a ∷ part) whole

-- a number inserted into a list before the first that is greater
abbrev pub put_in : ℕ → List ℕ → List ℕ
put_in n [] = n ∷ []
put_in n (a ∷ more) = if nat_lt n a then n ∷ a ∷ more else a ∷ put_in n more

-- ---- kinds

-- a class is abstract where its name begins with `$`, and isn't partial
abbrev pub is_class_kind : ClassKind → Bool → Bool
is_class_kind kind.Partial dollar = false
is_class_kind k dollar = agree dollar (is_abstract_kind k)

abbrev pub fits_class : TypeDef → Bool
fits_class t = is_class_kind t.kind (is_abstract_type t.ty)

-- The types of a bound type are types of the program, and it is a reference without attributes and elements.
abbrev pub fits_bound : Rows → ℕ → TypeDef → Bool
fits_bound w n t = is_some (call_type_at w.bound n) && (is_reference_kind t.kind && (length t.attrs == 0 && not t.array))

abbrev pub fits_name : Rows → ℕ → TypeDef → BareTy → Bool
fits_name w n t (Named name given) = fits_class t
fits_name w n t Same = false
fits_name w n t (Rout arguments of) = fits_bound w n t
fits_name w n t (Iter arguments of) = fits_bound w n t

abbrev pub fits_kind : Rows → ℕ → TypeDef → Bool
fits_kind w n t = fits_name w n t (bare t.ty)

-- ---- attributes and elements

-- Their types are types of the program; an abstract type has no attributes, and only objects have elements.
abbrev pub has_layout : Rows → TypeDef → Bool
has_layout w t =
    t.slots == length t.attrs
    && (are_types w t.attrs
    && (is_type_or_none w t.elem
    && ((length t.attrs == 0 || not (is_abstract_kind t.kind)) && (not t.array || is_reference_kind t.kind))))

-- ---- bound types whose values may be used as those of others

-- A type is another or a subtype of it, with the same representation of values: where they differ, neither is immutable.
abbrev pub is_alike : Rows → ℕ → ℕ → Bool
is_alike w lower upper =
    lower == upper || (not (is_immutable w lower) && (not (is_immutable w upper) && is_strict_supertype w upper lower))

-- what is passed goes from the upper type to the lower one, and what is copied out from the lower one to the upper one
abbrev pub is_variance_alike : Rows → Mode → ℕ → ℕ → Bool
is_variance_alike w mode.In lower upper = is_alike w upper lower
is_variance_alike w mode.Once lower upper = is_alike w upper lower
is_variance_alike w mode.Out lower upper = is_alike w lower upper
is_variance_alike w mode.Inout lower upper = lower == upper

abbrev pub is_param_alike : Rows → ParamType → ParamType → Bool
is_param_alike w lower upper = same_mode lower.mode upper.mode && is_variance_alike w lower.mode lower.ty upper.ty

abbrev pub is_result_alike : Rows → Option ℕ → Option ℕ → Bool
is_result_alike w (Some lower) (Some upper) = is_alike w lower upper
is_result_alike w None None = true
is_result_alike w _ _ = false

abbrev pub call_types_alike : Rows → CallType → CallType → Bool
call_types_alike w lower upper =
    agree lower.iter upper.iter
    && (is_result_alike w lower.result upper.result && pointwise (is_param_alike w) lower.params upper.params)

abbrev pub both_alike : Rows → Option CallType → Option CallType → Bool
both_alike w (Some lower) (Some upper) = call_types_alike w lower upper
both_alike w _ _ = false

abbrev pub is_bound_supertype : Rows → ℕ → ℕ → Bool
is_bound_supertype w n upper = both_alike w (call_type_at w.bound n) (call_type_at w.bound upper)

-- ---- the proper supertypes of a type

-- a type may be a supertype of another: it is abstract, or a bound type for whose values those of the other may be used
abbrev pub is_valid_supertype : Rows → ℕ → ℕ → Bool
is_valid_supertype w n upper = is_abstract w upper || is_bound_supertype w n upper

abbrev pub are_valid_supertypes : Rows → ℕ → List ℕ → Bool
are_valid_supertypes w n [] = true
are_valid_supertypes w n (upper ∷ more) = is_valid_supertype w n upper && are_valid_supertypes w n more

-- all proper supertypes of a type are among these
abbrev pub has_supertypes_in : Rows → List ℕ → ℕ → Bool
has_supertypes_in w holders upper = option_map_or (λ t. is_part t.above holders) (slice_get w.types upper) false

abbrev pub have_supertypes_in : Rows → List ℕ → List ℕ → Bool
have_supertypes_in w holders [] = true
have_supertypes_in w holders (upper ∷ more) = has_supertypes_in w holders upper && have_supertypes_in w holders more

-- a type with this number and its proper supertypes are these
unfoldable pub makes_up : ℕ → List ℕ → TypeDef → Bool
makes_up upper above t = length t.above + 1 == length above && pointwise nat_eq (put_in upper t.above) above

abbrev pub is_next : Rows → List ℕ → ℕ → Bool
is_next w above upper = option_map_or (makes_up upper above) (slice_get w.types upper) false

abbrev pub has_next : Rows → List ℕ → List ℕ → Bool
has_next w above [] = false
has_next w above (upper ∷ more) = is_next w above upper || has_next w above more

-- The supertypes of the supertypes of a type are supertypes of it too. This is so where one of its supertypes has all the others as
-- supertypes, if it is so of that one; or where each of them has as supertypes only supertypes of the type, and perhaps the type itself.
abbrev pub is_closed : Rows → ℕ → List ℕ → Bool
is_closed w n above = has_next w above above || have_supertypes_in w (put_in n above) above

-- they come in ascending order, may be supertypes of it, and are closed
abbrev pub well_supertypes : Rows → ℕ → TypeDef → Bool
well_supertypes w n t = rises_from None t.above && (are_valid_supertypes w n t.above && is_closed w n t.above)

-- ---- all types

abbrev pub well_type : Rows → ℕ → TypeDef → Bool
well_type w n t = fits_kind w n t && (has_layout w t && well_supertypes w n t)

-- types from a number on
abbrev pub well_types : Rows → ℕ → List TypeDef → Bool
well_types w n [] = true
well_types w n (t ∷ more) = well_type w n t && well_types w (n + 1) more

-- ---- the types that have the same numbers in each program

abbrev pub is_plain_immutable : Rows → ℕ → Bool
is_plain_immutable w = of_type w (λ t. is_immutable_kind t.kind && length t.attrs == 0) false

-- a reference class without elements
abbrev pub is_plain_reference : Rows → ℕ → Bool
is_plain_reference w ty = is_reference w ty && (is_none (call_type_at w.bound ty) && not (has_array w ty))

abbrev pub has_no_attributes : Rows → ℕ → Bool
has_no_attributes w = of_type w (λ t. length t.attrs == 0) false

abbrev pub are_two_ints : List ℕ → Bool
are_two_ints (a ∷ b ∷ []) = a == int_type && b == int_type
are_two_ints _ = false

-- the kind of a fault and its line
abbrev pub has_fault_attributes : Rows → Bool
has_fault_attributes w = of_type w (λ t. are_two_ints t.attrs) false fault_type

abbrev pub well_base_types : Rows → Bool
well_base_types w =
    is_abstract w ob_type
    && (is_plain_immutable w bool_type
    && (is_plain_immutable w int_type
    && (is_plain_immutable w char_type
    && (is_plain_reference w str_type
    && (has_no_attributes w str_type
    && (is_plain_reference w fault_type
    && (has_fault_attributes w
    && is_strict_supertype w ob_type fault_type)))))))
