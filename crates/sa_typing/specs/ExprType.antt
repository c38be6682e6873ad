-- The types of expressions, and which values are assignable to which types.
use Rattle.std.specs.Prelude.{ℕ, Bool, true, false, ◌&&◌, ◌||◌, not, ◌==◌, if◌then◌else◌, Option, Some, None}
use Rattle.sa_ast.specs.TypeEquality.{same_mode}
use Rattle.sa_typing.specs.declared.expr_type.ExprType.{ExprType}
use Rattle.sa_typing.specs.declared.expr_type.ExprType.TheVariants.{NoValue, Of, BoxedOf}
use Rattle.sa_typing.specs.declared.expr_type.ParamType.{ParamType}
use Rattle.sa_typing.specs.Rows.{Rows, is_immutable, is_strict_supertype}

-- a value of this type, which isn't boxed
abbrev pub is_plain : ℕ → ExprType → Bool
is_plain ty (Of own) = own == ty
is_plain ty _ = false

abbrev pub is_value : ExprType → Bool
is_value NoValue = false
is_value _ = true

-- of a call whose result has this type, or that has none
abbrev pub result_of : Option ℕ → ExprType
result_of (Some ty) = Of ty
result_of None = NoValue

abbrev pub same_param : ParamType → ParamType → Bool
same_param a b = same_mode a.mode b.mode && a.ty == b.ty

-- both are the same type, or there is none
abbrev pub same_type : Option ℕ → Option ℕ → Bool
same_type (Some a) (Some b) = a == b
same_type None None = true
same_type _ _ = false

-- there is one, and it is this
abbrev pub is_just : ℕ → Option ℕ → Bool
is_just n (Some found) = found == n
is_just n None = false

-- both hold, or neither
abbrev pub agree : Bool → Bool → Bool
agree a b = if a then b else not b

-- What is assignable to a type: a value of this type or of a subtype. A value of an immutable class is boxed where an abstract type is
-- expected, and only there.
abbrev pub is_assignable : Rows → ExprType → ℕ → Bool
is_assignable w NoValue ty = false
is_assignable w (Of own) ty = own == ty || (not (is_immutable w own) && is_strict_supertype w ty own)
is_assignable w (BoxedOf own) ty = is_strict_supertype w ty own
