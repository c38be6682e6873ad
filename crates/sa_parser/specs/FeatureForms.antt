-- The forms of features, production by production.
use Rattle.std.specs.Prelude.{◌≡◌, ℕ, Bool, true, false, List, [], ◌∷◌, Option, Some, None, map}
use Rattle.sa_lexer.specs.declared.sign.Sign.TheVariants as sign
use Rattle.sa_lexer.specs.declared.word.Word.TheVariants as word
use Rattle.sa_lexer.specs.declared.token.TokenKind.{TokenKind}
use Rattle.sa_lexer.specs.declared.token.TokenKind.TheVariants as token
use Rattle.sa_ast.specs.declared.ty.Ty.{Ty}
use Rattle.sa_ast.specs.declared.stmt.Local.{Local}
use Rattle.sa_ast.specs.declared.stmt.Stmt.{Stmt}
use Rattle.sa_ast.specs.declared.class.Access.{Access}
use Rattle.sa_ast.specs.declared.class.Access.TheVariants.{Public, Private, ReadOnly}
use Rattle.sa_ast.specs.declared.class.ClassKind.{ClassKind}
use Rattle.sa_ast.specs.declared.class.ClassKind.TheVariants.{Partial}
use Rattle.sa_ast.specs.declared.class.FeatureBody.TheVariants as part
use Rattle.sa_ast.specs.declared.class.Feature.{Feature}
use Rattle.sa_ast.specs.declared.class.FeatureModifier.{FeatureModifier}
use Rattle.sa_parser_expr.specs.Lexemes.{Lexeme, name_of}
use Rattle.sa_parser_expr.specs.Tests.{is_sign, is_word, is_lower, is_feature}
use Rattle.sa_parser_expr.specs.Forms.{Form, give, refuse, shift, either, follow, list, nest, type, stmts, make, until_word}
use Rattle.sa_parser_expr.specs.StatementForms.{names_form, assigned_form, value_form}
use Rattle.sa_parser.specs.declared.file.FileKind.{FileKind}
use Rattle.sa_parser.specs.declared.file.FileKind.TheVariants.{Prelude, Program}
use Rattle.sa_parser.specs.Conditions.{no_clauses}
use Rattle.sa_parser.specs.Features.{Enclosing, variable_of, counted_from, feature_of}
use Rattle.sa_parser.specs.declared.declared.SharedParts.{SharedParts}
use Rattle.sa_parser.specs.declared.include.NewName.{NewName}
use Rattle.sa_parser.specs.declared.member.Declaration.{Declaration}
use Rattle.sa_parser.specs.declared.member.Declaration.TheVariants as member
use Rattle.sa_parser.specs.SignatureForms.{sig_form}
use Rattle.sa_parser.specs.ConditionForms.{clauses_form, holding_form}

-- ---- includes

-- a change of one name to another one with this access
abbrev pub change_to : Lexeme → Access → Option (List ℕ) → FeatureModifier
change_to f access to = record { from = name_of f; to = to; access = access }

-- F, after the arrow of a change and the words of access
unfoldable pub new_name_form : Lexeme → Access → Form FeatureModifier
new_name_form f access = shift is_feature (λ g. give (change_to f access (Some g.bytes))) refuse

-- [["private" | "readonly"] F], after the arrow of a change
unfoldable pub changed_form : Lexeme → Form FeatureModifier
changed_form f =
    shift (is_word word.Private) (λ _. new_name_form f Private)
    (shift (is_word word.Readonly) (λ _. new_name_form f ReadOnly)
    (shift is_feature (λ g. give (change_to f Public (Some g.bytes))) (give (change_to f Public None))))

-- change = F "->" new_name
unfoldable pub change_form : Form FeatureModifier
change_form = shift is_feature (λ f. shift (is_sign sign.Arrow) (λ _. changed_form f) refuse) refuse

-- [change {"," change}]
unfoldable pub optional_changes_form : Form (List FeatureModifier)
optional_changes_form = either (list change_form) (give [])

-- an include of this type
abbrev pub include_of : Bool → Ty → List FeatureModifier → Declaration
include_of private t changes = member.Include (record { ty = t; private = private; changes = changes })

-- type [change {"," change}], after the "include"
unfoldable pub include_form : Bool → Form Declaration
include_form private = follow (nest type) (λ t. make (λ changes. include_of private t changes) optional_changes_form)

-- ---- attributes, shareds and constants

-- names ":" type, after the "attr"
unfoldable pub attr_form : Access → Form (List Feature)
attr_form access =
    follow names_form
    (λ names. shift (is_sign sign.Colon) (λ _. make (λ t. map (variable_of access (Some t) part.Attr) names) (nest type)) refuse)

-- shared_parts = type [":=" expr]
unfoldable pub shared_parts_form : Form SharedParts
shared_parts_form = follow (nest type) (λ t. make (λ value. record { ty = t; value = value }) assigned_form)

-- names ":" shared_parts, after the "shared"
unfoldable pub shared_form : Access → Form (List Feature)
shared_form access =
    follow names_form
    (λ names. shift (is_sign sign.Colon)
    (λ _. make (λ parts. map (variable_of access (Some parts.ty) (part.Shared parts.value)) names) shared_parts_form)
    refuse)

-- {"," LNAME}
unfoldable pub more_names_form : Form (List Local)
more_names_form = shift (is_sign sign.Comma) (λ _. names_form) (give [])

-- type ":=" expr, after the name of a constant and the ":"
abbrev pub typed_constant_of : Access → Local → Form (List Feature)
typed_constant_of access name =
    follow (nest type)
    (λ t. shift (is_sign sign.Assign)
    (λ _. make (λ e. variable_of access (Some t) (part.Const (Some e) 0) name ∷ []) value_form)
    refuse)

-- the same after a lexeme that is the name
unfoldable pub typed_constant_form : Access → Lexeme → Form (List Feature)
typed_constant_form access l = typed_constant_of access (name_of l)

-- [":=" expr] {"," LNAME}, after the name of a constant
abbrev pub counted_constants_of : Access → Local → Form (List Feature)
counted_constants_of access name =
    follow assigned_form (λ value. make (λ others. counted_from 0 access value (name ∷ others)) more_names_form)

-- LNAME (":" type ":=" expr | [":=" expr] {"," LNAME}), after the "const"
unfoldable pub constants_form : Access → Form (List Feature)
constants_form access =
    shift is_lower
    (λ l. shift (is_sign sign.Colon) (λ _. typed_constant_form access l)
    (counted_constants_of access (name_of l)))
    refuse

-- the shared of this name
abbrev pub shared_of : Access → SharedParts → Local → Feature
shared_of access parts name = variable_of access (Some parts.ty) (part.Shared parts.value) name

-- attr | shared, or else another form
unfoldable pub declared_or : Access → Form Declaration → Form Declaration
declared_or access other =
    shift (is_word word.Attr) (λ _. make member.Variables (attr_form access))
    (shift (is_word word.Shared) (λ _. make member.Variables (shared_form access)) other)

-- ---- features

-- whole_body = "is" stmts "end"
unfoldable pub whole_body_form : Form (List Stmt)
whole_body_form = shift (is_word word.Is) (λ _. until_word word.End (nest stmts)) refuse

-- routine = sig clauses whole_body
unfoldable pub routine_form : Enclosing → Access → Form Declaration
routine_form class access =
    follow sig_form
    (λ sig. follow (clauses_form class.file_kind)
    (λ clauses. make (λ body. member.Called (feature_of sig access (part.Routine body)) clauses) whole_body_form))

-- stub, which is allowed in partial classes alone, or else another form
unfoldable pub stub_or : ClassKind → Access → Form Declaration → Form Declaration
stub_or Partial access other =
    shift (is_word word.Stub) (λ _. make (λ sig. member.Called (feature_of sig access part.Stub) no_clauses) sig_form) other
stub_or _ access other = other

-- sig, after the "builtin"
abbrev pub builtin_form : List ℕ → Access → Form Declaration
builtin_form name access =
    make (λ sig. member.Called (feature_of sig access (part.Builtin name sig.name.name)) no_clauses) sig_form

-- builtin, which is allowed in the prelude alone, or else another form
unfoldable pub builtin_or : FileKind → List ℕ → Access → Form Declaration → Form Declaration
builtin_or Prelude name access other =
    shift (is_word word.Builtin) (λ _. builtin_form name access) other
builtin_or Program name access other = other

-- stub | builtin | routine, after "private" or nothing
abbrev pub called_form : Enclosing → Access → Form Declaration
called_form class access = stub_or class.kind access (builtin_or class.file_kind class.name access (routine_form class access))

-- whether this is the access of private features
abbrev pub is_private : Access → Bool
is_private Private = true
is_private _ = false

-- attr | shared | const | include | stub | builtin | routine, after "private" or nothing
unfoldable pub open_form : Enclosing → Access → Form Declaration
open_form class access =
    declared_or access
    (shift (is_word word.Const) (λ _. make member.Variables (constants_form access))
    (shift (is_word word.Include) (λ _. include_form (is_private access)) (called_form class access)))

-- invariant, of which the prelude has none, where one is allowed, or else another form
unfoldable pub invariant_or : FileKind → Bool → Form Declaration → Form Declaration
invariant_or Program true other = shift (is_word word.Invariant) (λ _. make member.Invariant holding_form) other
invariant_or _ _ other = other

-- member = ["private"] (routine | stub | builtin | const | include) | ["private" | "readonly"] (attr | shared) | invariant, where
-- an invariant is allowed or not
unfoldable pub member_form : Enclosing → Bool → Form Declaration
member_form class invariants =
    shift (is_word word.Private) (λ _. open_form class Private)
    (shift (is_word word.Readonly) (λ _. declared_or ReadOnly refuse) (invariant_or class.file_kind invariants (open_form class Public)))

-- ---- what readers of members know

-- an invariant is there only where one is allowed
abbrev pub IsAllowed : FileKind → Bool → Option TokenKind → Type 0
IsAllowed file_kind invariants found = found ≡ Some (token.Word word.Invariant) → (file_kind ≡ Program) × (invariants ≡ true)

-- a feature for which no clause is written, as a member
abbrev pub without_clauses : Feature → Declaration
without_clauses feature = member.Called feature no_clauses

-- a new name after an arrow, as a change of this name
abbrev pub renamed : Lexeme → NewName → FeatureModifier
renamed f new = change_to f new.access new.name
