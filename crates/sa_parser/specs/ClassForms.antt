-- The forms of classes and files, production by production.
use Rattle.std.specs.Prelude.{◌≡◌, ◌≢◌, ℕ, ◌+◌, Bool, true, false, List, [], ◌∷◌, ◌++◌, Some, None}
use Rattle.std.specs.List.{flat_map}
use Rattle.sa_lexer.specs.declared.token.Token.{Token}
use Rattle.sa_lexer.specs.declared.token.TokenKind.TheVariants as token
use Rattle.sa_lexer.specs.declared.sign.Sign.{Sign}
use Rattle.sa_lexer.specs.declared.sign.Sign.TheVariants as sign
use Rattle.sa_lexer.specs.declared.word.Word.TheVariants as word
use Rattle.sa_ast.specs.declared.ty.Ty.{Ty}
use Rattle.sa_ast.specs.declared.class.Access.TheVariants.{Public}
use Rattle.sa_ast.specs.declared.class.ClassKind.{ClassKind}
use Rattle.sa_ast.specs.declared.class.ClassKind.TheVariants.{Reference, Immutable, Abstract, Partial}
use Rattle.sa_ast.specs.declared.class.FeatureBody.TheVariants as part
use Rattle.sa_ast.specs.declared.class.TypeParam.{TypeParam}
use Rattle.sa_ast.specs.declared.class.Feature.{Feature}
use Rattle.sa_parser_expr.specs.Lexemes.{name_of}
use Rattle.sa_parser_expr.specs.Positions.{kind_at}
use Rattle.sa_parser_expr.specs.Tests.{is_sign, is_word, is_class_name, is_abstract_name}
use Rattle.sa_parser_expr.specs.Forms.{Form, give, refuse, shift, either, follow, separated}
use Rattle.sa_parser_expr.specs.Forms.{repeat, list, nest, type, make, until, until_word}
use Rattle.sa_parser_expr.specs.StatementForms.{joined}
use Rattle.sa_parser.specs.declared.file.FileKind.{FileKind}
use Rattle.sa_parser.specs.Features.{Enclosing, feature_of}
use Rattle.sa_parser.specs.Classes.{Written, invariants_of}
use Rattle.sa_parser.specs.declared.class.DeclaredEdges.{DeclaredEdges}
use Rattle.sa_parser.specs.declared.class.Head.{Head}
use Rattle.sa_parser.specs.declared.member.Declaration.{Declaration}
use Rattle.sa_parser.specs.SignatureForms.{sig_form}
use Rattle.sa_parser.specs.FeatureForms.{member_form}

-- ---- heads

-- param = CNAME ["<" type]
unfoldable pub param_form : Form TypeParam
param_form =
    shift is_class_name
    (λ c. shift (is_sign sign.Less) (λ _. make (λ t. record { name = name_of c; bound = Some t }) (nest type))
    (give (record { name = name_of c; bound = None })))
    refuse

-- params = ["{" param {"," param} "}"]
unfoldable pub params_form : Form (List TypeParam)
params_form = shift (is_sign sign.LeftBrace) (λ _. until sign.RightBrace (list param_form)) (give [])

-- ["<" type {"," type}], or the same with `>`
unfoldable pub types_after_form : Sign → Form (List Ty)
types_after_form s = shift (is_sign s) (λ _. list (nest type)) (give [])

-- edges = ["<" types] [">" types]
unfoldable pub edges_form : Form DeclaredEdges
edges_form =
    follow (types_after_form sign.Less) (λ below. make (λ above. record { below = below; above = above }) (types_after_form sign.Greater))

-- abstract_head = ANAME params ["<" types] [">" types]
unfoldable pub abstract_head_form : Form Head
abstract_head_form =
    shift is_abstract_name
    (λ c. follow params_form
    (λ params. follow (types_after_form sign.Less)
    (λ below. make (λ above. record { name = name_of c; params = params; edges = record { below = below; above = above } })
    (types_after_form sign.Greater))))
    refuse

-- concrete_head = CNAME params ["<" types]
unfoldable pub concrete_head_form : Form Head
concrete_head_form =
    shift is_class_name
    (λ c. follow params_form
    (λ params. make (λ below. record { name = name_of c; params = params; edges = record { below = below; above = [] } })
    (types_after_form sign.Less)))
    refuse

-- ---- insides

-- [sig], as a list of features
unfoldable pub optional_sig_form : Form (List Feature)
optional_sig_form = either (make (λ sig. feature_of sig Public part.Signature ∷ []) sig_form) (give [])

-- [sig] {";" [sig]}
unfoldable pub signatures_form : Form (List Feature)
signatures_form = make joined (separated (is_sign sign.Semicolon) optional_sig_form)

-- "is" [sig] {";" [sig]} "end"
abbrev pub signatures_inside_form : Form (List Feature)
signatures_inside_form = shift (is_word word.Is) (λ _. until_word word.End signatures_form) refuse

-- [member], as a list, where an invariant is allowed or not
unfoldable pub optional_member_form : Enclosing → Bool → Form (List Declaration)
optional_member_form class invariants = either (make (λ m. m ∷ []) (member_form class invariants)) (give [])

abbrev pub is_empty : {A : Type 0} → List A → Bool
is_empty [] = true
is_empty (a ∷ more) = false

-- no invariant is among these members
abbrev pub none_yet : List Declaration → Bool
none_yet all = is_empty (flat_map invariants_of all)

-- members = [member] {";" [member]}, of which one is an invariant at most
unfoldable pub members_form : Enclosing → Form (List Declaration)
members_form class =
    follow (optional_member_form class true)
    (repeat (is_sign sign.Semicolon) (λ all _. make (λ more. all ++ more) (optional_member_form class (none_yet all))))

-- "is" members "end"
abbrev pub members_inside_form : Enclosing → Form (List Declaration)
members_inside_form class = shift (is_word word.Is) (λ _. until_word word.End (members_form class)) refuse

-- ---- classes

-- the kind of class by the word at an index, and the index after the word
pub data KindAt (tokens : List Token) (from : ℕ) : ClassKind → ℕ → Type 0 where
  immutable_there : kind_at tokens from ≡ Some (token.Word word.Immutable) → KindAt tokens from Immutable (from + 1)
  partial_there : kind_at tokens from ≡ Some (token.Word word.Partial) → KindAt tokens from Partial (from + 1)
  no_word : kind_at tokens from ≢ Some (token.Word word.Immutable) → kind_at tokens from ≢ Some (token.Word word.Partial)
      → KindAt tokens from Reference from

-- "class" abstract_head "is" [sig] {";" [sig]} "end"
unfoldable pub abstract_form : Form Written
abstract_form =
    shift (is_word word.Class)
    (λ _. follow abstract_head_form
    (λ head. shift (is_word word.Is)
    (λ _. make (λ features. record { kind = Abstract; head = head; signatures = features; members = [] })
    (until_word word.End signatures_form))
    refuse))
    refuse

-- "class" concrete_head "is" members "end"
unfoldable pub concrete_form : FileKind → ClassKind → Form Written
concrete_form file_kind kind =
    shift (is_word word.Class)
    (λ _. follow concrete_head_form
    (λ head. shift (is_word word.Is)
    (λ _. make (λ members. record { kind = kind; head = head; signatures = []; members = members })
    (until_word word.End (members_form (record { name = head.name.name; kind = kind; file_kind = file_kind }))))
    refuse))
    refuse

-- ["immutable" | "partial"] concrete
abbrev pub concrete_class_form : FileKind → Form Written
concrete_class_form file_kind =
    shift (is_word word.Immutable) (λ _. concrete_form file_kind Immutable)
    (shift (is_word word.Partial) (λ _. concrete_form file_kind Partial) (concrete_form file_kind Reference))

-- class = "abstract" abstract | ["immutable" | "partial"] concrete
unfoldable pub class_form : FileKind → Form Written
class_form file_kind = shift (is_word word.Abstract) (λ _. abstract_form) (concrete_class_form file_kind)

-- [class], as a list
unfoldable pub optional_class_form : FileKind → Form (List Written)
optional_class_form file_kind = either (make (λ c. c ∷ []) (class_form file_kind)) (give [])

-- file = [class] {";" [class]}
unfoldable pub file_form : FileKind → Form (List Written)
file_form file_kind = make joined (separated (is_sign sign.Semicolon) (optional_class_form file_kind))
