-- Classes and files: a relation for each production of their grammar, with a case for each of its alternatives.
use Rattle.std.specs.Prelude.{◌≡◌, ℕ, ◌+◌, ◌≤◌, List, [], ◌∷◌, ◌++◌, length, map, Option, Some, None}
use Rattle.std.specs.Option.{option_to_list}
use Rattle.std.specs.List.{flat_map}
use Rattle.sa_lexer.specs.declared.token.TokenKind.TheVariants.{ClassName, AbstractName}
use Rattle.sa_lexer.specs.declared.sign.Sign.{Sign}
use Rattle.sa_lexer.specs.declared.sign.Sign.TheVariants as sign
use Rattle.sa_lexer.specs.declared.word.Word.TheVariants as word
use Rattle.sa_ast.specs.declared.ty.Ty.{Ty}
use Rattle.sa_ast.specs.declared.class.Access.TheVariants.{Public}
use Rattle.sa_ast.specs.declared.class.ClassKind.{ClassKind}
use Rattle.sa_ast.specs.declared.class.ClassKind.TheVariants.{Reference, Immutable, Abstract, Partial}
use Rattle.sa_ast.specs.declared.class.FeatureBody.TheVariants as part
use Rattle.sa_ast.specs.declared.class.TypeParam.{TypeParam}
use Rattle.sa_ast.specs.declared.class.Feature.{Feature}
use Rattle.sa_ast.specs.declared.class.Include.{Include}
use Rattle.sa_ast.specs.declared.class.Class.{Class}
use Rattle.sa_ast.specs.declared.contract.Condition.{Condition}
use Rattle.sa_ast.specs.declared.contract.Contract.{Contract}
use Rattle.sa_ast.specs.declared.contract.Contract.TheVariants as contract
use Rattle.sa_parser_expr.specs.Lexemes.{Lexeme, IsWord, IsSign, name_of}
use Rattle.sa_parser_expr.specs.Types.{IsType, IsTypes}
use Rattle.sa_parser.specs.declared.class.DeclaredEdges.{DeclaredEdges}
use Rattle.sa_parser.specs.declared.class.Head.{Head}
use Rattle.sa_parser.specs.declared.class.ClassBody.{ClassBody}
use Rattle.sa_parser.specs.declared.class.WholeClass.{WholeClass}
use Rattle.sa_parser.specs.declared.file.FileKind.{FileKind}
use Rattle.sa_parser.specs.declared.file.ParsedFiles.{ParsedFiles}
use Rattle.sa_parser.specs.declared.member.ClassContext.{ClassContext}
use Rattle.sa_parser.specs.declared.member.Declaration.{Declaration}
use Rattle.sa_parser.specs.declared.member.Declaration.TheVariants as member
use Rattle.sa_parser.specs.declared.signature.HeaderSignature.{HeaderSignature}
use Rattle.sa_parser.specs.Features.{Enclosing, IsMember, feature_of, features_of}
use Rattle.sa_parser.specs.Signatures.{IsSig}

-- ---- heads

-- CNAME
abbrev pub IsClassName : Lexeme → Type 0
IsClassName l = l.kind ≡ ClassName

-- ANAME
abbrev pub IsAbstractName : Lexeme → Type 0
IsAbstractName l = l.kind ≡ AbstractName

-- param = CNAME ["<" type]
pub data IsParam : List Lexeme → TypeParam → Type 0 where
  free : {c : Lexeme} → IsClassName c → IsParam (c ∷ []) (record { name = name_of c; bound = None })
  bounded : {c less : Lexeme} {ls : List Lexeme} {t : Ty} → IsClassName c → IsSign sign.Less less → IsType ls t
      → IsParam (c ∷ less ∷ ls) (record { name = name_of c; bound = Some t })

-- param_list = param {"," param}
pub data IsParamList : List Lexeme → List TypeParam → Type 0 where
  last : {ls : List Lexeme} {p : TypeParam} → IsParam ls p → IsParamList ls (p ∷ [])
  more : {ls ms : List Lexeme} {comma : Lexeme} {p : TypeParam} {others : List TypeParam}
      → IsParam ls p → IsSign sign.Comma comma → IsParamList ms others
      → IsParamList (ls ++ comma ∷ ms) (p ∷ others)

-- params = ["{" param_list "}"]
pub data IsParams : List Lexeme → List TypeParam → Type 0 where
  absent : IsParams [] []
  given : {opening closing : Lexeme} {ls : List Lexeme} {params : List TypeParam}
      → IsSign sign.LeftBrace opening → IsParamList ls params → IsSign sign.RightBrace closing
      → IsParams (opening ∷ ls ++ closing ∷ []) params

-- ["<" types], or the same with `>`
pub data IsTypesAfter : Sign → List Lexeme → List Ty → Type 0 where
  absent : {s : Sign} → IsTypesAfter s [] []
  given : {s : Sign} {l : Lexeme} {ls : List Lexeme} {types : List Ty} → IsSign s l → IsTypes ls types → IsTypesAfter s (l ∷ ls) types

-- edges = ["<" types] [">" types]
pub data IsEdges : List Lexeme → DeclaredEdges → Type 0 where
  edges : {bs us : List Lexeme} {below above : List Ty} → IsTypesAfter sign.Less bs below → IsTypesAfter sign.Greater us above
      → IsEdges (bs ++ us) (record { below = below; above = above })

-- abstract_head = ANAME params edges
pub data IsAbstractHead : List Lexeme → Head → Type 0 where
  abstract_head : {name : Lexeme} {ps es : List Lexeme} {params : List TypeParam} {edges : DeclaredEdges}
      → IsAbstractName name → IsParams ps params → IsEdges es edges
      → IsAbstractHead (name ∷ ps ++ es) (record { name = name_of name; params = params; edges = edges })

-- concrete_head = CNAME params ["<" types]
pub data IsConcreteHead : List Lexeme → Head → Type 0 where
  concrete_head : {name : Lexeme} {ps bs : List Lexeme} {params : List TypeParam} {below : List Ty}
      → IsClassName name → IsParams ps params → IsTypesAfter sign.Less bs below
      → IsConcreteHead (name ∷ ps ++ bs) (record { name = name_of name; params = params; edges = record { below = below; above = [] } })

-- ---- insides

-- [sig]
pub data IsOptionalSignature : List Lexeme → List Feature → Type 0 where
  absent : IsOptionalSignature [] []
  given : {ls : List Lexeme} {sig : HeaderSignature} → IsSig ls sig → IsOptionalSignature ls (feature_of sig Public part.Signature ∷ [])

-- [sig] {";" [sig]}
pub data IsSignatures : List Lexeme → List Feature → Type 0 where
  last : {ls : List Lexeme} {features : List Feature} → IsOptionalSignature ls features → IsSignatures ls features
  more : {ls ms : List Lexeme} {semicolon : Lexeme} {features others : List Feature}
      → IsOptionalSignature ls features → IsSign sign.Semicolon semicolon → IsSignatures ms others
      → IsSignatures (ls ++ semicolon ∷ ms) (features ++ others)

-- members = [member] {";" [member]}
pub data IsMembers (class : Enclosing) : List Lexeme → List Declaration → Type 0 where
  nothing : IsMembers class [] []
  last : {ls : List Lexeme} {m : Declaration} → IsMember class ls m → IsMembers class ls (m ∷ [])
  empty : {semicolon : Lexeme} {ls : List Lexeme} {members : List Declaration}
      → IsSign sign.Semicolon semicolon → IsMembers class ls members
      → IsMembers class (semicolon ∷ ls) members
  more : {ls ms : List Lexeme} {semicolon : Lexeme} {m : Declaration} {members : List Declaration}
      → IsMember class ls m → IsSign sign.Semicolon semicolon → IsMembers class ms members
      → IsMembers class (ls ++ semicolon ∷ ms) (m ∷ members)

-- the include of a member
abbrev pub includes_of : Declaration → List Include
includes_of (member.Include include) = include ∷ []
includes_of _ = []

-- the invariant of a member
abbrev pub invariants_of : Declaration → List Condition
invariants_of (member.Invariant holds) = holds ∷ []
invariants_of _ = []

-- ---- classes

-- a class as it is written: what comes before its `is`, and its members
pub record Written : Type 0 where
  pub kind : ClassKind
  pub head : Head
  pub signatures : List Feature
  pub members : List Declaration

-- its features: the signatures of an abstract class, and else those of its members
abbrev pub features_written : Written → List Feature
features_written w = w.signatures ++ flat_map features_of w.members

-- its class
abbrev pub class_of : Written → Class
class_of w =
    record {
      kind = w.kind;
      name = w.head.name;
      params = w.head.params;
      below = w.head.edges.below;
      above = w.head.edges.above;
      includes = flat_map includes_of w.members;
      features = features_written w;
    }

-- ["immutable" | "partial"]
pub data IsKind : List Lexeme → ClassKind → Type 0 where
  reference : IsKind [] Reference
  immutable_word : {w : Lexeme} → IsWord word.Immutable w → IsKind (w ∷ []) Immutable
  partial_word : {w : Lexeme} → IsWord word.Partial w → IsKind (w ∷ []) Partial

-- class = "abstract" "class" abstract_head "is" [sig] {";" [sig]} "end"
--       | ["immutable" | "partial"] "class" concrete_head "is" members "end", of which one is an invariant at most
pub data IsWholeClass (file_kind : FileKind) : List Lexeme → Written → Type 0 where
  abstract_class : {a w is closing : Lexeme} {hs ls : List Lexeme} {head : Head} {features : List Feature}
      → IsWord word.Abstract a → IsWord word.Class w → IsAbstractHead hs head
      → IsWord word.Is is → IsSignatures ls features → IsWord word.End closing
      → IsWholeClass file_kind (a ∷ w ∷ hs ++ is ∷ ls ++ closing ∷ [])
      (record { kind = Abstract; head = head; signatures = features; members = [] })
  concrete_class : {w is closing : Lexeme} {ks hs ls : List Lexeme} {kind : ClassKind} {head : Head} {members : List Declaration}
      → IsKind ks kind → IsWord word.Class w → IsConcreteHead hs head → IsWord word.Is is
      → IsMembers (record { name = head.name.name; kind = kind; file_kind = file_kind }) ls members
      → length (flat_map invariants_of members) ≤ 1 → IsWord word.End closing
      → IsWholeClass file_kind (ks ++ w ∷ hs ++ is ∷ ls ++ closing ∷ [])
      (record { kind = kind; head = head; signatures = []; members = members })

-- [class]
pub data IsOptionalClass (file_kind : FileKind) : List Lexeme → List Written → Type 0 where
  absent : IsOptionalClass file_kind [] []
  given : {ls : List Lexeme} {c : Written} → IsWholeClass file_kind ls c → IsOptionalClass file_kind ls (c ∷ [])

-- file = [class] {";" [class]}
pub data IsFile (file_kind : FileKind) : List Lexeme → List Written → Type 0 where
  last : {ls : List Lexeme} {classes : List Written} → IsOptionalClass file_kind ls classes → IsFile file_kind ls classes
  more : {ls ms : List Lexeme} {semicolon : Lexeme} {classes others : List Written}
      → IsOptionalClass file_kind ls classes → IsSign sign.Semicolon semicolon → IsFile file_kind ms others
      → IsFile file_kind (ls ++ semicolon ∷ ms) (classes ++ others)

-- ---- contracts

-- the contract of the feature at an index of the class at an index, if it has one of the two clauses
abbrev pub contract_of : ℕ → ℕ → Option Condition → Option Condition → List Contract
contract_of class feature None None = []
contract_of class feature pre post = contract.Clauses class feature pre post ∷ []

-- the clauses of these members, of which the first feature has this index
abbrev pub clauses_from : ℕ → ℕ → List Declaration → List Contract
clauses_from class place [] = []
clauses_from class place (member.Called feature clauses ∷ members) =
    contract_of class place clauses.pre clauses.post ++ clauses_from class (place + 1) members
clauses_from class place (m ∷ members) = clauses_from class (place + length (features_of m)) members

-- the contracts of the class at an index: the clauses of its features in their order, and after them its invariant
abbrev pub contracts_of : ℕ → Written → List Contract
contracts_of class w = clauses_from class 0 w.members ++ map (contract.Invariant class) (flat_map invariants_of w.members)

-- those of these classes, the first of which has this index
abbrev pub contracts_from : ℕ → List Written → List Contract
contracts_from class [] = []
contracts_from class (w ∷ others) = contracts_of class w ++ contracts_from (class + 1) others

-- ---- what a reader gives

-- the class that has the members, as the grammar sees it
abbrev pub enclosing : ClassContext → Enclosing
enclosing class = record { name = class.name.now; kind = class.kind; file_kind = class.file_kind }

-- the last of these, if there is one
abbrev pub last_of : {A : Type 0} → List A → Option A
last_of [] = None
last_of (a ∷ []) = Some a
last_of (a ∷ b ∷ others) = last_of (b ∷ others)

-- the body of the class at an index, of these members
abbrev pub class_body_of : ℕ → List Declaration → ClassBody
class_body_of class members =
    record {
      includes = flat_map includes_of members;
      features = flat_map features_of members;
      clauses = clauses_from class 0 members;
      invariant = last_of (flat_map invariants_of members);
    }

-- the body of an abstract class, of these signatures
abbrev pub signed : List Feature → ClassBody
signed features = record { includes = []; features = features; clauses = []; invariant = None }

-- a class of what comes before its `is` and after it
abbrev pub whole_with : ClassKind → Head → ClassBody → WholeClass
whole_with kind head inside =
    record {
      class = record {
        kind = kind;
        name = head.name;
        params = head.params;
        below = head.edges.below;
        above = head.edges.above;
        includes = inside.includes;
        features = inside.features;
      };
      clauses = inside.clauses;
      invariant = inside.invariant;
    }

-- the class at an index, with its contracts: of the invariants of its members there is one at most
abbrev pub whole_of : ℕ → Written → WholeClass
whole_of class w =
    record { class = class_of w; clauses = clauses_from class 0 w.members; invariant = last_of (flat_map invariants_of w.members) }

-- its contracts: those of its features, and after them its invariant
abbrev pub contracts_in : ℕ → WholeClass → List Contract
contracts_in class whole = whole.clauses ++ map (contract.Invariant class) (option_to_list whole.invariant)

-- these classes and their contracts, the first class of which has this index
abbrev pub parsed_of : ℕ → List Written → ParsedFiles
parsed_of first written = record { classes = map class_of written; contracts = contracts_from first written }

-- ---- one member after the others

-- the clauses of a member whose first feature has this index
abbrev pub clauses_at : ℕ → ℕ → Declaration → List Contract
clauses_at class place (member.Called feature clauses) = contract_of class place clauses.pre clauses.post
clauses_at class place _ = []

-- an invariant, and the one before where there is none
abbrev pub or_before : List Condition → Option Condition → Option Condition
or_before [] before = before
or_before (holds ∷ others) before = Some holds
