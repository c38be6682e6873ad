-- Features: a relation for each production of their grammar, with a case for each of its alternatives.
use Rattle.std.specs.Prelude.{◌≡◌, ◌+◌, ℕ, true, false, List, [], ◌∷◌, ◌++◌, Option, Some, None, map}
use Rattle.sa_lexer.specs.declared.sign.Sign.TheVariants as sign
use Rattle.sa_lexer.specs.declared.word.Word.TheVariants as word
use Rattle.sa_ast.specs.declared.ty.Ty.{Ty}
use Rattle.sa_ast.specs.declared.expr.Expr.{Expr}
use Rattle.sa_ast.specs.declared.stmt.Local.{Local}
use Rattle.sa_ast.specs.declared.stmt.Stmt.{Stmt}
use Rattle.sa_ast.specs.declared.class.Access.{Access}
use Rattle.sa_ast.specs.declared.class.Access.TheVariants.{Public, Private, ReadOnly}
use Rattle.sa_ast.specs.declared.class.ClassKind.{ClassKind}
use Rattle.sa_ast.specs.declared.class.ClassKind.TheVariants.{Partial}
use Rattle.sa_ast.specs.declared.class.FeatureBody.{FeatureBody}
use Rattle.sa_ast.specs.declared.class.FeatureBody.TheVariants as part
use Rattle.sa_ast.specs.declared.class.Feature.{Feature}
use Rattle.sa_ast.specs.declared.class.FeatureModifier.{FeatureModifier}
use Rattle.sa_ast.specs.declared.contract.Condition.{Condition}
use Rattle.sa_parser_expr.specs.Lexemes.{Lexeme, IsWord, IsSign, IsFeature, name_of}
use Rattle.sa_parser_expr.specs.Types.{IsType}
use Rattle.sa_parser.specs.declared.contract.Clauses.{Clauses}
use Rattle.sa_parser.specs.declared.member.Declaration.{Declaration}
use Rattle.sa_parser.specs.declared.member.Declaration.TheVariants as member
use Rattle.sa_parser.specs.declared.declared.SharedParts.{SharedParts}
use Rattle.sa_parser.specs.declared.file.FileKind.{FileKind}
use Rattle.sa_parser.specs.declared.file.FileKind.TheVariants.{Prelude, Program}
use Rattle.sa_parser.specs.declared.signature.HeaderSignature.{HeaderSignature}
use Rattle.sa_parser.specs.Conditions.{IsClauses, IsInvariant, no_clauses}
use Rattle.sa_parser.specs.Names.{IsLower, IsMoreNames, IsNames}
use Rattle.sa_parser.specs.Signatures.{IsSig}
use Rattle.sa_parser.specs.Statements.{IsAssigned, IsBody, IsValue}

-- ---- access

-- ["private"]
pub data IsPrivate : List Lexeme → Access → Type 0 where
  absent : IsPrivate [] Public
  private_word : {w : Lexeme} → IsWord word.Private w → IsPrivate (w ∷ []) Private

-- ["private" | "readonly"]
pub data IsAccess : List Lexeme → Access → Type 0 where
  private : {ls : List Lexeme} {access : Access} → IsPrivate ls access → IsAccess ls access
  readonly_word : {w : Lexeme} → IsWord word.Readonly w → IsAccess (w ∷ []) ReadOnly

-- ---- includes

-- new_name = [["private" | "readonly"] F], after the arrow of a change
pub data IsNewName : List Lexeme → Access → Option (List ℕ) → Type 0 where
  absent : IsNewName [] Public None
  given : {ls : List Lexeme} {f : Lexeme} {access : Access} → IsAccess ls access → IsFeature f
      → IsNewName (ls ++ f ∷ []) access (Some f.bytes)

-- change = F "->" new_name
pub data IsChange : List Lexeme → FeatureModifier → Type 0 where
  change : {f arrow : Lexeme} {ls : List Lexeme} {access : Access} {to : Option (List ℕ)}
      → IsFeature f → IsSign sign.Arrow arrow → IsNewName ls access to
      → IsChange (f ∷ arrow ∷ ls) (record { from = name_of f; to = to; access = access })

-- change {"," change}
pub data IsChanges : List Lexeme → List FeatureModifier → Type 0 where
  last : {ls : List Lexeme} {change : FeatureModifier} → IsChange ls change → IsChanges ls (change ∷ [])
  more : {ls ms : List Lexeme} {comma : Lexeme} {change : FeatureModifier} {others : List FeatureModifier}
      → IsChange ls change → IsSign sign.Comma comma → IsChanges ms others
      → IsChanges (ls ++ comma ∷ ms) (change ∷ others)

-- [change {"," change}]
pub data IsOptionalChanges : List Lexeme → List FeatureModifier → Type 0 where
  absent : IsOptionalChanges [] []
  given : {ls : List Lexeme} {changes : List FeatureModifier} → IsChanges ls changes → IsOptionalChanges ls changes

-- ---- attributes, shareds and constants: a feature for each name, with a type and an initialiser of its own

-- a feature without arguments
abbrev pub variable_of : Access → Option Ty → FeatureBody → Local → Feature
variable_of access t part name = record { name = name; access = access; formals = []; result = t; part = part }

-- constants of no written type, numbered from here on: each is the initialiser plus its number
abbrev pub counted_from : ℕ → Access → Option Expr → List Local → List Feature
counted_from number access value [] = []
counted_from number access value (name ∷ names) =
    variable_of access None (part.Const value number) name ∷ counted_from (number + 1) access value names

-- shared_parts = type [":=" expr]
pub data IsSharedParts : List Lexeme → SharedParts → Type 0 where
  shared_parts : {ls ms : List Lexeme} {t : Ty} {value : Option Expr} → IsType ls t → IsAssigned ms value
      → IsSharedParts (ls ++ ms) (record { ty = t; value = value })

-- attr | shared | const, after the words of access
pub data IsDeclared : Access → List Lexeme → List Feature → Type 0 where
  attr : {access : Access} {w colon : Lexeme} {ls ms : List Lexeme} {names : List Local} {t : Ty}
      → IsWord word.Attr w → IsNames ls names → IsSign sign.Colon colon → IsType ms t
      → IsDeclared access (w ∷ ls ++ colon ∷ ms) (map (variable_of access (Some t) part.Attr) names)
  shared : {access : Access} {w colon : Lexeme} {ls ms : List Lexeme} {names : List Local} {parts : SharedParts}
      → IsWord word.Shared w → IsNames ls names → IsSign sign.Colon colon → IsSharedParts ms parts
      → IsDeclared access (w ∷ ls ++ colon ∷ ms) (map (variable_of access (Some parts.ty) (part.Shared parts.value)) names)

-- "const" LNAME (":" type ":=" expr | [":=" expr] {"," LNAME}), after the words of access
pub data IsConstants : Access → List Lexeme → List Feature → Type 0 where
  typed_constant : {access : Access} {w l colon gets : Lexeme} {ls ms : List Lexeme} {t : Ty} {e : Expr}
      → IsWord word.Const w → IsLower l → IsSign sign.Colon colon → IsType ls t → IsSign sign.Assign gets → IsValue ms e
      → IsConstants access (w ∷ l ∷ colon ∷ ls ++ gets ∷ ms) (variable_of access (Some t) (part.Const (Some e) 0) (name_of l) ∷ [])
  counted_constants : {access : Access} {w l : Lexeme} {ls ms : List Lexeme} {value : Option Expr} {names : List Local}
      → IsWord word.Const w → IsLower l → IsAssigned ls value → IsMoreNames ms names
      → IsConstants access (w ∷ l ∷ ls ++ ms) (counted_from 0 access value (name_of l ∷ names))

-- ---- features

-- the feature of a signature
abbrev pub feature_of : HeaderSignature → Access → FeatureBody → Feature
feature_of sig access part = record { name = sig.name; access = access; formals = sig.formals; result = sig.result; part = part }

-- the class that has the members: its name, its kind, and the kind of its file
pub record Enclosing : Type 0 where
  pub name : List ℕ
  pub kind : ClassKind
  pub file_kind : FileKind

-- whole_body = "is" stmts "end"
pub data IsWholeBody : List Lexeme → List Stmt → Type 0 where
  whole_body : {closing : Lexeme} {ls : List Lexeme} {list : List Stmt} → IsBody word.Is ls list → IsWord word.End closing
      → IsWholeBody (ls ++ closing ∷ []) list

-- routine | stub | builtin, after the word of access. Stubs are allowed in partial classes alone, and built-in features in the
-- prelude alone
pub data IsCalled (class : Enclosing) : Access → List Lexeme → Feature → Clauses → Type 0 where
  routine : {access : Access} {ls cs ms : List Lexeme} {sig : HeaderSignature} {clauses : Clauses} {body : List Stmt}
      → IsSig ls sig → IsClauses class.file_kind cs clauses → IsWholeBody ms body
      → IsCalled class access (ls ++ cs ++ ms) (feature_of sig access (part.Routine body)) clauses
  stub : {access : Access} {w : Lexeme} {ls : List Lexeme} {sig : HeaderSignature} → class.kind ≡ Partial → IsWord word.Stub w → IsSig ls sig
      → IsCalled class access (w ∷ ls) (feature_of sig access part.Stub) no_clauses
  builtin : {access : Access} {w : Lexeme} {ls : List Lexeme} {sig : HeaderSignature}
      → class.file_kind ≡ Prelude → IsWord word.Builtin w → IsSig ls sig
      → IsCalled class access (w ∷ ls) (feature_of sig access (part.Builtin class.name sig.name.name)) no_clauses

-- member = ["private"] (routine | stub | builtin | const | include) | ["private" | "readonly"] (attr | shared) | invariant.
-- The prelude has no invariants
pub data IsMember (class : Enclosing) : List Lexeme → Declaration → Type 0 where
  called : {ls ms : List Lexeme} {access : Access} {feature : Feature} {clauses : Clauses}
      → IsPrivate ls access → IsCalled class access ms feature clauses
      → IsMember class (ls ++ ms) (member.Called feature clauses)
  declared : {ls ms : List Lexeme} {access : Access} {features : List Feature} → IsAccess ls access → IsDeclared access ms features
      → IsMember class (ls ++ ms) (member.Variables features)
  constants : {ls ms : List Lexeme} {access : Access} {features : List Feature} → IsPrivate ls access → IsConstants access ms features
      → IsMember class (ls ++ ms) (member.Variables features)
  include : {w : Lexeme} {ls ms : List Lexeme} {t : Ty} {changes : List FeatureModifier}
      → IsWord word.Include w → IsType ls t → IsOptionalChanges ms changes
      → IsMember class (w ∷ ls ++ ms) (member.Include (record { ty = t; private = false; changes = changes }))
  private_include : {p w : Lexeme} {ls ms : List Lexeme} {t : Ty} {changes : List FeatureModifier}
      → IsWord word.Private p → IsWord word.Include w → IsType ls t → IsOptionalChanges ms changes
      → IsMember class (p ∷ w ∷ ls ++ ms) (member.Include (record { ty = t; private = true; changes = changes }))
  invariant : {ls : List Lexeme} {holds : Condition} → class.file_kind ≡ Program → IsInvariant ls holds
      → IsMember class ls (member.Invariant holds)

-- ---- what members give

-- the features of a member
abbrev pub features_of : Declaration → List Feature
features_of (member.Variables features) = features
features_of (member.Called feature clauses) = feature ∷ []
features_of (member.Include inherited) = []
features_of (member.Invariant holds) = []
