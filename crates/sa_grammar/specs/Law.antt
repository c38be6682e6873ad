-- The law of the grammar.
use Rattle.std.specs.Prelude.{List, true}
use Rattle.sa_parser_expr.specs.Lexemes.{Lexeme}
use Rattle.sa_parser_expr.specs.declared.grammar.ConditionScope.{ConditionScope}
use Rattle.sa_parser_expr.specs.Types.{IsType, IsTypes}
use Rattle.sa_parser_expr.specs.Expressions.{IsExpr, IsExprs, IsPost}
use Rattle.sa_parser_expr.specs.declared.types.CallableKind.{CallableKind}
use Rattle.sa_parser_expr.specs.Enclosures.{Where, enclosure_of}
use Rattle.sa_parser_expr.specs.Readings.{IsUnique, IsRead}
use Rattle.sa_parser_expr.specs.Forms.{list, nest, type, expr, post, stmts}
use Rattle.sa_parser_expr.specs.StatementForms.{stmt_form}
use Rattle.sa_parser_expr.specs.Grammar.{read_as}
use Rattle.sa_parser.specs.Statements.{IsStmt, IsStmts}
use Rattle.sa_parser.specs.Signatures.{IsFormals, IsSig}
use Rattle.sa_parser.specs.Features.{Enclosing, IsMember}
use Rattle.sa_parser.specs.declared.file.FileKind.{FileKind}
use Rattle.sa_parser.specs.Classes.{IsWholeClass, IsFile}
use Rattle.sa_parser.specs.SignatureForms.{formals_form, sig_form}
use Rattle.sa_parser.specs.FeatureForms.{member_form}
use Rattle.sa_parser.specs.ClassForms.{class_form, file_form}

-- lexemes spell one type at most
abbrev pub OneType : Type 0
OneType = IsUnique IsType

-- of each list the longest prefix is taken that begins a type: either it spells the type that is read, or the next lexeme is refused
abbrev pub TypesAreRead : Type 0
TypesAreRead = (ls : List Lexeme) → IsRead IsType ls (read_as (nest type) ls)

-- the same of types with `,` between them
abbrev pub OneListOfTypes : Type 0
OneListOfTypes = IsUnique IsTypes

abbrev pub ListsOfTypesAreRead : Type 0
ListsOfTypesAreRead = (ls : List Lexeme) → IsRead IsTypes ls (read_as (list (nest type)) ls)

-- the same of expressions, of each scope, outside of array literals and in them
abbrev pub OneExpr : Type 0
OneExpr = (s : ConditionScope) (x : Where) → IsUnique (IsExpr s (enclosure_of x))

abbrev pub ExprsAreRead : Type 0
ExprsAreRead = (s : ConditionScope) (x : Where) (ls : List Lexeme) → IsRead (IsExpr s (enclosure_of x)) ls (read_as (nest (expr s x)) ls)

-- the same of expressions without operators, as a bind requires one
abbrev pub OnePost : Type 0
OnePost = (s : ConditionScope) (x : Where) → IsUnique (IsPost s (enclosure_of x))

abbrev pub PostsAreRead : Type 0
PostsAreRead = (s : ConditionScope) (x : Where) (ls : List Lexeme) → IsRead (IsPost s (enclosure_of x)) ls (read_as (nest (post s x)) ls)

-- the same of expressions with `,` between them
abbrev pub OneListOfExprs : Type 0
OneListOfExprs = (s : ConditionScope) (x : Where) → IsUnique (IsExprs s (enclosure_of x))

abbrev pub ListsOfExprsAreRead : Type 0
ListsOfExprsAreRead = (s : ConditionScope) (x : Where) (ls : List Lexeme) → IsRead (IsExprs s (enclosure_of x)) ls (read_as (list (nest (expr s x))) ls)

-- the same of statements, with those that they contain
abbrev pub OneStmt : Type 0
OneStmt = IsUnique IsStmt

abbrev pub StmtsAreRead : Type 0
StmtsAreRead = (ls : List Lexeme) → IsRead IsStmt ls (read_as stmt_form ls)

-- the same of statements with `;` between them, of which each may be absent
abbrev pub OneListOfStmts : Type 0
OneListOfStmts = IsUnique IsStmts

abbrev pub ListsOfStmtsAreRead : Type 0
ListsOfStmtsAreRead = (ls : List Lexeme) → IsRead IsStmts ls (read_as (nest stmts) ls)

-- the same of the arguments of routines and of iters, between their parentheses
abbrev pub OneListOfFormals : Type 0
OneListOfFormals = (callable : CallableKind) → IsUnique (IsFormals callable)

abbrev pub ListsOfFormalsAreRead : Type 0
ListsOfFormalsAreRead = (callable : CallableKind) (ls : List Lexeme) → IsRead (IsFormals callable) ls (read_as (formals_form callable) ls)

-- the same of signatures
abbrev pub OneSig : Type 0
OneSig = IsUnique IsSig

abbrev pub SigsAreRead : Type 0
SigsAreRead = (ls : List Lexeme) → IsRead IsSig ls (read_as sig_form ls)

-- the same of members, in each kind of class and of file
abbrev pub OneMember : Type 0
OneMember = (class : Enclosing) → IsUnique (IsMember class)

abbrev pub MembersAreRead : Type 0
MembersAreRead = (class : Enclosing) (ls : List Lexeme) → IsRead (IsMember class) ls (read_as (member_form class true) ls)

-- the same of classes, in the prelude and in programs
abbrev pub OneClass : Type 0
OneClass = (file_kind : FileKind) → IsUnique (IsWholeClass file_kind)

abbrev pub ClassesAreRead : Type 0
ClassesAreRead = (file_kind : FileKind) (ls : List Lexeme) → IsRead (IsWholeClass file_kind) ls (read_as (class_form file_kind) ls)

-- the same of files, as lists of their classes
abbrev pub OneFile : Type 0
OneFile = (file_kind : FileKind) → IsUnique (IsFile file_kind)

abbrev pub FilesAreRead : Type 0
FilesAreRead = (file_kind : FileKind) (ls : List Lexeme) → IsRead (IsFile file_kind) ls (read_as (file_form file_kind) ls)
