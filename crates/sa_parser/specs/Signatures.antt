-- Signatures: a relation for each production of their grammar, with a case for each of its alternatives.
use Rattle.std.specs.Prelude.{List, [], ◌∷◌, ◌++◌, Option, Some, None, map}
use Rattle.sa_lexer.specs.declared.token.TokenKind.{TokenKind}
use Rattle.sa_lexer.specs.declared.token.TokenKind.TheVariants.{IterName}
use Rattle.sa_lexer.specs.declared.sign.Sign.TheVariants as sign
use Rattle.sa_ast.specs.declared.ty.Mode.{Mode}
use Rattle.sa_ast.specs.declared.ty.Ty.{Ty}
use Rattle.sa_ast.specs.declared.stmt.Local.{Local}
use Rattle.sa_ast.specs.declared.class.FormalParam.{FormalParam}
use Rattle.sa_parser_expr.specs.declared.types.CallableKind.{CallableKind}
use Rattle.sa_parser_expr.specs.declared.types.CallableKind.TheVariants.{Routine, Iter}
use Rattle.sa_parser_expr.specs.Lexemes.{Lexeme, IsSign, IsFeature, name_of}
use Rattle.sa_parser_expr.specs.Types.{IsMode, IsType}
use Rattle.sa_parser.specs.declared.signature.HeaderSignature.{HeaderSignature}
use Rattle.sa_parser.specs.Names.{IsNames}

-- what kind of callable a feature of such a name is
abbrev pub callable_of : TokenKind → CallableKind
callable_of IterName = Iter
callable_of _ = Routine

-- an argument of this name
abbrev pub formal_of : Mode → Ty → Local → FormalParam
formal_of mode t name = record { mode = mode; local = name; ty = t }

-- formal = [mode] LNAME {"," LNAME} ":" type: an argument for each name
pub data IsFormal (callable : CallableKind) : List Lexeme → List FormalParam → Type 0 where
  formal : {ls ms rest : List Lexeme} {colon : Lexeme} {mode : Mode} {names : List Local} {t : Ty}
      → IsMode callable ls mode → IsNames ms names → IsSign sign.Colon colon → IsType rest t
      → IsFormal callable (ls ++ ms ++ colon ∷ rest) (map (formal_of mode t) names)

-- formal {"," formal}
pub data IsFormals (callable : CallableKind) : List Lexeme → List FormalParam → Type 0 where
  last : {ls : List Lexeme} {formals : List FormalParam} → IsFormal callable ls formals → IsFormals callable ls formals
  more : {ls ms : List Lexeme} {comma : Lexeme} {formals others : List FormalParam}
      → IsFormal callable ls formals → IsSign sign.Comma comma → IsFormals callable ms others
      → IsFormals callable (ls ++ comma ∷ ms) (formals ++ others)

-- ["(" formal {"," formal} ")"]
pub data IsArguments (callable : CallableKind) : List Lexeme → List FormalParam → Type 0 where
  absent : IsArguments callable [] []
  given : {opening closing : Lexeme} {ls : List Lexeme} {formals : List FormalParam}
      → IsSign sign.LeftParen opening → IsFormals callable ls formals → IsSign sign.RightParen closing
      → IsArguments callable (opening ∷ ls ++ closing ∷ []) formals

-- [":" type]
pub data IsWrittenResult : List Lexeme → Option Ty → Type 0 where
  absent : IsWrittenResult [] None
  given : {colon : Lexeme} {ls : List Lexeme} {t : Ty} → IsSign sign.Colon colon → IsType ls t → IsWrittenResult (colon ∷ ls) (Some t)

-- sig = F ["(" formal {"," formal} ")"] [":" type]. `once` is a mode of the arguments of iters alone
pub data IsSig : List Lexeme → HeaderSignature → Type 0 where
  sig : {f : Lexeme} {ls ms : List Lexeme} {formals : List FormalParam} {gives : Option Ty}
      → IsFeature f → IsArguments (callable_of f.kind) ls formals → IsWrittenResult ms gives
      → IsSig (f ∷ ls ++ ms) (record { name = name_of f; formals = formals; result = gives })
