-- Types: a relation for each production of their grammar, with a case for each of its alternatives.
use Rattle.std.specs.Prelude.{◌≡◌, List, [], ◌∷◌, ◌++◌, Option, Some, None}
use Rattle.sa_lexer.specs.declared.sign.Sign.TheVariants as sign
use Rattle.sa_lexer.specs.declared.word.Word.TheVariants as word
use Rattle.sa_ast.specs.declared.ty.Ty.{Ty}
use Rattle.sa_ast.specs.declared.ty.Ty.TheVariants as ty
use Rattle.sa_ast.specs.declared.ty.ModeTy.{ModeTy}
use Rattle.sa_ast.specs.declared.ty.Mode.{Mode}
use Rattle.sa_ast.specs.declared.ty.Mode.TheVariants.{In, Out, Inout, Once}
use Rattle.sa_parser_expr.specs.declared.types.CallableKind.{CallableKind}
use Rattle.sa_parser_expr.specs.declared.types.CallableKind.TheVariants.{Routine, Iter}
use Rattle.sa_parser_expr.specs.Lexemes.{Lexeme, IsWord, IsSign, IsClass}

-- mode = "out" | "inout" | "once" | "in", which may be absent; `once` is a mode of iters' arguments alone
pub data IsMode (callable : CallableKind) : List Lexeme → Mode → Type 0 where
  no_mode : IsMode callable [] In
  in_word : {w : Lexeme} → IsWord word.In w → IsMode callable (w ∷ []) In
  out_word : {w : Lexeme} → IsWord word.Out w → IsMode callable (w ∷ []) Out
  inout_word : {w : Lexeme} → IsWord word.Inout w → IsMode callable (w ∷ []) Inout
  once_word : {w : Lexeme} → callable ≡ Iter → IsWord word.Once w → IsMode callable (w ∷ []) Once

mutual
  -- type = C given_types | "SAME" | "ROUT" bound_args bound_result | "ITER" bound_args bound_result
  pub data IsType : List Lexeme → Ty → Type 0 where
    named : {c : Lexeme} {ls : List Lexeme} {given : List Ty} → IsClass c → IsGivenTypes ls given
        → IsType (c ∷ ls) (ty.Named c.bytes given c.pos)
    same : {w : Lexeme} → IsWord word.Same w → IsType (w ∷ []) (ty.Same w.pos)
    rout : {w : Lexeme} {ls ms : List Lexeme} {args : List ModeTy} {gives : Option Ty}
        → IsWord word.Rout w → IsBoundArgs Routine ls args → IsBoundResult ms gives
        → IsType (w ∷ ls ++ ms) (ty.Rout args gives w.pos)
    iter : {w : Lexeme} {ls ms : List Lexeme} {args : List ModeTy} {gives : Option Ty}
        → IsWord word.Iter w → IsBoundArgs Iter ls args → IsBoundResult ms gives
        → IsType (w ∷ ls ++ ms) (ty.Iter args gives w.pos)

  -- given_types = ["{" types "}"]
  pub data IsGivenTypes : List Lexeme → List Ty → Type 0 where
    no_given : IsGivenTypes [] []
    given : {opening closing : Lexeme} {ls : List Lexeme} {types : List Ty}
        → IsSign sign.LeftBrace opening → IsTypes ls types → IsSign sign.RightBrace closing
        → IsGivenTypes (opening ∷ ls ++ closing ∷ []) types

  -- types = type {"," type}
  pub data IsTypes : List Lexeme → List Ty → Type 0 where
    last_type : {ls : List Lexeme} {t : Ty} → IsType ls t → IsTypes ls (t ∷ [])
    more_types : {ls ms : List Lexeme} {comma : Lexeme} {t : Ty} {types : List Ty}
        → IsType ls t → IsSign sign.Comma comma → IsTypes ms types
        → IsTypes (ls ++ comma ∷ ms) (t ∷ types)

  -- bound_args = ["{" mode_types "}"]
  pub data IsBoundArgs : CallableKind → List Lexeme → List ModeTy → Type 0 where
    no_args : {callable : CallableKind} → IsBoundArgs callable [] []
    args : {callable : CallableKind} {opening closing : Lexeme} {ls : List Lexeme} {args : List ModeTy}
        → IsSign sign.LeftBrace opening → IsModeTypes callable ls args → IsSign sign.RightBrace closing
        → IsBoundArgs callable (opening ∷ ls ++ closing ∷ []) args

  -- mode_types = mode_type {"," mode_type}
  pub data IsModeTypes : CallableKind → List Lexeme → List ModeTy → Type 0 where
    last_arg : {callable : CallableKind} {ls : List Lexeme} {arg : ModeTy} → IsModeType callable ls arg → IsModeTypes callable ls (arg ∷ [])
    more_args : {callable : CallableKind} {ls ms : List Lexeme} {comma : Lexeme} {arg : ModeTy} {args : List ModeTy}
        → IsModeType callable ls arg → IsSign sign.Comma comma → IsModeTypes callable ms args
        → IsModeTypes callable (ls ++ comma ∷ ms) (arg ∷ args)

  -- mode_type = [mode] type
  pub data IsModeType : CallableKind → List Lexeme → ModeTy → Type 0 where
    mode_type : {callable : CallableKind} {ls ms : List Lexeme} {mode : Mode} {t : Ty} → IsMode callable ls mode → IsType ms t
        → IsModeType callable (ls ++ ms) (record { mode = mode; ty = t })

  -- bound_result = [":" type]
  pub data IsBoundResult : List Lexeme → Option Ty → Type 0 where
    no_result : IsBoundResult [] None
    of_result : {colon : Lexeme} {ls : List Lexeme} {t : Ty} → IsSign sign.Colon colon → IsType ls t → IsBoundResult (colon ∷ ls) (Some t)
