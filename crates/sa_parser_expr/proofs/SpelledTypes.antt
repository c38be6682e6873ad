-- Types, as they are read: a lemma for each case of their productions.
use Rattle.std.proofs.Common.{◌≡◌, ℕ, ◌+◌, ◌<◌, ◌≤◌, ◌⊎◌, List, [], ◌∷◌, ◌++◌, Option, Some, None, refl, inl, inr, append_assoc}
use Rattle.sa_lexer.specs.declared.token.TokenKind.{TokenKind}
use Rattle.sa_lexer.specs.declared.token.TokenKind.TheVariants as token
use Rattle.sa_lexer.specs.declared.sign.Sign.TheVariants as sign
use Rattle.sa_lexer.specs.declared.word.Word.TheVariants as word
use Rattle.sa_ast.specs.declared.pos.Pos.{Pos}
use Rattle.sa_ast.specs.declared.ty.Ty.{Ty}
use Rattle.sa_ast.specs.declared.ty.Ty.TheVariants as ty
use Rattle.sa_ast.specs.declared.ty.ModeTy.{ModeTy}
use Rattle.sa_ast.specs.declared.ty.Mode.{Mode}
use Rattle.sa_ast.specs.declared.ty.Mode.TheVariants.{In}
use Rattle.sa_parser_expr.specs.declared.tokens.Tokens.{Tokens}
use Rattle.sa_parser_expr.specs.declared.types.CallableKind.{CallableKind}
use Rattle.sa_parser_expr.specs.declared.types.CallableKind.TheVariants.{Routine, Iter}
use Rattle.sa_parser_expr.specs.Lexemes.{Lexeme, IsSign, IsClass, class_name, abstract_name, IsLexemeAt, lexeme_at, between}
use Rattle.sa_parser_expr.specs.Positions.{kind_at, bytes_at}
use Rattle.sa_parser_expr.specs.Types as types
use Rattle.sa_parser_expr.specs.Types.{IsMode, IsType, IsGivenTypes, IsTypes, IsBoundArgs, IsModeTypes, IsModeType, IsBoundResult}
use Rattle.sa_parser_expr.proofs.Stretches.{pos_at, none, join, front, alone, front_join, parted, enclosed}

-- one more type, and one more argument, after those before
IsTypes-more : {ls ms : List Lexeme} {comma : Lexeme} {ts : List Ty} {t : Ty} → IsTypes ls ts → IsSign sign.Comma comma → IsType ms t → IsTypes (ls ++ comma ∷ ms) (ts ++ t ∷ [])
IsTypes-more (types.last_type first) comma more = types.more_types first comma (types.last_type more)
IsTypes-more {ms = ms} {comma = c} (types.more_types {ls = before} {ms = following} {comma = d} first parting rest) comma more =
    rw (append_assoc before (d ∷ following) (c ∷ ms)) (types.more_types first parting (IsTypes-more rest comma more))

IsModeTypes-more : {callable : CallableKind} {ls ms : List Lexeme} {comma : Lexeme} {args : List ModeTy} {arg : ModeTy} → IsModeTypes callable ls args → IsSign sign.Comma comma → IsModeType callable ms arg → IsModeTypes callable (ls ++ comma ∷ ms) (args ++ arg ∷ [])
IsModeTypes-more (types.last_arg first) comma more = types.more_args first comma (types.last_arg more)
IsModeTypes-more {ms = ms} {comma = c} (types.more_args {ls = before} {ms = following} {comma = d} first parting rest) comma more =
    rw (append_assoc before (d ∷ following) (c ∷ ms)) (types.more_args first parting (IsModeTypes-more rest comma more))

module _ (t : Tokens) where
  pub mode_word : (callable : CallableKind) (mode : Mode) (w : TokenKind) (at : ℕ) → kind_at t.list.now at ≡ Some w → IsMode callable (lexeme_at t at w ∷ []) mode → IsMode callable (between t at (at + 1)) mode
  mode_word callable mode w at there is = rw (alone t at w there) is

  pub no_mode : (callable : CallableKind) (at : ℕ) → IsMode callable (between t at at) In
  no_mode callable at = rw (none t at) types.no_mode

  pub named : (from next : ℕ) (name : List ℕ) (given : List Ty) (pos : Pos)
      → IsLexemeAt IsClass t from → from < next → name ≡ bytes_at t.src.now t.list.now from → pos ≡ pos_at t from
      → IsGivenTypes (between t (from + 1) next) given → IsType (between t from next) (ty.Named name given pos)
  named from next name given pos c before called occurs inside = rw (front t from next c.kind c.there before, called, occurs) (types.named c.is inside)

  pub same : (from : ℕ) (pos : Pos) → kind_at t.list.now from ≡ Some (token.Word word.Same) → pos ≡ pos_at t from → IsType (between t from (from + 1)) (ty.Same pos)
  same from pos there occurs = rw (alone t from (token.Word word.Same) there, occurs) (types.same (record { kind = refl }))

  pub rout : (from mid next : ℕ) (args : List ModeTy) (gives : Option Ty) (pos : Pos)
      → kind_at t.list.now from ≡ Some (token.Word word.Rout) → pos ≡ pos_at t from → from < mid → mid ≤ next
      → IsBoundArgs Routine (between t (from + 1) mid) args → IsBoundResult (between t mid next) gives
      → IsType (between t from next) (ty.Rout args gives pos)
  rout from mid next args gives pos there occurs before following first second =
      rw (front_join t from mid next (token.Word word.Rout) there before following, occurs) (types.rout (record { kind = refl }) first second)

  pub iter : (from mid next : ℕ) (args : List ModeTy) (gives : Option Ty) (pos : Pos)
      → kind_at t.list.now from ≡ Some (token.Word word.Iter) → pos ≡ pos_at t from → from < mid → mid ≤ next
      → IsBoundArgs Iter (between t (from + 1) mid) args → IsBoundResult (between t mid next) gives
      → IsType (between t from next) (ty.Iter args gives pos)
  iter from mid next args gives pos there occurs before following first second =
      rw (front_join t from mid next (token.Word word.Iter) there before following, occurs) (types.iter (record { kind = refl }) first second)

  pub no_given : (place : ℕ) (ts : List Ty) → ts ≡ [] → IsGivenTypes (between t place place) ts
  no_given place ts empty = rw (none t place, empty) types.no_given

  pub given : (from mid next : ℕ) (ts : List Ty)
      → kind_at t.list.now from ≡ Some (token.Sign sign.LeftBrace) → kind_at t.list.now mid ≡ Some (token.Sign sign.RightBrace)
      → from < mid → next ≡ mid + 1 → IsTypes (between t (from + 1) mid) ts → IsGivenTypes (between t from next) ts
  given from mid next ts opens closes before ends inside =
      rw (ends, enclosed t from mid (token.Sign sign.LeftBrace) (token.Sign sign.RightBrace) opens closes before)
      (types.given (record { kind = refl }) inside (record { kind = refl }))

  pub more_types : (from mid next : ℕ) (ts all : List Ty) (one : Ty)
      → kind_at t.list.now mid ≡ Some (token.Sign sign.Comma) → IsTypes (between t from mid) ts → IsType (between t (mid + 1) next) one
      → from ≤ mid → mid < next → all ≡ ts ++ one ∷ [] → IsTypes (between t from next) all
  more_types from mid next ts all one comma first second before following pushed =
      rw (parted t from mid next (token.Sign sign.Comma) comma before following, pushed) (IsTypes-more first (record { kind = refl }) second)

  pub no_args : (callable : CallableKind) (place : ℕ) (args : List ModeTy) → args ≡ [] → IsBoundArgs callable (between t place place) args
  no_args callable place args empty = rw (none t place, empty) types.no_args

  pub bound_args : (callable : CallableKind) (from mid next : ℕ) (args : List ModeTy)
      → kind_at t.list.now from ≡ Some (token.Sign sign.LeftBrace) → kind_at t.list.now mid ≡ Some (token.Sign sign.RightBrace)
      → from < mid → next ≡ mid + 1 → IsModeTypes callable (between t (from + 1) mid) args → IsBoundArgs callable (between t from next) args
  bound_args callable from mid next args opens closes before ends inside =
      rw (ends, enclosed t from mid (token.Sign sign.LeftBrace) (token.Sign sign.RightBrace) opens closes before)
      (types.args (record { kind = refl }) inside (record { kind = refl }))

  pub more_args : (callable : CallableKind) (from mid next : ℕ) (args all : List ModeTy) (arg : ModeTy)
      → kind_at t.list.now mid ≡ Some (token.Sign sign.Comma) → IsModeTypes callable (between t from mid) args
      → IsModeType callable (between t (mid + 1) next) arg
      → from ≤ mid → mid < next → all ≡ args ++ arg ∷ [] → IsModeTypes callable (between t from next) all
  more_args callable from mid next args all arg comma first second before following pushed =
      rw (parted t from mid next (token.Sign sign.Comma) comma before following, pushed) (IsModeTypes-more first (record { kind = refl }) second)

  pub class_stands : (place : ℕ) (kind : TokenKind) → kind_at t.list.now place ≡ Some kind → (kind ≡ token.ClassName) ⊎ (kind ≡ token.AbstractName) → IsLexemeAt IsClass t place
  class_stands place kind there (inl is) = record { kind = kind; there = there; is = class_name is }
  class_stands place kind there (inr is) = record { kind = kind; there = there; is = abstract_name is }

  pub mode_type : (callable : CallableKind) (from mid next : ℕ) (mode : Mode) (one : Ty)
      → IsMode callable (between t from mid) mode → IsType (between t mid next) one → from ≤ mid → mid ≤ next
      → IsModeType callable (between t from next) (record { mode = mode; ty = one })
  mode_type callable from mid next mode one first second before following = rw (join t from mid next before following) (types.mode_type first second)

  pub no_result : (at : ℕ) → IsBoundResult (between t at at) None
  no_result at = rw (none t at) types.no_result

  pub of_result : (from next : ℕ) (one boxed : Ty)
      → kind_at t.list.now from ≡ Some (token.Sign sign.Colon) → IsType (between t (from + 1) next) one
      → from < next → boxed ≡ one → IsBoundResult (between t from next) (Some boxed)
  of_result from next one boxed colon inside before same =
      rw (front t from next (token.Sign sign.Colon) colon before, same) (types.of_result (record { kind = refl }) inside)
