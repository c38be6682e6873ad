-- Types: each of their forms is sound and complete.
use denote.Enum.Bare.{sameb}
use Rattle.std.proofs.Common.{◌≡◌, ℕ, suc, ◌+◌, ◌<◌, List, [], ◌∷◌, ◌++◌, length, refl, ap, ◌∙◌, false, arith, length-append, Option}
use Rattle.sa_lexer.specs.declared.token.TokenKind.{TokenKind}
use Rattle.sa_lexer.specs.declared.token.TokenKind.TheVariants as token
use Rattle.sa_lexer.specs.declared.sign.Sign.{Sign}
use Rattle.sa_lexer.specs.declared.sign.Sign.TheVariants as sign
use Rattle.sa_lexer.specs.declared.word.Word.TheVariants as word
use Rattle.sa_lexer.specs.contracts.sign.Sign.{the_type as signs}
use Rattle.sa_ast.specs.declared.ty.Ty.{Ty}
use Rattle.sa_ast.specs.declared.ty.Ty.TheVariants as ty
use Rattle.sa_ast.specs.declared.ty.ModeTy.{ModeTy}
use Rattle.sa_ast.specs.declared.ty.Mode.{Mode}
use Rattle.sa_ast.specs.declared.ty.Mode.TheVariants.{Once}
use Rattle.sa_parser_expr.specs.declared.types.CallableKind.{CallableKind}
use Rattle.sa_parser_expr.specs.declared.types.CallableKind.TheVariants.{Routine, Iter}
use Rattle.sa_parser_expr.specs.Lexemes.{Lexeme, IsWord, IsSign, class_name, abstract_name}
use Rattle.sa_parser_expr.specs.Types as types
use Rattle.sa_parser_expr.specs.Types.{IsMode, IsType, IsGivenTypes, IsTypes, IsBoundArgs, IsModeTypes, IsModeType, IsBoundResult}
use Rattle.sa_parser_expr.specs.Readings.{Read}
use Rattle.sa_parser_expr.specs.Tests.{is_sign, is_word, is_word_kind, is_class_kind}
use Rattle.sa_parser_expr.specs.Forms.{Reader, Nested, Ast, type, nest, follow, make}
use Rattle.sa_parser_expr.specs.TypeForms.{once_form, mode_form, given_types_form, mode_type_form, bound_args_form, bound_result_form, type_form}
use Rattle.sa_parser_expr.proofs.Tested.{sign_stands, word_stands, class_stands, sign_met, word_met, class_met, other_sign, other_word, lexeme, a_word}
use Rattle.sa_parser_expr.proofs.Shifts.{Shut}
use Rattle.sa_grammar.proofs.Sound.{Sound, IsSound, sound-give, sound-refuse, sound-shift, sound-follow, sound-list, sound-make, sound-until, Listed, last, more}
use Rattle.sa_grammar.proofs.Complete.{Reads, reads-give, reads-met, reads-other, reads-follow, reads-make, reads-joined, reads-until, reads-list}

-- ---- lists

pub separated_types : {ls : List Lexeme} {ts : List Ty} → Listed IsType ls ts → IsTypes ls ts
separated_types (last one) = types.last_type one
separated_types (more {l = l} one comma others) = types.more_types one (sign_stands sign.Comma l comma) (separated_types others)

pub types_separated : {ls : List Lexeme} {ts : List Ty} → IsTypes ls ts → Listed IsType ls ts
types_separated (types.last_type one) = last one
types_separated (types.more_types one comma others) = more one (sign_met comma) (types_separated others)

separated_args : {callable : CallableKind} {ls : List Lexeme} {args : List ModeTy} → Listed (IsModeType callable) ls args → IsModeTypes callable ls args
separated_args (last one) = types.last_arg one
separated_args (more {l = l} one comma others) = types.more_args one (sign_stands sign.Comma l comma) (separated_args others)

args_separated : {callable : CallableKind} {ls : List Lexeme} {args : List ModeTy} → IsModeTypes callable ls args → Listed (IsModeType callable) ls args
args_separated (types.last_arg one) = last one
args_separated (types.more_args one comma others) = more one (sign_met comma) (args_separated others)

-- ---- the forms are sound

module _ (level : ℕ) (nested : (n : Nested) → Reader (Ast n)) (inside : Sound IsType (nested type)) where
  sound_nested : IsSound level nested IsType (nest type)
  sound_nested = record { reader = inside }

  sound_once : (callable : CallableKind) → IsSound level nested (IsMode callable) (once_form callable)
  unfolding once_form
  sound_once Routine = sound-give types.no_mode
  sound_once Iter = sound-shift (λ w is. sound-give (types.once_word refl (word_stands word.Once w is))) (sound-give types.no_mode)

  pub sound_mode : (callable : CallableKind) → IsSound level nested (IsMode callable) (mode_form callable)
  unfolding mode_form
  sound_mode callable =
      sound-shift (λ w is. sound-give (types.out_word (word_stands word.Out w is)))
      (sound-shift (λ w is. sound-give (types.inout_word (word_stands word.Inout w is)))
      (sound-shift (λ w is. sound-give (types.in_word (word_stands word.In w is)))
      (sound_once callable)))

  sound_given : IsSound level nested IsGivenTypes given_types_form
  unfolding given_types_form
  sound_given =
      sound-shift (λ opening opens.
      sound-until (sound-list sound_nested (λ ls ts. separated_types))
      (λ ls ts closing among closes. types.given (sign_stands sign.LeftBrace opening opens) among closes))
      (sound-give types.no_given)

  sound_mode_type : (callable : CallableKind) → IsSound level nested (IsModeType callable) (mode_type_form callable)
  unfolding mode_type_form
  sound_mode_type callable = sound-follow (sound_mode callable) (λ ls mode first. sound-make sound_nested (λ ms t second. types.mode_type first second))

  sound_args : (callable : CallableKind) → IsSound level nested (IsBoundArgs callable) (bound_args_form callable)
  unfolding bound_args_form
  sound_args callable =
      sound-shift (λ opening opens.
      sound-until (sound-list (sound_mode_type callable) (λ ls args. separated_args))
      (λ ls args closing among closes. types.args (sign_stands sign.LeftBrace opening opens) among closes))
      (sound-give types.no_args)

  sound_result : IsSound level nested IsBoundResult bound_result_form
  unfolding bound_result_form
  sound_result = sound-shift (λ colon is. sound-make sound_nested (λ ls t one. types.of_result (sign_stands sign.Colon colon is) one)) (sound-give types.no_result)

  pub sound_type : IsSound level nested IsType type_form
  unfolding type_form
  sound_type =
      sound-shift (λ c is. sound-make sound_given (λ ls given first. types.named (class_stands c is) first))
      (sound-shift (λ w is. sound-give (types.same (word_stands word.Same w is)))
      (sound-shift (λ w is. sound-follow (sound_args Routine) (λ ls args first. sound-make sound_result (λ ms gives second. types.rout (word_stands word.Rout w is) first second)))
      (sound-shift (λ w is. sound-follow (sound_args Iter) (λ ls args first. sound-make sound_result (λ ms gives second. types.iter (word_stands word.Iter w is) first second)))
      (sound-refuse (record { more = lexeme (token.Word word.Same) ∷ []; tree = ty.Same (record { file = 0; at = 0 }); spelled = types.same (a_word word.Same) })))))

-- ---- the forms are complete

-- what doesn't continue a type
pub record EndsType (rest : List Lexeme) : Type 0 where
  pub brace : Shut (is_sign sign.LeftBrace) rest
  pub colon : Shut (is_sign sign.Colon) rest

pub sign_ends : (s : Sign) → sameb signs sign.LeftBrace s ≡ false → sameb signs sign.Colon s ≡ false → (l : Lexeme) (rest : List Lexeme) → IsSign s l → EndsType (l ∷ rest)
sign_ends s brace colon l rest is = record { brace = other_sign sign.LeftBrace brace is; colon = other_sign sign.Colon colon is }

-- what is no mode
pub record NoMode (rest : List Lexeme) : Type 0 where
  pub for_out : Shut (is_word word.Out) rest
  pub for_inout : Shut (is_word word.Inout) rest
  pub for_in : Shut (is_word word.In) rest
  pub for_once : Shut (is_word word.Once) rest

pub kind_no_mode : (l : Lexeme) (rest : List Lexeme) (kind : TokenKind) → l.kind ≡ kind → is_word_kind word.Out kind ≡ false → is_word_kind word.Inout kind ≡ false → is_word_kind word.In kind ≡ false → is_word_kind word.Once kind ≡ false → NoMode (l ∷ rest)
kind_no_mode l rest kind e out inout into once = record {
  for_out = ap (is_word_kind word.Out) e ∙ out;
  for_inout = ap (is_word_kind word.Inout) e ∙ inout;
  for_in = ap (is_word_kind word.In) e ∙ into;
  for_once = ap (is_word_kind word.Once) e ∙ once;
}

-- no mode begins a type
type_no_mode : {ls : List Lexeme} {t : Ty} (rest : List Lexeme) → IsType ls t → NoMode (ls ++ rest)
type_no_mode rest (types.named {c = c} {ls = ls} (class_name e) among) = kind_no_mode c (ls ++ rest) token.ClassName e refl refl refl refl
type_no_mode rest (types.named {c = c} {ls = ls} (abstract_name e) among) = kind_no_mode c (ls ++ rest) token.AbstractName e refl refl refl refl
type_no_mode rest (types.same {w = w} is) = kind_no_mode w rest (token.Word word.Same) is.kind refl refl refl refl
type_no_mode rest (types.rout {w = w} {ls = ls} {ms = ms} is first second) = kind_no_mode w ((ls ++ ms) ++ rest) (token.Word word.Rout) is.kind refl refl refl refl
type_no_mode rest (types.iter {w = w} {ls = ls} {ms = ms} is first second) = kind_no_mode w ((ls ++ ms) ++ rest) (token.Word word.Iter) is.kind refl refl refl refl

-- a brace begins no result
result_shut : {ms : List Lexeme} {gives : Option Ty} (rest : List Lexeme) → IsBoundResult ms gives → Shut (is_sign sign.LeftBrace) rest → Shut (is_sign sign.LeftBrace) (ms ++ rest)
result_shut rest types.no_result shut = shut
result_shut rest (types.of_result colon one) shut = other_sign sign.LeftBrace refl colon

module _ (level : ℕ) (nested : (n : Nested) → Reader (Ast n)) where
  once_read : {w : Lexeme} (callable : CallableKind) (rest : List Lexeme) → callable ≡ Iter → IsWord word.Once w → Reads level nested (mode_form callable) (w ∷ rest) Once rest
  unfolding mode_form once_form
  once_read Routine rest e is = absurd (cc)
  once_read Iter rest e is =
      reads-other (other_word word.Out refl is) (reads-other (other_word word.Inout refl is) (reads-other (other_word word.In refl is) (reads-met (word_met is) reads-give)))

  pub mode_read : {ls : List Lexeme} {mode : Mode} (callable : CallableKind) (rest : List Lexeme) → IsMode callable ls mode → NoMode rest → Reads level nested (mode_form callable) (ls ++ rest) mode rest
  unfolding mode_form once_form
  mode_read Routine rest types.no_mode none = reads-other none.for_out (reads-other none.for_inout (reads-other none.for_in reads-give))
  mode_read Iter rest types.no_mode none = reads-other none.for_out (reads-other none.for_inout (reads-other none.for_in (reads-other none.for_once reads-give)))
  mode_read callable rest (types.out_word is) none = reads-met (word_met is) reads-give
  mode_read callable rest (types.inout_word is) none = reads-other (other_word word.Out refl is) (reads-met (word_met is) reads-give)
  mode_read callable rest (types.in_word is) none = reads-other (other_word word.Out refl is) (reads-other (other_word word.Inout refl is) (reads-met (word_met is) reads-give))
  mode_read callable rest (types.once_word e is) none = once_read callable rest e is

module _ (level : ℕ) (nested : (n : Nested) → Reader (Ast n))
    (inside : (ls : List Lexeme) (t : Ty) (rest : List Lexeme) → IsType ls t → length ls < level → EndsType rest → nested type (ls ++ rest) ≡ Read t rest) where
  one_read : (ls : List Lexeme) (t : Ty) (rest : List Lexeme) → IsType ls t → length ls < level → EndsType rest → Reads level nested (nest type) (ls ++ rest) t rest
  one_read ls t rest one small ends = record { is = inside ls t rest one small ends }

  given_read : {ls : List Lexeme} {ts : List Ty} (rest : List Lexeme) → IsGivenTypes ls ts → length ls < level → Shut (is_sign sign.LeftBrace) rest → Reads level nested given_types_form (ls ++ rest) ts rest
  unfolding given_types_form
  given_read rest types.no_given small shut = reads-other shut reads-give
  given_read rest (types.given {closing = closing} {ls = ls} opens among closes) small shut =
      let sum : length (ls ++ closing ∷ []) ≡ length ls + 1 = length-append ls (closing ∷ []) in
      reads-met (sign_met opens)
      (reads-until ls
      (reads-list level nested IsType EndsType (nest type) one_read (sign_ends sign.Comma refl refl) (closing ∷ rest) (types_separated among) (omega arith)
      (sign_ends sign.RightBrace refl refl closing rest closes) (other_sign sign.Comma refl closes))
      closes)

  mode_type_read : (callable : CallableKind) (ls : List Lexeme) (arg : ModeTy) (rest : List Lexeme) → IsModeType callable ls arg → length ls < level → EndsType rest → Reads level nested (mode_type_form callable) (ls ++ rest) arg rest
  unfolding mode_type_form
  mode_type_read callable _ _ rest (types.mode_type {ls = ls} {ms = ms} {t = t} first second) small ends =
      let sum : length (ls ++ ms) ≡ length ls + length ms = length-append ls ms in
      reads-joined ls ms rest (reads-follow (mode_read level nested callable (ms ++ rest) first (type_no_mode rest second)) (reads-make (one_read ms t rest second (omega arith) ends)))

  args_read : {ls : List Lexeme} {args : List ModeTy} (callable : CallableKind) (rest : List Lexeme) → IsBoundArgs callable ls args → length ls < level → Shut (is_sign sign.LeftBrace) rest → Reads level nested (bound_args_form callable) (ls ++ rest) args rest
  unfolding bound_args_form
  args_read callable rest types.no_args small shut = reads-other shut reads-give
  args_read callable rest (types.args {closing = closing} {ls = ls} opens among closes) small shut =
      let sum : length (ls ++ closing ∷ []) ≡ length ls + 1 = length-append ls (closing ∷ []) in
      reads-met (sign_met opens)
      (reads-until ls
      (reads-list level nested (IsModeType callable) EndsType (mode_type_form callable) (mode_type_read callable) (sign_ends sign.Comma refl refl) (closing ∷ rest) (args_separated among) (omega arith)
      (sign_ends sign.RightBrace refl refl closing rest closes) (other_sign sign.Comma refl closes))
      closes)

  result_read : {ls : List Lexeme} {gives : Option Ty} (rest : List Lexeme) → IsBoundResult ls gives → length ls < level → EndsType rest → Reads level nested bound_result_form (ls ++ rest) gives rest
  unfolding bound_result_form
  result_read rest types.no_result small ends = reads-other ends.colon reads-give
  result_read rest (types.of_result {ls = ls} {t = t} colon one) small ends = reads-met (sign_met colon) (reads-make (one_read ls t rest one (omega arith) ends))

  -- the arguments and the result of a bound type
  bound_read : {ls ms : List Lexeme} {args : List ModeTy} {gives : Option Ty} (callable : CallableKind) (build : List ModeTy → Option Ty → Ty) (rest : List Lexeme)
      → IsBoundArgs callable ls args → IsBoundResult ms gives → length (ls ++ ms) < level → EndsType rest
      → Reads level nested (follow (bound_args_form callable) (λ args. make (build args) bound_result_form)) ((ls ++ ms) ++ rest) (build args gives) rest
  bound_read {ls = ls} {ms = ms} callable build rest first second small ends =
      let sum : length (ls ++ ms) ≡ length ls + length ms = length-append ls ms in
      reads-joined ls ms rest
      (reads-follow (args_read callable (ms ++ rest) first (omega arith) (result_shut rest second ends.brace)) (reads-make (result_read rest second (omega arith) ends)))

  pub type_read : {ls : List Lexeme} {t : Ty} (rest : List Lexeme) → IsType ls t → length ls < suc level → EndsType rest → Reads level nested type_form (ls ++ rest) t rest
  unfolding type_form
  type_read rest (types.named class among) small ends = reads-met (class_met class) (reads-make (given_read rest among (omega arith) ends.brace))
  type_read rest (types.same is) small ends = reads-other (ap is_class_kind is.kind) (reads-met (word_met is) reads-give)
  type_read rest (types.rout {w = w} is first second) small ends =
      reads-other (ap is_class_kind is.kind) (reads-other (other_word word.Same refl is)
      (reads-met (word_met is) (bound_read Routine (λ args gives. ty.Rout args gives w.pos) rest first second (omega arith) ends)))
  type_read rest (types.iter {w = w} is first second) small ends =
      reads-other (ap is_class_kind is.kind) (reads-other (other_word word.Same refl is) (reads-other (other_word word.Rout refl is)
      (reads-met (word_met is) (bound_read Iter (λ args gives. ty.Iter args gives w.pos) rest first second (omega arith) ends))))
