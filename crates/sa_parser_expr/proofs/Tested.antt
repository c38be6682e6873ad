-- What tests say of a lexeme, and lexemes that meet them.
use Rattle.std.proofs.Common.{◌≡◌, true, false, [], refl, sym, ap, ◌∙◌}
use denote.Enum.Bare.{sameb, same_true, true_same}
use Rattle.sa_lexer.specs.declared.token.TokenKind.{TokenKind}
use Rattle.sa_lexer.specs.declared.token.TokenKind.TheVariants as token
use Rattle.sa_lexer.specs.declared.sign.Sign.{Sign}
use Rattle.sa_lexer.specs.declared.word.Word.{Word}
use Rattle.sa_lexer.specs.contracts.sign.Sign.{the_type as signs}
use Rattle.sa_lexer.specs.contracts.word.Word.{the_type as words}
use Rattle.sa_parser_expr.specs.Lexemes.{Lexeme, IsWord, IsSign, IsClass, class_name, abstract_name, IsFeature, lower_name, iter_name}
use Rattle.sa_parser_expr.specs.Tests.{is_sign_kind, is_word_kind, is_class_kind, is_class_name_kind, is_abstract_name_kind, is_lower_kind, is_feature_kind, is_number_kind, is_character_kind, is_text_kind}
use Rattle.sa_parser_expr.specs.Tests.{is_sign, is_word, is_class, is_class_name, is_abstract_name, is_lower, is_feature, is_number, is_character, is_text, value_of_kind, text_of_kind, value_of, text_of}

sign_kind : (sign : Sign) (kind : TokenKind) → is_sign_kind sign kind ≡ true → kind ≡ token.Sign sign
sign_kind sign (token.Sign other) h = ap token.Sign (sym (same_true signs tt sign other h))
sign_kind sign _ h = cc

word_kind : (word : Word) (kind : TokenKind) → is_word_kind word kind ≡ true → kind ≡ token.Word word
word_kind word (token.Word other) h = ap token.Word (sym (same_true words tt word other h))
word_kind word _ h = cc

class_kind : (l : Lexeme) (kind : TokenKind) → l.kind ≡ kind → is_class_kind kind ≡ true → IsClass l
class_kind l token.ClassName e h = class_name e
class_kind l token.AbstractName e h = abstract_name e
class_kind l _ e h = absurd (cc)

class_name_kind : (kind : TokenKind) → is_class_name_kind kind ≡ true → kind ≡ token.ClassName
class_name_kind token.ClassName h = refl
class_name_kind _ h = cc

abstract_name_kind : (kind : TokenKind) → is_abstract_name_kind kind ≡ true → kind ≡ token.AbstractName
abstract_name_kind token.AbstractName h = refl
abstract_name_kind _ h = cc

lower_kind : (kind : TokenKind) → is_lower_kind kind ≡ true → kind ≡ token.Lower
lower_kind token.Lower h = refl
lower_kind _ h = cc

feature_kind : (l : Lexeme) (kind : TokenKind) → l.kind ≡ kind → is_feature_kind kind ≡ true → IsFeature l
feature_kind l token.Lower e h = lower_name e
feature_kind l token.IterName e h = iter_name e
feature_kind l _ e h = absurd (cc)

number_kind : (kind : TokenKind) → is_number_kind kind ≡ true → kind ≡ token.Int (value_of_kind kind)
number_kind (token.Int value) h = refl
number_kind _ h = cc

character_kind : (kind : TokenKind) → is_character_kind kind ≡ true → kind ≡ token.Char (value_of_kind kind)
character_kind (token.Char byte) h = refl
character_kind _ h = cc

text_kind : (kind : TokenKind) → is_text_kind kind ≡ true → kind ≡ token.Text (text_of_kind kind)
text_kind (token.Text bytes) h = refl
text_kind _ h = cc

pub sign_stands : (sign : Sign) (l : Lexeme) → is_sign sign l ≡ true → IsSign sign l
sign_stands sign l h = record { kind = sign_kind sign l.kind h }

pub word_stands : (word : Word) (l : Lexeme) → is_word word l ≡ true → IsWord word l
word_stands word l h = record { kind = word_kind word l.kind h }

pub class_stands : (l : Lexeme) → is_class l ≡ true → IsClass l
class_stands l h = class_kind l l.kind refl h

pub class_name_stands : (l : Lexeme) → is_class_name l ≡ true → l.kind ≡ token.ClassName
class_name_stands l h = class_name_kind l.kind h

pub abstract_name_stands : (l : Lexeme) → is_abstract_name l ≡ true → l.kind ≡ token.AbstractName
abstract_name_stands l h = abstract_name_kind l.kind h

pub lower_stands : (l : Lexeme) → is_lower l ≡ true → l.kind ≡ token.Lower
lower_stands l h = lower_kind l.kind h

pub feature_stands : (l : Lexeme) → is_feature l ≡ true → IsFeature l
feature_stands l h = feature_kind l l.kind refl h

pub number_stands : (l : Lexeme) → is_number l ≡ true → l.kind ≡ token.Int (value_of l)
number_stands l h = number_kind l.kind h

pub character_stands : (l : Lexeme) → is_character l ≡ true → l.kind ≡ token.Char (value_of l)
character_stands l h = character_kind l.kind h

pub text_stands : (l : Lexeme) → is_text l ≡ true → l.kind ≡ token.Text (text_of l)
text_stands l h = text_kind l.kind h

pub sign_met : {sign : Sign} {l : Lexeme} → IsSign sign l → is_sign sign l ≡ true
sign_met {sign = sign} h = ap (is_sign_kind sign) h.kind ∙ true_same signs sign sign refl

pub word_met : {word : Word} {l : Lexeme} → IsWord word l → is_word word l ≡ true
word_met {word = word} h = ap (is_word_kind word) h.kind ∙ true_same words word word refl

pub class_met : {l : Lexeme} → IsClass l → is_class l ≡ true
class_met (class_name e) = ap is_class_kind e
class_met (abstract_name e) = ap is_class_kind e

pub feature_met : {l : Lexeme} → IsFeature l → is_feature l ≡ true
feature_met (lower_name e) = ap is_feature_kind e
feature_met (iter_name e) = ap is_feature_kind e

pub sign_is : (sign : Sign) → is_sign_kind sign (token.Sign sign) ≡ true
sign_is sign = true_same signs sign sign refl

pub word_is : (word : Word) → is_word_kind word (token.Word word) ≡ true
word_is word = true_same words word word refl

-- another sign and another word
pub other_sign : (other : Sign) {sign : Sign} {l : Lexeme} → sameb signs other sign ≡ false → IsSign sign l → is_sign other l ≡ false
other_sign other h is = ap (is_sign_kind other) is.kind ∙ h

pub other_word : (other : Word) {word : Word} {l : Lexeme} → sameb words other word ≡ false → IsWord word l → is_word other l ≡ false
other_word other h is = ap (is_word_kind other) is.kind ∙ h

-- a lexeme of this kind
abbrev pub lexeme : TokenKind → Lexeme
lexeme kind = record { kind = kind; bytes = []; pos = record { file = 0; at = 0 } }

abbrev pub a_sign : (sign : Sign) → IsSign sign (lexeme (token.Sign sign))
a_sign sign = record { kind = refl }

abbrev pub a_word : (word : Word) → IsWord word (lexeme (token.Word word))
a_word word = record { kind = refl }
