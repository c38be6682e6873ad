-- Tests of one lexeme, by its kind.
use Rattle.std.specs.Prelude.{ℕ, Bool, true, false, List, [], Option, Some, None, is_some}
use denote.Enum.Bare.{sameb}
use Rattle.sa_lexer.specs.declared.token.TokenKind.{TokenKind}
use Rattle.sa_lexer.specs.declared.token.TokenKind.TheVariants as token
use Rattle.sa_lexer.specs.declared.sign.Sign.{Sign}
use Rattle.sa_lexer.specs.declared.sign.Sign.TheVariants as sign
use Rattle.sa_lexer.specs.declared.word.Word.{Word}
use Rattle.sa_lexer.specs.declared.word.Word.TheVariants as word
use Rattle.sa_lexer.specs.contracts.sign.Sign.{the_type as signs}
use Rattle.sa_lexer.specs.contracts.word.Word.{the_type as words}
use Rattle.sa_ast.specs.declared.expr.Operator.{Operator}
use Rattle.sa_ast.specs.declared.expr.Operator.TheVariants.{Plus, Minus, Times, Div, Mod, Lt, Leq, Gt, Geq, Eq, Neq, And, Or, Negate, Not}
use Rattle.sa_parser_expr.specs.Lexemes.{Lexeme}

abbrev pub is_sign_kind : Sign → TokenKind → Bool
is_sign_kind sign (token.Sign other) = sameb signs sign other
is_sign_kind sign _ = false

abbrev pub is_word_kind : Word → TokenKind → Bool
is_word_kind word (token.Word other) = sameb words word other
is_word_kind word _ = false

abbrev pub is_class_kind : TokenKind → Bool
is_class_kind token.ClassName = true
is_class_kind token.AbstractName = true
is_class_kind _ = false

abbrev pub is_class_name_kind : TokenKind → Bool
is_class_name_kind token.ClassName = true
is_class_name_kind _ = false

abbrev pub is_abstract_name_kind : TokenKind → Bool
is_abstract_name_kind token.AbstractName = true
is_abstract_name_kind _ = false

abbrev pub is_feature_kind : TokenKind → Bool
is_feature_kind token.Lower = true
is_feature_kind token.IterName = true
is_feature_kind _ = false

abbrev pub is_lower_kind : TokenKind → Bool
is_lower_kind token.Lower = true
is_lower_kind _ = false

abbrev pub is_number_kind : TokenKind → Bool
is_number_kind (token.Int value) = true
is_number_kind _ = false

abbrev pub is_character_kind : TokenKind → Bool
is_character_kind (token.Char byte) = true
is_character_kind _ = false

abbrev pub is_text_kind : TokenKind → Bool
is_text_kind (token.Text bytes) = true
is_text_kind _ = false

abbrev pub is_sign : Sign → Lexeme → Bool
is_sign sign l = is_sign_kind sign l.kind

abbrev pub is_word : Word → Lexeme → Bool
is_word word l = is_word_kind word l.kind

abbrev pub is_class : Lexeme → Bool
is_class l = is_class_kind l.kind

-- CNAME and ANAME alone
abbrev pub is_class_name : Lexeme → Bool
is_class_name l = is_class_name_kind l.kind

abbrev pub is_abstract_name : Lexeme → Bool
is_abstract_name l = is_abstract_name_kind l.kind

abbrev pub is_feature : Lexeme → Bool
is_feature l = is_feature_kind l.kind

abbrev pub is_lower : Lexeme → Bool
is_lower l = is_lower_kind l.kind

abbrev pub is_number : Lexeme → Bool
is_number l = is_number_kind l.kind

abbrev pub is_character : Lexeme → Bool
is_character l = is_character_kind l.kind

abbrev pub is_text : Lexeme → Bool
is_text l = is_text_kind l.kind

-- ---- what a kind gives

-- the value of a number or a character, and 0 of others
abbrev pub value_of_kind : TokenKind → ℕ
value_of_kind (token.Int value) = value
value_of_kind (token.Char byte) = byte
value_of_kind _ = 0

-- the bytes that a text denotes, and none of others
abbrev pub text_of_kind : TokenKind → List ℕ
text_of_kind (token.Text bytes) = bytes
text_of_kind _ = []

abbrev pub value_of : Lexeme → ℕ
value_of l = value_of_kind l.kind

abbrev pub text_of : Lexeme → List ℕ
text_of l = text_of_kind l.kind

-- ---- operators

abbrev pub logical_word : Word → Option Operator
logical_word word.And = Some And
logical_word word.Or = Some Or
logical_word _ = None

abbrev pub comparing_sign : Sign → Option Operator
comparing_sign sign.Equal = Some Eq
comparing_sign sign.NotEqual = Some Neq
comparing_sign sign.Less = Some Lt
comparing_sign sign.LessEqual = Some Leq
comparing_sign sign.Greater = Some Gt
comparing_sign sign.GreaterEqual = Some Geq
comparing_sign _ = None

abbrev pub adding_sign : Sign → Option Operator
adding_sign sign.Plus = Some Plus
adding_sign sign.Minus = Some Minus
adding_sign _ = None

abbrev pub multiplying_sign : Sign → Option Operator
multiplying_sign sign.Star = Some Times
multiplying_sign sign.Slash = Some Div
multiplying_sign sign.Percent = Some Mod
multiplying_sign _ = None

abbrev pub prefix_sign : Sign → Option Operator
prefix_sign sign.Minus = Some Negate
prefix_sign sign.Tilde = Some Not
prefix_sign _ = None

-- the operators of each precedence, by the kind of their lexeme, and those before an operand
abbrev pub logical_kind : TokenKind → Option Operator
logical_kind (token.Word w) = logical_word w
logical_kind _ = None

abbrev pub comparing_kind : TokenKind → Option Operator
comparing_kind (token.Sign s) = comparing_sign s
comparing_kind _ = None

abbrev pub adding_kind : TokenKind → Option Operator
adding_kind (token.Sign s) = adding_sign s
adding_kind _ = None

abbrev pub multiplying_kind : TokenKind → Option Operator
multiplying_kind (token.Sign s) = multiplying_sign s
multiplying_kind _ = None

abbrev pub prefix_kind : TokenKind → Option Operator
prefix_kind (token.Sign s) = prefix_sign s
prefix_kind _ = None

-- the operator where there is one, and any where there is none
abbrev pub or_any : Option Operator → Operator
or_any (Some op) = op
or_any None = Plus

-- whether a lexeme is one of these operators, and which
abbrev pub is_operator : (TokenKind → Option Operator) → Lexeme → Bool
is_operator operators l = is_some (operators l.kind)

abbrev pub operator_of : (TokenKind → Option Operator) → Lexeme → Operator
operator_of operators l = or_any (operators l.kind)
