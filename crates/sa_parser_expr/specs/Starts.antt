-- Which token begins a type or an expression. The end of the file begins nothing.
use Rattle.std.specs.Prelude.{Bool, true, false, Option, Some, None}
use Rattle.sa_lexer.specs.declared.token.TokenKind.{TokenKind}
use Rattle.sa_lexer.specs.declared.token.TokenKind.TheVariants as token
use Rattle.sa_lexer.specs.declared.sign.Sign.{Sign}
use Rattle.sa_lexer.specs.declared.sign.Sign.TheVariants as sign
use Rattle.sa_lexer.specs.declared.word.Word.{Word}
use Rattle.sa_lexer.specs.declared.word.Word.TheVariants as word

abbrev pub word_begins_type : Word → Bool
word_begins_type word.Same = true
word_begins_type word.Rout = true
word_begins_type word.Iter = true
word_begins_type _ = false

abbrev pub begins_type : Option TokenKind → Bool
begins_type (Some token.ClassName) = true
begins_type (Some token.AbstractName) = true
begins_type (Some (token.Word w)) = word_begins_type w
begins_type _ = false

abbrev pub word_begins_expression : Word → Bool
word_begins_expression word.Bind = true
word_begins_expression word.Exception = true
word_begins_expression word.False = true
word_begins_expression word.Iter = true
word_begins_expression word.New = true
word_begins_expression word.Rout = true
word_begins_expression word.Same = true
word_begins_expression word.SelfWord = true
word_begins_expression word.True = true
word_begins_expression word.Void = true
word_begins_expression _ = false

abbrev pub sign_begins_expression : Sign → Bool
sign_begins_expression sign.Bar = true
sign_begins_expression sign.Hash = true
sign_begins_expression sign.LeftBracket = true
sign_begins_expression sign.LeftParen = true
sign_begins_expression sign.Minus = true
sign_begins_expression sign.Tilde = true
sign_begins_expression _ = false

-- names, numbers, characters and texts begin one
abbrev pub begins_expression : Option TokenKind → Bool
begins_expression None = false
begins_expression (Some (token.Word w)) = word_begins_expression w
begins_expression (Some (token.Sign s)) = sign_begins_expression s
begins_expression (Some _) = true
