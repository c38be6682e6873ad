-- Each word and each sign is found by its spelling: so all of them are listed, and no two are spelled alike.
use Rattle.std.proofs.Common.{◌≡◌, length, Option, Some, refl}
use Rattle.sa_lexer.specs.declared.word.Word.{Word}
use Rattle.sa_lexer.specs.declared.word.Word.TheVariants as word
use Rattle.sa_lexer.specs.declared.sign.Sign.{Sign}
use Rattle.sa_lexer.specs.declared.sign.Sign.TheVariants as sign
use Rattle.sa_lexer.specs.Words.{word_text, word_spelled}
use Rattle.sa_lexer.specs.Signs.{sign_text}
use Rattle.sa_lexer.specs.Sign.{sign_at}

pub word_found : (w : Word) → word_spelled (word_text w) ≡ Some w
word_found word.Abstract = refl
word_found word.And = refl
word_found word.Assert = refl
word_found word.Attr = refl
word_found word.Bind = refl
word_found word.Builtin = refl
word_found word.Case = refl
word_found word.Class = refl
word_found word.Const = refl
word_found word.Else = refl
word_found word.Elsif = refl
word_found word.End = refl
word_found word.Exception = refl
word_found word.False = refl
word_found word.If = refl
word_found word.Immutable = refl
word_found word.In = refl
word_found word.Include = refl
word_found word.Inout = refl
word_found word.Is = refl
word_found word.Loop = refl
word_found word.New = refl
word_found word.Once = refl
word_found word.Or = refl
word_found word.Out = refl
word_found word.Partial = refl
word_found word.Private = refl
word_found word.Protect = refl
word_found word.Quit = refl
word_found word.Raise = refl
word_found word.Readonly = refl
word_found word.Return = refl
word_found word.SelfWord = refl
word_found word.Shared = refl
word_found word.Stub = refl
word_found word.Then = refl
word_found word.True = refl
word_found word.Typecase = refl
word_found word.Void = refl
word_found word.When = refl
word_found word.Yield = refl
word_found word.Iter = refl
word_found word.Rout = refl
word_found word.Same = refl
word_found word.Pre = refl
word_found word.Post = refl
word_found word.Initial = refl
word_found word.Result = refl
word_found word.Invariant = refl
word_found word.External = refl
word_found word.Spread = refl
word_found word.Fork = refl
word_found word.Par = refl
word_found word.Parloop = refl
word_found word.Lock = refl
word_found word.Unlock = refl
word_found word.Guard = refl
word_found word.Cohort = refl
word_found word.Sync = refl
word_found word.Near = refl
word_found word.Far = refl

pub sign_found : (s : Sign) → sign_at (length (sign_text s)) (sign_text s) ≡ Some s
sign_found sign.LeftParen = refl
sign_found sign.RightParen = refl
sign_found sign.LeftBracket = refl
sign_found sign.RightBracket = refl
sign_found sign.LeftBrace = refl
sign_found sign.RightBrace = refl
sign_found sign.Comma = refl
sign_found sign.Semicolon = refl
sign_found sign.Colon = refl
sign_found sign.Dot = refl
sign_found sign.DoubleColon = refl
sign_found sign.Assign = refl
sign_found sign.Declare = refl
sign_found sign.Equal = refl
sign_found sign.NotEqual = refl
sign_found sign.Less = refl
sign_found sign.LessEqual = refl
sign_found sign.Greater = refl
sign_found sign.GreaterEqual = refl
sign_found sign.Plus = refl
sign_found sign.Minus = refl
sign_found sign.Star = refl
sign_found sign.Slash = refl
sign_found sign.Percent = refl
sign_found sign.Caret = refl
sign_found sign.Tilde = refl
sign_found sign.Hash = refl
sign_found sign.Bar = refl
sign_found sign.Underscore = refl
sign_found sign.Arrow = refl
