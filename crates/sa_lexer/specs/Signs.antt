-- The signs of the language.
use Rattle.std.specs.Prelude.{ℕ, List, [], ◌∷◌, codes}
use Rattle.sa_lexer.specs.declared.sign.Sign.{Sign}
use Rattle.sa_lexer.specs.declared.sign.Sign.TheVariants as sign

-- how a sign is spelled
abbrev pub sign_text : Sign → List ℕ
sign_text sign.LeftParen = codes "("
sign_text sign.RightParen = codes ")"
sign_text sign.LeftBracket = codes "["
sign_text sign.RightBracket = codes "]"
sign_text sign.LeftBrace = codes "{"
sign_text sign.RightBrace = codes "}"
sign_text sign.Comma = codes ","
sign_text sign.Semicolon = codes ";"
sign_text sign.Colon = codes ":"
sign_text sign.Dot = codes "."
sign_text sign.DoubleColon = codes "::"
sign_text sign.Assign = codes ":="
sign_text sign.Declare = codes "::="
sign_text sign.Equal = codes "="
sign_text sign.NotEqual = codes "/="
sign_text sign.Less = codes "<"
sign_text sign.LessEqual = codes "<="
sign_text sign.Greater = codes ">"
sign_text sign.GreaterEqual = codes ">="
sign_text sign.Plus = codes "+"
sign_text sign.Minus = codes "-"
sign_text sign.Star = codes "*"
sign_text sign.Slash = codes "/"
sign_text sign.Percent = codes "%"
sign_text sign.Caret = codes "^"
sign_text sign.Tilde = codes "~"
sign_text sign.Hash = codes "#"
sign_text sign.Bar = codes "|"
sign_text sign.Underscore = codes "_"
sign_text sign.Arrow = codes "->"

-- all signs
abbrev pub signs : List Sign
signs =
    sign.LeftParen ∷ sign.RightParen ∷ sign.LeftBracket ∷ sign.RightBracket ∷ sign.LeftBrace
    ∷ sign.RightBrace ∷ sign.Comma ∷ sign.Semicolon ∷ sign.Colon ∷ sign.Dot ∷ sign.DoubleColon ∷ sign.Assign
    ∷ sign.Declare ∷ sign.Equal ∷ sign.NotEqual ∷ sign.Less ∷ sign.LessEqual ∷ sign.Greater
    ∷ sign.GreaterEqual ∷ sign.Plus ∷ sign.Minus ∷ sign.Star ∷ sign.Slash ∷ sign.Percent ∷ sign.Caret
    ∷ sign.Tilde ∷ sign.Hash ∷ sign.Bar ∷ sign.Underscore ∷ sign.Arrow ∷ []
