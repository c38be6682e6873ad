-- The token at the front of some bytes.
use Rattle.std.specs.Prelude.{ℕ, ◌==◌, List, [], ◌∷◌, Result, Ok, Err, if◌then◌else◌}
use Rattle.std.specs.Char.{is_ascii_alphabetic, is_ascii_digit}
use Rattle.sa_lexer.specs.declared.scan_result.ScannedToken.{ScannedToken}
use Rattle.sa_lexer.specs.declared.scan_result.Fault.{Fault}
use Rattle.sa_ast.specs.declared.rule.Rule.TheVariants as rule
use Rattle.sa_lexer.specs.Name.{name_token, abstract_token}
use Rattle.sa_lexer.specs.Number.{number_token}
use Rattle.sa_lexer.specs.Literal.{character_token, text_token}
use Rattle.sa_lexer.specs.Sign.{sign_token}

-- the longest token at the front, or why there is none. Its first byte decides its kind
unfoldable pub front_of : List ℕ → Result ScannedToken Fault
front_of [] = Err (record { rule = rule.BadByte; offset = 0 })
front_of (b ∷ bs) =
    if is_ascii_alphabetic b then Ok (name_token (b ∷ bs))
    else (if is_ascii_digit b then number_token (b ∷ bs)
    else (if b == 0x27 then character_token bs
    else (if b == 0x22 then text_token bs
    else (if b == 0x24 then abstract_token bs
    else sign_token (b ∷ bs)))))
