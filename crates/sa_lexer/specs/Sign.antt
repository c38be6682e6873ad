-- The sign at the front of some bytes.
use Rattle.std.specs.Prelude.{ℕ, ◌&&◌, ◌==◌, List, length, Option, option_map, Result, nat_eq}
use Rattle.std.specs.Option.{option_or, ok_or}
use Rattle.std.specs.List.{find, starts_with}
use Rattle.sa_lexer.specs.declared.token.TokenKind.TheVariants as token
use Rattle.sa_lexer.specs.declared.sign.Sign.{Sign}
use Rattle.sa_lexer.specs.declared.scan_result.ScannedToken.{ScannedToken}
use Rattle.sa_lexer.specs.declared.scan_result.Fault.{Fault}
use Rattle.sa_ast.specs.declared.rule.Rule.TheVariants as rule
use Rattle.sa_lexer.specs.Signs.{sign_text, signs}

-- the sign of n bytes that is at the front
abbrev pub sign_at : ℕ → List ℕ → Option Sign
sign_at n bs = find (λ (s : Sign). length (sign_text s) == n && starts_with nat_eq bs (sign_text s)) signs

abbrev pub found_sign : ℕ → List ℕ → Option ScannedToken
found_sign n bs = option_map (λ (s : Sign). record { kind = token.Sign s; len = n }) (sign_at n bs)

-- the longest sign at the front. None has more than three bytes
unfoldable pub sign_token : List ℕ → Result ScannedToken Fault
sign_token bs =
    ok_or (option_or (found_sign 3 bs) (option_or (found_sign 2 bs) (found_sign 1 bs)))
    (record { rule = rule.BadByte; offset = 0 })
