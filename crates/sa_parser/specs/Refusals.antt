-- What a file's tokens are refused for.
use Rattle.std.specs.Prelude.{◌⊎◌, ℕ, List, length}
use Rattle.sa_lexer.specs.declared.token.Token.{Token}
use Rattle.sa_ast.specs.declared.refusal.Rejection.{Rejection}
use Rattle.sa_parser_expr.specs.Level.{AreTaken, RefusesTokens}
use Rattle.sa_parser_expr.specs.Positions.{IsUnexpected}

-- E07 or E08 at the first token that breaks one of these rules; or no token does, and one is unexpected: E06
abbrev pub IsRefusal : List Token → ℕ → Rejection → Type 0
IsRefusal tokens file fault =
    RefusesTokens tokens file fault ⊎ (AreTaken tokens (length tokens) × IsUnexpected file fault)
