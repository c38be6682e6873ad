-- What is at an index among a file's tokens. The indices past the last token are the end of the file.
use Rattle.std.specs.Prelude.{◌≡◌, ◌<◌, ◌≤◌, ⊤, ℕ, List, [], length, Option, slice_get, slice_range}
use Rattle.std.specs.Option.{option_map, option_map_or}
use Rattle.sa_lexer.specs.declared.token.Token.{Token}
use Rattle.sa_lexer.specs.declared.token.TokenKind.{TokenKind}
use Rattle.sa_ast.specs.declared.refusal.Rejection.{Rejection}
use Rattle.sa_ast.specs.declared.refusal.Rejection.TheVariants.{Refused, Failed}
use Rattle.sa_ast.specs.declared.rule.Rule.TheVariants.{UnexpectedToken}

-- what is there
unfoldable pub kind_at : List Token → ℕ → Option TokenKind
kind_at tokens at = option_map (λ (token : Token). token.kind) (slice_get tokens at)

-- its bytes, and none at the end
unfoldable pub bytes_at : List ℕ → List Token → ℕ → List ℕ
bytes_at text tokens at = option_map_or (λ (token : Token). slice_range text token.start token.end) (slice_get tokens at) []

-- the position of its first byte; that of the end of the file is after the last byte of the text
unfoldable pub start_at : List ℕ → List Token → ℕ → ℕ
start_at text tokens at = option_map_or (λ (token : Token). token.start) (slice_get tokens at) (length text)

-- E06 at the token that is there, or at the end of the file
abbrev pub unexpected_at : ℕ → List ℕ → List Token → ℕ → Rejection
unexpected_at file text tokens at = Refused (record {
  rule = UnexpectedToken;
  pos = record { file = file; at = start_at text tokens at };
})

-- a token that isn't allowed where it is, in this file: E06
abbrev pub IsUnexpected : ℕ → Rejection → Type 0
IsUnexpected file (Refused refusal) = (refusal.rule ≡ UnexpectedToken) × (refusal.pos.file ≡ file)
IsUnexpected file (Failed why) = ⊤

-- an index after this one, up to the end of the file
abbrev pub IsAfter : List Token → ℕ → ℕ → Type 0
IsAfter tokens from next = (from < next) × (next ≤ length tokens)

-- this index, or one after it
abbrev pub IsFrom : List Token → ℕ → ℕ → Type 0
IsFrom tokens from next = (from ≤ next) × (next ≤ length tokens)
