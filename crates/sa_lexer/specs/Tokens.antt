-- The tokens of a text.
use Rattle.std.specs.Prelude.{◌≡◌, ℕ, ◌+◌, ◌-◌, ◌<◌, ◌≤◌, ⊤, false, List, [], ◌∷◌, length, drop, Ok, Err}
use Rattle.sa_lexer.specs.declared.token.Token.{Token}
use Rattle.sa_lexer.specs.declared.scan_result.ScannedToken.{ScannedToken}
use Rattle.sa_ast.specs.declared.refusal.Refusal.{Refusal}
use Rattle.sa_ast.specs.declared.refusal.Rejection.{Rejection}
use Rattle.sa_ast.specs.declared.refusal.Rejection.TheVariants.{Refused, Failed}
use Rattle.sa_lexer.specs.Gap.{gap_len, mark_len}
use Rattle.sa_lexer.specs.Front.{front_of}
use Rattle.sa_lexer.specs.TokenRules.{IsLongest}

-- the position after the blanks and comments that are at a position
abbrev pub gap_end : List ℕ → ℕ → ℕ
gap_end text place = place + gap_len false (drop place text)

-- a token without its position
abbrev pub found_as : Token → ScannedToken
found_as token = record { kind = token.kind; len = token.end - token.start }

-- the token begins at this position: it is the one that is found at the front there, and the longest by the lexical rules
pub record IsTokenAt (text : List ℕ) (place : ℕ) (token : Token) : Type 0 where
  pub start : token.start ≡ place
  pub not_empty : token.start < token.end
  pub in_text : token.end ≤ length text
  pub front : front_of (drop place text) ≡ Ok (found_as token)
  pub longest : IsLongest (drop place text) (found_as token)

-- the tokens follow one another from a position on, with blanks and comments alone between them
abbrev pub Follow : List ℕ → ℕ → List Token → Type 0
Follow text place [] = ⊤
Follow text place (token ∷ tokens) = IsTokenAt text (gap_end text place) token × Follow text token.end tokens

-- the position after the last of the tokens, or the position itself where there is none
abbrev pub end_of : ℕ → List Token → ℕ
end_of place [] = place
end_of place (token ∷ tokens) = end_of token.end tokens

-- the tokens of a text, whose first three bytes may be a byte order mark: what is before, between and after them is blanks and comments
pub record AreTokensOf (text : List ℕ) (tokens : List Token) : Type 0 where
  pub follow : Follow text (mark_len text) tokens
  pub all : gap_end text (end_of (mark_len text) tokens) ≡ length text

-- no token begins at this position of the text, since the rule is broken there
pub record BreaksAt (text : List ℕ) (place : ℕ) (refusal : Refusal) : Type 0 where
  pub following : place ≤ refusal.pos.at
  pub in_text : refusal.pos.at < length text
  pub fault : front_of (drop place text) ≡ Err (record { rule = refusal.rule; offset = refusal.pos.at - place })

-- a refusal says why no token begins at this position of the file's text
abbrev pub RefusesAt : List ℕ → ℕ → ℕ → Rejection → Type 0
RefusesAt text file place (Refused refusal) = BreaksAt text place refusal × (refusal.pos.file ≡ file)
RefusesAt text file place (Failed why) = ⊤

-- the rule that is broken at the first position where the list of tokens can't continue
pub record IsFaultOf (text : List ℕ) (refusal : Refusal) : Type 0 where
  pub tokens : List Token
  pub follow : Follow text (mark_len text) tokens
  pub breaks : BreaksAt text (gap_end text (end_of (mark_len text) tokens)) refusal

-- a refusal names the fault of the file's text
abbrev pub RefusesText : List ℕ → ℕ → Rejection → Type 0
RefusesText text file (Refused refusal) = IsFaultOf text refusal × (refusal.pos.file ≡ file)
RefusesText text file (Failed why) = ⊤
