-- The bytes that a token spans.
use Rattle.std.specs.Prelude.{ℕ, ◌≤◌, List, length}
use Rattle.sa_lexer.specs.declared.token.Token.{Token}

-- the token spans bytes of this text
pub record IsWithin (text : List ℕ) (token : Token) : Type 0 where
  pub in_order : token.start ≤ token.end
  pub in_text : token.end ≤ length text
