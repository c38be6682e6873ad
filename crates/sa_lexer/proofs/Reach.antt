-- What it is that a token is at the front of a text, and that a prefix of the text that is a token is within the one found there.
use Rattle.std.proofs.Common.{◌≡◌, ℕ, ◌≤◌, List, ◌++◌, length, take, Result, Ok, Err, sym, ap, subst, ◌∙◌, length-append, take_at, drop_at, refl, drop, arith}
use Rattle.sa_lexer.specs.declared.scan_result.ScannedToken.{ScannedToken}
use Rattle.sa_lexer.specs.declared.scan_result.Fault.{Fault}
use Rattle.sa_lexer.specs.declared.token.TokenKind.{TokenKind}
use Rattle.sa_lexer.specs.Front.{front_of}
use Rattle.sa_lexer.specs.TokenRules.{Matches}

-- the first bytes of the text are a token of this kind
pub record IsTokenOf (text : List ℕ) (found : ScannedToken) : Type 0 where
  pub in_text : found.len ≤ length text
  pub matches : Matches found.kind (take found.len text)

-- what is found at the front of the text is at least as long as the bytes there
abbrev pub Reaches : (front following : List ℕ) → Type 0
Reaches front following = (found : ScannedToken) → front_of (front ++ following) ≡ Ok found → length front ≤ found.len

abbrev pub ok : ScannedToken → Result ScannedToken Fault
ok found = Ok found

abbrev pub err : Fault → Result ScannedToken Fault
err fault = Err fault

pub same_found : (f g : ScannedToken) → (r : Result ScannedToken Fault) → r ≡ Ok f → r ≡ Ok g → f ≡ g
same_found f g r p q = cc

-- a token whose bytes are these
pub token_of : (kind : TokenKind) (text front following : List ℕ) (len : ℕ) → text ≡ front ++ following → len ≡ length front → Matches kind front → IsTokenOf text (record { kind = kind; len = len })
token_of kind text front following len split long matches = record {
  in_text = omega (arith, ap length split, length-append front following);
  matches = subst (Matches kind) (sym (ap (take len) split ∙ take_at front following len (sym long))) matches;
}

-- what comes after a prefix is the rest of the list
pub front-split : (xs front following : List ℕ) → xs ≡ front ++ following → xs ≡ front ++ drop (length front) xs
front-split xs front following split = split ∙ ap (λ (l : List ℕ). front ++ l) (sym (ap (drop (length front)) split ∙ drop_at front following (length front) refl))
