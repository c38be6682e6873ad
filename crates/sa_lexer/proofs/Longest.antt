-- What is found at the front of a text is the longest token there by the rules of the language.
use Rattle.std.proofs.Common.{◌≡◌, ℕ, ◌≤◌, Bool, true, false, ◌==◌, List, [], ◌∷◌, length, take, drop, Ok, refl, sym, ap, ◌∙◌, subst, length-take, take-append-drop, if◌then◌else◌, arith, eqb-true}
use Rattle.std.specs.Char.{is_ascii_alphabetic, is_ascii_digit}
use Rattle.sa_lexer.specs.declared.scan_result.ScannedToken.{ScannedToken}
use Rattle.sa_lexer.specs.declared.token.TokenKind.{TokenKind}
use Rattle.sa_lexer.specs.declared.token.TokenKind.TheVariants as token
use Rattle.sa_lexer.specs.Front.{front_of}
use Rattle.sa_lexer.specs.Literal.{character_token, text_token}
use Rattle.sa_lexer.specs.Name.{name_token, abstract_token}
use Rattle.sa_lexer.specs.Number.{number_token}
use Rattle.sa_lexer.specs.Sign.{sign_token}
use Rattle.sa_lexer.specs.TokenRules.{Matches, IsLongest}
use Rattle.sa_lexer.proofs.Reach.{IsTokenOf, Reaches, ok}
use Rattle.sa_lexer.proofs.LongestLiteral.{character_matches, character_reaches, text_matches, text_reaches}
use Rattle.sa_lexer.proofs.LongestName.{name_matches, name_reaches, word_reaches, iter_reaches, abstract_matches, abstract_reaches}
use Rattle.sa_lexer.proofs.LongestNumber.{number_matches, number_reaches}
use Rattle.sa_lexer.proofs.LongestSign.{sign_matches, sign_reaches}

-- it is a token by the rules
front_matches : (text : List ℕ) (found : ScannedToken) → front_of text ≡ Ok found → IsTokenOf text found
unfolding front_of
front_matches [] found is = cc
front_matches (b ∷ bs) found is = by (is_ascii_alphabetic b) refl (is_ascii_digit b) (b == 0x27) refl (b == 0x22) refl (b == 0x24) refl is
  where
    at : (c : ℕ) → (b == c) ≡ true → IsTokenOf (c ∷ bs) found → IsTokenOf (b ∷ bs) found
    at c test one = subst (λ (x : ℕ). IsTokenOf (x ∷ bs) found) (sym (eqb-true b c test)) one

    by : (letter : Bool) → is_ascii_alphabetic b ≡ letter → (digit : Bool) → (character : Bool) → (b == 0x27) ≡ character → (text : Bool) → (b == 0x22) ≡ text → (dollar : Bool) → (b == 0x24) ≡ dollar
        → (if letter then ok (name_token (b ∷ bs)) else (if digit then number_token (b ∷ bs) else (if character then character_token bs else (if text then text_token bs else (if dollar then abstract_token bs else sign_token (b ∷ bs)))))) ≡ Ok found
        → IsTokenOf (b ∷ bs) found
    by true letter digit character hc text ht dollar hd same = let e : name_token (b ∷ bs) ≡ found = cc in subst (IsTokenOf (b ∷ bs)) e (name_matches b bs letter)
    by false letter true character hc text ht dollar hd same = number_matches (b ∷ bs) found same
    by false letter false true hc text ht dollar hd same = at 0x27 hc (character_matches bs found same)
    by false letter false false hc true ht dollar hd same = at 0x22 ht (text_matches bs found same)
    by false letter false false hc false ht true hd same = at 0x24 hd (abstract_matches bs found same)
    by false letter false false hc false ht false hd same = sign_matches (b ∷ bs) found same

-- and no token by the rules goes beyond it
matches_reach : (kind : TokenKind) (front following : List ℕ) → Matches kind front → Reaches front following
matches_reach (token.Word word) front following is = subst (λ (l : List ℕ). Reaches l following) (sym is) (word_reaches word following)
matches_reach token.ClassName front following is = name_reaches front following is.0.0
matches_reach token.AbstractName front following is = subst (λ (l : List ℕ). Reaches l following) (sym is.1) (abstract_reaches is.0 following is.2)
matches_reach token.Lower front following is = name_reaches front following is.0.0
matches_reach token.IterName front following is = subst (λ (l : List ℕ). Reaches l following) (sym is.1) (iter_reaches is.0 following is.2)
matches_reach (token.Int value) front following is = number_reaches value front following is
matches_reach (token.Char value) front following is = character_reaches value front following is
matches_reach (token.Text values) front following is = text_reaches values front following is
matches_reach (token.Sign sign) front following is = subst (λ (l : List ℕ). Reaches l following) (sym is) (sign_reaches sign following)

pub front_longest : (text : List ℕ) (found : ScannedToken) → front_of text ≡ Ok found → IsLongest text found
front_longest text found is =
    let one = front_matches text found is in
    record { in_text = one.in_text; matches = one.matches; longest = within }
  where
    within : (kind : TokenKind) (len : ℕ) → len ≤ length text → Matches kind (take len text) → len ≤ found.len
    within kind len le matches =
        let reach = matches_reach kind (take len text) (drop len text) matches found (ap front_of (take-append-drop len text) ∙ is) in
        omega (arith, length-take len text)
