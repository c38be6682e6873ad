-- Signs: what is found is a token by the rules, and reaches as far as any.
use Rattle.std.proofs.Common.{◌≡◌, ℕ, ◌≤◌, true, ◌&&◌, ◌==◌, List, ◌++◌, length, take, drop, Option, Some, None, Result, Ok, refl, sym, ap, inl, inr, ◌⊎◌, suc, ◌∙◌, subst, take-append-drop, leb, leb-true, eqb-true, arith}
use Rattle.std.specs.Prelude.{nat_eq, option_map}
use Rattle.std.specs.Option.{option_or, ok_or}
use Rattle.std.specs.List.{starts_with}
use Rattle.std.proofs.lemmas.Bool.{and_parts}
use lib.Pointwise.{bytes_decides}
use Rattle.sa_lexer.specs.declared.scan_result.ScannedToken.{ScannedToken}
use Rattle.sa_lexer.specs.declared.scan_result.Fault.{Fault}
use Rattle.sa_lexer.specs.declared.sign.Sign.{Sign}
use Rattle.sa_lexer.specs.declared.sign.Sign.TheVariants as sign
use Rattle.sa_lexer.specs.declared.token.TokenKind.TheVariants as token
use Rattle.sa_ast.specs.declared.rule.Rule.TheVariants as rule
use Rattle.sa_lexer.specs.Front.{front_of}
use Rattle.sa_lexer.specs.Sign.{sign_at, sign_token}
use Rattle.sa_lexer.specs.Signs.{sign_text, signs}
use Rattle.sa_lexer.proofs.Reach.{IsTokenOf, Reaches, token_of}
use Rattle.sa_lexer.proofs.Fronts.{found_passes}

abbrev as_found : ℕ → Sign → ScannedToken
as_found n s = record { kind = token.Sign s; len = n }

sign_there : (n : ℕ) (bs : List ℕ) (s : Sign) → sign_at n bs ≡ Some s → IsTokenOf bs (as_found n s)
sign_there n bs s at =
    let passes = found_passes (λ (t : Sign). length (sign_text t) == n && starts_with nat_eq bs (sign_text t)) signs s at in
    let parts = and_parts (length (sign_text s) == n) (starts_with nat_eq bs (sign_text s)) passes in
    let text = sign_text s in
    let same = (bytes_decides text (take (length text) bs)).0 parts.1 in
    let split : bs ≡ text ++ drop (length text) bs = sym (take-append-drop (length text) bs) ∙ ap (λ (l : List ℕ). l ++ drop (length text) bs) (sym same) in
    token_of (token.Sign s) bs text (drop (length text) bs) n split (sym (eqb-true (length text) n parts.0)) refl

-- which sign is found, and that no sign there is longer
record IsFound (bs : List ℕ) (found : ScannedToken) : Type 0 where
  size : ℕ
  is : Sign
  at : sign_at size bs ≡ Some is
  same : found ≡ as_found size is
  longest : (n : ℕ) (s : Sign) → n ≤ 3 → sign_at n bs ≡ Some s → n ≤ size

none_some : (o : Option Sign) (s : Sign) → o ≡ None → o ≡ Some s → ⊥
none_some o s p q = cc

at_most : (bs : List ℕ) (n k : ℕ) (t : Sign) → n ≤ suc k → sign_at (suc k) bs ≡ None → sign_at n bs ≡ Some t → n ≤ k
at_most bs n k t le none at = by (grind arith)
  where
    by : (n ≤ k) ⊎ (n ≡ suc k) → n ≤ k
    by (inl below) = below
    by (inr same) = absurd (none_some (sign_at n bs) t (ap (λ (m : ℕ). sign_at m bs) same ∙ none) at)

abbrev first_of_three : (three two one : Option Sign) → Result ScannedToken Fault
first_of_three three two one = ok_or (option_or (option_map (as_found 3) three) (option_or (option_map (as_found 2) two) (option_map (as_found 1) one))) (record { rule = rule.BadByte; offset = 0 })

sign_found : (bs : List ℕ) (found : ScannedToken) → sign_token bs ≡ Ok found → IsFound bs found
unfolding sign_token
sign_found bs found is = by (sign_at 3 bs) (sign_at 2 bs) (sign_at 1 bs) refl refl refl is
  where
    by : (three two one : Option Sign) → sign_at 3 bs ≡ three → sign_at 2 bs ≡ two → sign_at 1 bs ≡ one → first_of_three three two one ≡ Ok found → IsFound bs found
    by (Some s) two one h3 h2 h1 same = record { size = 3; is = s; at = h3; same = cc; longest = λ n t le at. le }
    by None (Some s) one h3 h2 h1 same = record { size = 2; is = s; at = h2; same = cc; longest = λ n t le at. at_most bs n 2 t le h3 at }
    by None None (Some s) h3 h2 h1 same = record { size = 1; is = s; at = h1; same = cc; longest = λ n t le at. at_most bs n 1 t (at_most bs n 2 t le h3 at) h2 at }
    by None None None h3 h2 h1 same = cc

pub sign_matches : (bs : List ℕ) (found : ScannedToken) → sign_token bs ≡ Ok found → IsTokenOf bs found
sign_matches bs found is =
    let sign = sign_found bs found is in
    subst (IsTokenOf bs) (sym sign.same) (sign_there sign.size bs sign.is sign.at)

-- ---- how far it reaches

sign_front : (s : Sign) (following : List ℕ) → front_of (sign_text s ++ following) ≡ sign_token (sign_text s ++ following)
unfolding front_of
sign_front sign.LeftParen following = refl
sign_front _ following = refl

sign_first : (s : Sign) (following : List ℕ) → sign_at (length (sign_text s)) (sign_text s ++ following) ≡ Some s
sign_first sign.LeftParen following = refl
sign_first _ following = refl

sign_short : (s : Sign) → leb (length (sign_text s)) 3 ≡ true
sign_short sign.LeftParen = refl
sign_short _ = refl

pub sign_reaches : (s : Sign) (following : List ℕ) → Reaches (sign_text s) following
sign_reaches s following found finds =
    let sign = sign_found (sign_text s ++ following) found (sym (sign_front s following) ∙ finds) in
    let long = sign.longest (length (sign_text s)) s (leb-true (length (sign_text s)) 3 (sign_short s)) (sign_first s following) in
    omega (arith, ap (λ (f : ScannedToken). f.len) sign.same)
