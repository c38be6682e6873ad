-- A form of several alternatives, of which the next lexeme takes none of the first ones: it reads as the form after them.
use Rattle.std.proofs.Common.{◌≡◌, ℕ, zero, suc, Bool, false, ◌||◌, Some, None, Result, Ok, Err, refl, sym, ◌∙◌}
use Rattle.std.proofs.lemmas.Bool.{or_from, or_parts}
use Rattle.std.proofs.lemmas.Option.{none-some}
use Rattle.sa_lexer.specs.declared.token.TokenKind.{TokenKind}
use Rattle.sa_ast.specs.declared.refusal.Rejection.{Rejection}
use Rattle.sa_parser_expr.specs.declared.tokens.Tokens.{Tokens}
use Rattle.sa_parser_expr.specs.Exactly.{ReadsAs, lexemes_from}
use Rattle.sa_parser_expr.specs.Forms.{Form, give, refuse, shift, either, follow, separated, repeat, placed, nest, opens}
use Rattle.sa_parser_expr.specs.Lexemes.{Lexeme, lexeme_at}
use Rattle.sa_parser_expr.specs.Positions.{kind_at}
use Rattle.sa_parser_expr.specs.Readings.{Reading, Read, Refused}
use Rattle.sa_parser_expr.proofs.Runs.{Runs, taken, takes, handed_on, not_met, another, shut_by}

-- a form after its first alternatives, and whether a lexeme is taken by one of them
abbrev pub following_first : {A : Type 0} → ℕ → Form A → Form A
following_first zero form = form
following_first (suc n) (shift test go other) = following_first n other
following_first (suc n) form = form

abbrev pub is_among : {A : Type 0} → ℕ → Form A → Lexeme → Bool
is_among zero form l = false
is_among (suc n) (shift test go other) l = test l || is_among n other l
is_among (suc n) form l = false

-- a lexeme that a form doesn't open with is taken by none of its first alternatives, nor by what is after them
module _ (l : Lexeme) where
  pub none_among : {A : Type 0} (n : ℕ) (form : Form A) → opens form l ≡ false → is_among n form l ≡ false
  none_among zero form h = refl
  none_among (suc n) (shift test go other) h =
      let parts = or_parts (test l) (opens other l) h in
      or_from (test l) (is_among n other l) parts.0 (none_among n other parts.1)
  none_among (suc n) _ h = refl

  pub none_behind : {A : Type 0} (n : ℕ) (form : Form A) → opens form l ≡ false → opens (following_first n form) l ≡ false
  none_behind zero form h = h
  none_behind (suc n) (shift test go other) h = none_behind n other (or_parts (test l) (opens other l) h).1
  none_behind (suc n) (give a) h = h
  none_behind (suc n) refuse h = h
  none_behind (suc n) (either one other) h = h
  none_behind (suc n) (follow first next) h = h
  none_behind (suc n) (separated test item) h = h
  none_behind (suc n) (repeat test step a) h = h
  none_behind (suc n) (placed form) h = h
  none_behind (suc n) (nest m) h = h

module _ (t : Tokens) where
  pub passing : {A : Type 0} (n : ℕ) (form : Form A) {at : ℕ} {v : Reading A} (kind : TokenKind) → kind_at t.list.now at ≡ Some kind
      → is_among n form (lexeme_at t at kind) ≡ false → Runs t (following_first n form) at v → Runs t form at v
  passing zero form kind there h r = r
  passing (suc n) (shift test go other) {at = at} kind there h r =
      let parts = or_parts (test (lexeme_at t at kind)) (is_among n other (lexeme_at t at kind)) h in
      another t kind there parts.0 (passing n other kind there parts.1 r)
  passing (suc n) _ kind there h r = r

  -- at the end of the file
  pub passing_end : {A : Type 0} (n : ℕ) (form : Form A) {at : ℕ} {v : Reading A} → kind_at t.list.now at ≡ None
      → Runs t (following_first n form) at v → Runs t form at v
  passing_end zero form end r = r
  passing_end (suc n) (shift test go other) {at = at} end r =
      not_met t (shut_by t test at (λ kind there. absurd (none-some kind (sym end ∙ there)))) (passing_end n other end r)
  passing_end (suc n) _ end r = r

  -- what a form reads at an index is what another one reads at another index
  pub alike : {A : Type 0} {one other : Form A} {mid at : ℕ} (r : Result (A × ℕ) Rejection)
      → ((v : Reading A) → Runs t one mid v → Runs t other at v) → ReadsAs one t mid r → ReadsAs other t at r
  alike (Ok read) step h = takes t (step (Read read.0 (lexemes_from t read.1)) (taken t h))
  alike {one = one} {mid = mid} (Err e) step h = handed_on t one mid e refl h (λ rest run. step (Refused rest) run)
