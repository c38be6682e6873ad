-- Forms that require a lexeme first: what they read says what is there. And a word after a form.
use Rattle.std.proofs.Common.{◌≡◌, ◌≢◌, ℕ, ◌+◌, Bool, true, false, List, Some, ◌⊎◌, inl, inr, refl, sym, ap, ◌∙◌}
use Rattle.std.proofs.lemmas.Bool.{cases_Bool, false_from_ne_true}
use Rattle.std.proofs.lemmas.Option.{slice_get_cases}
use Rattle.sa_lexer.specs.declared.token.TokenKind.{TokenKind}
use Rattle.sa_lexer.specs.declared.token.TokenKind.TheVariants as token
use Rattle.sa_lexer.specs.declared.word.Word.{Word}
use Rattle.sa_parser_expr.specs.declared.tokens.Tokens.{Tokens}
use Rattle.sa_parser_expr.specs.Exactly.{lexemes_from}
use Rattle.sa_parser_expr.specs.Forms.{Form, refuse, shift, nest, until_word, Nested}
use Rattle.sa_parser_expr.specs.Grammar.{form_of}
use Rattle.sa_parser_expr.specs.Lexemes.{Lexeme, lexeme_at}
use Rattle.sa_parser_expr.specs.Positions.{kind_at}
use Rattle.sa_parser_expr.specs.Readings.{Reading, Read, Refused}
use Rattle.sa_parser_expr.specs.Tests.{is_lower}
use Rattle.sa_parser_expr.proofs.Runs.{at_level, Runs, gives, refused, met, not_met, follows, nested, shut_by, shut_word}
use Rattle.sa_parser_expr.proofs.Shifts.{Shut}
use Rattle.sa_parser_expr.proofs.Stretches.{occurrence, occurs, past}
use Rattle.sa_parser_expr.proofs.Tested.{word_is, lower_stands}

abbrev refusal : (A : Type 0) → List Lexeme → Reading A
refusal A ls = Refused ls

refused_same : (A : Type 0) (ls ms : List Lexeme) → refusal A ls ≡ refusal A ms → ls ≡ ms
refused_same A ls ms h = cc

module _ (t : Tokens) where
  -- what a form reads is unique
  pub one_reading : {A : Type 0} {form : Form A} {at : ℕ} {v w : Reading A} → Runs t form at v → Runs t form at w → v ≡ w
  one_reading r s = sym r.is ∙ s.is

  pub runs : {A : Type 0} (form : Form A) (at : ℕ) → Runs t form at (at_level t form (lexemes_from t at))
  runs form at = record { is = refl }

  -- a production that nests is read as its form is
  pub same_nest : (n : Nested) (at : ℕ) → at_level t (nest n) (lexemes_from t at) ≡ at_level t (form_of n) (lexemes_from t at)
  same_nest n at = sym (nested t n (runs (nest n) at)).is

  -- ---- the next lexeme

  -- at the index is a token that meets the test
  pub record Stood (test : Lexeme → Bool) (at : ℕ) : Type 0 where
    pub kind : TokenKind
    pub there : kind_at t.list.now at ≡ Some kind
    pub met : test (lexeme_at t at kind) ≡ true

  pub looked : (test : Lexeme → Bool) (at : ℕ) → Stood test at ⊎ Shut test (lexemes_from t at)
  looked test at = elim (slice_get_cases t.list.now at).1 [
    | inl found ↦
        let there = occurrence t at found.1 in
        elim (cases_Bool (test (lexeme_at t at there.0))) [
          | inl meets ↦ inl (record { kind = there.0; there = there.1; met = meets })
          | inr fails ↦ inr (rw (occurs t at there.0 there.1) fails)
        ]
    | inr end ↦ inr (rw (past t at end.0) tt)
  ]

  pub shut_lower : (at : ℕ) → kind_at t.list.now at ≢ Some token.Lower → Shut is_lower (lexemes_from t at)
  shut_lower at h =
      shut_by t is_lower at (λ kind there.
      false_from_ne_true (is_lower (lexeme_at t at kind)) (λ meets. h (there ∙ ap Some (lower_stands (lexeme_at t at kind) meets))))

  -- ---- a lexeme that meets a test, and a form after it

  -- what was read says that such a lexeme is there, and what is read after it
  pub record Opened {A : Type 0} (test : Lexeme → Bool) (go : Lexeme → Form A) (at : ℕ) (v : Reading A) : Type 0 where
    pub first : Stood test at
    pub rest : Runs t (go (lexeme_at t at first.kind)) (at + 1) v

  following : {A : Type 0} {test : Lexeme → Bool} {go : Lexeme → Form A} {at : ℕ} {v : Reading A} (s : Stood test at)
      → Runs t (shift test go refuse) at v → Runs t (go (lexeme_at t at s.kind)) (at + 1) v
  following {test = test} {go = go} {at = at} s r = record {
    is = one_reading (met t {test = test} {go = go} {other = refuse} s.kind s.there s.met (runs (go (lexeme_at t at s.kind)) (at + 1))) r;
  }

  pub opened_read : {A : Type 0} {test : Lexeme → Bool} {go : Lexeme → Form A} {at : ℕ} {a : A} {rest : List Lexeme}
      → Runs t (shift test go refuse) at (Read a rest) → Opened test go at (Read a rest)
  opened_read {A = A} {test = test} {go = go} {at = at} {a = a} {rest = rest} r = elim (looked test at) [
    | inl s ↦ record { first = s; rest = following s r }
    | inr shut ↦
        let same : refusal A (lexemes_from t at) ≡ Read a rest = one_reading (not_met t {go = go} {other = refuse} shut (refused t)) r in
        absurd (cc)
  ]

  -- what is refused is the lexeme there, or refused after it
  pub opened_refused : {A B : Type 0} {test : Lexeme → Bool} {go : Lexeme → Form A} {other : Lexeme → Form B} {at : ℕ} {rest : List Lexeme}
      → ((s : Stood test at) → Runs t (go (lexeme_at t at s.kind)) (at + 1) (Refused rest) → Runs t (other (lexeme_at t at s.kind)) (at + 1) (Refused rest))
      → Runs t (shift test go refuse) at (Refused rest) → Runs t (shift test other refuse) at (Refused rest)
  opened_refused {A = A} {B = B} {test = test} {go = go} {other = other} {at = at} {rest = rest} each r = elim (looked test at) [
    | inl s ↦ met t s.kind s.there s.met (each s (following s r))
    | inr shut ↦
        let same : refusal A (lexemes_from t at) ≡ refusal A rest = one_reading (not_met t {go = go} {other = refuse} shut (refused t)) r in
        not_met t shut (record { is = ap (refusal B) (refused_same A (lexemes_from t at) rest same) })
  ]

  -- ---- a word after a form

  pub word_closed : {A : Type 0} {form : Form A} {word : Word} {at : ℕ} {a : A} (mid : ℕ) → Runs t form at (Read a (lexemes_from t mid))
      → kind_at t.list.now mid ≡ Some (token.Word word) → Runs t (until_word word form) at (Read a (lexemes_from t (mid + 1)))
  word_closed {word = word} mid r there = follows t r (met t (token.Word word) there (word_is word) (gives t))

  pub word_unclosed : {A : Type 0} {form : Form A} {word : Word} {at : ℕ} {a : A} (mid : ℕ) → Runs t form at (Read a (lexemes_from t mid))
      → kind_at t.list.now mid ≢ Some (token.Word word) → Runs t (until_word word form) at (Refused (lexemes_from t mid))
  word_unclosed {word = word} mid r other = follows t r (not_met t (shut_word t word mid other) (refused t))
