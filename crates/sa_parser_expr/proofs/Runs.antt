-- How forms read the lexemes of a file from an index on: a lemma for each way to make forms, by what is at the index.
use Rattle.std.proofs.Common.{◌≡◌, ◌≢◌, ℕ, suc, ◌+◌, ◌<◌, Bool, true, false, cond, List, [], ◌∷◌, ◌++◌, Some, Ok, Err, length, Result, refl, sym, ap, ◌∙◌, inl, inr, append_assoc, arith}
use Rattle.std.proofs.lemmas.Bool.{false_from_ne_true}
use Rattle.std.proofs.lemmas.Option.{slice_get_cases}
use Rattle.sa_lexer.specs.declared.token.TokenKind.{TokenKind}
use Rattle.sa_lexer.specs.declared.token.TokenKind.TheVariants as token
use Rattle.sa_lexer.specs.declared.sign.Sign.{Sign}
use Rattle.sa_lexer.specs.declared.sign.Sign.TheVariants as sign
use Rattle.sa_lexer.specs.declared.word.Word.{Word}
use Rattle.sa_ast.specs.declared.refusal.Rejection.{Rejection}
use Rattle.sa_ast.specs.declared.refusal.Rejection.TheVariants as fault
use Rattle.sa_parser_expr.specs.declared.tokens.Tokens.{Tokens}
use Rattle.sa_parser_expr.specs.Exactly.{lexemes_from, Takes, Refuses, ReadsAs, ReadsOf}
use Rattle.sa_parser_expr.specs.Forms.{Form, give, refuse, shift, either, follow, separated, list, repeat, placed, nest, make, until, opens}
use Rattle.sa_parser_expr.specs.Forms.{Reader, following, with_read, shifted, pos_of, listed, repeated, run, Nested, Ast}
use Rattle.sa_parser_expr.specs.Grammar.{form_of, nested_to, read_as}
use Rattle.sa_parser_expr.specs.Lexemes.{Lexeme, lexemes_of, lexeme_at}
use Rattle.sa_parser_expr.specs.Positions.{kind_at, unexpected_at}
use Rattle.sa_parser_expr.specs.Readings.{Reading, Read, Refused}
use Rattle.sa_parser_expr.specs.Tests.{is_sign, is_word}
use Rattle.sa_parser_expr.proofs.SameLevels.{cond-both, listed-same, repeated-same, levels_same, forms_same, short_to}
use Rattle.sa_parser_expr.proofs.Shifts.{Shut, Meets, shifted_met, shifted_shut, chosen_met, chosen_shut}
use Rattle.sa_parser_expr.proofs.Shorter.{NoLonger, NoLonger-run, behind_one}
use Rattle.sa_parser_expr.proofs.Stretches.{pos_at, occurrence, occurs, few, past}
use Rattle.sa_parser_expr.proofs.Tested.{sign_stands, sign_is, word_stands}

-- ---- lists so far

-- after some of a list: a lexeme that meets the test and others, or the end of the list
abbrev listed_on : {A : Type 0} → (Lexeme → Bool) → List A → Reader (List A) → Reader (List A)
listed_on test all others = shifted test (λ _ ms. with_read (λ more. all ++ more) (others ms)) (λ ms. Read all ms)

with-both : {A : Type 0} (all more : List A) (v : Reading (List A))
    → with_read (λ others. all ++ others) (with_read (λ others. more ++ others) v) ≡ with_read (λ others. (all ++ more) ++ others) v
with-both all more (Read others rest) = ap (λ xs. Read xs rest) (sym (append_assoc all more others))
with-both all more (Refused rest) = refl

with-cond : {A : Type 0} (all more : List A) (b : Bool) (v : Reading (List A)) (ms : List Lexeme)
    → with_read (λ others. all ++ others) (cond b (with_read (λ others. more ++ others) v) (Read more ms))
    ≡ cond b (with_read (λ others. (all ++ more) ++ others) v) (Read (all ++ more) ms)
with-cond all more true v ms = with-both all more v
with-cond all more false v ms = refl

listed_on-both : {A : Type 0} (test : Lexeme → Bool) (all more : List A) (others : Reader (List A)) (ls : List Lexeme)
    → with_read (λ xs. all ++ xs) (listed_on test more others ls) ≡ listed_on test (all ++ more) others ls
listed_on-both test all more others [] = refl
listed_on-both test all more others (l ∷ ls) = with-cond all more (test l) (others ls) (l ∷ ls)

listed_on-one : {A : Type 0} (test : Lexeme → Bool) (item : Reader A) → ((ls : List Lexeme) → NoLonger ls (item ls)) → (n : ℕ) (a : A) (ls : List Lexeme) → length ls < suc n
    → behind_one n test item a ls ≡ listed_on test (a ∷ []) (listed (suc n) test item) ls
listed_on-one test item short n a [] h = refl
listed_on-one test item short n a (l ∷ ls) h =
    cond-both (test l)
    (ap (with_read (λ others. a ∷ others)) (listed-same n test item item short (λ ms lt. refl) n (suc n) ls (omega arith) (omega arith) (omega arith)))
    refl

-- ---- what is after a lexeme that is required there

following-cond : {A B : Type 0} (next : A → Reader B) (b : Bool) (v w : Reading A) → following next (cond b v w) ≡ cond b (following next v) (following next w)
following-cond next true v w = refl
following-cond next false v w = refl

behind_shifted : {A B : Type 0} (test : Lexeme → Bool) (go : Lexeme → Reader A) (next : A → Reader B) (ls : List Lexeme)
    → following next (shifted test go Refused ls) ≡ shifted test (λ l more. following next (go l more)) Refused ls
behind_shifted test go next [] = refl
behind_shifted test go next (l ∷ ls) = following-cond next (test l) (go l ls) (Refused (l ∷ ls))

-- ---- forms at indices

module _ (t : Tokens) where
  -- a level greater than the number of lexemes from any index on
  abbrev pub level : ℕ
  level = suc (length t.list.now)

  abbrev pub at_level : {A : Type 0} → Form A → Reader A
  at_level form = run level (nested_to level) form

  -- what a form reads of the lexemes from an index on
  pub record Runs {A : Type 0} (form : Form A) (at : ℕ) (v : Reading A) : Type 0 where
    pub is : at_level form (lexemes_from t at) ≡ v

  as_read : {A : Type 0} (form : Form A) (at : ℕ) → read_as form (lexemes_from t at) ≡ at_level form (lexemes_from t at)
  unfolding read_as
  as_read form at =
      let small : length (lexemes_from t at) < level = omega (arith, few t at) in
      forms_same (suc (length (lexemes_from t at))) (suc (length (lexemes_from t at))) level (omega arith) (omega (arith, small)) form (lexemes_from t at) (omega arith)

  pub taken : {A : Type 0} {form : Form A} {at next : ℕ} {a : A} → Takes form t at a next → Runs form at (Read a (lexemes_from t next))
  taken {form = form} {at = at} h = record { is = sym (as_read form at) ∙ h.is }

  pub takes : {A : Type 0} {form : Form A} {at next : ℕ} {a : A} → Runs form at (Read a (lexemes_from t next)) → Takes form t at a next
  takes {form = form} {at = at} r = record { is = as_read form at ∙ r.is }

  pub refuses : {A : Type 0} {form : Form A} {from : ℕ} (at : ℕ) → Runs form from (Refused (lexemes_from t at))
      → Refuses form t from (unexpected_at t.file t.src.now t.list.now at)
  refuses {form = form} {from = from} at r = record { at = at; is = as_read form from ∙ r.is; fault = refl }

  -- what a part refuses is refused, where the form refuses what the part does
  delivered : {A B : Type 0} (part : Form A) (form : Form B) (mid from : ℕ)
      → ((rest : List Lexeme) → Runs part mid (Refused rest) → Runs form from (Refused rest))
      → (e : Rejection) → ReadsAs part t mid (Err e) → ReadsAs form t from (Err e)
  delivered part form mid from step (fault.Refused refusal) h = record {
    at = h.at;
    is = as_read form from ∙ (step (lexemes_from t h.at) (record { is = sym (as_read part mid) ∙ h.is })).is;
    fault = h.fault;
  }
  delivered part form mid from step (fault.Failed why) h = tt

  pub handed_on : {A B : Type 0} {form : Form B} {from : ℕ} {r : Result (B × ℕ) Rejection} (part : Form A) (mid : ℕ) (e : Rejection) → r ≡ Err e → ReadsAs part t mid (Err e)
      → ((rest : List Lexeme) → Runs part mid (Refused rest) → Runs form from (Refused rest)) → ReadsAs form t from r
  handed_on {form = form} {from = from} part mid e is h step = rw is (delivered part form mid from step e h)

  -- a token is refused
  pub refused_at : {A : Type 0} {form : Form A} {from : ℕ} {r : Result (A × ℕ) Rejection} (at : ℕ) (e : Rejection) → r ≡ Err e
      → e ≡ unexpected_at t.file t.src.now t.list.now at → Runs form from (Refused (lexemes_from t at)) → ReadsAs form t from r
  refused_at at e is there r = rw (is, there) (refuses at r)

  -- and the same is said of all lexemes of the file
  pub of_lexemes : {A : Type 0} (form : Form A) (from : ℕ) (r : Result (A × ℕ) Rejection) → ReadsAs form t from r
      → ReadsOf form (lexemes_of t.file t.src.now t.list.now) (unexpected_at t.file t.src.now t.list.now) from r
  unfolding lexemes_from
  of_lexemes form from (Ok read) h = h.is
  of_lexemes form from (Err (fault.Refused refusal)) h = (h.at, h.is, h.fault)
  of_lexemes form from (Err (fault.Failed why)) h = tt

  -- ---- tests

  pub shut_by : (test : Lexeme → Bool) (at : ℕ) → ((kind : TokenKind) → kind_at t.list.now at ≡ Some kind → test (lexeme_at t at kind) ≡ false) → Shut test (lexemes_from t at)
  shut_by test at h = elim (slice_get_cases t.list.now at).1 [
    | inl found ↦ let there = occurrence t at found.1 in rw (occurs t at there.0 there.1) (h there.0 there.1)
    | inr end ↦ rw (past t at end.0) tt
  ]

  pub meets_by : (test : Lexeme → Bool) (at : ℕ) (kind : TokenKind) → kind_at t.list.now at ≡ Some kind → test (lexeme_at t at kind) ≡ true → Meets test (lexemes_from t at)
  meets_by test at kind there h = rw (occurs t at kind there) h

  pub shut_sign : (sign : Sign) (at : ℕ) → kind_at t.list.now at ≢ Some (token.Sign sign) → Shut (is_sign sign) (lexemes_from t at)
  shut_sign sign at h =
      shut_by (is_sign sign) at (λ kind there.
      false_from_ne_true (is_sign sign (lexeme_at t at kind)) (λ met. h (there ∙ ap Some (sign_stands sign (lexeme_at t at kind) met).kind)))

  pub shut_word : (word : Word) (at : ℕ) → kind_at t.list.now at ≢ Some (token.Word word) → Shut (is_word word) (lexemes_from t at)
  shut_word word at h =
      shut_by (is_word word) at (λ kind there.
      false_from_ne_true (is_word word (lexeme_at t at kind)) (λ met. h (there ∙ ap Some (word_stands word (lexeme_at t at kind) met).kind)))

  -- ---- the ways to make forms

  pub gives : {A : Type 0} {a : A} {at : ℕ} → Runs (give a) at (Read a (lexemes_from t at))
  gives = record { is = refl }

  pub refused : {A : Type 0} {at : ℕ} → Runs (refuse {A = A}) at (Refused (lexemes_from t at))
  refused = record { is = refl }

  pub met : {A : Type 0} {test : Lexeme → Bool} {go : Lexeme → Form A} {other : Form A} {at : ℕ} {v : Reading A} (kind : TokenKind)
      → kind_at t.list.now at ≡ Some kind → test (lexeme_at t at kind) ≡ true → Runs (go (lexeme_at t at kind)) (at + 1) v → Runs (shift test go other) at v
  met {test = test} {go = go} {other = other} {at = at} kind there h r = record {
    is = ap (at_level (shift test go other)) (occurs t at kind there)
        ∙ shifted_met test (λ l. at_level (go l)) (at_level other) (lexeme_at t at kind) (lexemes_from t (at + 1)) h ∙ r.is;
  }

  -- and back: what is read after the token
  pub met_inside : {A : Type 0} {test : Lexeme → Bool} {go : Lexeme → Form A} {other : Form A} {at : ℕ} {v : Reading A} (kind : TokenKind)
      → kind_at t.list.now at ≡ Some kind → test (lexeme_at t at kind) ≡ true → Runs (shift test go other) at v → Runs (go (lexeme_at t at kind)) (at + 1) v
  met_inside {test = test} {go = go} {other = other} {at = at} kind there h r = record {
    is = sym (ap (at_level (shift test go other)) (occurs t at kind there)
        ∙ shifted_met test (λ l. at_level (go l)) (at_level other) (lexeme_at t at kind) (lexemes_from t (at + 1)) h) ∙ r.is;
  }

  pub not_met : {A : Type 0} {test : Lexeme → Bool} {go : Lexeme → Form A} {other : Form A} {at : ℕ} {v : Reading A}
      → Shut test (lexemes_from t at) → Runs other at v → Runs (shift test go other) at v
  not_met {test = test} {go = go} {other = other} {at = at} h r = record {
    is = shifted_shut test (λ l. at_level (go l)) (at_level other) (lexemes_from t at) h ∙ r.is;
  }

  -- another token is there
  pub another : {A : Type 0} {test : Lexeme → Bool} {go : Lexeme → Form A} {other : Form A} {at : ℕ} {v : Reading A} (kind : TokenKind)
      → kind_at t.list.now at ≡ Some kind → test (lexeme_at t at kind) ≡ false → Runs other at v → Runs (shift test go other) at v
  another {test = test} {at = at} kind there h r = not_met (rw (occurs t at kind there) h) r

  pub follows : {A B : Type 0} {first : Form A} {next : A → Form B} {at mid : ℕ} {a : A} {v : Reading B}
      → Runs first at (Read a (lexemes_from t mid)) → Runs (next a) mid v → Runs (follow first next) at v
  follows {next = next} r s = record { is = ap (following (λ a. at_level (next a))) r.is ∙ s.is }

  pub stops : {A B : Type 0} {first : Form A} {next : A → Form B} {at : ℕ} {rest : List Lexeme}
      → Runs first at (Refused rest) → Runs (follow first next) at (Refused rest)
  stops {next = next} r = record { is = ap (following (λ a. at_level (next a))) r.is }

  pub makes : {A B : Type 0} {form : Form A} {f : A → B} {at : ℕ} {a : A} (next : ℕ)
      → Runs form at (Read a (lexemes_from t next)) → Runs (make f form) at (Read (f a) (lexemes_from t next))
  makes next r = follows r gives

  -- what is made of a token and what follows it is made of what follows
  pub makes_inside : {A B : Type 0} {test : Lexeme → Bool} {go : Lexeme → Form A} {f : A → B} {at : ℕ} {v : Reading B}
      → Runs (make f (shift test go refuse)) at v → Runs (shift test (λ l. make f (go l)) refuse) at v
  makes_inside {test = test} {go = go} {f = f} {at = at} r = record {
    is = sym (behind_shifted test (λ l. at_level (go l)) (λ a. Read (f a)) (lexemes_from t at)) ∙ r.is;
  }

  pub closed : {A : Type 0} {form : Form A} {sign : Sign} {at : ℕ} {a : A} (mid : ℕ) → Runs form at (Read a (lexemes_from t mid))
      → kind_at t.list.now mid ≡ Some (token.Sign sign) → Runs (until sign form) at (Read a (lexemes_from t (mid + 1)))
  closed {sign = sign} mid r there = follows r (met (token.Sign sign) there (sign_is sign) gives)

  pub unclosed : {A : Type 0} {form : Form A} {sign : Sign} {at : ℕ} {a : A} (mid : ℕ) → Runs form at (Read a (lexemes_from t mid))
      → kind_at t.list.now mid ≢ Some (token.Sign sign) → Runs (until sign form) at (Refused (lexemes_from t mid))
  unclosed {sign = sign} mid r other = follows r (not_met (shut_sign sign mid other) refused)

  pub nests : (n : Nested) {at : ℕ} {v : Reading (Ast n)} → Runs (form_of n) at v → Runs (nest n) at v
  unfolding nested_to
  nests n {at = at} r = record {
    is = levels_same level level (suc level) (omega arith) (omega arith) n (lexemes_from t at) (omega (arith, few t at)) ∙ r.is;
  }

  pub first_one : {A : Type 0} {one other : Form A} {at : ℕ} {v : Reading A} → Meets (opens one) (lexemes_from t at) → Runs one at v → Runs (either one other) at v
  first_one {one = one} {other = other} {at = at} h r = record {
    is = chosen_met (opens one) (at_level one) (at_level other) (lexemes_from t at) h ∙ r.is;
  }

  pub second_one : {A : Type 0} {one other : Form A} {at : ℕ} {v : Reading A} → Shut (opens one) (lexemes_from t at) → Runs other at v → Runs (either one other) at v
  second_one {one = one} {other = other} {at = at} h r = record {
    is = chosen_shut (opens one) (at_level one) (at_level other) (lexemes_from t at) h ∙ r.is;
  }

  pub places : {A : Type 0} {form : Form A} {at : ℕ} {a : A} (kind : TokenKind) (next : ℕ) → kind_at t.list.now at ≡ Some kind
      → Runs form at (Read a (lexemes_from t next)) → Runs (placed form) at (Read (pos_at t at, a) (lexemes_from t next))
  places {at = at} {a = a} kind next there r = record {
    is = ap (following (λ tree more. Read (pos_of (lexemes_from t at), tree) more)) r.is
        ∙ ap (λ ls. Read (pos_of ls, a) (lexemes_from t next)) (occurs t at kind there);
  }

  pub unplaced : {A : Type 0} {form : Form A} {at : ℕ} {rest : List Lexeme} → Runs form at (Refused rest) → Runs (placed form) at (Refused rest)
  unplaced {at = at} r = record { is = ap (following (λ tree more. Read (pos_of (lexemes_from t at), tree) more)) r.is }

  pub nested : (n : Nested) {at : ℕ} {v : Reading (Ast n)} → Runs (nest n) at v → Runs (form_of n) at v
  unfolding nested_to
  nested n {at = at} r = record {
    is = sym (levels_same level level (suc level) (omega arith) (omega arith) n (lexemes_from t at) (omega (arith, few t at))) ∙ r.is;
  }

  -- what the form of a production that nests reads is read of the production
  pub nested_reads : (n : Nested) (from : ℕ) (r : Result (Ast n × ℕ) Rejection) → ReadsAs (form_of n) t from r → ReadsAs (nest n) t from r
  nested_reads n from (Ok read) h = takes (nests n (taken h))
  nested_reads n from (Err e) h = delivered (form_of n) (nest n) from from (λ rest r. nests n r) e h

  short : {A : Type 0} (form : Form A) (ls : List Lexeme) → NoLonger ls (at_level form ls)
  short form ls = NoLonger-run level (nested_to level) (short_to level) form ls

  -- ---- one or several with a lexeme that meets a test between them

  module _ {A : Type 0} (test : Lexeme → Bool) (item : Form A) where
    -- what was read of a list up to an index
    pub record Parts (from : ℕ) (all : List A) (next : ℕ) : Type 0 where
      pub is : at_level (separated test item) (lexemes_from t from) ≡ listed_on test all (at_level (separated test item)) (lexemes_from t next)

    pub first_part : {from next : ℕ} {a : A} → Runs item from (Read a (lexemes_from t next)) → Parts from (a ∷ []) next
    first_part {next = next} {a = a} r = record {
      is = ap (following (behind_one level test (at_level item))) r.is
          ∙ listed_on-one test (at_level item) (short item) level a (lexemes_from t next) (omega (arith, few t next));
    }

    -- after a lexeme between two
    pub parts_behind : {from mid : ℕ} {all : List A} → Parts from all mid → (kind : TokenKind) → kind_at t.list.now mid ≡ Some kind → test (lexeme_at t mid kind) ≡ true
        → at_level (separated test item) (lexemes_from t from) ≡ with_read (λ more. all ++ more) (at_level (separated test item) (lexemes_from t (mid + 1)))
    parts_behind {mid = mid} {all = all} l kind there h =
        l.is ∙ ap (listed_on test all (at_level (separated test item))) (occurs t mid kind there)
        ∙ shifted_met test (λ _ ms. with_read (λ more. all ++ more) (at_level (separated test item) ms)) (λ ms. Read all ms)
        (lexeme_at t mid kind) (lexemes_from t (mid + 1)) h

    pub next_part : {from mid next : ℕ} {all : List A} {a : A} → Parts from all mid → (kind : TokenKind) → kind_at t.list.now mid ≡ Some kind
        → test (lexeme_at t mid kind) ≡ true → Runs item (mid + 1) (Read a (lexemes_from t next)) → Parts from (all ++ a ∷ []) next
    next_part {next = next} {all = all} {a = a} l kind there h r = record {
      is = parts_behind l kind there h ∙ ap (with_read (λ more. all ++ more)) (first_part r).is
          ∙ listed_on-both test all (a ∷ []) (at_level (separated test item)) (lexemes_from t next);
    }

    pub all_parts : {from next : ℕ} {all : List A} → Parts from all next → Shut test (lexemes_from t next) → Runs (separated test item) from (Read all (lexemes_from t next))
    all_parts {next = next} {all = all} l other = record {
      is = l.is ∙ shifted_shut test (λ _ ms. with_read (λ more. all ++ more) (at_level (separated test item) ms)) (λ ms. Read all ms) (lexemes_from t next) other;
    }

    pub first_part_refused : {from : ℕ} {rest : List Lexeme} → Runs item from (Refused rest) → Runs (separated test item) from (Refused rest)
    first_part_refused r = record { is = ap (following (behind_one level test (at_level item))) r.is }

    pub next_part_refused : {from mid : ℕ} {all : List A} {rest : List Lexeme} → Parts from all mid → (kind : TokenKind) → kind_at t.list.now mid ≡ Some kind
        → test (lexeme_at t mid kind) ≡ true → Runs item (mid + 1) (Refused rest) → Runs (separated test item) from (Refused rest)
    next_part_refused {all = all} l kind there h r = record {
      is = parts_behind l kind there h ∙ ap (with_read (λ more. all ++ more)) (first_part_refused r).is;
    }

  -- ---- one or several with `,` between them

  -- what was read of a list up to an index
  abbrev pub Lists : {A : Type 0} → Form A → ℕ → List A → ℕ → Type 0
  Lists item from all next = Parts (is_sign sign.Comma) item from all next

  pub first_listed : {A : Type 0} {item : Form A} {from next : ℕ} {a : A} → Runs item from (Read a (lexemes_from t next)) → Lists item from (a ∷ []) next
  first_listed r = first_part (is_sign sign.Comma) _ r

  pub next_listed : {A : Type 0} {item : Form A} {from mid next : ℕ} {all : List A} {a : A} → Lists item from all mid
      → kind_at t.list.now mid ≡ Some (token.Sign sign.Comma) → Runs item (mid + 1) (Read a (lexemes_from t next)) → Lists item from (all ++ a ∷ []) next
  next_listed l comma r = next_part (is_sign sign.Comma) _ l (token.Sign sign.Comma) comma (sign_is sign.Comma) r

  pub all_listed : {A : Type 0} {item : Form A} {from next : ℕ} {all : List A} → Lists item from all next
      → kind_at t.list.now next ≢ Some (token.Sign sign.Comma) → Runs (list item) from (Read all (lexemes_from t next))
  all_listed {next = next} l other = all_parts (is_sign sign.Comma) _ l (shut_sign sign.Comma next other)

  pub first_refused : {A : Type 0} {item : Form A} {from : ℕ} {rest : List Lexeme} → Runs item from (Refused rest) → Runs (list item) from (Refused rest)
  first_refused r = first_part_refused (is_sign sign.Comma) _ r

  pub next_refused : {A : Type 0} {item : Form A} {from mid : ℕ} {all : List A} {rest : List Lexeme} → Lists item from all mid
      → kind_at t.list.now mid ≡ Some (token.Sign sign.Comma) → Runs item (mid + 1) (Refused rest) → Runs (list item) from (Refused rest)
  next_refused l comma r = next_part_refused (is_sign sign.Comma) _ l (token.Sign sign.Comma) comma (sign_is sign.Comma) r

  pub next_taken : {A : Type 0} {item : Form A} {from mid next : ℕ} {all whole : List A} {a : A} → Lists item from all mid
      → kind_at t.list.now mid ≡ Some (token.Sign sign.Comma) → Takes item t (mid + 1) a next → whole ≡ all ++ a ∷ [] → Lists item from whole next
  next_taken l comma one pushed = rw pushed (next_listed l comma (taken one))

  pub all_taken : {A : Type 0} {item : Form A} {from next : ℕ} {all whole : List A} → Lists item from all next
      → kind_at t.list.now next ≢ Some (token.Sign sign.Comma) → whole ≡ all → Takes (list item) t from whole next
  all_taken l other same = rw same (takes (all_listed l other))

  -- ---- iterations, as long as a lexeme meets a test

  module _ {A : Type 0} (test : Lexeme → Bool) (step : A → Lexeme → Form A) where
    -- after some iterations from an index on this is the AST so far, and others continue at the next index
    pub record Turns (start : A) (from : ℕ) (so_far : A) (next : ℕ) : Type 0 where
      pub is : at_level (repeat test step start) (lexemes_from t from) ≡ at_level (repeat test step so_far) (lexemes_from t next)

    pub no_turn : (start : A) (from : ℕ) → Turns start from start from
    no_turn start from = record { is = refl }

    begun : {start a : A} {from mid : ℕ} → Turns start from a mid → (kind : TokenKind) → kind_at t.list.now mid ≡ Some kind → test (lexeme_at t mid kind) ≡ true
        → at_level (repeat test step start) (lexemes_from t from)
        ≡ following (repeated level test (λ tree l. at_level (step tree l))) (at_level (step a (lexeme_at t mid kind)) (lexemes_from t (mid + 1)))
    begun {a = a} {mid = mid} turns kind there h =
        turns.is ∙ ap (at_level (repeat test step a)) (occurs t mid kind there)
        ∙ shifted_met test (λ l more. following (repeated level test (λ tree l. at_level (step tree l))) (at_level (step a l) more)) (λ more. Read a more)
        (lexeme_at t mid kind) (lexemes_from t (mid + 1)) h

    pub next_turn : {start a b : A} {from mid next : ℕ} → Turns start from a mid → (kind : TokenKind) → kind_at t.list.now mid ≡ Some kind
        → test (lexeme_at t mid kind) ≡ true → Runs (step a (lexeme_at t mid kind)) (mid + 1) (Read b (lexemes_from t next)) → Turns start from b next
    next_turn {b = b} {next = next} turns kind there h r =
        let reader = λ (tree : A) (l : Lexeme). at_level (step tree l) in
        record {
          is = begun turns kind there h ∙ ap (following (repeated level test reader)) r.is
              ∙ repeated-same level test reader reader (λ a l ls. short (step a l) ls) (λ a l ls lt. refl) level (suc level) b (lexemes_from t next)
              (omega (arith, few t next)) (omega (arith, few t next)) (omega (arith, few t next));
        }

    pub turn_refused : {start a : A} {from mid : ℕ} {rest : List Lexeme} → Turns start from a mid → (kind : TokenKind) → kind_at t.list.now mid ≡ Some kind
        → test (lexeme_at t mid kind) ≡ true → Runs (step a (lexeme_at t mid kind)) (mid + 1) (Refused rest) → Runs (repeat test step start) from (Refused rest)
    turn_refused turns kind there h r = record {
      is = begun turns kind there h ∙ ap (following (repeated level test (λ tree l. at_level (step tree l)))) r.is;
    }

    pub all_turned : {start a : A} {from next : ℕ} → Turns start from a next → Shut test (lexemes_from t next) → Runs (repeat test step start) from (Read a (lexemes_from t next))
    all_turned {a = a} {next = next} turns h = record {
      is = turns.is ∙ shifted_shut test (λ l more. following (repeated level test (λ tree l. at_level (step tree l))) (at_level (step a l) more)) (λ more. Read a more)
          (lexemes_from t next) h;
    }
