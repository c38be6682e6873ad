-- The rest isn't longer than what was there, and a form that opens with a lexeme takes it.
use Rattle.std.proofs.Common.{◌≡◌, ℕ, zero, suc, ◌≤◌, Bool, true, false, cond, ◌||◌, List, [], ◌∷◌, length, refl, ap, arith}
use Rattle.sa_parser_expr.specs.Lexemes.{Lexeme}
use Rattle.sa_parser_expr.specs.Readings.{Reading, Read, Refused}
use Rattle.sa_parser_expr.specs.Forms.{Form, give, refuse, shift, either, follow, separated, repeat, placed, nest, opens}
use Rattle.sa_parser_expr.specs.Forms.{Reader, following, with_read, shifted, chosen, pos_of, listed, repeated, run, Nested, Ast}

-- what follows one of a list: a lexeme that meets the test, and others, or the end of the list
abbrev pub behind_one : {A : Type 0} → ℕ → (Lexeme → Bool) → Reader A → A → Reader (List A)
behind_one fuel test item a = shifted test (λ _ ms. with_read (λ others. a ∷ others) (listed fuel test item ms)) (λ ms. Read (a ∷ []) ms)

abbrev pub NoLonger : {A : Type 0} → List Lexeme → Reading A → Type 0
NoLonger ls (Read tree rest) = length rest ≤ length ls
NoLonger ls (Refused rest) = length rest ≤ length ls

shorter : {A : Type 0} (ls ms : List Lexeme) → length ms ≤ length ls → (v : Reading A) → NoLonger ms v → NoLonger ls v
shorter ls ms le (Read a rest) h = omega arith
shorter ls ms le (Refused rest) h = omega arith

NoLonger-following : {A B : Type 0} (go : A → Reader B) (ls : List Lexeme) → ((a : A) (ms : List Lexeme) → NoLonger ms (go a ms)) → (v : Reading A) → NoLonger ls v → NoLonger ls (following go v)
NoLonger-following go ls each (Read a mid) h = shorter ls mid h (go a mid) (each a mid)
NoLonger-following go ls each (Refused rest) h = h

NoLonger-with : {A B : Type 0} (f : A → B) (ls : List Lexeme) (v : Reading A) → NoLonger ls v → NoLonger ls (with_read f v)
NoLonger-with f ls (Read a rest) h = h
NoLonger-with f ls (Refused rest) h = h

module _ {A : Type 0} (test : Lexeme → Bool) (go : Lexeme → Reader A) (other : Reader A)
    (met : (l : Lexeme) (ls : List Lexeme) → NoLonger ls (go l ls)) (without : (ls : List Lexeme) → NoLonger ls (other ls)) where
  NoLonger-cond : (b : Bool) (l : Lexeme) (ls : List Lexeme) → NoLonger (l ∷ ls) (cond b (go l ls) (other (l ∷ ls)))
  NoLonger-cond true l ls = shorter (l ∷ ls) ls (omega arith) (go l ls) (met l ls)
  NoLonger-cond false l ls = without (l ∷ ls)

  NoLonger-shifted : (ls : List Lexeme) → NoLonger ls (shifted test go other ls)
  NoLonger-shifted [] = without []
  NoLonger-shifted (l ∷ ls) = NoLonger-cond (test l) l ls

module _ {A : Type 0} (test : Lexeme → Bool) (one other : Reader A) (first : (ls : List Lexeme) → NoLonger ls (one ls)) (second : (ls : List Lexeme) → NoLonger ls (other ls)) where
  NoLonger-either : (b : Bool) (ls : List Lexeme) → NoLonger ls (cond b (one ls) (other ls))
  NoLonger-either true ls = first ls
  NoLonger-either false ls = second ls

  NoLonger-chosen : (ls : List Lexeme) → NoLonger ls (chosen test one other ls)
  NoLonger-chosen [] = second []
  NoLonger-chosen (l ∷ ls) = NoLonger-either (test l) (l ∷ ls)

NoLonger-one : {A : Type 0} (test : Lexeme → Bool) (item : Reader A) (fuel : ℕ) → ((ls : List Lexeme) → NoLonger ls (listed fuel test item ls))
    → (a : A) (ls : List Lexeme) → NoLonger ls (behind_one fuel test item a ls)
NoLonger-one test item fuel all a ls =
    NoLonger-shifted test (λ _ ms. with_read (λ others. a ∷ others) (listed fuel test item ms)) (λ ms. Read (a ∷ []) ms)
    (λ l ms. NoLonger-with (λ others. a ∷ others) ms (listed fuel test item ms) (all ms)) (λ ms. omega arith) ls

NoLonger-listed : {A : Type 0} (test : Lexeme → Bool) (item : Reader A) → ((ls : List Lexeme) → NoLonger ls (item ls)) → (fuel : ℕ) (ls : List Lexeme) → NoLonger ls (listed fuel test item ls)
NoLonger-listed test item each zero ls = omega arith
NoLonger-listed test item each (suc fuel) ls =
    NoLonger-following (behind_one fuel test item) ls (λ a ms. NoLonger-one test item fuel (λ xs. NoLonger-listed test item each fuel xs) a ms) (item ls) (each ls)

NoLonger-repeated : {A : Type 0} (test : Lexeme → Bool) (step : A → Lexeme → Reader A) → ((a : A) (l : Lexeme) (ls : List Lexeme) → NoLonger ls (step a l ls))
    → (n : ℕ) (a : A) (ls : List Lexeme) → NoLonger ls (repeated n test step a ls)
NoLonger-repeated test step each zero a ls = omega arith
NoLonger-repeated test step each (suc n) a ls =
    NoLonger-shifted test (λ l more. following (repeated n test step) (step a l more)) (λ more. Read a more)
    (λ l more. NoLonger-following (repeated n test step) more (λ b ms. NoLonger-repeated test step each n b ms) (step a l more) (each a l more)) (λ ms. omega arith) ls

module _ (level : ℕ) (nested : (n : Nested) → Reader (Ast n)) (each : (n : Nested) (ls : List Lexeme) → NoLonger ls (nested n ls)) where
  pub NoLonger-run : {A : Type 0} (form : Form A) (ls : List Lexeme) → NoLonger ls (run level nested form ls)
  NoLonger-run (give a) ls = omega arith
  NoLonger-run refuse ls = omega arith
  NoLonger-run (shift test go other) ls =
      NoLonger-shifted test (λ l. run level nested (go l)) (run level nested other) (λ l ms. NoLonger-run (go l) ms) (λ ms. NoLonger-run other ms) ls
  NoLonger-run (either one other) ls =
      NoLonger-chosen (opens one) (run level nested one) (run level nested other) (λ ms. NoLonger-run one ms) (λ ms. NoLonger-run other ms) ls
  NoLonger-run (follow first next) ls =
      NoLonger-following (λ a. run level nested (next a)) ls (λ a ms. NoLonger-run (next a) ms) (run level nested first ls) (NoLonger-run first ls)
  NoLonger-run (separated test item) ls = NoLonger-listed test (run level nested item) (λ ms. NoLonger-run item ms) (suc level) ls
  NoLonger-run (repeat test step a) ls =
      NoLonger-repeated test (λ tree l. run level nested (step tree l)) (λ tree l ms. NoLonger-run (step tree l) ms) (suc level) a ls
  NoLonger-run (placed form) ls = NoLonger-following (λ a more. Read (pos_of ls, a) more) ls (λ a ms. omega arith) (run level nested form ls) (NoLonger-run form ls)
  NoLonger-run (nest n) ls = each n ls

  -- one of two, by a test
  one_of : {A : Type 0} (ls : List Lexeme) (one other : Reading A) (b c : Bool) → (b ≡ true → NoLonger ls one) → (c ≡ true → NoLonger ls other) → (b || c) ≡ true → NoLonger ls (cond b one other)
  one_of ls one other true c first second h = first refl
  one_of ls one other false c first second h = second h

  -- a form that opens with a lexeme takes it
  pub opened : {A : Type 0} (form : Form A) (l : Lexeme) (ls : List Lexeme) → opens form l ≡ true → NoLonger ls (run level nested form (l ∷ ls))
  opened (give a) l ls h = absurd (cc)
  opened refuse l ls h = absurd (cc)
  opened (shift test go other) l ls h =
      one_of ls (run level nested (go l) ls) (run level nested other (l ∷ ls)) (test l) (opens other l) (λ _. NoLonger-run (go l) ls) (λ k. opened other l ls k) h
  opened (either one other) l ls h =
      one_of ls (run level nested one (l ∷ ls)) (run level nested other (l ∷ ls)) (opens one l) (opens other l) (λ k. opened one l ls k) (λ k. opened other l ls k) h
  opened (follow first next) l ls h =
      NoLonger-following (λ a. run level nested (next a)) ls (λ a ms. NoLonger-run (next a) ms) (run level nested first (l ∷ ls)) (opened first l ls h)
  opened (separated test item) l ls h =
      NoLonger-following (behind_one level test (run level nested item)) ls
      (λ a ms. NoLonger-one test (run level nested item) level (λ xs. NoLonger-listed test (run level nested item) (λ ms. NoLonger-run item ms) level xs) a ms) (run level nested item (l ∷ ls)) (opened item l ls h)
  opened (repeat test step a) l ls h =
      let next = repeated level test (λ tree l. run level nested (step tree l)) in
      one_of ls (following next (run level nested (step a l) ls)) (Read a (l ∷ ls)) (test l) false
      (λ _. NoLonger-following next ls (λ b ms. NoLonger-repeated test (λ tree l. run level nested (step tree l)) (λ tree l ms. NoLonger-run (step tree l) ms) level b ms)
      (run level nested (step a l) ls) (NoLonger-run (step a l) ls))
      (λ k. absurd (cc)) (ap (λ b. b || false) h)
  opened (placed form) l ls h = NoLonger-following (λ a more. Read (pos_of (l ∷ ls), a) more) ls (λ a ms. omega arith) (run level nested form (l ∷ ls)) (opened form l ls h)
  opened (nest n) l ls h = absurd (cc)
