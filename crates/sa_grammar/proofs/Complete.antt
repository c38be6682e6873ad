-- Complete forms: what lexemes spell is read of them where the next lexeme doesn't continue it. A lemma for each way to make forms.
use Rattle.std.proofs.Common.{◌≡◌, ℕ, zero, suc, ◌+◌, ◌<◌, ◌≤◌, Bool, true, List, [], ◌∷◌, ◌++◌, length, refl, sym, ap, ◌∙◌, append_assoc, arith, length-append}
use Rattle.sa_lexer.specs.declared.token.TokenKind.{TokenKind}
use Rattle.sa_lexer.specs.declared.sign.Sign.{Sign}
use Rattle.sa_lexer.specs.declared.sign.Sign.TheVariants as sign
use Rattle.sa_parser_expr.specs.Lexemes.{Lexeme, IsSign}
use Rattle.sa_parser_expr.specs.Readings.{Spelling, Read}
use Rattle.sa_parser_expr.specs.Tests.{is_sign}
use Rattle.sa_parser_expr.specs.Forms.{Form, give, shift, either, follow, separated, repeat, placed, list, make, until, opens}
use Rattle.sa_parser_expr.specs.Forms.{Reader, following, with_read, pos_of, listed, repeated, run, Nested, Ast}
use Rattle.sa_parser_expr.proofs.BehindNames.{with_kind}
use Rattle.sa_parser_expr.proofs.Tested.{sign_met, sign_stands}
use Rattle.sa_parser_expr.proofs.Shorter.{behind_one}
use Rattle.sa_parser_expr.proofs.Shifts.{Shut, Meets, shifted_met, shifted_shut, chosen_met, chosen_shut}
use Rattle.sa_grammar.proofs.Sound.{Separated, last, more, Listed}

module _ (level : ℕ) (nested : (n : Nested) → Reader (Ast n)) where
  -- a form reads an AST of these lexemes, and leaves those
  pub record Reads {A : Type 0} (form : Form A) (ls : List Lexeme) (a : A) (rest : List Lexeme) : Type 0 where
    pub is : run level nested form ls ≡ Read a rest

module _ {level : ℕ} {nested : (n : Nested) → Reader (Ast n)} where
  pub reads-give : {A : Type 0} {a : A} {rest : List Lexeme} → Reads level nested (give a) rest a rest
  reads-give = record { is = refl }

  pub reads-met : {A : Type 0} {test : Lexeme → Bool} {go : Lexeme → Form A} {other : Form A} {l : Lexeme} {ls rest : List Lexeme} {a : A}
      → test l ≡ true → Reads level nested (go l) ls a rest → Reads level nested (shift test go other) (l ∷ ls) a rest
  reads-met {test = test} {go = go} {other = other} {l = l} {ls = ls} h r = record {
    is = shifted_met test (λ l. run level nested (go l)) (run level nested other) l ls h ∙ r.is;
  }

  pub reads-other : {A : Type 0} {test : Lexeme → Bool} {go : Lexeme → Form A} {other : Form A} {ls rest : List Lexeme} {a : A}
      → Shut test ls → Reads level nested other ls a rest → Reads level nested (shift test go other) ls a rest
  reads-other {test = test} {go = go} {other = other} {ls = ls} h r = record {
    is = shifted_shut test (λ l. run level nested (go l)) (run level nested other) ls h ∙ r.is;
  }

  pub reads-follow : {A B : Type 0} {first : Form A} {next : A → Form B} {ls mid rest : List Lexeme} {a : A} {b : B}
      → Reads level nested first ls a mid → Reads level nested (next a) mid b rest → Reads level nested (follow first next) ls b rest
  reads-follow {next = next} r s = record { is = ap (following (λ a. run level nested (next a))) r.is ∙ s.is }

  pub reads-make : {A B : Type 0} {form : Form A} {f : A → B} {ls rest : List Lexeme} {a : A}
      → Reads level nested form ls a rest → Reads level nested (make f form) ls (f a) rest
  reads-make r = reads-follow r reads-give

  pub reads-first : {A : Type 0} {one other : Form A} {ls rest : List Lexeme} {a : A}
      → Meets (opens one) ls → Reads level nested one ls a rest → Reads level nested (either one other) ls a rest
  reads-first {one = one} {other = other} {ls = ls} h r = record {
    is = chosen_met (opens one) (run level nested one) (run level nested other) ls h ∙ r.is;
  }

  pub reads-second : {A : Type 0} {one other : Form A} {ls rest : List Lexeme} {a : A}
      → Shut (opens one) ls → Reads level nested other ls a rest → Reads level nested (either one other) ls a rest
  reads-second {one = one} {other = other} {ls = ls} h r = record {
    is = chosen_shut (opens one) (run level nested one) (run level nested other) ls h ∙ r.is;
  }

  pub reads-placed : {A : Type 0} {form : Form A} {ls rest : List Lexeme} {a : A}
      → Reads level nested form ls a rest → Reads level nested (placed form) ls (pos_of ls, a) rest
  reads-placed {ls = ls} r = record { is = ap (following (λ a more. Read (pos_of ls, a) more)) r.is }

  pub reads-as : {A : Type 0} {form : Form A} {ls rest : List Lexeme} {a b : A} → a ≡ b → Reads level nested form ls a rest → Reads level nested form ls b rest
  reads-as {rest = rest} e r = record { is = r.is ∙ ap (λ tree. Read tree rest) e }

  -- a form reads of a lexeme of a kind what another one reads, if it does so of one that is written with this kind
  pub reads-kind : {A : Type 0} {form other : Form A} {l : Lexeme} {kind : TokenKind} {ls ms rest : List Lexeme} {a : A} → l.kind ≡ kind
      → run level nested form (with_kind kind l ∷ ls) ≡ run level nested other ms → Reads level nested other ms a rest → Reads level nested form (l ∷ ls) a rest
  reads-kind {form = form} {l = l} {ls = ls} e same r = record { is = ap (λ kind. run level nested form (with_kind kind l ∷ ls)) e ∙ same ∙ r.is }

  pub reads-known : {A : Type 0} {form : Form A} {l : Lexeme} {kind : TokenKind} {ls rest : List Lexeme} {a : A} → l.kind ≡ kind
      → Reads level nested form (l ∷ ls) a rest → Reads level nested form (with_kind kind l ∷ ls) a rest
  reads-known {form = form} {l = l} {ls = ls} e r = record { is = ap (λ kind. run level nested form (with_kind kind l ∷ ls)) (sym e) ∙ r.is }

  -- a form between other lexemes and the rest
  pub reads-joined : {A : Type 0} {form : Form A} {left : List Lexeme} {a : A} (front ls rest : List Lexeme)
      → Reads level nested form (front ++ (ls ++ rest)) a left → Reads level nested form ((front ++ ls) ++ rest) a left
  reads-joined {form = form} front ls rest r = record { is = ap (run level nested form) (append_assoc front ls rest) ∙ r.is }

  -- up to a sign, and the sign
  pub reads-until : {A : Type 0} {form : Form A} {sign : Sign} {rest : List Lexeme} {l : Lexeme} {a : A} (ls : List Lexeme)
      → Reads level nested form (ls ++ l ∷ rest) a (l ∷ rest) → IsSign sign l → Reads level nested (until sign form) ((ls ++ l ∷ []) ++ rest) a rest
  reads-until {rest = rest} {l = l} ls r closes = reads-joined ls (l ∷ []) rest (reads-follow r (reads-met (sign_met closes) reads-give))

-- lists of fewer than so many lexemes
module _ (level : ℕ) (nested : (n : Nested) → Reader (Ast n)) {A : Type 0} (test : Lexeme → Bool) (P : Spelling A) (Ends : List Lexeme → Type 0) (item : Form A)
    (most : ℕ) (fits : most ≤ suc level)
    (one_read : (ls : List Lexeme) (a : A) (rest : List Lexeme) → P ls a → length ls < most → Ends rest → Reads level nested item (ls ++ rest) a rest)
    (parting_ends : (l : Lexeme) (rest : List Lexeme) → test l ≡ true → Ends (l ∷ rest)) where
  all_listed : (fuel : ℕ) {ls : List Lexeme} {all : List A} (rest : List Lexeme) → Separated test P ls all → length ls < most → length ls < fuel
      → Ends rest → Shut test rest → listed fuel test (run level nested item) (ls ++ rest) ≡ Read all rest
  all_listed zero rest s small few ends shut = absurd (omega arith)
  all_listed (suc fuel) rest (last {ls = ls} {a = a} one) small few ends shut =
      ap (following (behind_one fuel test (run level nested item))) (one_read ls a rest one small ends).is
      ∙ shifted_shut test (λ _ ms. with_read (λ others. a ∷ others) (listed fuel test (run level nested item) ms)) (λ ms. Read (a ∷ []) ms) rest shut
  all_listed (suc fuel) rest (more {ls = ls} {ms = ms} {l = l} {a = a} one parting others) small few ends shut =
      let sum : length (ls ++ l ∷ ms) ≡ length ls + suc (length ms) = length-append ls (l ∷ ms) in
      ap (λ xs. following (behind_one fuel test (run level nested item)) (run level nested item xs)) (append_assoc ls (l ∷ ms) rest)
      ∙ ap (following (behind_one fuel test (run level nested item))) (one_read ls a (l ∷ (ms ++ rest)) one (omega arith) (parting_ends l (ms ++ rest) parting)).is
      ∙ shifted_met test (λ _ ms. with_read (λ others. a ∷ others) (listed fuel test (run level nested item) ms)) (λ ms. Read (a ∷ []) ms) l (ms ++ rest) parting
      ∙ ap (with_read (λ more. a ∷ more)) (all_listed fuel rest others (omega arith) (omega arith) ends shut)

  pub reads-separated : {ls : List Lexeme} {all : List A} (rest : List Lexeme) → Separated test P ls all → length ls < most
      → Ends rest → Shut test rest → Reads level nested (separated test item) (ls ++ rest) all rest
  reads-separated rest s small ends shut = record { is = all_listed (suc level) rest s small (omega arith) ends shut }

module _ (level : ℕ) (nested : (n : Nested) → Reader (Ast n)) {A : Type 0} (P : Spelling A) (Ends : List Lexeme → Type 0) (item : Form A)
    (one_read : (ls : List Lexeme) (a : A) (rest : List Lexeme) → P ls a → length ls < level → Ends rest → Reads level nested item (ls ++ rest) a rest)
    (comma_ends : (l : Lexeme) (rest : List Lexeme) → IsSign sign.Comma l → Ends (l ∷ rest)) where
  pub reads-list : {ls : List Lexeme} {all : List A} (rest : List Lexeme) → Listed P ls all → length ls < level
      → Ends rest → Shut (is_sign sign.Comma) rest → Reads level nested (list item) (ls ++ rest) all rest
  reads-list rest s small ends shut =
      reads-separated level nested (is_sign sign.Comma) P Ends item level (omega arith) one_read (λ l more is. comma_ends l more (sign_stands sign.Comma l is)) rest s small ends shut

-- ---- as long as a lexeme meets a test

module _ (level : ℕ) (nested : (n : Nested) → Reader (Ast n)) {A : Type 0} (Ends : List Lexeme → Type 0)
    (first : Form A) (test : Lexeme → Bool) (step : A → Lexeme → Form A) where
  -- the first form and some iterations read an AST of these lexemes, where the rest doesn't continue the last one; and others may follow
  pub record Gathers (ls : List Lexeme) (a : A) : Type 0 where
    pub fuel : ℕ
    pub enough : suc level ≤ fuel + length ls
    pub is : (rest : List Lexeme) → Ends rest
        → run level nested (follow first (repeat test step)) (ls ++ rest) ≡ repeated fuel test (λ tree l. run level nested (step tree l)) a rest

  pub gathers-first : (ls : List Lexeme) (a : A) → ((rest : List Lexeme) → Ends rest → Reads level nested first (ls ++ rest) a rest) → Gathers ls a
  gathers-first ls a r = record {
    fuel = suc level;
    enough = omega arith;
    is = λ rest ends. ap (following (λ tree. run level nested (repeat test step tree))) (r rest ends).is;
  }

  one_more : (ls : List Lexeme) (a : A) (fuel : ℕ) → suc level ≤ fuel + length ls
      → ((rest : List Lexeme) → Ends rest → run level nested (follow first (repeat test step)) (ls ++ rest) ≡ repeated fuel test (λ tree l. run level nested (step tree l)) a rest)
      → length ls < suc level → (l : Lexeme) (ms : List Lexeme) (b : A) → test l ≡ true → ((rest : List Lexeme) → Ends (l ∷ rest))
      → ((rest : List Lexeme) → Ends rest → Reads level nested (step a l) (ms ++ rest) b rest) → Gathers (ls ++ l ∷ ms) b
  one_more ls a zero enough is small l ms b met goes r = absurd (omega arith)
  one_more ls a (suc fuel) enough is small l ms b met goes r =
      let sum : length (ls ++ l ∷ ms) ≡ length ls + suc (length ms) = length-append ls (l ∷ ms) in
      let reader = λ (tree : A) (l : Lexeme). run level nested (step tree l) in
      record {
        fuel = fuel;
        enough = omega arith;
        is = λ rest ends.
            ap (run level nested (follow first (repeat test step))) (append_assoc ls (l ∷ ms) rest)
            ∙ is (l ∷ (ms ++ rest)) (goes (ms ++ rest))
            ∙ shifted_met test (λ l more. following (repeated fuel test reader) (reader a l more)) (λ more. Read a more) l (ms ++ rest) met
            ∙ ap (following (repeated fuel test reader)) (r rest ends).is;
      }

  pub gathers-more : (ls : List Lexeme) (a : A) → Gathers ls a → length ls < suc level → (l : Lexeme) (ms : List Lexeme) (b : A) → test l ≡ true
      → ((rest : List Lexeme) → Ends (l ∷ rest)) → ((rest : List Lexeme) → Ends rest → Reads level nested (step a l) (ms ++ rest) b rest) → Gathers (ls ++ l ∷ ms) b
  gathers-more ls a g small l ms b met goes r = one_more ls a g.fuel g.enough g.is small l ms b met goes r

  all_gathered : (ls : List Lexeme) (a : A) (fuel : ℕ) → suc level ≤ fuel + length ls → length ls < suc level → (rest : List Lexeme) → Shut test rest
      → repeated fuel test (λ tree l. run level nested (step tree l)) a rest ≡ Read a rest
  all_gathered ls a zero enough small rest shut = absurd (omega arith)
  all_gathered ls a (suc fuel) enough small rest shut =
      let reader = λ (tree : A) (l : Lexeme). run level nested (step tree l) in
      shifted_shut test (λ l more. following (repeated fuel test reader) (reader a l more)) (λ more. Read a more) rest shut

  pub reads-gathered : (ls : List Lexeme) (a : A) (rest : List Lexeme) → Gathers ls a → length ls < suc level → Ends rest → Shut test rest
      → Reads level nested (follow first (repeat test step)) (ls ++ rest) a rest
  reads-gathered ls a rest g small ends shut = record { is = g.is rest ends ∙ all_gathered ls a g.fuel g.enough small rest shut }
