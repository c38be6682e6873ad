-- A form that asks of the next lexeme whether it meets a test: what it reads where it does, and where it doesn't.
use Rattle.std.proofs.Common.{◌≡◌, Bool, true, false, List, [], ◌∷◌, refl}
use Rattle.std.proofs.lemmas.Bool.{cond-true, cond-false}
use Rattle.sa_parser_expr.specs.Lexemes.{Lexeme}
use Rattle.sa_parser_expr.specs.Forms.{Reader, shifted, chosen}

-- the next lexeme, if there is one, doesn't meet the test
abbrev pub Shut : (Lexeme → Bool) → List Lexeme → Type 0
Shut test [] = Unit {0}
Shut test (l ∷ ls) = test l ≡ false

pub shifted_met : {A : Type 0} (test : Lexeme → Bool) (go : Lexeme → Reader A) (other : Reader A) (l : Lexeme) (ls : List Lexeme) → test l ≡ true → shifted test go other (l ∷ ls) ≡ go l ls
shifted_met test go other l ls h = cond-true (test l) (go l ls) (other (l ∷ ls)) h

pub shifted_shut : {A : Type 0} (test : Lexeme → Bool) (go : Lexeme → Reader A) (other : Reader A) (ls : List Lexeme) → Shut test ls → shifted test go other ls ≡ other ls
shifted_shut test go other [] h = refl
shifted_shut test go other (l ∷ ls) h = cond-false (test l) (go l ls) (other (l ∷ ls)) h

-- the next lexeme meets the test
abbrev pub Meets : (Lexeme → Bool) → List Lexeme → Type 0
Meets test [] = ⊥
Meets test (l ∷ ls) = test l ≡ true

pub chosen_met : {A : Type 0} (test : Lexeme → Bool) (one other : Reader A) (ls : List Lexeme) → Meets test ls → chosen test one other ls ≡ one ls
chosen_met test one other [] h = absurd h
chosen_met test one other (l ∷ ls) h = cond-true (test l) (one (l ∷ ls)) (other (l ∷ ls)) h

pub chosen_shut : {A : Type 0} (test : Lexeme → Bool) (one other : Reader A) (ls : List Lexeme) → Shut test ls → chosen test one other ls ≡ other ls
chosen_shut test one other [] h = refl
chosen_shut test one other (l ∷ ls) h = cond-false (test l) (one (l ∷ ls)) (other (l ∷ ls)) h
