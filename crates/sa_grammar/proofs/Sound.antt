-- Sound forms: what is read is spelled, what is refused is so after lexemes that begin an AST, and of the lexemes after those that
-- are taken a form looks at the first one alone. A lemma for each way to make forms.
use Rattle.std.proofs.Common.{◌≡◌, ℕ, zero, suc, ◌+◌, ◌≤◌, Bool, true, false, cond, List, [], ◌∷◌, ◌++◌, length, refl, sym, ap, subst, ◌∙◌, append_assoc, append-nil, arith, length-append}
use Rattle.sa_lexer.specs.declared.token.TokenKind.TheVariants as token
use Rattle.sa_lexer.specs.declared.sign.Sign.{Sign}
use Rattle.sa_lexer.specs.declared.sign.Sign.TheVariants as sign
use Rattle.sa_lexer.specs.declared.word.Word.{Word}
use Rattle.sa_ast.specs.declared.pos.Pos.{Pos}
use Rattle.sa_parser_expr.specs.Lexemes.{Lexeme, IsSign, IsWord}
use Rattle.sa_parser_expr.specs.Readings.{Spelling, Begins, Reading, Read, Refused}
use Rattle.sa_parser_expr.specs.Tests.{is_sign}
use Rattle.sa_parser_expr.specs.Forms.{Form, give, refuse, shift, either, follow, separated, repeat, placed, list, make, until, until_word, opens}
use Rattle.sa_parser_expr.specs.Forms.{Reader, following, with_read, shifted, chosen, pos_of, listed, repeated, run, Nested, Ast}
use Rattle.sa_parser_expr.proofs.Tested.{sign_stands, word_stands, lexeme, a_sign, a_word}
use Rattle.sa_parser_expr.proofs.Shifts.{Shut, Meets, shifted_met, shifted_shut, chosen_met, chosen_shut}
use Rattle.sa_parser_expr.proofs.Shorter.{behind_one, NoLonger}

-- another list that may follow what was taken: it is empty, or begins with the same lexeme
pub data Agrees : List Lexeme → List Lexeme → Type 0 where
  ended : {rest : List Lexeme} → Agrees rest []
  same : {l : Lexeme} {more other : List Lexeme} → Agrees (l ∷ more) (l ∷ other)

pub agree_behind : (front : List Lexeme) {rest other : List Lexeme} → Agrees rest other → Agrees (front ++ rest) (front ++ other)
agree_behind [] h = h
agree_behind (l ∷ front) h = same

pub shut_agrees : (test : Lexeme → Bool) {rest other : List Lexeme} → Agrees rest other → Shut test rest → Shut test other
shut_agrees test ended h = tt
shut_agrees test same h = h

-- what is spelled after lexemes that are taken
abbrev pub After : {A : Type 0} → List Lexeme → Spelling A → Spelling A
After front R ls tree = R (front ++ ls) tree

pub record Took {A : Type 0} (R : Spelling A) (r : Reader A) (ls : List Lexeme) (tree : A) (rest : List Lexeme) : Type 0 where
  pub front : List Lexeme
  pub parts : ls ≡ front ++ rest
  pub spelled : R front tree
  pub local : (other : List Lexeme) → Agrees rest other → r (front ++ other) ≡ Read tree other

pub record Stopped {A : Type 0} (R : Spelling A) (r : Reader A) (ls rest : List Lexeme) : Type 0 where
  pub front : List Lexeme
  pub parts : ls ≡ front ++ rest
  pub begins : Begins R front
  pub local : (other : List Lexeme) → Agrees rest other → r (front ++ other) ≡ Refused other

abbrev pub Answers : {A : Type 0} → Spelling A → Reader A → List Lexeme → Reading A → Type 0
Answers R r ls (Read tree rest) = Took R r ls tree rest
Answers R r ls (Refused rest) = Stopped R r ls rest

pub record Sound {A : Type 0} (R : Spelling A) (r : Reader A) : Type 0 where
  pub begins : Begins R []
  pub answers : (ls : List Lexeme) → Answers R r ls (r ls)

-- ---- nothing is taken

sound-read : {A : Type 0} (R : Spelling A) (a : A) → R [] a → Sound R (λ ls. Read a ls)
sound-read R a h = record {
  begins = record { more = []; tree = a; spelled = h };
  answers = λ ls. record { front = []; parts = refl; spelled = h; local = λ other agree. refl };
}

pub sound-refused : {A : Type 0} (R : Spelling A) → Begins R [] → Sound R (λ ls. Refused ls)
sound-refused R h = record {
  begins = h;
  answers = λ ls. record { front = []; parts = refl; begins = h; local = λ other agree. refl };
}

-- ---- a reader after another

module _ {A B : Type 0} (P : Spelling A) (R : Spelling B) (r : Reader A) (go : A → Reader B)
    (sound : Sound P r) (inside : (ls : List Lexeme) (a : A) → P ls a → Sound (After ls R) (go a)) where
  after_read : (ls : List Lexeme) (a : A) (mid : List Lexeme) → Took P r ls a mid → (v : Reading B) (front : List Lexeme) → P front a → ls ≡ front ++ mid
      → ((other : List Lexeme) → Agrees mid other → r (front ++ other) ≡ Read a other)
      → Answers (After front R) (go a) mid v → Answers R (λ xs. following go (r xs)) ls v
  after_read ls a mid t (Read b rest) front spelled parts local g = record {
    front = front ++ g.front;
    parts = parts ∙ ap (λ xs. front ++ xs) g.parts ∙ sym (append_assoc front g.front rest);
    spelled = g.spelled;
    local = λ other agree.
        let seen : Agrees mid (g.front ++ other) = subst (λ xs. Agrees xs (g.front ++ other)) (sym g.parts) (agree_behind g.front agree) in
        ap (λ xs. following go (r xs)) (append_assoc front g.front other) ∙ ap (following go) (local (g.front ++ other) seen) ∙ g.local other agree;
  }
  after_read ls a mid t (Refused rest) front spelled parts local g = record {
    front = front ++ g.front;
    parts = parts ∙ ap (λ xs. front ++ xs) g.parts ∙ sym (append_assoc front g.front rest);
    begins = record {
      more = g.begins.more;
      tree = g.begins.tree;
      spelled = subst (λ xs. R xs g.begins.tree) (sym (append_assoc front g.front g.begins.more)) g.begins.spelled;
    };
    local = λ other agree.
        let seen : Agrees mid (g.front ++ other) = subst (λ xs. Agrees xs (g.front ++ other)) (sym g.parts) (agree_behind g.front agree) in
        ap (λ xs. following go (r xs)) (append_assoc front g.front other) ∙ ap (following go) (local (g.front ++ other) seen) ∙ g.local other agree;
  }

  -- what completes the first one, and what comes after it
  completed : (front : List Lexeme) → Begins P front → Begins R front
  completed front h =
      let later = (inside (front ++ h.more) h.tree h.spelled).begins in
      record {
        more = h.more ++ later.more;
        tree = later.tree;
        spelled = subst (λ xs. R xs later.tree) (append_assoc front h.more later.more) later.spelled;
      }

  behind_answers : (ls : List Lexeme) (v : Reading A) → Answers P r ls v → Answers R (λ xs. following go (r xs)) ls (following go v)
  behind_answers ls (Read a mid) t = after_read ls a mid t (go a mid) t.front t.spelled t.parts t.local ((inside t.front a t.spelled).answers mid)
  behind_answers ls (Refused rest) s = record {
    front = s.front;
    parts = s.parts;
    begins = completed s.front s.begins;
    local = λ other agree. ap (following go) (s.local other agree);
  }

  sound-following : Sound R (λ xs. following go (r xs))
  sound-following = record {
    begins = completed [] sound.begins;
    answers = λ ls. behind_answers ls (r ls) (sound.answers ls);
  }

module _ {A B : Type 0} (P : Spelling A) (R : Spelling B) (r : Reader A) (f : A → B) (sound : Sound P r) (up : (ls : List Lexeme) (a : A) → P ls a → R ls (f a)) where
  with_answers : (ls : List Lexeme) (v : Reading A) → Answers P r ls v → Answers R (λ xs. with_read f (r xs)) ls (with_read f v)
  with_answers ls (Read a rest) t = record {
    front = t.front;
    parts = t.parts;
    spelled = up t.front a t.spelled;
    local = λ other agree. ap (with_read f) (t.local other agree);
  }
  with_answers ls (Refused rest) s = record {
    front = s.front;
    parts = s.parts;
    begins = record { more = s.begins.more; tree = f s.begins.tree; spelled = up (s.front ++ s.begins.more) s.begins.tree s.begins.spelled };
    local = λ other agree. ap (with_read f) (s.local other agree);
  }

  sound-with : Sound R (λ xs. with_read f (r xs))
  sound-with = record {
    begins = record { more = sound.begins.more; tree = f sound.begins.tree; spelled = up sound.begins.more sound.begins.tree sound.begins.spelled };
    answers = λ ls. with_answers ls (r ls) (sound.answers ls);
  }

as_answers : {A : Type 0} {P R : Spelling A} (r : Reader A) (ls : List Lexeme) → ((ls : List Lexeme) (a : A) → P ls a → R ls a) → (v : Reading A) → Answers P r ls v → Answers R r ls v
as_answers r ls up (Read a rest) t = record { front = t.front; parts = t.parts; spelled = up t.front a t.spelled; local = t.local }
as_answers r ls up (Refused rest) s = record {
  front = s.front;
  parts = s.parts;
  begins = record { more = s.begins.more; tree = s.begins.tree; spelled = up (s.front ++ s.begins.more) s.begins.tree s.begins.spelled };
  local = s.local;
}

sound-as : {A : Type 0} {P R : Spelling A} {r : Reader A} → Sound P r → ((ls : List Lexeme) (a : A) → P ls a → R ls a) → Sound R r
sound-as {r = r} sound up = record {
  begins = record { more = sound.begins.more; tree = sound.begins.tree; spelled = up sound.begins.more sound.begins.tree sound.begins.spelled };
  answers = λ ls. as_answers r ls up (r ls) (sound.answers ls);
}

-- ---- a lexeme that meets a test

module _ {A : Type 0} (R : Spelling A) (test : Lexeme → Bool) (go : Lexeme → Reader A) (other : Reader A)
    (met : (l : Lexeme) → test l ≡ true → Sound (After (l ∷ []) R) (go l)) (without : Sound R other) where
  -- without such a lexeme
  without_answers : (ls : List Lexeme) → Shut test ls → (v : Reading A) → Answers R other ls v → Answers R (shifted test go other) ls v
  without_answers ls shut (Read a rest) t = record {
    front = t.front;
    parts = t.parts;
    spelled = t.spelled;
    local = λ following agree.
        let still : Shut test (t.front ++ following) = shut_agrees test (agree_behind t.front agree) (subst (Shut test) t.parts shut) in
        shifted_shut test go other (t.front ++ following) still ∙ t.local following agree;
  }
  without_answers ls shut (Refused rest) s = record {
    front = s.front;
    parts = s.parts;
    begins = s.begins;
    local = λ following agree.
        let still : Shut test (s.front ++ following) = shut_agrees test (agree_behind s.front agree) (subst (Shut test) s.parts shut) in
        shifted_shut test go other (s.front ++ following) still ∙ s.local following agree;
  }

  met_answers : (l : Lexeme) (ls : List Lexeme) → test l ≡ true → (v : Reading A) → Answers (After (l ∷ []) R) (go l) ls v → Answers R (shifted test go other) (l ∷ ls) v
  met_answers l ls is (Read a rest) t = record {
    front = l ∷ t.front;
    parts = ap (λ xs. l ∷ xs) t.parts;
    spelled = t.spelled;
    local = λ following agree. shifted_met test go other l (t.front ++ following) is ∙ t.local following agree;
  }
  met_answers l ls is (Refused rest) s = record {
    front = l ∷ s.front;
    parts = ap (λ xs. l ∷ xs) s.parts;
    begins = record { more = s.begins.more; tree = s.begins.tree; spelled = s.begins.spelled };
    local = λ following agree. shifted_met test go other l (s.front ++ following) is ∙ s.local following agree;
  }

  shifted_answers : (l : Lexeme) (ls : List Lexeme) (is : Bool) → test l ≡ is → Answers R (shifted test go other) (l ∷ ls) (cond is (go l ls) (other (l ∷ ls)))
  shifted_answers l ls true is = met_answers l ls is (go l ls) ((met l is).answers ls)
  shifted_answers l ls false is = without_answers (l ∷ ls) is (other (l ∷ ls)) (without.answers (l ∷ ls))

  answers : (ls : List Lexeme) → Answers R (shifted test go other) ls (shifted test go other ls)
  answers [] = without_answers [] tt (other []) (without.answers [])
  answers (l ∷ ls) = shifted_answers l ls (test l) refl

  sound-shifted : Sound R (shifted test go other)
  sound-shifted = record { begins = without.begins; answers = answers }

-- ---- one or several with a lexeme between them that meets a test

pub data Separated {A : Type 0} (test : Lexeme → Bool) (P : Spelling A) : List Lexeme → List A → Type 0 where
  last : {ls : List Lexeme} {a : A} → P ls a → Separated test P ls (a ∷ [])
  more : {ls ms : List Lexeme} {l : Lexeme} {a : A} {others : List A} → P ls a → test l ≡ true → Separated test P ms others → Separated test P (ls ++ l ∷ ms) (a ∷ others)

-- with `,` between them
abbrev pub Listed : {A : Type 0} → Spelling A → List Lexeme → List A → Type 0
Listed P = Separated (is_sign sign.Comma) P

module _ {A : Type 0} (test : Lexeme → Bool) (P : Spelling A) (item : Reader A) (sound : Sound P item) where
  sound-listed : (n : ℕ) → Sound (Separated test P) (listed n test item)
  sound-listed zero = sound-refused (Separated test P) (record { more = sound.begins.more; tree = sound.begins.tree ∷ []; spelled = last sound.begins.spelled })
  sound-listed (suc n) =
      sound-following P (Separated test P) item (behind_one n test item) sound
      (λ ls a one. sound-shifted (After ls (Separated test P)) test (λ _ ms. with_read (λ others. a ∷ others) (listed n test item ms)) (λ ms. Read (a ∷ []) ms)
      (λ l is. sound-with (Separated test P) (After (l ∷ []) (After ls (Separated test P))) (listed n test item) (λ others. a ∷ others) (sound-listed n)
      (λ ms others rest. more one is rest))
      (sound-read (After ls (Separated test P)) (a ∷ []) (rw append-nil (last one))))

-- ---- one of two, by a test

module _ {A : Type 0} (R : Spelling A) (test : Lexeme → Bool) (one other : Reader A) (first : Sound R one) (second : Sound R other)
    (takes : (l : Lexeme) (ls : List Lexeme) → test l ≡ true → NoLonger ls (one (l ∷ ls))) where
  -- what was taken begins with the lexeme that meets the test
  still_met : (l : Lexeme) (ls front rest following : List Lexeme) → l ∷ ls ≡ front ++ rest → length rest ≤ length ls → Meets test (front ++ rest) → Meets test (front ++ following)
  still_met l ls [] rest following parts le is = let size : suc (length ls) ≡ length rest = ap length parts in absurd (omega arith)
  still_met l ls (f ∷ front) rest following parts le is = is

  one_answers : (l : Lexeme) (ls : List Lexeme) → test l ≡ true → (v : Reading A) → NoLonger ls v → Answers R one (l ∷ ls) v → Answers R (chosen test one other) (l ∷ ls) v
  one_answers l ls is (Read a rest) le t = record {
    front = t.front;
    parts = t.parts;
    spelled = t.spelled;
    local = λ following agree.
        let still : Meets test (t.front ++ following) = still_met l ls t.front rest following t.parts le (subst (Meets test) t.parts is) in
        chosen_met test one other (t.front ++ following) still ∙ t.local following agree;
  }
  one_answers l ls is (Refused rest) le s = record {
    front = s.front;
    parts = s.parts;
    begins = s.begins;
    local = λ following agree.
        let still : Meets test (s.front ++ following) = still_met l ls s.front rest following s.parts le (subst (Meets test) s.parts is) in
        chosen_met test one other (s.front ++ following) still ∙ s.local following agree;
  }

  other_answers : (ls : List Lexeme) → Shut test ls → (v : Reading A) → Answers R other ls v → Answers R (chosen test one other) ls v
  other_answers ls shut (Read a rest) t = record {
    front = t.front;
    parts = t.parts;
    spelled = t.spelled;
    local = λ following agree.
        let still : Shut test (t.front ++ following) = shut_agrees test (agree_behind t.front agree) (subst (Shut test) t.parts shut) in
        chosen_shut test one other (t.front ++ following) still ∙ t.local following agree;
  }
  other_answers ls shut (Refused rest) s = record {
    front = s.front;
    parts = s.parts;
    begins = s.begins;
    local = λ following agree.
        let still : Shut test (s.front ++ following) = shut_agrees test (agree_behind s.front agree) (subst (Shut test) s.parts shut) in
        chosen_shut test one other (s.front ++ following) still ∙ s.local following agree;
  }

  either_answers : (l : Lexeme) (ls : List Lexeme) (is : Bool) → test l ≡ is → Answers R (chosen test one other) (l ∷ ls) (cond is (one (l ∷ ls)) (other (l ∷ ls)))
  either_answers l ls true is = one_answers l ls is (one (l ∷ ls)) (takes l ls is) (first.answers (l ∷ ls))
  either_answers l ls false is = other_answers (l ∷ ls) is (other (l ∷ ls)) (second.answers (l ∷ ls))

  chosen_answers : (ls : List Lexeme) → Answers R (chosen test one other) ls (chosen test one other ls)
  chosen_answers [] = other_answers [] tt (other []) (second.answers [])
  chosen_answers (l ∷ ls) = either_answers l ls (test l) refl

  sound-chosen : Sound R (chosen test one other)
  sound-chosen = record { begins = second.begins; answers = chosen_answers }

-- ---- as long as a lexeme meets a test

module _ {A : Type 0} (R : Spelling A) (test : Lexeme → Bool) (step : A → Lexeme → Reader A)
    (goes : (ls : List Lexeme) (a : A) → R ls a → (l : Lexeme) → test l ≡ true → Sound (After (l ∷ []) (After ls R)) (step a l)) where
  sound-repeated : (n : ℕ) (ls : List Lexeme) (a : A) → R ls a → Sound (After ls R) (repeated n test step a)
  sound-repeated zero ls a h = sound-refused (After ls R) (record { more = []; tree = a; spelled = rw append-nil h })
  sound-repeated (suc n) ls a h =
      sound-shifted (After ls R) test (λ l more. following (repeated n test step) (step a l more)) (λ more. Read a more)
      (λ l is. sound-following (After (l ∷ []) (After ls R)) (After (l ∷ []) (After ls R)) (step a l) (repeated n test step) (goes ls a h l is)
      (λ ms b k. sound-as (sound-repeated n (ls ++ l ∷ ms) b k) (λ xs c j. subst (λ zs. R zs c) (append_assoc ls (l ∷ ms) xs) j)))
      (sound-read (After ls R) a (rw append-nil h))

-- ---- with the position where it begins

pub data Placed {A : Type 0} (P : Spelling A) : List Lexeme → Pos × A → Type 0 where
  occurs : {l : Lexeme} {ls : List Lexeme} {a : A} → P (l ∷ ls) a → Placed P (l ∷ ls) (l.pos, a)

module _ {A : Type 0} (P : Spelling A) (some : (a : A) → P [] a → ⊥) where
  pub place_of_front : (front rest : List Lexeme) (a : A) → P front a → pos_of (front ++ rest) ≡ pos_of front
  place_of_front [] rest a h = absurd (some a h)
  place_of_front (l ∷ front) rest a h = refl

  pub placed_spelled : (ls : List Lexeme) (a : A) → P ls a → Placed P ls (pos_of ls, a)
  placed_spelled [] a h = absurd (some a h)
  placed_spelled (l ∷ ls) a h = occurs h

  placed_answers : (r : Reader A) (ls : List Lexeme) (v : Reading A) → Answers P r ls v
      → Answers (Placed P) (λ xs. following (λ a more. Read (pos_of xs, a) more) (r xs)) ls (following (λ a more. Read (pos_of ls, a) more) v)
  placed_answers r ls (Read a rest) t =
      let place : pos_of ls ≡ pos_of t.front = ap pos_of t.parts ∙ place_of_front t.front rest a t.spelled in
      record {
        front = t.front;
        parts = t.parts;
        spelled = subst (λ p. Placed P t.front (p, a)) (sym place) (placed_spelled t.front a t.spelled);
        local = λ other agree.
            ap (following (λ b more. Read (pos_of (t.front ++ other), b) more)) (t.local other agree)
            ∙ ap (λ p. Read (p, a) other) (place_of_front t.front other a t.spelled ∙ sym place);
      }
  placed_answers r ls (Refused rest) s = record {
    front = s.front;
    parts = s.parts;
    begins = record {
      more = s.begins.more;
      tree = (pos_of (s.front ++ s.begins.more), s.begins.tree);
      spelled = placed_spelled (s.front ++ s.begins.more) s.begins.tree s.begins.spelled;
    };
    local = λ other agree. ap (following (λ b more. Read (pos_of (s.front ++ other), b) more)) (s.local other agree);
  }

  sound-with_place : (r : Reader A) → Sound P r → Sound (Placed P) (λ xs. following (λ a more. Read (pos_of xs, a) more) (r xs))
  sound-with_place r sound = record {
    begins = record {
      more = sound.begins.more;
      tree = (pos_of sound.begins.more, sound.begins.tree);
      spelled = placed_spelled sound.begins.more sound.begins.tree sound.begins.spelled;
    };
    answers = λ ls. placed_answers r ls (r ls) (sound.answers ls);
  }

-- ---- what a sound reader leaves isn't longer

answered_shorter : {A : Type 0} (R : Spelling A) (r : Reader A) (ls : List Lexeme) (v : Reading A) → Answers R r ls v → NoLonger ls v
answered_shorter R r ls (Read a rest) t = let sum : length ls ≡ length t.front + length rest = ap length t.parts ∙ length-append t.front rest in omega arith
answered_shorter R r ls (Refused rest) s = let sum : length ls ≡ length s.front + length rest = ap length s.parts ∙ length-append s.front rest in omega arith

pub sound_shorter : {A : Type 0} (R : Spelling A) (r : Reader A) → Sound R r → (ls : List Lexeme) → NoLonger ls (r ls)
sound_shorter R r sound ls = answered_shorter R r ls (r ls) (sound.answers ls)

-- ---- after a lexeme that a reader takes

abbrev others : List Lexeme → List Lexeme
others [] = []
others (l ∷ ls) = ls

abbrev first_or : Lexeme → List Lexeme → Lexeme
first_or other [] = other
first_or other (l ∷ ls) = l

module _ {A : Type 0} (R : Spelling A) (r behind_it : Reader A) (l : Lexeme) (same_reading : (ls : List Lexeme) → r (l ∷ ls) ≡ behind_it ls) where
  taken_first : (a : A) (ls front rest : List Lexeme) → l ∷ ls ≡ front ++ rest → length rest ≤ length ls → R front a
      → ((other : List Lexeme) → Agrees rest other → r (front ++ other) ≡ Read a other) → Took (After (l ∷ []) R) behind_it ls a rest
  taken_first a ls [] rest parts le spelled local = let size : suc (length ls) ≡ length rest = ap length parts in absurd (omega arith)
  taken_first a ls (f ∷ front) rest parts le spelled local = let same_first : f ≡ l = sym (ap (first_or l) parts) in record {
    front = front;
    parts = ap others parts;
    spelled = subst (λ x. R (x ∷ front) a) same_first spelled;
    local = λ other agree. sym (same_reading (front ++ other)) ∙ ap (λ x. r (x ∷ (front ++ other))) (sym same_first) ∙ local other agree;
  }

  stopped_behind : (ls front rest : List Lexeme) → l ∷ ls ≡ front ++ rest → length rest ≤ length ls → Begins R front
      → ((other : List Lexeme) → Agrees rest other → r (front ++ other) ≡ Refused other) → Stopped (After (l ∷ []) R) behind_it ls rest
  stopped_behind ls [] rest parts le begins local = let size : suc (length ls) ≡ length rest = ap length parts in absurd (omega arith)
  stopped_behind ls (f ∷ front) rest parts le begins local = let same_first : f ≡ l = sym (ap (first_or l) parts) in record {
    front = front;
    parts = ap others parts;
    begins = record { more = begins.more; tree = begins.tree; spelled = subst (λ x. R (x ∷ (front ++ begins.more)) begins.tree) same_first begins.spelled };
    local = λ other agree. sym (same_reading (front ++ other)) ∙ ap (λ x. r (x ∷ (front ++ other))) (sym same_first) ∙ local other agree;
  }

  answers_behind : (ls : List Lexeme) (v : Reading A) → NoLonger ls v → Answers R r (l ∷ ls) v → Answers (After (l ∷ []) R) behind_it ls v
  answers_behind ls (Read a rest) le t = taken_first a ls t.front rest t.parts le t.spelled t.local
  answers_behind ls (Refused rest) le s = stopped_behind ls s.front rest s.parts le s.begins s.local

  begun_behind : (v : Reading A) → Answers (After (l ∷ []) R) behind_it [] v → Begins (After (l ∷ []) R) []
  begun_behind (Read a rest) t = record { more = t.front; tree = a; spelled = t.spelled }
  begun_behind (Refused rest) s = record { more = s.front ++ s.begins.more; tree = s.begins.tree; spelled = s.begins.spelled }

  pub sound-behind_lexeme : Sound R r → ((ls : List Lexeme) → NoLonger ls (r (l ∷ ls))) → Sound (After (l ∷ []) R) behind_it
  sound-behind_lexeme sound takes =
      let all = λ (ls : List Lexeme). subst (Answers (After (l ∷ []) R) behind_it ls) (same_reading ls) (answers_behind ls (r (l ∷ ls)) (takes ls) (sound.answers (l ∷ ls))) in
      record { begins = begun_behind (behind_it []) (all []); answers = all }

-- ---- forms

module _ (level : ℕ) (nested : (n : Nested) → Reader (Ast n)) where
  -- a form is sound where its reader is
  pub record IsSound {A : Type 0} (R : Spelling A) (form : Form A) : Type 0 where
    pub reader : Sound R (run level nested form)

module _ {level : ℕ} {nested : (n : Nested) → Reader (Ast n)} where
  pub sound-give : {A : Type 0} {R : Spelling A} {a : A} → R [] a → IsSound level nested R (give a)
  sound-give {R = R} {a = a} h = record { reader = sound-read R a h }

  pub sound-refuse : {A : Type 0} {R : Spelling A} → Begins R [] → IsSound level nested R refuse
  sound-refuse {R = R} h = record { reader = sound-refused R h }

  pub sound-shift : {A : Type 0} {R : Spelling A} {test : Lexeme → Bool} {go : Lexeme → Form A} {other : Form A}
      → ((l : Lexeme) → test l ≡ true → IsSound level nested (After (l ∷ []) R) (go l)) → IsSound level nested R other → IsSound level nested R (shift test go other)
  sound-shift {R = R} {test = test} {go = go} {other = other} met without = record {
    reader = sound-shifted R test (λ l. run level nested (go l)) (run level nested other) (λ l is. (met l is).reader) without.reader;
  }

  pub sound-follow : {A B : Type 0} {P : Spelling A} {R : Spelling B} {first : Form A} {next : A → Form B}
      → IsSound level nested P first → ((ls : List Lexeme) (a : A) → P ls a → IsSound level nested (After ls R) (next a)) → IsSound level nested R (follow first next)
  sound-follow {P = P} {R = R} {first = first} {next = next} sound inside = record {
    reader = sound-following P R (run level nested first) (λ a. run level nested (next a)) sound.reader (λ ls a is. (inside ls a is).reader);
  }

  pub sound-separated : {A : Type 0} {P : Spelling A} {R : Spelling (List A)} {test : Lexeme → Bool} {item : Form A}
      → IsSound level nested P item → ((ls : List Lexeme) (all : List A) → Separated test P ls all → R ls all) → IsSound level nested R (separated test item)
  sound-separated {P = P} {R = R} {test = test} {item = item} sound up = record { reader = sound-as (sound-listed test P (run level nested item) sound.reader (suc level)) up }

  pub sound-list : {A : Type 0} {P : Spelling A} {R : Spelling (List A)} {item : Form A}
      → IsSound level nested P item → ((ls : List Lexeme) (all : List A) → Listed P ls all → R ls all) → IsSound level nested R (list item)
  sound-list sound up = sound-separated sound up

  pub sound-either : {A : Type 0} {R : Spelling A} {one other : Form A}
      → IsSound level nested R one → IsSound level nested R other → ((l : Lexeme) (ls : List Lexeme) → opens one l ≡ true → NoLonger ls (run level nested one (l ∷ ls)))
      → IsSound level nested R (either one other)
  sound-either {R = R} {one = one} {other = other} first second takes = record {
    reader = sound-chosen R (opens one) (run level nested one) (run level nested other) first.reader second.reader takes;
  }

  pub sound-repeat : {A : Type 0} {R : Spelling A} {test : Lexeme → Bool} {step : A → Lexeme → Form A} (ls : List Lexeme) {a : A}
      → R ls a → ((ls : List Lexeme) (a : A) → R ls a → (l : Lexeme) → test l ≡ true → IsSound level nested (After (l ∷ []) (After ls R)) (step a l))
      → IsSound level nested (After ls R) (repeat test step a)
  sound-repeat {R = R} {test = test} {step = step} ls {a = a} h goes = record {
    reader = sound-repeated R test (λ tree l. run level nested (step tree l)) (λ ms b k l is. (goes ms b k l is).reader) (suc level) ls a h;
  }

  pub sound-placed : {A : Type 0} {P : Spelling A} {form : Form A} → ((a : A) → P [] a → ⊥) → IsSound level nested P form → IsSound level nested (Placed P) (placed form)
  sound-placed {P = P} {form = form} some sound = record { reader = sound-with_place P some (run level nested form) sound.reader }

  pub sound-up : {A : Type 0} {P R : Spelling A} {form : Form A} → IsSound level nested P form → ((ls : List Lexeme) (a : A) → P ls a → R ls a) → IsSound level nested R form
  sound-up sound up = record { reader = sound-as sound.reader up }

  pub sound-make : {A B : Type 0} {P : Spelling A} {R : Spelling B} {form : Form A} {f : A → B}
      → IsSound level nested P form → ((ls : List Lexeme) (a : A) → P ls a → R ls (f a)) → IsSound level nested R (make f form)
  sound-make sound up = sound-follow sound (λ ls a is. sound-give (rw append-nil (up ls a is)))

  pub sound-until : {A : Type 0} {P : Spelling A} {R : Spelling A} {form : Form A} {sign : Sign}
      → IsSound level nested P form → ((ls : List Lexeme) (a : A) (l : Lexeme) → P ls a → IsSign sign l → R (ls ++ l ∷ []) a) → IsSound level nested R (until sign form)
  sound-until {sign = sign} sound up =
      sound-follow sound (λ ls a is.
      sound-shift (λ l closes. sound-give (up ls a l is (sign_stands sign l closes)))
      (sound-refuse (record { more = lexeme (token.Sign sign) ∷ []; tree = a; spelled = up ls a (lexeme (token.Sign sign)) is (a_sign sign) })))

  pub sound-until_word : {A : Type 0} {P : Spelling A} {R : Spelling A} {form : Form A} {w : Word}
      → IsSound level nested P form → ((ls : List Lexeme) (a : A) (l : Lexeme) → P ls a → IsWord w l → R (ls ++ l ∷ []) a) → IsSound level nested R (until_word w form)
  sound-until_word {w = w} sound up =
      sound-follow sound (λ ls a is.
      sound-shift (λ l closes. sound-give (up ls a l is (word_stands w l closes)))
      (sound-refuse (record { more = lexeme (token.Word w) ∷ []; tree = a; spelled = up ls a (lexeme (token.Word w)) is (a_word w) })))
