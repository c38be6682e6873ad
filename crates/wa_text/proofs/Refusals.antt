-- What is refused at a position of a text, by the grammar of forms.
use Rattle.std.proofs.Common.{◌≡◌, ◌≢◌, ℕ, ◌+◌, ◌⊎◌, inl, inr, Bool, false, List, [], ◌∷◌, ◌++◌, take, drop, map, refl, sym, ap, subst, ◌∙◌, append_assoc, arith}
use Rattle.std.proofs.lemmas.Bool.{ne_eqb}
use Rattle.std.proofs.lemmas.List.Sums.{sum_by-cons}
use Rattle.std.proofs.lemmas.List.Elements.{All-from_recursion}
use Rattle.std.proofs.lemmas.List.Splits.{join_with_byte-slice_split, slice_split_at, slice_split_none}
use Rattle.std.proofs.lemmas.Result.{err_from_is_err_and}
use Rattle.std.specs.List.{All, AllByRecursion, count_by, join_with_byte, slice_split}
use Rattle.std.specs.Prelude.{◌==◌, IsErrAnd, MatchResult, Result, Ok, Err, cond}
use Rattle.wa_text.specs.declared.fault.LineFault.{LineFault}
use Rattle.wa_text.specs.declared.fault.LineFault.TheVariants as line_fault
use Rattle.wa_text.specs.declared.fault.TextFault.{TextFault}
use Rattle.wa_text.specs.declared.fault.TextFault.TheVariants as text_fault
use Rattle.wa_text.specs.Forms.{Form, ◌then◌, each, exactly}
use Rattle.wa_text.specs.Reading.{IsUnbroken, Reads, Refused, Refuses, RefusesAt, Spelled, anything, begins_not, begins_otherwise, begins_with, rows, rows_at, words_of}
use Rattle.wa_text.specs.Words.{Word, Line, line, word}
use Rattle.wa_text.proofs.Lines.{join, none_here, rows_line, weaker}
use Rattle.wa_text.proofs.NoWords.{behind_word}
use Rattle.wa_text.proofs.OneItem.{IsOne, pair, same_back}

-- ---- faults

-- words that denote a value of the one form denote one of the other
pub refuses_as : {U V : Type 0} (P : U → Form Word) (F : V → Form Word) (words other : Line) (e : LineFault) → ((v : V) → F v words → (u : U) × P u other) → Refuses P other e → Refuses F words e
refuses_as P F words other line_fault.Wrong to h = λ v k. let found = to v k in h found.0 found.1
refuses_as P F words other line_fault.NoMemory to h = tt

pub refuses_at : {U V : Type 0} {P : U → Form Line} {F : V → Form Line} {J K : Form Line} {text : List ℕ} {from mid : ℕ} (e : TextFault) → ((at : ℕ) → Refused P J text mid at → Refused F K text from at) → RefusesAt P J text mid e → RefusesAt F K text from e
refuses_at (text_fault.Wrong at) to h = to at h
refuses_at text_fault.NoMemory to h = tt

-- what `?` returns
pub returned : {T E : Type 0} (P : T → Type 0) (Q : E → Type 0) {e : E} (r : Result T E) → IsErrAnd r (λ fault. fault ≡ e) → Q e → MatchResult r P Q
returned P Q r is h =
    let failed = err_from_is_err_and r is in
    subst (λ (answer : _). MatchResult answer P Q) (sym failed.1) (subst Q (sym failed.2) h)

-- and where it makes another fault
pub returned_from : {T E : Type 0} (P : T → Type 0) (Q R : E → Type 0) (r : Result T E) → IsErrAnd r R → ((e : E) → R e → Q e) → MatchResult r P Q
returned_from P Q R r is to =
    let failed = err_from_is_err_and r is in
    subst (λ (answer : _). MatchResult answer P Q) (sym failed.1) (to failed.0 failed.2)

-- ---- the first line

-- the form looks at the first line alone
abbrev pub IsLocal : Form Line → Type 0
IsLocal J = (lines other : List Line) → take 1 lines ≡ take 1 other → J lines → J other

pub begins_with-local : (w : Word) → IsLocal (begins_with w)
begins_with-local w lines [] same h = let no : ⊥ = first_some w h.0 h.1 lines h.2 same in absurd no
  where
    first_some : (w : Word) (words : Line) (more lines : List Line) → lines ≡ (w ∷ words) ∷ more → take 1 lines ≡ [] → ⊥
    first_some w words more lines is none = let no : (w ∷ words) ∷ [] ≡ [] = sym (ap (take 1) is) ∙ none in cc
begins_with-local w lines (o ∷ other) same h =
    let firsts : (w ∷ h.0) ∷ [] ≡ o ∷ [] = sym (ap (take 1) h.2) ∙ same in
    let first : w ∷ h.0 ≡ o = cc in
    (h.0, other, ap (λ (l : Line). l ∷ other) (sym first))

pub begins_otherwise-local : (w : Word) → IsLocal (begins_otherwise w)
begins_otherwise-local w lines other same h k = h (begins_with-local w other lines (sym same) k)

-- a line that other lines begin with
pub same_first : (l : Line) (more lines other : List Line) → lines ≡ l ∷ more → take 1 lines ≡ take 1 other → (rest : List Line) × (other ≡ l ∷ rest)
same_first l more lines [] is same = let no : l ∷ [] ≡ [] = sym (ap (take 1) is) ∙ same in let none : ⊥ = cc in absurd none
same_first l more lines (o ∷ other) is same =
    let firsts : l ∷ [] ≡ o ∷ [] = sym (ap (take 1) is) ∙ same in
    let first : l ≡ o = cc in
    (other, ap (λ (x : Line). x ∷ other) (sym first))

pub none_first : (lines other : List Line) → lines ≡ [] → take 1 lines ≡ take 1 other → other ≡ []
none_first lines [] is same = refl
none_first lines (o ∷ other) is same = let no : [] ≡ o ∷ [] = sym (ap (take 1) is) ∙ same in let none : ⊥ = cc in absurd none

-- the lines that are passed, and those after them, begin as the text does
first_again : (front more all following : List Line) → all ≡ front ++ following → take 1 more ≡ take 1 following → take 1 (front ++ more) ≡ take 1 all
first_again [] more all following is same = same ∙ ap (take 1) (sym is)
first_again (f ∷ front) more all following is same = ap (take 1) (sym is)

-- ---- positions

pub all_of : {F : Form Line} {text : List ℕ} {from to : ℕ} (h : Spelled F text from to) → Spelled (exactly h.lines) text from to
all_of h = record { lines = h.lines; spelling = refl; are = h.are; is = h.is; rows_are = h.rows_are }

both_passed : {a b : List Line} {text : List ℕ} {from mid to : ℕ} → Spelled (exactly a) text from mid → Spelled (exactly b) text mid to → Spelled (exactly (a ++ b)) text from to
both_passed {a} {b} h k = weaker (λ lines s. s.2 ∙ ap (λ (front : List Line). front ++ s.1) s.3 ∙ ap (λ (back : List Line). a ++ back) s.4) (join h k)

-- what is refused at the position itself
pub refused_here : {V : Type 0} {F : V → Form Line} {K : Form Line} {text : List ℕ} {at : ℕ} → ((v : V) (lines : List Line) → take 1 lines ≡ take 1 (rows_at text at) → (F v then K) lines → ⊥) → Refused F K text at at
refused_here {text = text} {at = at} none = record { front = []; passed = none_here text at; never = none }

-- what holds of lines that begin as the text does
pub refused_as : {U V : Type 0} {P : U → Form Line} {F : V → Form Line} {J K : Form Line} {text : List ℕ} {from at : ℕ} → ((v : V) (lines : List Line) → take 1 lines ≡ take 1 (rows_at text from) → (F v then K) lines → (u : U) × (P u then J) lines) → Refused P J text from at → Refused F K text from at
refused_as {text = text} {from = from} {at = at} to r = record {
  front = r.front;
  passed = r.passed;
  never = λ v more same h.
      let found = to v (r.front ++ more) (first_again r.front more (rows_at text from) (rows_at text at) (behind_passed r.passed) same) h in
      r.never found.0 more same found.1;
}
  where
    behind_passed : {front : List Line} {text : List ℕ} {from at : ℕ} → Spelled (exactly front) text from at → rows_at text from ≡ front ++ rows_at text at
    behind_passed {text = text} {at = at} h = h.rows_are ∙ ap (λ (lines : List Line). lines ++ rows_at text at) h.spelling

-- what is refused after a line
pub refused_behind_line : {U V : Type 0} {B : U → Form Line} {F : V → Form Line} {J K : Form Line} {text : List ℕ} {from mid at : ℕ} (words : Line) → Spelled (exactly (words ∷ [])) text from mid → ((v : V) (more : List Line) → (F v then K) (words ∷ more) → (u : U) × (B u then J) more) → Refused B J text mid at → Refused F K text from at
refused_behind_line words h to r = record {
  front = words ∷ r.front;
  passed = both_passed h r.passed;
  never = λ v more same k. let found = to v (r.front ++ more) k in r.never found.0 more same found.1;
}

-- what is refused after a value that has the one beginning
pub refused_past : {U V : Type 0} {A : U → Form Line} {B : V → Form Line} {K : Form Line} {text : List ℕ} {from mid at : ℕ} (u : U) (h : Spelled (A u) text from mid) → ((w : U) (v : V) (a b x rest : List Line) → A w a → B v b → K x → take 1 rest ≡ take 1 (rows_at text mid) → a ++ (b ++ x) ≡ h.lines ++ rest → a ≡ h.lines) → Refused B K text mid at → Refused (pair A B) K text from at
refused_past {text = text} {mid = mid} {at = at} u h cut r = record {
  front = h.lines ++ r.front;
  passed = both_passed (all_of h) r.passed;
  never = λ w more same g.
      let a : List Line = g.3.0 in
      let b : List Line = g.3.1 in
      let x : List Line = g.1 in
      let rest : List Line = r.front ++ more in
      let whole : a ++ (b ++ x) ≡ h.lines ++ rest = sym (append_assoc a b x) ∙ ap (λ (s : List Line). s ++ x) (sym g.3.2) ∙ sym g.2 ∙ append_assoc h.lines r.front more in
      let begins : take 1 rest ≡ take 1 (rows_at text mid) = first_again r.front more (rows_at text mid) (rows_at text at) (r.passed.rows_are ∙ ap (λ (lines : List Line). lines ++ rows_at text at) r.passed.spelling) same in
      let first : a ≡ h.lines = cut w.0 w.1 a b x rest g.3.3 g.3.4 g.4 begins whole in
      r.never w.1 more same (b, x, sym (same_back a h.lines (b ++ x) rest first whole), g.3.4, g.4);
}

pub refused_behind : {U V : Type 0} {A : U → Form Line} {B : V → Form Line} {J K : Form Line} {text : List ℕ} {from mid at : ℕ} (u : U) → IsOne J A → IsLocal J → Spelled (A u) text from mid → J (rows_at text mid) → ((v : V) (s x : List Line) → B v s → K x → J (s ++ x)) → Refused B K text mid at → Refused (pair A B) K text from at
refused_behind {text = text} {mid = mid} u one local h follows next r = refused_past u h (λ w v a b x rest is_a is_b ends begins whole.
    (one.one w u a h.lines (b ++ x) rest is_a h.spelling (next v b x is_b ends) (local (rows_at text mid) rest (sym begins) follows) whole).0) r

-- what is refused before a value
pub refused_front : {U V : Type 0} {A : U → Form Line} {B : V → Form Line} {J K : Form Line} {text : List ℕ} {from at : ℕ} → ((v : V) (s x : List Line) → B v s → K x → J (s ++ x)) → Refused A J text from at → Refused (pair A B) K text from at
refused_front next r = refused_as (λ v lines same h.
    (v.0, (h.3.0, h.3.1 ++ h.1, h.2 ∙ ap (λ (s : List Line). s ++ h.1) h.3.2 ∙ append_assoc h.3.0 h.3.1 h.1, h.3.3, next v.1 h.3.1 h.1 h.3.4 h.4))) r

-- ---- values one after another

-- a value's lines are no others' beginning
pub record IsCut {V : Type 0} (F : V → Form Line) : Type 0 where
  pub cut : (v w : V) (a b x y : List Line) → F v a → F w b → a ++ x ≡ b ++ y → a ≡ b

pub cut_one : {V : Type 0} {F : V → Form Line} → IsOne anything F → IsCut F
cut_one one = record { cut = λ v w a b x y h k same. (one.one v w a b x y h k tt tt same).0 }

-- each line is one
pub cut_line : {V : Type 0} {G : V → Form Word} → IsCut (λ v. line (G v))
cut_line = record {
  cut = λ v w a b x y h k same.
      let lines : h.0 ∷ x ≡ k.0 ∷ y = ap (λ (s : List Line). s ++ x) (sym h.2) ∙ same ∙ ap (λ (s : List Line). s ++ y) k.2 in
      let words : h.0 ≡ k.0 = cc in
      h.2 ∙ ap (λ (l : Line). l ∷ []) words ∙ sym k.2;
}

no_more : {V : Type 0} {F : V → Form Line} (J : Form Line) → IsCut F → ((v : V) (s x : List Line) → F v s → J (s ++ x) → ⊥) → (vs ws : List V) (a b y rest : List Line) → each F vs a → each F ws b → J y → a ++ rest ≡ b ++ y → (J rest → ⊥) → ((w : V) → (F w then anything) rest → ⊥) → ⊥
no_more J cut never [] [] a b y rest h k follows same stop none =
    let whole : y ≡ rest = ap (λ (s : List Line). s ++ y) (sym k) ∙ sym same ∙ ap (λ (s : List Line). s ++ rest) h in
    stop (subst J whole follows)
no_more J cut never [] (w ∷ ws) a b y rest h k follows same stop none =
    none w (k.0, k.1 ++ y, ap (λ (s : List Line). s ++ rest) (sym h) ∙ same ∙ ap (λ (s : List Line). s ++ y) k.2 ∙ append_assoc k.0 k.1 y, k.3, tt)
no_more J cut never (v ∷ vs) [] a b y rest h k follows same stop none =
    let whole : y ≡ h.0 ++ (h.1 ++ rest) = ap (λ (s : List Line). s ++ y) (sym k) ∙ sym same ∙ ap (λ (s : List Line). s ++ rest) h.2 ∙ append_assoc h.0 h.1 rest in
    never v h.0 (h.1 ++ rest) h.3 (subst J whole follows)
no_more J cut never (v ∷ vs) (w ∷ ws) a b y rest h k follows same stop none =
    let whole : h.0 ++ (h.1 ++ rest) ≡ k.0 ++ (k.1 ++ y) = sym (append_assoc h.0 h.1 rest) ∙ ap (λ (s : List Line). s ++ rest) (sym h.2) ∙ same ∙ ap (λ (s : List Line). s ++ y) k.2 ∙ append_assoc k.0 k.1 y in
    let first = cut.cut v w h.0 k.0 (h.1 ++ rest) (k.1 ++ y) h.3 k.3 whole in
    no_more J cut never vs ws h.1 k.1 y rest h.4 k.4 follows (same_back h.0 k.0 (h.1 ++ rest) (k.1 ++ y) first whole) stop none

-- one more value is refused, where the values don't stop
pub refused_each : {V : Type 0} {F : V → Form Line} {J : Form Line} {text : List ℕ} {from mid at : ℕ} (vs : List V) → IsCut F → ((v : V) (s x : List Line) → F v s → J (s ++ x) → ⊥) → IsLocal J → (J (rows_at text mid) → ⊥) → Spelled (each F vs) text from mid → Refused F anything text mid at → Refused (each F) J text from at
refused_each {J = J} {text = text} {mid = mid} {at = at} vs cut never local stop h r = record {
  front = h.lines ++ r.front;
  passed = both_passed (all_of h) r.passed;
  never = λ ws more same g.
      let rest : List Line = r.front ++ more in
      let begins : take 1 rest ≡ take 1 (rows_at text mid) = first_again r.front more (rows_at text mid) (rows_at text at) (r.passed.rows_are ∙ ap (λ (lines : List Line). lines ++ rows_at text at) r.passed.spelling) same in
      no_more J cut never vs ws h.lines g.0 g.1 rest h.spelling g.3 g.4 (sym (append_assoc h.lines r.front more) ∙ g.2)
      (λ k. stop (local rest (rows_at text mid) begins k))
      (λ w k. r.never w more same k);
}

-- ---- one line

-- a text without a line feed has no lines
pub no_line : (text : List ℕ) (at : ℕ) → IsUnbroken (drop at text) → rows_at text at ≡ []
no_line text at h = ap (λ (n : ℕ). take n (map words_of (slice_split (λ b. b == 10) (drop at text)))) (no_feeds (drop at text) h)
  where
    no_feeds : (bytes : List ℕ) → IsUnbroken bytes → count_by (λ b. b == 10) bytes ≡ 0
    no_feeds [] k = refl
    no_feeds (b ∷ bs) k =
        let more = no_feeds bs k.1 in
        let none : 0 + count_by (λ c. c == 10) bs ≡ 0 = omega (arith, more) in
        sum_by-cons (λ c. cond (c == 10) 1 0) b bs ∙ ap (λ (t : Bool). cond t 1 0 + count_by (λ c. c == 10) bs) (ne_eqb b 10 k.0) ∙ none

-- the line at a position
row_here : (text : List ℕ) (at mid : ℕ) (bytes : List ℕ) → drop at text ≡ bytes ++ 10 ∷ drop mid text → IsUnbroken bytes → rows_at text at ≡ words_of bytes ∷ rows_at text mid
row_here text at mid bytes is h = ap rows is ∙ rows_line bytes (drop mid text) h

pub other_line : (text : List ℕ) (at mid : ℕ) (bytes w : List ℕ) → drop at text ≡ bytes ++ 10 ∷ drop mid text → IsUnbroken bytes → bytes ≢ w → begins_not (w ∷ []) (rows_at text at)
other_line text at mid bytes w is h differs more same =
    let row = row_here text at mid bytes is h in
    let both : words_of bytes ∷ rows_at text mid ≡ (w ∷ []) ∷ more = sym row ∙ same in
    let first : words_of bytes ≡ w ∷ [] = cc in
    differs (sym (join_with_byte-slice_split 32 bytes) ∙ ap (join_with_byte 32) first)

pub none_begins_not : (words : Line) (lines : List Line) → lines ≡ [] → begins_not words lines
none_begins_not words lines none more is = let no : [] ≡ words ∷ more = sym none ∙ is in cc

no_blanks : (w : List ℕ) → AllByRecursion (λ b. b ≢ 32) w → All (λ b. (b == 32) ≡ false) w
no_blanks w h = All-from_recursion (λ b. (b == 32) ≡ false) w (go w h)
  where
    go : (bs : List ℕ) → AllByRecursion (λ b. b ≢ 32) bs → AllByRecursion (λ b. (b == 32) ≡ false) bs
    go [] k = tt
    go (b ∷ bs) k = (ne_eqb b 32 k.0, go bs k.1)

-- the first word of a line
pub first_word_of : (bytes w : List ℕ) → AllByRecursion (λ b. b ≢ 32) w → (w ≡ bytes) ⊎ ((rest : List ℕ) × (bytes ≡ w ++ 32 ∷ rest)) → (rest : Line) × (words_of bytes ≡ w ∷ rest)
first_word_of bytes w h (inl is) = ([], ap words_of (sym is) ∙ slice_split_none (λ b. b == 32) w (no_blanks w h))
first_word_of bytes w h (inr k) = (words_of k.0, ap words_of k.1 ∙ slice_split_at (λ b. b == 32) w 32 k.0 (no_blanks w h) refl)

pub row_begins : (text : List ℕ) (at mid : ℕ) (bytes first w : List ℕ) (rest : Line) → drop at text ≡ bytes ++ 10 ∷ drop mid text → IsUnbroken bytes → words_of bytes ≡ first ∷ rest → first ≡ w → begins_with w (rows_at text at)
row_begins text at mid bytes first w rest is h words same =
    (rest, rows_at text mid, row_here text at mid bytes is h ∙ ap (λ (l : Line). l ∷ rows_at text mid) (words ∙ ap (λ (v : Word). v ∷ rest) same))

pub row_otherwise : (text : List ℕ) (at mid : ℕ) (bytes first w : List ℕ) (rest : Line) → drop at text ≡ bytes ++ 10 ∷ drop mid text → IsUnbroken bytes → words_of bytes ≡ first ∷ rest → first ≢ w → begins_otherwise w (rows_at text at)
row_otherwise text at mid bytes first w rest is h words differs g =
    let row = row_here text at mid bytes is h in
    let both : words_of bytes ∷ rows_at text mid ≡ (w ∷ g.0) ∷ g.1 = sym row ∙ g.2 in
    let same : words_of bytes ≡ w ∷ g.0 = cc in
    let heads : first ∷ rest ≡ w ∷ g.0 = sym words ∙ same in
    differs cc

-- the words after the first
pub reads_behind : {V : Type 0} (F : V → Form Word) (w : Word) (words rest : Line) (r : Result V LineFault) → words ≡ w ∷ rest → Reads F rest r → Reads (λ v. word w then F v) words r
reads_behind F w words rest (Ok v) is h = (w ∷ [], rest, is, refl, h)
reads_behind F w words rest (Err line_fault.Wrong) is h = λ v k. h v (behind_word w rest (subst (word w then F v) is k)).1
reads_behind F w words rest (Err line_fault.NoMemory) is h = tt

-- a line whose words denote nothing
pub refused_words : {V : Type 0} (F : V → Form Word) {text : List ℕ} {at mid : ℕ} (words : Line) (e : LineFault) (f : TextFault) → (e ≡ line_fault.Wrong → f ≡ text_fault.Wrong at) → (e ≡ line_fault.NoMemory → f ≡ text_fault.NoMemory) → Spelled (exactly (words ∷ [])) text at mid → Refuses F words e → RefusesAt (λ v. line (F v)) anything text at f
refused_words {V} F {text} {at} {mid} words line_fault.Wrong f wrong memory h none =
    subst (RefusesAt (λ (v : V). line (F v)) anything text at) (sym (wrong refl))
    (refused_here (λ v lines same g.
    let row : rows_at text at ≡ words ∷ rows_at text mid = h.rows_are ∙ ap (λ (l : List Line). l ++ rows_at text mid) h.spelling in
    let first = same_first words (rows_at text mid) (rows_at text at) lines row (sym same) in
    let both : words ∷ first.0 ≡ g.3.0 ∷ g.1 = sym first.1 ∙ g.2 ∙ ap (λ (l : List Line). l ++ g.1) g.3.2 in
    let is : g.3.0 ≡ words = cc in
    none v (subst (F v) is g.3.1)))
refused_words {V} F {text} {at} words line_fault.NoMemory f wrong memory h none =
    subst (RefusesAt (λ (v : V). line (F v)) anything text at) (sym (memory refl)) tt

-- no line
pub refused_none : {V : Type 0} (F : V → Form Word) (text : List ℕ) (at : ℕ) (f : TextFault) → ((f ≡ text_fault.Wrong at) × (rows_at text at ≡ [])) ⊎ (f ≡ text_fault.NoMemory) → RefusesAt (λ v. line (F v)) anything text at f
refused_none {V} F text at f (inl h) =
    subst (RefusesAt (λ (v : V). line (F v)) anything text at) (sym h.0)
    (refused_here (λ v lines same g.
    let none : lines ≡ [] = none_first (rows_at text at) lines h.1 (sym same) in
    let no : [] ≡ g.3.0 ∷ g.1 = sym none ∙ g.2 ∙ ap (λ (l : List Line). l ++ g.1) g.3.2 in
    cc))
refused_none {V} F text at f (inr h) = subst (RefusesAt (λ (v : V). line (F v)) anything text at) (sym h) tt

-- the fault is known
pub refused_wrong : {V : Type 0} {F : V → Form Line} {K : Form Line} {text : List ℕ} {from at : ℕ} (e : TextFault) → e ≡ text_fault.Wrong at → Refused F K text from at → RefusesAt F K text from e
refused_wrong {V} {F} {K} {text} {from} e is r = subst (RefusesAt F K text from) (sym is) r
