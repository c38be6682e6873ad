-- What the ASTs that a form reads have in common: of the members of a class one is an invariant at most.
use Rattle.std.proofs.Common.{◌≡◌, ℕ, zero, suc, ◌+◌, ◌≤◌, Bool, true, false, cond, List, [], ◌∷◌, ◌++◌, length, ap, ◌∙◌, arith}
use Rattle.std.specs.List.{flat_map}
use Rattle.std.proofs.lemmas.List.{length-append}
use Rattle.std.proofs.lemmas.Grind.{flat_map-append}
use Rattle.sa_ast.specs.declared.contract.Condition.{Condition}
use Rattle.sa_ast.specs.declared.class.Access.{Access}
use Rattle.sa_ast.specs.declared.class.ClassKind.{ClassKind}
use Rattle.sa_ast.specs.declared.class.ClassKind.TheVariants.{Reference, Immutable, Abstract, Partial}
use Rattle.sa_lexer.specs.declared.word.Word.{Word}
use Rattle.sa_lexer.specs.declared.word.Word.TheVariants as word
use Rattle.sa_parser_expr.specs.declared.tokens.Tokens.{Tokens}
use Rattle.sa_parser_expr.specs.Exactly.{lexemes_from, Takes}
use Rattle.sa_parser_expr.specs.Forms.{Form, Reader, give, refuse, shift, either, follow, repeat, make, until_word, following, repeated, opens}
use Rattle.sa_parser_expr.specs.Lexemes.{Lexeme}
use Rattle.sa_parser_expr.specs.Readings.{Reading, Read, Refused}
use Rattle.sa_parser_expr.proofs.Runs.{level, at_level, taken}
use Rattle.sa_parser.specs.declared.file.FileKind.{FileKind}
use Rattle.sa_parser.specs.declared.file.FileKind.TheVariants.{Prelude, Program}
use Rattle.sa_parser.specs.declared.member.Declaration.{Declaration}
use Rattle.sa_parser.specs.ClassForms.{optional_member_form, is_empty, none_yet, members_form}
use Rattle.sa_parser.specs.ClassForms.{abstract_form, concrete_form, class_form, optional_class_form}
use Rattle.sa_parser.specs.Classes.{Written, invariants_of}
use Rattle.sa_parser.specs.FeatureForms.{member_form, open_form, declared_or, stub_or, builtin_or, invariant_or, routine_form, include_form}
use Rattle.sa_parser.specs.Features.{Enclosing}

-- an AST that is read has the property
abbrev Each : {A : Type 0} → (A → Type 0) → Reading A → Type 0
Each P (Read a rest) = P a
Each P (Refused rest) = Unit {0}

each_behind : {A B : Type 0} (P : A → Type 0) (Q : B → Type 0) (go : A → Reader B) (v : Reading A) → Each P v
    → ((a : A) (ls : List Lexeme) → P a → Each Q (go a ls))
    → Each Q (following go v)
each_behind P Q go (Read a rest) h each = each a rest h
each_behind P Q go (Refused rest) h each = tt

each_cond : {A : Type 0} (P : A → Type 0) (b : Bool) (v w : Reading A) → Each P v → Each P w → Each P (cond b v w)
each_cond P true v w h k = h
each_cond P false v w h k = k

each_repeated : {A : Type 0} (P : A → Type 0) (n : ℕ) (test : Lexeme → Bool) (step : A → Lexeme → Reader A)
    → ((a : A) (l : Lexeme) (ls : List Lexeme) → P a → Each P (step a l ls))
    → (a : A) (ls : List Lexeme) → P a → Each P (repeated n test step a ls)
each_repeated P zero test step each a ls h = tt
each_repeated P (suc n) test step each a [] h = h
each_repeated P (suc n) test step each a (l ∷ ls) h =
    each_cond P (test l) (following (repeated n test step) (step a l ls)) (Read a (l ∷ ls))
    (each_behind P P (repeated n test step) (step a l ls) (each a l ls h) (λ b ms k. each_repeated P n test step each b ms k))
    h

-- the number of invariants among members
abbrev count : List Declaration → ℕ
count all = length (flat_map invariants_of all)

-- so many are allowed among members
abbrev most : Bool → ℕ
most true = 1
most false = 0

count_more : (all more : List Declaration) → count (all ++ more) ≡ count all + count more
count_more all more =
    ap length (flat_map-append invariants_of all more) ∙ length-append (flat_map invariants_of all) (flat_map invariants_of more)

fits : (all : List Condition) (n : ℕ) → length all ≤ 1 → n ≤ most (is_empty all) → length all + n ≤ 1
fits [] n few h =
    let bound : n ≤ 1 = h in
    omega (arith, bound)
fits (holds ∷ all) n few h =
    let bound : n ≤ 0 = h in
    omega (arith, few, bound)

more_fit : (all more : List Declaration) → count all ≤ 1 → count more ≤ most (none_yet all) → count (all ++ more) ≤ 1
more_fit all more few h =
    let whole : count all + count more ≤ 1 = fits (flat_map invariants_of all) (count more) few h in
    let sum : count (all ++ more) ≡ count all + count more = count_more all more in
    omega (arith, whole, sum)

least : (n : ℕ) → 0 ≤ n
least n = omega arith

one_fits : 1 ≤ 1
one_fits = omega arith

-- one invariant at most is among the members of a class
abbrev pub Single : Written → Type 0
Single w = length (flat_map invariants_of w.members) ≤ 1

-- the same of the class that is there, if one is
pub data Singles : List Written → Type 0 where
  no_class : Singles []
  one_class : {w : Written} → Single w → Singles (w ∷ [])

module _ (t : Tokens) where
  -- all ASTs that a form reads have the property
  record Yields {A : Type 0} (P : A → Type 0) (form : Form A) : Type 0 where
    each : (ls : List Lexeme) → Each P (at_level t form ls)

  yields_refuse : {A : Type 0} {P : A → Type 0} → Yields P refuse
  yields_refuse = record { each = λ ls. tt }

  yields_give : {A : Type 0} {P : A → Type 0} (a : A) → P a → Yields P (give a)
  yields_give a h = record { each = λ ls. h }

  shift_each : {A : Type 0} (P : A → Type 0) (test : Lexeme → Bool) (go : Lexeme → Form A) (other : Form A)
      → ((l : Lexeme) → Yields P (go l)) → Yields P other
      → (ls : List Lexeme) → Each P (at_level t (shift test go other) ls)
  shift_each P test go other h k [] = k.each []
  shift_each P test go other h k (l ∷ ls) =
      each_cond P (test l) (at_level t (go l) ls) (at_level t other (l ∷ ls)) ((h l).each ls) (k.each (l ∷ ls))

  yields_shift : {A : Type 0} {P : A → Type 0} (test : Lexeme → Bool) (go : Lexeme → Form A) (other : Form A)
      → ((l : Lexeme) → Yields P (go l)) → Yields P other
      → Yields P (shift test go other)
  yields_shift {P = P} test go other h k = record { each = λ ls. shift_each P test go other h k ls }

  either_each : {A : Type 0} (P : A → Type 0) (one other : Form A) → Yields P one → Yields P other → (ls : List Lexeme)
      → Each P (at_level t (either one other) ls)
  either_each P one other h k [] = k.each []
  either_each P one other h k (l ∷ ls) =
      each_cond P (opens one l) (at_level t one (l ∷ ls)) (at_level t other (l ∷ ls)) (h.each (l ∷ ls)) (k.each (l ∷ ls))

  yields_either : {A : Type 0} {P : A → Type 0} (one other : Form A) → Yields P one → Yields P other → Yields P (either one other)
  yields_either {P = P} one other h k = record { each = λ ls. either_each P one other h k ls }

  yields_follow : {A B : Type 0} (Q : A → Type 0) {P : B → Type 0} (first : Form A) (next : A → Form B) → Yields Q first
      → ((a : A) → Q a → Yields P (next a))
      → Yields P (follow first next)
  yields_follow Q {P = P} first next h k = record {
    each = λ ls. each_behind Q P (λ a. at_level t (next a)) (at_level t first ls) (h.each ls) (λ a ms q. (k a q).each ms);
  }

  -- any AST
  abbrev Any : {A : Type 0} → A → Type 0
  Any a = Unit {0}

  any_each : {A : Type 0} (v : Reading A) → Each Any v
  any_each (Read a rest) = tt
  any_each (Refused rest) = tt

  any : {A : Type 0} (form : Form A) → Yields Any form
  any form = record { each = λ ls. any_each (at_level t form ls) }

  yields_behind : {A B : Type 0} {P : B → Type 0} (first : Form A) (next : A → Form B) → ((a : A) → Yields P (next a))
      → Yields P (follow first next)
  yields_behind first next k = yields_follow Any first next (any first) (λ a q. k a)

  yields_make : {A B : Type 0} {P : B → Type 0} (f : A → B) (form : Form A) → ((a : A) → P (f a)) → Yields P (make f form)
  yields_make f form h = yields_behind form (λ a. give (f a)) (λ a. yields_give (f a) (h a))

  yields_repeat : {A : Type 0} {P : A → Type 0} (test : Lexeme → Bool) (step : A → Lexeme → Form A) (start : A) → P start
      → ((a : A) (l : Lexeme) → P a → Yields P (step a l))
      → Yields P (repeat test step start)
  yields_repeat {P = P} test step start h k = record {
    each = λ ls. each_repeated P (suc (level t)) test (λ tree l. at_level t (step tree l)) (λ a l ms q. (k a l q).each ms) start ls h;
  }

  yields_until : {A : Type 0} (P : A → Type 0) (w : Word) (form : Form A) → Yields P form → Yields P (until_word w form)
  yields_until P w form h = yields_follow P form _ h (λ a q. yields_shift _ _ refuse (λ l. yields_give a q) yields_refuse)

  -- ---- members

  -- so many invariants at most
  abbrev Few : Bool → Declaration → Type 0
  Few invariants m = count (m ∷ []) ≤ most invariants

  declared_few : (b : Bool) (access : Access) (other : Form Declaration) → Yields (Few b) other → Yields (Few b) (declared_or access other)
  unfolding declared_or
  declared_few b access other h =
      yields_shift _ _ _ (λ l. yields_make _ _ (λ a. least (most b))) (yields_shift _ _ _ (λ l. yields_make _ _ (λ a. least (most b))) h)

  routine_few : (b : Bool) (class : Enclosing) (access : Access) → Yields (Few b) (routine_form class access)
  unfolding routine_form
  routine_few b class access = yields_behind _ _ (λ sig. yields_behind _ _ (λ clauses. yields_make _ _ (λ body. least (most b))))

  builtin_few : (b : Bool) (file_kind : FileKind) (name : List ℕ) (access : Access) (other : Form Declaration) → Yields (Few b) other
      → Yields (Few b) (builtin_or file_kind name access other)
  unfolding builtin_or
  builtin_few b Prelude name access other h = yields_shift _ _ _ (λ l. yields_make _ _ (λ sig. least (most b))) h
  builtin_few b Program name access other h = h

  stub_few : (b : Bool) (kind : ClassKind) (access : Access) (other : Form Declaration) → Yields (Few b) other
      → Yields (Few b) (stub_or kind access other)
  unfolding stub_or
  stub_few b Partial access other h = yields_shift _ _ _ (λ l. yields_make _ _ (λ sig. least (most b))) h
  stub_few b Reference access other h = h
  stub_few b Immutable access other h = h
  stub_few b Abstract access other h = h

  include_few : (b : Bool) (private : Bool) → Yields (Few b) (include_form private)
  unfolding include_form
  include_few b private = yields_behind _ _ (λ one. yields_make _ _ (λ changes. least (most b)))

  open_few : (b : Bool) (class : Enclosing) (access : Access) → Yields (Few b) (open_form class access)
  unfolding open_form
  open_few b class access =
      declared_few b access _
      (yields_shift _ _ _ (λ l. yields_make _ _ (λ a. least (most b)))
      (yields_shift _ _ _ (λ l. include_few b _)
      (stub_few b class.kind access _ (builtin_few b class.file_kind class.name access _ (routine_few b class access)))))

  invariant_few : (file_kind : FileKind) (b : Bool) (other : Form Declaration) → Yields (Few b) other
      → Yields (Few b) (invariant_or file_kind b other)
  unfolding invariant_or
  invariant_few Program true other h = yields_shift _ _ _ (λ l. yields_make _ _ (λ holds. one_fits)) h
  invariant_few Program false other h = h
  invariant_few Prelude true other h = h
  invariant_few Prelude false other h = h

  member_few : (class : Enclosing) (b : Bool) → Yields (Few b) (member_form class b)
  unfolding member_form
  member_few class b =
      yields_shift _ _ _ (λ l. open_few b class _)
      (yields_shift _ _ _ (λ l. declared_few b _ _ yields_refuse) (invariant_few class.file_kind b _ (open_few b class _)))

  -- of members so many invariants at most
  abbrev Fits : Bool → List Declaration → Type 0
  Fits b all = count all ≤ most b

  optional_few : (class : Enclosing) (b : Bool) → Yields (Fits b) (optional_member_form class b)
  unfolding optional_member_form
  optional_few class b =
      yields_either _ _ (yields_follow (Few b) (member_form class b) _ (member_few class b) (λ m few. yields_give (m ∷ []) few))
      (yields_give [] (least (most b)))

  members_few : (class : Enclosing) → Yields (Fits true) (members_form class)
  unfolding members_form
  members_few class =
      yields_follow (Fits true) (optional_member_form class true) _ (optional_few class true)
      (λ all few. yields_repeat _ _ all few
      (λ so_far l k. yields_follow (Fits (none_yet so_far)) (optional_member_form class (none_yet so_far)) _
      (optional_few class (none_yet so_far))
      (λ more h. yields_give (so_far ++ more) (more_fit so_far more k h))))

  -- ---- classes

  abstract_few : Yields Single abstract_form
  unfolding abstract_form
  abstract_few =
      yields_shift _ _ _
      (λ l. yields_behind _ _ (λ head. yields_shift _ _ _ (λ l. yields_make _ _ (λ features. least 1)) yields_refuse))
      yields_refuse

  concrete_few : (file_kind : FileKind) (kind : ClassKind) → Yields Single (concrete_form file_kind kind)
  unfolding concrete_form
  concrete_few file_kind kind =
      yields_shift _ _ _
      (λ l. yields_behind _ _
      (λ head. yields_shift _ _ _
      (λ l. yields_follow (Fits true) _ _ (yields_until (Fits true) word.End _ (members_few _)) (λ members few. yields_give _ few))
      yields_refuse)) yields_refuse

  class_few : (file_kind : FileKind) → Yields Single (class_form file_kind)
  unfolding class_form
  class_few file_kind =
      yields_shift _ _ _ (λ l. abstract_few)
      (yields_shift _ _ _ (λ l. concrete_few file_kind Immutable)
      (yields_shift _ _ _ (λ l. concrete_few file_kind Partial) (concrete_few file_kind Reference)))

  optional_class_few : (file_kind : FileKind) → Yields Singles (optional_class_form file_kind)
  unfolding optional_class_form
  optional_class_few file_kind =
      yields_either _ _
      (yields_follow Single (class_form file_kind) _ (class_few file_kind) (λ w few. yields_give (w ∷ []) (one_class few)))
      (yields_give [] no_class)

  pub singles : (file_kind : FileKind) (from next : ℕ) (all : List Written) → Takes (optional_class_form file_kind) t from all next
      → Singles all
  singles file_kind from next all h = rw (taken t h).is at ((optional_class_few file_kind).each (lexemes_from t from))
