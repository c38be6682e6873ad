-- Classes and what is in them, as their forms read them: a lemma for each alternative that a reader decides by the token that is
-- there.
use Rattle.std.proofs.Common.{◌≡◌, ◌≢◌, ℕ, ◌+◌, Bool, true, false, ◌||◌, List, [], ◌∷◌, ◌++◌, map, Option, Some, None, Result, Ok, Err}
use Rattle.std.proofs.Common.{refl, sym, ap, ◌∙◌}
use Rattle.std.proofs.lemmas.List.{append-nil}
use Rattle.sa_lexer.specs.declared.token.TokenKind.{TokenKind}
use Rattle.sa_lexer.specs.declared.token.TokenKind.TheVariants as token
use Rattle.sa_lexer.specs.declared.sign.Sign.TheVariants as sign
use Rattle.sa_lexer.specs.declared.word.Word.{Word}
use Rattle.sa_lexer.specs.declared.word.Word.TheVariants as word
use Rattle.sa_ast.specs.declared.refusal.Rejection.{Rejection}
use Rattle.sa_ast.specs.declared.class.Access.TheVariants.{Public}
use Rattle.sa_ast.specs.declared.class.ClassKind.{ClassKind}
use Rattle.sa_ast.specs.declared.class.ClassKind.TheVariants.{Abstract}
use Rattle.sa_ast.specs.declared.class.FeatureBody.TheVariants as part
use Rattle.sa_ast.specs.declared.class.Feature.{Feature}
use Rattle.sa_parser_expr.specs.declared.tokens.Tokens.{Tokens}
use Rattle.sa_parser_expr.specs.Exactly.{lexemes_from, Takes, ReadsAs}
use Rattle.sa_parser_expr.specs.Forms.{Form, refuse, shift, follow, make, until_word, opens}
use Rattle.sa_parser_expr.specs.Lexemes.{Lexeme, lexeme_at}
use Rattle.sa_parser_expr.specs.Positions.{kind_at, unexpected_at}
use Rattle.sa_parser_expr.specs.Readings.{Reading, Read, Refused}
use Rattle.sa_parser_expr.specs.Tests.{is_sign, is_word, is_feature}
use Rattle.sa_parser_expr.proofs.Openings.{opened_read, opened_refused}
use Rattle.sa_parser_expr.proofs.Runs.{Runs, taken, takes, handed_on, refused_at, gives, refused, met, not_met, another, follows, stops}
use Rattle.sa_parser_expr.proofs.Runs.{makes, first_one, second_one, meets_by, shut_by, shut_sign, shut_word}
use Rattle.sa_parser_expr.proofs.Shifts.{Shut}
use Rattle.sa_parser_expr.proofs.Tested.{sign_is, word_is, lexeme}
use Rattle.sa_parser.specs.declared.class.Head.{Head}
use Rattle.sa_parser.specs.declared.class.ClassBody.{ClassBody}
use Rattle.sa_parser.specs.declared.class.WholeClass.{WholeClass}
use Rattle.sa_parser.specs.declared.file.FileKind.{FileKind}
use Rattle.sa_parser.specs.declared.member.Declaration.{Declaration}
use Rattle.sa_parser.specs.ClassForms.{optional_sig_form, signatures_form, signatures_inside_form, members_form, members_inside_form}
use Rattle.sa_parser.specs.ClassForms.{abstract_head_form, concrete_head_form}
use Rattle.sa_parser.specs.ClassForms.{abstract_form, KindAt, immutable_there, partial_there, no_word, concrete_form, concrete_class_form}
use Rattle.sa_parser.specs.ClassForms.{class_form, optional_class_form}
use Rattle.sa_parser.specs.Classes.{Written, class_body_of, signed, whole_with, whole_of}
use Rattle.sa_parser.specs.Features.{Enclosing, feature_of}
use Rattle.sa_parser.specs.MappedReads.{TakesMade, ReadsMade}
use Rattle.sa_parser.specs.SignatureForms.{sig_form}
use Rattle.sa_parser.specs.Starts.{begins_class}
use Rattle.sa_parser.proofs.ExactBodies.{Joins, first_joined, next_joined, all_joined, first_join_refused, next_join_refused}

also_shut : (test other : Lexeme → Bool) → ((l : Lexeme) → test l ≡ false → other l ≡ false) → (ls : List Lexeme) → Shut test ls
    → Shut other ls
also_shut test other each [] h = tt
also_shut test other each (l ∷ ls) h = each l h

-- ---- what opens the form of classes

word_opens : (file_kind : FileKind) (w : Word) → opens (class_form file_kind) (lexeme (token.Word w)) ≡ begins_class (Some (token.Word w))
unfolding class_form concrete_form
word_opens file_kind word.And = refl
word_opens file_kind _ = refl

kind_opens : (file_kind : FileKind) (k : TokenKind) → opens (class_form file_kind) (lexeme k) ≡ begins_class (Some k)
unfolding class_form concrete_form
kind_opens file_kind (token.Word w) = word_opens file_kind w
kind_opens file_kind _ = refl

class_opens : (file_kind : FileKind) (l : Lexeme) → opens (class_form file_kind) l ≡ begins_class (Some l.kind)
unfolding class_form concrete_form
class_opens file_kind l = kind_opens file_kind l.kind

some_begins : (found : Option TokenKind) → begins_class found ≡ true → (kind : TokenKind) × (found ≡ Some kind)
some_begins None begins = absurd (cc)
some_begins (Some kind) begins = (kind, refl)

whole_signed : (place : ℕ) (head : Head) (features : List Feature)
    → whole_with Abstract head (signed features)
    ≡ whole_of place (record { kind = Abstract; head = head; signatures = features; members = [] })
whole_signed place head features = ap (λ all. whole_with Abstract head (signed all)) (sym (append-nil features))

module _ (t : Tokens) where
  -- ---- what is made of what was read

  pub made_on : {A B C : Type 0} {form : Form B} (made_of : B → C) {from : ℕ} {r : Result (C × ℕ) Rejection}
      (part : Form A) (mid : ℕ) (e : Rejection) → r ≡ Err e
      → ReadsAs part t mid (Err e) → ((rest : List Lexeme) → Runs t part mid (Refused rest) → Runs t form from (Refused rest))
      → ReadsMade form made_of t from r
  made_on made_of part mid e is h step = rw is (handed_on t part mid e refl h step)

  pub made_refused_at : {A B : Type 0} {form : Form A} (made_of : A → B) {from : ℕ} {r : Result (B × ℕ) Rejection}
      (at : ℕ) (e : Rejection) → r ≡ Err e
      → e ≡ unexpected_at t.file t.src.now t.list.now at → Runs t form from (Refused (lexemes_from t at)) → ReadsMade form made_of t from r
  made_refused_at made_of at e is there r = rw is (refused_at t at e refl there r)

  -- ---- signatures

  pub sig_there : (at : ℕ) (kind : TokenKind) → kind_at t.list.now at ≡ Some kind → is_feature (lexeme_at t at kind) ≡ true
      → {v : Reading (List Feature)}
      → Runs t (make (λ sig. feature_of sig Public part.Signature ∷ []) sig_form) at v → Runs t optional_sig_form at v
  unfolding optional_sig_form sig_form
  sig_there at kind there h r = first_one t (meets_by t (opens sig_form) at kind there (ap (λ b. b || false) h)) r

  pub no_sig : (at : ℕ) → Shut is_feature (lexemes_from t at) → Takes optional_sig_form t at [] at
  unfolding optional_sig_form sig_form
  no_sig at shut =
      takes t
      (second_one t (also_shut is_feature (opens sig_form) (λ l none. ap (λ b. b || false) none) (lexemes_from t at) shut) (gives t))

  -- the features that were read up to an index
  abbrev pub SignaturesRead : ℕ → List Feature → ℕ → Type 0
  SignaturesRead from features next = Joins t (is_sign sign.Semicolon) optional_sig_form from features next

  pub first_signature : (from next : ℕ) (one features : List Feature) → Takes optional_sig_form t from one next → features ≡ one
      → SignaturesRead from features next
  first_signature from next one features first same =
      first_joined t (is_sign sign.Semicolon) optional_sig_form from next one features first same

  pub next_signature : (from mid next : ℕ) (features one whole : List Feature) → SignaturesRead from features mid
      → kind_at t.list.now mid ≡ Some (token.Sign sign.Semicolon)
      → Takes optional_sig_form t (mid + 1) one next → whole ≡ features ++ one → SignaturesRead from whole next
  next_signature from mid next features one whole so_far semicolon second pushed =
      next_joined t (is_sign sign.Semicolon) optional_sig_form from mid next features one whole so_far
      (token.Sign sign.Semicolon) semicolon (sign_is sign.Semicolon) second pushed

  pub all_signatures : (from next : ℕ) (features whole : List Feature) → SignaturesRead from features next
      → kind_at t.list.now next ≢ Some (token.Sign sign.Semicolon)
      → whole ≡ features → Takes signatures_form t from whole next
  unfolding signatures_form
  all_signatures from next features whole so_far other same =
      takes t
      (all_joined t (is_sign sign.Semicolon) optional_sig_form from next features whole so_far (shut_sign t sign.Semicolon next other) same)

  pub first_refused : (from : ℕ) {rest : List Lexeme} → Runs t optional_sig_form from (Refused rest)
      → Runs t signatures_form from (Refused rest)
  unfolding signatures_form
  first_refused from r = first_join_refused t (is_sign sign.Semicolon) optional_sig_form from r

  pub next_refused : (from mid : ℕ) (features : List Feature) {rest : List Lexeme} → SignaturesRead from features mid
      → kind_at t.list.now mid ≡ Some (token.Sign sign.Semicolon)
      → Runs t optional_sig_form (mid + 1) (Refused rest) → Runs t signatures_form from (Refused rest)
  unfolding signatures_form
  next_refused from mid features so_far semicolon r =
      next_join_refused t (is_sign sign.Semicolon) optional_sig_form from mid features so_far
      (token.Sign sign.Semicolon) semicolon (sign_is sign.Semicolon) r

  -- ---- what comes between the `is` and the `end`

  -- "is", and a form up to the "end"
  abbrev pub inside_form : {A : Type 0} → Form A → Form A
  inside_form form = shift (is_word word.Is) (λ _. until_word word.End form) refuse

  pub behind_is : {A : Type 0} (form : Form A) (at : ℕ) → kind_at t.list.now at ≡ Some (token.Word word.Is) → {v : Reading A}
      → Runs t (until_word word.End form) (at + 1) v → Runs t (inside_form form) at v
  behind_is form at there r = met t (token.Word word.Is) there (word_is word.Is) r

  pub no_is : {A : Type 0} (form : Form A) (at : ℕ) → kind_at t.list.now at ≢ Some (token.Word word.Is)
      → Runs t (inside_form form) at (Refused (lexemes_from t at))
  no_is form at other = not_met t (shut_word t word.Is at other) (refused t)

  -- the same with something made of what is read
  made_inside : {A B : Type 0} (form : Form A) (f : A → B) (at next : ℕ) (a : A) → Takes (inside_form form) t at a next
      → Runs t (shift (is_word word.Is) (λ _. make f (until_word word.End form)) refuse) at (Read (f a) (lexemes_from t next))
  made_inside form f at next a h =
      let opened = opened_read t {test = is_word word.Is} {go = λ _. until_word word.End form} (taken t h) in
      met t opened.first.kind opened.first.there opened.first.met (makes t next opened.rest)

  inside_refused : {A B : Type 0} (form : Form A) (f : A → B) (at : ℕ) {rest : List Lexeme} → Runs t (inside_form form) at (Refused rest)
      → Runs t (shift (is_word word.Is) (λ _. make f (until_word word.End form)) refuse) at (Refused rest)
  inside_refused form f at r = opened_refused t {test = is_word word.Is} {go = λ _. until_word word.End form} (λ s k. stops t k) r

  -- ---- abstract classes

  -- the class of this head and these signatures
  abbrev pub of_signatures : Head → List Feature → Written
  of_signatures head features = record { kind = Abstract; head = head; signatures = features; members = [] }

  abbrev behind_abstract : Head → Form Written
  behind_abstract head = shift (is_word word.Is) (λ _. make (of_signatures head) (until_word word.End signatures_form)) refuse

  pub abstract_there : (at : ℕ) → kind_at t.list.now at ≡ Some (token.Word word.Class) → {v : Reading Written}
      → Runs t (follow abstract_head_form (λ head. behind_abstract head)) (at + 1) v
      → Runs t abstract_form at v
  unfolding abstract_form
  abstract_there at there r = met t (token.Word word.Class) there (word_is word.Class) r

  pub no_abstract : (at : ℕ) → kind_at t.list.now at ≢ Some (token.Word word.Class) → Runs t abstract_form at (Refused (lexemes_from t at))
  unfolding abstract_form
  no_abstract at other = not_met t (shut_word t word.Class at other) (refused t)

  pub abstract_head_refused : (at : ℕ) → kind_at t.list.now at ≡ Some (token.Word word.Class) → {rest : List Lexeme}
      → Runs t abstract_head_form (at + 1) (Refused rest)
      → Runs t abstract_form at (Refused rest)
  abstract_head_refused at there r = abstract_there at there (stops t r)

  pub abstract_inside_refused : (at mid : ℕ) (head : Head) → kind_at t.list.now at ≡ Some (token.Word word.Class)
      → Takes abstract_head_form t (at + 1) head mid
      → {rest : List Lexeme} → Runs t signatures_inside_form mid (Refused rest) → Runs t abstract_form at (Refused rest)
  abstract_inside_refused at mid head there first r =
      abstract_there at there (follows t (taken t first) (inside_refused signatures_form (of_signatures head) mid r))

  pub abstract_class : (place at mid next : ℕ) (head : Head) (inside : ClassBody) (whole : WholeClass)
      → kind_at t.list.now at ≡ Some (token.Word word.Class)
      → Takes abstract_head_form t (at + 1) head mid → TakesMade signatures_inside_form signed t mid inside next
      → whole ≡ whole_with Abstract head inside
      → TakesMade abstract_form (whole_of place) t at whole next
  abstract_class place at mid next head inside whole there first second made = record {
    written = of_signatures head second.written;
    taken = takes t
        (abstract_there at there
        (follows t (taken t first) (made_inside signatures_form (of_signatures head) mid next second.written second.taken)));
    same = made ∙ ap (whole_with Abstract head) second.same ∙ whole_signed place head second.written;
  }

  -- ---- concrete classes

  -- the class of this kind, this head and these members
  abbrev pub of_members : ClassKind → Head → List Declaration → Written
  of_members kind head members = record { kind = kind; head = head; signatures = []; members = members }

  -- the class that has the members
  abbrev pub around : FileKind → ClassKind → Head → Enclosing
  around file_kind kind head = record { name = head.name.name; kind = kind; file_kind = file_kind }

  abbrev behind_concrete : FileKind → ClassKind → Head → Form Written
  behind_concrete file_kind kind head =
      shift (is_word word.Is) (λ _. make (of_members kind head) (until_word word.End (members_form (around file_kind kind head)))) refuse

  pub concrete_there : (file_kind : FileKind) (kind : ClassKind) (at : ℕ) → kind_at t.list.now at ≡ Some (token.Word word.Class)
      → {v : Reading Written}
      → Runs t (follow concrete_head_form (λ head. behind_concrete file_kind kind head)) (at + 1) v
      → Runs t (concrete_form file_kind kind) at v
  unfolding concrete_form
  concrete_there file_kind kind at there r = met t (token.Word word.Class) there (word_is word.Class) r

  pub no_concrete : (file_kind : FileKind) (kind : ClassKind) (at : ℕ) → kind_at t.list.now at ≢ Some (token.Word word.Class)
      → Runs t (concrete_form file_kind kind) at (Refused (lexemes_from t at))
  unfolding concrete_form
  no_concrete file_kind kind at other = not_met t (shut_word t word.Class at other) (refused t)

  pub concrete_head_refused : (file_kind : FileKind) (kind : ClassKind) (at : ℕ) → kind_at t.list.now at ≡ Some (token.Word word.Class)
      → {rest : List Lexeme}
      → Runs t concrete_head_form (at + 1) (Refused rest) → Runs t (concrete_form file_kind kind) at (Refused rest)
  concrete_head_refused file_kind kind at there r = concrete_there file_kind kind at there (stops t r)

  pub concrete_inside_refused : (file_kind : FileKind) (kind : ClassKind) (at mid : ℕ) (head : Head)
      → kind_at t.list.now at ≡ Some (token.Word word.Class)
      → Takes concrete_head_form t (at + 1) head mid → {rest : List Lexeme}
      → Runs t (members_inside_form (around file_kind kind head)) mid (Refused rest)
      → Runs t (concrete_form file_kind kind) at (Refused rest)
  concrete_inside_refused file_kind kind at mid head there first r =
      concrete_there file_kind kind at there
      (follows t (taken t first) (inside_refused (members_form (around file_kind kind head)) (of_members kind head) mid r))

  -- after the word of a kind, or where there is none
  pub behind_kind : (file_kind : FileKind) (from mid : ℕ) (kind : ClassKind) → KindAt t.list.now from kind mid → {v : Reading Written}
      → Runs t (concrete_form file_kind kind) mid v → Runs t (concrete_class_form file_kind) from v
  behind_kind file_kind from _ _ (immutable_there there) r = met t (token.Word word.Immutable) there refl r
  behind_kind file_kind from _ _ (partial_there there) r =
      another t (token.Word word.Partial) there refl (met t (token.Word word.Partial) there refl r)
  behind_kind file_kind from _ _ (no_word one other) r =
      not_met t (shut_word t word.Immutable from one) (not_met t (shut_word t word.Partial from other) r)

  pub concrete_class : (file_kind : FileKind) (place from at mid next : ℕ) (kind : ClassKind) (head : Head) (inside : ClassBody)
      (whole : WholeClass)
      → KindAt t.list.now from kind at → kind_at t.list.now at ≡ Some (token.Word word.Class) → Takes concrete_head_form t (at + 1) head mid
      → TakesMade (members_inside_form (around file_kind kind head)) (class_body_of place) t mid inside next
      → whole ≡ whole_with kind head inside
      → TakesMade (concrete_class_form file_kind) (whole_of place) t from whole next
  concrete_class file_kind place from at mid next kind head inside whole reported there first second made = record {
    written = of_members kind head second.written;
    taken = takes t
        (behind_kind file_kind from at kind reported
        (concrete_there file_kind kind at there
        (follows t (taken t first)
        (made_inside (members_form (around file_kind kind head)) (of_members kind head) mid next second.written second.taken))));
    same = made ∙ ap (whole_with kind head) second.same;
  }

  -- ---- classes

  pub of_abstract : (file_kind : FileKind) (at : ℕ) → kind_at t.list.now at ≡ Some (token.Word word.Abstract) → {v : Reading Written}
      → Runs t abstract_form (at + 1) v
      → Runs t (class_form file_kind) at v
  unfolding class_form
  of_abstract file_kind at there r = met t (token.Word word.Abstract) there (word_is word.Abstract) r

  pub of_concrete : (file_kind : FileKind) (at : ℕ) → kind_at t.list.now at ≢ Some (token.Word word.Abstract) → {v : Reading Written}
      → Runs t (concrete_class_form file_kind) at v
      → Runs t (class_form file_kind) at v
  unfolding class_form
  of_concrete file_kind at other r = not_met t (shut_word t word.Abstract at other) r

  -- what is made of what one form reads is made of what another one reads, if what runs as it does
  pub made_instead : {A B : Type 0} {form other : Form A} (made_of : A → B) {at from : ℕ}
      → ((v : Reading A) → Runs t form at v → Runs t other from v)
      → (r : Result (B × ℕ) Rejection) → ReadsMade form made_of t at r → ReadsMade other made_of t from r
  made_instead made_of step (Ok read) h = record { written = h.written; taken = takes t (step _ (taken t h.taken)); same = h.same }
  made_instead {form = form} made_of {at = at} step (Err e) h = handed_on t form at e refl h (λ rest r. step (Refused rest) r)

  pub class_there : (file_kind : FileKind) (at : ℕ) → begins_class (kind_at t.list.now at) ≡ true → {v : Reading (List Written)}
      → Runs t (make (λ c. c ∷ []) (class_form file_kind)) at v → Runs t (optional_class_form file_kind) at v
  unfolding optional_class_form
  class_there file_kind at begins r =
      let there = some_begins (kind_at t.list.now at) begins in
      first_one t
      (meets_by t (opens (class_form file_kind)) at there.0 there.1
      (class_opens file_kind (lexeme_at t at there.0) ∙ ap begins_class (sym there.1) ∙ begins))
      r

  pub no_class : (file_kind : FileKind) (at : ℕ) → begins_class (kind_at t.list.now at) ≡ false
      → Takes (optional_class_form file_kind) t at [] at
  unfolding optional_class_form
  no_class file_kind at none =
      takes t
      (second_one t
      (shut_by t (opens (class_form file_kind)) at
      (λ kind there. class_opens file_kind (lexeme_at t at kind) ∙ ap begins_class (sym there) ∙ none))
      (gives t))

  pub one_class : (file_kind : FileKind) (place at next : ℕ) (whole : WholeClass) → begins_class (kind_at t.list.now at) ≡ true
      → TakesMade (class_form file_kind) (whole_of place) t at whole next
      → TakesMade (optional_class_form file_kind) (λ written. map (whole_of place) written) t at (whole ∷ []) next
  one_class file_kind place at next whole begins h = record {
    written = h.written ∷ [];
    taken = takes t (class_there file_kind at begins (makes t next (taken t h.taken)));
    same = ap (λ one. one ∷ []) h.same;
  }
