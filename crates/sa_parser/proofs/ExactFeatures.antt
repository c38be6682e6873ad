-- Features and other members of classes, as their forms read them: a lemma for each alternative that a reader decides by the token that
-- is there.
use Rattle.std.proofs.Common.{◌≡◌, ◌≢◌, ℕ, ◌+◌, Bool, true, false, List, Some, Ok, Err, Result, ◌⊎◌, inl, inr, refl, sym, ap, ◌∙◌}
use Rattle.sa_lexer.specs.declared.token.TokenKind.TheVariants as token
use Rattle.sa_lexer.specs.declared.word.Word.{Word}
use Rattle.sa_lexer.specs.declared.word.Word.TheVariants as word
use Rattle.sa_ast.specs.declared.refusal.Rejection.{Rejection}
use Rattle.sa_ast.specs.declared.stmt.Stmt.{Stmt}
use Rattle.sa_ast.specs.declared.class.Access.{Access}
use Rattle.sa_ast.specs.declared.class.Access.TheVariants.{Public, Private, ReadOnly}
use Rattle.sa_ast.specs.declared.class.ClassKind.{ClassKind}
use Rattle.sa_ast.specs.declared.class.ClassKind.TheVariants.{Reference, Immutable, Abstract, Partial}
use Rattle.sa_ast.specs.declared.class.FeatureBody.TheVariants as part
use Rattle.sa_ast.specs.declared.class.Feature.{Feature}
use Rattle.sa_parser_expr.specs.declared.tokens.Tokens.{Tokens}
use Rattle.sa_parser_expr.specs.Exactly.{lexemes_from, map_value, Takes, ReadsAs}
use Rattle.sa_parser_expr.specs.Forms.{Form, refuse, shift, follow, make, nest, stmts, until_word}
use Rattle.sa_parser_expr.specs.Lexemes.{Lexeme}
use Rattle.sa_parser_expr.specs.Positions.{kind_at}
use Rattle.sa_parser_expr.specs.Readings.{Reading, Refused}
use Rattle.sa_parser_expr.specs.StatementForms.{body_form}
use Rattle.sa_parser_expr.specs.Tests.{is_word}
use Rattle.sa_parser_expr.proofs.Openings.{opened_read, opened_refused, runs, word_closed, word_unclosed}
use Rattle.sa_parser_expr.proofs.Runs.{Runs, taken, takes, refused, met, not_met, another, follows, stops, makes, handed_on, shut_word}
use Rattle.sa_parser_expr.proofs.Tested.{word_is}
use Rattle.sa_parser.specs.declared.file.FileKind.{FileKind}
use Rattle.sa_parser.specs.declared.file.FileKind.TheVariants.{Prelude, Program}
use Rattle.sa_parser.specs.declared.contract.Clauses.{Clauses}
use Rattle.sa_parser.specs.declared.signature.HeaderSignature.{HeaderSignature}
use Rattle.sa_parser.specs.declared.member.Declaration.{Declaration}
use Rattle.sa_parser.specs.declared.member.Declaration.TheVariants as member
use Rattle.sa_parser.specs.Conditions.{no_clauses}
use Rattle.sa_parser.specs.ConditionForms.{clauses_form, holding_form}
use Rattle.sa_parser.specs.Features.{Enclosing, feature_of}
use Rattle.sa_parser.specs.FeatureForms.{IsAllowed, is_private, include_form, attr_form, shared_form, constants_form, declared_or}
use Rattle.sa_parser.specs.FeatureForms.{whole_body_form, routine_form}
use Rattle.sa_parser.specs.FeatureForms.{stub_or, builtin_form, builtin_or, called_form, open_form, invariant_or, member_form}
use Rattle.sa_parser.specs.SignatureForms.{sig_form}

module _ (t : Tokens) where
  -- what is read as one form is made into what another one reads
  pub made : {A B : Type 0} {form : Form A} {other : Form B} {at from : ℕ} (f : A → B)
      → ((v : Reading B) → Runs t (make f form) at v → Runs t other from v)
      → (r : Result (A × ℕ) Rejection) → ReadsAs form t at r → ReadsAs other t from (map_value f r)
  made f step (Ok read) h = takes t (step _ (makes t read.1 (taken t h)))
  made {form = form} {at = at} f step (Err e) h = handed_on t form at e refl h (λ rest r. step (Refused rest) (stops t r))

  -- ---- whole bodies

  pub whole_body : (from mid : ℕ) (list : List Stmt) → Takes (body_form word.Is) t from list mid
      → kind_at t.list.now mid ≡ Some (token.Word word.End)
      → Takes whole_body_form t from list (mid + 1)
  unfolding body_form whole_body_form
  whole_body from mid list h closes =
      let opened = opened_read t {test = is_word word.Is} {go = λ _. nest stmts} (taken t h) in
      takes t (met t opened.first.kind opened.first.there opened.first.met (word_closed t mid opened.rest closes))

  pub no_end : (from mid : ℕ) (list : List Stmt) → Takes (body_form word.Is) t from list mid
      → kind_at t.list.now mid ≢ Some (token.Word word.End)
      → Runs t whole_body_form from (Refused (lexemes_from t mid))
  unfolding body_form whole_body_form
  no_end from mid list h other =
      let opened = opened_read t {test = is_word word.Is} {go = λ _. nest stmts} (taken t h) in
      met t opened.first.kind opened.first.there opened.first.met (word_unclosed t mid opened.rest other)

  pub no_body : (from : ℕ) {rest : List Lexeme} → Runs t (body_form word.Is) from (Refused rest)
      → Runs t whole_body_form from (Refused rest)
  unfolding body_form whole_body_form
  no_body from r =
      opened_refused t {test = is_word word.Is} {go = λ _. nest stmts} {other = λ _. until_word word.End (nest stmts)} (λ s k. stops t k) r

  -- ---- routines, stubs and built-in features

  -- what is after the signature of a routine, and after its clauses
  abbrev pub behind_clauses : Access → HeaderSignature → Clauses → Form Declaration
  behind_clauses access sig clauses = make (λ body. member.Called (feature_of sig access (part.Routine body)) clauses) whole_body_form

  abbrev pub behind_sig : Enclosing → Access → HeaderSignature → Form Declaration
  behind_sig class access sig = follow (clauses_form class.file_kind) (λ clauses. behind_clauses access sig clauses)

  pub as_routine : (class : Enclosing) (access : Access) {from : ℕ} {v : Reading Declaration}
      → Runs t (follow sig_form (λ sig. behind_sig class access sig)) from v
      → Runs t (routine_form class access) from v
  unfolding routine_form
  as_routine class access r = r

  pub routine : (class : Enclosing) (access : Access) (from mid third next : ℕ) (sig : HeaderSignature) (clauses : Clauses) (body : List Stmt)
      (feature : Feature)
      → Takes sig_form t from sig mid → Takes (clauses_form class.file_kind) t mid clauses third → Takes whole_body_form t third body next
      → feature ≡ feature_of sig access (part.Routine body) → Takes (routine_form class access) t from (member.Called feature clauses) next
  routine class access from mid third next sig clauses body feature first second last same =
      rw same (takes t (as_routine class access (follows t (taken t first) (follows t (taken t second) (makes t next (taken t last))))))

  pub builtin : (name : List ℕ) (access : Access) (from next : ℕ) (sig : HeaderSignature) (feature : Feature) → Takes sig_form t from sig next
      → feature ≡ feature_of sig access (part.Builtin name sig.name.name)
      → Takes (builtin_form name access) t from (member.Called feature no_clauses) next
  builtin name access from next sig feature inside same = rw same (takes t (makes t next (taken t inside)))

  -- the form of a stub, after its word
  abbrev pub stub_form : Access → Form Declaration
  stub_form access = make (λ sig. member.Called (feature_of sig access part.Stub) no_clauses) sig_form

  stub_first : (kind : ClassKind) (access : Access) (other : Form Declaration) (at : ℕ) → kind ≡ Partial
      → kind_at t.list.now at ≡ Some (token.Word word.Stub)
      → {v : Reading Declaration} → Runs t (stub_form access) (at + 1) v → Runs t (stub_or kind access other) at v
  unfolding stub_or
  stub_first Partial access other at partial there r = met t (token.Word word.Stub) there (word_is word.Stub) r
  stub_first Reference access other at partial there r = absurd (cc)
  stub_first Immutable access other at partial there r = absurd (cc)
  stub_first Abstract access other at partial there r = absurd (cc)

  past_stub : (kind : ClassKind) (access : Access) (other : Form Declaration) (at : ℕ)
      → (kind ≡ Partial → kind_at t.list.now at ≢ Some (token.Word word.Stub))
      → {v : Reading Declaration} → Runs t other at v → Runs t (stub_or kind access other) at v
  unfolding stub_or
  past_stub Partial access other at another_stands r = not_met t (shut_word t word.Stub at (another_stands refl)) r
  past_stub Reference access other at another_stands r = r
  past_stub Immutable access other at another_stands r = r
  past_stub Abstract access other at another_stands r = r

  builtin_first : (file_kind : FileKind) (name : List ℕ) (access : Access) (other : Form Declaration) (at : ℕ) → file_kind ≡ Prelude
      → kind_at t.list.now at ≡ Some (token.Word word.Builtin) → {v : Reading Declaration} → Runs t (builtin_form name access) (at + 1) v
      → Runs t (builtin_or file_kind name access other) at v
  unfolding builtin_or
  builtin_first Prelude name access other at prelude there r = met t (token.Word word.Builtin) there (word_is word.Builtin) r
  builtin_first Program name access other at prelude there r = absurd (cc)

  past_builtin : (file_kind : FileKind) (name : List ℕ) (access : Access) (other : Form Declaration) (at : ℕ)
      → (file_kind ≡ Prelude → kind_at t.list.now at ≢ Some (token.Word word.Builtin)) → {v : Reading Declaration} → Runs t other at v
      → Runs t (builtin_or file_kind name access other) at v
  unfolding builtin_or
  past_builtin Prelude name access other at another_stands r = not_met t (shut_word t word.Builtin at (another_stands refl)) r
  past_builtin Program name access other at another_stands r = r

  pub stub_there : (class : Enclosing) (access : Access) (at : ℕ) → class.kind ≡ Partial
      → kind_at t.list.now at ≡ Some (token.Word word.Stub)
      → {v : Reading Declaration} → Runs t (stub_form access) (at + 1) v → Runs t (called_form class access) at v
  stub_there class access at partial there r =
      stub_first class.kind access (builtin_or class.file_kind class.name access (routine_form class access)) at partial there r

  pub stub : (class : Enclosing) (access : Access) (from next : ℕ) (sig : HeaderSignature) (feature : Feature) (clauses : Clauses)
      → class.kind ≡ Partial
      → kind_at t.list.now from ≡ Some (token.Word word.Stub) → Takes sig_form t (from + 1) sig next
      → feature ≡ feature_of sig access part.Stub
      → clauses ≡ no_clauses → Takes (called_form class access) t from (member.Called feature clauses) next
  stub class access from next sig feature clauses partial there inside same none =
      rw (same, none) (takes t (stub_there class access from partial there (makes t next (taken t inside))))

  pub builtin_there : (class : Enclosing) (access : Access) (at : ℕ) → class.file_kind ≡ Prelude
      → kind_at t.list.now at ≡ Some (token.Word word.Builtin)
      → {v : Reading Declaration} → Runs t (builtin_form class.name access) (at + 1) v → Runs t (called_form class access) at v
  builtin_there class access at prelude there r =
      past_stub class.kind access (builtin_or class.file_kind class.name access (routine_form class access)) at (λ partial e. cc)
      (builtin_first class.file_kind class.name access (routine_form class access) at prelude there r)

  pub built_in : (class : Enclosing) (access : Access) (from next : ℕ) (feature : Feature) (clauses : Clauses) → class.file_kind ≡ Prelude
      → kind_at t.list.now from ≡ Some (token.Word word.Builtin)
      → Takes (builtin_form class.name access) t (from + 1) (member.Called feature no_clauses) next
      → clauses ≡ no_clauses → Takes (called_form class access) t from (member.Called feature clauses) next
  built_in class access from next feature clauses prelude there inside none =
      rw none (takes t (builtin_there class access from prelude there (taken t inside)))

  pub routine_there : (class : Enclosing) (access : Access) (at : ℕ)
      → (class.kind ≡ Partial → kind_at t.list.now at ≢ Some (token.Word word.Stub))
      → (class.file_kind ≡ Prelude → kind_at t.list.now at ≢ Some (token.Word word.Builtin)) → {v : Reading Declaration}
      → Runs t (routine_form class access) at v → Runs t (called_form class access) at v
  routine_there class access at no_stub no_builtin r =
      past_stub class.kind access (builtin_or class.file_kind class.name access (routine_form class access)) at no_stub
      (past_builtin class.file_kind class.name access (routine_form class access) at no_builtin r)

  -- ---- attributes and shareds

  pub attr_there : (access : Access) (other : Form Declaration) (at : ℕ) → kind_at t.list.now at ≡ Some (token.Word word.Attr)
      → {v : Reading Declaration}
      → Runs t (make member.Variables (attr_form access)) (at + 1) v → Runs t (declared_or access other) at v
  unfolding declared_or
  attr_there access other at there r = met t (token.Word word.Attr) there (word_is word.Attr) r

  pub shared_there : (access : Access) (other : Form Declaration) (at : ℕ) → kind_at t.list.now at ≡ Some (token.Word word.Shared)
      → {v : Reading Declaration}
      → Runs t (make member.Variables (shared_form access)) (at + 1) v → Runs t (declared_or access other) at v
  unfolding declared_or
  shared_there access other at there r =
      another t (token.Word word.Shared) there refl (met t (token.Word word.Shared) there (word_is word.Shared) r)

  pub past_declared : (access : Access) (other : Form Declaration) (at : ℕ) → kind_at t.list.now at ≢ Some (token.Word word.Attr)
      → kind_at t.list.now at ≢ Some (token.Word word.Shared) → {v : Reading Declaration} → Runs t other at v
      → Runs t (declared_or access other) at v
  unfolding declared_or
  past_declared access other at no_attr no_shared r =
      not_met t (shut_word t word.Attr at no_attr) (not_met t (shut_word t word.Shared at no_shared) r)

  pub none_declared : (access : Access) (at : ℕ) → kind_at t.list.now at ≢ Some (token.Word word.Attr)
      → kind_at t.list.now at ≢ Some (token.Word word.Shared)
      → Runs t (declared_or access refuse) at (Refused (lexemes_from t at))
  none_declared access at no_attr no_shared = past_declared access refuse at no_attr no_shared (refused t)

  -- where one of these words is, it doesn't matter which form is the other one
  declared_instead : (access : Access) (other : Form Declaration) (at : ℕ) (one : Word) → kind_at t.list.now at ≡ Some (token.Word one)
      → (one ≡ word.Attr) ⊎ (one ≡ word.Shared) → {v : Reading Declaration} → Runs t (declared_or access refuse) at v
      → Runs t (declared_or access other) at v
  declared_instead access other at one there (inl same) r =
      let attr = there ∙ ap (λ w. Some (token.Word w)) same in
      let first = attr_there access refuse at attr (runs t (make member.Variables (attr_form access)) (at + 1)) in
      attr_there access other at attr (record { is = sym first.is ∙ r.is })
  declared_instead access other at one there (inr same) r =
      let shared = there ∙ ap (λ w. Some (token.Word w)) same in
      let first = shared_there access refuse at shared (runs t (make member.Variables (shared_form access)) (at + 1)) in
      shared_there access other at shared (record { is = sym first.is ∙ r.is })

  -- ---- after the words of access

  -- what is read where there is neither an attribute nor a shared
  abbrev pub behind_declared : Enclosing → Access → Form Declaration
  behind_declared class access =
      shift (is_word word.Const) (λ _. make member.Variables (constants_form access))
      (shift (is_word word.Include) (λ _. include_form (is_private access)) (called_form class access))

  pub declared_there : (class : Enclosing) (access : Access) (at : ℕ) (one : Word) → kind_at t.list.now at ≡ Some (token.Word one)
      → (one ≡ word.Attr) ⊎ (one ≡ word.Shared) → {v : Reading Declaration} → Runs t (declared_or access refuse) at v
      → Runs t (open_form class access) at v
  unfolding open_form
  declared_there class access at one there words r = declared_instead access (behind_declared class access) at one there words r

  pub const_there : (class : Enclosing) (access : Access) (at : ℕ) → kind_at t.list.now at ≡ Some (token.Word word.Const)
      → {v : Reading Declaration}
      → Runs t (make member.Variables (constants_form access)) (at + 1) v → Runs t (open_form class access) at v
  unfolding open_form
  const_there class access at there r =
      past_declared access (behind_declared class access) at (λ e. cc) (λ e. cc)
      (met t (token.Word word.Const) there (word_is word.Const) r)

  pub include_there : (class : Enclosing) (access : Access) (at : ℕ) → kind_at t.list.now at ≡ Some (token.Word word.Include)
      → {v : Reading Declaration}
      → Runs t (include_form (is_private access)) (at + 1) v → Runs t (open_form class access) at v
  unfolding open_form
  include_there class access at there r =
      past_declared access (behind_declared class access) at (λ e. cc) (λ e. cc)
      (another t (token.Word word.Include) there refl (met t (token.Word word.Include) there (word_is word.Include) r))

  pub called_there : (class : Enclosing) (access : Access) (at : ℕ) → kind_at t.list.now at ≢ Some (token.Word word.Attr)
      → kind_at t.list.now at ≢ Some (token.Word word.Shared) → kind_at t.list.now at ≢ Some (token.Word word.Const)
      → kind_at t.list.now at ≢ Some (token.Word word.Include) → {v : Reading Declaration} → Runs t (called_form class access) at v
      → Runs t (open_form class access) at v
  unfolding open_form
  called_there class access at no_attr no_shared no_const no_include r =
      past_declared access (behind_declared class access) at no_attr no_shared
      (not_met t (shut_word t word.Const at no_const) (not_met t (shut_word t word.Include at no_include) r))

  -- ---- members

  invariant_first : (file_kind : FileKind) (invariants : Bool) (other : Form Declaration) (at : ℕ)
      → kind_at t.list.now at ≡ Some (token.Word word.Invariant)
      → (file_kind ≡ Program) × (invariants ≡ true) → {v : Reading Declaration} → Runs t (make member.Invariant holding_form) (at + 1) v
      → Runs t (invariant_or file_kind invariants other) at v
  unfolding invariant_or
  invariant_first Program true other at there may r = met t (token.Word word.Invariant) there (word_is word.Invariant) r
  invariant_first Program false other at there may r = let none = may.1 in absurd (cc)
  invariant_first Prelude invariants other at there may r = let none = may.0 in absurd (cc)

  past_invariant : (file_kind : FileKind) (invariants : Bool) (other : Form Declaration) (at : ℕ)
      → kind_at t.list.now at ≢ Some (token.Word word.Invariant)
      → {v : Reading Declaration} → Runs t other at v → Runs t (invariant_or file_kind invariants other) at v
  unfolding invariant_or
  past_invariant Program true other at no_invariant r = not_met t (shut_word t word.Invariant at no_invariant) r
  past_invariant Program false other at no_invariant r = r
  past_invariant Prelude invariants other at no_invariant r = r

  pub private_there : (class : Enclosing) (invariants : Bool) (at : ℕ) → kind_at t.list.now at ≡ Some (token.Word word.Private)
      → {v : Reading Declaration}
      → Runs t (open_form class Private) (at + 1) v → Runs t (member_form class invariants) at v
  unfolding member_form
  private_there class invariants at there r = met t (token.Word word.Private) there (word_is word.Private) r

  pub readonly_there : (class : Enclosing) (invariants : Bool) (at : ℕ) → kind_at t.list.now at ≡ Some (token.Word word.Readonly)
      → {v : Reading Declaration}
      → Runs t (declared_or ReadOnly refuse) (at + 1) v → Runs t (member_form class invariants) at v
  unfolding member_form
  readonly_there class invariants at there r =
      another t (token.Word word.Readonly) there refl (met t (token.Word word.Readonly) there (word_is word.Readonly) r)

  pub invariant_there : (class : Enclosing) (invariants : Bool) (at : ℕ) → kind_at t.list.now at ≡ Some (token.Word word.Invariant)
      → IsAllowed class.file_kind invariants (kind_at t.list.now at) → {v : Reading Declaration}
      → Runs t (make member.Invariant holding_form) (at + 1) v
      → Runs t (member_form class invariants) at v
  unfolding member_form
  invariant_there class invariants at there may r =
      another t (token.Word word.Invariant) there refl (another t (token.Word word.Invariant) there refl
      (invariant_first class.file_kind invariants (open_form class Public) at there (may there) r))

  pub public_there : (class : Enclosing) (invariants : Bool) (at : ℕ) → kind_at t.list.now at ≢ Some (token.Word word.Private)
      → kind_at t.list.now at ≢ Some (token.Word word.Readonly) → kind_at t.list.now at ≢ Some (token.Word word.Invariant)
      → {v : Reading Declaration}
      → Runs t (open_form class Public) at v → Runs t (member_form class invariants) at v
  unfolding member_form
  public_there class invariants at no_private no_readonly no_invariant r =
      not_met t (shut_word t word.Private at no_private) (not_met t (shut_word t word.Readonly at no_readonly)
      (past_invariant class.file_kind invariants (open_form class Public) at no_invariant r))
