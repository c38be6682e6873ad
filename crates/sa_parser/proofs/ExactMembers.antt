-- The members of classes, as their forms read them, and the insides that are made of them.
use Rattle.std.proofs.Common.{◌≡◌, ◌≢◌, ℕ, ◌+◌, Bool, true, false, not, ◌&&◌, List, [], ◌∷◌, ◌++◌, length, Option, Some, None, is_none}
use Rattle.std.proofs.Common.{refl, sym, ap, ◌∙◌, append_assoc, arith}
use Rattle.std.specs.List.{flat_map}
use Rattle.std.proofs.lemmas.List.{append-nil, flat_map_more, length-append}
use Rattle.sa_lexer.specs.declared.token.TokenKind.{TokenKind}
use Rattle.sa_lexer.specs.declared.token.TokenKind.TheVariants as token
use Rattle.sa_lexer.specs.declared.sign.Sign.TheVariants as sign
use Rattle.sa_lexer.specs.declared.word.Word.{Word}
use Rattle.sa_lexer.specs.declared.word.Word.TheVariants as word
use Rattle.sa_ast.specs.declared.pos.Pos.{Pos}
use Rattle.sa_ast.specs.declared.class.ClassKind.{ClassKind}
use Rattle.sa_ast.specs.declared.class.ClassKind.TheVariants.{Reference, Immutable, Abstract, Partial}
use Rattle.sa_ast.specs.declared.class.Feature.{Feature}
use Rattle.sa_ast.specs.declared.class.Include.{Include}
use Rattle.sa_ast.specs.declared.contract.Condition.{Condition}
use Rattle.sa_ast.specs.declared.contract.Contract.{Contract}
use Rattle.sa_parser_expr.specs.declared.tokens.Tokens.{Tokens}
use Rattle.sa_parser_expr.specs.Exactly.{Takes}
use Rattle.sa_parser_expr.specs.Forms.{Form, make, opens}
use Rattle.sa_parser_expr.specs.Lexemes.{Lexeme, lexeme_at}
use Rattle.sa_parser_expr.specs.Positions.{kind_at}
use Rattle.sa_parser_expr.specs.Readings.{Reading, Refused}
use Rattle.sa_parser_expr.specs.Tests.{is_sign}
use Rattle.sa_parser_expr.proofs.Runs.{Runs, taken, takes, gives, follows, stops, makes, first_one, second_one, meets_by, shut_by, shut_sign}
use Rattle.sa_parser_expr.proofs.Runs.{Turns, no_turn, next_turn, turn_refused, all_turned}
use Rattle.sa_parser_expr.proofs.Tested.{sign_is}
use Rattle.sa_parser.specs.declared.class.ClassBody.{ClassBody}
use Rattle.sa_parser.specs.declared.file.FileKind.{FileKind}
use Rattle.sa_parser.specs.declared.file.FileKind.TheVariants.{Prelude, Program}
use Rattle.sa_parser.specs.declared.member.Declaration.{Declaration}
use Rattle.sa_parser.specs.declared.member.Declaration.TheVariants as member
use Rattle.sa_parser.specs.ClassForms.{optional_member_form, is_empty, none_yet, members_form}
use Rattle.sa_parser.specs.Classes.{includes_of, invariants_of, contract_of, clauses_from, clauses_at, last_of, or_before, class_body_of}
use Rattle.sa_parser.specs.FeatureForms.{member_form, open_form, declared_or, stub_or, builtin_or, invariant_or, routine_form}
use Rattle.sa_parser.specs.Features.{Enclosing, features_of}
use Rattle.sa_parser.specs.MappedReads.{TakesMade}
use Rattle.sa_parser.specs.SignatureForms.{sig_form}
use Rattle.sa_parser.specs.Starts.{begins_member, is_prelude}
use Rattle.sa_parser.proofs.Appended.{from_nothing}

-- ---- what is made of members, with one more after them

last_more : (all : List Condition) (holds : Condition) → last_of (all ++ holds ∷ []) ≡ Some holds
last_more [] holds = refl
last_more (a ∷ []) holds = refl
last_more (a ∷ b ∷ more) holds = last_more (b ∷ more) holds

last_behind : (all : List Condition) (m : Declaration) → last_of (all ++ invariants_of m) ≡ or_before (invariants_of m) (last_of all)
last_behind all (member.Invariant holds) = last_more all holds
last_behind all _ = ap last_of (append-nil all)

-- there is a last one where there is one
pub none_last : (all : List Condition) → is_none (last_of all) ≡ is_empty all
none_last [] = refl
none_last (a ∷ []) = refl
none_last (a ∷ b ∷ more) = none_last (b ∷ more)

-- where the features of the members after one begin
moved : (m : Declaration) (members : List Declaration) (place : ℕ)
    → place + length (features_of m) + length (flat_map features_of members)
    ≡ place + length (features_of m ++ flat_map features_of members)
moved m members place =
    let sum : length (features_of m ++ flat_map features_of members) ≡ length (features_of m) + length (flat_map features_of members) =
    length-append (features_of m) (flat_map features_of members) in
    omega (arith, sum)

clauses_one : (class place : ℕ) (m : Declaration) → clauses_from class place (m ∷ []) ≡ clauses_at class place m
clauses_one class place (member.Called feature clauses) = append-nil (contract_of class place clauses.pre clauses.post)
clauses_one class place _ = refl

behind_nothing : (n : ℕ) → n ≡ 0 + n
behind_nothing n = omega arith

clauses_more : (class place : ℕ) (members : List Declaration) (m : Declaration)
    → clauses_from class place (members ++ m ∷ [])
    ≡ clauses_from class place members ++ clauses_at class (place + length (flat_map features_of members)) m
clauses_more class place [] m = clauses_one class place m ∙ ap (λ at. clauses_at class at m) (from_nothing place)
clauses_more class place (member.Called feature clauses ∷ members) m =
    let first = contract_of class place clauses.pre clauses.post in
    ap (λ rest. first ++ rest) (clauses_more class (place + 1) members m)
    ∙ sym
    (append_assoc first (clauses_from class (place + 1) members) (clauses_at class (place + 1 + length (flat_map features_of members)) m))
    ∙ ap (λ at. (first ++ clauses_from class (place + 1) members) ++ clauses_at class at m)
    (moved (member.Called feature clauses) members place)
clauses_more class place (member.Variables features ∷ members) m =
    clauses_more class (place + length features) members m
    ∙ ap (λ at. clauses_from class (place + length features) members ++ clauses_at class at m)
    (moved (member.Variables features) members place)
clauses_more class place (member.Include inherited ∷ members) m =
    clauses_more class (place + 0) members m
    ∙ ap (λ at. clauses_from class (place + 0) members ++ clauses_at class at m) (moved (member.Include inherited) members place)
clauses_more class place (member.Invariant holds ∷ members) m =
    clauses_more class (place + 0) members m
    ∙ ap (λ at. clauses_from class (place + 0) members ++ clauses_at class at m) (moved (member.Invariant holds) members place)

same_inside : (inside : ClassBody) (includes : List Include) (features : List Feature) (clauses : List Contract) (invariant : Option Condition)
    → inside.includes ≡ includes → inside.features ≡ features → inside.clauses ≡ clauses → inside.invariant ≡ invariant
    → inside ≡ record { includes = includes; features = features; clauses = clauses; invariant = invariant }
same_inside inside includes features clauses invariant a b c d = rw (← a, ← b, ← c, ← d) refl

pub put_behind : (class : ℕ) (others : List Declaration) (m : Declaration) (before after : ClassBody) → before ≡ class_body_of class others
    → after.includes ≡ before.includes ++ includes_of m → after.features ≡ before.features ++ features_of m
    → after.clauses ≡ before.clauses ++ clauses_at class (length before.features) m
    → after.invariant ≡ or_before (invariants_of m) before.invariant
    → after ≡ class_body_of class (others ++ m ∷ [])
put_behind class others m before after was includes features clauses invariant =
    same_inside after _ _ _ _
    (includes ∙ ap (λ (inside : ClassBody). inside.includes ++ includes_of m) was ∙ flat_map_more includes_of [] others m)
    (features ∙ ap (λ (inside : ClassBody). inside.features ++ features_of m) was ∙ flat_map_more features_of [] others m)
    (clauses ∙ ap (λ (inside : ClassBody). inside.clauses ++ clauses_at class (length inside.features) m) was
    ∙ ap (λ at. clauses_from class 0 others ++ clauses_at class at m) (behind_nothing (length (flat_map features_of others)))
    ∙ sym (clauses_more class 0 others m))
    (invariant ∙ ap (λ (inside : ClassBody). or_before (invariants_of m) inside.invariant) was
    ∙ sym (last_behind (flat_map invariants_of others) m) ∙ ap last_of (flat_map_more invariants_of [] others m))

-- ---- what opens the form of members

word_opens : (kind : ClassKind) (file_kind : FileKind) (name : List ℕ) (found : Option Condition) (w : Word) (bytes : List ℕ) (pos : Pos)
    → opens (member_form (record { name = name; kind = kind; file_kind = file_kind }) (is_none found))
    (record { kind = token.Word w; bytes = bytes; pos = pos })
    ≡ begins_member kind file_kind found (Some (token.Word w))
unfolding member_form open_form declared_or stub_or builtin_or invariant_or routine_form sig_form
word_opens Reference Prelude name found word.And bytes pos = refl
word_opens Reference Prelude name found _ bytes pos = refl
word_opens Reference Program name None word.And bytes pos = refl
word_opens Reference Program name None _ bytes pos = refl
word_opens Reference Program name (Some holds) word.And bytes pos = refl
word_opens Reference Program name (Some holds) _ bytes pos = refl
word_opens Immutable Prelude name found word.And bytes pos = refl
word_opens Immutable Prelude name found _ bytes pos = refl
word_opens Immutable Program name None word.And bytes pos = refl
word_opens Immutable Program name None _ bytes pos = refl
word_opens Immutable Program name (Some holds) word.And bytes pos = refl
word_opens Immutable Program name (Some holds) _ bytes pos = refl
word_opens Abstract Prelude name found word.And bytes pos = refl
word_opens Abstract Prelude name found _ bytes pos = refl
word_opens Abstract Program name None word.And bytes pos = refl
word_opens Abstract Program name None _ bytes pos = refl
word_opens Abstract Program name (Some holds) word.And bytes pos = refl
word_opens Abstract Program name (Some holds) _ bytes pos = refl
word_opens Partial Prelude name found word.And bytes pos = refl
word_opens Partial Prelude name found _ bytes pos = refl
word_opens Partial Program name None word.And bytes pos = refl
word_opens Partial Program name None _ bytes pos = refl
word_opens Partial Program name (Some holds) word.And bytes pos = refl
word_opens Partial Program name (Some holds) _ bytes pos = refl

kind_opens : (kind : ClassKind) (file_kind : FileKind) (name : List ℕ) (found : Option Condition) (k : TokenKind) (bytes : List ℕ) (pos : Pos)
    → opens (member_form (record { name = name; kind = kind; file_kind = file_kind }) (is_none found))
    (record { kind = k; bytes = bytes; pos = pos })
    ≡ begins_member kind file_kind found (Some k)
unfolding member_form open_form declared_or stub_or builtin_or invariant_or routine_form sig_form
kind_opens kind file_kind name found (token.Word w) bytes pos = word_opens kind file_kind name found w bytes pos
kind_opens Reference Prelude name found _ bytes pos = refl
kind_opens Reference Program name None _ bytes pos = refl
kind_opens Reference Program name (Some holds) _ bytes pos = refl
kind_opens Immutable Prelude name found _ bytes pos = refl
kind_opens Immutable Program name None _ bytes pos = refl
kind_opens Immutable Program name (Some holds) _ bytes pos = refl
kind_opens Abstract Prelude name found _ bytes pos = refl
kind_opens Abstract Program name None _ bytes pos = refl
kind_opens Abstract Program name (Some holds) _ bytes pos = refl
kind_opens Partial Prelude name found _ bytes pos = refl
kind_opens Partial Program name None _ bytes pos = refl
kind_opens Partial Program name (Some holds) _ bytes pos = refl

some_begins : (kind : ClassKind) (file_kind : FileKind) (invariant : Option Condition) (found : Option TokenKind)
    → begins_member kind file_kind invariant found ≡ true
    → (k : TokenKind) × (found ≡ Some k)
some_begins kind file_kind invariant None begins = absurd (cc)
some_begins kind file_kind invariant (Some k) begins = (k, refl)

may_occur : (file_kind : FileKind) (b : Bool) → (not (is_prelude file_kind) && b) ≡ true → (file_kind ≡ Program) × (b ≡ true)
may_occur Prelude b h = absurd (cc)
may_occur Program b h = (refl, h)

module _ (t : Tokens) where
  module _ (name : List ℕ) (kind : ClassKind) (file_kind : FileKind) where
    -- the class that has the members
    abbrev pub of : Enclosing
    of = record { name = name; kind = kind; file_kind = file_kind }

    -- the invariant among these members
    abbrev pub found_in : List Declaration → Option Condition
    found_in others = last_of (flat_map invariants_of others)

    opens_member : (others : List Declaration) (l : Lexeme)
        → opens (member_form of (none_yet others)) l ≡ begins_member kind file_kind (found_in others) (Some l.kind)
    opens_member others l =
        ap (λ b. opens (member_form of b) l) (sym (none_last (flat_map invariants_of others)))
        ∙ kind_opens kind file_kind name (found_in others) l.kind l.bytes l.pos

    -- an invariant is there only where one is allowed
    pub where_invariant : (others : List Declaration) (at : ℕ)
        → begins_member kind file_kind (found_in others) (kind_at t.list.now at) ≡ true
        → kind_at t.list.now at ≡ Some (token.Word word.Invariant) → (file_kind ≡ Program) × (none_yet others ≡ true)
    where_invariant others at begins there =
        let may =
        may_occur file_kind (is_none (found_in others)) (sym (ap (begins_member kind file_kind (found_in others)) there) ∙ begins) in
        (may.0, sym (none_last (flat_map invariants_of others)) ∙ may.1)

    pub member_there : (others : List Declaration) (at : ℕ)
        → begins_member kind file_kind (found_in others) (kind_at t.list.now at) ≡ true → {v : Reading (List Declaration)}
        → Runs t (make (λ m. m ∷ []) (member_form of (none_yet others))) at v → Runs t (optional_member_form of (none_yet others)) at v
    unfolding optional_member_form
    member_there others at begins r =
        let there = some_begins kind file_kind (found_in others) (kind_at t.list.now at) begins in
        first_one t
        (meets_by t (opens (member_form of (none_yet others))) at there.0 there.1
        (opens_member others (lexeme_at t at there.0) ∙ ap (begins_member kind file_kind (found_in others)) (sym there.1) ∙ begins))
        r

    pub no_member : (others : List Declaration) (at : ℕ) → begins_member kind file_kind (found_in others) (kind_at t.list.now at) ≡ false
        → Takes (optional_member_form of (none_yet others)) t at [] at
    unfolding optional_member_form
    no_member others at none =
        takes t
        (second_one t
        (shut_by t (opens (member_form of (none_yet others))) at
        (λ k there. opens_member others (lexeme_at t at k) ∙ ap (begins_member kind file_kind (found_in others)) (sym there) ∙ none))
        (gives t))

  -- ---- lists of members

  -- the members after some, with these before them
  abbrev pub more_form : Enclosing → List Declaration → Lexeme → Form (List Declaration)
  more_form class all l = make (λ more. all ++ more) (optional_member_form class (none_yet all))

  -- the members that were read up to an index
  pub record MembersRead (class : Enclosing) (from : ℕ) (all : List Declaration) (next : ℕ) : Type 0 where
    pub first : List Declaration
    pub mid : ℕ
    pub opened : Takes (optional_member_form class true) t from first mid
    pub turns : Turns t (is_sign sign.Semicolon) (more_form class) first mid all next

  pub first_members : (class : Enclosing) (from next : ℕ) (all : List Declaration)
      → Takes (optional_member_form class true) t from all next → MembersRead class from all next
  first_members class from next all h = record {
    first = all;
    mid = next;
    opened = h;
    turns = no_turn t (is_sign sign.Semicolon) (more_form class) all next;
  }

  pub next_members : (class : Enclosing) (from mid next : ℕ) (all more : List Declaration) → MembersRead class from all mid
      → kind_at t.list.now mid ≡ Some (token.Sign sign.Semicolon) → Takes (optional_member_form class (none_yet all)) t (mid + 1) more next
      → MembersRead class from (all ++ more) next
  next_members class from mid next all more so_far semicolon h = record {
    first = so_far.first;
    mid = so_far.mid;
    opened = so_far.opened;
    turns = next_turn t (is_sign sign.Semicolon) (more_form class) so_far.turns (token.Sign sign.Semicolon) semicolon
        (sign_is sign.Semicolon) (makes t next (taken t h));
  }

  pub all_members : (class : Enclosing) (from next : ℕ) (all : List Declaration) → MembersRead class from all next
      → kind_at t.list.now next ≢ Some (token.Sign sign.Semicolon) → Takes (members_form class) t from all next
  unfolding members_form
  all_members class from next all so_far other =
      takes t
      (follows t (taken t so_far.opened)
      (all_turned t (is_sign sign.Semicolon) (more_form class) so_far.turns (shut_sign t sign.Semicolon next other)))

  pub first_refused : (class : Enclosing) (from : ℕ) {rest : List Lexeme} → Runs t (optional_member_form class true) from (Refused rest)
      → Runs t (members_form class) from (Refused rest)
  unfolding members_form
  first_refused class from r = stops t r

  pub next_refused : (class : Enclosing) (from mid : ℕ) (all : List Declaration) {rest : List Lexeme} → MembersRead class from all mid
      → kind_at t.list.now mid ≡ Some (token.Sign sign.Semicolon)
      → Runs t (optional_member_form class (none_yet all)) (mid + 1) (Refused rest)
      → Runs t (members_form class) from (Refused rest)
  unfolding members_form
  next_refused class from mid all so_far semicolon r =
      follows t (taken t so_far.opened)
      (turn_refused t (is_sign sign.Semicolon) (more_form class) so_far.turns (token.Sign sign.Semicolon) semicolon
      (sign_is sign.Semicolon) (stops t r))

  -- ---- the class body that is made of the members

  -- the members that were read up to an index, and the class body that is made of them
  pub record InsideRead (class : Enclosing) (place from : ℕ) (inside : ClassBody) (next : ℕ) : Type 0 where
    pub members : List Declaration
    pub read : MembersRead class from members next
    pub same : inside ≡ class_body_of place members

  pub first_inside : (class : Enclosing) (place from next : ℕ) (inside : ClassBody)
      → TakesMade (optional_member_form class true) (λ more. class_body_of place ([] ++ more)) t from inside next
      → InsideRead class place from inside next
  first_inside class place from next inside h = record {
    members = h.written;
    read = first_members class from next h.written h.taken;
    same = h.same;
  }

  pub next_inside : (class : Enclosing) (place from mid next : ℕ) (before after : ClassBody) (so_far : InsideRead class place from before mid)
      → kind_at t.list.now mid ≡ Some (token.Sign sign.Semicolon)
      → TakesMade (optional_member_form class (none_yet so_far.members)) (λ more. class_body_of place (so_far.members ++ more)) t
      (mid + 1) after next
      → InsideRead class place from after next
  next_inside class place from mid next before after so_far semicolon h = record {
    members = so_far.members ++ h.written;
    read = next_members class from mid next so_far.members h.written so_far.read semicolon h.taken;
    same = h.same;
  }

  pub all_inside : (class : Enclosing) (place from next : ℕ) (inside : ClassBody) → InsideRead class place from inside next
      → kind_at t.list.now next ≢ Some (token.Sign sign.Semicolon) → TakesMade (members_form class) (class_body_of place) t from inside next
  all_inside class place from next inside so_far other = record {
    written = so_far.members;
    taken = all_members class from next so_far.members so_far.read other;
    same = so_far.same;
  }
