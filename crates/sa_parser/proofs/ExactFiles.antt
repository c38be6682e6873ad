-- Files, as their form reads them, and the classes and contracts that are made of them.
use Rattle.std.proofs.Common.{◌≡◌, ◌≢◌, ℕ, ◌+◌, ◌<◌, ◌≤◌, inl, inr, List, [], ◌∷◌, ◌++◌, length, map, Option, Some, None, Result, Ok}
use Rattle.std.proofs.Common.{Err, refl, sym, ap, ◌∙◌, arith}
use Rattle.std.specs.List.{flat_map}
use Rattle.std.specs.Option.{option_to_list}
use Rattle.std.proofs.lemmas.Option.{slice_get_cases}
use Rattle.sa_lexer.specs.declared.token.Token.{Token}
use Rattle.sa_lexer.specs.declared.token.TokenKind.TheVariants as token
use Rattle.sa_lexer.specs.declared.sign.Sign.TheVariants as sign
use Rattle.sa_ast.specs.declared.refusal.Rejection.{Rejection}
use Rattle.sa_ast.specs.declared.refusal.Rejection.TheVariants as fault
use Rattle.sa_ast.specs.declared.contract.Condition.{Condition}
use Rattle.sa_ast.specs.declared.contract.Contract.TheVariants as contract
use Rattle.sa_parser_expr.specs.declared.tokens.Tokens.{Tokens}
use Rattle.sa_parser_expr.specs.Exactly.{lexemes_from, Takes, ReadsAs}
use Rattle.sa_parser_expr.specs.Grammar.{read_as}
use Rattle.sa_parser_expr.specs.Level.{AreTaken, RefusesTokens}
use Rattle.sa_parser_expr.specs.Lexemes.{Lexeme, lexemes_of}
use Rattle.sa_parser_expr.specs.Positions.{kind_at, unexpected_at}
use Rattle.sa_parser_expr.specs.Readings.{Read, Refused}
use Rattle.sa_parser_expr.specs.Tests.{is_sign}
use Rattle.sa_parser_expr.proofs.Runs.{Runs, takes, handed_on, shut_sign}
use Rattle.sa_parser_expr.proofs.Stretches.{occurrence, past}
use Rattle.sa_parser_expr.proofs.Tested.{sign_is}
use Rattle.sa_parser.specs.declared.class.WholeClass.{WholeClass}
use Rattle.sa_parser.specs.declared.file.FileKind.{FileKind}
use Rattle.sa_parser.specs.declared.file.ParsedFiles.{ParsedFiles}
use Rattle.sa_parser.specs.ClassForms.{optional_class_form, file_form}
use Rattle.sa_parser.specs.Classes.{Written, class_of, clauses_from, contracts_of, contracts_from, last_of}
use Rattle.sa_parser.specs.Classes.{whole_of, contracts_in, parsed_of}
use Rattle.sa_parser.specs.Files.{IsRead, refused, left, FileReads, Parses}
use Rattle.sa_parser.specs.MappedReads.{TakesMade}
use Rattle.sa_parser.proofs.Appended.{appended, from_nothing}
use Rattle.sa_parser.proofs.ExactBodies.{Joins, first_joined, next_joined, all_joined, first_join_refused, next_join_refused}
use Rattle.sa_parser.proofs.Yields.{Single, Singles, no_class, one_class, singles}

-- ---- the contracts of classes

last_single : (class : ℕ) (all : List Condition) → length all ≤ 1
    → map (contract.Invariant class) (option_to_list (last_of all)) ≡ map (contract.Invariant class) all
last_single class [] few = refl
last_single class (holds ∷ []) few = refl
last_single class (holds ∷ other ∷ more) few = absurd (omega (arith, few))

contracts_same : (place : ℕ) (w : Written) → Single w → contracts_in place (whole_of place w) ≡ contracts_of place w
contracts_same place w few = ap (λ invariants. clauses_from place 0 w.members ++ invariants) (last_single place _ few)

-- the classes and the contracts of the class that is there, if one is
contracts_made : (place : ℕ) (one : Option WholeClass) (more : List Written) → option_to_list one ≡ map (whole_of place) more → Singles more
    → flat_map (contracts_in place) (option_to_list one) ≡ contracts_from place more
contracts_made place None _ same no_class = refl
contracts_made place (Some whole) _ same no_class = absurd (cc)
contracts_made place None _ same (one_class few) = absurd (cc)
contracts_made place (Some whole) _ same (one_class {w = w} few) =
    ap (flat_map (contracts_in place)) same ∙ ap (λ contracts. contracts ++ []) (contracts_same place w few)

classes_made : (place : ℕ) (more : List Written) → map (λ (whole : WholeClass). whole.class) (map (whole_of place) more) ≡ map class_of more
classes_made place [] = refl
classes_made place (w ∷ more) = ap (λ rest. class_of w ∷ rest) (classes_made place more)

-- one class more, if it is there
put_more : (first place : ℕ) (all more : List Written) (one : Option WholeClass) (before after : ParsedFiles) → before ≡ parsed_of first all
    → place ≡ first + length before.classes
    → option_to_list one ≡ map (whole_of place) more → Singles more
    → after.classes ≡ before.classes ++ map (λ (whole : WholeClass). whole.class) (option_to_list one)
    → after.contracts ≡ before.contracts ++ flat_map (contracts_in place) (option_to_list one) → after ≡ parsed_of first (all ++ more)
put_more first place all more one before after was at made single classes contracts =
    appended first place all more before after _ _ was at
    (ap (λ wholes. map (λ (whole : WholeClass). whole.class) wholes) made ∙ classes_made place more)
    (contracts_made place one more made single) classes contracts

module _ (t : Tokens) (file_kind : FileKind) (first : ℕ) where
  -- the classes that were read up to an index, and what is made of them
  pub record ParsedTo (parsed : ParsedFiles) (next : ℕ) : Type 0 where
    pub written : List Written
    pub read : Joins t (is_sign sign.Semicolon) (optional_class_form file_kind) 0 written next
    pub same : parsed ≡ parsed_of first written

  pub first_parsed : (next : ℕ) (one : Option WholeClass) (before after : ParsedFiles) → before ≡ record { classes = []; contracts = [] }
      → TakesMade (optional_class_form file_kind) (λ written. map (whole_of first) written) t 0 (option_to_list one) next
      → after.classes ≡ before.classes ++ map (λ (whole : WholeClass). whole.class) (option_to_list one)
      → after.contracts ≡ before.contracts ++ flat_map (contracts_in first) (option_to_list one) → ParsedTo after next
  first_parsed next one before after empty h classes contracts = record {
    written = h.written;
    read = first_joined t (is_sign sign.Semicolon) (optional_class_form file_kind) 0 next h.written h.written h.taken refl;
    same = put_more first first [] h.written one before after empty
        (from_nothing first ∙ ap (λ (parsed : ParsedFiles). first + length parsed.classes) (sym empty))
        h.same (singles t file_kind 0 next h.written h.taken) classes contracts;
  }

  pub next_parsed : (place mid next : ℕ) (one : Option WholeClass) (before after : ParsedFiles) (so_far : ParsedTo before mid)
      → place ≡ first + length before.classes
      → kind_at t.list.now mid ≡ Some (token.Sign sign.Semicolon)
      → TakesMade (optional_class_form file_kind) (λ written. map (whole_of place) written) t (mid + 1) (option_to_list one) next
      → after.classes ≡ before.classes ++ map (λ (whole : WholeClass). whole.class) (option_to_list one)
      → after.contracts ≡ before.contracts ++ flat_map (contracts_in place) (option_to_list one) → ParsedTo after next
  next_parsed place mid next one before after so_far at semicolon h classes contracts = record {
    written = so_far.written ++ h.written;
    read = next_joined t (is_sign sign.Semicolon) (optional_class_form file_kind) 0 mid next so_far.written h.written
        (so_far.written ++ h.written) so_far.read
        (token.Sign sign.Semicolon) semicolon (sign_is sign.Semicolon) h.taken refl;
    same = put_more first place so_far.written h.written one before after so_far.same at h.same
        (singles t file_kind (mid + 1) next h.written h.taken) classes contracts;
  }

  -- the classes up to an index where no other one follows
  pub file_taken : (next : ℕ) (parsed : ParsedFiles) (so_far : ParsedTo parsed next) → kind_at t.list.now next ≢ Some (token.Sign sign.Semicolon)
      → Takes (file_form file_kind) t 0 so_far.written next
  unfolding file_form
  file_taken next parsed so_far other =
      takes t
      (all_joined t (is_sign sign.Semicolon) (optional_class_form file_kind) 0 next so_far.written so_far.written so_far.read
      (shut_sign t sign.Semicolon next other) refl)

  pub first_refused : {rest : List Lexeme} → Runs t (optional_class_form file_kind) 0 (Refused rest)
      → Runs t (file_form file_kind) 0 (Refused rest)
  unfolding file_form
  first_refused r = first_join_refused t (is_sign sign.Semicolon) (optional_class_form file_kind) 0 r

  pub next_refused : (mid : ℕ) (parsed : ParsedFiles) (so_far : ParsedTo parsed mid)
      → kind_at t.list.now mid ≡ Some (token.Sign sign.Semicolon) → {rest : List Lexeme}
      → Runs t (optional_class_form file_kind) (mid + 1) (Refused rest) → Runs t (file_form file_kind) 0 (Refused rest)
  unfolding file_form
  next_refused mid parsed so_far semicolon r =
      next_join_refused t (is_sign sign.Semicolon) (optional_class_form file_kind) 0 mid so_far.written so_far.read
      (token.Sign sign.Semicolon) semicolon (sign_is sign.Semicolon) r

  -- ---- what is read of the file

  -- at the end of the file there is no token
  pub ended : (at : ℕ) → kind_at t.list.now at ≡ None → length t.list.now ≤ at
  ended at none = elim (slice_get_cases t.list.now at).1 [
    | inl found ↦
        let there = occurrence t at found.1 in
        let same : kind_at t.list.now at ≡ Some there.0 = there.1 in
        absurd (cc)
    | inr end ↦ end.0
  ]

  whole_read : (written : List Written) (next : ℕ) → length t.list.now ≤ next → Takes (file_form file_kind) t 0 written next
      → read_as (file_form file_kind) (lexemes_of t.file t.src.now t.list.now) ≡ Read written []
  unfolding lexemes_from
  whole_read written next end h = h.is ∙ ap (Read written) (past t next end)

  pub file_read : (next : ℕ) (parsed whole : ParsedFiles) → ParsedTo parsed next → kind_at t.list.now next ≢ Some (token.Sign sign.Semicolon)
      → length t.list.now ≤ next
      → whole ≡ parsed → IsRead t.file t.src.now t.list.now file_kind first whole
  file_read next parsed whole so_far other end same = record {
    written = so_far.written;
    all = whole_read so_far.written next end (file_taken next parsed so_far other);
    made = same ∙ so_far.same;
  }

  -- a token is left
  pub file_left : (next : ℕ) (parsed : ParsedFiles) (e : Rejection) (r : Result ParsedFiles Rejection) → r ≡ Err e
      → e ≡ unexpected_at t.file t.src.now t.list.now next → ParsedTo parsed next
      → kind_at t.list.now next ≢ Some (token.Sign sign.Semicolon) → next < length t.list.now
      → FileReads t.file t.src.now t.list.now file_kind first r
  unfolding lexemes_from
  file_left next parsed e r is there so_far other short =
      rw (is, there) (left so_far.written next (file_taken next parsed so_far other).is short)

  file_refused : (e : Rejection) → ReadsAs (file_form file_kind) t 0 (Err e)
      → FileReads t.file t.src.now t.list.now file_kind first (Err e)
  unfolding lexemes_from
  file_refused (fault.Refused refusal) h = rw h.fault (refused h.at h.is)
  file_refused (fault.Failed why) h = tt

  -- a class is refused
  pub class_refused : (at : ℕ) (e : Rejection) (r : Result ParsedFiles Rejection) → r ≡ Err e
      → ReadsAs (optional_class_form file_kind) t at (Err e)
      → ((rest : List Lexeme) → Runs t (optional_class_form file_kind) at (Refused rest) → Runs t (file_form file_kind) 0 (Refused rest))
      → FileReads t.file t.src.now t.list.now file_kind first r
  class_refused at e r is h step = rw is (file_refused e (handed_on t (optional_class_form file_kind) at e refl h step))

-- ---- after the rules of words and levels

pub scanned : (file : ℕ) (text : List ℕ) (tokens : List Token) (file_kind : FileKind) (first : ℕ) (r : Result ParsedFiles Rejection)
    → AreTaken tokens (length tokens)
    → FileReads file text tokens file_kind first r → Parses file text tokens file_kind first r
scanned file text tokens file_kind first (Ok parsed) taken h = h
scanned file text tokens file_kind first (Err (fault.Refused refusal)) taken h = inr (taken, h)
scanned file text tokens file_kind first (Err (fault.Failed why)) taken h = tt

pub scan_refused : (file : ℕ) (text : List ℕ) (tokens : List Token) (file_kind : FileKind) (first : ℕ) (e : Rejection)
    (r : Result ParsedFiles Rejection) → r ≡ Err e
    → RefusesTokens tokens file e → Parses file text tokens file_kind first r
scan_refused file text tokens file_kind first (fault.Refused refusal) r is h = rw is (inl h)
scan_refused file text tokens file_kind first (fault.Failed why) r is h = rw is tt
