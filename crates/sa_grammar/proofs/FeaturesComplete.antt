-- The forms of features are complete.
use Rattle.std.proofs.Common.{◌≡◌, ℕ, suc, ◌+◌, ◌<◌, ◌≤◌, Bool, true, false, ◌||◌, List, [], ◌∷◌, ◌++◌, length, refl, ap, arith, length-append, Option, Some, map}
use Rattle.sa_lexer.specs.declared.token.TokenKind.{TokenKind}
use Rattle.sa_lexer.specs.declared.token.TokenKind.TheVariants as token
use Rattle.sa_lexer.specs.declared.sign.Sign.TheVariants as sign
use Rattle.sa_lexer.specs.declared.word.Word.{Word}
use Rattle.sa_lexer.specs.declared.word.Word.TheVariants as word
use Rattle.sa_ast.specs.declared.ty.Ty.{Ty}
use Rattle.sa_ast.specs.declared.expr.Expr.{Expr}
use Rattle.sa_ast.specs.declared.stmt.Local.{Local}
use Rattle.sa_ast.specs.declared.stmt.Stmt.{Stmt}
use Rattle.sa_ast.specs.declared.class.Access.{Access}
use Rattle.sa_ast.specs.declared.class.Access.TheVariants.{Public, Private}
use Rattle.sa_ast.specs.declared.class.ClassKind.{ClassKind}
use Rattle.sa_ast.specs.declared.class.ClassKind.TheVariants as kinds
use Rattle.sa_ast.specs.declared.class.FeatureBody.TheVariants as part
use Rattle.sa_ast.specs.declared.class.Feature.{Feature}
use Rattle.sa_ast.specs.declared.class.FeatureModifier.{FeatureModifier}
use Rattle.sa_ast.specs.declared.contract.Condition.{Condition}
use Rattle.sa_parser_expr.specs.Lexemes.{Lexeme, IsWord, IsSign, IsFeature, lower_name, iter_name}
use Rattle.sa_parser_expr.specs.Types.{IsType}
use Rattle.sa_parser_expr.specs.Readings.{Read}
use Rattle.sa_parser_expr.specs.Tests.{is_sign, is_sign_kind, is_word, is_word_kind, is_feature_kind}
use Rattle.sa_parser_expr.specs.Forms.{Form, Reader, Nested, Ast, shift, make, list, opens, type, stmts}
use Rattle.sa_parser_expr.proofs.Tested.{sign_met, word_met, feature_met, other_sign, other_word}
use Rattle.sa_parser_expr.proofs.Shifts.{Shut, Meets}
use Rattle.sa_parser.specs.declared.file.FileKind.{FileKind}
use Rattle.sa_parser.specs.declared.file.FileKind.TheVariants.{Prelude, Program}
use Rattle.sa_parser.specs.Names as names
use Rattle.sa_parser.specs.Names.{IsMoreNames, IsNames}
use Rattle.sa_parser.specs.Statements as stmt
use Rattle.sa_parser.specs.Statements.{IsAssigned}
use Rattle.sa_parser.specs.Signatures as sigs
use Rattle.sa_parser.specs.Signatures.{IsSig}
use Rattle.sa_parser.specs.Conditions as cond
use Rattle.sa_parser.specs.Conditions.{IsClauses, IsInvariant, no_clauses}
use Rattle.sa_parser.specs.Features as features
use Rattle.sa_parser.specs.Features.{Enclosing, IsPrivate, IsNewName, IsChange, IsChanges, IsOptionalChanges, IsSharedParts, IsDeclared, IsConstants, IsWholeBody, IsCalled, IsMember}
use Rattle.sa_parser.specs.Features.{variable_of, feature_of}
use Rattle.sa_parser.specs.Classes.{invariants_of}
use Rattle.sa_parser.specs.FeatureForms.{include_of, change_to, changed_form, new_name_form, change_form, optional_changes_form, include_form, attr_form, shared_parts_form, shared_form, more_names_form}
use Rattle.sa_parser.specs.FeatureForms.{typed_constant_form, constants_form, declared_or, whole_body_form, routine_form, stub_or, builtin_or, is_private, open_form, invariant_or, member_form}
use Rattle.sa_grammar.proofs.Parts.{Signature, Clauses, SharedParts, Declaration, called_of, variables_of, invariant_of}
use Rattle.sa_grammar.proofs.Sound.{Listed, last, more}
use Rattle.sa_grammar.proofs.Complete.{Reads, reads-give, reads-met, reads-other, reads-first, reads-second, reads-follow, reads-make, reads-joined, reads-list}
use Rattle.sa_grammar.proofs.TypeForms.{EndsType, sign_ends}
use Rattle.sa_grammar.proofs.ExpressionStarts.{meets_front, sign_shut, word_shut}
use Rattle.sa_grammar.proofs.ExpressionEnds.{Ends, after_expr, ends_left, ends_right, kind_ends}
use Rattle.sa_grammar.proofs.ExpressionsSound.{Spells}
use Rattle.sa_grammar.proofs.ExpressionsComplete.{EndsOf, nest_read}
use Rattle.sa_grammar.proofs.StatementEnds.{after_simple, after_stmts}
use Rattle.sa_grammar.proofs.StatementsComplete.{lower_met, value_read, assigned_apart, assigned_read, assigned_ends}
use Rattle.sa_grammar.proofs.BodiesComplete.{reads-until_word}
use Rattle.sa_grammar.proofs.Signatures.{after_sig, names_read, sig_read}
use Rattle.sa_grammar.proofs.Conditions.{clause_ends, clauses_read, invariant_read}
use Rattle.sa_grammar.proofs.FeaturesSound.{IsOpen, called, declared, constants, included, most}

-- ---- what comes after members

-- nothing, a `;` or an "end"
pub data IsClosed : List Lexeme → Type 0 where
  nothing : IsClosed []
  parted : {l : Lexeme} {rest : List Lexeme} → IsSign sign.Semicolon l → IsClosed (l ∷ rest)
  ended : {w : Lexeme} {rest : List Lexeme} → IsWord word.End w → IsClosed (w ∷ rest)

pub closed_ends : (after : TokenKind → Bool) → after (token.Sign sign.Semicolon) ≡ false → after (token.Word word.End) ≡ false → {rest : List Lexeme} → IsClosed rest → Ends after rest
closed_ends after none also nothing = tt
closed_ends after none also (parted {l = l} {rest = rest} is) = kind_ends after l rest is.kind none
closed_ends after none also (ended {w = w} {rest = rest} is) = kind_ends after w rest is.kind also

closed_ends_type : {rest : List Lexeme} → IsClosed rest → EndsType rest
closed_ends_type h = record { brace = closed_ends (is_sign_kind sign.LeftBrace) refl refl h; colon = closed_ends (is_sign_kind sign.Colon) refl refl h }

-- ---- what the parts begin with, and what ends them

feature_no_word : (w : Word) {f : Lexeme} → IsFeature f → is_word w f ≡ false
feature_no_word w (lower_name e) = ap (is_word_kind w) e
feature_no_word w (iter_name e) = ap (is_word_kind w) e

-- after the arrow of a change
abbrev after_access : TokenKind → Bool
after_access k = is_word_kind word.Readonly k || is_feature_kind k

abbrev after_arrow : TokenKind → Bool
after_arrow k = is_word_kind word.Private k || after_access k

abbrev begins_change : TokenKind → Bool
begins_change k = is_feature_kind k || false

change_starts : {ls : List Lexeme} {change : FeatureModifier} → IsChange ls change → Meets (λ l. begins_change l.kind) ls
change_starts (features.change is to h) = ap (λ b. b || false) (feature_met is)

changes_start : {ls : List Lexeme} {all : List FeatureModifier} → IsChanges ls all → Meets (λ l. begins_change l.kind) ls
changes_start (features.last one) = change_starts one
changes_start (features.more {ls = ls} {ms = ms} {comma = comma} one is others) = meets_front (λ l. begins_change l.kind) ls (comma ∷ ms) (change_starts one)

changes_separated : {ls : List Lexeme} {all : List FeatureModifier} → IsChanges ls all → Listed IsChange ls all
changes_separated (features.last one) = last one
changes_separated (features.more one is others) = more one (sign_met is) (changes_separated others)

changes_end_type : {ls : List Lexeme} {all : List FeatureModifier} (rest : List Lexeme) → IsOptionalChanges ls all → IsClosed rest → EndsType (ls ++ rest)
changes_end_type rest features.IsOptionalChanges.absent h = closed_ends_type h
changes_end_type rest (features.IsOptionalChanges.given {ls = ls} changes) h = record {
  brace = sign_shut begins_change sign.LeftBrace refl ls rest (changes_start changes);
  colon = sign_shut begins_change sign.Colon refl ls rest (changes_start changes);
}

changes_open : (ls : List Lexeme) → Meets (λ l. begins_change l.kind) ls → Meets (opens (list change_form)) ls
unfolding change_form
changes_open ls h = h

changes_shut : (rest : List Lexeme) → Ends begins_change rest → Shut (opens (list change_form)) rest
unfolding change_form
changes_shut rest h = h

more_names_end : {ls : List Lexeme} {others : List Local} (after : TokenKind → Bool) → after (token.Sign sign.Comma) ≡ false → (rest : List Lexeme) → IsMoreNames ls others
    → Ends after rest → Ends after (ls ++ rest)
more_names_end after none rest names.no_more_names ends = ends
more_names_end after none rest (names.more_names {comma = comma} {l = l} {ls = ls} is k h) ends = kind_ends after comma (l ∷ (ls ++ rest)) is.kind none

value_shuts_colon : {ls : List Lexeme} {value : Option Expr} (rest : List Lexeme) → IsAssigned ls value → Shut (is_sign sign.Colon) rest → Shut (is_sign sign.Colon) (ls ++ rest)
value_shuts_colon rest stmt.not_assigned shut = shut
value_shuts_colon rest (stmt.assigned is h) shut = other_sign sign.Colon refl is

-- clauses, before `is`
clauses_end : {file_kind : FileKind} {ls : List Lexeme} {all : Clauses} (after : TokenKind → Bool) → after (token.Word word.Pre) ≡ false → after (token.Word word.Post) ≡ false
    → after (token.Word word.Is) ≡ false → (w : Lexeme) (rest : List Lexeme) → IsClauses file_kind ls all → IsWord word.Is w → Ends after (ls ++ w ∷ rest)
clauses_end after pre post none w rest cond.IsClauses.absent is = kind_ends after w rest is.kind none
clauses_end after pre post none w rest (cond.IsClauses.given e cond.IsClause.absent k) is = clause_ends after post (w ∷ rest) k (kind_ends after w rest is.kind none)
clauses_end after pre post none w rest (cond.IsClauses.given {ms = ms} e (cond.IsClause.given {w = v} {ls = ls} v_is h) k) is = kind_ends after v ((ls ++ ms) ++ w ∷ rest) v_is.kind pre

sig_starts : {ls : List Lexeme} {one : Signature} → IsSig ls one → Meets (λ l. is_feature_kind l.kind) ls
sig_starts (sigs.sig is first second) = feature_met is

constants_start : {access : Access} {ls : List Lexeme} {all : List Feature} → IsConstants access ls all → Meets (λ l. is_word_kind word.Const l.kind) ls
constants_start (features.typed_constant is l colon one gets h) = word_met is
constants_start (features.counted_constants is l h others) = word_met is

invariant_starts : {ls : List Lexeme} {holds : Condition} → IsInvariant ls holds → Meets (λ l. is_word_kind word.Invariant l.kind) ls
invariant_starts (cond.invariant is colon bool v gives h closes) = word_met is

-- words that begin a member after the words of access
abbrev word_begins_open : Word → Bool
word_begins_open word.Attr = true
word_begins_open word.Shared = true
word_begins_open word.Const = true
word_begins_open word.Include = true
word_begins_open word.Stub = true
word_begins_open word.Builtin = true
word_begins_open _ = false

abbrev begins_open : TokenKind → Bool
begins_open (token.Word w) = word_begins_open w
begins_open token.Lower = true
begins_open token.IterName = true
begins_open _ = false

sig_opens : {ls : List Lexeme} {one : Signature} → IsSig ls one → Meets (λ l. begins_open l.kind) ls
sig_opens (sigs.sig (lower_name e) first second) = ap begins_open e
sig_opens (sigs.sig (iter_name e) first second) = ap begins_open e

called_starts : {class : Enclosing} {access : Access} {ls : List Lexeme} {feature : Feature} {clauses : Clauses} → IsCalled class access ls feature clauses → Meets (λ l. begins_open l.kind) ls
called_starts (features.routine {ls = ls} {cs = cs} {ms = ms} h k j) =
    meets_front (λ l. begins_open l.kind) (ls ++ cs) ms (meets_front (λ l. begins_open l.kind) ls cs (sig_opens h))
called_starts (features.stub e is h) = ap begins_open is.kind
called_starts (features.builtin e is h) = ap begins_open is.kind

open_starts : {class : Enclosing} {access : Access} {ls : List Lexeme} {m : Declaration} → IsOpen class access ls m → Meets (λ l. begins_open l.kind) ls
open_starts (called h) = called_starts h
open_starts (declared (features.attr is h colon one)) = ap begins_open is.kind
open_starts (declared (features.shared is h colon one)) = ap begins_open is.kind
open_starts (constants (features.typed_constant is l colon one gets h)) = ap begins_open is.kind
open_starts (constants (features.counted_constants is l h others)) = ap begins_open is.kind
open_starts (included is one changes) = ap begins_open is.kind

module _ (level : ℕ) (nested : (n : Nested) → Reader (Ast n)) where
  -- ---- other alternatives are skipped

  past_declared : (access : Access) {other : Form Declaration} {ls rest : List Lexeme} {m : Declaration} → Shut (is_word word.Attr) ls → Shut (is_word word.Shared) ls
      → Reads level nested other ls m rest → Reads level nested (declared_or access other) ls m rest
  unfolding declared_or
  past_declared access attr shared r = reads-other attr (reads-other shared r)

  past_stub : (kind : ClassKind) (access : Access) {other : Form Declaration} {ls rest : List Lexeme} {m : Declaration} → Shut (is_word word.Stub) ls → Reads level nested other ls m rest
      → Reads level nested (stub_or kind access other) ls m rest
  unfolding stub_or
  past_stub kinds.Reference access shut r = r
  past_stub kinds.Immutable access shut r = r
  past_stub kinds.Abstract access shut r = r
  past_stub kinds.Partial access shut r = reads-other shut r

  past_builtin : (file_kind : FileKind) (name : List ℕ) (access : Access) {other : Form Declaration} {ls rest : List Lexeme} {m : Declaration} → Shut (is_word word.Builtin) ls
      → Reads level nested other ls m rest → Reads level nested (builtin_or file_kind name access other) ls m rest
  unfolding builtin_or
  past_builtin Program name access shut r = r
  past_builtin Prelude name access shut r = reads-other shut r

  past_invariant : (file_kind : FileKind) (invariants : Bool) {other : Form Declaration} {ls rest : List Lexeme} {m : Declaration} → Shut (is_word word.Invariant) ls
      → Reads level nested other ls m rest → Reads level nested (invariant_or file_kind invariants other) ls m rest
  unfolding invariant_or
  past_invariant Program true shut r = reads-other shut r
  past_invariant Program false shut r = r
  past_invariant Prelude true shut r = r
  past_invariant Prelude false shut r = r

module _ (level : ℕ) (nested : (n : Nested) → Reader (Ast n))
    (inside : (n : Nested) (ls : List Lexeme) (t : Ast n) (rest : List Lexeme) → Spells n ls t → length ls < level → EndsOf n rest → nested n (ls ++ rest) ≡ Read t rest) where
  -- ---- includes

  changed_read : (f : Lexeme) {ls : List Lexeme} {access : Access} {to : Option (List ℕ)} (rest : List Lexeme) → IsNewName ls access to → Ends after_arrow rest
      → Reads level nested (changed_form f) (ls ++ rest) (change_to f access to) rest
  unfolding changed_form new_name_form
  changed_read f rest features.IsNewName.absent ends =
      let following = ends_right (is_word_kind word.Private) after_access rest ends in
      reads-other (ends_left (is_word_kind word.Private) after_access rest ends)
      (reads-other (ends_left (is_word_kind word.Readonly) is_feature_kind rest following) (reads-other (ends_right (is_word_kind word.Readonly) is_feature_kind rest following) reads-give))
  changed_read f rest (features.IsNewName.given (features.private features.IsPrivate.absent) is) ends =
      reads-other (feature_no_word word.Private is) (reads-other (feature_no_word word.Readonly is) (reads-met (feature_met is) reads-give))
  changed_read f rest (features.IsNewName.given (features.private (features.private_word w)) is) ends = reads-met (word_met w) (reads-met (feature_met is) reads-give)
  changed_read f rest (features.IsNewName.given (features.readonly_word w) is) ends =
      reads-other (other_word word.Private refl w) (reads-met (word_met w) (reads-met (feature_met is) reads-give))

  change_read : (ls : List Lexeme) (change : FeatureModifier) (rest : List Lexeme) → IsChange ls change → length ls < level → Ends after_arrow rest → Reads level nested change_form (ls ++ rest) change rest
  unfolding change_form
  change_read _ _ rest (features.change {f = f} is to h) small ends = reads-met (feature_met is) (reads-met (sign_met to) (changed_read f rest h ends))

  optional_changes_read : {ls : List Lexeme} {all : List FeatureModifier} (rest : List Lexeme) → IsOptionalChanges ls all → length ls < level → IsClosed rest
      → Reads level nested optional_changes_form (ls ++ rest) all rest
  unfolding optional_changes_form
  optional_changes_read rest features.IsOptionalChanges.absent small closed = reads-second (changes_shut rest (closed_ends begins_change refl refl closed)) reads-give
  optional_changes_read rest (features.IsOptionalChanges.given {ls = ls} h) small closed =
      reads-first (meets_front (opens (list change_form)) ls rest (changes_open ls (changes_start h)))
      (reads-list level nested IsChange (Ends after_arrow) change_form change_read (λ l tail is. kind_ends after_arrow l tail is.kind refl) rest (changes_separated h) small
      (closed_ends after_arrow refl refl closed) (closed_ends (is_sign_kind sign.Comma) refl refl closed))

  include_read : (private : Bool) {ls ms : List Lexeme} {t : Ty} {changes : List FeatureModifier} (rest : List Lexeme) → IsType ls t → IsOptionalChanges ms changes → length (ls ++ ms) < level
      → IsClosed rest → Reads level nested (include_form private) ((ls ++ ms) ++ rest) (include_of private t changes) rest
  unfolding include_form
  include_read private {ls = ls} {ms = ms} {t = t} rest one h small closed =
      let sum : length (ls ++ ms) ≡ length ls + length ms = length-append ls ms in
      reads-joined ls ms rest
      (reads-follow (nest_read level nested inside type ls t (ms ++ rest) one (omega arith) (changes_end_type rest h closed))
      (reads-make (optional_changes_read rest h (omega arith) closed)))

  -- ---- attributes, shareds and constants

  attr_read : (access : Access) {ls ms : List Lexeme} {all : List Local} {t : Ty} (colon : Lexeme) (rest : List Lexeme) → IsNames ls all → IsSign sign.Colon colon → IsType ms t
      → length (ls ++ colon ∷ ms) < level → IsClosed rest
      → Reads level nested (attr_form access) ((ls ++ colon ∷ ms) ++ rest) (map (variable_of access (Some t) part.Attr) all) rest
  unfolding attr_form
  attr_read access {ls = ls} {ms = ms} {t = t} colon rest h is one small closed =
      let sum : length (ls ++ colon ∷ ms) ≡ length ls + suc (length ms) = length-append ls (colon ∷ ms) in
      reads-joined ls (colon ∷ ms) rest
      (reads-follow (names_read level nested inside (colon ∷ (ms ++ rest)) h (omega arith) (other_sign sign.Comma refl is))
      (reads-met (sign_met is) (reads-make (nest_read level nested inside type ms t rest one (omega arith) (closed_ends_type closed)))))

  shared_parts_read : {ls : List Lexeme} {parts : SharedParts} (rest : List Lexeme) → IsSharedParts ls parts → length ls < level → IsClosed rest
      → Reads level nested shared_parts_form (ls ++ rest) parts rest
  unfolding shared_parts_form
  shared_parts_read rest (features.shared_parts {ls = ls} {ms = ms} {t = t} one h) small closed =
      let sum : length (ls ++ ms) ≡ length ls + length ms = length-append ls ms in
      let ends = closed_ends after_simple refl refl closed in
      reads-joined ls ms rest
      (reads-follow (nest_read level nested inside type ls t (ms ++ rest) one (omega arith) (assigned_ends rest h ends))
      (reads-make (assigned_read level nested inside rest h (omega arith) ends)))

  shared_read : (access : Access) {ls ms : List Lexeme} {all : List Local} {parts : SharedParts} (colon : Lexeme) (rest : List Lexeme) → IsNames ls all → IsSign sign.Colon colon
      → IsSharedParts ms parts → length (ls ++ colon ∷ ms) < level → IsClosed rest
      → Reads level nested (shared_form access) ((ls ++ colon ∷ ms) ++ rest) (map (variable_of access (Some parts.ty) (part.Shared parts.value)) all) rest
  unfolding shared_form
  shared_read access {ls = ls} {ms = ms} colon rest h is one small closed =
      let sum : length (ls ++ colon ∷ ms) ≡ length ls + suc (length ms) = length-append ls (colon ∷ ms) in
      reads-joined ls (colon ∷ ms) rest
      (reads-follow (names_read level nested inside (colon ∷ (ms ++ rest)) h (omega arith) (other_sign sign.Comma refl is))
      (reads-met (sign_met is) (reads-make (shared_parts_read rest one (omega arith) closed))))

  declared_read : (access : Access) (other : Form Declaration) {ls : List Lexeme} {all : List Feature} (rest : List Lexeme) → IsDeclared access ls all → length ls < suc level → IsClosed rest
      → Reads level nested (declared_or access other) (ls ++ rest) (variables_of all) rest
  unfolding declared_or
  declared_read access other rest (features.attr {colon = colon} is h k one) small closed = reads-met (word_met is) (reads-make (attr_read access colon rest h k one (omega arith) closed))
  declared_read access other rest (features.shared {colon = colon} is h k one) small closed =
      reads-other (other_word word.Attr refl is) (reads-met (word_met is) (reads-make (shared_read access colon rest h k one (omega arith) closed)))

  more_names_read : {ls : List Lexeme} {others : List Local} (rest : List Lexeme) → IsMoreNames ls others → length ls < level → IsClosed rest
      → Reads level nested more_names_form (ls ++ rest) others rest
  unfolding more_names_form
  more_names_read rest names.no_more_names small closed = reads-other (closed_ends (is_sign_kind sign.Comma) refl refl closed) reads-give
  more_names_read rest (names.more_names is k h) small closed =
      reads-met (sign_met is) (names_read level nested inside rest (names.all_names k h) (omega arith) (closed_ends (is_sign_kind sign.Comma) refl refl closed))

  constants_read : {access : Access} {other : Form Declaration} {ls : List Lexeme} {all : List Feature} (rest : List Lexeme) → IsConstants access ls all → length ls < suc level → IsClosed rest
      → Reads level nested (shift (is_word word.Const) (λ _. make variables_of (constants_form access)) other) (ls ++ rest) (variables_of all) rest
  unfolding constants_form typed_constant_form
  constants_read rest (features.typed_constant {l = l} {gets = gets} {ls = ls} {ms = ms} {t = t} {e = e} is k colon one assigns h) small closed =
      let sum : length (ls ++ gets ∷ ms) ≡ length ls + suc (length ms) = length-append ls (gets ∷ ms) in
      reads-met (word_met is)
      (reads-make
      (reads-met (lower_met l k) (reads-met (sign_met colon)
      (reads-joined ls (gets ∷ ms) rest
      (reads-follow (nest_read level nested inside type ls t (gets ∷ (ms ++ rest)) one (omega arith) (sign_ends sign.Assign refl refl gets (ms ++ rest) assigns))
      (reads-met (sign_met assigns) (reads-make (value_read level nested inside ms e rest h (omega arith) (closed_ends after_expr refl refl closed)))))))))
  constants_read rest (features.counted_constants {l = l} {ls = ls} {ms = ms} is k h others) small closed =
      let sum : length (ls ++ ms) ≡ length ls + length ms = length-append ls ms in
      reads-met (word_met is)
      (reads-make
      (reads-met (lower_met l k)
      (reads-joined ls ms rest
      (reads-other (value_shuts_colon (ms ++ rest) h (more_names_end (is_sign_kind sign.Colon) refl rest others (closed_ends (is_sign_kind sign.Colon) refl refl closed)))
      (reads-follow
      (assigned_apart level nested inside (ms ++ rest) h (omega arith)
      (more_names_end (is_sign_kind sign.Assign) refl rest others (closed_ends (is_sign_kind sign.Assign) refl refl closed))
      (more_names_end after_expr refl rest others (closed_ends after_expr refl refl closed)))
      (reads-make (more_names_read rest others (omega arith) closed)))))))

  -- ---- features

  routine_read : (class : Enclosing) (access : Access) {ls cs ms : List Lexeme} {sig : Signature} {clauses : Clauses} {body : List Stmt} (rest : List Lexeme) → IsSig ls sig
      → IsClauses class.file_kind cs clauses → IsWholeBody ms body → length (ls ++ cs ++ ms) < suc level
      → Reads level nested (routine_form class access) ((ls ++ cs ++ ms) ++ rest) (called_of (feature_of sig access (part.Routine body)) clauses) rest
  unfolding routine_form whole_body_form
  routine_read class access {ls = ls} {cs = cs} {body = all} rest h k (features.whole_body {closing = closed} (stmt.body {w = w} {ls = xs} is j) closes) small =
      let sum : length ((ls ++ cs) ++ w ∷ (xs ++ closed ∷ [])) ≡ length (ls ++ cs) + suc (length (xs ++ closed ∷ [])) = length-append (ls ++ cs) (w ∷ (xs ++ closed ∷ [])) in
      let part : length (ls ++ cs) ≡ length ls + length cs = length-append ls cs in
      let body : length (xs ++ closed ∷ []) ≡ length xs + 1 = length-append xs (closed ∷ []) in
      let tail : List Lexeme = (xs ++ closed ∷ []) ++ rest in
      reads-joined (ls ++ cs) (w ∷ (xs ++ closed ∷ [])) rest
      (reads-joined ls cs (w ∷ tail)
      (reads-follow (sig_read level nested inside (cs ++ w ∷ tail) h (omega arith) (clauses_end after_sig refl refl refl w tail k is))
      (reads-follow (clauses_read level nested inside class.file_kind w tail k (omega arith) is)
      (reads-make
      (reads-met (word_met is)
      (reads-until_word level nested inside xs (nest_read level nested inside stmts xs all (closed ∷ rest) j (omega arith) (kind_ends after_stmts closed rest closes.kind refl)) closes))))))

  stub_read : (kind : ClassKind) (access : Access) (other : Form Declaration) {w : Lexeme} {ls : List Lexeme} {sig : Signature} (rest : List Lexeme) → kind ≡ kinds.Partial → IsWord word.Stub w
      → IsSig ls sig → length ls < level → IsClosed rest
      → Reads level nested (stub_or kind access other) (w ∷ (ls ++ rest)) (called_of (feature_of sig access part.Stub) no_clauses) rest
  unfolding stub_or
  stub_read kinds.Partial access other rest e is h small closed =
      reads-met (word_met is) (reads-make (sig_read level nested inside rest h (omega arith) (closed_ends after_sig refl refl closed)))
  stub_read _ access other rest e is h small closed = absurd (cc)

  builtin_read : (file_kind : FileKind) (name : List ℕ) (access : Access) (other : Form Declaration) {w : Lexeme} {ls : List Lexeme} {sig : Signature} (rest : List Lexeme) → file_kind ≡ Prelude
      → IsWord word.Builtin w → IsSig ls sig → length ls < level → IsClosed rest
      → Reads level nested (builtin_or file_kind name access other) (w ∷ (ls ++ rest)) (called_of (feature_of sig access (part.Builtin name sig.name.name)) no_clauses) rest
  unfolding builtin_or
  builtin_read Prelude name access other rest e is h small closed =
      reads-met (word_met is) (reads-make (sig_read level nested inside rest h (omega arith) (closed_ends after_sig refl refl closed)))
  builtin_read _ name access other rest e is h small closed = absurd (cc)

  called_read : (class : Enclosing) (access : Access) {ls : List Lexeme} {feature : Feature} {clauses : Clauses} (rest : List Lexeme) → IsCalled class access ls feature clauses
      → length ls < suc level → IsClosed rest → Reads level nested (open_form class access) (ls ++ rest) (called_of feature clauses) rest
  unfolding open_form
  called_read class access rest (features.routine {ls = ls} {cs = cs} {ms = ms} h k j) small closed =
      let starts = meets_front (λ l. is_feature_kind l.kind) (ls ++ cs) ms (meets_front (λ l. is_feature_kind l.kind) ls cs (sig_starts h)) in
      past_declared level nested access (word_shut is_feature_kind word.Attr refl (ls ++ cs ++ ms) rest starts) (word_shut is_feature_kind word.Shared refl (ls ++ cs ++ ms) rest starts)
      (reads-other (word_shut is_feature_kind word.Const refl (ls ++ cs ++ ms) rest starts) (reads-other (word_shut is_feature_kind word.Include refl (ls ++ cs ++ ms) rest starts)
      (past_stub level nested class.kind access (word_shut is_feature_kind word.Stub refl (ls ++ cs ++ ms) rest starts)
      (past_builtin level nested class.file_kind class.name access (word_shut is_feature_kind word.Builtin refl (ls ++ cs ++ ms) rest starts)
      (routine_read class access rest h k j small)))))
  called_read class access rest (features.stub e is h) small closed =
      past_declared level nested access (other_word word.Attr refl is) (other_word word.Shared refl is)
      (reads-other (other_word word.Const refl is) (reads-other (other_word word.Include refl is) (stub_read class.kind access _ rest e is h (omega arith) closed)))
  called_read class access rest (features.builtin e is h) small closed =
      past_declared level nested access (other_word word.Attr refl is) (other_word word.Shared refl is)
      (reads-other (other_word word.Const refl is) (reads-other (other_word word.Include refl is)
      (past_stub level nested class.kind access (other_word word.Stub refl is) (builtin_read class.file_kind class.name access _ rest e is h (omega arith) closed))))

  open_read : (class : Enclosing) (access : Access) {ls : List Lexeme} {m : Declaration} (rest : List Lexeme) → IsOpen class access ls m → length ls < suc level → IsClosed rest
      → Reads level nested (open_form class access) (ls ++ rest) m rest
  unfolding open_form
  open_read class access rest (called h) small closed = called_read class access rest h small closed
  open_read class access rest (declared h) small closed = declared_read access _ rest h small closed
  open_read class access rest (constants {ls = ls} h) small closed =
      past_declared level nested access (word_shut (is_word_kind word.Const) word.Attr refl ls rest (constants_start h))
      (word_shut (is_word_kind word.Const) word.Shared refl ls rest (constants_start h))
      (constants_read rest h small closed)
  open_read class access rest (included is one changes) small closed =
      past_declared level nested access (other_word word.Attr refl is) (other_word word.Shared refl is)
      (reads-other (other_word word.Const refl is) (reads-met (word_met is) (include_read (is_private access) rest one changes (omega arith) closed)))

  -- ---- members

  public_read : (class : Enclosing) (invariants : Bool) {ls : List Lexeme} {m : Declaration} (rest : List Lexeme) → IsOpen class Public ls m → length ls < suc level → IsClosed rest
      → Reads level nested (member_form class invariants) (ls ++ rest) m rest
  unfolding member_form
  public_read class invariants {ls = ls} rest h small closed =
      reads-other (word_shut begins_open word.Private refl ls rest (open_starts h)) (reads-other (word_shut begins_open word.Readonly refl ls rest (open_starts h))
      (past_invariant level nested class.file_kind invariants (word_shut begins_open word.Invariant refl ls rest (open_starts h)) (open_read class Public rest h small closed)))

  private_read : (class : Enclosing) (invariants : Bool) {w : Lexeme} {ls : List Lexeme} {m : Declaration} (rest : List Lexeme) → IsWord word.Private w → IsOpen class Private ls m
      → length ls < suc level → IsClosed rest → Reads level nested (member_form class invariants) (w ∷ (ls ++ rest)) m rest
  unfolding member_form
  private_read class invariants rest is h small closed = reads-met (word_met is) (open_read class Private rest h small closed)

  one_invariant_read : (file_kind : FileKind) (invariants : Bool) (other : Form Declaration) {ls : List Lexeme} {holds : Condition} (rest : List Lexeme) → file_kind ≡ Program
      → 1 ≤ most invariants → IsInvariant ls holds → length ls < suc level → Reads level nested (invariant_or file_kind invariants other) (ls ++ rest) (invariant_of holds) rest
  unfolding invariant_or
  one_invariant_read Program true other rest e fits h small = invariant_read level nested inside rest h small
  one_invariant_read Program false other rest e fits h small = absurd (omega arith)
  one_invariant_read Prelude invariants other rest e fits h small = absurd (cc)

  pub member_read : (class : Enclosing) (invariants : Bool) {ls : List Lexeme} {m : Declaration} (rest : List Lexeme) → IsMember class ls m → length (invariants_of m) ≤ most invariants
      → length ls < suc level → IsClosed rest → Reads level nested (member_form class invariants) (ls ++ rest) m rest
  unfolding member_form
  member_read class invariants rest (features.called features.IsPrivate.absent h) fits small closed = public_read class invariants rest (called h) small closed
  member_read class invariants rest (features.called (features.private_word is) h) fits small closed = private_read class invariants rest is (called h) (omega arith) closed
  member_read class invariants rest (features.declared (features.private features.IsPrivate.absent) h) fits small closed = public_read class invariants rest (declared h) small closed
  member_read class invariants rest (features.declared (features.private (features.private_word is)) h) fits small closed =
      private_read class invariants rest is (declared h) (omega arith) closed
  member_read class invariants rest (features.declared (features.readonly_word is) h) fits small closed =
      reads-other (other_word word.Private refl is) (reads-met (word_met is) (declared_read _ _ rest h (omega arith) closed))
  member_read class invariants rest (features.constants features.IsPrivate.absent h) fits small closed = public_read class invariants rest (constants h) small closed
  member_read class invariants rest (features.constants (features.private_word is) h) fits small closed = private_read class invariants rest is (constants h) (omega arith) closed
  member_read class invariants rest (features.include is one changes) fits small closed = public_read class invariants rest (included is one changes) small closed
  member_read class invariants rest (features.private_include p is one changes) fits small closed = private_read class invariants rest p (included is one changes) (omega arith) closed
  member_read class invariants rest (features.invariant {ls = ls} e h) fits small closed =
      reads-other (word_shut (is_word_kind word.Invariant) word.Private refl ls rest (invariant_starts h))
      (reads-other (word_shut (is_word_kind word.Invariant) word.Readonly refl ls rest (invariant_starts h)) (one_invariant_read class.file_kind invariants _ rest e fits h small))
