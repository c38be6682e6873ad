-- What opens the form of members, and what doesn't.
use Rattle.std.proofs.Common.{◌≡◌, ℕ, ◌≤◌, Bool, true, false, ◌||◌, List, [], ◌∷◌, ◌++◌, length, refl, ap, ◌∙◌, arith}
use Rattle.std.proofs.lemmas.Bool.{or_parts, or_right}
use Rattle.sa_lexer.specs.declared.token.TokenKind.{TokenKind}
use Rattle.sa_lexer.specs.declared.word.Word.TheVariants as word
use Rattle.sa_ast.specs.declared.class.Access.{Access}
use Rattle.sa_ast.specs.declared.class.Access.TheVariants.{Public}
use Rattle.sa_ast.specs.declared.class.ClassKind.{ClassKind}
use Rattle.sa_ast.specs.declared.class.ClassKind.TheVariants as kinds
use Rattle.sa_parser_expr.specs.Lexemes.{Lexeme}
use Rattle.sa_parser_expr.specs.Tests.{is_word, is_word_kind, is_feature, is_feature_kind}
use Rattle.sa_parser_expr.specs.Forms.{Form, opens}
use Rattle.sa_parser_expr.proofs.Tested.{word_met, feature_met}
use Rattle.sa_parser_expr.proofs.Shifts.{Shut, Meets}
use Rattle.sa_parser.specs.declared.file.FileKind.{FileKind}
use Rattle.sa_parser.specs.declared.file.FileKind.TheVariants.{Prelude, Program}
use Rattle.sa_parser.specs.Signatures as sigs
use Rattle.sa_parser.specs.Signatures.{IsSig}
use Rattle.sa_parser.specs.Conditions as cond
use Rattle.sa_parser.specs.Features as features
use Rattle.sa_parser.specs.Features.{Enclosing, IsMember}
use Rattle.sa_parser.specs.Classes.{invariants_of}
use Rattle.sa_parser.specs.SignatureForms.{sig_form}
use Rattle.sa_parser.specs.FeatureForms.{declared_or, routine_form, stub_or, builtin_or, open_form, invariant_or, member_form}
use Rattle.sa_grammar.proofs.Parts.{Signature, Declaration}
use Rattle.sa_grammar.proofs.ExpressionStarts.{meets_front}
use Rattle.sa_grammar.proofs.FeaturesSound.{IsOpen, called, declared, constants, included, most}
use Rattle.sa_grammar.proofs.FeaturesComplete.{IsClosed, nothing, parted, ended, closed_ends}

or_first : (a b : Bool) → a ≡ true → (a || b) ≡ true
or_first a b h = ap (λ x. x || b) h

or_none : (a b : Bool) → a ≡ false → b ≡ false → (a || b) ≡ false
or_none a b h k = ap (λ x. x || b) h ∙ k

-- ---- what opens the alternatives

opens_stub : (kind : ClassKind) (access : Access) (other : Form Declaration) (l : Lexeme) → opens other l ≡ true → opens (stub_or kind access other) l ≡ true
unfolding stub_or
opens_stub kinds.Partial access other l h = or_right (is_word word.Stub l) (opens other l) h
opens_stub kinds.Reference access other l h = h
opens_stub kinds.Immutable access other l h = h
opens_stub kinds.Abstract access other l h = h

stub_opens : (kind : ClassKind) (access : Access) (other : Form Declaration) (l : Lexeme) → kind ≡ kinds.Partial → is_word word.Stub l ≡ true → opens (stub_or kind access other) l ≡ true
unfolding stub_or
stub_opens kinds.Partial access other l e h = or_first (is_word word.Stub l) (opens other l) h
stub_opens _ access other l e h = absurd (cc)

opens_builtin : (file_kind : FileKind) (name : List ℕ) (access : Access) (other : Form Declaration) (l : Lexeme) → opens other l ≡ true → opens (builtin_or file_kind name access other) l ≡ true
unfolding builtin_or
opens_builtin Prelude name access other l h = or_right (is_word word.Builtin l) (opens other l) h
opens_builtin Program name access other l h = h

builtin_opens : (file_kind : FileKind) (name : List ℕ) (access : Access) (other : Form Declaration) (l : Lexeme) → file_kind ≡ Prelude → is_word word.Builtin l ≡ true
    → opens (builtin_or file_kind name access other) l ≡ true
unfolding builtin_or
builtin_opens Prelude name access other l e h = or_first (is_word word.Builtin l) (opens other l) h
builtin_opens _ name access other l e h = absurd (cc)

opens_invariant : (file_kind : FileKind) (invariants : Bool) (other : Form Declaration) (l : Lexeme) → opens other l ≡ true → opens (invariant_or file_kind invariants other) l ≡ true
unfolding invariant_or
opens_invariant Program true other l h = or_right (is_word word.Invariant l) (opens other l) h
opens_invariant Program false other l h = h
opens_invariant Prelude true other l h = h
opens_invariant Prelude false other l h = h

invariant_opens : (file_kind : FileKind) (invariants : Bool) (other : Form Declaration) (l : Lexeme) → file_kind ≡ Program → 1 ≤ most invariants → is_word word.Invariant l ≡ true
    → opens (invariant_or file_kind invariants other) l ≡ true
unfolding invariant_or
invariant_opens Program true other l e fits h = or_first (is_word word.Invariant l) (opens other l) h
invariant_opens Program false other l e fits h = absurd (omega arith)
invariant_opens Prelude invariants other l e fits h = absurd (cc)

-- ---- what opens a member

-- after the four words that begin a member of each kind
past_words : (class : Enclosing) (access : Access) (l : Lexeme) → opens (stub_or class.kind access (builtin_or class.file_kind class.name access (routine_form class access))) l ≡ true
    → opens (open_form class access) l ≡ true
unfolding open_form declared_or
past_words class access l h =
    or_right (is_word word.Attr l) _ (or_right (is_word word.Shared l) _ (or_right (is_word word.Const l) _ (or_right (is_word word.Include l) _ h)))

sig_opens : (class : Enclosing) (access : Access) {ls : List Lexeme} {one : Signature} → IsSig ls one → Meets (opens (open_form class access)) ls
unfolding routine_form sig_form
sig_opens class access (sigs.sig {f = f} is first second) =
    past_words class access f
    (opens_stub class.kind access _ f (opens_builtin class.file_kind class.name access _ f (or_first (is_feature f) false (feature_met is))))

open_opens : (class : Enclosing) (access : Access) {ls : List Lexeme} {m : Declaration} → IsOpen class access ls m → Meets (opens (open_form class access)) ls
unfolding open_form declared_or
open_opens class access (called (features.routine {ls = ls} {cs = cs} {ms = ms} h k j)) =
    meets_front (opens (open_form class access)) (ls ++ cs) ms (meets_front (opens (open_form class access)) ls cs (sig_opens class access h))
open_opens class access (called (features.stub {w = w} e is h)) = past_words class access w (stub_opens class.kind access _ w e (word_met is))
open_opens class access (called (features.builtin {w = w} e is h)) =
    past_words class access w (opens_stub class.kind access _ w (builtin_opens class.file_kind class.name access _ w e (word_met is)))
open_opens class access (declared (features.attr {w = w} is h colon one)) = or_first (is_word word.Attr w) _ (word_met is)
open_opens class access (declared (features.shared {w = w} is h colon one)) = or_right (is_word word.Attr w) _ (or_first (is_word word.Shared w) _ (word_met is))
open_opens class access (constants (features.typed_constant {w = w} is l colon one gets h)) =
    or_right (is_word word.Attr w) _ (or_right (is_word word.Shared w) _ (or_first (is_word word.Const w) _ (word_met is)))
open_opens class access (constants (features.counted_constants {w = w} is l h others)) =
    or_right (is_word word.Attr w) _ (or_right (is_word word.Shared w) _ (or_first (is_word word.Const w) _ (word_met is)))
open_opens class access (included {w = w} is one changes) =
    or_right (is_word word.Attr w) _ (or_right (is_word word.Shared w) _ (or_right (is_word word.Const w) _ (or_first (is_word word.Include w) _ (word_met is))))

public_opens : (class : Enclosing) (invariants : Bool) (ls : List Lexeme) → Meets (opens (open_form class Public)) ls → Meets (opens (member_form class invariants)) ls
unfolding member_form
public_opens class invariants [] h = h
public_opens class invariants (l ∷ ls) h = or_right (is_word word.Private l) _ (or_right (is_word word.Readonly l) _ (opens_invariant class.file_kind invariants _ l h))

pub member_opens : (class : Enclosing) (invariants : Bool) {ls : List Lexeme} {m : Declaration} → IsMember class ls m → length (invariants_of m) ≤ most invariants
    → Meets (opens (member_form class invariants)) ls
unfolding member_form
member_opens class invariants (features.called {ms = ms} features.IsPrivate.absent h) fits = public_opens class invariants ms (open_opens class Public (called h))
member_opens class invariants (features.called (features.private_word {w = w} is) h) fits = or_first (is_word word.Private w) _ (word_met is)
member_opens class invariants (features.declared {ms = ms} (features.private features.IsPrivate.absent) h) fits = public_opens class invariants ms (open_opens class Public (declared h))
member_opens class invariants (features.declared (features.private (features.private_word {w = w} is)) h) fits = or_first (is_word word.Private w) _ (word_met is)
member_opens class invariants (features.declared (features.readonly_word {w = w} is) h) fits =
    or_right (is_word word.Private w) _ (or_first (is_word word.Readonly w) _ (word_met is))
member_opens class invariants (features.constants {ms = ms} features.IsPrivate.absent h) fits = public_opens class invariants ms (open_opens class Public (constants h))
member_opens class invariants (features.constants (features.private_word {w = w} is) h) fits = or_first (is_word word.Private w) _ (word_met is)
member_opens class invariants (features.include {w = w} {ls = ls} {ms = ms} is one changes) fits =
    public_opens class invariants (w ∷ (ls ++ ms)) (open_opens class Public (included is one changes))
member_opens class invariants (features.private_include {p = p} is k one changes) fits = or_first (is_word word.Private p) _ (word_met is)
member_opens class invariants (features.invariant e (cond.invariant {w = w} is colon bool v gives h closes)) fits =
    or_right (is_word word.Private w) _ (or_right (is_word word.Readonly w) _ (invariant_opens class.file_kind invariants _ w e fits (word_met is)))

-- ---- what doesn't

shuts_stub : (kind : ClassKind) (access : Access) (other : Form Declaration) (l : Lexeme) → is_word word.Stub l ≡ false → opens other l ≡ false → opens (stub_or kind access other) l ≡ false
unfolding stub_or
shuts_stub kinds.Partial access other l k h = or_none (is_word word.Stub l) (opens other l) k h
shuts_stub kinds.Reference access other l k h = h
shuts_stub kinds.Immutable access other l k h = h
shuts_stub kinds.Abstract access other l k h = h

shuts_builtin : (file_kind : FileKind) (name : List ℕ) (access : Access) (other : Form Declaration) (l : Lexeme) → is_word word.Builtin l ≡ false → opens other l ≡ false
    → opens (builtin_or file_kind name access other) l ≡ false
unfolding builtin_or
shuts_builtin Prelude name access other l k h = or_none (is_word word.Builtin l) (opens other l) k h
shuts_builtin Program name access other l k h = h

shuts_invariant : (file_kind : FileKind) (invariants : Bool) (other : Form Declaration) (l : Lexeme) → is_word word.Invariant l ≡ false → opens other l ≡ false
    → opens (invariant_or file_kind invariants other) l ≡ false
unfolding invariant_or
shuts_invariant Program true other l k h = or_none (is_word word.Invariant l) (opens other l) k h
shuts_invariant Program false other l k h = h
shuts_invariant Prelude true other l k h = h
shuts_invariant Prelude false other l k h = h

-- what a member begins with, in some class of some file
abbrev begins_called : TokenKind → Bool
begins_called k = is_word_kind word.Stub k || (is_word_kind word.Builtin k || is_feature_kind k)

abbrev begins_public : TokenKind → Bool
begins_public k = is_word_kind word.Attr k || (is_word_kind word.Shared k || (is_word_kind word.Const k || (is_word_kind word.Include k || begins_called k)))

abbrev begins_member : TokenKind → Bool
begins_member k = is_word_kind word.Private k || (is_word_kind word.Readonly k || (is_word_kind word.Invariant k || begins_public k))

called_shut : (class : Enclosing) (access : Access) (l : Lexeme) → begins_called l.kind ≡ false
    → opens (stub_or class.kind access (builtin_or class.file_kind class.name access (routine_form class access))) l ≡ false
unfolding routine_form sig_form
called_shut class access l h =
    let stubs = or_parts (is_word word.Stub l) _ h in
    let builtins = or_parts (is_word word.Builtin l) _ stubs.1 in
    shuts_stub class.kind access _ l stubs.0 (shuts_builtin class.file_kind class.name access _ l builtins.0 (or_none (is_feature l) false builtins.1 refl))

public_shut : (class : Enclosing) (access : Access) (l : Lexeme) → begins_public l.kind ≡ false → opens (open_form class access) l ≡ false
unfolding open_form declared_or
public_shut class access l h =
    let attrs = or_parts (is_word word.Attr l) _ h in
    let shareds = or_parts (is_word word.Shared l) _ attrs.1 in
    let consts = or_parts (is_word word.Const l) _ shareds.1 in
    let includes = or_parts (is_word word.Include l) _ consts.1 in
    or_none (is_word word.Attr l) _ attrs.0 (or_none (is_word word.Shared l) _ shareds.0
    (or_none (is_word word.Const l) _ consts.0 (or_none (is_word word.Include l) _ includes.0 (called_shut class access l includes.1))))

one_shut : (class : Enclosing) (invariants : Bool) (l : Lexeme) → begins_member l.kind ≡ false → opens (member_form class invariants) l ≡ false
unfolding member_form
one_shut class invariants l h =
    let privates = or_parts (is_word word.Private l) _ h in
    let readonlys = or_parts (is_word word.Readonly l) _ privates.1 in
    let others = or_parts (is_word word.Invariant l) _ readonlys.1 in
    or_none (is_word word.Private l) _ privates.0 (or_none (is_word word.Readonly l) _ readonlys.0
    (shuts_invariant class.file_kind invariants _ l others.0 (public_shut class Public l others.1)))

pub member_shut : (class : Enclosing) (invariants : Bool) {rest : List Lexeme} → IsClosed rest → Shut (opens (member_form class invariants)) rest
member_shut class invariants nothing = tt
member_shut class invariants (parted {l = l} {rest = rest} is) = one_shut class invariants l (closed_ends begins_member refl refl (parted {rest = rest} is))
member_shut class invariants (ended {w = w} {rest = rest} is) = one_shut class invariants w (closed_ends begins_member refl refl (ended {rest = rest} is))
