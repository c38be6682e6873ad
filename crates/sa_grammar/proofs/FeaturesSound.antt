-- The forms of features are sound.
use Rattle.std.proofs.Common.{◌≡◌, ℕ, ◌≤◌, Bool, true, false, List, [], ◌∷◌, ◌++◌, length, refl, subst, append_assoc, arith, Option, Some, None, map}
use Rattle.sa_lexer.specs.declared.token.TokenKind.TheVariants as token
use Rattle.sa_lexer.specs.declared.sign.Sign.TheVariants as sign
use Rattle.sa_lexer.specs.declared.word.Word.TheVariants as word
use Rattle.sa_ast.specs.declared.ty.Ty.{Ty}
use Rattle.sa_ast.specs.declared.ty.Ty.TheVariants as ty
use Rattle.sa_ast.specs.declared.expr.Expr.{Expr}
use Rattle.sa_ast.specs.declared.expr.Expr.TheVariants as exprtree
use Rattle.sa_ast.specs.declared.stmt.Local.{Local}
use Rattle.sa_ast.specs.declared.stmt.Stmt.{Stmt}
use Rattle.sa_ast.specs.declared.class.Access.{Access}
use Rattle.sa_ast.specs.declared.class.Access.TheVariants.{Public, Private, ReadOnly}
use Rattle.sa_ast.specs.declared.class.ClassKind.{ClassKind}
use Rattle.sa_ast.specs.declared.class.ClassKind.TheVariants as kinds
use Rattle.sa_ast.specs.declared.class.FeatureBody.TheVariants as part
use Rattle.sa_ast.specs.declared.class.Feature.{Feature}
use Rattle.sa_ast.specs.declared.class.FeatureModifier.{FeatureModifier}
use Rattle.sa_ast.specs.declared.contract.Condition.{Condition}
use Rattle.sa_parser_expr.specs.Lexemes.{Lexeme, IsWord, IsSign, IsFeature, lower_name, name_of}
use Rattle.sa_parser_expr.specs.Types as types
use Rattle.sa_parser_expr.specs.Types.{IsType}
use Rattle.sa_parser_expr.specs.Readings.{Spelling}
use Rattle.sa_parser_expr.specs.Forms.{Form, Reader, Nested, Ast, list, type, stmts}
use Rattle.sa_parser_expr.proofs.Tested.{sign_stands, word_stands, lower_stands, feature_stands, lexeme, a_sign, a_word}
use Rattle.sa_parser_expr.proofs.Shorter.{opened}
use Rattle.sa_parser.specs.declared.file.FileKind.{FileKind}
use Rattle.sa_parser.specs.declared.file.FileKind.TheVariants.{Prelude, Program}
use Rattle.sa_parser.specs.Names as names
use Rattle.sa_parser.specs.Names.{IsLower, IsMoreNames, IsNames}
use Rattle.sa_parser.specs.Statements as stmt
use Rattle.sa_parser.specs.Statements.{IsAssigned}
use Rattle.sa_parser.specs.Signatures.{IsSig}
use Rattle.sa_parser.specs.Conditions.{IsClauses, IsInvariant, no_clauses}
use Rattle.sa_parser.specs.Features as features
use Rattle.sa_parser.specs.Features.{Enclosing, IsPrivate, IsAccess, IsChange, IsChanges, IsOptionalChanges, IsSharedParts, IsDeclared, IsConstants, IsWholeBody, IsCalled, IsMember}
use Rattle.sa_parser.specs.Features.{variable_of, counted_from, feature_of}
use Rattle.sa_parser.specs.Classes.{invariants_of}
use Rattle.sa_parser.specs.FeatureForms.{include_of, change_to, new_name_form, changed_form, change_form, optional_changes_form, include_form, attr_form, shared_parts_form, shared_form, more_names_form}
use Rattle.sa_parser.specs.FeatureForms.{typed_constant_form, constants_form, declared_or, whole_body_form, routine_form, stub_or, builtin_or, is_private, open_form, invariant_or, member_form}
use Rattle.sa_grammar.proofs.Parts.{Signature, Clauses, Declaration, called_of, variables_of, invariant_of}
use Rattle.sa_grammar.proofs.Sound.{After, Sound, sound_shorter, Listed, last, more}
use Rattle.sa_grammar.proofs.Sound.{IsSound, sound-give, sound-refuse, sound-shift, sound-either, sound-follow, sound-list, sound-make, sound-until_word, sound-up}
use Rattle.sa_grammar.proofs.ExpressionStarts.{origin, true_lexeme}
use Rattle.sa_grammar.proofs.ExpressionsSound.{Spells, nested_sound}
use Rattle.sa_grammar.proofs.StatementsSound.{sound_value, sound_assigned, no_stmts, a_value}
use Rattle.sa_grammar.proofs.Signatures.{sound_names, sound_sig}
use Rattle.sa_grammar.proofs.Conditions.{sound_clauses, sound_invariant}

-- what a member is after the words of access
pub data IsOpen (class : Enclosing) (access : Access) : List Lexeme → Declaration → Type 0 where
  called : {ls : List Lexeme} {feature : Feature} {clauses : Clauses} → IsCalled class access ls feature clauses → IsOpen class access ls (called_of feature clauses)
  declared : {ls : List Lexeme} {all : List Feature} → IsDeclared access ls all → IsOpen class access ls (variables_of all)
  constants : {ls : List Lexeme} {all : List Feature} → IsConstants access ls all → IsOpen class access ls (variables_of all)
  included : {w : Lexeme} {ls ms : List Lexeme} {t : Ty} {changes : List FeatureModifier} → IsWord word.Include w → IsType ls t → IsOptionalChanges ms changes
      → IsOpen class access (w ∷ (ls ++ ms)) (include_of (is_private access) t changes)

public_member : {class : Enclosing} {ls : List Lexeme} {m : Declaration} → IsOpen class Public ls m → IsMember class ls m
public_member (called h) = features.called features.IsPrivate.absent h
public_member (declared h) = features.declared (features.private features.IsPrivate.absent) h
public_member (constants h) = features.constants features.IsPrivate.absent h
public_member (included is one changes) = features.include is one changes

private_member : {class : Enclosing} {ls : List Lexeme} {m : Declaration} (w : Lexeme) → IsWord word.Private w → IsOpen class Private ls m → IsMember class (w ∷ ls) m
private_member w is (called h) = features.called (features.private_word is) h
private_member w is (declared h) = features.declared (features.private (features.private_word is)) h
private_member w is (constants h) = features.constants (features.private_word is) h
private_member w is (included k one changes) = features.private_include is k one changes

-- how many invariants a member may be
abbrev pub most : Bool → ℕ
most true = 1
most false = 0

-- a member where an invariant is allowed or not
pub record IsCounted (class : Enclosing) (invariants : Bool) (ls : List Lexeme) (m : Declaration) : Type 0 where
  pub is : IsMember class ls m
  pub count : length (invariants_of m) ≤ most invariants

no_invariant : {class : Enclosing} {access : Access} {ls : List Lexeme} {m : Declaration} → IsOpen class access ls m → length (invariants_of m) ≡ 0
no_invariant (called h) = refl
no_invariant (declared h) = refl
no_invariant (constants h) = refl
no_invariant {access = Public} (included is one changes) = refl
no_invariant {access = Private} (included is one changes) = refl
no_invariant {access = ReadOnly} (included is one changes) = refl

-- ---- lists

changes_listed : {ls : List Lexeme} {all : List FeatureModifier} → Listed IsChange ls all → IsChanges ls all
changes_listed (last one) = features.last one
changes_listed (more {l = l} one parting rest) = features.more one (sign_stands sign.Comma l parting) (changes_listed rest)

names_more : {ls : List Lexeme} {all : List Local} (comma : Lexeme) → IsSign sign.Comma comma → IsNames ls all → IsMoreNames (comma ∷ ls) all
names_more comma is (names.all_names k h) = names.more_names is k h

-- a routine's lexemes in one list
routine_at : {class : Enclosing} {access : Access} {ls cs ms : List Lexeme} {sig : Signature} {clauses : Clauses} {body : List Stmt} → IsSig ls sig → IsClauses class.file_kind cs clauses
    → IsWholeBody ms body → IsOpen class access (ls ++ (cs ++ ms)) (called_of (feature_of sig access (part.Routine body)) clauses)
routine_at {class = class} {access = access} {ls = ls} {cs = cs} {ms = ms} {sig = sig} {clauses = clauses} {body = body} h k j =
    subst (λ xs. IsOpen class access xs (called_of (feature_of sig access (part.Routine body)) clauses)) (append_assoc ls cs ms) (called (features.routine h k j))

-- constants, of which each may be counted
constants_at : {access : Access} {w l : Lexeme} {ls ms : List Lexeme} {value : Option Expr} {others : List Local} → IsWord word.Const w → IsLower l → IsAssigned ls value → IsMoreNames ms others
    → IsConstants access (w ∷ l ∷ (ls ++ ms)) (counted_from 0 access value (name_of l ∷ others))
constants_at w l h k = features.counted_constants w l h k

-- ---- what completes them

a_name : IsNames (lexeme token.Lower ∷ []) (name_of (lexeme token.Lower) ∷ [])
a_name = names.all_names refl names.no_more_names

a_type : IsType (lexeme (token.Word word.Same) ∷ []) (ty.Same origin)
a_type = types.same (a_word word.Same)

abbrev body_lexemes : List Lexeme
body_lexemes = lexeme (token.Word word.Is) ∷ lexeme (token.Word word.End) ∷ []

a_body : IsWholeBody (lexeme (token.Word word.Is) ∷ lexeme (token.Word word.End) ∷ []) []
a_body = features.whole_body (stmt.body (a_word word.Is) no_stmts) (a_word word.End)

module _ (level : ℕ) (nested : (n : Nested) → Reader (Ast n)) (inside : (n : Nested) → Sound (Spells n) (nested n)) where
  -- ---- includes

  sound_new_name : (f arrow w : Lexeme) (access : Access) → IsFeature f → IsSign sign.Arrow arrow → IsAccess (w ∷ []) access
      → IsSound level nested (After (w ∷ []) (After (arrow ∷ []) (After (f ∷ []) IsChange))) (new_name_form f access)
  unfolding new_name_form
  sound_new_name f arrow w access is to before =
      sound-shift (λ g k. sound-give (features.change is to (features.IsNewName.given before (feature_stands g k))))
      (sound-refuse (record {
        more = lexeme token.Lower ∷ [];
        tree = change_to f access (Some []);
        spelled = features.change is to (features.IsNewName.given {f = lexeme token.Lower} before (lower_name refl));
      }))

  sound_changed : (f arrow : Lexeme) → IsFeature f → IsSign sign.Arrow arrow → IsSound level nested (After (arrow ∷ []) (After (f ∷ []) IsChange)) (changed_form f)
  unfolding changed_form
  sound_changed f arrow is to =
      sound-shift (λ w k. sound_new_name f arrow w Private is to (features.private (features.private_word (word_stands word.Private w k))))
      (sound-shift (λ w k. sound_new_name f arrow w ReadOnly is to (features.readonly_word (word_stands word.Readonly w k)))
      (sound-shift (λ g k. sound-give (features.change is to (features.IsNewName.given (features.private features.IsPrivate.absent) (feature_stands g k))))
      (sound-give (features.change is to features.IsNewName.absent))))

  sound_change : IsSound level nested IsChange change_form
  unfolding change_form
  sound_change =
      sound-shift (λ f is.
      sound-shift (λ arrow to. sound_changed f arrow (feature_stands f is) (sign_stands sign.Arrow arrow to))
      (sound-refuse (record {
        more = lexeme (token.Sign sign.Arrow) ∷ [];
        tree = change_to f Public None;
        spelled = features.change (feature_stands f is) (a_sign sign.Arrow) features.IsNewName.absent;
      })))
      (sound-refuse (record {
        more = lexeme token.Lower ∷ lexeme (token.Sign sign.Arrow) ∷ [];
        tree = change_to (lexeme token.Lower) Public None;
        spelled = features.change {f = lexeme token.Lower} (lower_name refl) (a_sign sign.Arrow) features.IsNewName.absent;
      }))

  sound_optional_changes : IsSound level nested IsOptionalChanges optional_changes_form
  unfolding optional_changes_form
  sound_optional_changes =
      sound-either (sound-list sound_change (λ ls all h. features.IsOptionalChanges.given (changes_listed h))) (sound-give features.IsOptionalChanges.absent)
      (λ l ls h. opened level nested (λ n ms. sound_shorter (Spells n) (nested n) (inside n) ms) (list change_form) l ls h)

  sound_include : (class : Enclosing) (access : Access) (w : Lexeme) → IsWord word.Include w → IsSound level nested (After (w ∷ []) (IsOpen class access)) (include_form (is_private access))
  unfolding include_form
  sound_include class access w is =
      sound-follow (nested_sound level nested inside type) (λ ls t one. sound-make sound_optional_changes (λ ms changes h. included is one h))

  -- ---- attributes, shareds and constants

  sound_attr : (access : Access) (w : Lexeme) → IsWord word.Attr w → IsSound level nested (After (w ∷ []) (IsDeclared access)) (attr_form access)
  unfolding attr_form
  sound_attr access w is =
      sound-follow (sound_names level nested inside) (λ ls all h.
      sound-shift (λ colon k. sound-make (nested_sound level nested inside type) (λ ms t one. features.attr is h (sign_stands sign.Colon colon k) one))
      (sound-refuse (record {
        more = lexeme (token.Sign sign.Colon) ∷ lexeme (token.Word word.Same) ∷ [];
        tree = map (variable_of access (Some (ty.Same origin)) part.Attr) all;
        spelled = features.attr is h (a_sign sign.Colon) a_type;
      })))

  sound_shared_parts : IsSound level nested IsSharedParts shared_parts_form
  unfolding shared_parts_form
  sound_shared_parts =
      sound-follow (nested_sound level nested inside type) (λ ls t one. sound-make (sound_assigned level nested inside) (λ ms value h. features.shared_parts one h))

  sound_shared : (access : Access) (w : Lexeme) → IsWord word.Shared w → IsSound level nested (After (w ∷ []) (IsDeclared access)) (shared_form access)
  unfolding shared_form
  sound_shared access w is =
      sound-follow (sound_names level nested inside) (λ ls all h.
      sound-shift (λ colon k. sound-make sound_shared_parts (λ ms parts one. features.shared is h (sign_stands sign.Colon colon k) one))
      (sound-refuse (record {
        more = lexeme (token.Sign sign.Colon) ∷ lexeme (token.Word word.Same) ∷ [];
        tree = map (variable_of access (Some (ty.Same origin)) (part.Shared None)) all;
        spelled = features.shared is h (a_sign sign.Colon) (features.shared_parts a_type stmt.not_assigned);
      })))

  sound_more_names : IsSound level nested IsMoreNames more_names_form
  unfolding more_names_form
  sound_more_names =
      sound-shift (λ comma is. sound-up (sound_names level nested inside) (λ ls all h. names_more comma (sign_stands sign.Comma comma is) h)) (sound-give names.no_more_names)

  sound_typed_constant : (access : Access) (w l colon : Lexeme) → IsWord word.Const w → IsLower l → IsSign sign.Colon colon
      → IsSound level nested (After (colon ∷ []) (After (l ∷ []) (After (w ∷ []) (IsConstants access)))) (typed_constant_form access l)
  unfolding typed_constant_form
  sound_typed_constant access w l colon is k j =
      sound-follow (nested_sound level nested inside type) (λ ls t one.
      sound-shift (λ gets h. sound-make (sound_value level nested inside) (λ ms e v. features.typed_constant is k j one (sign_stands sign.Assign gets h) v))
      (sound-refuse (record {
        more = lexeme (token.Sign sign.Assign) ∷ true_lexeme ∷ [];
        tree = variable_of access (Some t) (part.Const (Some (exprtree.Bool true origin)) 0) (name_of l) ∷ [];
        spelled = features.typed_constant is k j one (a_sign sign.Assign) a_value;
      })))

  sound_constants : (access : Access) (w : Lexeme) → IsWord word.Const w → IsSound level nested (After (w ∷ []) (IsConstants access)) (constants_form access)
  unfolding constants_form
  sound_constants access w is =
      sound-shift (λ l k.
      sound-shift (λ colon j. sound_typed_constant access w l colon is (lower_stands l k) (sign_stands sign.Colon colon j))
      (sound-follow (sound_assigned level nested inside) (λ ls value h. sound-make sound_more_names (λ ms others more. constants_at is (lower_stands l k) h more))))
      (sound-refuse (record {
        more = lexeme token.Lower ∷ [];
        tree = counted_from 0 access None (name_of (lexeme token.Lower) ∷ []);
        spelled = features.counted_constants {l = lexeme token.Lower} is refl stmt.not_assigned names.no_more_names;
      }))

  sound_declared : (access : Access) {R : Spelling Declaration} {other : Form Declaration} → ((ls : List Lexeme) (all : List Feature) → IsDeclared access ls all → R ls (variables_of all))
      → IsSound level nested R other → IsSound level nested R (declared_or access other)
  unfolding declared_or
  sound_declared access up sound =
      sound-shift (λ w is. sound-make (sound_attr access w (word_stands word.Attr w is)) (λ ls all h. up (w ∷ ls) all h))
      (sound-shift (λ w is. sound-make (sound_shared access w (word_stands word.Shared w is)) (λ ls all h. up (w ∷ ls) all h)) sound)

  -- ---- features

  sound_whole_body : IsSound level nested IsWholeBody whole_body_form
  unfolding whole_body_form
  sound_whole_body =
      sound-shift (λ w is.
      sound-until_word (nested_sound level nested inside stmts) (λ ls all closed h closes. features.whole_body (stmt.body (word_stands word.Is w is) h) closes))
      (sound-refuse (record { more = body_lexemes; tree = []; spelled = a_body }))

  sound_routine : (class : Enclosing) (access : Access) → IsSound level nested (IsOpen class access) (routine_form class access)
  unfolding routine_form
  sound_routine class access =
      sound-follow (sound_sig level nested inside) (λ ls sig h.
      sound-follow (sound_clauses level nested inside class.file_kind) (λ cs clauses k.
      sound-make sound_whole_body (λ ms body j. routine_at h k j)))

  sound_stub : (kind : ClassKind) (access : Access) {R : Spelling Declaration} {other : Form Declaration}
      → ((w : Lexeme) (ls : List Lexeme) (sig : Signature) → kind ≡ kinds.Partial → IsWord word.Stub w → IsSig ls sig → R (w ∷ ls) (called_of (feature_of sig access part.Stub) no_clauses))
      → IsSound level nested R other → IsSound level nested R (stub_or kind access other)
  unfolding stub_or
  sound_stub kinds.Reference access up sound = sound
  sound_stub kinds.Immutable access up sound = sound
  sound_stub kinds.Abstract access up sound = sound
  sound_stub kinds.Partial access up sound = sound-shift (λ w is. sound-make (sound_sig level nested inside) (λ ls sig h. up w ls sig refl (word_stands word.Stub w is) h)) sound

  sound_builtin : (file_kind : FileKind) (name : List ℕ) (access : Access) {R : Spelling Declaration} {other : Form Declaration}
      → ((w : Lexeme) (ls : List Lexeme) (sig : Signature) → file_kind ≡ Prelude → IsWord word.Builtin w → IsSig ls sig
      → R (w ∷ ls) (called_of (feature_of sig access (part.Builtin name sig.name.name)) no_clauses))
      → IsSound level nested R other → IsSound level nested R (builtin_or file_kind name access other)
  unfolding builtin_or
  sound_builtin Program name access up sound = sound
  sound_builtin Prelude name access up sound = sound-shift (λ w is. sound-make (sound_sig level nested inside) (λ ls sig h. up w ls sig refl (word_stands word.Builtin w is) h)) sound

  sound_open : (class : Enclosing) (access : Access) → IsSound level nested (IsOpen class access) (open_form class access)
  unfolding open_form
  sound_open class access =
      sound_declared access (λ ls all h. declared h)
      (sound-shift (λ w is. sound-make (sound_constants access w (word_stands word.Const w is)) (λ ls all h. constants h))
      (sound-shift (λ w is. sound_include class access w (word_stands word.Include w is))
      (sound_stub class.kind access (λ w ls sig e is h. called (features.stub e is h))
      (sound_builtin class.file_kind class.name access (λ w ls sig e is h. called (features.builtin e is h))
      (sound_routine class access)))))

  sound_one_invariant : (file_kind : FileKind) (invariants : Bool) {R : Spelling Declaration} {other : Form Declaration}
      → ((ls : List Lexeme) (holds : Condition) → file_kind ≡ Program → 1 ≤ most invariants → IsInvariant ls holds → R ls (invariant_of holds))
      → IsSound level nested R other → IsSound level nested R (invariant_or file_kind invariants other)
  unfolding invariant_or
  sound_one_invariant Program true up sound = sound_invariant level nested inside (λ ls holds h. up ls holds refl (omega arith) h) sound
  sound_one_invariant Program false up sound = sound
  sound_one_invariant Prelude true up sound = sound
  sound_one_invariant Prelude false up sound = sound

  pub sound_counted : (class : Enclosing) (invariants : Bool) → IsSound level nested (IsCounted class invariants) (member_form class invariants)
  unfolding member_form
  sound_counted class invariants =
      sound-shift (λ w is. sound-up (sound_open class Private) (λ ls m h.
      let none = no_invariant h in record { is = private_member w (word_stands word.Private w is) h; count = omega arith }))
      (sound-shift (λ w is.
      sound_declared ReadOnly (λ ls all h. record { is = features.declared (features.readonly_word (word_stands word.Readonly w is)) h; count = omega arith })
      (sound-refuse (record {
        more = lexeme (token.Word word.Attr) ∷ lexeme token.Lower ∷ lexeme (token.Sign sign.Colon) ∷ lexeme (token.Word word.Same) ∷ [];
        tree = variables_of (variable_of ReadOnly (Some (ty.Same origin)) part.Attr (name_of (lexeme token.Lower)) ∷ []);
        spelled = record {
          is = features.declared (features.readonly_word (word_stands word.Readonly w is)) (features.attr (a_word word.Attr) a_name (a_sign sign.Colon) a_type);
          count = omega arith;
        };
      })))
      (sound_one_invariant class.file_kind invariants (λ ls holds e fits h. record { is = features.invariant e h; count = fits })
      (sound-up (sound_open class Public) (λ ls m h. let none = no_invariant h in record { is = public_member h; count = omega arith }))))

  pub sound_member : (class : Enclosing) → IsSound level nested (IsMember class) (member_form class true)
  sound_member class = sound-up (sound_counted class true) (λ ls m h. h.is)
