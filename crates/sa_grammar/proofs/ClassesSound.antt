-- The forms of classes and files are sound.
use Rattle.std.specs.List.{flat_map}
use Rattle.std.proofs.Common.{◌≡◌, ℕ, ◌+◌, ◌≤◌, Bool, true, List, [], ◌∷◌, ◌++◌, length, refl, sym, ap, subst, append_assoc, append-nil, arith, length-append, None}
use Rattle.sa_lexer.specs.declared.token.TokenKind.TheVariants as token
use Rattle.sa_lexer.specs.declared.sign.Sign.{Sign}
use Rattle.sa_lexer.specs.declared.sign.Sign.TheVariants as sign
use Rattle.sa_lexer.specs.declared.word.Word.TheVariants as word
use Rattle.sa_ast.specs.declared.class.Access.TheVariants.{Public}
use Rattle.sa_ast.specs.declared.class.ClassKind.{ClassKind}
use Rattle.sa_ast.specs.declared.class.ClassKind.TheVariants.{Reference, Immutable, Abstract, Partial}
use Rattle.sa_ast.specs.declared.class.FeatureBody.TheVariants as part
use Rattle.sa_ast.specs.declared.class.TypeParam.{TypeParam}
use Rattle.sa_ast.specs.declared.class.Feature.{Feature}
use Rattle.sa_ast.specs.declared.contract.Condition.{Condition}
use Rattle.sa_parser_expr.specs.Lexemes.{Lexeme, IsWord, IsSign, name_of}
use Rattle.sa_parser_expr.specs.Tests.{is_sign}
use Rattle.sa_parser_expr.specs.Forms.{Reader, Nested, Ast, make, type}
use Rattle.sa_parser_expr.specs.StatementForms.{joined}
use Rattle.sa_parser_expr.proofs.Tested.{sign_stands, word_stands, class_name_stands, abstract_name_stands, lexeme, a_word}
use Rattle.sa_parser_expr.proofs.Shorter.{opened}
use Rattle.sa_parser.specs.declared.file.FileKind.{FileKind}
use Rattle.sa_parser.specs.Features.{Enclosing, feature_of}
use Rattle.sa_parser.specs.Classes as classes
use Rattle.sa_parser.specs.Classes.{IsParam, IsParamList, IsParams, IsTypesAfter, IsAbstractHead, IsConcreteHead, IsOptionalSignature, IsSignatures, IsMembers}
use Rattle.sa_parser.specs.Classes.{Written, IsWholeClass, IsOptionalClass, IsFile, invariants_of}
use Rattle.sa_parser.specs.SignatureForms.{sig_form}
use Rattle.sa_parser.specs.FeatureForms.{member_form}
use Rattle.sa_parser.specs.ClassForms.{param_form, params_form, types_after_form, abstract_head_form, concrete_head_form, optional_sig_form, signatures_form, optional_member_form}
use Rattle.sa_parser.specs.ClassForms.{is_empty, none_yet, members_form, abstract_form, concrete_form, class_form, optional_class_form, file_form}
use Rattle.sa_grammar.proofs.Parts.{Declaration, Head}
use Rattle.sa_grammar.proofs.Sound.{After, Sound, sound_shorter, Separated, Listed, last, more}
use Rattle.sa_grammar.proofs.Sound.{IsSound, sound-give, sound-refuse, sound-shift, sound-either, sound-follow, sound-separated, sound-list, sound-repeat, sound-make, sound-until, sound-until_word, sound-up}
use Rattle.sa_grammar.proofs.TypeForms.{separated_types}
use Rattle.sa_grammar.proofs.ExpressionsSound.{Spells, nested_sound}
use Rattle.sa_grammar.proofs.Signatures.{sound_sig}
use Rattle.sa_grammar.proofs.FeaturesSound.{most, IsCounted, sound_counted}

-- ---- members

-- how many invariants there are
abbrev pub count : List Declaration → ℕ
count all = length (flat_map invariants_of all)

pub count_append : (all others : List Declaration) → count (all ++ others) ≡ count all + count others
count_append [] others = omega arith
count_append (m ∷ all) others =
    let rest = count_append all others in
    let one : count (m ∷ (all ++ others)) ≡ length (invariants_of m) + count (all ++ others) = length-append (invariants_of m) (flat_map invariants_of (all ++ others)) in
    let first : count (m ∷ all) ≡ length (invariants_of m) + count all = length-append (invariants_of m) (flat_map invariants_of all) in
    omega arith

pub count_one : (m : Declaration) → count (m ∷ []) ≡ length (invariants_of m)
count_one m = ap length (append-nil (invariants_of m))

-- members, of which one is an invariant at most
pub record IsFew (class : Enclosing) (ls : List Lexeme) (all : List Declaration) : Type 0 where
  pub are : IsMembers class ls all
  pub few : count all ≤ 1

-- a member or none, where an invariant is allowed or not
pub data IsOptionalMember (class : Enclosing) (invariants : Bool) : List Lexeme → List Declaration → Type 0 where
  absent : IsOptionalMember class invariants [] []
  given : {ls : List Lexeme} {m : Declaration} → IsCounted class invariants ls m → IsOptionalMember class invariants ls (m ∷ [])

members_of : {class : Enclosing} {invariants : Bool} {ls : List Lexeme} {all : List Declaration} → IsOptionalMember class invariants ls all → IsMembers class ls all
members_of absent = classes.nothing
members_of (given h) = classes.IsMembers.last h.is

count_of : {class : Enclosing} {invariants : Bool} {ls : List Lexeme} {all : List Declaration} → IsOptionalMember class invariants ls all → count all ≤ most invariants
count_of absent = omega arith
count_of (given {m = m} h) = let one = count_one m in let fits = h.count in omega arith

-- members after others
members_more : {class : Enclosing} {ls ms : List Lexeme} {l : Lexeme} {all others : List Declaration} → IsMembers class ls all → IsSign sign.Semicolon l → IsMembers class ms others
    → IsMembers class (ls ++ l ∷ ms) (all ++ others)
members_more classes.nothing is h = classes.empty is h
members_more (classes.IsMembers.last m) is h = classes.IsMembers.more m is h
members_more (classes.empty k rest) is h = classes.empty k (members_more rest is h)
members_more {class = class} {ms = ns} {l = l} {others = others} (classes.IsMembers.more {ls = ls} {ms = ms} {semicolon = semicolon} {m = m} {members = all} one k rest) is h =
    subst (λ xs. IsMembers class xs (m ∷ (all ++ others))) (sym (append_assoc ls (semicolon ∷ ms) (l ∷ ns))) (classes.IsMembers.more one k (members_more rest is h))

fits_one : (all : List Condition) (n : ℕ) → length all ≤ 1 → n ≤ most (is_empty all) → length all + n ≤ 1
fits_one [] n few fits = omega arith
fits_one (c ∷ all) n few fits = omega arith

few_more : {class : Enclosing} {ls ms : List Lexeme} {l : Lexeme} {all others : List Declaration} → IsFew class ls all → IsSign sign.Semicolon l
    → IsOptionalMember class (none_yet all) ms others → IsFew class (ls ++ l ∷ ms) (all ++ others)
few_more {all = all} {others = others} h is k =
    let sum = count_append all others in
    let fits = fits_one (flat_map invariants_of all) (count others) h.few (count_of k) in
    record { are = members_more h.are is (members_of k); few = omega arith }

few_first : {class : Enclosing} {ls : List Lexeme} {all : List Declaration} → IsOptionalMember class true ls all → IsFew class ls all
few_first h = record { are = members_of h; few = count_of h }

-- ---- classes

-- a class that isn't abstract, after the word of its kind
pub data IsConcrete (file_kind : FileKind) (kind : ClassKind) : List Lexeme → Written → Type 0 where
  concrete : {w is closing : Lexeme} {hs ls : List Lexeme} {head : Head} {members : List Declaration} → IsWord word.Class w → IsConcreteHead hs head → IsWord word.Is is
      → IsFew (record { name = head.name.name; kind = kind; file_kind = file_kind }) ls members → IsWord word.End closing
      → IsConcrete file_kind kind (w ∷ ((hs ++ is ∷ ls) ++ closing ∷ [])) (record { kind = kind; head = head; signatures = []; members = members })

concrete_at : {file_kind : FileKind} {kind : ClassKind} {w is closing : Lexeme} {hs ls : List Lexeme} {head : Head} {members : List Declaration} → IsWord word.Class w → IsConcreteHead hs head
    → IsWord word.Is is → IsFew (record { name = head.name.name; kind = kind; file_kind = file_kind }) ls members → IsWord word.End closing
    → IsConcrete file_kind kind (w ∷ (hs ++ is ∷ (ls ++ closing ∷ []))) (record { kind = kind; head = head; signatures = []; members = members })
concrete_at {file_kind = file_kind} {kind = kind} {w = w} {is = is} {closing = closed} {hs = hs} {ls = ls} {head = head} {members = members} w_is h is_is k closes =
    subst (λ xs. IsConcrete file_kind kind (w ∷ xs) (record { kind = kind; head = head; signatures = []; members = members })) (append_assoc hs (is ∷ ls) (closed ∷ []))
    (concrete w_is h is_is k closes)

abstract_at : {file_kind : FileKind} {a w is closing : Lexeme} {hs ls : List Lexeme} {head : Head} {all : List Feature} → IsWord word.Abstract a → IsWord word.Class w → IsAbstractHead hs head
    → IsWord word.Is is → IsSignatures ls all → IsWord word.End closing
    → IsWholeClass file_kind (a ∷ w ∷ (hs ++ is ∷ (ls ++ closing ∷ []))) (record { kind = Abstract; head = head; signatures = all; members = [] })
abstract_at {file_kind = file_kind} {a = a} {w = w} {is = is} {closing = closed} {hs = hs} {ls = ls} {head = head} {all = all} a_is w_is h is_is k closes =
    subst (λ xs. IsWholeClass file_kind (a ∷ w ∷ xs) (record { kind = Abstract; head = head; signatures = all; members = [] })) (append_assoc hs (is ∷ ls) (closed ∷ []))
    (classes.abstract_class a_is w_is h is_is k closes)

reference_class : {file_kind : FileKind} {ls : List Lexeme} {c : Written} → IsConcrete file_kind Reference ls c → IsWholeClass file_kind ls c
reference_class (concrete w h is k closes) = classes.concrete_class classes.reference w h is k.are k.few closes

immutable_class : {file_kind : FileKind} {v : Lexeme} {ls : List Lexeme} {c : Written} → IsWord word.Immutable v → IsConcrete file_kind Immutable ls c → IsWholeClass file_kind (v ∷ ls) c
immutable_class v (concrete w h is k closes) = classes.concrete_class (classes.immutable_word v) w h is k.are k.few closes

partial_class : {file_kind : FileKind} {v : Lexeme} {ls : List Lexeme} {c : Written} → IsWord word.Partial v → IsConcrete file_kind Partial ls c → IsWholeClass file_kind (v ∷ ls) c
partial_class v (concrete w h is k closes) = classes.concrete_class (classes.partial_word v) w h is k.are k.few closes

-- ---- lists

params_listed : {ls : List Lexeme} {all : List TypeParam} → Listed IsParam ls all → IsParamList ls all
params_listed (last one) = classes.IsParamList.last one
params_listed (more {l = l} one parting rest) = classes.IsParamList.more one (sign_stands sign.Comma l parting) (params_listed rest)

signatures_listed : (ls : List Lexeme) (lists : List (List Feature)) → Separated (is_sign sign.Semicolon) IsOptionalSignature ls lists → IsSignatures ls (joined lists)
signatures_listed ls _ (last one) = rw append-nil (classes.IsSignatures.last one)
signatures_listed _ _ (more {ms = ms} {l = l} {others = others} one parting rest) =
    classes.IsSignatures.more one (sign_stands sign.Semicolon l parting) (signatures_listed ms others rest)

classes_listed : (file_kind : FileKind) (ls : List Lexeme) (lists : List (List Written)) → Separated (is_sign sign.Semicolon) (IsOptionalClass file_kind) ls lists → IsFile file_kind ls (joined lists)
classes_listed file_kind ls _ (last one) = rw append-nil (classes.IsFile.last one)
classes_listed file_kind _ _ (more {ms = ms} {l = l} {others = others} one parting rest) =
    classes.IsFile.more one (sign_stands sign.Semicolon l parting) (classes_listed file_kind ms others rest)

-- ---- what completes them

abbrev inside_lexemes : List Lexeme
inside_lexemes = lexeme (token.Word word.Is) ∷ lexeme (token.Word word.End) ∷ []

abbrev head_of : Lexeme → Head
head_of c = record { name = name_of c; params = []; edges = record { below = []; above = [] } }

an_abstract_head : IsAbstractHead (lexeme token.AbstractName ∷ []) (head_of (lexeme token.AbstractName))
an_abstract_head = classes.abstract_head {name = lexeme token.AbstractName} refl classes.IsParams.absent (classes.edges classes.IsTypesAfter.absent classes.IsTypesAfter.absent)

a_concrete_head : IsConcreteHead (lexeme token.ClassName ∷ []) (head_of (lexeme token.ClassName))
a_concrete_head = classes.concrete_head {name = lexeme token.ClassName} refl classes.IsParams.absent classes.IsTypesAfter.absent

no_members : {class : Enclosing} → IsFew class [] []
no_members = record { are = classes.nothing; few = omega arith }

no_signatures : IsSignatures [] []
no_signatures = classes.IsSignatures.last classes.IsOptionalSignature.absent

module _ (level : ℕ) (nested : (n : Nested) → Reader (Ast n)) (inside : (n : Nested) → Sound (Spells n) (nested n)) where
  -- ---- headers

  sound_param : IsSound level nested IsParam param_form
  unfolding param_form
  sound_param =
      sound-shift (λ c is.
      sound-shift (λ less k. sound-make (nested_sound level nested inside type) (λ ls t one. classes.bounded (class_name_stands c is) (sign_stands sign.Less less k) one))
      (sound-give (classes.free (class_name_stands c is))))
      (sound-refuse (record { more = lexeme token.ClassName ∷ []; tree = record { name = name_of (lexeme token.ClassName); bound = None }; spelled = classes.free {c = lexeme token.ClassName} refl }))

  sound_params : IsSound level nested IsParams params_form
  unfolding params_form
  sound_params =
      sound-shift (λ opening opens.
      sound-until (sound-list sound_param (λ ls all. params_listed)) (λ ls all closed among closes. classes.IsParams.given (sign_stands sign.LeftBrace opening opens) among closes))
      (sound-give classes.IsParams.absent)

  sound_types_after : (s : Sign) → IsSound level nested (IsTypesAfter s) (types_after_form s)
  unfolding types_after_form
  sound_types_after s =
      sound-shift (λ l is. sound-list (nested_sound level nested inside type) (λ ls ts h. classes.IsTypesAfter.given (sign_stands s l is) (separated_types h)))
      (sound-give classes.IsTypesAfter.absent)

  sound_abstract_head : IsSound level nested IsAbstractHead abstract_head_form
  unfolding abstract_head_form
  sound_abstract_head =
      sound-shift (λ c is.
      sound-follow sound_params (λ ps params h.
      sound-follow (sound_types_after sign.Less) (λ bs below k.
      sound-make (sound_types_after sign.Greater) (λ us above j. classes.abstract_head (abstract_name_stands c is) h (classes.edges k j)))))
      (sound-refuse (record { more = lexeme token.AbstractName ∷ []; tree = head_of (lexeme token.AbstractName); spelled = an_abstract_head }))

  sound_concrete_head : IsSound level nested IsConcreteHead concrete_head_form
  unfolding concrete_head_form
  sound_concrete_head =
      sound-shift (λ c is.
      sound-follow sound_params (λ ps params h.
      sound-make (sound_types_after sign.Less) (λ bs below k. classes.concrete_head (class_name_stands c is) h k)))
      (sound-refuse (record { more = lexeme token.ClassName ∷ []; tree = head_of (lexeme token.ClassName); spelled = a_concrete_head }))

  -- ---- bodies of classes

  sound_optional_sig : IsSound level nested IsOptionalSignature optional_sig_form
  unfolding optional_sig_form
  sound_optional_sig =
      sound-either (sound-make (sound_sig level nested inside) (λ ls sig h. classes.IsOptionalSignature.given h)) (sound-give classes.IsOptionalSignature.absent)
      (λ l ls h. opened level nested (λ n ms. sound_shorter (Spells n) (nested n) (inside n) ms) (make (λ sig. feature_of sig Public part.Signature ∷ []) sig_form) l ls h)

  sound_signatures : IsSound level nested IsSignatures signatures_form
  unfolding signatures_form
  sound_signatures = sound-make (sound-separated sound_optional_sig (λ ls lists h. h)) signatures_listed

  sound_optional_member : (class : Enclosing) (invariants : Bool) → IsSound level nested (IsOptionalMember class invariants) (optional_member_form class invariants)
  unfolding optional_member_form
  sound_optional_member class invariants =
      sound-either (sound-make (sound_counted level nested inside class invariants) (λ ls m h. given h)) (sound-give absent)
      (λ l ls h. opened level nested (λ n ms. sound_shorter (Spells n) (nested n) (inside n) ms) (make (λ m. m ∷ []) (member_form class invariants)) l ls h)

  sound_members : (class : Enclosing) → IsSound level nested (IsFew class) (members_form class)
  unfolding members_form
  sound_members class =
      sound-follow (sound_optional_member class true) (λ ls all h.
      sound-repeat {R = IsFew class} ls (few_first h) (λ ls all h l is.
      sound-make (sound_optional_member class (none_yet all)) (λ ms more k. few_more h (sign_stands sign.Semicolon l is) k)))

  -- ---- classes

  sound_abstract : (file_kind : FileKind) (a : Lexeme) → IsWord word.Abstract a → IsSound level nested (After (a ∷ []) (IsWholeClass file_kind)) abstract_form
  unfolding abstract_form
  sound_abstract file_kind a a_is =
      sound-shift (λ w w_is.
      sound-follow sound_abstract_head (λ hs head h.
      sound-shift (λ is is_is.
      sound-make {P = λ xs all. IsWholeClass file_kind (a ∷ w ∷ (hs ++ is ∷ xs)) (record { kind = Abstract; head = head; signatures = all; members = [] })}
      (sound-until_word sound_signatures (λ ls all closed k closes. abstract_at a_is (word_stands word.Class w w_is) h (word_stands word.Is is is_is) k closes))
      (λ xs all h. h))
      (sound-refuse (record {
        more = inside_lexemes;
        tree = record { kind = Abstract; head = head; signatures = []; members = [] };
        spelled = abstract_at a_is (word_stands word.Class w w_is) h (a_word word.Is) no_signatures (a_word word.End);
      }))))
      (sound-refuse (record {
        more = lexeme (token.Word word.Class) ∷ lexeme token.AbstractName ∷ inside_lexemes;
        tree = record { kind = Abstract; head = head_of (lexeme token.AbstractName); signatures = []; members = [] };
        spelled = abstract_at a_is (a_word word.Class) an_abstract_head (a_word word.Is) no_signatures (a_word word.End);
      }))

  sound_concrete : (file_kind : FileKind) (kind : ClassKind) → IsSound level nested (IsConcrete file_kind kind) (concrete_form file_kind kind)
  unfolding concrete_form
  sound_concrete file_kind kind =
      sound-shift (λ w w_is.
      sound-follow sound_concrete_head (λ hs head h.
      sound-shift (λ is is_is.
      sound-make {P = λ xs all. IsConcrete file_kind kind (w ∷ (hs ++ is ∷ xs)) (record { kind = kind; head = head; signatures = []; members = all })}
      (sound-until_word (sound_members (record { name = head.name.name; kind = kind; file_kind = file_kind }))
      (λ ls all closed k closes. concrete_at (word_stands word.Class w w_is) h (word_stands word.Is is is_is) k closes))
      (λ xs all h. h))
      (sound-refuse (record {
        more = inside_lexemes;
        tree = record { kind = kind; head = head; signatures = []; members = [] };
        spelled = concrete_at (word_stands word.Class w w_is) h (a_word word.Is) no_members (a_word word.End);
      }))))
      (sound-refuse (record {
        more = lexeme (token.Word word.Class) ∷ lexeme token.ClassName ∷ inside_lexemes;
        tree = record { kind = kind; head = head_of (lexeme token.ClassName); signatures = []; members = [] };
        spelled = concrete_at (a_word word.Class) a_concrete_head (a_word word.Is) no_members (a_word word.End);
      }))

  pub sound_class : (file_kind : FileKind) → IsSound level nested (IsWholeClass file_kind) (class_form file_kind)
  unfolding class_form
  sound_class file_kind =
      sound-shift (λ a is. sound_abstract file_kind a (word_stands word.Abstract a is))
      (sound-shift (λ v is. sound-up (sound_concrete file_kind Immutable) (λ ls c h. immutable_class (word_stands word.Immutable v is) h))
      (sound-shift (λ v is. sound-up (sound_concrete file_kind Partial) (λ ls c h. partial_class (word_stands word.Partial v is) h))
      (sound-up (sound_concrete file_kind Reference) (λ ls c h. reference_class h))))

  sound_optional_class : (file_kind : FileKind) → IsSound level nested (IsOptionalClass file_kind) (optional_class_form file_kind)
  unfolding optional_class_form
  sound_optional_class file_kind =
      sound-either (sound-make (sound_class file_kind) (λ ls c h. classes.IsOptionalClass.given h)) (sound-give classes.IsOptionalClass.absent)
      (λ l ls h. opened level nested (λ n ms. sound_shorter (Spells n) (nested n) (inside n) ms) (make (λ c. c ∷ []) (class_form file_kind)) l ls h)

  pub sound_file : (file_kind : FileKind) → IsSound level nested (IsFile file_kind) (file_form file_kind)
  unfolding file_form
  sound_file file_kind = sound-make (sound-separated (sound_optional_class file_kind) (λ ls lists h. h)) (classes_listed file_kind)
