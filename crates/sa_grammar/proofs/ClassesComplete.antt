-- The forms of classes and files are complete.
use Rattle.std.specs.List.{flat_map}
use Rattle.std.proofs.Common.{◌≡◌, ℕ, suc, ◌+◌, ◌<◌, ◌≤◌, Bool, true, false, ◌||◌, List, [], ◌∷◌, ◌++◌, length, refl, sym, ap, subst, append_assoc, append-nil, arith, length-append}
use Rattle.sa_lexer.specs.declared.token.TokenKind.{TokenKind}
use Rattle.sa_lexer.specs.declared.token.TokenKind.TheVariants as token
use Rattle.sa_lexer.specs.declared.sign.Sign.{Sign}
use Rattle.sa_lexer.specs.declared.sign.Sign.TheVariants as sign
use Rattle.sa_lexer.specs.declared.word.Word.TheVariants as word
use Rattle.sa_ast.specs.declared.ty.Ty.{Ty}
use Rattle.sa_ast.specs.declared.class.ClassKind.{ClassKind}
use Rattle.sa_ast.specs.declared.class.TypeParam.{TypeParam}
use Rattle.sa_ast.specs.declared.class.Feature.{Feature}
use Rattle.sa_ast.specs.declared.contract.Condition.{Condition}
use Rattle.sa_parser_expr.specs.Lexemes.{Lexeme, IsWord, IsSign}
use Rattle.sa_parser_expr.specs.Types.{IsType}
use Rattle.sa_parser_expr.specs.Readings.{Read}
use Rattle.sa_parser_expr.specs.Tests.{is_sign, is_sign_kind, is_word_kind, is_class_name_kind, is_abstract_name_kind, is_feature_kind}
use Rattle.sa_parser_expr.specs.Forms.{Reader, Nested, Ast, make, nest, opens, type}
use Rattle.sa_parser_expr.specs.StatementForms.{joined}
use Rattle.sa_parser_expr.proofs.Tested.{sign_met, sign_stands, word_met, feature_met, other_sign, other_word}
use Rattle.sa_parser_expr.proofs.Shifts.{Shut, Meets}
use Rattle.sa_parser.specs.declared.file.FileKind.{FileKind}
use Rattle.sa_parser.specs.Signatures as sigs
use Rattle.sa_parser.specs.Signatures.{IsSig}
use Rattle.sa_parser.specs.Features.{Enclosing, IsMember}
use Rattle.sa_parser.specs.Classes as classes
use Rattle.sa_parser.specs.Classes.{IsParam, IsParamList, IsParams, IsTypesAfter, IsAbstractHead, IsConcreteHead, IsOptionalSignature, IsSignatures, IsMembers}
use Rattle.sa_parser.specs.Classes.{Written, IsWholeClass, IsOptionalClass, IsFile, invariants_of}
use Rattle.sa_parser.specs.SignatureForms.{sig_form}
use Rattle.sa_parser.specs.FeatureForms.{member_form}
use Rattle.sa_parser.specs.ClassForms.{param_form, params_form, types_after_form, abstract_head_form, concrete_head_form, optional_sig_form, signatures_form, optional_member_form}
use Rattle.sa_parser.specs.ClassForms.{is_empty, none_yet, members_form, abstract_form, concrete_form, class_form, optional_class_form, file_form}
use Rattle.sa_grammar.proofs.Parts.{Signature, Declaration, Head}
use Rattle.sa_grammar.proofs.Sound.{Separated, Listed, last, more}
use Rattle.sa_grammar.proofs.Complete.{Reads, reads-give, reads-met, reads-other, reads-first, reads-second, reads-follow, reads-make, reads-as, reads-joined, reads-until, reads-list}
use Rattle.sa_grammar.proofs.Complete.{reads-separated, Gathers, gathers-first, gathers-more, reads-gathered}
use Rattle.sa_grammar.proofs.TypeForms.{EndsType, sign_ends, types_separated}
use Rattle.sa_grammar.proofs.ExpressionStarts.{meets_front}
use Rattle.sa_grammar.proofs.ExpressionEnds.{Ends, ends_left, ends_right, kind_ends}
use Rattle.sa_grammar.proofs.ExpressionsSound.{Spells}
use Rattle.sa_grammar.proofs.ExpressionsComplete.{EndsOf, nest_read}
use Rattle.sa_grammar.proofs.Signatures.{goes_on_type, goes_on_ends_type, after_sig, sig_read}
use Rattle.sa_grammar.proofs.FeaturesSound.{most}
use Rattle.sa_grammar.proofs.FeaturesComplete.{IsClosed, nothing, parted, ended, closed_ends, member_read}
use Rattle.sa_grammar.proofs.MemberEnds.{member_opens, member_shut}
use Rattle.sa_grammar.proofs.ClassesSound.{count, count_append, count_one, IsFew, IsOptionalMember, absent, given, IsConcrete, concrete}

-- ---- lists

params_separated : {ls : List Lexeme} {all : List TypeParam} → IsParamList ls all → Listed IsParam ls all
params_separated (classes.IsParamList.last one) = last one
params_separated (classes.IsParamList.more one is others) = more one (sign_met is) (params_separated others)

record SigLists (ls : List Lexeme) (all : List Feature) : Type 0 where
  lists : List (List Feature)
  parts : Separated (is_sign sign.Semicolon) IsOptionalSignature ls lists
  whole : joined lists ≡ all

sig_lists : {ls : List Lexeme} {all : List Feature} → IsSignatures ls all → SigLists ls all
sig_lists (classes.IsSignatures.last {features = all} one) = record { lists = all ∷ []; parts = last one; whole = append-nil all }
sig_lists (classes.IsSignatures.more {features = first} one is others) =
    let rest = sig_lists others in
    record { lists = first ∷ rest.lists; parts = more one (sign_met is) rest.parts; whole = ap (λ xs. first ++ xs) rest.whole }

record ClassLists (file_kind : FileKind) (ls : List Lexeme) (all : List Written) : Type 0 where
  lists : List (List Written)
  parts : Separated (is_sign sign.Semicolon) (IsOptionalClass file_kind) ls lists
  whole : joined lists ≡ all

class_lists : {file_kind : FileKind} {ls : List Lexeme} {all : List Written} → IsFile file_kind ls all → ClassLists file_kind ls all
class_lists (classes.IsFile.last {classes = all} one) = record { lists = all ∷ []; parts = last one; whole = append-nil all }
class_lists (classes.IsFile.more {classes = first} one is others) =
    let rest = class_lists others in
    record { lists = first ∷ rest.lists; parts = more one (sign_met is) rest.parts; whole = ap (λ xs. first ++ xs) rest.whole }

-- ---- what ends the parts, and what they begin with

-- after a parameter
abbrev after_param : TokenKind → Bool
after_param k = is_sign_kind sign.Less k || goes_on_type k

param_ends_type : (rest : List Lexeme) → Ends after_param rest → EndsType rest
param_ends_type rest h = goes_on_ends_type rest (ends_right (is_sign_kind sign.Less) goes_on_type rest h)

types_after_end : {s : Sign} {ls : List Lexeme} {ts : List Ty} (after : TokenKind → Bool) → after (token.Sign s) ≡ false → (rest : List Lexeme) → IsTypesAfter s ls ts → Ends after rest
    → Ends after (ls ++ rest)
types_after_end after none rest classes.IsTypesAfter.absent ends = ends
types_after_end after none rest (classes.IsTypesAfter.given {l = l} {ls = ls} is h) ends = kind_ends after l (ls ++ rest) is.kind none

is_ends_type : (w : Lexeme) (rest : List Lexeme) → IsWord word.Is w → EndsType (w ∷ rest)
is_ends_type w rest is = record { brace = kind_ends (is_sign_kind sign.LeftBrace) w rest is.kind refl; colon = kind_ends (is_sign_kind sign.Colon) w rest is.kind refl }

abbrev begins_sig : TokenKind → Bool
begins_sig k = is_feature_kind k || false

sig_open : {ls : List Lexeme} {one : Signature} → IsSig ls one → Meets (opens sig_form) ls
unfolding sig_form
sig_open (sigs.sig is first second) = ap (λ b. b || false) (feature_met is)

sig_shut : (rest : List Lexeme) → Ends begins_sig rest → Shut (opens sig_form) rest
unfolding sig_form
sig_shut rest h = h

abbrev begins_class : TokenKind → Bool
begins_class k = is_word_kind word.Abstract k || (is_word_kind word.Immutable k || (is_word_kind word.Partial k || (is_word_kind word.Class k || false)))

class_starts : {file_kind : FileKind} {ls : List Lexeme} {c : Written} → IsWholeClass file_kind ls c → Meets (λ l. begins_class l.kind) ls
class_starts (classes.abstract_class a w h is k closes) = ap begins_class a.kind
class_starts (classes.concrete_class classes.reference w h is k few closes) = ap begins_class w.kind
class_starts (classes.concrete_class (classes.immutable_word v) w h is k few closes) = ap begins_class v.kind
class_starts (classes.concrete_class (classes.partial_word v) w h is k few closes) = ap begins_class v.kind

class_open : (file_kind : FileKind) (ls : List Lexeme) → Meets (λ l. begins_class l.kind) ls → Meets (opens (class_form file_kind)) ls
unfolding class_form concrete_form
class_open file_kind ls h = h

class_shut : (file_kind : FileKind) (rest : List Lexeme) → Ends begins_class rest → Shut (opens (class_form file_kind)) rest
unfolding class_form concrete_form
class_shut file_kind rest h = h

-- an invariant is allowed where there is none yet
fits_next : (all : List Condition) (n : ℕ) → length all + n ≤ 1 → n ≤ most (is_empty all)
fits_next [] n few = omega arith
fits_next (c ∷ all) n few = omega arith

next_fits : (all others : List Declaration) → count (all ++ others) ≤ 1 → count others ≤ most (none_yet all)
next_fits all others few = let sum = count_append all others in fits_next (flat_map invariants_of all) (count others) (omega arith)

module _ (level : ℕ) (nested : (n : Nested) → Reader (Ast n))
    (inside : (n : Nested) (ls : List Lexeme) (t : Ast n) (rest : List Lexeme) → Spells n ls t → length ls < level → EndsOf n rest → nested n (ls ++ rest) ≡ Read t rest) where
  -- ---- headers

  param_read : (ls : List Lexeme) (p : TypeParam) (rest : List Lexeme) → IsParam ls p → length ls < level → Ends after_param rest → Reads level nested param_form (ls ++ rest) p rest
  unfolding param_form
  param_read _ _ rest (classes.free e) small ends =
      reads-met (ap is_class_name_kind e) (reads-other (ends_left (is_sign_kind sign.Less) goes_on_type rest ends) reads-give)
  param_read _ _ rest (classes.bounded {ls = ls} {t = t} e is one) small ends =
      reads-met (ap is_class_name_kind e) (reads-met (sign_met is) (reads-make (nest_read level nested inside type ls t rest one (omega arith) (param_ends_type rest ends))))

  params_read : {ls : List Lexeme} {all : List TypeParam} (rest : List Lexeme) → IsParams ls all → length ls < level → Shut (is_sign sign.LeftBrace) rest → Reads level nested params_form (ls ++ rest) all rest
  unfolding params_form
  params_read rest classes.IsParams.absent small shut = reads-other shut reads-give
  params_read rest (classes.IsParams.given {closing = closed} {ls = ls} opens among closes) small shut =
      let sum : length (ls ++ closed ∷ []) ≡ length ls + 1 = length-append ls (closed ∷ []) in
      reads-met (sign_met opens)
      (reads-until ls
      (reads-list level nested IsParam (Ends after_param) param_form param_read (λ l tail is. kind_ends after_param l tail is.kind refl) (closed ∷ rest) (params_separated among) (omega arith)
      (kind_ends after_param closed rest closes.kind refl) (other_sign sign.Comma refl closes))
      closes)

  types_after_read : (s : Sign) {ls : List Lexeme} {ts : List Ty} (rest : List Lexeme) → IsTypesAfter s ls ts → length ls < level → Shut (is_sign s) rest → EndsType rest
      → Shut (is_sign sign.Comma) rest → Reads level nested (types_after_form s) (ls ++ rest) ts rest
  unfolding types_after_form
  types_after_read s rest classes.IsTypesAfter.absent small shut ends comma = reads-other shut reads-give
  types_after_read s rest (classes.IsTypesAfter.given is h) small shut ends comma =
      reads-met (sign_met is)
      (reads-list level nested IsType EndsType (nest type) (nest_read level nested inside type) (sign_ends sign.Comma refl refl) rest (types_separated h) (omega arith) ends comma)

  -- before `is`
  abstract_head_read : {hs : List Lexeme} {head : Head} (w : Lexeme) (rest : List Lexeme) → IsAbstractHead hs head → length hs < suc level → IsWord word.Is w
      → Reads level nested abstract_head_form (hs ++ w ∷ rest) head (w ∷ rest)
  unfolding abstract_head_form
  abstract_head_read w rest (classes.abstract_head {ps = ps} e h (classes.edges {bs = bs} {us = us} k j)) small is =
      let sum : length (ps ++ (bs ++ us)) ≡ length ps + length (bs ++ us) = length-append ps (bs ++ us) in
      let part : length (bs ++ us) ≡ length bs + length us = length-append bs us in
      let following = λ (after : TokenKind → Bool) (none : after (token.Sign sign.Greater) ≡ false) (also : after (token.Word word.Is) ≡ false).
      types_after_end after none (w ∷ rest) j (kind_ends after w rest is.kind also) in
      reads-met (ap is_abstract_name_kind e)
      (reads-joined ps (bs ++ us) (w ∷ rest)
      (reads-follow (params_read ((bs ++ us) ++ w ∷ rest) h (omega arith)
      (subst (Shut (is_sign sign.LeftBrace)) (sym (append_assoc bs us (w ∷ rest)))
      (types_after_end (is_sign_kind sign.LeftBrace) refl (us ++ w ∷ rest) k (following (is_sign_kind sign.LeftBrace) refl refl))))
      (reads-joined bs us (w ∷ rest)
      (reads-follow
      (types_after_read sign.Less (us ++ w ∷ rest) k (omega arith) (following (is_sign_kind sign.Less) refl refl)
      (record { brace = following (is_sign_kind sign.LeftBrace) refl refl; colon = following (is_sign_kind sign.Colon) refl refl }) (following (is_sign_kind sign.Comma) refl refl))
      (reads-make
      (types_after_read sign.Greater (w ∷ rest) j (omega arith) (kind_ends (is_sign_kind sign.Greater) w rest is.kind refl) (is_ends_type w rest is)
      (kind_ends (is_sign_kind sign.Comma) w rest is.kind refl)))))))

  concrete_head_read : {hs : List Lexeme} {head : Head} (w : Lexeme) (rest : List Lexeme) → IsConcreteHead hs head → length hs < suc level → IsWord word.Is w
      → Reads level nested concrete_head_form (hs ++ w ∷ rest) head (w ∷ rest)
  unfolding concrete_head_form
  concrete_head_read w rest (classes.concrete_head {ps = ps} {bs = bs} e h k) small is =
      let sum : length (ps ++ bs) ≡ length ps + length bs = length-append ps bs in
      reads-met (ap is_class_name_kind e)
      (reads-joined ps bs (w ∷ rest)
      (reads-follow
      (params_read (bs ++ w ∷ rest) h (omega arith) (types_after_end (is_sign_kind sign.LeftBrace) refl (w ∷ rest) k (kind_ends (is_sign_kind sign.LeftBrace) w rest is.kind refl)))
      (reads-make
      (types_after_read sign.Less (w ∷ rest) k (omega arith) (kind_ends (is_sign_kind sign.Less) w rest is.kind refl) (is_ends_type w rest is)
      (kind_ends (is_sign_kind sign.Comma) w rest is.kind refl)))))

  -- ---- bodies of classes

  optional_sig_read : (ls : List Lexeme) (all : List Feature) (rest : List Lexeme) → IsOptionalSignature ls all → length ls < suc level → IsClosed rest
      → Reads level nested optional_sig_form (ls ++ rest) all rest
  unfolding optional_sig_form
  optional_sig_read _ _ rest classes.IsOptionalSignature.absent small closed = reads-second (sig_shut rest (closed_ends begins_sig refl refl closed)) reads-give
  optional_sig_read ls _ rest (classes.IsOptionalSignature.given h) small closed =
      reads-first (meets_front (opens sig_form) ls rest (sig_open h)) (reads-make (sig_read level nested inside rest h small (closed_ends after_sig refl refl closed)))

  sig_lists_read : {ls : List Lexeme} {all : List Feature} (w : Lexeme) (rest : List Lexeme) → SigLists ls all → length ls < suc level → IsWord word.End w
      → Reads level nested signatures_form (ls ++ w ∷ rest) all (w ∷ rest)
  unfolding signatures_form
  sig_lists_read w rest h small is =
      reads-as h.whole
      (reads-make
      (reads-separated level nested (is_sign sign.Semicolon) IsOptionalSignature IsClosed optional_sig_form (suc level) (omega arith) optional_sig_read
      (λ l tail is. parted (sign_stands sign.Semicolon l is)) (w ∷ rest) h.parts small (ended is) (kind_ends (is_sign_kind sign.Semicolon) w rest is.kind refl)))

  optional_member_read : (class : Enclosing) (invariants : Bool) {ls : List Lexeme} {all : List Declaration} (rest : List Lexeme) → IsOptionalMember class invariants ls all
      → length ls < suc level → IsClosed rest → Reads level nested (optional_member_form class invariants) (ls ++ rest) all rest
  unfolding optional_member_form
  optional_member_read class invariants rest absent small closed = reads-second (member_shut class invariants closed) reads-give
  optional_member_read class invariants rest (given {ls = ls} h) small closed =
      reads-first (meets_front (opens (member_form class invariants)) ls rest (member_opens class invariants h.is h.count))
      (reads-make (member_read level nested inside class invariants rest h.is h.count small closed))

  -- the iterations of members
  abbrev Turns : Enclosing → List Lexeme → List Declaration → Type 0
  Turns class ls all =
      Gathers level nested IsClosed (optional_member_form class true) (is_sign sign.Semicolon) (λ all _. make (λ more. all ++ more) (optional_member_form class (none_yet all))) ls all

  one_turn : (class : Enclosing) (ls ms : List Lexeme) (all others : List Declaration) (l : Lexeme) → Turns class ls all → IsSign sign.Semicolon l
      → IsOptionalMember class (none_yet all) ms others → length (ls ++ l ∷ ms) < suc level → Turns class (ls ++ l ∷ ms) (all ++ others)
  one_turn class ls ms all others l g is h small =
      let sum : length (ls ++ l ∷ ms) ≡ length ls + suc (length ms) = length-append ls (l ∷ ms) in
      gathers-more level nested IsClosed (optional_member_form class true) (is_sign sign.Semicolon) (λ all _. make (λ more. all ++ more) (optional_member_form class (none_yet all)))
      ls all g (omega arith) l ms (all ++ others) (sign_met is) (λ rest. parted is)
      (λ rest closed. reads-make (optional_member_read class (none_yet all) rest h (omega arith) closed))

  counted : (class : Enclosing) (all : List Declaration) {ls : List Lexeme} {m : Declaration} (others : List Declaration) → IsMember class ls m → count (all ++ m ∷ others) ≤ 1
      → IsOptionalMember class (none_yet all) ls (m ∷ [])
  counted class all {m = m} others h few =
      let sum = count_append (m ∷ []) others in
      let one = count_one m in
      let fits = next_fits all (m ∷ others) few in
      given (record { is = h; count = omega arith })

  more_turns : (class : Enclosing) (ls : List Lexeme) (all : List Declaration) (l : Lexeme) {ms : List Lexeme} {others : List Declaration} → Turns class ls all → IsSign sign.Semicolon l
      → IsMembers class ms others → count (all ++ others) ≤ 1 → length (ls ++ l ∷ ms) < suc level → Turns class (ls ++ l ∷ ms) (all ++ others)
  more_turns class ls all l g is classes.nothing few small = one_turn class ls [] all [] l g is absent small
  more_turns class ls all l g is (classes.IsMembers.last {ls = ms} {m = m} h) few small = one_turn class ls ms all (m ∷ []) l g is (counted class all [] h few) small
  more_turns class ls all l g is (classes.empty {semicolon = s} {ls = ms} {members = others} k rest) few small =
      let sum : length (ls ++ l ∷ s ∷ ms) ≡ length ls + suc (suc (length ms)) = length-append ls (l ∷ s ∷ ms) in
      let part : length (ls ++ l ∷ []) ≡ length ls + 1 = length-append ls (l ∷ []) in
      let whole : length ((ls ++ l ∷ []) ++ s ∷ ms) ≡ length (ls ++ l ∷ []) + suc (length ms) = length-append (ls ++ l ∷ []) (s ∷ ms) in
      let next : Turns class (ls ++ l ∷ []) all = subst (Turns class (ls ++ l ∷ [])) (append-nil all) (one_turn class ls [] all [] l g is absent (omega arith)) in
      subst (λ xs. Turns class xs (all ++ others)) (append_assoc ls (l ∷ []) (s ∷ ms)) (more_turns class (ls ++ l ∷ []) all s next k rest few (omega arith))
  more_turns class ls all l g is (classes.IsMembers.more {ls = ks} {ms = ms} {semicolon = s} {m = m} {members = others} h k rest) few small =
      let sum : length (ls ++ l ∷ (ks ++ s ∷ ms)) ≡ length ls + suc (length (ks ++ s ∷ ms)) = length-append ls (l ∷ (ks ++ s ∷ ms)) in
      let part : length (ks ++ s ∷ ms) ≡ length ks + suc (length ms) = length-append ks (s ∷ ms) in
      let front : length (ls ++ l ∷ ks) ≡ length ls + suc (length ks) = length-append ls (l ∷ ks) in
      let whole : length ((ls ++ l ∷ ks) ++ s ∷ ms) ≡ length (ls ++ l ∷ ks) + suc (length ms) = length-append (ls ++ l ∷ ks) (s ∷ ms) in
      let lists : (all ++ m ∷ []) ++ others ≡ all ++ m ∷ others = append_assoc all (m ∷ []) others in
      let next = one_turn class ls ks all (m ∷ []) l g is (counted class all others h few) (omega arith) in
      subst (λ xs. Turns class xs (all ++ m ∷ others)) (append_assoc ls (l ∷ ks) (s ∷ ms))
      (subst (Turns class ((ls ++ l ∷ ks) ++ s ∷ ms)) lists
      (more_turns class (ls ++ l ∷ ks) (all ++ m ∷ []) s next k rest (subst (λ xs. count xs ≤ 1) (sym lists) few) (omega arith)))

  first_turn : (class : Enclosing) (ls : List Lexeme) (all : List Declaration) → IsOptionalMember class true ls all → length ls < suc level → Turns class ls all
  first_turn class ls all h small =
      gathers-first level nested IsClosed (optional_member_form class true) (is_sign sign.Semicolon) (λ all _. make (λ more. all ++ more) (optional_member_form class (none_yet all)))
      ls all (λ rest closed. optional_member_read class true rest h small closed)

  all_turns : (class : Enclosing) {ls : List Lexeme} {all : List Declaration} → IsMembers class ls all → count all ≤ 1 → length ls < suc level → Turns class ls all
  all_turns class classes.nothing few small = first_turn class [] [] absent small
  all_turns class (classes.IsMembers.last {ls = ls} {m = m} h) few small = first_turn class ls (m ∷ []) (counted class [] [] h few) small
  all_turns class (classes.empty {semicolon = s} k rest) few small = more_turns class [] [] s (first_turn class [] [] absent (omega arith)) k rest few small
  all_turns class (classes.IsMembers.more {ls = ls} {ms = ms} {semicolon = s} {m = m} {members = others} h k rest) few small =
      let sum : length (ls ++ s ∷ ms) ≡ length ls + suc (length ms) = length-append ls (s ∷ ms) in
      more_turns class ls (m ∷ []) s (first_turn class ls (m ∷ []) (counted class [] others h few) (omega arith)) k rest few small

  members_read : (class : Enclosing) {ls : List Lexeme} {all : List Declaration} (w : Lexeme) (rest : List Lexeme) → IsFew class ls all → length ls < suc level → IsWord word.End w
      → Reads level nested (members_form class) (ls ++ w ∷ rest) all (w ∷ rest)
  unfolding members_form
  members_read class {ls = ls} {all = all} w rest h small is =
      reads-gathered level nested IsClosed (optional_member_form class true) (is_sign sign.Semicolon) (λ all _. make (λ more. all ++ more) (optional_member_form class (none_yet all)))
      ls all (w ∷ rest) (all_turns class h.are h.few small) small (ended is) (kind_ends (is_sign_kind sign.Semicolon) w rest is.kind refl)

  -- ---- classes

  concrete_read : (file_kind : FileKind) (kind : ClassKind) {ls : List Lexeme} {c : Written} (rest : List Lexeme) → IsConcrete file_kind kind ls c → length ls < suc level
      → Reads level nested (concrete_form file_kind kind) (ls ++ rest) c rest
  unfolding concrete_form
  concrete_read file_kind kind rest (concrete {is = is} {closing = closed} {hs = hs} {ls = ls} {head = head} w h is_is k closes) small =
      let sum : length ((hs ++ is ∷ ls) ++ closed ∷ []) ≡ length (hs ++ is ∷ ls) + 1 = length-append (hs ++ is ∷ ls) (closed ∷ []) in
      let part : length (hs ++ is ∷ ls) ≡ length hs + suc (length ls) = length-append hs (is ∷ ls) in
      reads-met (word_met w)
      (reads-joined (hs ++ is ∷ ls) (closed ∷ []) rest
      (reads-joined hs (is ∷ ls) (closed ∷ rest)
      (reads-follow (concrete_head_read is (ls ++ closed ∷ rest) h (omega arith) is_is)
      (reads-met (word_met is_is)
      (reads-make
      (reads-follow (members_read (record { name = head.name.name; kind = kind; file_kind = file_kind }) closed rest k (omega arith) closes) (reads-met (word_met closes) reads-give)))))))

  pub class_read : (file_kind : FileKind) {ls : List Lexeme} {c : Written} (rest : List Lexeme) → IsWholeClass file_kind ls c → length ls < suc level
      → Reads level nested (class_form file_kind) (ls ++ rest) c rest
  unfolding class_form abstract_form
  class_read file_kind rest (classes.abstract_class {is = is} {closing = closed} {hs = hs} {ls = ls} a w h is_is k closes) small =
      let sum : length ((hs ++ is ∷ ls) ++ closed ∷ []) ≡ length (hs ++ is ∷ ls) + 1 = length-append (hs ++ is ∷ ls) (closed ∷ []) in
      let part : length (hs ++ is ∷ ls) ≡ length hs + suc (length ls) = length-append hs (is ∷ ls) in
      reads-met (word_met a)
      (reads-met (word_met w)
      (reads-joined (hs ++ is ∷ ls) (closed ∷ []) rest
      (reads-joined hs (is ∷ ls) (closed ∷ rest)
      (reads-follow (abstract_head_read is (ls ++ closed ∷ rest) h (omega arith) is_is)
      (reads-met (word_met is_is)
      (reads-make (reads-follow (sig_lists_read closed rest (sig_lists k) (omega arith) closes) (reads-met (word_met closes) reads-give))))))))
  class_read file_kind rest (classes.concrete_class classes.reference w h is k few closes) small =
      reads-other (other_word word.Abstract refl w) (reads-other (other_word word.Immutable refl w) (reads-other (other_word word.Partial refl w)
      (concrete_read file_kind _ rest (concrete w h is (record { are = k; few = few }) closes) small)))
  class_read file_kind rest (classes.concrete_class (classes.immutable_word v) w h is k few closes) small =
      reads-other (other_word word.Abstract refl v) (reads-met (word_met v) (concrete_read file_kind _ rest (concrete w h is (record { are = k; few = few }) closes) (omega arith)))
  class_read file_kind rest (classes.concrete_class (classes.partial_word v) w h is k few closes) small =
      reads-other (other_word word.Abstract refl v) (reads-other (other_word word.Immutable refl v)
      (reads-met (word_met v) (concrete_read file_kind _ rest (concrete w h is (record { are = k; few = few }) closes) (omega arith))))

  optional_class_read : (file_kind : FileKind) (ls : List Lexeme) (all : List Written) (rest : List Lexeme) → IsOptionalClass file_kind ls all → length ls < suc level → IsClosed rest
      → Reads level nested (optional_class_form file_kind) (ls ++ rest) all rest
  unfolding optional_class_form
  optional_class_read file_kind _ _ rest classes.IsOptionalClass.absent small closed = reads-second (class_shut file_kind rest (closed_ends begins_class refl refl closed)) reads-give
  optional_class_read file_kind ls _ rest (classes.IsOptionalClass.given h) small closed =
      reads-first (class_open file_kind (ls ++ rest) (meets_front (λ l. begins_class l.kind) ls rest (class_starts h))) (reads-make (class_read file_kind rest h small))

  class_lists_read : (file_kind : FileKind) {ls : List Lexeme} {all : List Written} → ClassLists file_kind ls all → length ls < suc level
      → Reads level nested (file_form file_kind) (ls ++ []) all []
  unfolding file_form
  class_lists_read file_kind h small =
      reads-as h.whole
      (reads-make
      (reads-separated level nested (is_sign sign.Semicolon) (IsOptionalClass file_kind) IsClosed (optional_class_form file_kind) (suc level) (omega arith) (optional_class_read file_kind)
      (λ l tail is. parted (sign_stands sign.Semicolon l is)) [] h.parts small nothing tt))

  -- up to the end
  pub file_read : (file_kind : FileKind) {ls : List Lexeme} {all : List Written} → IsFile file_kind ls all → length ls < suc level → Reads level nested (file_form file_kind) (ls ++ []) all []
  file_read file_kind h small = class_lists_read file_kind (class_lists h) small
