-- Names, words, iter names and abstract names: what is found is a token by the rules, and reaches as far as any.
use Rattle.std.proofs.Common.{◌≡◌, ℕ, zero, suc, ◌+◌, ◌<◌, ◌≤◌, Bool, true, false, not, List, [], ◌∷◌, ◌++◌, length, take, drop, Option, Some, None, Ok, refl, sym, ap, ◌∙◌, subst, append_assoc, length-append, take_at, drop_at, take-append-drop, if◌then◌else◌, arith, eqb-true, ltb-true}
use Rattle.std.specs.Prelude.{nat_lt}
use Rattle.std.specs.List.{list_all, prefix_len, take_while}
use Rattle.std.specs.Char.{is_ascii_alphabetic, is_ascii_lowercase}
use Rattle.std.specs.Str.{bytes_eq}
use Rattle.std.proofs.lemmas.Bool.{and_parts, and_from}
use Rattle.std.proofs.lemmas.List.Folds.{length-prefix_len}
use lib.Pointwise.{bytes_decides}
use Rattle.sa_lexer.specs.declared.scan_result.ScannedToken.{ScannedToken}
use Rattle.sa_lexer.specs.declared.token.TokenKind.TheVariants as token
use Rattle.sa_ast.specs.declared.rule.Rule.TheVariants as rule
use Rattle.sa_lexer.specs.declared.word.Word.{Word}
use Rattle.sa_lexer.specs.declared.word.Word.TheVariants as word
use Rattle.sa_lexer.specs.Bytes.{is_name_byte, begins_with}
use Rattle.sa_lexer.specs.Front.{front_of}
use Rattle.sa_lexer.specs.Name.{name_at, has_lower, word_or, kind_of_name, is_iter_name, name_token, class_name_at, abstract_token}
use Rattle.sa_lexer.specs.TokenRules.{is_name, IsLowerName, IsUpperName, IsNoWord, Matches}
use Rattle.sa_lexer.specs.Words.{word_text, word_spelled, words}
use Rattle.sa_lexer.proofs.Reach.{IsTokenOf, Reaches, same_found, token_of, front-split, ok, err}
use Rattle.sa_lexer.proofs.Fronts.{prefix_len-front, prefix_len-exact, all_pass, found_passes, take_while-split, take_while-front, list_all-take, none_passes, all_fail}
use Rattle.sa_lexer.proofs.Spellings.{word_found}

-- ---- the name at the front

name_at-letter : (b : ℕ) (bs : List ℕ) → is_ascii_alphabetic b ≡ true → name_at (b ∷ bs) ≡ b ∷ take_while is_name_byte bs
unfolding name_at
name_at-letter b bs letter = rw letter

name_at-other : (b : ℕ) (bs : List ℕ) → is_ascii_alphabetic b ≡ false → name_at (b ∷ bs) ≡ []
unfolding name_at
name_at-other b bs other = rw other

name_at-none : name_at [] ≡ []
unfolding name_at
name_at-none = refl

is_name-name_at : (b : ℕ) (bs : List ℕ) → is_ascii_alphabetic b ≡ true → is_name (name_at (b ∷ bs)) ≡ true
is_name-name_at b bs letter =
    ap is_name (name_at-letter b bs letter) ∙ and_from (is_ascii_alphabetic b) (list_all is_name_byte (take_while is_name_byte bs)) letter (all_pass is_name_byte bs)

name_at-split : (b : ℕ) (bs : List ℕ) → is_ascii_alphabetic b ≡ true → b ∷ bs ≡ name_at (b ∷ bs) ++ drop (length (name_at (b ∷ bs))) (b ∷ bs)
name_at-split b bs letter = rw (name_at-letter b bs letter) (ap (λ (l : List ℕ). b ∷ l) (take_while-split is_name_byte bs))

-- a name at the front is within the name that is found there
name_at-long : (name following : List ℕ) → is_name name ≡ true → length name ≤ length (name_at (name ++ following))
name_at-long [] following named = absurd cc
name_at-long (b ∷ bs) following named =
    let parts = and_parts (is_ascii_alphabetic b) (list_all is_name_byte bs) named in
    let front = prefix_len-front is_name_byte bs following parts.1 in
    let long = length-prefix_len is_name_byte (bs ++ following) in
    rw (name_at-letter b (bs ++ following) parts.0) (omega arith)

-- and it is the name where a `!` follows
name_at-iter : (name following : List ℕ) → is_name name ≡ true → name_at (name ++ 0x21 ∷ following) ≡ name
name_at-iter [] following named = absurd cc
name_at-iter (b ∷ bs) following named =
    let parts = and_parts (is_ascii_alphabetic b) (list_all is_name_byte bs) named in
    let exact = prefix_len-exact is_name_byte bs 0x21 following parts.1 refl in
    name_at-letter b (bs ++ 0x21 ∷ following) parts.0 ∙ ap (λ (l : List ℕ). b ∷ l) (take_at bs (0x21 ∷ following) (prefix_len is_name_byte (bs ++ 0x21 ∷ following)) (sym exact))

-- ---- words

spelled_so : (name : List ℕ) (w : Word) → word_spelled name ≡ Some w → name ≡ word_text w
spelled_so name w spelled = (bytes_decides name (word_text w)).0 (found_passes (λ (v : Word). bytes_eq name (word_text v)) words w spelled)

no_word : (name : List ℕ) → word_spelled name ≡ None → IsNoWord name
no_word name none w same = none_some (sym none ∙ ap word_spelled same ∙ word_found w)
  where
    none_some : ◌≡◌ {A = Option Word} None (Some w) → ⊥
    none_some e = cc

word_is_name : (w : Word) → is_name (word_text w) ≡ true
word_is_name word.Abstract = refl
word_is_name _ = refl

-- ---- the token of a name

kind_matches : (name : List ℕ) → is_name name ≡ true → Matches (kind_of_name name) name
unfolding kind_of_name
kind_matches name named = by (word_spelled name) refl (has_lower name) refl
  where
    by : (o : Option Word) → word_spelled name ≡ o → (t : Bool) → has_lower name ≡ t → Matches (word_or (if t then token.Lower else token.ClassName) o) name
    by (Some w) spelled t lower = spelled_so name w spelled
    by None spelled true lower = ((named, lower), no_word name spelled)
    by None spelled false lower = ((named, lower), no_word name spelled)

begins_with-split : (c : ℕ) (bs : List ℕ) → begins_with c bs ≡ true → (more : List ℕ) × (bs ≡ c ∷ more)
begins_with-split c [] begins = absurd cc
begins_with-split c (b ∷ bs) begins = (bs, ap (λ (x : ℕ). x ∷ bs) (eqb-true b c begins))

abbrev found_by : List ℕ → Bool → ScannedToken
found_by name iter = if iter then record { kind = token.IterName; len = length name + 1 } else record { kind = kind_of_name name; len = length name }

pub name_matches : (b : ℕ) (bs : List ℕ) → is_ascii_alphabetic b ≡ true → IsTokenOf (b ∷ bs) (name_token (b ∷ bs))
unfolding name_token
name_matches b bs letter = by (is_iter_name name following) refl
  where
    name : List ℕ
    name = name_at (b ∷ bs)

    following : List ℕ
    following = drop (length (name_at (b ∷ bs))) (b ∷ bs)

    named : is_name name ≡ true
    named = is_name-name_at b bs letter

    split : b ∷ bs ≡ name ++ following
    split = name_at-split b bs letter

    by : (t : Bool) → is_iter_name name following ≡ t → IsTokenOf (b ∷ bs) (found_by name t)
    by true iter =
        let parts = and_parts (begins_with 0x21 following) (has_lower name) iter in
        let more = begins_with-split 0x21 following parts.0 in
        let whole : b ∷ bs ≡ (name ++ 0x21 ∷ []) ++ more.0 = split ∙ ap (λ (l : List ℕ). name ++ l) more.1 ∙ sym (append_assoc name (0x21 ∷ []) more.0) in
        token_of token.IterName (b ∷ bs) (name ++ 0x21 ∷ []) more.0 (length name + 1) whole (sym (length-append name (0x21 ∷ []))) (name, refl, (named, parts.1))
    by false plain = token_of (kind_of_name name) (b ∷ bs) name following (length name) split refl (kind_matches name named)

front_of-letter : (b : ℕ) (bs : List ℕ) → is_ascii_alphabetic b ≡ true → front_of (b ∷ bs) ≡ Ok (name_token (b ∷ bs))
unfolding front_of
front_of-letter b bs letter = rw letter

found_by-long : (name : List ℕ) (iter : Bool) → length name ≤ (found_by name iter).len
found_by-long name true = omega arith
found_by-long name false = omega arith

name_token-long : (bs : List ℕ) → length (name_at bs) ≤ (name_token bs).len
unfolding name_token
name_token-long bs = found_by-long (name_at bs) (is_iter_name (name_at bs) (drop (length (name_at bs)) bs))

pub name_reaches : (name following : List ℕ) → is_name name ≡ true → Reaches name following
name_reaches [] following named found is = absurd cc
name_reaches (b ∷ bs) following named found is =
    let parts = and_parts (is_ascii_alphabetic b) (list_all is_name_byte bs) named in
    let same = same_found found (name_token (b ∷ (bs ++ following))) (front_of (b ∷ (bs ++ following))) is (front_of-letter b (bs ++ following) parts.0) in
    let long = name_at-long (b ∷ bs) following named in
    let reach = name_token-long (b ∷ (bs ++ following)) in
    rw same (omega arith)

pub word_reaches : (w : Word) (following : List ℕ) → Reaches (word_text w) following
word_reaches w following = name_reaches (word_text w) following (word_is_name w)

name_token-iter : (bs name following : List ℕ) → name_at bs ≡ name → drop (length name) bs ≡ following → is_iter_name name following ≡ true → (name_token bs).len ≡ length name + 1
unfolding name_token
name_token-iter bs name following is rest iter = rw (is, rest, iter)

pub iter_reaches : (name following : List ℕ) → IsLowerName name → Reaches (name ++ 0x21 ∷ []) following
iter_reaches [] following lower found is = absurd (no lower.0)
  where
    no : false ≡ true → ⊥
    no e = cc
iter_reaches (b ∷ bs) following lower found is =
    let parts = and_parts (is_ascii_alphabetic b) (list_all is_name_byte bs) lower.0 in
    let text = b ∷ (bs ++ 0x21 ∷ following) in
    let whole : b ∷ ((bs ++ 0x21 ∷ []) ++ following) ≡ text = append_assoc (b ∷ bs) (0x21 ∷ []) following in
    let same = same_found found (name_token text) (front_of text) (ap front_of (sym whole) ∙ is) (front_of-letter b (bs ++ 0x21 ∷ following) parts.0) in
    let len = name_token-iter text (b ∷ bs) (0x21 ∷ following) (name_at-iter (b ∷ bs) following lower.0) (drop_at (b ∷ bs) (0x21 ∷ following) (length (b ∷ bs)) refl) lower.1 in
    rw same (omega (arith, length-append bs (0x21 ∷ [])))

-- ---- the token of an abstract class's name

front_of-dollar : (bs : List ℕ) → front_of (0x24 ∷ bs) ≡ abstract_token bs
unfolding front_of
front_of-dollar bs = refl

abstract_token-is : (bs : List ℕ) (found : ScannedToken) → abstract_token bs ≡ Ok found → (0 < length (class_name_at bs)) × (found ≡ record { kind = token.AbstractName; len = 1 + length (class_name_at bs) })
unfolding abstract_token
abstract_token-is bs found is = by (nat_lt 0 (length (class_name_at bs))) refl is
  where
    whole : ScannedToken
    whole = record { kind = token.AbstractName; len = 1 + length (class_name_at bs) }

    by : (t : Bool) → nat_lt 0 (length (class_name_at bs)) ≡ t → (if t then ok (record { kind = token.AbstractName; len = 1 + length (class_name_at bs) }) else err (record { rule = rule.BadByte; offset = 0 })) ≡ Ok found → (0 < length (class_name_at bs)) × (found ≡ record { kind = token.AbstractName; len = 1 + length (class_name_at bs) })
    by true some same = (ltb-true 0 (length (class_name_at bs)) some, cc)
    by false none same = cc

class_name_at-letter : (b : ℕ) (bs : List ℕ) → is_ascii_alphabetic b ≡ true → class_name_at (b ∷ bs) ≡ take_while (λ c. not (is_ascii_lowercase c)) (name_at (b ∷ bs))
unfolding class_name_at
class_name_at-letter b bs letter = refl

-- a class's name is found only at a letter
class_name_at-other : (b : ℕ) (bs : List ℕ) → is_ascii_alphabetic b ≡ false → length (class_name_at (b ∷ bs)) ≡ 0
unfolding class_name_at
class_name_at-other b bs other = rw (name_at-other b bs other)

class_name_at-none : length (class_name_at []) ≡ 0
unfolding class_name_at
class_name_at-none = rw name_at-none

-- a prefix of a name is one, unless it is empty
is_name-take : (n : ℕ) (name : List ℕ) → is_name name ≡ true → 0 < length (take n name) → is_name (take n name) ≡ true
is_name-take n [] named some = cc
is_name-take zero (b ∷ bs) named some = absurd (omega arith)
is_name-take (suc n) (b ∷ bs) named some =
    let parts = and_parts (is_ascii_alphabetic b) (list_all is_name_byte bs) named in
    and_from (is_ascii_alphabetic b) (list_all is_name_byte (take n bs)) parts.0 (list_all-take is_name_byte n bs parts.1)

class_name : (bs : List ℕ) → 0 < length (class_name_at bs) → IsUpperName (class_name_at bs) × (bs ≡ class_name_at bs ++ drop (length (class_name_at bs)) bs)
class_name [] some = absurd (omega (arith, class_name_at-none))
class_name (b ∷ bs) some = by (is_ascii_alphabetic b) refl
  where
    by : (t : Bool) → is_ascii_alphabetic b ≡ t → IsUpperName (class_name_at (b ∷ bs)) × (b ∷ bs ≡ class_name_at (b ∷ bs) ++ drop (length (class_name_at (b ∷ bs))) (b ∷ bs))
    by false other = absurd (omega (arith, class_name_at-other b bs other))
    by true letter =
        let upper = λ (c : ℕ). not (is_ascii_lowercase c) in
        let name = name_at (b ∷ bs) in
        let is : class_name_at (b ∷ bs) ≡ take (prefix_len upper name) name = class_name_at-letter b bs letter in
        let some' : 0 < length (take (prefix_len upper name) name) = subst (λ (l : List ℕ). 0 < length l) is some in
        let named = is_name-take (prefix_len upper name) name (is_name-name_at b bs letter) some' in
        let following = drop (length name) (b ∷ bs) in
        let whole : b ∷ bs ≡ take (prefix_len upper name) name ++ (drop (prefix_len upper name) name ++ following) =
        name_at-split b bs letter ∙ ap (λ (l : List ℕ). l ++ following) (sym (take-append-drop (prefix_len upper name) name)) ∙ append_assoc (take (prefix_len upper name) name) (drop (prefix_len upper name) name) following in
        let front = front-split (b ∷ bs) (take (prefix_len upper name) name) (drop (prefix_len upper name) name ++ following) whole in
        rw is ((named, none_passes is_ascii_lowercase name), front)

pub abstract_matches : (bs : List ℕ) (found : ScannedToken) → abstract_token bs ≡ Ok found → IsTokenOf (0x24 ∷ bs) found
abstract_matches bs found is =
    let (some, same) = abstract_token-is bs found is in
    let (upper, split) = class_name bs some in
    let name = class_name_at bs in
    let long : 1 + length name ≡ length (0x24 ∷ name) = omega arith in
    subst (IsTokenOf (0x24 ∷ bs)) (sym same) (token_of token.AbstractName (0x24 ∷ bs) (0x24 ∷ name) (drop (length name) bs) (1 + length name) (ap (λ (l : List ℕ). 0x24 ∷ l) split) long (name, refl, upper))

class_name_at-long : (name following : List ℕ) → IsUpperName name → length name ≤ length (class_name_at (name ++ following))
class_name_at-long [] following upper = absurd (no upper.0)
  where
    no : false ≡ true → ⊥
    no e = cc
class_name_at-long (b ∷ bs) following upper =
    let parts = and_parts (is_ascii_alphabetic b) (list_all is_name_byte bs) upper.0 in
    let test = λ (c : ℕ). not (is_ascii_lowercase c) in
    let more = take_while is_name_byte following in
    let name : name_at (b ∷ (bs ++ following)) ≡ (b ∷ bs) ++ more = name_at-letter b (bs ++ following) parts.0 ∙ ap (λ (l : List ℕ). b ∷ l) (take_while-front is_name_byte bs following parts.1) in
    let is : class_name_at (b ∷ (bs ++ following)) ≡ take_while test ((b ∷ bs) ++ more) = class_name_at-letter b (bs ++ following) parts.0 ∙ ap (take_while test) name in
    let front = prefix_len-front test (b ∷ bs) more (all_fail is_ascii_lowercase (b ∷ bs) upper.1) in
    rw (is, length-prefix_len) front

pub abstract_reaches : (name following : List ℕ) → IsUpperName name → Reaches (0x24 ∷ name) following
abstract_reaches name following upper found is =
    let token = (abstract_token-is (name ++ following) found (sym (front_of-dollar (name ++ following)) ∙ is)).1 in
    let long = class_name_at-long name following upper in
    rw token (omega arith)
