-- Numbers: what is found is a token by the rules, and reaches as far as any.
use Rattle.std.proofs.Common.{◌≡◌, ℕ, suc, ◌+◌, ◌^◌, ◌<◌, ◌≤◌, Bool, true, false, ◌==◌, List, [], ◌∷◌, ◌++◌, length, take, drop, Ok, refl, sym, ap, ◌∙◌, subst, append_assoc, length-append, take-append-drop, if◌then◌else◌, arith, leb-false}
use Rattle.std.specs.Prelude.{codes, nat_eq, nat_le}
use Rattle.std.specs.List.{list_all, prefix_len, take_while, starts_with}
use Rattle.std.specs.Char.{is_digit, is_ascii_alphabetic, is_ascii_digit}
use Rattle.std.proofs.lemmas.Bool.{and_parts, and_from, or_left}
use Rattle.std.proofs.lemmas.Bool.Decides.{nat_tests}
use Rattle.std.proofs.lemmas.List.Sums.{take_while-cons}
use Rattle.std.proofs.lemmas.List.Folds.{length-prefix_len}
use lib.Pointwise.{bytes_decides}
use Rattle.sa_lexer.specs.declared.scan_result.ScannedToken.{ScannedToken}
use Rattle.sa_lexer.specs.declared.token.TokenKind.TheVariants as token
use Rattle.sa_ast.specs.declared.rule.Rule.TheVariants as rule
use Rattle.sa_lexer.specs.Front.{front_of}
use Rattle.sa_lexer.specs.Number.{base_of, prefix_size, is_digit_or_underscore, value_of, begins_with_digit, goes_on, number_of, number_token}
use Rattle.sa_lexer.specs.TokenRules.{is_numeral, IsPrefix, decimal, hexadecimal, octal, binary, IsNumber}
use Rattle.sa_lexer.proofs.Reach.{IsTokenOf, Reaches, token_of, ok, err}
use Rattle.sa_lexer.proofs.Fronts.{prefix_len-front, all_pass}

-- ---- the prefix that gives the base

starts_with-split : (xs needle : List ℕ) → starts_with nat_eq xs needle ≡ true → xs ≡ needle ++ drop (length needle) xs
starts_with-split xs needle starts =
    let same = (bytes_decides needle (take (length needle) xs)).0 starts in
    sym (take-append-drop (length needle) xs) ∙ ap (λ (l : List ℕ). l ++ drop (length needle) xs) (sym same)

record HasBase (base : ℕ) (bs : List ℕ) : Type 0 where
  prefix : List ℕ
  prefixed : IsPrefix base prefix
  size : prefix_size base ≡ length prefix
  split : bs ≡ prefix ++ drop (prefix_size base) bs

has_base : (bs : List ℕ) → HasBase (base_of bs) bs
has_base bs = by (starts_with nat_eq bs (codes "0x")) (starts_with nat_eq bs (codes "0o")) (starts_with nat_eq bs (codes "0b")) refl refl refl
  where
    by : (x o b : Bool) → starts_with nat_eq bs (codes "0x") ≡ x → starts_with nat_eq bs (codes "0o") ≡ o → starts_with nat_eq bs (codes "0b") ≡ b → HasBase (if x then 16 else (if o then 8 else (if b then 2 else 10))) bs
    by true o b hx ho hb = record { prefix = codes "0x"; prefixed = hexadecimal; size = refl; split = starts_with-split bs (codes "0x") hx }
    by false true b hx ho hb = record { prefix = codes "0o"; prefixed = octal; size = refl; split = starts_with-split bs (codes "0o") ho }
    by false false true hx ho hb = record { prefix = codes "0b"; prefixed = binary; size = refl; split = starts_with-split bs (codes "0b") hb }
    by false false false hx ho hb = record { prefix = []; prefixed = decimal; size = refl; split = refl }

-- ---- the digits

number_of-is : (value len : ℕ) (rest : List ℕ) (found : ScannedToken) → number_of value len rest ≡ Ok found → (value < 2 ^ 31) × (found ≡ record { kind = token.Int value; len = len })
number_of-is value len rest found is = by (nat_le (2 ^ 31) value) refl (goes_on rest) is
  where
    by : (t : Bool) → nat_le (2 ^ 31) value ≡ t → (u : Bool) → (if t then err (record { rule = rule.NumberTooLarge; offset = 0 }) else (if u then err (record { rule = rule.NumberForm; offset = 0 }) else ok (record { kind = token.Int value; len = len }))) ≡ Ok found → (value < 2 ^ 31) × (found ≡ record { kind = token.Int value; len = len })
    by true large u same = cc
    by false small true same = cc
    by false small false same = (leb-false (2 ^ 31) value small, cc)

is_numeral-front : (base : ℕ) (body : List ℕ) → begins_with_digit base body ≡ true → is_numeral base (take_while (is_digit_or_underscore base) body) ≡ true
is_numeral-front base [] begins = cc
is_numeral-front base (d ∷ ds) begins =
    let passes : is_digit_or_underscore base d ≡ true = or_left (is_digit d base) (d == 0x5F) begins in
    rw (take_while-cons (is_digit_or_underscore base) d ds, passes) (and_from (is_digit d base) (list_all (is_digit_or_underscore base) (take_while (is_digit_or_underscore base) ds)) begins (all_pass (is_digit_or_underscore base) ds))

numeral_passes : (base : ℕ) (digits : List ℕ) → is_numeral base digits ≡ true → list_all (is_digit_or_underscore base) digits ≡ true
numeral_passes base [] numeral = refl
numeral_passes base (d ∷ ds) numeral =
    let parts = and_parts (is_digit d base) (list_all (is_digit_or_underscore base) ds) numeral in
    and_from (is_digit_or_underscore base d) (list_all (is_digit_or_underscore base) ds) (or_left (is_digit d base) (d == 0x5F) parts.0) parts.1

module _ (base : ℕ) (bs : List ℕ) where
  abbrev body : List ℕ
  body = drop (prefix_size base) bs

  abbrev count : ℕ
  count = prefix_len (is_digit_or_underscore base) body

  number_in : HasBase base bs → (found : ScannedToken) → (if begins_with_digit base body then number_of (value_of base (take count body)) (prefix_size base + count) (drop count body) else err (record { rule = rule.NumberForm; offset = 0 })) ≡ Ok found → IsTokenOf bs found × (found.len ≡ prefix_size base + count)
  number_in has found is = by (begins_with_digit base body) refl is
    where
      by : (t : Bool) → begins_with_digit base body ≡ t → (if t then number_of (value_of base (take count body)) (prefix_size base + count) (drop count body) else err (record { rule = rule.NumberForm; offset = 0 })) ≡ Ok found → IsTokenOf bs found × (found.len ≡ prefix_size base + count)
      by false none same = cc
      by true begins same =
          let value = value_of base (take count body) in
          let (small, whole) = number_of-is value (prefix_size base + count) (drop count body) found same in
          let split : bs ≡ (has.prefix ++ take count body) ++ drop count body =
          has.split ∙ ap (λ (l : List ℕ). has.prefix ++ l) (sym (take-append-drop count body)) ∙ sym (append_assoc has.prefix (take count body) (drop count body)) in
          let digits : length (take count body) ≡ count = length-prefix_len (is_digit_or_underscore base) body in
          let long : prefix_size base + count ≡ length (has.prefix ++ take count body) = omega (arith, has.size, length-append has.prefix (take count body)) in
          let number : IsNumber value (has.prefix ++ take count body) = record {
            base = base;
            prefix = has.prefix;
            digits = take count body;
            prefixed = has.prefixed;
            numeral = is_numeral-front base body begins;
            spelled = refl;
            counted = refl;
            small = small;
          } in
          let one = token_of (token.Int value) bs (has.prefix ++ take count body) (drop count body) (prefix_size base + count) split long number in
          (subst (IsTokenOf bs) (sym whole) one, ap (λ (f : ScannedToken). f.len) whole)

number_found : (bs : List ℕ) (found : ScannedToken) → number_token bs ≡ Ok found → IsTokenOf bs found × (found.len ≡ prefix_size (base_of bs) + count (base_of bs) bs)
unfolding number_token
number_found bs found is = number_in (base_of bs) bs (has_base bs) found is

pub number_matches : (bs : List ℕ) (found : ScannedToken) → number_token bs ≡ Ok found → IsTokenOf bs found
number_matches bs found is = (number_found bs found is).0

-- ---- how far it reaches

decimal_digit : (b : ℕ) → is_digit b 10 ≡ true → (is_ascii_alphabetic b ≡ false) × (is_ascii_digit b ≡ true)
decimal_digit b digit = (grind (arith, nat_tests), grind (arith, nat_tests))

front_of-digit : (b : ℕ) (bs : List ℕ) → is_digit b 10 ≡ true → front_of (b ∷ bs) ≡ number_token (b ∷ bs)
unfolding front_of
front_of-digit b bs digit = let tests = decimal_digit b digit in rw (tests.0, tests.1)

-- a decimal numeral before a byte that is no digit after a `0`
alone : (d : ℕ) (ds following : List ℕ) (c : ℕ) (rest : List ℕ) → d ∷ (ds ++ following) ≡ 48 ∷ c ∷ rest → is_digit_or_underscore 10 c ≡ false → list_all (is_digit_or_underscore 10) ds ≡ true → length ds ≡ 0
alone d [] following c rest same none all = refl
alone d (e ∷ es) following c rest same none all =
    let parts = and_parts (is_digit_or_underscore 10 e) (list_all (is_digit_or_underscore 10) es) all in
    let is : e ≡ c = cc in
    absurd (clash (sym parts.0 ∙ ap (is_digit_or_underscore 10) is ∙ none))
  where
    clash : true ≡ false → ⊥
    clash e = cc

module _ (d : ℕ) (ds following : List ℕ) (numeral : is_numeral 10 (d ∷ ds) ≡ true) where
  abbrev text : List ℕ
  text = d ∷ (ds ++ following)

  abbrev IsWithin : ℕ → Type 0
  IsWithin base = suc (length ds) ≤ prefix_size base + count base text

  decimal_within : IsWithin (base_of text)
  decimal_within = by (starts_with nat_eq text (codes "0x")) (starts_with nat_eq text (codes "0o")) (starts_with nat_eq text (codes "0b")) refl refl refl
    where
      tail : list_all (is_digit_or_underscore 10) ds ≡ true
      tail = (and_parts (is_digit d 10) (list_all (is_digit_or_underscore 10) ds) numeral).1

      by : (x o b : Bool) → starts_with nat_eq text (codes "0x") ≡ x → starts_with nat_eq text (codes "0o") ≡ o → starts_with nat_eq text (codes "0b") ≡ b → IsWithin (if x then 16 else (if o then 8 else (if b then 2 else 10)))
      by true o b hx ho hb = let none = alone d ds following 120 (drop 2 text) (starts_with-split text (codes "0x") hx) refl tail in omega arith
      by false true b hx ho hb = let none = alone d ds following 111 (drop 2 text) (starts_with-split text (codes "0o") ho) refl tail in omega arith
      by false false true hx ho hb = let none = alone d ds following 98 (drop 2 text) (starts_with-split text (codes "0b") hb) refl tail in omega arith
      by false false false hx ho hb = let front = prefix_len-front (is_digit_or_underscore 10) (d ∷ ds) following (numeral_passes 10 (d ∷ ds) numeral) in omega arith

prefixed_reaches : (base c : ℕ) (digits following : List ℕ) → is_numeral base digits ≡ true → base_of (48 ∷ c ∷ (digits ++ following)) ≡ base → prefix_size base ≡ 2 → Reaches (48 ∷ c ∷ digits) following
prefixed_reaches base c digits following numeral is two found finds =
    let text = 48 ∷ c ∷ (digits ++ following) in
    let reach = (number_found text found (sym (front_of-digit 48 (c ∷ (digits ++ following)) refl) ∙ finds)).1 in
    let at : found.len ≡ prefix_size base + count base text = subst (λ (n : ℕ). found.len ≡ prefix_size n + count n text) is reach in
    let same : count base text ≡ prefix_len (is_digit_or_underscore base) (digits ++ following) = ap (λ (n : ℕ). prefix_len (is_digit_or_underscore base) (drop n text)) two in
    let front = prefix_len-front (is_digit_or_underscore base) digits following (numeral_passes base digits numeral) in
    omega arith

decimal_reaches : (digits following : List ℕ) → is_numeral 10 digits ≡ true → Reaches digits following
decimal_reaches [] following numeral found finds = cc
decimal_reaches (d ∷ ds) following numeral found finds =
    let digit = (and_parts (is_digit d 10) (list_all (is_digit_or_underscore 10) ds) numeral).0 in
    let reach = (number_found (d ∷ (ds ++ following)) found (sym (front_of-digit d (ds ++ following) digit) ∙ finds)).1 in
    let within = decimal_within d ds following numeral in
    omega arith

by_prefix : (base : ℕ) (prefix digits following : List ℕ) → IsPrefix base prefix → is_numeral base digits ≡ true → Reaches (prefix ++ digits) following
by_prefix base prefix digits following decimal numeral = decimal_reaches digits following numeral
by_prefix base prefix digits following hexadecimal numeral = prefixed_reaches 16 120 digits following numeral refl refl
by_prefix base prefix digits following octal numeral = prefixed_reaches 8 111 digits following numeral refl refl
by_prefix base prefix digits following binary numeral = prefixed_reaches 2 98 digits following numeral refl refl

pub number_reaches : (value : ℕ) (bytes following : List ℕ) → IsNumber value bytes → Reaches bytes following
number_reaches value bytes following number = subst (λ (l : List ℕ). Reaches l following) (sym number.spelled) (by_prefix number.base number.prefix number.digits following number.prefixed number.numeral)
