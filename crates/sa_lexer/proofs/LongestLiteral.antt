-- Characters and texts: what is found is a token by the rules, and reaches as far as any.
use Rattle.std.proofs.Common.{◌≡◌, ℕ, zero, suc, ◌+◌, ◌-◌, ◌<◌, ◌≤◌, Bool, true, false, not, ◌&&◌, ◌==◌, List, [], ◌∷◌, ◌++◌, length, take, Option, Some, None, Result, Ok, Err, refl, sym, ap, ◌∙◌, subst, append_assoc, length-append, take_at, if◌then◌else◌, arith, eqb-true, eq-eqb, inl, inr, ◌⊎◌, lt-ltb, leb-true}
use Rattle.std.specs.Prelude.{option_map, nat_le}
use Rattle.std.specs.List.{list_all, take_while}
use Rattle.std.specs.Char.{is_digit}
use Rattle.std.proofs.lemmas.Bool.{and_parts, and_from, eqb-false, ne_eqb}
use Rattle.std.proofs.lemmas.List.Sums.{take_while-cons}
use Rattle.sa_lexer.specs.declared.scan_result.ScannedToken.{ScannedToken}
use Rattle.sa_lexer.specs.declared.literal.Item.{Item}
use Rattle.sa_lexer.specs.declared.token.TokenKind.TheVariants as token
use Rattle.sa_lexer.specs.Front.{front_of}
use Rattle.sa_lexer.specs.Literal.{inside_len, named_escape, octal_digits, escape_at, item_at, items_from, following, bytes_of, character_of, character_of_byte, character_up_to, character_token, text_of, text_up_to, text_token}
use Rattle.sa_lexer.specs.Number.{begins_with_digit, value_of}
use Rattle.sa_lexer.specs.TokenRules.{IsPlain, IsOctal, Denotes, nothing, plain, named, numbered, IsLiteral}
use Rattle.sa_lexer.proofs.Reach.{IsTokenOf, Reaches, token_of, ok}

some_same : (a b : ℕ) → Some a ≡ Some b → a ≡ b
some_same a b same = cc

ok_bytes : (xs ys : List ℕ) → ◌≡◌ {A = Result (List ℕ) ℕ} (Ok xs) (Ok ys) → xs ≡ ys
ok_bytes xs ys same = cc

ok_found : (f g : ScannedToken) → ok f ≡ Ok g → f ≡ g
ok_found f g same = cc

-- ---- where a literal ends

suc_inside : (o : Option ℕ) (n : ℕ) → option_map suc o ≡ Some n → (m : ℕ) × (n ≡ suc m) × (o ≡ Some m)
suc_inside (Some m) n is = (m, cc, refl)
suc_inside None n is = cc

-- a byte that isn't the closing quote
record Step (quote : ℕ) (escaped : Bool) (b : ℕ) (bs : List ℕ) (n : ℕ) : Type 0 where
  feed : (b == 0x0A) ≡ false
  inner : (not escaped && b == quote) ≡ false
  next : inside_len quote (not escaped && b == 0x5C) bs ≡ Some n

step : (quote : ℕ) (escaped : Bool) (b : ℕ) (bs : List ℕ) (n : ℕ) → inside_len quote escaped (b ∷ bs) ≡ Some (suc n) → Step quote escaped b bs n
unfolding inside_len
step quote escaped b bs n is = by (b == 0x0A) refl (not escaped && b == quote) refl is
  where
    by : (feed : Bool) → (b == 0x0A) ≡ feed → (closes : Bool) → (not escaped && b == quote) ≡ closes → (if feed then None else (if closes then Some 0 else option_map suc (inside_len quote (not escaped && b == 0x5C) bs))) ≡ Some (suc n) → Step quote escaped b bs n
    by true newlines closes test same = cc
    by false newlines true test same = cc
    by false newlines false test same =
        let (m, is, there) = suc_inside (inside_len quote (not escaped && b == 0x5C) bs) (suc n) same in
        let one : n ≡ m = omega arith in
        record { feed = newlines; inner = test; next = there ∙ ap Some (sym one) }

no_bytes : (quote b : ℕ) (bs : List ℕ) → inside_len quote true (b ∷ bs) ≡ Some 0 → ⊥
unfolding inside_len
no_bytes quote b bs is = by (b == 0x0A) (inside_len quote false bs) is
  where
    by : (feed : Bool) (o : Option ℕ) → (if feed then None else option_map suc o) ≡ Some 0 → ⊥
    by true o same = cc
    by false None same = cc
    by false (Some m) same = let none : suc m ≡ 0 = some_same (suc m) 0 same in absurd (omega arith)

goes_on : (quote : ℕ) (escaped : Bool) (b : ℕ) (bs : List ℕ) (n : ℕ) → Step quote escaped b bs n → inside_len quote escaped (b ∷ bs) ≡ Some (suc n)
unfolding inside_len
goes_on quote escaped b bs n s = rw (s.feed, s.inner, s.next)

-- the closing quote comes after the bytes that are inside, and no line feed does
record Ends (quote : ℕ) (bs : List ℕ) (n : ℕ) : Type 0 where
  inside : List ℕ
  rest : List ℕ
  split : bs ≡ inside ++ quote ∷ rest
  long : length inside ≡ n

ends : (quote : ℕ) (escaped : Bool) (bs : List ℕ) (n : ℕ) → inside_len quote escaped bs ≡ Some n → Ends quote bs n
unfolding inside_len
ends quote escaped [] n is = cc
ends quote escaped (b ∷ bs) n is = by (b == 0x0A) (not escaped && b == quote) refl is (ends quote (not escaped && b == 0x5C) bs)
  where
    by : (feed closes : Bool) → (not escaped && b == quote) ≡ closes → (if feed then None else (if closes then Some 0 else option_map suc (inside_len quote (not escaped && b == 0x5C) bs))) ≡ Some n
        → ((m : ℕ) → inside_len quote (not escaped && b == 0x5C) bs ≡ Some m → Ends quote bs m) → Ends quote (b ∷ bs) n
    by true closes test same more = cc
    by false true test same more =
        let parts = and_parts (not escaped) (b == quote) test in
        record { inside = []; rest = bs; split = ap (λ (x : ℕ). x ∷ bs) (eqb-true b quote parts.1); long = cc }
    by false false test same more =
        let (m, is, there) = suc_inside (inside_len quote (not escaped && b == 0x5C) bs) n same in
        let tail = more m there in
        record { inside = b ∷ tail.inside; rest = tail.rest; split = ap (λ (l : List ℕ). b ∷ l) tail.split; long = ap suc tail.long ∙ sym is }

-- ---- items

items_from-first : (b : ℕ) (bs : List ℕ) (item : Item) → item_at b bs ≡ item → bytes_of (items_from 0 (b ∷ bs)) ≡ following item item.byte (bytes_of (items_from (item.len - 1) bs))
items_from-first b bs item is = ap (λ (i : Item). following i i.byte (bytes_of (items_from (i.len - 1) bs))) is

items_from-skip : (xs ys : List ℕ) → items_from (length xs) (xs ++ ys) ≡ items_from 0 ys
items_from-skip [] ys = refl
items_from-skip (x ∷ xs) ys = items_from-skip xs ys

item_at-plain : (b : ℕ) (bs : List ℕ) → (b == 0x5C) ≡ false → item_at b bs ≡ record { len = 1; byte = Some b }
unfolding item_at
item_at-plain b bs other = rw other

item_at-escape : (b : ℕ) (bs : List ℕ) → (b == 0x5C) ≡ true → item_at b bs ≡ escape_at bs
unfolding item_at
item_at-escape b bs escape = rw escape

-- an item denotes a byte where the items denote bytes
record Read (byte : Option ℕ) (rest : Result (List ℕ) ℕ) (values : List ℕ) : Type 0 where
  value : ℕ
  more : List ℕ
  first : byte ≡ Some value
  others : rest ≡ Ok more
  all : values ≡ value ∷ more

read : (item : Item) (byte : Option ℕ) (rest : Result (List ℕ) ℕ) (values : List ℕ) → following item byte rest ≡ Ok values → Read byte rest values
read item None rest values is = cc
read item (Some b) (Ok bytes) values is = record { value = b; more = bytes; first = refl; others = refl; all = cc }
read item (Some b) (Err n) values is = cc

-- ---- octal digits

abbrev is_octal : ℕ → Bool
is_octal d = is_digit d 8

-- the digits among the first bytes
record Digits (most : ℕ) (bs : List ℕ) : Type 0 where
  rest : List ℕ
  split : bs ≡ take_while is_octal (take most bs) ++ rest
  octal : list_all is_octal (take_while is_octal (take most bs)) ≡ true
  few : length (take_while is_octal (take most bs)) ≤ most
  all : (length (take_while is_octal (take most bs)) ≡ most) ⊎ (begins_with_digit 8 rest ≡ false)

digits_of : (most : ℕ) (bs : List ℕ) → Digits most bs
digits_of zero bs = record { rest = bs; split = refl; octal = refl; few = omega arith; all = inl refl }
digits_of (suc most) [] = record { rest = []; split = refl; octal = refl; few = omega arith; all = inr refl }
digits_of (suc most) (d ∷ ds) = by (is_octal d) refl (digits_of most ds)
  where
    by : (t : Bool) → is_octal d ≡ t → Digits most ds → Digits (suc most) (d ∷ ds)
    by false other more = let none : take_while is_octal (d ∷ take most ds) ≡ [] = take_while-cons is_octal d (take most ds) ∙ rw other in record {
      rest = d ∷ ds;
      split = rw none;
      octal = rw none;
      few = rw none (omega arith);
      all = inr other;
    }
    by true digit more = let one : take_while is_octal (d ∷ take most ds) ≡ d ∷ take_while is_octal (take most ds) = take_while-cons is_octal d (take most ds) ∙ rw digit in record {
      rest = more.rest;
      split = rw one (ap (λ (l : List ℕ). d ∷ l) more.split);
      octal = rw one (and_from (is_octal d) (list_all is_octal (take_while is_octal (take most ds))) digit more.octal);
      few = let le = more.few in rw one (omega arith);
      all = by_all more.all one;
    }
      where
        by_all : (length (take_while is_octal (take most ds)) ≡ most) ⊎ (begins_with_digit 8 more.rest ≡ false) → take_while is_octal (d ∷ take most ds) ≡ d ∷ take_while is_octal (take most ds) → (length (take_while is_octal (d ∷ take most ds)) ≡ suc most) ⊎ (begins_with_digit 8 more.rest ≡ false)
        by_all (inl long) one = inl (ap length one ∙ ap suc long)
        by_all (inr ended) one = inr ended

octal_digits-is : (bs : List ℕ) → octal_digits bs ≡ take_while is_octal (take 3 bs)
unfolding octal_digits
octal_digits-is bs = refl

octal_digits-none : (b : ℕ) (bs : List ℕ) → is_octal b ≡ false → octal_digits (b ∷ bs) ≡ []
octal_digits-none b bs other = octal_digits-is (b ∷ bs) ∙ take_while-cons is_octal b (take 2 bs) ∙ rw other

octal_digits-some : (b : ℕ) (bs : List ℕ) → is_octal b ≡ true → octal_digits (b ∷ bs) ≡ b ∷ take_while is_octal (take 2 bs)
octal_digits-some b bs digit = octal_digits-is (b ∷ bs) ∙ take_while-cons is_octal b (take 2 bs) ∙ rw digit

escape_at-octal : (bs digits : List ℕ) → octal_digits bs ≡ digits → 0 < length digits → escape_at bs ≡ record { len = 1 + length digits; byte = (if nat_le (value_of 8 digits) 255 then Some (value_of 8 digits) else None) }
unfolding escape_at
escape_at-octal bs digits is some = rw (is, lt-ltb 0 (length digits) some)

escape_at-named : (bs : List ℕ) → octal_digits bs ≡ [] → escape_at bs ≡ record { len = 2; byte = named_escape bs }
unfolding escape_at
escape_at-named bs none = rw none

named_escape-first : (b : ℕ) (bs : List ℕ) → named_escape (b ∷ bs) ≡ named_escape (b ∷ [])
unfolding named_escape
named_escape-first b bs = refl

octal_other : (d b : ℕ) → is_octal d ≡ true → is_octal b ≡ false → (d == b) ≡ false
octal_other d b digit other = by (d == b) refl
  where
    clash : true ≡ false → ⊥
    clash e = cc

    by : (t : Bool) → (d == b) ≡ t → t ≡ false
    by false test = refl
    by true test = absurd (clash (sym digit ∙ ap is_octal (eqb-true d b test) ∙ other))

small_value : (value v : ℕ) → (if nat_le value 255 then Some value else None) ≡ Some v → (value ≤ 255) × (v ≡ value)
small_value value v is = by (nat_le value 255) refl is
  where
    by : (t : Bool) → nat_le value 255 ≡ t → (if t then Some value else None) ≡ Some v → (value ≤ 255) × (v ≡ value)
    by true small same = (leb-true value 255 small, cc)
    by false large same = cc

-- ---- the inside of a literal

as_one : (quote : ℕ) (bs digits rest values more : List ℕ) → bs ≡ digits ++ rest → values ≡ value_of 8 digits ∷ more → Denotes quote (0x5C ∷ digits ++ rest) (value_of 8 digits ∷ more) → Denotes quote (0x5C ∷ bs) values
as_one quote bs digits rest values more whole all denoted =
    subst (λ (l : List ℕ). Denotes quote (0x5C ∷ l) values) (sym whole) (subst (Denotes quote (0x5C ∷ digits ++ rest)) (sym all) denoted)

module _ (quote : ℕ) (tail : List ℕ) where
  -- the bytes end at the closing quote
  abbrev IsInside : List ℕ → Type 0
  IsInside inside = inside_len quote false (inside ++ quote ∷ tail) ≡ Some (length inside)

  IsInside-digits : (ds ys : List ℕ) → list_all is_octal ds ≡ true → IsInside (ds ++ ys) → IsInside ys
  IsInside-digits [] ys octal inside = inside
  IsInside-digits (d ∷ ds) ys octal inside =
      let parts = and_parts (is_octal d) (list_all is_octal ds) octal in
      let s = step quote false d ((ds ++ ys) ++ quote ∷ tail) (length (ds ++ ys)) inside in
      let other = octal_other d 0x5C parts.0 refl in
      IsInside-digits ds ys parts.1 (rw other at s.next)

  abbrev Goes : ℕ → Type 0
  Goes fuel = (inside values : List ℕ) → length inside ≤ fuel → IsInside inside → bytes_of (items_from 0 inside) ≡ Ok values → Denotes quote inside values

  -- a byte that denotes itself
  occurs-plain : (fuel b : ℕ) (bs values : List ℕ) → Goes fuel → length bs ≤ fuel → IsInside (b ∷ bs) → (b == 0x5C) ≡ false → bytes_of (items_from 0 (b ∷ bs)) ≡ Ok values → Denotes quote (b ∷ bs) values
  occurs-plain fuel b bs values go le inside other is =
      let s = step quote false b (bs ++ quote ∷ tail) (length bs) inside in
      let first = items_from-first b bs (record { len = 1; byte = Some b }) (item_at-plain b bs other) in
      let r = read (record { len = 1; byte = Some b }) (Some b) (bytes_of (items_from 0 bs)) values (sym first ∙ is) in
      let same : b ≡ r.value = some_same b r.value r.first in
      let next : IsInside bs = rw other at s.next in
      let rest = go bs r.more le next r.others in
      let here : IsPlain quote b = record { no_quote = eqb-false b quote s.inner; no_escape = eqb-false b 0x5C other; no_line_feed = eqb-false b 0x0A s.feed } in
      subst (Denotes quote (b ∷ bs)) (ap (λ (x : ℕ). x ∷ r.more) same ∙ sym r.all) (plain here rest)

  -- an escape by a letter or a sign
  occurs-named : (fuel c : ℕ) (cs values : List ℕ) → Goes fuel → length cs ≤ fuel → IsInside cs → is_octal c ≡ false → bytes_of (items_from 0 (0x5C ∷ c ∷ cs)) ≡ Ok values → Denotes quote (0x5C ∷ c ∷ cs) values
  occurs-named fuel c cs values go le inside other is =
      let item : Item = record { len = 2; byte = named_escape (c ∷ cs) } in
      let first = items_from-first 0x5C (c ∷ cs) item (item_at-escape 0x5C (c ∷ cs) refl ∙ escape_at-named (c ∷ cs) (octal_digits-none c cs other)) in
      let r = read item (named_escape (c ∷ cs)) (bytes_of (items_from 0 cs)) values (sym first ∙ is) in
      let rest = go cs r.more le inside r.others in
      subst (Denotes quote (0x5C ∷ c ∷ cs)) (sym r.all) (named (sym (named_escape-first c cs) ∙ r.first) rest)

  -- and one by octal digits
  occurs-octal : (fuel c : ℕ) (cs values : List ℕ) → Goes fuel → length cs ≤ fuel → IsInside cs → is_octal c ≡ true → bytes_of (items_from 0 (0x5C ∷ c ∷ cs)) ≡ Ok values → Denotes quote (0x5C ∷ c ∷ cs) values
  occurs-octal fuel c cs values go le inside digit is =
      let d = digits_of 2 cs in
      let more = take_while is_octal (take 2 cs) in
      let value = value_of 8 (c ∷ more) in
      let item : Item = record { len = 1 + length (c ∷ more); byte = (if nat_le value 255 then Some value else None) } in
      let at : item_at 0x5C (c ∷ cs) ≡ item = item_at-escape 0x5C (c ∷ cs) refl ∙ escape_at-octal (c ∷ cs) (c ∷ more) (octal_digits-some c cs digit) (omega arith) in
      let size : item.len - 1 ≡ length (c ∷ more) = omega arith in
      let whole : c ∷ cs ≡ (c ∷ more) ++ d.rest = ap (λ (l : List ℕ). c ∷ l) d.split in
      let after : items_from (item.len - 1) (c ∷ cs) ≡ items_from 0 d.rest = ap (λ (n : ℕ). items_from n (c ∷ cs)) size ∙ ap (items_from (length (c ∷ more))) whole ∙ items_from-skip (c ∷ more) d.rest in
      let first = items_from-first 0x5C (c ∷ cs) item at ∙ ap (λ (l : List Item). following item item.byte (bytes_of l)) after in
      let r = read item item.byte (bytes_of (items_from 0 d.rest)) values (sym first ∙ is) in
      let (small, same) = small_value value r.value r.first in
      let closed : IsInside d.rest = IsInside-digits more d.rest d.octal (subst IsInside d.split inside) in
      let fits : length d.rest ≤ fuel = omega (arith, ap length d.split, length-append more d.rest) in
      let rest = go d.rest r.more fits closed r.others in
      let here : IsOctal (c ∷ more) d.rest = record { some = omega arith; few = omega (arith, d.few); octal = and_from (is_octal c) (list_all is_octal more) digit d.octal; all = three d.all; small = small } in
      as_one quote (c ∷ cs) (c ∷ more) d.rest values r.more whole (r.all ∙ ap (λ (x : ℕ). x ∷ r.more) same) (numbered here rest)
    where
      three : (length (take_while is_octal (take 2 cs)) ≡ 2) ⊎ (begins_with_digit 8 (digits_of 2 cs).rest ≡ false) → (length (c ∷ take_while is_octal (take 2 cs)) ≡ 3) ⊎ (begins_with_digit 8 (digits_of 2 cs).rest ≡ false)
      three (inl two) = inl (ap suc two)
      three (inr ended) = inr ended

  occurs-escape : (fuel : ℕ) (bs values : List ℕ) → Goes fuel → length bs ≤ fuel → IsInside (0x5C ∷ bs) → bytes_of (items_from 0 (0x5C ∷ bs)) ≡ Ok values → Denotes quote (0x5C ∷ bs) values
  occurs-escape fuel [] values go le inside is = absurd (no_bytes quote quote tail (step quote false 0x5C (quote ∷ tail) 0 inside).next)
  occurs-escape fuel (c ∷ cs) values go le inside is =
      let s = step quote false 0x5C ((c ∷ cs) ++ quote ∷ tail) (length (c ∷ cs)) inside in
      let t = step quote true c (cs ++ quote ∷ tail) (length cs) s.next in
      by (is_octal c) refl t.next
    where
      by : (t : Bool) → is_octal c ≡ t → IsInside cs → Denotes quote (0x5C ∷ c ∷ cs) values
      by true digit closed = occurs-octal fuel c cs values go (omega arith) closed digit is
      by false other closed = occurs-named fuel c cs values go (omega arith) closed other is

  occurs-byte : (fuel b : ℕ) (bs values : List ℕ) → Goes fuel → length bs ≤ fuel → IsInside (b ∷ bs) → bytes_of (items_from 0 (b ∷ bs)) ≡ Ok values → Denotes quote (b ∷ bs) values
  occurs-byte fuel b bs values go le inside is = by (b == 0x5C) refl
    where
      by : (t : Bool) → (b == 0x5C) ≡ t → Denotes quote (b ∷ bs) values
      by false other = occurs-plain fuel b bs values go le inside other is
      by true escape =
          let same = eqb-true b 0x5C escape in
          let closed = subst (λ (x : ℕ). IsInside (x ∷ bs)) same inside in
          let items = subst (λ (x : ℕ). bytes_of (items_from 0 (x ∷ bs)) ≡ Ok values) same is in
          subst (λ (x : ℕ). Denotes quote (x ∷ bs) values) (sym same) (occurs-escape fuel bs values go le closed items)

  occurs : (fuel : ℕ) → Goes fuel
  occurs fuel [] values le inside is = let none : [] ≡ values = ok_bytes [] values is in subst (Denotes quote []) none nothing
  occurs zero (b ∷ bs) values le inside is = absurd (omega arith)
  occurs (suc fuel) (b ∷ bs) values le inside is = occurs-byte fuel b bs values (occurs fuel) (omega arith) inside is

-- ---- the tokens

record Literal (quote : ℕ) (bs values : List ℕ) (n : ℕ) : Type 0 where
  inside : List ℕ
  rest : List ℕ
  split : bs ≡ inside ++ quote ∷ rest
  long : length inside ≡ n
  denoted : Denotes quote inside values

literal : (quote : ℕ) (bs values : List ℕ) (n : ℕ) → inside_len quote false bs ≡ Some n → bytes_of (items_from 0 (take n bs)) ≡ Ok values → Literal quote bs values n
literal quote bs values n is items =
    let e = ends quote false bs n is in
    let closed : IsInside quote e.rest e.inside = subst (λ (l : List ℕ). inside_len quote false l ≡ Some (length e.inside)) e.split (is ∙ ap Some (sym e.long)) in
    let front : take n bs ≡ e.inside = ap (take n) e.split ∙ take_at e.inside (quote ∷ e.rest) n e.long in
    let read_as : bytes_of (items_from 0 e.inside) ≡ Ok values = subst (λ (l : List ℕ). bytes_of (items_from 0 l) ≡ Ok values) front items in
    record { inside = e.inside; rest = e.rest; split = e.split; long = e.long; denoted = occurs quote e.rest (length e.inside) e.inside values (omega arith) closed read_as }

-- the token of a literal
literal-split : (quote : ℕ) (bs values : List ℕ) (n : ℕ) → (l : Literal quote bs values n) → quote ∷ bs ≡ (quote ∷ l.inside ++ quote ∷ []) ++ l.rest
literal-split quote bs values n l = ap (λ (k : List ℕ). quote ∷ k) (l.split ∙ sym (append_assoc l.inside (quote ∷ []) l.rest))

literal-long : (quote : ℕ) (bs values : List ℕ) (n : ℕ) → (l : Literal quote bs values n) → n + 2 ≡ length (quote ∷ l.inside ++ quote ∷ [])
literal-long quote bs values n l = omega (arith, l.long, length-append l.inside (quote ∷ []))

is_literal : (quote : ℕ) (bs values : List ℕ) (n : ℕ) → (l : Literal quote bs values n) → IsLiteral quote values (quote ∷ l.inside ++ quote ∷ [])
is_literal quote bs values n l = record { inside = l.inside; spelled = refl; denoted = l.denoted }

text_found : (bs : List ℕ) (found : ScannedToken) → text_token bs ≡ Ok found → IsTokenOf (0x22 ∷ bs) found × ((n : ℕ) → inside_len 0x22 false bs ≡ Some n → found.len ≡ n + 2)
unfolding text_token
text_found bs found is = by (inside_len 0x22 false bs) refl is
  where
    of_bytes : (n : ℕ) → inside_len 0x22 false bs ≡ Some n → (r : Result (List ℕ) ℕ) → bytes_of (items_from 0 (take n bs)) ≡ r → text_of (n + 2) r ≡ Ok found → IsTokenOf (0x22 ∷ bs) found × ((m : ℕ) → inside_len 0x22 false bs ≡ Some m → found.len ≡ m + 2)
    of_bytes n closes (Err at) items same = cc
    of_bytes n closes (Ok values) items same =
        let l = literal 0x22 bs values n closes items in
        let whole : record { kind = token.Text values; len = n + 2 } ≡ found = ok_found (record { kind = token.Text values; len = n + 2 }) found same in
        let one = token_of (token.Text values) (0x22 ∷ bs) (0x22 ∷ l.inside ++ 0x22 ∷ []) l.rest (n + 2) (literal-split 0x22 bs values n l) (literal-long 0x22 bs values n l) (is_literal 0x22 bs values n l) in
        (subst (IsTokenOf (0x22 ∷ bs)) whole one, λ m at. ap (λ (f : ScannedToken). f.len) (sym whole) ∙ ap (λ (k : ℕ). k + 2) (some_same n m (sym closes ∙ at)))

    by : (o : Option ℕ) → inside_len 0x22 false bs ≡ o → text_up_to bs o ≡ Ok found → IsTokenOf (0x22 ∷ bs) found × ((n : ℕ) → inside_len 0x22 false bs ≡ Some n → found.len ≡ n + 2)
    by None closes same = cc
    by (Some n) closes same = of_bytes n closes (bytes_of (items_from 0 (take n bs))) refl same

pub text_matches : (bs : List ℕ) (found : ScannedToken) → text_token bs ≡ Ok found → IsTokenOf (0x22 ∷ bs) found
text_matches bs found is = (text_found bs found is).0

-- the one item of a character
one_item : (len : ℕ) (items : List Item) (found : ScannedToken) → character_of len items ≡ Ok found → (value : ℕ) × (bytes_of items ≡ Ok (value ∷ [])) × (record { kind = token.Char value; len = len } ≡ found)
one_item len [] found is = cc
one_item len (item ∷ other ∷ items) found is = cc
one_item len (item ∷ []) found is = by item.byte refl is
  where
    by : (o : Option ℕ) → item.byte ≡ o → character_of_byte len o ≡ Ok found → (value : ℕ) × (following item item.byte (Ok []) ≡ Ok (value ∷ [])) × (record { kind = token.Char value; len = len } ≡ found)
    by None byte same = cc
    by (Some value) byte same = (value, ap (λ (o : Option ℕ). following item o (Ok [])) byte, ok_found (record { kind = token.Char value; len = len }) found same)

character_found : (bs : List ℕ) (found : ScannedToken) → character_token bs ≡ Ok found → IsTokenOf (0x27 ∷ bs) found × ((n : ℕ) → inside_len 0x27 false bs ≡ Some n → found.len ≡ n + 2)
unfolding character_token
character_found bs found is = by (inside_len 0x27 false bs) refl is
  where
    by : (o : Option ℕ) → inside_len 0x27 false bs ≡ o → character_up_to bs o ≡ Ok found → IsTokenOf (0x27 ∷ bs) found × ((n : ℕ) → inside_len 0x27 false bs ≡ Some n → found.len ≡ n + 2)
    by None closes same = cc
    by (Some n) closes same =
        let (value, items, whole) = one_item (n + 2) (items_from 0 (take n bs)) found same in
        let l = literal 0x27 bs (value ∷ []) n closes items in
        let one = token_of (token.Char value) (0x27 ∷ bs) (0x27 ∷ l.inside ++ 0x27 ∷ []) l.rest (n + 2) (literal-split 0x27 bs (value ∷ []) n l) (literal-long 0x27 bs (value ∷ []) n l) (is_literal 0x27 bs (value ∷ []) n l) in
        (subst (IsTokenOf (0x27 ∷ bs)) whole one, λ m at. ap (λ (f : ScannedToken). f.len) (sym whole) ∙ ap (λ (k : ℕ). k + 2) (some_same n m (sym closes ∙ at)))

pub character_matches : (bs : List ℕ) (found : ScannedToken) → character_token bs ≡ Ok found → IsTokenOf (0x27 ∷ bs) found
character_matches bs found is = (character_found bs found is).0

-- ---- how far they reach

named_escape-feed : named_escape (0x0A ∷ []) ≡ None
unfolding named_escape
named_escape-feed = refl

named_no_feed : (b value : ℕ) → named_escape (b ∷ []) ≡ Some value → (b == 0x0A) ≡ false
named_no_feed b value is = by (b == 0x0A) refl
  where
    clash : None ≡ Some value → ⊥
    clash e = cc

    by : (t : Bool) → (b == 0x0A) ≡ t → t ≡ false
    by false test = refl
    by true test = absurd (clash (sym named_escape-feed ∙ ap (λ (x : ℕ). named_escape (x ∷ [])) (sym (eqb-true b 0x0A test)) ∙ is))

module _ (quote : ℕ) (tail : List ℕ) (feed : (quote == 0x0A) ≡ false) (escape : (0x5C == quote) ≡ false) (no_digit : is_octal quote ≡ false) where
  IsInside-none : IsInside quote tail []
  unfolding inside_len
  IsInside-none = rw (feed, eq-eqb quote quote refl)

  IsInside-plain : (b : ℕ) (bs : List ℕ) → (b == 0x0A) ≡ false → (b == quote) ≡ false → (b == 0x5C) ≡ false → IsInside quote tail bs → IsInside quote tail (b ∷ bs)
  IsInside-plain b bs no_feed no_quote no_escape inside = goes_on quote false b (bs ++ quote ∷ tail) (length bs) (record { feed = no_feed; inner = no_quote; next = rw no_escape inside })

  IsInside-escape : (c : ℕ) (cs : List ℕ) → (c == 0x0A) ≡ false → IsInside quote tail cs → IsInside quote tail (0x5C ∷ c ∷ cs)
  IsInside-escape c cs no_feed inside =
      let first = goes_on quote true c (cs ++ quote ∷ tail) (length cs) (record { feed = no_feed; inner = refl; next = inside }) in
      goes_on quote false 0x5C ((c ∷ cs) ++ quote ∷ tail) (length (c ∷ cs)) (record { feed = refl; inner = escape; next = first })

  IsInside-octal : (ds ys : List ℕ) → list_all is_octal ds ≡ true → IsInside quote tail ys → IsInside quote tail (ds ++ ys)
  IsInside-octal [] ys octal inside = inside
  IsInside-octal (d ∷ ds) ys octal inside =
      let parts = and_parts (is_octal d) (list_all is_octal ds) octal in
      IsInside-plain d (ds ++ ys) (octal_other d 0x0A parts.0 refl) (octal_other d quote parts.0 no_digit) (octal_other d 0x5C parts.0 refl) (IsInside-octal ds ys parts.1 inside)

  IsInside-numbered : (digits bs : List ℕ) → IsOctal digits bs → IsInside quote tail bs → IsInside quote tail (0x5C ∷ digits ++ bs)
  IsInside-numbered [] bs here inside = absurd (omega (arith, here.some))
  IsInside-numbered (d ∷ ds) bs here inside =
      let parts = and_parts (is_octal d) (list_all is_octal ds) here.octal in
      IsInside-escape d (ds ++ bs) (octal_other d 0x0A parts.0 refl) (IsInside-octal ds bs parts.1 inside)

  inside_of : {inside values : List ℕ} → Denotes quote inside values → IsInside quote tail inside
  inside_of nothing = IsInside-none
  inside_of (plain {b = b} {bs = bs} here rest) = IsInside-plain b bs (ne_eqb b 0x0A here.no_line_feed) (ne_eqb b quote here.no_quote) (ne_eqb b 0x5C here.no_escape) (inside_of rest)
  inside_of (named {b = b} {value = value} {bs = bs} is rest) = IsInside-escape b bs (named_no_feed b value is) (inside_of rest)
  inside_of (numbered {digits = digits} {bs = bs} here rest) = IsInside-numbered digits bs here (inside_of rest)

front_of-text : (bs : List ℕ) → front_of (0x22 ∷ bs) ≡ text_token bs
unfolding front_of
front_of-text bs = refl

front_of-character : (bs : List ℕ) → front_of (0x27 ∷ bs) ≡ character_token bs
unfolding front_of
front_of-character bs = refl

-- a literal before some bytes
before : (quote : ℕ) (inside following : List ℕ) → (quote ∷ inside ++ quote ∷ []) ++ following ≡ quote ∷ (inside ++ quote ∷ following)
before quote inside following = ap (λ (l : List ℕ). quote ∷ l) (append_assoc inside (quote ∷ []) following)

pub text_reaches : (values bytes following : List ℕ) → IsLiteral 0x22 values bytes → Reaches bytes following
text_reaches values bytes following l = subst (λ (k : List ℕ). Reaches k following) (sym l.spelled) reaches
  where
    reaches : Reaches (0x22 ∷ l.inside ++ 0x22 ∷ []) following
    reaches found finds =
        let bs = l.inside ++ 0x22 ∷ following in
        let is = sym (front_of-text bs) ∙ ap front_of (sym (before 0x22 l.inside following)) ∙ finds in
        let long = (text_found bs found is).1 (length l.inside) (inside_of 0x22 following refl refl refl l.denoted) in
        omega (arith, length-append l.inside (0x22 ∷ []))

pub character_reaches : (value : ℕ) (bytes following : List ℕ) → IsLiteral 0x27 (value ∷ []) bytes → Reaches bytes following
character_reaches value bytes following l = subst (λ (k : List ℕ). Reaches k following) (sym l.spelled) reaches
  where
    reaches : Reaches (0x27 ∷ l.inside ++ 0x27 ∷ []) following
    reaches found finds =
        let bs = l.inside ++ 0x27 ∷ following in
        let is = sym (front_of-character bs) ∙ ap front_of (sym (before 0x27 l.inside following)) ∙ finds in
        let long = (character_found bs found is).1 (length l.inside) (inside_of 0x27 following refl refl refl l.denoted) in
        omega (arith, length-append l.inside (0x27 ∷ []))
