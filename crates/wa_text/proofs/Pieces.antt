-- The words of a line by their indices, and the rows of a table by theirs.
use Rattle.std.proofs.Common.{◌≡◌, ◌≢◌, ℕ, zero, suc, ◌+◌, ◌-◌, ◌<◌, ◌≤◌, Bool, true, false, List, [], ◌∷◌, ◌++◌, length, get_or, take, drop, map, Option, None, Some, refl, sym, ap, subst, ◌∙◌, arith}
use Rattle.std.proofs.lemmas.Bool.{eqb-true, ne_eqb}
use Rattle.std.proofs.lemmas.Bool.Decides.{nat_tests}
use Rattle.std.proofs.lemmas.List.{get_or-map, length-map, map-append, take_all, take_more}
use Rattle.std.proofs.lemmas.List.Elements.{All-contains, All-from_recursion, Contains-append_left, Contains-append_right, Contains-get_or, Contains-push}
use Rattle.std.specs.List.{AllByRecursion}
use Rattle.std.specs.Prelude.{◌==◌, cond, Contains, MatchOption}
use denote.Ref.{Bor}
use Rattle.hex.specs.Hex.{IsBytes, encode_lower}
use Rattle.wa_text.specs.Mnemonics.{name_in}
use Rattle.wa_text.specs.Reading.{texts}
use Rattle.wa_text.specs.Words.{Word, bytes}

-- ---- words

-- what denotes the word at an index after some words
abbrev pub no_word : Bor (List ℕ)
no_word = record { ref_ptr = (0, 0); now = [] }

pub first_word : (words : List (Bor (List ℕ))) (d : Bor (List ℕ)) → 1 ≤ length words → texts words ≡ (get_or words 0 d).now ∷ texts (drop 1 words)
first_word [] d long = absurd (omega arith)
first_word (v ∷ words) d long = refl

pub two_words : (words : List (Bor (List ℕ))) (d e : Bor (List ℕ)) → length words ≡ 2 → texts words ≡ (get_or words 0 d).now ∷ (get_or words 1 e).now ∷ []
two_words [] d e long = absurd (omega arith)
two_words (u ∷ []) d e long = absurd (omega arith)
two_words (u ∷ v ∷ []) d e long = refl
two_words (u ∷ v ∷ w ∷ words) d e long = absurd (omega arith)

pub three_words : (words : List (Bor (List ℕ))) (d e f : Bor (List ℕ)) → 3 ≤ length words → texts words ≡ (get_or words 0 d).now ∷ (get_or words 1 e).now ∷ (get_or words 2 f).now ∷ texts (drop 3 words)
three_words [] d e f long = absurd (omega arith)
three_words (u ∷ []) d e f long = absurd (omega arith)
three_words (u ∷ v ∷ []) d e f long = absurd (omega arith)
three_words (u ∷ v ∷ w ∷ words) d e f long = refl

pub three_only : (words : List (Bor (List ℕ))) (d e f : Bor (List ℕ)) → length words ≡ 3 → texts words ≡ (get_or words 0 d).now ∷ (get_or words 1 e).now ∷ (get_or words 2 f).now ∷ []
three_only [] d e f long = absurd (omega arith)
three_only (u ∷ []) d e f long = absurd (omega arith)
three_only (u ∷ v ∷ []) d e f long = absurd (omega arith)
three_only (u ∷ v ∷ w ∷ []) d e f long = refl
three_only (u ∷ v ∷ w ∷ x ∷ words) d e f long = absurd (omega arith)

pub four_words : (words : List (Bor (List ℕ))) (d e f g : Bor (List ℕ)) → length words ≡ 4 → texts words ≡ (get_or words 0 d).now ∷ (get_or words 1 e).now ∷ (get_or words 2 f).now ∷ (get_or words 3 g).now ∷ []
four_words [] d e f g long = absurd (omega arith)
four_words (t ∷ []) d e f g long = absurd (omega arith)
four_words (t ∷ u ∷ []) d e f g long = absurd (omega arith)
four_words (t ∷ u ∷ v ∷ []) d e f g long = absurd (omega arith)
four_words (t ∷ u ∷ v ∷ w ∷ []) d e f g long = refl
four_words (t ∷ u ∷ v ∷ w ∷ x ∷ words) d e f g long = absurd (omega arith)

-- the last word, and those before it
pub last_word : (words : List (Bor (List ℕ))) (d : Bor (List ℕ)) → 1 ≤ length words → texts words ≡ texts (take (length words - 1) words) ++ (get_or words (length words - 1) d).now ∷ []
last_word words d long =
    let last = length words - 1 in
    let whole : words ≡ take last words ++ get_or words last d ∷ [] = sym (take_all (last + 1) words (omega arith)) ∙ take_more words last d (omega arith) in
    ap texts whole ∙ map-append (λ (w : Bor (List ℕ)). w.now) (take last words) (get_or words last d ∷ [])

-- one more word
pub texts_more : (words : List (Bor (List ℕ))) (i : ℕ) (d : Bor (List ℕ)) → i < length words → take (i + 1) (texts words) ≡ take i (texts words) ++ (get_or words i d).now ∷ []
texts_more words i d below =
    take_more (texts words) i d.now (omega (arith, length-map words (λ (w : Bor (List ℕ)). w.now)))
    ∙ ap (λ (w : Word). take i (texts words) ++ w ∷ []) (get_or-map (λ (w : Bor (List ℕ)). w.now) words i d d.now below)

-- bytes by their digits
pub spelled_bytes : (bs : List ℕ) (w : Word) → bs ≢ [] → IsBytes bs → w ≡ encode_lower bs → bytes bs (w ∷ [])
spelled_bytes [] w some are is = absurd (some refl)
spelled_bytes (b ∷ bs) w some are is = (are, ap (λ (v : Word). v ∷ []) is)

-- ---- rows of a table

abbrev pub shown : ℕ × Bor (List ℕ) → ℕ × Word
shown row = (row.0, row.1.now)

-- the name of an opcode whose row is at an index
pub name_here : (table : List (ℕ × Bor (List ℕ))) (i opcode : ℕ) (d : ℕ × Bor (List ℕ)) → i < length table → (get_or table i d).0 ≡ opcode → name_in (map shown (drop i table)) opcode ≡ Some ((get_or table i d).1.now)
name_here [] i opcode d below is = absurd (omega arith)
name_here (row ∷ table) zero opcode d below is =
    let same : (row.0 == opcode) ≡ true = grind (arith, nat_tests, is) in
    ap (λ (b : Bool). cond b (Some row.1.now) (name_in (map shown table) opcode)) same
name_here (row ∷ table) (suc i) opcode d below is = name_here table i opcode d (omega arith) is

-- the row of another opcode has no part in it
past : (table : List (ℕ × Bor (List ℕ))) (i opcode : ℕ) (d : ℕ × Bor (List ℕ)) → i < length table → (get_or table i d).0 ≢ opcode → name_in (map shown (drop (suc i) table)) opcode ≡ name_in (map shown (drop i table)) opcode
past [] i opcode d below other = absurd (omega arith)
past (row ∷ table) zero opcode d below other =
    let differs : (row.0 == opcode) ≡ false = ne_eqb row.0 opcode other in
    sym (ap (λ (b : Bool). cond b (Some row.1.now) (name_in (map shown table) opcode)) differs)
past (row ∷ table) (suc i) opcode d below other = past table i opcode d (omega arith) other

pub name_past : (table : List (ℕ × Bor (List ℕ))) (i opcode : ℕ) (d : ℕ × Bor (List ℕ)) → i < length table → (get_or table i d).0 ≢ opcode → name_in (map shown (drop (i + 1) table)) opcode ≡ name_in (map shown (drop i table)) opcode
name_past table i opcode d below other =
    let next : suc i ≡ i + 1 = omega arith in
    subst (λ (k : ℕ). name_in (map shown (drop k table)) opcode ≡ name_in (map shown (drop i table)) opcode) next (past table i opcode d below other)

shown_at : (table : List (ℕ × Bor (List ℕ))) (i : ℕ) (d : ℕ × Bor (List ℕ)) → get_or (map shown table) i (shown d) ≡ shown (get_or table i d)
shown_at [] i d = refl
shown_at (row ∷ table) zero d = refl
shown_at (row ∷ table) (suc i) d = shown_at table i d

-- the row at an index, by its name
pub row_shown : (table : List (ℕ × Bor (List ℕ))) (i : ℕ) (d : ℕ × Bor (List ℕ)) (name : Word) → i < length table → (get_or table i d).1.now ≡ name → Contains (map shown table) ((get_or table i d).0, name)
row_shown table i d name below is =
    let rows = map shown table in
    let row : ◌≡◌ {A = ℕ × Word} (get_or rows i (shown d)) ((get_or table i d).0, name) = shown_at table i d ∙ ap (λ (w : Word). let r : ℕ × Word = ((get_or table i d).0, w) in r) is in
    subst (λ (r : ℕ × Word). Contains rows r) row (Contains-get_or rows i (shown d) (omega (arith, length-map table shown)))

-- none of so many rows has this name
abbrev pub IsAbsent : List (ℕ × Bor (List ℕ)) → ℕ → Word → Type 0
IsAbsent table i name = AllByRecursion (λ (row : ℕ × Word). row.1 ≢ name) (take i (map shown table))

pub no_rows : (table : List (ℕ × Bor (List ℕ))) (name : Word) → IsAbsent table 0 name
no_rows table name = tt

both_absent : (name : Word) (rows more : List (ℕ × Word)) → AllByRecursion (λ (row : ℕ × Word). row.1 ≢ name) rows → AllByRecursion (λ (row : ℕ × Word). row.1 ≢ name) more → AllByRecursion (λ (row : ℕ × Word). row.1 ≢ name) (rows ++ more)
both_absent name [] more h k = k
both_absent name (row ∷ rows) more h k = (h.0, both_absent name rows more h.1 k)

pub other_row : (table : List (ℕ × Bor (List ℕ))) (i : ℕ) (d : ℕ × Bor (List ℕ)) (name : Word) → i < length table → (get_or table i d).1.now ≢ name → IsAbsent table i name → IsAbsent table (i + 1) name
other_row table i d name below differs h =
    let more = take_more (map shown table) i (shown d) (omega (arith, length-map table shown)) in
    let row : get_or (map shown table) i (shown d) ≡ shown (get_or table i d) = get_or-map shown table i d (shown d) below in
    subst (AllByRecursion (λ (r : ℕ × Word). r.1 ≢ name)) (sym more)
    (both_absent name (take i (map shown table)) (get_or (map shown table) i (shown d) ∷ []) h ((λ same. differs (sym (ap (λ (r : ℕ × Word). r.1) row) ∙ same)), tt))

pub rows_done : (table : List (ℕ × Bor (List ℕ))) (i : ℕ) (name : Word) → length table ≤ i → IsAbsent table i name → (opcode : ℕ) → Contains {X = ℕ × Word} (map shown table) (opcode, name) → ⊥
rows_done table i name all h opcode k =
    let whole = take_all i (map shown table) (omega (arith, length-map table shown)) in
    let absent = subst (AllByRecursion (λ (row : ℕ × Word). row.1 ≢ name)) whole h in
    All-contains (λ (row : ℕ × Word). row.1 ≢ name) (map shown table) (opcode, name) (All-from_recursion (λ (row : ℕ × Word). row.1 ≢ name) (map shown table) absent) k refl

first_or_later : (row : ℕ × Word) (rows : List (ℕ × Word)) (opcode : ℕ) (name : Word) (b : Bool) → (row.0 == opcode) ≡ b → cond b (Some row.1) (name_in rows opcode) ≡ Some name → (name_in rows opcode ≡ Some name → Contains {X = ℕ × Word} rows (opcode, name)) → Contains {X = ℕ × Word} (row ∷ rows) (opcode, name)
first_or_later row rows opcode name true same found later =
    let word : row.1 ≡ name = cc in
    let code : row.0 ≡ opcode = eqb-true row.0 opcode same in
    subst (λ (w : Word). Contains {X = ℕ × Word} (row ∷ rows) (opcode, w)) word (subst (λ (n : ℕ). Contains {X = ℕ × Word} (row ∷ rows) (n, row.1)) code (Contains-append_left (row ∷ []) rows row (Contains-push [] row)))
first_or_later row rows opcode name false other found later = Contains-append_right (row ∷ []) rows (opcode, name) (later found)

-- the row that an opcode's name is in
pub named_row : (rows : List (ℕ × Word)) (opcode : ℕ) (name : Word) → name_in rows opcode ≡ Some name → Contains {X = ℕ × Word} rows (opcode, name)
named_row [] opcode name is = let no : ⊥ = cc in absurd no
named_row (row ∷ rows) opcode name is = first_or_later row rows opcode name (row.0 == opcode) refl is (named_row rows opcode name)

-- what a table's rows say of a name
pub by_rows : (rows : List (ℕ × Word)) (name : Word) (o : Option ℕ) → ((opcode : ℕ) → Contains {X = ℕ × Word} rows (opcode, name) → name_in rows opcode ≡ Some name) → MatchOption o ((opcode : ℕ) → Contains {X = ℕ × Word} rows (opcode, name) → ⊥) (λ opcode. Contains {X = ℕ × Word} rows (opcode, name)) → MatchOption o ((opcode : ℕ) → name_in rows opcode ≢ Some name) (λ opcode. name_in rows opcode ≡ Some name)
by_rows rows name None first h = λ opcode is. h opcode (named_row rows opcode name is)
by_rows rows name (Some opcode) first h = first opcode h
