-- The first lines of a text, and the refusal that names the last of them.
use Rattle.std.proofs.Common.{◌≡◌, ◌≢◌, ℕ, zero, suc, ◌+◌, ◌≤◌, ◌⊎◌, inl, inr, Bool, true, false, List, [], ◌∷◌, ◌++◌, length, take, drop, map, refl, sym, ap, subst, ◌∙◌, append_assoc, arith}
use Rattle.std.proofs.lemmas.Bool.{eqb-true, ne_eqb}
use Rattle.std.proofs.lemmas.List.{append-nil, append_cancel_left, append_cancel_right, length-drop, take-append-drop}
use Rattle.std.proofs.lemmas.List.Splits.{length-slice_split}
use Rattle.std.specs.Prelude.{◌==◌, cond}
use Rattle.std.specs.List.{AllByRecursion, count_by, join_with_byte, slice_split}
use Rattle.wa_syntax.specs.declared.module.Module.{Module}
use Rattle.wa_text.specs.Forms.{exactly, nothing}
use Rattle.wa_text.specs.Listing.{IsListing, module_lines}
use Rattle.wa_text.specs.Places.{first_lines}
use Rattle.wa_text.specs.Reading.{IsUnbroken, Refused, Spelled, rows, rows_at, words_of}
use Rattle.wa_text.specs.Words.{Line, AreLines, line_text, text_of}
use Rattle.wa_text.proofs.Lines.{one_feed, rows_line}
use Rattle.wa_text.proofs.OneModule.{HasWord, cut_again, filled_module, split_line, unbroken_line}
use Rattle.wa_text.proofs.Refusals.{all_of}

-- ---- bytes up to a line feed

-- a line that texts begin with, and one line less of each
same_line : (n : ℕ) (bytes other x : List ℕ) → IsUnbroken bytes → first_lines (suc n) other ≡ bytes ++ 10 ∷ x → (more : List ℕ) × (other ≡ bytes ++ 10 ∷ more) × (first_lines n more ≡ x)
same_line n [] [] x h is = let no : ⊥ = cc in absurd no
same_line n (b ∷ bytes) [] x h is = let no : ⊥ = cc in absurd no
same_line n [] (o ∷ other) x h is =
    let first : o ≡ 10 = cc in
    let rest : first_lines (cond (o == 10) n (suc n)) other ≡ x = cc in
    let feed : (o == 10) ≡ true = ap (λ (c : ℕ). c == 10) first in
    (other, ap (λ (c : ℕ). c ∷ other) first, ap (λ (t : Bool). first_lines (cond t n (suc n)) other) (sym feed) ∙ rest)
same_line n (b ∷ bytes) (o ∷ other) x h is =
    let first : o ≡ b = cc in
    let rest : first_lines (cond (o == 10) n (suc n)) other ≡ bytes ++ 10 ∷ x = cc in
    let none : (o == 10) ≡ false = ap (λ (c : ℕ). c == 10) first ∙ ne_eqb b 10 h.0 in
    let more = same_line n bytes other x h.1 (ap (λ (t : Bool). first_lines (cond t n (suc n)) other) (sym none) ∙ rest) in
    (more.0, ap (λ (c : ℕ). c ∷ other) first ∙ ap (λ (s : List ℕ). b ∷ s) more.1, more.2)

-- the first line of a text, and those after it
first_line_of : (n : ℕ) (bytes more : List ℕ) → IsUnbroken bytes → first_lines (suc n) (bytes ++ 10 ∷ more) ≡ bytes ++ 10 ∷ first_lines n more
first_line_of n [] more h = refl
first_line_of n (b ∷ bytes) more h =
    ap (λ (s : List ℕ). b ∷ s) (ap (λ (t : Bool). first_lines (cond t n (suc n)) (bytes ++ 10 ∷ more)) (ne_eqb b 10 h.0) ∙ first_line_of n bytes more h.1)

-- a text without a line feed is less than a line
less_than_line : (n : ℕ) (text : List ℕ) → IsUnbroken text → first_lines (suc n) text ≡ text
less_than_line n [] h = refl
less_than_line n (b ∷ text) h =
    ap (λ (s : List ℕ). b ∷ s) (ap (λ (t : Bool). first_lines (cond t n (suc n)) text) (ne_eqb b 10 h.0) ∙ less_than_line n text h.1)

-- no line feed, or the first one
cut_at_feed : (text : List ℕ) → IsUnbroken text ⊎ ((bytes : List ℕ) × (rest : List ℕ) × (text ≡ bytes ++ 10 ∷ rest) × IsUnbroken bytes)
cut_at_feed [] = inl tt
cut_at_feed (b ∷ text) = by_byte (b == 10) refl (cut_at_feed text)
  where
    differs : (c : ℕ) → (c == 10) ≡ false → c ≢ 10
    differs c is same = let no : true ≡ false = sym (ap (λ (n : ℕ). n == 10) same) ∙ is in cc

    by_byte : (t : Bool) → (b == 10) ≡ t → IsUnbroken text ⊎ ((bytes : List ℕ) × (rest : List ℕ) × (text ≡ bytes ++ 10 ∷ rest) × IsUnbroken bytes) → IsUnbroken (b ∷ text) ⊎ ((bytes : List ℕ) × (rest : List ℕ) × (b ∷ text ≡ bytes ++ 10 ∷ rest) × IsUnbroken bytes)
    by_byte true is h = inr ([], text, ap (λ (c : ℕ). c ∷ text) (eqb-true b 10 is), tt)
    by_byte false is (inl h) = inl (differs b is, h)
    by_byte false is (inr h) = inr (b ∷ h.0, h.1, ap (λ (s : List ℕ). b ∷ s) h.2, (differs b is, h.3))

has_feed : (bytes x : List ℕ) → IsUnbroken (bytes ++ 10 ∷ x) → ⊥
has_feed [] x h = h.0 refl
has_feed (b ∷ bytes) x h = has_feed bytes x h.1

-- what is less than a line is the whole of a text that begins with no more
whole_of : (rest tail : List ℕ) → IsUnbroken tail → first_lines 1 rest ≡ tail → rest ≡ tail
whole_of rest tail none is = by_feed (cut_at_feed rest)
  where
    by_feed : IsUnbroken rest ⊎ ((bytes : List ℕ) × (more : List ℕ) × (rest ≡ bytes ++ 10 ∷ more) × IsUnbroken bytes) → rest ≡ tail
    by_feed (inl whole) = sym (less_than_line 0 rest whole) ∙ is
    by_feed (inr h) =
        let line : tail ≡ h.0 ++ 10 ∷ [] = sym is ∙ ap (first_lines 1) h.2 ∙ first_line_of 0 h.0 h.1 h.3 in
        absurd (has_feed h.0 [] (subst IsUnbroken line none))

-- texts with the same first line
rows_same : (rest tail : List ℕ) → first_lines 1 rest ≡ first_lines 1 tail → take 1 (rows rest) ≡ take 1 (rows tail)
rows_same rest tail same = by_feed (cut_at_feed tail)
  where
    by_feed : IsUnbroken tail ⊎ ((bytes : List ℕ) × (more : List ℕ) × (tail ≡ bytes ++ 10 ∷ more) × IsUnbroken bytes) → take 1 (rows rest) ≡ take 1 (rows tail)
    by_feed (inl none) = ap (λ (t : List ℕ). take 1 (rows t)) (whole_of rest tail none (same ∙ less_than_line 0 tail none))
    by_feed (inr h) =
        let k = same_line 0 h.0 rest [] h.3 (same ∙ ap (first_lines 1) h.2 ∙ first_line_of 0 h.0 h.1 h.3) in
        ap (λ (t : List ℕ). take 1 (rows t)) k.1 ∙ ap (take 1) (rows_line h.0 k.0 h.3)
        ∙ sym (ap (λ (t : List ℕ). take 1 (rows t)) h.2 ∙ ap (take 1) (rows_line h.0 h.1 h.3))

-- ---- lines at the beginning

text_line : (w : Line) (front : List Line) (tail : List ℕ) → text_of (w ∷ front) ++ tail ≡ join_with_byte 32 w ++ 10 ∷ (text_of front ++ tail)
text_line w front tail = append_assoc (line_text w) (text_of front) tail ∙ split_line w (text_of front ++ tail)

-- texts that are the same up to the line after these
agree : (front : List Line) → AreLines front → (tail other : List ℕ) → first_lines (suc (length front)) other ≡ first_lines (suc (length front)) (text_of front ++ tail) → (rest : List ℕ) × (other ≡ text_of front ++ rest) × (first_lines 1 rest ≡ first_lines 1 tail)
agree [] are tail other same = (other, refl, same)
agree (w ∷ front) are tail other same =
    let bytes = join_with_byte 32 w in
    let unbroken = unbroken_line w are.0 in
    let lines : first_lines (suc (suc (length front))) other ≡ bytes ++ 10 ∷ first_lines (suc (length front)) (text_of front ++ tail) =
    same ∙ ap (first_lines (suc (suc (length front)))) (text_line w front tail) ∙ first_line_of (suc (length front)) bytes (text_of front ++ tail) unbroken in
    let first = same_line (suc (length front)) bytes other (first_lines (suc (length front)) (text_of front ++ tail)) unbroken lines in
    let more = agree front are.1 tail first.0 first.2 in
    (more.0, first.1 ∙ ap (λ (s : List ℕ). bytes ++ 10 ∷ s) more.1 ∙ sym (text_line w front more.0), more.2)

rows_front : (front : List Line) → AllByRecursion HasWord front → AreLines front → (rest : List ℕ) → rows (text_of front ++ rest) ≡ front ++ rows rest
rows_front [] some are rest = refl
rows_front ([] ∷ front) some are rest = absurd some.0
rows_front ((w ∷ words) ∷ front) some are rest =
    ap rows (text_line (w ∷ words) front rest)
    ∙ rows_line (join_with_byte 32 (w ∷ words)) (text_of front ++ rest) (unbroken_line (w ∷ words) are.0)
    ∙ ap (λ (l : Line). l ∷ rows (text_of front ++ rest)) (cut_again w words are.0.0 are.0.1)
    ∙ ap (λ (more : List Line). (w ∷ words) ∷ more) (rows_front front some.1 are.1 rest)

-- the lines of a text are those of its listing
listed_rows : (text : List ℕ) (m : Module) (h : IsListing text m) → rows text ≡ h.0
listed_rows text m h =
    ap rows (h.3 ∙ sym (append-nil (text_of h.0))) ∙ rows_front h.0 ((filled_module m).filled h.0 h.1) h.2 [] ∙ append-nil h.0

some_words : (l : Line) → 1 ≤ length l → HasWord l
some_words [] long = absurd (omega arith)
some_words (w ∷ l) long = tt

filled_parts : (parts : List (List ℕ)) → AllByRecursion HasWord (map words_of parts)
filled_parts [] = tt
filled_parts (part ∷ parts) = (some_words (words_of part) (omega (arith, length-slice_split (λ b. b == 32) part)), filled_parts parts)

filled_take : (n : ℕ) (lines : List Line) → AllByRecursion HasWord lines → AllByRecursion HasWord (take n lines)
filled_take zero lines h = tt
filled_take (suc n) [] h = tt
filled_take (suc n) (l ∷ lines) h = (h.0, filled_take n lines h.1)

filled_front : (a b : List Line) → AllByRecursion HasWord (a ++ b) → AllByRecursion HasWord a
filled_front [] b h = tt
filled_front (l ∷ a) b h = (h.0, filled_front a b h.1)

-- the lines that are passed are in the text
record Passed (front : List Line) (text : List ℕ) (at : ℕ) : Type 0 where
  filled : AllByRecursion HasWord front
  are : AreLines front
  is : text ≡ text_of front ++ drop at text

passed_from : (front : List Line) (text : List ℕ) (at : ℕ) → Spelled (exactly front) text 0 at → Passed front text at
passed_from front text at h =
    let rows_are : rows text ≡ front ++ rows_at text at = h.rows_are ∙ ap (λ (lines : List Line). lines ++ rows_at text at) h.spelling in
    record {
      filled = filled_front front (rows_at text at) (subst (AllByRecursion HasWord) rows_are (filled_take (count_by (λ b. b == 10) text) (map words_of (slice_split (λ b. b == 10) text)) (filled_parts (slice_split (λ b. b == 10) text))));
      are = subst AreLines h.spelling h.are;
      is = h.is ∙ ap (λ (lines : List Line). text_of lines ++ drop at text) h.spelling;
    }

feeds_of : (front : List Line) → AreLines front → count_by (λ b. b == 10) (text_of front) ≡ length front
feeds_of [] are = refl
feeds_of (w ∷ front) are =
    ap (count_by (λ b. b == 10)) (split_line w (text_of front)) ∙ one_feed (join_with_byte 32 w) (text_of front) (unbroken_line w are.0) ∙ ap suc (feeds_of front are.1)

-- the number of the line at a position
number_of : (front : List Line) (text : List ℕ) (at : ℕ) → Passed front text at → count_by (λ b. b == 10) (take at text) + 1 ≡ suc (length front)
number_of front text at h =
    let text_is : take at text ≡ text_of front = append_cancel_right (take at text) (text_of front) (drop at text) (take-append-drop at text ∙ h.is) in
    omega (arith, ap (count_by (λ b. b == 10)) text_is, feeds_of front h.are)

-- another text that is the same up to this line
other_from : (front : List Line) (text other : List ℕ) (at n : ℕ) → Passed front text at → n ≡ count_by (λ b. b == 10) (take at text) + 1 → first_lines n other ≡ first_lines n text → (rest : List ℕ) × (other ≡ text_of front ++ rest) × (first_lines 1 rest ≡ first_lines 1 (drop at text))
other_from front text other at n h is same =
    let number : n ≡ suc (length front) = is ∙ number_of front text at h in
    agree front h.are (drop at text) other
    (subst (λ (m : ℕ). first_lines m other ≡ first_lines m (text_of front ++ drop at text)) number (same ∙ ap (first_lines n) h.is))

-- ---- refusals

cases_rows : (lines : List Line) → (lines ≡ []) ⊎ (lines ≢ [])
cases_rows [] = inl refl
cases_rows (l ∷ lines) = inr (λ none. let no : ⊥ = cc in no)

pub none_begins_so : (text other : List ℕ) (at n : ℕ) (m : Module) → Refused module_lines nothing text 0 at → n ≡ count_by (λ b. b == 10) (take at text) + 1 → IsListing other m → first_lines n other ≢ first_lines n text
none_begins_so text other at n m r is h same =
    let passed = passed_from r.front text at r.passed in
    let k = other_from r.front text other at n passed is same in
    let lines : r.front ++ rows k.0 ≡ h.0 = sym (rows_front r.front passed.filled passed.are k.0) ∙ ap rows (sym k.1) ∙ listed_rows other m h in
    r.never m (rows k.0) (rows_same k.0 (drop at text) k.2) (h.0, [], lines ∙ sym (append-nil h.0), h.1, refl)

-- where bytes without a line feed are left over
pub none_ends_so : (text other : List ℕ) (at n : ℕ) (l m : Module) → at ≤ length text → at ≢ length text → Spelled (module_lines l) text 0 at → (rows_at text at ≢ [] → Refused module_lines nothing text 0 at) → n ≡ count_by (λ b. b == 10) (take at text) + 1 → IsListing other m → first_lines n other ≢ first_lines n text
none_ends_so text other at n l m within more h refuse is listing same = by_rows (cases_rows (rows_at text at))
  where
    by_feed : (tail : List ℕ) → rows tail ≡ [] → (rest : List ℕ) → first_lines 1 rest ≡ first_lines 1 tail → IsUnbroken tail ⊎ ((bytes : List ℕ) × (more : List ℕ) × (tail ≡ bytes ++ 10 ∷ more) × IsUnbroken bytes) → rest ≡ tail
    by_feed tail none rest same (inl whole) = whole_of rest tail whole (same ∙ less_than_line 0 tail whole)
    by_feed tail none rest same (inr k) = let no : words_of k.0 ∷ rows k.1 ≡ [] = sym (rows_line k.0 k.1 k.3) ∙ ap rows (sym k.2) ∙ none in let never : ⊥ = cc in absurd never

    by_rows : (rows_at text at ≡ []) ⊎ (rows_at text at ≢ []) → ⊥
    by_rows (inr some) = none_begins_so text other at n m (refuse some) is listing same
    by_rows (inl none) =
        let passed = passed_from h.lines text at (all_of h) in
        let k = other_from h.lines text other at n passed is same in
        let tail = drop at text in
        let rest : k.0 ≡ tail = by_feed tail none k.0 k.2 (cut_at_feed tail) in
        let lines : h.lines ≡ listing.0 =
        sym (append-nil h.lines) ∙ ap (λ (b : List Line). h.lines ++ b) (sym (ap rows rest ∙ none)) ∙ sym (rows_front h.lines passed.filled passed.are k.0) ∙ ap rows (sym k.1) ∙ listed_rows other m listing in
        let texts_are : text_of h.lines ++ k.0 ≡ text_of h.lines ++ [] = sym k.1 ∙ listing.3 ∙ ap text_of (sym lines) ∙ sym (append-nil (text_of h.lines)) in
        let empty : k.0 ≡ [] = append_cancel_left (text_of h.lines) k.0 [] texts_are in
        omega (arith, ap length (sym rest ∙ empty), length-drop at text)
