-- Lines of forms one after another, from position to position of a text.
use Rattle.std.proofs.Common.{◌≡◌, ◌≢◌, ℕ, zero, suc, ◌+◌, ◌≤◌, Bool, false, List, [], ◌∷◌, ◌++◌, length, take, drop, map, Option, refl, sym, ap, subst, ◌∙◌, append_assoc, arith}
use Rattle.std.specs.Prelude.{◌==◌, codes, cond}
use Rattle.std.specs.List.{All, AllByRecursion, count_by, join_with_byte, slice_split}
use Rattle.std.proofs.lemmas.Bool.{ne_eqb}
use Rattle.std.proofs.lemmas.List.Elements.{All-from_recursion}
use Rattle.std.proofs.lemmas.List.{append-nil, at_drop_all}
use Rattle.std.proofs.lemmas.List.Concat.{flat_map-append}
use Rattle.std.proofs.lemmas.List.Sums.{sum_by-cons}
use Rattle.std.proofs.lemmas.List.Splits.{join_with_byte-slice_split, slice_split_at}
use Rattle.wa_syntax.specs.declared.instr.Instr.{Instr, out-Instr, out-roll-Instr, roll-Instr}
use Rattle.wa_syntax.specs.declared.instr.Instr.TheOpen.{Instr-F}
use Rattle.wa_syntax.specs.declared.instr.Instr.TheVariants as variant
use Rattle.wa_syntax.specs.declared.module.Module.{Module}
use Rattle.wa_syntax.specs.declared.module.ValTy.{ValTy}
use Rattle.wa_text.specs.declared.reader.instruction.BlockKind.{BlockKind}
use Rattle.wa_text.specs.declared.reader.instruction.BlockKind.TheVariants as kind
use Rattle.wa_text.specs.Forms.{Form, ◌then◌, each, exactly, nothing}
use Rattle.wa_text.specs.Instructions.{begin, else_end, end, indexed, instr, instr_over}
use Rattle.wa_text.specs.Listing.{IsListing, module_lines}
use Rattle.wa_text.specs.Reading.{IsUnbroken, Spelled, following_first, kind_word, rows, rows_at, words_of}
use Rattle.wa_text.specs.Words.{Word, Line, AreLines, IsWord, line, line_text, text_of, word, u32}
use Rattle.wa_text.proofs.Productions.{layer_of}
use Rattle.wa_text.proofs.Splitting.{words_are}

pub weaker : {A B : Form Line} {text : List ℕ} {at end : ℕ} → ((lines : List Line) → A lines → B lines) → Spelled A text at end → Spelled B text at end
weaker to h = record { lines = h.lines; spelling = to h.lines h.spelling; are = h.are; is = h.is; rows_are = h.rows_are }

pub none_here : (text : List ℕ) (at : ℕ) → Spelled nothing text at at
none_here text at = record { lines = []; spelling = refl; are = tt; is = refl; rows_are = refl }

lines_append : (xs ys : List Line) → AreLines xs → AreLines ys → AreLines (xs ++ ys)
lines_append [] ys h k = k
lines_append (x ∷ xs) ys h k = (h.0, lines_append xs ys h.1 k)

-- the one form up to a position, and after it the other
pub join : {A B : Form Line} {text : List ℕ} {at mid end : ℕ} → Spelled A text at mid → Spelled B text mid end → Spelled (A then B) text at end
join {text = text} {end = end} h k = record {
  lines = h.lines ++ k.lines;
  spelling = (h.lines, k.lines, refl, h.spelling, k.spelling);
  are = lines_append h.lines k.lines h.are k.are;
  is = h.is
      ∙ ap (λ (rest : List ℕ). text_of h.lines ++ rest) k.is
      ∙ sym (append_assoc (text_of h.lines) (text_of k.lines) (drop end text))
      ∙ ap (λ (front : List ℕ). front ++ drop end text) (sym (flat_map-append line_text h.lines k.lines));
  rows_are = h.rows_are ∙ ap (λ (rest : List Line). h.lines ++ rest) k.rows_are ∙ sym (append_assoc h.lines k.lines (rows_at text end));
}

-- one more value after others
pub each_more : {X V : Type 0} (F : V → Form X) (vs : List V) (v : V) (front back : List X) → each F vs front → F v back → each F (vs ++ v ∷ []) (front ++ back)
each_more F [] v front back h k =
    (back, [], ap (λ (xs : _). xs ++ back) h ∙ sym (append-nil back), k, refl)
each_more F (w ∷ vs) v front back h k =
    (h.0, h.1 ++ back, ap (λ (xs : _). xs ++ back) h.2 ∙ append_assoc h.0 h.1 back, h.3, each_more F vs v h.1 back h.4 k)

-- one more value of one item, before the items that are left
pub front_more : {X V : Type 0} (F : V → Form X) (vs : List V) (v : V) (x : X) (all rest more : List X) → (each F vs then exactly rest) all → rest ≡ x ∷ more → F v (x ∷ []) → (each F (vs ++ v ∷ []) then exactly more) all
front_more F vs v x all rest more h is k =
    (h.0 ++ x ∷ [], more, h.2 ∙ ap (λ (back : List _). h.0 ++ back) (h.4 ∙ is) ∙ sym (append_assoc h.0 (x ∷ []) more), each_more F vs v h.0 (x ∷ []) h.3 k, refl)

pub join-more : {V : Type 0} (F : V → Form Line) (vs : List V) (v : V) {text : List ℕ} {at mid end : ℕ} → Spelled (each F vs) text at mid → Spelled (F v) text mid end → Spelled (each F (vs ++ v ∷ [])) text at end
join-more F vs v h k = weaker (λ front s. subst (each F (vs ++ v ∷ [])) (sym s.2) (each_more F vs v s.0 s.1 s.3 s.4)) (join h k)

-- ---- one line

no_feed : (bytes : List ℕ) → IsUnbroken bytes → All (λ b. (b == 10) ≡ false) bytes
no_feed bytes h = All-from_recursion (λ b. (b == 10) ≡ false) bytes (go bytes h)
  where
    go : (bs : List ℕ) → IsUnbroken bs → AllByRecursion (λ b. (b == 10) ≡ false) bs
    go [] k = tt
    go (b ∷ bs) k = (ne_eqb b 10 k.0, go bs k.1)

pub one_feed : (bytes rest : List ℕ) → IsUnbroken bytes → count_by (λ b. b == 10) (bytes ++ 10 ∷ rest) ≡ suc (count_by (λ b. b == 10) rest)
one_feed [] rest h =
    let more : 1 + count_by (λ b. b == 10) rest ≡ suc (count_by (λ b. b == 10) rest) = omega arith in
    sum_by-cons (λ b. cond (b == 10) 1 0) 10 rest ∙ more
one_feed (b ∷ bytes) rest h =
    let more = one_feed bytes rest h.1 in
    let none : 0 + count_by (λ c. c == 10) (bytes ++ 10 ∷ rest) ≡ suc (count_by (λ c. c == 10) rest) = omega (arith, more) in
    sum_by-cons (λ c. cond (c == 10) 1 0) b (bytes ++ 10 ∷ rest) ∙ ap (λ (t : Bool). cond t 1 0 + count_by (λ c. c == 10) (bytes ++ 10 ∷ rest)) (ne_eqb b 10 h.0) ∙ none

-- the lines of a text that begins with one
pub rows_line : (bytes rest : List ℕ) → IsUnbroken bytes → rows (bytes ++ 10 ∷ rest) ≡ words_of bytes ∷ rows rest
rows_line bytes rest h =
    ap (λ (n : ℕ). take n (map words_of (slice_split (λ b. b == 10) (bytes ++ 10 ∷ rest)))) (one_feed bytes rest h)
    ∙ ap (λ (parts : List (List ℕ)). take (suc (count_by (λ b. b == 10) rest)) (map words_of parts)) (slice_split_at (λ b. b == 10) bytes 10 rest (no_feed bytes h) refl)

-- the line at a position, by its words
pub line_here : (text : List ℕ) (at end : ℕ) (bytes : List ℕ) (words : Line) → drop at text ≡ bytes ++ 10 ∷ drop end text → IsUnbroken bytes → words_of bytes ≡ words → Spelled (exactly (words ∷ [])) text at end
line_here text at end bytes words is unbroken same =
    let following = drop end text in
    let whole : bytes ≡ join_with_byte 32 words = sym (join_with_byte-slice_split 32 bytes) ∙ ap (join_with_byte 32) same in
    record {
      lines = words ∷ [];
      spelling = refl;
      are = (subst (AllByRecursion IsWord) same (words_are bytes unbroken), tt);
      is = is
          ∙ sym (append_assoc bytes (10 ∷ []) following)
          ∙ ap (λ (front : List ℕ). front ++ following) (sym (append-nil (bytes ++ 10 ∷ [])))
          ∙ ap (λ (front : List ℕ). ((front ++ 10 ∷ []) ++ []) ++ following) whole;
      rows_are = ap rows is ∙ rows_line bytes following unbroken ∙ ap (λ (l : Line). l ∷ rows following) same;
    }

-- what holds of the words of the line
pub of_words : {words : Line} {text : List ℕ} {at end : ℕ} (F : Form (List ℕ)) → F words → Spelled (exactly (words ∷ [])) text at end → Spelled (line F) text at end
of_words {words = words} F h = weaker (λ lines same. (words, h, same))

-- the lines of a whole text
pub listed : (text : List ℕ) (end : ℕ) (m : Module) → length text ≤ end → Spelled (module_lines m) text 0 end → IsListing text m
listed text end m all h =
    let none : drop end text ≡ [] = at_drop_all (λ xs. xs) text end all in
    (h.lines, h.spelling, h.are, h.is ∙ ap (λ (rest : List ℕ). text_of h.lines ++ rest) none ∙ append-nil (text_of h.lines))

-- ---- instructions

-- an instruction by its layer
pub by_layer : (i : Instr) (layer : Instr-F Instr) (lines : List Line) → out-Instr i ≡ layer → ((Body : List Instr → Form Line) → instr_over Body layer lines) → (levels : ℕ) → instr levels i lines
unfolding instr
by_layer i layer lines is h zero = subst (λ (l : Instr-F Instr). instr_over (λ body xs. ⊥) l lines) (sym is) (h (λ body xs. ⊥))
by_layer i layer lines is h (suc levels) = subst (λ (l : Instr-F Instr). instr_over (each (instr levels)) l lines) (sym is) (h (each (instr levels)))

pub single : (i : Instr) (layer : Instr-F Instr) (lines : List Line) → roll-Instr layer ≡ i → ((Body : List Instr → Form Line) → instr_over Body layer lines) → (levels : ℕ) → instr levels i lines
single i layer lines rolls h = by_layer i layer lines (ap out-Instr (sym rolls) ∙ out-roll-Instr layer) h

-- a word and a number
pub indexed_line : (w name : Word) (n : ℕ) (words : Line) → w ≡ name → u32 n words → indexed name n ((w ∷ words) ∷ [])
indexed_line w name n words is h = (w ∷ words, (w ∷ [], words, refl, ap (λ (v : Word). v ∷ []) is, h), refl)

holding : (n : ℕ) (i : Instr) (layer : Instr-F Instr) (lines : List Line) → out-Instr i ≡ layer → instr_over (each (instr n)) layer lines → instr (suc n) i lines
unfolding instr
holding n i layer lines is h = subst (λ (l : Instr-F Instr). instr_over (each (instr n)) l lines) (sym is) h

-- one that holds others, by its first line and those after it
begun_instr : (k : BlockKind) (t : Option ValTy) (n : ℕ) (i : Instr) (lines : List Line) → (begin (kind_word k) t then following_first k t (each (instr n)) i) lines → instr (suc n) i lines
begun_instr kind.Block t n i lines h =
    holding n i (Instr-F.Block t h.4.0) lines (layer_of i (variant.Block t h.4.0) (Instr-F.Block t h.4.0) h.4.1 (variant.rolls-Block t h.4.0)) (h.0, h.1, h.2, h.3, h.4.2)
begun_instr kind.Loop t n i lines h =
    holding n i (Instr-F.Loop t h.4.0) lines (layer_of i (variant.Loop t h.4.0) (Instr-F.Loop t h.4.0) h.4.1 (variant.rolls-Loop t h.4.0)) (h.0, h.1, h.2, h.3, h.4.2)
begun_instr kind.If t n i lines h =
    holding n i (Instr-F.If t (h.4.0, h.4.1)) lines (layer_of i (variant.If t (h.4.0, h.4.1)) (Instr-F.If t (h.4.0, h.4.1)) h.4.2 (variant.rolls-If t (h.4.0, h.4.1))) (h.0, h.1, h.2, h.3, h.4.3)

pub begun : (k : BlockKind) (t : Option ValTy) (levels n : ℕ) (i : Instr) (lines : List Line) → levels ≡ suc n → (begin (kind_word k) t then following_first k t (each (instr n)) i) lines → instr levels i lines
begun k t levels n i lines is h = subst (λ (m : ℕ). instr m i lines) (sym is) (begun_instr k t n i lines h)

-- what one holds, by its word
pub held_Block : (k : BlockKind) (t : Option ValTy) (Body : List Instr → Form Line) (i : Instr) (body : List Instr) {text : List ℕ} {at mid last : ℕ} → i ≡ variant.Block t body → k ≡ kind.Block → Spelled (Body body) text at mid → Spelled end text mid last → Spelled (following_first k t Body i) text at last
held_Block k t Body i body {text} {at} {mid} {last} made is h e =
    let held : Spelled (following_first kind.Block t Body i) text at last = weaker (λ lines s. (body, made, s)) (join h e) in
    subst (λ (b : BlockKind). Spelled (following_first b t Body i) text at last) (sym is) held

pub held_Loop : (k : BlockKind) (t : Option ValTy) (Body : List Instr → Form Line) (i : Instr) (body : List Instr) {text : List ℕ} {at mid last : ℕ} → i ≡ variant.Loop t body → k ≡ kind.Loop → Spelled (Body body) text at mid → Spelled end text mid last → Spelled (following_first k t Body i) text at last
held_Loop k t Body i body {text} {at} {mid} {last} made is h e =
    let held : Spelled (following_first kind.Loop t Body i) text at last = weaker (λ lines s. (body, made, s)) (join h e) in
    subst (λ (b : BlockKind). Spelled (following_first b t Body i) text at last) (sym is) held

pub held_If : (k : BlockKind) (t : Option ValTy) (Body : List Instr → Form Line) (i : Instr) (body branch : List Instr) {text : List ℕ} {at mid last : ℕ} → i ≡ variant.If t (body, branch) → k ≡ kind.If → Spelled (Body body) text at mid → Spelled (else_end Body branch) text mid last → Spelled (following_first k t Body i) text at last
held_If k t Body i body branch {text} {at} {mid} {last} made is h e =
    let held : Spelled (following_first kind.If t Body i) text at last = weaker (λ lines s. (body, branch, made, s)) (join h e) in
    subst (λ (b : BlockKind). Spelled (following_first b t Body i) text at last) (sym is) held

-- a branch after its `else`
pub with_else : (Body : List Instr → Form Line) (branch : List Instr) {text : List ℕ} {at mid after last : ℕ} → branch ≢ [] → Spelled (line (word (codes "else"))) text at mid → Spelled (Body branch) text mid after → Spelled end text after last → Spelled (else_end Body branch) text at last
with_else Body [] some h k e = absurd (some refl)
with_else Body (i ∷ is) some h k e = join h (join k e)
