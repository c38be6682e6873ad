-- No text is the listing of two modules: its lines are one list, since each of them has a word.
use Rattle.std.proofs.Common.{◌≡◌, ◌≢◌, ℕ, zero, suc, false, List, [], ◌∷◌, ◌++◌, Option, None, Some, refl, sym, ap, subst, ◌∙◌, append_assoc, arith}
use Rattle.std.proofs.lemmas.Bool.{ne_eqb}
use Rattle.std.proofs.lemmas.List.Elements.{All-from_recursion}
use Rattle.std.proofs.lemmas.List.Splits.{slice_split_at, slice_split_none}
use Rattle.std.specs.Prelude.{◌==◌}
use Rattle.std.specs.List.{All, AllByRecursion, join_with_byte}
use Rattle.wa_syntax.specs.declared.instr.Instr.{Instr, out-Instr}
use Rattle.wa_syntax.specs.declared.instr.Instr.TheOpen.{Instr-F}
use Rattle.wa_syntax.specs.declared.module.Func.{Func}
use Rattle.wa_syntax.specs.declared.module.Module.{Module}
use Rattle.wa_text.specs.Forms.{Form, ◌then◌, each}
use Rattle.wa_text.specs.Instructions.{else_end, instr, instr_over, max_nesting}
use Rattle.wa_text.specs.Listing as listing
use Rattle.wa_text.specs.Listing.{IsListing, module_lines}
use Rattle.wa_text.specs.Reading.{IsUnbroken, words_of}
use Rattle.wa_text.specs.Words.{Word, Line, AreLines, IsWord, line, line_text, text_of, word}
use Rattle.wa_text.proofs.Having.{both_pass}
use Rattle.wa_text.proofs.OneParts.{one-module_lines}

-- ---- each line has a word

abbrev pub HasWord : Line → Type 0
HasWord [] = ⊥
HasWord (w ∷ words) = Unit {0}

-- lines of the form have words
pub record IsFilled (F : Form Line) : Type 0 where
  pub filled : (lines : List Line) → F lines → AllByRecursion HasWord lines

filled_then : {A B : Form Line} → IsFilled A → IsFilled B → IsFilled (A then B)
filled_then a b = record {
  filled = λ lines h. subst (AllByRecursion HasWord) (sym h.2) (both_pass HasWord h.0 h.1 (a.filled h.0 h.3) (b.filled h.1 h.4));
}

filled_each : {V : Type 0} (F : V → Form Line) (vs : List V) → ((v : V) → IsFilled (F v)) → IsFilled (each F vs)
filled_each F [] h = record { filled = λ lines none. subst (AllByRecursion HasWord) (sym none) tt }
filled_each F (v ∷ vs) h = filled_then (h v) (filled_each F vs h)

filled_line : {G : Form Word} → ((words : List Word) → G words → HasWord words) → IsFilled (line G)
filled_line h = record { filled = λ lines k. subst (AllByRecursion HasWord) (sym k.2) (h k.0 k.1, tt) }

first_word : (w : Word) {G : Form Word} (words : List Word) → (word w then G) words → HasWord words
first_word w words h = subst HasWord (sym (h.2 ∙ ap (λ (front : List Word). front ++ h.1) h.3)) tt

filled_first : {w : Word} {G : Form Word} → IsFilled (line (word w then G))
filled_first {w} = filled_line (first_word w)

filled_word : {w : Word} → IsFilled (line (word w))
filled_word = filled_line (λ words h. subst HasWord (sym h) tt)

filled_else_end : (Body : List Instr → Form Line) → ((body : List Instr) → IsFilled (Body body)) → (branch : List Instr) → IsFilled (else_end Body branch)
filled_else_end Body held [] = filled_word
filled_else_end Body held (i ∷ is) = filled_then filled_word (filled_then (held (i ∷ is)) filled_word)

filled_layer : (Body : List Instr → Form Line) → ((body : List Instr) → IsFilled (Body body)) → (layer : Instr-F Instr) → IsFilled (instr_over Body layer)
filled_layer Body held (Instr-F.Plain op) = filled_line (λ words h. subst HasWord (sym h.2) tt)
filled_layer Body held (Instr-F.Memory op align offset) = filled_line (λ words h. subst HasWord (sym (h.2 ∙ ap (λ (front : List Word). front ++ h.1) h.3.2)) tt)
filled_layer Body held (Instr-F.Block t body) = filled_then filled_first (filled_then (held body) filled_word)
filled_layer Body held (Instr-F.Loop t body) = filled_then filled_first (filled_then (held body) filled_word)
filled_layer Body held (Instr-F.If t branches) = filled_then filled_first (filled_then (held branches.0) (filled_else_end Body held branches.1))
filled_layer Body held (Instr-F.Br l) = filled_first
filled_layer Body held (Instr-F.BrIf l) = filled_first
filled_layer Body held (Instr-F.BrTable targets) = filled_first
filled_layer Body held (Instr-F.Call x) = filled_first
filled_layer Body held (Instr-F.CallIndirect x) = filled_first
filled_layer Body held (Instr-F.LocalGet x) = filled_first
filled_layer Body held (Instr-F.LocalSet x) = filled_first
filled_layer Body held (Instr-F.LocalTee x) = filled_first
filled_layer Body held (Instr-F.GlobalGet x) = filled_first
filled_layer Body held (Instr-F.GlobalSet x) = filled_first
filled_layer Body held (Instr-F.I32Const n) = filled_first
filled_layer Body held (Instr-F.I64Const n) = filled_first

pub filled_instr : (levels : ℕ) (i : Instr) → IsFilled (instr levels i)
unfolding instr
filled_instr zero i = filled_layer (λ body lines. ⊥) (λ body. record { filled = λ lines no. absurd no }) (out-Instr i)
filled_instr (suc levels) i = filled_layer (each (instr levels)) (λ body. filled_each (instr levels) body (filled_instr levels)) (out-Instr i)

filled_func : (f : Func) → IsFilled (listing.func f)
filled_func f = filled_then filled_first (filled_then (filled_each (instr max_nesting) f.body (filled_instr max_nesting)) filled_word)

filled_start : (func : Option ℕ) → IsFilled (listing.start func)
filled_start None = record { filled = λ lines none. subst (AllByRecursion HasWord) (sym none) tt }
filled_start (Some x) = filled_first

pub filled_module : (m : Module) → IsFilled (module_lines m)
filled_module m =
    filled_then (filled_each (λ t. line (listing.functype t)) m.types (λ t. filled_first))
    (filled_then (filled_each (λ i. line (listing.import i)) m.imports (λ i. filled_first))
    (filled_then (filled_each listing.func m.funcs filled_func)
    (filled_then (filled_each (λ t. line (listing.table t)) m.tables (λ t. filled_first))
    (filled_then (filled_each (λ t. line (listing.memory t)) m.memories (λ t. filled_first))
    (filled_then (filled_each (λ g. line (listing.global g)) m.globals (λ g. filled_first))
    (filled_then (filled_each (λ e. line (listing.export e)) m.exports (λ e. filled_first))
    (filled_then (filled_start m.start)
    (filled_then (filled_each (λ e. line (listing.elem e)) m.elems (λ e. filled_first))
    (filled_each (λ s. line (listing.segment s)) m.segments (λ s. filled_first))))))))))

-- ---- the lines of a text

no_blank : (w : Word) → IsWord w → All (λ b. (b == 32) ≡ false) w
no_blank w h = All-from_recursion (λ b. (b == 32) ≡ false) w (go w h)
  where
    go : (bs : List ℕ) → IsWord bs → AllByRecursion (λ b. (b == 32) ≡ false) bs
    go [] k = tt
    go (b ∷ bs) k = (ne_eqb b 32 k.0.0, go bs k.1)

-- a line is cut into its words again
pub cut_again : (w : Word) (words : List Word) → IsWord w → AllByRecursion IsWord words → words_of (join_with_byte 32 (w ∷ words)) ≡ w ∷ words
cut_again w [] h k = slice_split_none (λ b. b == 32) w (no_blank w h)
cut_again w (v ∷ words) h k = slice_split_at (λ b. b == 32) w 32 (join_with_byte 32 (v ∷ words)) (no_blank w h) refl ∙ ap (λ (rest : List Word). w ∷ rest) (cut_again v words k.0 k.1)

unbroken_word : (w : Word) → IsWord w → IsUnbroken w
unbroken_word [] h = tt
unbroken_word (b ∷ bs) h = (h.0.1, unbroken_word bs h.1)

blank_is_none : ◌≢◌ {A = ℕ} 32 10
blank_is_none = omega arith

pub unbroken_line : (words : List Word) → AllByRecursion IsWord words → IsUnbroken (join_with_byte 32 words)
unbroken_line [] h = tt
unbroken_line (w ∷ []) h = unbroken_word w h.0
unbroken_line (w ∷ v ∷ words) h = both_pass (λ b. b ≢ 10) w (32 ∷ join_with_byte 32 (v ∷ words)) (unbroken_word w h.0) (blank_is_none, unbroken_line (v ∷ words) h.1)

-- the first line feed is at one position
one_feed : (a b x y : List ℕ) → IsUnbroken a → IsUnbroken b → a ++ 10 ∷ x ≡ b ++ 10 ∷ y → (a ≡ b) × (x ≡ y)
one_feed [] [] x y h k same = (refl, cc)
one_feed [] (c ∷ b) x y h k same = let first : c ≡ 10 = cc in absurd (k.0 first)
one_feed (c ∷ a) [] x y h k same = let first : c ≡ 10 = cc in absurd (h.0 first)
one_feed (c ∷ a) (d ∷ b) x y h k same =
    let tails : a ++ 10 ∷ x ≡ b ++ 10 ∷ y = cc in
    let rest = one_feed a b x y h.1 k.1 tails in
    let heads : c ≡ d = cc in
    (ap (λ (n : ℕ). n ∷ a) heads ∙ ap (λ (bs : List ℕ). d ∷ bs) rest.0, rest.1)

one_line : (v w : Line) → HasWord v → HasWord w → AllByRecursion IsWord v → AllByRecursion IsWord w → join_with_byte 32 v ≡ join_with_byte 32 w → v ≡ w
one_line [] w some other h k same = absurd some
one_line (v ∷ vs) [] some other h k same = absurd other
one_line (v ∷ vs) (w ∷ ws) some other h k same = sym (cut_again v vs h.0 h.1) ∙ ap words_of same ∙ cut_again w ws k.0 k.1

-- a line at the beginning, with its line feed taken out of it
pub split_line : (words : Line) (more : List ℕ) → line_text words ++ more ≡ join_with_byte 32 words ++ 10 ∷ more
split_line words more = append_assoc (join_with_byte 32 words) (10 ∷ []) more

no_feed : (front more : List ℕ) → [] ≡ front ++ 10 ∷ more → ⊥
no_feed [] more is = cc
no_feed (c ∷ front) more is = cc

one_row : (a b : List Line) → AllByRecursion HasWord a → AllByRecursion HasWord b → AreLines a → AreLines b → text_of a ≡ text_of b → a ≡ b
one_row [] [] some other h k same = refl
one_row [] (w ∷ b) some other h k same =
    let rows : [] ≡ join_with_byte 32 w ++ 10 ∷ text_of b = same ∙ split_line w (text_of b) in
    absurd (no_feed (join_with_byte 32 w) (text_of b) rows)
one_row (v ∷ a) [] some other h k same =
    let rows : [] ≡ join_with_byte 32 v ++ 10 ∷ text_of a = sym same ∙ split_line v (text_of a) in
    absurd (no_feed (join_with_byte 32 v) (text_of a) rows)
one_row (v ∷ a) (w ∷ b) some other h k same =
    let rows : join_with_byte 32 v ++ 10 ∷ text_of a ≡ join_with_byte 32 w ++ 10 ∷ text_of b = sym (split_line v (text_of a)) ∙ same ∙ split_line w (text_of b) in
    let parts = one_feed (join_with_byte 32 v) (join_with_byte 32 w) (text_of a) (text_of b) (unbroken_line v h.0) (unbroken_line w k.0) rows in
    let first = one_line v w some.0 other.0 h.0 k.0 parts.0 in
    let rest = one_row a b some.1 other.1 h.1 k.1 parts.1 in
    ap (λ (words : Line). words ∷ a) first ∙ ap (λ (lines : List Line). w ∷ lines) rest

-- no text is the listing of two modules
pub one-module : (text : List ℕ) (m n : Module) → IsListing text m → IsListing text n → m ≡ n
one-module text m n h k =
    let lines : h.0 ≡ k.0 = one_row h.0 k.0 ((filled_module m).filled h.0 h.1) ((filled_module n).filled k.0 k.1) h.2 k.2 (sym h.3 ∙ k.3) in
    one-module_lines m n h.0 h.1 (subst (module_lines n) (sym lines) k.1)
