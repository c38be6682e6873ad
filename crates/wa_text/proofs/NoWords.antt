-- Which words denote no value of a production.
use Rattle.std.proofs.Common.{◌≡◌, ◌≢◌, ℕ, zero, suc, ◌^◌, ◌<◌, ◌≤◌, ◌⊎◌, inl, inr, Bool, true, false, List, [], ◌∷◌, ◌++◌, length, get_or, Option, None, Some, refl, sym, ap, subst, ◌∙◌, arith}
use Rattle.std.proofs.lemmas.Fmt.{IsAscii-decimal, decimal_injective}
use Rattle.std.proofs.lemmas.List.{append-nil, get_or-map, length-map}
use Rattle.std.proofs.lemmas.Str.{IsUtf8-from_ascii}
use Rattle.std.specs.Prelude.{codes, decimal, Ok, Err}
use Rattle.std.specs.Str.{IsUtf8}
use denote.Ref.{Bor}
use Rattle.hex.specs.declared.error.FromHexError.{FromHexError}
use Rattle.hex.specs.declared.error.FromHexError.TheVariants as hex
use Rattle.hex.specs.Hex.{decode_of, encode_lower}
use Rattle.hex.proofs.HexLemmas.{decode_of-encode_lower}
use Rattle.wa_syntax.specs.declared.module.FuncTy.{FuncTy}
use Rattle.wa_syntax.specs.declared.module.ValTy.{ValTy}
use Rattle.wa_syntax.specs.declared.module.ValTy.TheVariants.{I32, I64}
use Rattle.wa_text.specs.declared.fault.LineFault.{LineFault}
use Rattle.wa_text.specs.declared.fault.LineFault.TheVariants as line_fault
use Rattle.wa_text.specs.Forms.{Form, ◌then◌, each, exactly}
use Rattle.wa_text.specs.Instructions.{block_result}
use Rattle.wa_text.specs.Listing.{limits_of}
use Rattle.wa_text.specs.Reading.{Refuses, begins_untyped, texts}
use Rattle.wa_text.specs.Words.{Word, bytes, digits, mut, name, u32, u64, val, word}
use Rattle.wa_text.proofs.OneItem.{IsOne, mut_is, mut_word, one-bytes, one-each, one-val, same_back, val_is, val_word, whole}

-- ---- words one after another

-- a form of one word
abbrev pub IsWord1 : {V : Type 0} → (V → Form Word) → Type 0
IsWord1 {V = V} F = (v : V) (s : List Word) → F v s → (c : Word) × (s ≡ c ∷ [])

pub u32_one : IsWord1 u32
u32_one n s h = (decimal n, h.1)

pub u64_one : IsWord1 u64
u64_one n s h = (decimal n, h.1)

pub bytes_one : IsWord1 bytes
bytes_one bs s h = (digits bs, h.1)

pub name_one : IsWord1 name
name_one t s h = (digits t, h.1.1)

pub val_one : IsWord1 val
val_one t s h = (val_word t, val_is t s h)

pub mut_one : IsWord1 mut
mut_one t s h = (mut_word t, mut_is t s h)

-- the first word, and those after it
pub first_of : {V : Type 0} {F : V → Form Word} {G : Form Word} → IsWord1 F → (v : V) (w : Word) (s : List Word) → (F v then G) (w ∷ s) → F v (w ∷ []) × G s
first_of {F = F} {G = G} one v w s h =
    let c = one v h.0 h.3 in
    let rows : w ∷ s ≡ c.0 ∷ h.1 = h.2 ∙ ap (λ (front : List Word). front ++ h.1) c.1 in
    let head : w ≡ c.0 = cc in
    let tail : h.1 ≡ s = cc in
    (subst (F v) (c.1 ∙ ap (λ (x : Word). x ∷ []) (sym head)) h.3, subst G tail h.4)

pub none_of : {V : Type 0} {F : V → Form Word} {G : Form Word} → IsWord1 F → (v : V) → (F v then G) [] → ⊥
none_of one v h =
    let c = one v h.0 h.3 in
    let rows : [] ≡ c.0 ∷ h.1 = h.2 ∙ ap (λ (front : List Word). front ++ h.1) c.1 in
    cc

pub not_none : {V : Type 0} {F : V → Form Word} → IsWord1 F → (v : V) → F v [] → ⊥
not_none one v h = let c = one v [] h in let rows : [] ≡ c.0 ∷ [] = c.1 in cc

pub not_two : {V : Type 0} {F : V → Form Word} → IsWord1 F → (v : V) (a b : Word) (s : List Word) → F v (a ∷ b ∷ s) → ⊥
not_two one v a b s h = let c = one v (a ∷ b ∷ s) h in let rows : a ∷ b ∷ s ≡ c.0 ∷ [] = c.1 in cc

-- a known word at the beginning
pub behind_word : {w : Word} {G : Form Word} (first : Word) (s : List Word) → (word w then G) (first ∷ s) → (first ≡ w) × G s
behind_word {w} {G} first s h =
    let rows : first ∷ s ≡ w ∷ h.1 = h.2 ∙ ap (λ (front : List Word). front ++ h.1) h.3 in
    let head : first ≡ w = cc in
    let tail : h.1 ≡ s = cc in
    (head, subst G tail h.4)

pub not_behind : {w : Word} {G : Form Word} → (word w then G) [] → ⊥
not_behind {w} h = let rows : [] ≡ w ∷ h.1 = h.2 ∙ ap (λ (front : List Word). front ++ h.1) h.3 in cc

-- ---- numbers and bytes

pub no_text : (w : Word) → (IsUtf8 w → ⊥) → (n : ℕ) → u64 n (w ∷ []) → ⊥
no_text w none n h =
    let words : w ≡ decimal n = cc in
    none (subst IsUtf8 (sym words) (IsUtf8-from_ascii (decimal n) (IsAscii-decimal n h.0)))

pub too_large : (w : Word) (n : ℕ) → u64 n (w ∷ []) → 2 ^ 32 ≤ n → (m : ℕ) → u32 m (w ∷ []) → ⊥
too_large w n h large m k =
    let words : decimal n ∷ [] ≡ decimal m ∷ [] = sym h.1 ∙ k.1 in
    let same : n ≡ m = decimal_injective n m h.0 (omega (arith, k.0)) cc in
    omega (arith, same, k.0)

pub as_u64 : (w : Word) (n : ℕ) → u32 n (w ∷ []) → (m : ℕ) × u64 m (w ∷ [])
as_u64 w n h = (n, (omega (arith, h.0), h.1))

-- bytes are read by their digits
pub decoded : (w : Word) (bs : List ℕ) → w ≢ codes "-" → bytes bs (w ∷ []) → (bs ≢ []) × (w ≡ encode_lower bs) × (decode_of w ≡ Ok bs)
decoded w [] some h = let same : w ≡ codes "-" = cc in absurd (some same)
decoded w (b ∷ bs) some h =
    let words : w ≡ encode_lower (b ∷ bs) = cc in
    ((λ none. let no : ⊥ = cc in no), words, ap decode_of words ∙ decode_of-encode_lower (b ∷ bs) h.0)

pub no_digits : (w : Word) (e : FromHexError) → decode_of w ≡ Err e → w ≢ codes "-" → (bs : List ℕ) → bytes bs (w ∷ []) → ⊥
no_digits w e fails some bs h = let k = decoded w bs some h in let no : ⊥ = cc in no

pub bytes_refused : (w : Word) (e : FromHexError) (f : LineFault) → (e ≡ hex.OutOfMemory → f ≡ line_fault.NoMemory) → (e ≡ hex.OutOfMemory) ⊎ (decode_of w ≡ Err e) → w ≢ codes "-" → Refuses bytes (w ∷ []) f
bytes_refused w e line_fault.NoMemory memory h some = tt
bytes_refused w e line_fault.Wrong memory (inl is) some = let no : ◌≡◌ {A = LineFault} line_fault.Wrong line_fault.NoMemory = memory is in let none : ⊥ = cc in absurd none
bytes_refused w e line_fault.Wrong memory (inr fails) some = λ bs h. no_digits w e fails some bs h

pub other_digits : (w : Word) (found : List ℕ) → decode_of w ≡ Ok found → w ≢ codes "-" → (bs : List ℕ) → bytes bs (w ∷ []) → (found ≢ []) × (encode_lower found ≡ w)
other_digits w found is some bs h =
    let k = decoded w bs some h in
    let same : bs ≡ found = cc in
    (subst (λ (l : List ℕ). l ≢ []) same k.0, sym (k.1 ∙ ap encode_lower same))

pub no_name : (w : Word) (found : List ℕ) → bytes found (w ∷ []) → (IsUtf8 found → ⊥) → (t : List ℕ) → name t (w ∷ []) → ⊥
no_name w found is none t h = none (subst IsUtf8 ((whole (one-bytes _)).one t found (w ∷ []) h.1 is) h.0)

-- ---- types

pub no_val : (w : Word) → w ≢ codes "i32" → w ≢ codes "i64" → (t : ValTy) → val t (w ∷ []) → ⊥
no_val w not_i32 not_i64 I32 h = not_i32 cc
no_val w not_i32 not_i64 I64 h = not_i64 cc

pub no_mut : (w : Word) → w ≢ codes "const" → w ≢ codes "var" → (m : Bool) → mut m (w ∷ []) → ⊥
no_mut w not_const not_var false h = not_const cc
no_mut w not_const not_var true h = not_var cc

pub result_val : (w : Word) (t : Option ValTy) → block_result t (w ∷ []) → (u : ValTy) × val u (w ∷ [])
result_val w None h = let no : ⊥ = cc in absurd no
result_val w (Some t) h = (t, h)

pub result_short : (s : List Word) (t : Option ValTy) → block_result t s → length s ≤ 1
result_short s None h = omega (arith, ap length h)
result_short s (Some t) h = omega (arith, ap length (val_is t s h))

-- the last of some types
untyped_ends : begins_untyped []
untyped_ends t h = none_of val_one t h

one_types : IsOne begins_untyped (each val)
one_types = one-each (one-val _) (λ t s x h stops. stops t (s, x, refl, h, tt))

arrow_untyped : (s : List Word) → begins_untyped (codes "->" ∷ s)
arrow_untyped s t h =
    let first = first_of val_one t (codes "->") s h in
    no_val (codes "->") (λ same. let no : ⊥ = cc in no) (λ same. let no : ⊥ = cc in no) t first.0

pub vals_whole : (ts us : List ValTy) (s rest : List Word) → (each val ts then exactly rest) s → begins_untyped rest → each val us s → rest ≡ []
vals_whole ts us s rest h stops k =
    let fronts = one_types.one ts us h.0 s rest [] h.3 k stops untyped_ends (ap (λ (back : List Word). h.0 ++ back) (sym h.4) ∙ sym h.2 ∙ sym (append-nil s)) in
    same_back h.0 s rest [] fronts.0 (ap (λ (back : List Word). h.0 ++ back) (sym h.4) ∙ sym h.2 ∙ sym (append-nil s))

pub vals_equal : (ts us : List ValTy) (s rest : List Word) → (each val ts then exactly rest) s → begins_untyped rest → each val us s → ts ≡ us
vals_equal ts us s rest h stops k =
    (one_types.one ts us h.0 s rest [] h.3 k stops untyped_ends (ap (λ (back : List Word). h.0 ++ back) (sym h.4) ∙ sym h.2 ∙ sym (append-nil s))).1

-- what follows the parameters
pub behind_params : (ts : List ValTy) (t : FuncTy) (s rest : List Word) → (each val ts then exactly rest) s → begins_untyped rest → (each val t.params then word (codes "->") then each val t.results) s → (back : List Word) × (rest ≡ codes "->" ∷ back) × each val t.results back
behind_params ts t s rest h stops k =
    let back : List Word = k.4.1 in
    let arrow : k.1 ≡ codes "->" ∷ back = k.4.2 ∙ ap (λ (front : List Word). front ++ back) k.4.3 in
    let lines : h.0 ++ rest ≡ k.0 ++ (codes "->" ∷ back) = ap (λ (b : List Word). h.0 ++ b) (sym h.4) ∙ sym h.2 ∙ k.2 ∙ ap (λ (b : List Word). k.0 ++ b) arrow in
    let fronts = one_types.one ts t.params h.0 k.0 rest (codes "->" ∷ back) h.3 k.3 stops (arrow_untyped back) lines in
    (back, same_back h.0 k.0 rest (codes "->" ∷ back) fronts.0 lines, k.4.4)

-- ---- limits

pub limits_one : (w : Word) (min : ℕ) (max : Option ℕ) → limits_of min max (w ∷ []) → u32 min (w ∷ [])
limits_one w min None h = h
limits_one w min (Some max) h = absurd (not_none u32_one max (first_of u32_one min w [] h).1)

pub limits_two : (v w : Word) (min : ℕ) (max : Option ℕ) → limits_of min max (v ∷ w ∷ []) → u32 min (v ∷ []) × ((m : ℕ) × u32 m (w ∷ []))
limits_two v w min None h = absurd (not_two u32_one min v w [] h)
limits_two v w min (Some max) h = let both = first_of u32_one min v (w ∷ []) h in (both.0, (max, both.1))

pub limits_length : (min : ℕ) (max : Option ℕ) (s : List Word) → limits_of min max s → (length s ≡ 1) ⊎ (length s ≡ 2)
limits_length min None s h = inl (ap length h.1)
limits_length min (Some max) s h = inr (ap length (h.2 ∙ ap (λ (front : List Word). front ++ h.1) h.3.1 ∙ ap (λ (back : List Word). decimal min ∷ back) h.4.1))

-- ---- lists of numbers

pub each_word : {V : Type 0} {F : V → Form Word} → IsWord1 F → (vs : List V) (s : List Word) (i : ℕ) (d : Word) → i < length s → each F vs s → (v : V) × F v (get_or s i d ∷ [])
each_word one [] s i d below h = absurd (omega (arith, ap length h))
each_word one (v ∷ vs) [] i d below h = absurd (omega arith)
each_word one (v ∷ vs) (w ∷ s) zero d below h = (v, (first_of one v w s h).0)
each_word one (v ∷ vs) (w ∷ s) (suc i) d below h = each_word one vs s i d (omega arith) (first_of one v w s h).1

pub index_at : (numbers : List ℕ) (words : List (Bor (List ℕ))) (i : ℕ) (d : Bor (List ℕ)) → i < length words → each u32 numbers (texts words) → (n : ℕ) × u32 n ((get_or words i d).now ∷ [])
index_at numbers words i d below h =
    let found = each_word u32_one numbers (texts words) i d.now (omega (arith, length-map words (λ (w : Bor (List ℕ)). w.now))) h in
    (found.0, subst (λ (w : Word). u32 found.0 (w ∷ [])) (get_or-map (λ (w : Bor (List ℕ)). w.now) words i d d.now below) found.1)

-- parameters and results, up to the end
pub params_results : (ps rs : List ValTy) (s rest back last : List Word) → (each val ps then exactly rest) s → rest ≡ codes "->" ∷ back → (each val rs then exactly last) back → last ≡ [] → (each val ps then word (codes "->") then each val rs) s
params_results ps rs s rest back last h is k ends =
    let results : each val rs back = subst (each val rs) (sym (k.2 ∙ ap (λ (b : List Word). k.0 ++ b) (k.4 ∙ ends) ∙ append-nil k.0)) k.3 in
    (h.0, h.1, h.2, h.3, (codes "->" ∷ [], back, h.4 ∙ is, refl, results))

pub head_is : {X : Type 0} {a b : X} {s t : List X} → a ∷ s ≡ b ∷ t → a ≡ b
head_is h = cc

pub tail_is : {X : Type 0} {a b : X} {s t : List X} → a ∷ s ≡ b ∷ t → s ≡ t
tail_is h = cc

-- no words
pub no_texts : (words : List (Bor (List ℕ))) → length words ≡ 0 → texts words ≡ []
no_texts [] none = refl
no_texts (w ∷ words) none = absurd (omega arith)

pub no_length : (words : List (Bor (List ℕ))) → texts words ≡ [] → length words ≡ 0
no_length [] none = refl
no_length (w ∷ words) none = let no : ⊥ = cc in absurd no
