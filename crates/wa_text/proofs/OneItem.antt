-- No words are those of two values, by the productions up to those of items and instructions that are one line.
use Rattle.std.proofs.Common.{◌≡◌, ℕ, ◌^◌, ◌<◌, Bool, true, false, List, [], ◌∷◌, ◌++◌, Option, None, Some, refl, sym, ap, subst, ◌∙◌, arith, append_assoc}
use Rattle.std.proofs.lemmas.Bool.{false≢true}
use Rattle.std.proofs.lemmas.Fmt.{decimal_injective}
use Rattle.std.proofs.lemmas.List.{append-nil, same_from_push}
use Rattle.std.proofs.lemmas.Slice.Eq.{bytes_eq-Decides}
use Rattle.std.specs.Prelude.{codes, decimal, Result, Ok}
use Rattle.std.specs.Str.{bytes_eq}
use Rattle.hex.specs.declared.error.FromHexError.{FromHexError}
use Rattle.hex.specs.Hex.{IsBytes, encode_with, decode_of}
use Rattle.hex.proofs.HexLemmas.{decode_of-encode_lower}
use Rattle.wa_syntax.specs.declared.module.ElemSegment.{ElemSegment}
use Rattle.wa_syntax.specs.declared.module.Export.{Export}
use Rattle.wa_syntax.specs.declared.module.ExportKind.{ExportKind}
use Rattle.wa_syntax.specs.declared.module.ExportKind.TheVariants as exported
use Rattle.wa_syntax.specs.declared.module.FuncTy.{FuncTy}
use Rattle.wa_syntax.specs.declared.module.GlobalDef.{GlobalDef}
use Rattle.wa_syntax.specs.declared.module.GlobalTy.{GlobalTy}
use Rattle.wa_syntax.specs.declared.module.Import.{Import}
use Rattle.wa_syntax.specs.declared.module.ImportKind.{ImportKind}
use Rattle.wa_syntax.specs.declared.module.ImportKind.TheVariants as imported
use Rattle.wa_syntax.specs.declared.module.Init.{Init}
use Rattle.wa_syntax.specs.declared.module.Init.TheVariants.{Const32, Const64, Global}
use Rattle.wa_syntax.specs.declared.module.Limits.{Limits}
use Rattle.wa_syntax.specs.declared.module.DataSegment.{DataSegment}
use Rattle.wa_syntax.specs.declared.module.ValTy.{ValTy}
use Rattle.wa_syntax.specs.declared.module.ValTy.TheVariants.{I32, I64}
use Rattle.wa_text.specs.Forms.{Form, ◌then◌, each, nothing}
use Rattle.wa_text.specs.Instructions.{block_result}
use Rattle.wa_text.specs.Listing.{elem, export, exportdesc, functype, global, globaltype, import, importdesc, init, limits, limits_of, locals, segment}
use Rattle.wa_text.proofs.Lines.{each_more}
use Rattle.wa_text.specs.Words.{Word, line, word, number, u32, u64, digits, bytes, name, val, mut}

-- what a value is written as begins no other's, where each is followed by items of K, and is written for one value
pub record IsOne {X V : Type 0} (K : Form X) (F : V → Form X) : Type 0 where
  pub one : (v w : V) (a b x y : List X) → F v a → F w b → K x → K y → a ++ x ≡ b ++ y → (a ≡ b) × (v ≡ w)

-- whatever follows
abbrev pub any : {X : Type 0} → Form X
any xs = Unit {0}

-- where nothing follows, no items are those of two values
pub record IsWhole {X V : Type 0} (F : V → Form X) : Type 0 where
  pub one : (v w : V) (s : List X) → F v s → F w s → v ≡ w

-- ---- the grammar

cancel : {X : Type 0} (a x y : List X) → a ++ x ≡ a ++ y → x ≡ y
cancel [] x y same = same
cancel (c ∷ a) x y same = let tails : a ++ x ≡ a ++ y = cc in cancel a x y tails

pub same_back : {X : Type 0} (a b x y : List X) → a ≡ b → a ++ x ≡ b ++ y → x ≡ y
same_back a b x y fronts same = cancel a x y (same ∙ ap (λ (front : List _). front ++ y) (sym fronts))

abbrev pub pair : {X U V : Type 0} → (U → Form X) → (V → Form X) → U × V → Form X
pair A B p = A p.0 then B p.1

pub same_pair : {U V : Type 0} (a c : U) (b d : V) → a ≡ c → b ≡ d → ◌≡◌ {A = U × V} (a, b) (c, d)
same_pair {U = U} {V = V} a c b d first second =
    ap (λ (x : U). let p : U × V = (x, b) in p) first ∙ ap (λ (y : V). let p : U × V = (c, y) in p) second

-- two parts, where the second one lets the first one end
pub one-pair : {X U V : Type 0} {A : U → Form X} {B : V → Form X} {J K : Form X} → IsOne J A → IsOne K B → ((v : V) (s x : List X) → B v s → K x → J (s ++ x)) → IsOne K (pair A B)
one-pair {X} one_A one_B next = record {
  one = λ v w a b x y h k follows goes same.
      let f : List X = h.0 in
      let g : List X = h.1 in
      let d : List X = k.0 in
      let e : List X = k.1 in
      let whole : f ++ (g ++ x) ≡ d ++ (e ++ y) = sym (append_assoc f g x) ∙ ap (λ (s : List X). s ++ x) (sym h.2) ∙ same ∙ ap (λ (s : List X). s ++ y) k.2 ∙ append_assoc d e y in
      let first = one_A.one v.0 w.0 f d (g ++ x) (e ++ y) h.3 k.3 (next v.1 g x h.4 follows) (next w.1 e y k.4 goes) whole in
      let second = one_B.one v.1 w.1 g e x y h.4 k.4 follows goes (same_back f d (g ++ x) (e ++ y) first.0 whole) in
      let fronts : f ≡ d = first.0 in
      let backs : g ≡ e = second.0 in
      let joined : f ++ g ≡ d ++ e = cc in
      (h.2 ∙ joined ∙ sym k.2, same_pair v.0 w.0 v.1 w.1 first.1 second.1);
}

-- the same by another form of the value
pub one-as : {X U V : Type 0} {K : Form X} {P : U → Form X} {F : V → Form X} (of : V → U) → ((v w : V) → of v ≡ of w → v ≡ w) → ((v : V) (s : List X) → F v s → P (of v) s) → IsOne K P → IsOne K F
one-as of back down one_P = record {
  one = λ v w a b x y h k follows goes same.
      let both = one_P.one (of v) (of w) a b x y (down v a h) (down w b k) follows goes same in
      (both.0, back v w both.1);
}

-- what has one item of its own
pub one-single : {X V : Type 0} {F : V → Form X} (K : Form X) → ((v : V) (s : List X) → F v s → (c : X) × (s ≡ c ∷ [])) → IsWhole F → IsOne K F
one-single {X} {F = F} K is whole_F = record {
  one = λ v w a b x y h k follows goes same.
      let c = is v a h in
      let d = is w b k in
      let rows : c.0 ∷ x ≡ d.0 ∷ y = ap (λ (s : List X). s ++ x) (sym c.1) ∙ same ∙ ap (λ (s : List X). s ++ y) d.1 in
      let heads : c.0 ≡ d.0 = cc in
      let fronts : a ≡ b = c.1 ∙ ap (λ (i : X). i ∷ []) heads ∙ sym d.1 in
      (fronts, whole_F.one v w a h (subst (F w) (sym fronts) k));
}

-- a known item at the beginning
abbrev first_item : {X : Type 0} → X → Unit {0} → Form X
first_item c u s = s ≡ c ∷ []

one-first_item : {X : Type 0} (c : X) → IsOne any (first_item c)
one-first_item c = record { one = λ v w a b x y h k follows goes same. (h ∙ sym k, refl) }

pub one-following : {X V : Type 0} {K : Form X} {F : V → Form X} (c : X) → IsOne K F → IsOne K (λ v. (λ s. s ≡ c ∷ []) then F v)
one-following {X} {V} {F = F} c one_F =
    one-as {P = pair (first_item c) F} (λ (v : V). (tt, v)) (λ v w same. ap (λ (p : Unit {0} × V). p.1) same) (λ v s h. h) (one-pair (one-first_item c) one_F (λ v s x h follows. tt))

pub whole : {X V : Type 0} {F : V → Form X} → IsOne nothing F → IsWhole F
whole one_F = record { one = λ v w s h k. (one_F.one v w s s [] [] h k refl refl refl).1 }

pub one-end : {X V : Type 0} {F : V → Form X} → IsWhole F → IsOne nothing F
one-end {X} {F = F} whole_F = record {
  one = λ v w a b x y h k ends end same.
      let fronts : a ≡ b = sym (append-nil a) ∙ ap (λ (s : List X). a ++ s) (sym ends) ∙ same ∙ ap (λ (s : List X). b ++ s) end ∙ append-nil b in
      (fronts, whole_F.one v w a h (subst (F w) (sym fronts) k));
}

-- values one after another, where none of them can begin what follows
pub one-each : {X V : Type 0} {F : V → Form X} {K : Form X} → IsOne any F → ((v : V) (s x : List X) → F v s → K (s ++ x) → ⊥) → IsOne K (each F)
one-each {X} {V} {F = F} {K = K} one_F never = record { one = go }
  where
    go : (vs ws : List V) (a b x y : List X) → each F vs a → each F ws b → K x → K y → a ++ x ≡ b ++ y → (a ≡ b) × (vs ≡ ws)
    go [] [] a b x y h k follows goes same = (h ∙ sym k, refl)
    go [] (w ∷ ws) a b x y h k follows goes same =
        let rest : x ≡ k.0 ++ (k.1 ++ y) = ap (λ (s : List X). s ++ x) (sym h) ∙ same ∙ ap (λ (s : List X). s ++ y) k.2 ∙ append_assoc k.0 k.1 y in
        absurd (never w k.0 (k.1 ++ y) k.3 (subst K rest follows))
    go (v ∷ vs) [] a b x y h k follows goes same =
        let rest : y ≡ h.0 ++ (h.1 ++ x) = ap (λ (s : List X). s ++ y) (sym k) ∙ sym same ∙ ap (λ (s : List X). s ++ x) h.2 ∙ append_assoc h.0 h.1 x in
        absurd (never v h.0 (h.1 ++ x) h.3 (subst K rest goes))
    go (v ∷ vs) (w ∷ ws) a b x y h k follows goes same =
        let f : List X = h.0 in
        let g : List X = h.1 in
        let d : List X = k.0 in
        let e : List X = k.1 in
        let rows : f ++ (g ++ x) ≡ d ++ (e ++ y) = sym (append_assoc f g x) ∙ ap (λ (s : List X). s ++ x) (sym h.2) ∙ same ∙ ap (λ (s : List X). s ++ y) k.2 ∙ append_assoc d e y in
        let first = one_F.one v w f d (g ++ x) (e ++ y) h.3 k.3 tt tt rows in
        let second = go vs ws g e x y h.4 k.4 follows goes (same_back f d (g ++ x) (e ++ y) first.0 rows) in
        let fronts : f ≡ d = first.0 in
        let backs : g ≡ e = second.0 in
        let joined : f ++ g ≡ d ++ e = cc in
        let heads : v ≡ w = first.1 in
        let tails : vs ≡ ws = second.1 in
        (h.2 ∙ joined ∙ sym k.2, cc)

-- a line, where no words are those of two values
pub one-line : {V : Type 0} {G : V → Form Word} → IsWhole G → IsOne any (λ v. line (G v))
one-line {G = G} whole_G = one-single any (λ v s h. (h.0, h.2)) (record {
  one = λ v w s h k.
      let both : h.0 ∷ [] ≡ k.0 ∷ [] = sym h.2 ∙ k.2 in
      let words : h.0 ≡ k.0 = cc in
      whole_G.one v w h.0 h.1 (subst (G w) (sym words) k.1);
})

-- ---- words

-- two words that a test separates
pub differ : (v w : Word) → bytes_eq v w ≡ false → v ≡ w → ⊥
differ v w not_same same = false≢true (sym not_same ∙ (bytes_eq-Decides v w).1 same)

-- two lists that begin with such words
pub apart : (v w : Word) (s back more : List Word) → bytes_eq v w ≡ false → s ≡ v ∷ back → s ≡ w ∷ more → ⊥
apart v w s back more not_same h k =
    let rows : v ∷ back ≡ w ∷ more = sym h ∙ k in
    let words : v ≡ w = cc in
    differ v w not_same words

one_number : (bits : ℕ) → ((n : ℕ) → n < 2 ^ bits → n < 2 ^ 64) → (K : Form Word) → IsOne K (number bits)
one_number bits small K = one-single K (λ n s h. (decimal n, h.1)) (record {
  one = λ m n s h k.
      let rows : decimal m ∷ [] ≡ decimal n ∷ [] = sym h.1 ∙ k.1 in
      let words : decimal m ≡ decimal n = cc in
      decimal_injective m n (small m h.0) (small n k.0) words;
})

pub one-u32 : (K : Form Word) → IsOne K u32
one-u32 K = one_number 32 (λ n h. omega arith) K

pub one-u64 : (K : Form Word) → IsOne K u64
one-u64 K = one_number 64 (λ n h. h) K

-- no list of digits is that of two lists of bytes
one_digits : (v w : List ℕ) → IsBytes v → IsBytes w → digits v ≡ digits w → v ≡ w
unfolding encode_with
one_digits [] [] h k same = refl
one_digits [] (c ∷ cs) h k same = let no : ⊥ = cc in absurd no
one_digits (b ∷ bs) [] h k same = let no : ⊥ = cc in absurd no
one_digits (b ∷ bs) (c ∷ cs) h k same =
    let back : ◌≡◌ {A = Result (List ℕ) FromHexError} (Ok (b ∷ bs)) (Ok (c ∷ cs)) = sym (decode_of-encode_lower (b ∷ bs) h) ∙ ap decode_of same ∙ decode_of-encode_lower (c ∷ cs) k in
    cc

whole_bytes : IsWhole bytes
whole_bytes = record {
  one = λ v w s h k.
      let rows : digits v ∷ [] ≡ digits w ∷ [] = sym h.1 ∙ k.1 in
      let words : digits v ≡ digits w = cc in
      one_digits v w h.0 k.0 words;
}

pub one-bytes : (K : Form Word) → IsOne K bytes
one-bytes K = one-single K (λ v s h. (digits v, h.1)) whole_bytes

pub one-name : (K : Form Word) → IsOne K name
one-name K = one-single K (λ v s h. (digits v, h.1.1)) (record { one = λ v w s h k. whole_bytes.one v w s h.1 k.1 })

-- ---- types

pub val_word : ValTy → Word
val_word I32 = codes "i32"
val_word I64 = codes "i64"

pub val_is : (t : ValTy) (s : List Word) → val t s → s ≡ val_word t ∷ []
unfolding val_word
val_is I32 s h = h
val_is I64 s h = h

pub one-val : (K : Form Word) → IsOne K val
one-val K = one-single K (λ t s h. (val_word t, val_is t s h)) (record { one = go })
  where
    go : (t u : ValTy) (s : List Word) → val t s → val u s → t ≡ u
    go I32 I32 s h k = refl
    go I32 I64 s h k = absurd (apart (codes "i32") (codes "i64") s [] [] refl h k)
    go I64 I32 s h k = absurd (apart (codes "i64") (codes "i32") s [] [] refl h k)
    go I64 I64 s h k = refl

pub mut_word : Bool → Word
mut_word false = codes "const"
mut_word true = codes "var"

pub mut_is : (mutable : Bool) (s : List Word) → mut mutable s → s ≡ mut_word mutable ∷ []
unfolding mut_word
mut_is false s h = h
mut_is true s h = h

pub one-mut : (K : Form Word) → IsOne K mut
one-mut K = one-single K (λ t s h. (mut_word t, mut_is t s h)) (record { one = go })
  where
    go : (t u : Bool) (s : List Word) → mut t s → mut u s → t ≡ u
    go false false s h k = refl
    go false true s h k = absurd (apart (codes "const") (codes "var") s [] [] refl h k)
    go true false s h k = absurd (apart (codes "var") (codes "const") s [] [] refl h k)
    go true true s h k = refl

whole_block_result : IsWhole block_result
whole_block_result = record { one = go }
  where
    go : (t u : Option ValTy) (s : List Word) → block_result t s → block_result u s → t ≡ u
    go None None s h k = refl
    go None (Some u) s h k = let rows : [] ≡ val_word u ∷ [] = sym h ∙ val_is u s k in let no : ⊥ = cc in absurd no
    go (Some t) None s h k = let rows : [] ≡ val_word t ∷ [] = sym k ∙ val_is t s h in let no : ⊥ = cc in absurd no
    go (Some t) (Some u) s h k = ap (λ (x : ValTy). Some x) ((whole (one-val nothing)).one t u s h k)

pub one-block_result : IsOne nothing block_result
one-block_result = one-end whole_block_result

-- values up to the end of a line, each of one word
one_row : {V : Type 0} {F : V → Form Word} → IsOne any F → ((v : V) (s : List Word) → F v s → (c : Word) × (s ≡ c ∷ [])) → IsOne nothing (each F)
one_row one_F is = one-each one_F (λ v s x h ends.
    let c = is v s h in
    let rows : c.0 ∷ x ≡ [] = ap (λ (front : List Word). front ++ x) (sym c.1) ∙ ends in
    let no : ⊥ = cc in
    no)

one_vals : IsOne nothing (each val)
one_vals = one_row (one-val any) (λ t s h. (val_word t, val_is t s h))

one_indices : IsOne nothing (each u32)
one_indices = one_row (one-u32 any) (λ n s h. (decimal n, h.1))

-- what follows the parameters of a function type
abbrev is_arrow : Form Word
is_arrow s = (rest : List Word) × (s ≡ codes "->" ∷ rest)

no_arrow : (t : ValTy) (s x : List Word) → val t s → is_arrow (s ++ x) → ⊥
no_arrow I32 s x h arrow = apart (codes "i32") (codes "->") (s ++ x) x arrow.0 refl (ap (λ (front : List Word). front ++ x) h) arrow.1
no_arrow I64 s x h arrow = apart (codes "i64") (codes "->") (s ++ x) x arrow.0 refl (ap (λ (front : List Word). front ++ x) h) arrow.1

one_results : IsOne nothing (λ (ts : List ValTy). word (codes "->") then each val ts)
one_results = one-following (codes "->") one_vals

pub one-functype : IsWhole functype
one-functype = whole (one-as {P = λ (p : List ValTy × List ValTy). word (codes "type") then pair (each val) (λ (ts : List ValTy). word (codes "->") then each val ts) p} (λ (t : FuncTy). (t.params, t.results))
    (λ v w same. ap (λ (p : List ValTy × List ValTy). let t : FuncTy = record { params = p.0; results = p.1 } in t) same)
    (λ v s h. h)
    (one-following (codes "type") (one-pair {J = is_arrow} (one-each (one-val any) no_arrow) one_results (λ ts s x h ends. (h.1 ++ x, ap (λ (front : List Word). front ++ x) (h.2 ∙ ap (λ (front : List Word). front ++ h.1) h.3))))))

-- one number has one word, and two have two
one_limits_of : (m n : ℕ) (p q : Option ℕ) (s : List Word) → limits_of m p s → limits_of n q s → (m ≡ n) × (p ≡ q)
one_limits_of m n None None s h k = ((whole (one-u32 nothing)).one m n s h k, refl)
one_limits_of m n None (Some q) s h k =
    let rows : decimal m ∷ [] ≡ decimal n ∷ decimal q ∷ [] = sym h.1 ∙ k.2 ∙ ap (λ (front : List Word). front ++ k.1) k.3.1 ∙ ap (λ (back : List Word). decimal n ∷ back) k.4.1 in
    let no : ⊥ = cc in
    absurd no
one_limits_of m n (Some p) None s h k =
    let rows : decimal n ∷ [] ≡ decimal m ∷ decimal p ∷ [] = sym k.1 ∙ h.2 ∙ ap (λ (front : List Word). front ++ h.1) h.3.1 ∙ ap (λ (back : List Word). decimal m ∷ back) h.4.1 in
    let no : ⊥ = cc in
    absurd no
one_limits_of m n (Some p) (Some q) s h k =
    let both = (whole (one-pair (one-u32 any) (one-u32 nothing) (λ v s x h ends. tt))).one (m, p) (n, q) s h k in
    (ap (λ (z : ℕ × ℕ). z.0) both, ap (λ (z : ℕ × ℕ). Some z.1) both)

pub one-limits : IsOne nothing limits
one-limits = one-end (record {
  one = λ v w s h k.
      let both = one_limits_of v.min w.min v.max w.max s h k in
      ap (λ (n : ℕ). let l : Limits = record { min = n; max = v.max } in l) both.0 ∙ ap (λ (m : Option ℕ). let l : Limits = record { min = w.min; max = m } in l) both.1;
})

pub one-globaltype : (K : Form Word) → IsOne K globaltype
one-globaltype K = one-as {P = pair val mut} (λ (t : GlobalTy). (t.val, t.mutable)) (λ v w same. ap (λ (p : ValTy × Bool). let t : GlobalTy = record { val = p.0; mutable = p.1 } in t) same) (λ v s h. h) (one-pair (one-val any) (one-mut K) (λ v s x h follows. tt))

-- ---- items

-- the word by which the kind of an import is known
pub import_word : ImportKind → Word
import_word (imported.Func x) = codes "func"
import_word (imported.Table t) = codes "table"
import_word (imported.Memory t) = codes "memory"
import_word (imported.Global t) = codes "global"

pub begun : {w : Word} {F : Form Word} (s : List Word) → (word w then F) s → (rest : List Word) × (s ≡ w ∷ rest)
begun s h = (h.1, h.2 ∙ ap (λ (front : List Word). front ++ h.1) h.3)

pub import_begins : (kind : ImportKind) (s : List Word) → importdesc kind s → (rest : List Word) × (s ≡ import_word kind ∷ rest)
unfolding import_word
import_begins (imported.Func x) s h = begun s h
import_begins (imported.Table t) s h = begun s h
import_begins (imported.Memory t) s h = begun s h
import_begins (imported.Global t) s h = begun s h

whole_importdesc : (v w : ImportKind) (s : List Word) → importdesc v s → importdesc w s → v ≡ w
unfolding import_word
whole_importdesc (imported.Func x) (imported.Func y) s h k = ap (λ (n : ℕ). imported.Func n) ((whole (one-following (codes "func") (one-u32 nothing))).one x y s h k)
whole_importdesc (imported.Table t) (imported.Table u) s h k = ap (λ (l : Limits). imported.Table l) ((whole (one-following (codes "table") one-limits)).one t u s h k)
whole_importdesc (imported.Memory t) (imported.Memory u) s h k = ap (λ (l : Limits). imported.Memory l) ((whole (one-following (codes "memory") one-limits)).one t u s h k)
whole_importdesc (imported.Global t) (imported.Global u) s h k = ap (λ (g : GlobalTy). imported.Global g) ((whole (one-following (codes "global") (one-globaltype nothing))).one t u s h k)
whole_importdesc v w s h k =
    let begins = import_begins v s h in
    let other = import_begins w s k in
    absurd (apart (import_word v) (import_word w) s begins.0 other.0 refl begins.1 other.1)

pub one-import : IsWhole import
one-import = whole (one-as {P = λ (p : List ℕ × (List ℕ × ImportKind)). word (codes "import") then pair name (pair name importdesc) p} (λ (i : Import). (i.«module», (i.name, i.kind)))
    (λ v w same. ap (λ (p : List ℕ × (List ℕ × ImportKind)). let i : Import = record { «module» = p.0; name = p.1.0; kind = p.1.1 } in i) same)
    (λ v s h. h)
    (one-following (codes "import") (one-pair (one-name any) (one-pair (one-name any) (one-end (record { one = whole_importdesc })) (λ v s x h ends. tt)) (λ v s x h ends. tt))))

-- an initial value is two words
pub init_kind : Init → Word
init_kind (Const32 n) = codes "i32"
init_kind (Const64 n) = codes "i64"
init_kind (Global x) = codes "get"

pub init_value : Init → Word
init_value (Const32 n) = decimal n
init_value (Const64 n) = decimal n
init_value (Global x) = decimal x

pub init_words : (i : Init) (s : List Word) → init i s → s ≡ init_kind i ∷ init_value i ∷ []
unfolding init_kind init_value
init_words (Const32 n) s h = h.2 ∙ ap (λ (front : List Word). front ++ h.1) h.3 ∙ ap (λ (back : List Word). codes "i32" ∷ back) h.4.1
init_words (Const64 n) s h = h.2 ∙ ap (λ (front : List Word). front ++ h.1) h.3 ∙ ap (λ (back : List Word). codes "i64" ∷ back) h.4.1
init_words (Global x) s h = h.2 ∙ ap (λ (front : List Word). front ++ h.1) h.3 ∙ ap (λ (back : List Word). codes "get" ∷ back) h.4.1

whole_init : (v w : Init) (s : List Word) → init v s → init w s → v ≡ w
unfolding init_kind
whole_init (Const32 m) (Const32 n) s h k = ap (λ (x : ℕ). Const32 x) ((whole (one-following (codes "i32") (one-u32 nothing))).one m n s h k)
whole_init (Const64 m) (Const64 n) s h k = ap (λ (x : ℕ). Const64 x) ((whole (one-following (codes "i64") (one-u64 nothing))).one m n s h k)
whole_init (Global m) (Global n) s h k = ap (λ (x : ℕ). Global x) ((whole (one-following (codes "get") (one-u32 nothing))).one m n s h k)
whole_init v w s h k = absurd (apart (init_kind v) (init_kind w) s (init_value v ∷ []) (init_value w ∷ []) refl (init_words v s h) (init_words w s k))

one-init : (K : Form Word) → IsOne K init
one-init K = record {
  one = λ v w a b x y h k follows goes same.
      let rows : init_kind v ∷ init_value v ∷ x ≡ init_kind w ∷ init_value w ∷ y = ap (λ (s : List Word). s ++ x) (sym (init_words v a h)) ∙ same ∙ ap (λ (s : List Word). s ++ y) (init_words w b k) in
      let kinds : init_kind v ≡ init_kind w = cc in
      let values : init_value v ≡ init_value w = cc in
      let fronts : a ≡ b = init_words v a h ∙ ap (λ (c : Word). c ∷ init_value v ∷ []) kinds ∙ ap (λ (c : Word). init_kind w ∷ c ∷ []) values ∙ sym (init_words w b k) in
      (fronts, whole_init v w a h (subst (init w) (sym fronts) k));
}

pub one-global : IsWhole global
one-global = whole (one-as {P = λ (p : GlobalTy × Init). word (codes "global") then pair globaltype init p} (λ (g : GlobalDef). (g.ty, g.init)) (λ v w same. ap (λ (p : GlobalTy × Init). let g : GlobalDef = record { ty = p.0; init = p.1 } in g) same) (λ v s h. h)
    (one-following (codes "global") (one-pair (one-globaltype any) (one-init nothing) (λ v s x h ends. tt))))

pub export_word : ExportKind → Word
export_word (exported.Func x) = codes "func"
export_word (exported.Table x) = codes "table"
export_word (exported.Memory x) = codes "memory"
export_word (exported.Global x) = codes "global"

pub export_begins : (kind : ExportKind) (s : List Word) → exportdesc kind s → (rest : List Word) × (s ≡ export_word kind ∷ rest)
unfolding export_word
export_begins (exported.Func x) s h = begun s h
export_begins (exported.Table x) s h = begun s h
export_begins (exported.Memory x) s h = begun s h
export_begins (exported.Global x) s h = begun s h

whole_exportdesc : (v w : ExportKind) (s : List Word) → exportdesc v s → exportdesc w s → v ≡ w
unfolding export_word
whole_exportdesc (exported.Func x) (exported.Func y) s h k = ap (λ (n : ℕ). exported.Func n) ((whole (one-following (codes "func") (one-u32 nothing))).one x y s h k)
whole_exportdesc (exported.Table x) (exported.Table y) s h k = ap (λ (n : ℕ). exported.Table n) ((whole (one-following (codes "table") (one-u32 nothing))).one x y s h k)
whole_exportdesc (exported.Memory x) (exported.Memory y) s h k = ap (λ (n : ℕ). exported.Memory n) ((whole (one-following (codes "memory") (one-u32 nothing))).one x y s h k)
whole_exportdesc (exported.Global x) (exported.Global y) s h k = ap (λ (n : ℕ). exported.Global n) ((whole (one-following (codes "global") (one-u32 nothing))).one x y s h k)
whole_exportdesc v w s h k =
    let begins = export_begins v s h in
    let other = export_begins w s k in
    absurd (apart (export_word v) (export_word w) s begins.0 other.0 refl begins.1 other.1)

pub one-export : IsWhole export
one-export = whole (one-as {P = λ (p : List ℕ × ExportKind). word (codes "export") then pair name exportdesc p} (λ (e : Export). (e.name, e.kind)) (λ v w same. ap (λ (p : List ℕ × ExportKind). let e : Export = record { name = p.0; kind = p.1 } in e) same) (λ v s h. h)
    (one-following (codes "export") (one-pair (one-name any) (one-end (record { one = whole_exportdesc })) (λ v s x h ends. tt))))

pub one-elem : IsWhole elem
one-elem = whole (one-as {P = λ (p : ℕ × (Init × List ℕ)). word (codes "elem") then pair u32 (pair init (each u32)) p} (λ (e : ElemSegment). (e.table, (e.offset, e.funcs))) (λ v w same. ap (λ (p : ℕ × (Init × List ℕ)). let e : ElemSegment = record { table = p.0; offset = p.1.0; funcs = p.1.1 } in e) same) (λ v s h. h)
    (one-following (codes "elem") (one-pair (one-u32 any) (one-pair (one-init any) one_indices (λ v s x h ends. tt)) (λ v s x h ends. tt))))

pub one-segment : IsWhole segment
one-segment = whole (one-as {P = λ (p : ℕ × (Init × List ℕ)). word (codes "data") then pair u32 (pair init bytes) p} (λ (x : DataSegment). (x.memory, (x.offset, x.bytes))) (λ v w same. ap (λ (p : ℕ × (Init × List ℕ)). let x : DataSegment = record { memory = p.0; offset = p.1.0; bytes = p.1.1 } in x) same) (λ v s h. h)
    (one-following (codes "data") (one-pair (one-u32 any) (one-pair (one-init any) (one-bytes nothing) (λ v s x h ends. tt)) (λ v s x h ends. tt))))

pub whole-following : {V : Type 0} {F : V → Form Word} (w : Word) → IsOne nothing F → IsWhole (λ v. word w then F v)
whole-following w one_F = whole (one-following w one_F)

pub one-start : IsWhole (λ (x : ℕ). word (codes "start") then u32 x)
one-start = whole-following (codes "start") (one-u32 nothing)

-- the line with which a function begins
pub one-head : IsWhole (λ (p : ℕ × List ValTy). word (codes "func") then u32 p.0 then locals p.1)
one-head = whole-following {F = pair u32 locals} (codes "func") (one-pair (one-u32 any) (one-as {P = each val} (λ (ts : List ValTy). ts) (λ v w same. same) (λ v s h. h.1) one_vals) (λ v s x h ends. tt))

-- the labels of a br_table, with the default last
pub one-labels : IsWhole (λ (p : List ℕ × ℕ). word (codes "br_table") then each u32 p.0 then u32 p.1)
one-labels = whole-following {F = λ (p : List ℕ × ℕ). each u32 p.0 then u32 p.1} (codes "br_table") (one-as {P = each u32} (λ (p : List ℕ × ℕ). p.0 ++ p.1 ∷ []) last (λ p s h. row p.0 p.1 s h) one_indices)
  where
    row : (ls : List ℕ) (l : ℕ) (s : List Word) → (each u32 ls then u32 l) s → each u32 (ls ++ l ∷ []) s
    row ls l s h = subst (each u32 (ls ++ l ∷ [])) (sym h.2) (each_more u32 ls l h.0 h.1 h.3 h.4)

    last : (p q : List ℕ × ℕ) → p.0 ++ p.1 ∷ [] ≡ q.0 ++ q.1 ∷ [] → p ≡ q
    last p q same = let both = same_from_push p.0 q.0 p.1 q.1 same in same_pair p.0 q.0 p.1 q.1 both.0 both.1
