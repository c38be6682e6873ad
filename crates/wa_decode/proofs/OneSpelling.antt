-- No spelling of a value begins another's, and no bytes spell two values: by the productions, up to those of types, imports, exports and initial values.
use Rattle.std.proofs.Common.{◌≡◌, ℕ, ◌+◌, List, [], ◌∷◌, ◌++◌, length, Bool, true, false, Option, None, Some, refl, sym, ap, subst, ◌∙◌, arith, append_assoc}
use Rattle.wa_syntax.specs.declared.module.ElemSegment.{ElemSegment}
use Rattle.wa_syntax.specs.declared.module.Export.{Export}
use Rattle.wa_syntax.specs.declared.module.ExportKind.{ExportKind}
use Rattle.wa_syntax.specs.declared.module.ExportKind.TheVariants as exported
use Rattle.wa_syntax.specs.declared.module.FuncTy.{FuncTy}
use Rattle.wa_syntax.specs.declared.module.GlobalDef.{GlobalDef}
use Rattle.wa_syntax.specs.declared.module.GlobalTy.{GlobalTy}
use Rattle.wa_syntax.specs.declared.module.Import.{Import}
use Rattle.wa_syntax.specs.declared.module.ImportKind.{ImportKind}
use Rattle.wa_syntax.specs.declared.module.ImportKind.TheVariants as imported
use Rattle.wa_syntax.specs.declared.module.Init.{Init}
use Rattle.wa_syntax.specs.declared.module.Init.TheVariants.{Const32, Const64, Global}
use Rattle.wa_syntax.specs.declared.module.Limits.{Limits}
use Rattle.wa_syntax.specs.declared.module.DataSegment.{DataSegment}
use Rattle.wa_syntax.specs.declared.module.ValTy.{ValTy}
use Rattle.wa_syntax.specs.declared.module.ValTy.TheVariants.{I32, I64}
use Rattle.wa_syntax.specs.Binary.{functype, limits, limits_of, tabletype, mut, globaltype, importdesc, import, exportdesc, export, global, elem, segment}
use Rattle.wa_syntax.specs.BinaryInstructions.{valtype, blocktype, init}
use Rattle.wa_syntax.specs.Formats.{Format, ◌then◌, each, vec, byte, name, sized, u32, i32, i64}
use Rattle.wa_syntax.proofs.OneSpelling.{unsigned, signed}
use Rattle.wa_decode.proofs.Places.{same_fronts}
use Rattle.wa_decode.proofs.Reading.{pair, same_pair}

-- no spelling begins another's, and each spells one value
pub record IsOne {V : Type 0} (B : V → Format) : Type 0 where
  pub one : (v w : V) (a b x y : List ℕ) → B v a → B w b → a ++ x ≡ b ++ y → (a ≡ b) × (v ≡ w)

-- ---- the grammar

pub same_back : (a b x y : List ℕ) → a ≡ b → a ++ x ≡ b ++ y → x ≡ y
same_back a b x y fronts same = (same_fronts a b x y (ap length fronts) same).1

pub one-byte : IsOne byte
one-byte = record {
  one = λ v w a b x y h k same.
      let whole : v ∷ x ≡ w ∷ y = ap (λ (s : List ℕ). s ++ x) (sym h) ∙ same ∙ ap (λ (s : List ℕ). s ++ y) k in
      let values : v ≡ w = cc in
      (h ∙ ap (λ (c : ℕ). c ∷ []) values ∙ sym k, values);
}

pub one-pair : {U V : Type 0} {A : U → Format} {B : V → Format} → IsOne A → IsOne B → IsOne (pair A B)
one-pair {U = U} {V = V} one_A one_B = record {
  one = λ v w a b x y h k same.
      let f : List ℕ = h.0 in
      let g : List ℕ = h.1 in
      let d : List ℕ = k.0 in
      let e : List ℕ = k.1 in
      let whole : f ++ (g ++ x) ≡ d ++ (e ++ y) = sym (append_assoc f g x) ∙ ap (λ (s : List ℕ). s ++ x) (sym h.2) ∙ same ∙ ap (λ (s : List ℕ). s ++ y) k.2 ∙ append_assoc d e y in
      let first = one_A.one v.0 w.0 f d (g ++ x) (e ++ y) h.3 k.3 whole in
      let second = one_B.one v.1 w.1 g e x y h.4 k.4 (same_back f d (g ++ x) (e ++ y) first.0 whole) in
      let fronts : f ≡ d = first.0 in
      let backs : g ≡ e = second.0 in
      let joined : f ++ g ≡ d ++ e = cc in
      (h.2 ∙ joined ∙ sym k.2, same_pair v.0 w.0 v.1 w.1 first.1 second.1);
}

-- the same by another form of the value
pub one-as : {U V : Type 0} {P : U → Format} {F : V → Format} (of : V → U) → ((v w : V) → of v ≡ of w → v ≡ w) → ((v : V) (s : List ℕ) → F v s → P (of v) s) → IsOne P → IsOne F
one-as of back down one_P = record {
  one = λ v w a b x y h k same.
      let both = one_P.one (of v) (of w) a b x y (down v a h) (down w b k) same in
      (both.0, back v w both.1);
}

each-one : {V : Type 0} {B : V → Format} → IsOne B → (vs ws : List V) (a b x y : List ℕ) → length vs ≡ length ws → each B vs a → each B ws b → a ++ x ≡ b ++ y → (a ≡ b) × (vs ≡ ws)
each-one one_B [] [] a b x y long h k same = (h ∙ sym k, refl)
each-one one_B [] (w ∷ ws) a b x y long h k same = absurd (omega arith)
each-one one_B (v ∷ vs) [] a b x y long h k same = absurd (omega arith)
each-one one_B (v ∷ vs) (w ∷ ws) a b x y long h k same =
    let f : List ℕ = h.0 in
    let g : List ℕ = h.1 in
    let d : List ℕ = k.0 in
    let e : List ℕ = k.1 in
    let whole : f ++ (g ++ x) ≡ d ++ (e ++ y) = sym (append_assoc f g x) ∙ ap (λ (s : List ℕ). s ++ x) (sym h.2) ∙ same ∙ ap (λ (s : List ℕ). s ++ y) k.2 ∙ append_assoc d e y in
    let first = one_B.one v w f d (g ++ x) (e ++ y) h.3 k.3 whole in
    let second = each-one one_B vs ws g e x y (omega arith) h.4 k.4 (same_back f d (g ++ x) (e ++ y) first.0 whole) in
    let fronts : f ≡ d = first.0 in
    let backs : g ≡ e = second.0 in
    let joined : f ++ g ≡ d ++ e = cc in
    let heads : v ≡ w = first.1 in
    let tails : vs ≡ ws = second.1 in
    (h.2 ∙ joined ∙ sym k.2, cc)

pub one-u32 : IsOne u32
one-u32 = record { one = λ v w a b x y h k same. unsigned 32 a b x y v w h k same }

pub one-i32 : IsOne i32
one-i32 = record {
  one = λ v w a b x y h k same.
      let both = signed 32 a b x y h.0 k.0 h.1 k.1 same in
      let numbers : h.0 ≡ k.0 = both.1 in
      (both.0, cc (h.2, k.2));
}

pub one-i64 : IsOne i64
one-i64 = record {
  one = λ v w a b x y h k same.
      let both = signed 64 a b x y h.0 k.0 h.1 k.1 same in
      let numbers : h.0 ≡ k.0 = both.1 in
      (both.0, cc (h.2, k.2));
}

pub one-vec : {V : Type 0} {B : V → Format} → IsOne B → IsOne (vec B)
one-vec one_B = record {
  one = λ vs ws a b x y h k same.
      let f : List ℕ = h.0 in
      let g : List ℕ = h.1 in
      let d : List ℕ = k.0 in
      let e : List ℕ = k.1 in
      let whole : f ++ (g ++ x) ≡ d ++ (e ++ y) = sym (append_assoc f g x) ∙ ap (λ (s : List ℕ). s ++ x) (sym h.2) ∙ same ∙ ap (λ (s : List ℕ). s ++ y) k.2 ∙ append_assoc d e y in
      let first = unsigned 32 f d (g ++ x) (e ++ y) (length vs) (length ws) h.3 k.3 whole in
      let second = each-one one_B vs ws g e x y first.1 h.4 k.4 (same_back f d (g ++ x) (e ++ y) first.0 whole) in
      let fronts : f ≡ d = first.0 in
      let backs : g ≡ e = second.0 in
      let joined : f ++ g ≡ d ++ e = cc in
      (h.2 ∙ joined ∙ sym k.2, second.1);
}

pub one-name : IsOne name
one-name = record { one = λ v w a b x y h k same. (one-vec one-byte).one v w a b x y h.1 k.1 same }

-- what comes with its size: the size says where it ends, so its own format need not
pub one-sized : {V : Type 0} {B : V → Format} → ((v w : V) (s : List ℕ) → B v s → B w s → v ≡ w) → IsOne (λ (v : V). sized (B v))
one-sized {B = B} one_B = record {
  one = λ v w a b x y h k same.
      let content : List ℕ = h.0 in
      let other : List ℕ = k.0 in
      let f : List ℕ = h.2.0 in
      let g : List ℕ = h.2.1 in
      let d : List ℕ = k.2.0 in
      let e : List ℕ = k.2.1 in
      let whole : f ++ (g ++ x) ≡ d ++ (e ++ y) = sym (append_assoc f g x) ∙ ap (λ (s : List ℕ). s ++ x) (sym h.2.2) ∙ same ∙ ap (λ (s : List ℕ). s ++ y) k.2.2 ∙ append_assoc d e y in
      let first = unsigned 32 f d (g ++ x) (e ++ y) (length content) (length other) h.2.3 k.2.3 whole in
      let long : length g ≡ length e = ap length h.2.4 ∙ first.1 ∙ sym (ap length k.2.4) in
      let second = same_fronts g e x y long (same_back f d (g ++ x) (e ++ y) first.0 whole) in
      let fronts : f ≡ d = first.0 in
      let backs : g ≡ e = second.0 in
      let joined : f ++ g ≡ d ++ e = cc in
      let contents : other ≡ content = sym k.2.4 ∙ sym backs ∙ h.2.4 in
      (h.2.2 ∙ joined ∙ sym k.2.2, one_B v w content h.1 (subst (B w) contents k.1));
}

-- ---- types

-- a value of one byte, where no byte denotes two
pub one-of_bytes : {V : Type 0} {F : V → Format} (code : V → ℕ) → ((v w : V) → code v ≡ code w → v ≡ w) → ((v : V) (s : List ℕ) → F v s → byte (code v) s) → IsOne F
one-of_bytes code back down = one-as code back down one-byte

valtype-code : ValTy → ℕ
valtype-code I32 = 0x7f
valtype-code I64 = 0x7e

valtype-back : (v w : ValTy) → valtype-code v ≡ valtype-code w → v ≡ w
unfolding valtype-code
valtype-back I32 I32 same = refl
valtype-back I32 I64 same = absurd (omega arith)
valtype-back I64 I32 same = absurd (omega arith)
valtype-back I64 I64 same = refl

valtype-down : (v : ValTy) (s : List ℕ) → valtype v s → byte (valtype-code v) s
unfolding valtype-code
valtype-down I32 s h = h
valtype-down I64 s h = h

pub one-valtype : IsOne valtype
one-valtype = one-of_bytes valtype-code valtype-back valtype-down

blocktype-code : Option ValTy → ℕ
unfolding valtype-code
blocktype-code None = 0x40
blocktype-code (Some t) = valtype-code t

blocktype-back : (v w : Option ValTy) → blocktype-code v ≡ blocktype-code w → v ≡ w
unfolding blocktype-code valtype-code
blocktype-back None None same = refl
blocktype-back None (Some I32) same = absurd (omega arith)
blocktype-back None (Some I64) same = absurd (omega arith)
blocktype-back (Some I32) None same = absurd (omega arith)
blocktype-back (Some I64) None same = absurd (omega arith)
blocktype-back (Some t) (Some u) same = ap (λ (v : ValTy). Some v) (valtype-back t u same)

blocktype-down : (v : Option ValTy) (s : List ℕ) → blocktype v s → byte (blocktype-code v) s
unfolding blocktype-code
blocktype-down None s h = h
blocktype-down (Some t) s h = valtype-down t s h

pub one-blocktype : IsOne blocktype
one-blocktype = one-of_bytes blocktype-code blocktype-back blocktype-down

mut-code : Bool → ℕ
mut-code false = 0x00
mut-code true = 0x01

mut-back : (v w : Bool) → mut-code v ≡ mut-code w → v ≡ w
unfolding mut-code
mut-back false false same = refl
mut-back false true same = absurd (omega arith)
mut-back true false same = absurd (omega arith)
mut-back true true same = refl

mut-down : (v : Bool) (s : List ℕ) → mut v s → byte (mut-code v) s
unfolding mut-code
mut-down false s h = h
mut-down true s h = h

pub one-mut : IsOne mut
one-mut = one-of_bytes mut-code mut-back mut-down

-- a value after a byte that says what it is
pub one-following : {V : Type 0} {B : V → Format} (b : ℕ) → IsOne B → IsOne (λ (v : V). byte b then B v)
one-following {V = V} {B = B} b one_B =
    one-as {P = pair byte B} (λ (v : V). (b, v)) (λ v w same. ap (λ (p : ℕ × V). p.1) same) (λ v s h. h) (one-pair one-byte one_B)

pub one-functype : IsOne functype
one-functype =
    one-as (λ (t : FuncTy). (t.params, t.results)) (λ t u same. ap (λ (p : List ValTy × List ValTy). let it : FuncTy = record { params = p.0; results = p.1 } in it) same) (λ t s h. h)
    (one-following 0x60 (one-pair (one-vec one-valtype) (one-vec one-valtype)))

pub one-globaltype : IsOne globaltype
one-globaltype =
    one-as (λ (t : GlobalTy). (t.val, t.mutable)) (λ t u same. ap (λ (p : ValTy × Bool). let it : GlobalTy = record { val = p.0; mutable = p.1 } in it) same) (λ t s h. h)
    (one-pair one-valtype one-mut)

-- the first bytes of two spellings are one
pub same_byte : {A B : Format} (b c : ℕ) (s t x y : List ℕ) → (byte b then A) s → (byte c then B) t → s ++ x ≡ t ++ y → b ≡ c
same_byte b c s t x y h k same =
    let f : List ℕ = h.0 in
    let g : List ℕ = h.1 in
    let d : List ℕ = k.0 in
    let e : List ℕ = k.1 in
    let whole : f ++ (g ++ x) ≡ d ++ (e ++ y) = sym (append_assoc f g x) ∙ ap (λ (l : List ℕ). l ++ x) (sym h.2) ∙ same ∙ ap (λ (l : List ℕ). l ++ y) k.2 ∙ append_assoc d e y in
    (one-byte.one b c f d (g ++ x) (e ++ y) h.3 k.3 whole).1

limits_of-one : (m n : ℕ) (p q : Option ℕ) (a b x y : List ℕ) → limits_of m p a → limits_of n q b → a ++ x ≡ b ++ y → (a ≡ b) × (m ≡ n) × (p ≡ q)
limits_of-one m n None None a b x y h k same =
    let both = (one-following 0x00 one-u32).one m n a b x y h k same in
    (both.0, both.1, refl)
limits_of-one m n None (Some q) a b x y h k same = absurd (omega (arith, same_byte 0x00 0x01 a b x y h k same))
limits_of-one m n (Some p) None a b x y h k same = absurd (omega (arith, same_byte 0x01 0x00 a b x y h k same))
limits_of-one m n (Some p) (Some q) a b x y h k same =
    let both = (one-following 0x01 (one-pair one-u32 one-u32)).one (m, p) (n, q) a b x y h k same in
    (both.0, ap (λ (z : ℕ × ℕ). z.0) both.1, ap (λ (z : ℕ × ℕ). Some z.1) both.1)

same_limits : (m n : ℕ) (p q : Option ℕ) → m ≡ n → p ≡ q → ◌≡◌ {A = Limits} (record { min = m; max = p }) (record { min = n; max = q })
same_limits m n p q least greatest =
    ap (λ (x : ℕ). let l : Limits = record { min = x; max = p } in l) least ∙ ap (λ (y : Option ℕ). let l : Limits = record { min = n; max = y } in l) greatest

pub one-limits : IsOne limits
one-limits = record {
  one = λ l o a b x y h k same.
      let all = limits_of-one l.min o.min l.max o.max a b x y h k same in
      (all.0, same_limits l.min o.min l.max o.max all.1 all.2);
}

pub one-tabletype : IsOne tabletype
one-tabletype = one-following 0x70 one-limits

-- ---- initial values, exports and imports

init-one : (v w : Init) (a b x y : List ℕ) → init v a → init w b → a ++ x ≡ b ++ y → (a ≡ b) × (v ≡ w)
init-one (Const32 m) (Const32 n) a b x y h k same =
    let both = (one-following 0x41 (one-pair one-i32 one-byte)).one (m, 0x0b) (n, 0x0b) a b x y h k same in
    (both.0, ap (λ (z : ℕ × ℕ). Const32 z.0) both.1)
init-one (Const64 m) (Const64 n) a b x y h k same =
    let both = (one-following 0x42 (one-pair one-i64 one-byte)).one (m, 0x0b) (n, 0x0b) a b x y h k same in
    (both.0, ap (λ (z : ℕ × ℕ). Const64 z.0) both.1)
init-one (Global m) (Global n) a b x y h k same =
    let both = (one-following 0x23 (one-pair one-u32 one-byte)).one (m, 0x0b) (n, 0x0b) a b x y h k same in
    (both.0, ap (λ (z : ℕ × ℕ). Global z.0) both.1)
init-one (Const32 m) (Const64 n) a b x y h k same = absurd (omega (arith, same_byte 0x41 0x42 a b x y h k same))
init-one (Const32 m) (Global n) a b x y h k same = absurd (omega (arith, same_byte 0x41 0x23 a b x y h k same))
init-one (Const64 m) (Const32 n) a b x y h k same = absurd (omega (arith, same_byte 0x42 0x41 a b x y h k same))
init-one (Const64 m) (Global n) a b x y h k same = absurd (omega (arith, same_byte 0x42 0x23 a b x y h k same))
init-one (Global m) (Const32 n) a b x y h k same = absurd (omega (arith, same_byte 0x23 0x41 a b x y h k same))
init-one (Global m) (Const64 n) a b x y h k same = absurd (omega (arith, same_byte 0x23 0x42 a b x y h k same))

pub one-init : IsOne init
one-init = record { one = init-one }

importdesc-one : (v w : ImportKind) (a b x y : List ℕ) → importdesc v a → importdesc w b → a ++ x ≡ b ++ y → (a ≡ b) × (v ≡ w)
importdesc-one (imported.Func m) (imported.Func n) a b x y h k same =
    let both = (one-following 0x00 one-u32).one m n a b x y h k same in
    (both.0, ap (λ (z : ℕ). imported.Func z) both.1)
importdesc-one (imported.Func m) (imported.Table n) a b x y h k same = absurd (omega (arith, same_byte 0x00 0x01 a b x y h k same))
importdesc-one (imported.Func m) (imported.Memory n) a b x y h k same = absurd (omega (arith, same_byte 0x00 0x02 a b x y h k same))
importdesc-one (imported.Func m) (imported.Global n) a b x y h k same = absurd (omega (arith, same_byte 0x00 0x03 a b x y h k same))
importdesc-one (imported.Table m) (imported.Func n) a b x y h k same = absurd (omega (arith, same_byte 0x01 0x00 a b x y h k same))
importdesc-one (imported.Table m) (imported.Table n) a b x y h k same =
    let both = (one-following 0x01 one-tabletype).one m n a b x y h k same in
    (both.0, ap (λ (z : Limits). imported.Table z) both.1)
importdesc-one (imported.Table m) (imported.Memory n) a b x y h k same = absurd (omega (arith, same_byte 0x01 0x02 a b x y h k same))
importdesc-one (imported.Table m) (imported.Global n) a b x y h k same = absurd (omega (arith, same_byte 0x01 0x03 a b x y h k same))
importdesc-one (imported.Memory m) (imported.Func n) a b x y h k same = absurd (omega (arith, same_byte 0x02 0x00 a b x y h k same))
importdesc-one (imported.Memory m) (imported.Table n) a b x y h k same = absurd (omega (arith, same_byte 0x02 0x01 a b x y h k same))
importdesc-one (imported.Memory m) (imported.Memory n) a b x y h k same =
    let both = (one-following 0x02 one-limits).one m n a b x y h k same in
    (both.0, ap (λ (z : Limits). imported.Memory z) both.1)
importdesc-one (imported.Memory m) (imported.Global n) a b x y h k same = absurd (omega (arith, same_byte 0x02 0x03 a b x y h k same))
importdesc-one (imported.Global m) (imported.Func n) a b x y h k same = absurd (omega (arith, same_byte 0x03 0x00 a b x y h k same))
importdesc-one (imported.Global m) (imported.Table n) a b x y h k same = absurd (omega (arith, same_byte 0x03 0x01 a b x y h k same))
importdesc-one (imported.Global m) (imported.Memory n) a b x y h k same = absurd (omega (arith, same_byte 0x03 0x02 a b x y h k same))
importdesc-one (imported.Global m) (imported.Global n) a b x y h k same =
    let both = (one-following 0x03 one-globaltype).one m n a b x y h k same in
    (both.0, ap (λ (z : GlobalTy). imported.Global z) both.1)

pub one-importdesc : IsOne importdesc
one-importdesc = record { one = importdesc-one }

exportdesc-one : (v w : ExportKind) (a b x y : List ℕ) → exportdesc v a → exportdesc w b → a ++ x ≡ b ++ y → (a ≡ b) × (v ≡ w)
exportdesc-one (exported.Func m) (exported.Func n) a b x y h k same =
    let both = (one-following 0x00 one-u32).one m n a b x y h k same in
    (both.0, ap (λ (z : ℕ). exported.Func z) both.1)
exportdesc-one (exported.Func m) (exported.Table n) a b x y h k same = absurd (omega (arith, same_byte 0x00 0x01 a b x y h k same))
exportdesc-one (exported.Func m) (exported.Memory n) a b x y h k same = absurd (omega (arith, same_byte 0x00 0x02 a b x y h k same))
exportdesc-one (exported.Func m) (exported.Global n) a b x y h k same = absurd (omega (arith, same_byte 0x00 0x03 a b x y h k same))
exportdesc-one (exported.Table m) (exported.Func n) a b x y h k same = absurd (omega (arith, same_byte 0x01 0x00 a b x y h k same))
exportdesc-one (exported.Table m) (exported.Table n) a b x y h k same =
    let both = (one-following 0x01 one-u32).one m n a b x y h k same in
    (both.0, ap (λ (z : ℕ). exported.Table z) both.1)
exportdesc-one (exported.Table m) (exported.Memory n) a b x y h k same = absurd (omega (arith, same_byte 0x01 0x02 a b x y h k same))
exportdesc-one (exported.Table m) (exported.Global n) a b x y h k same = absurd (omega (arith, same_byte 0x01 0x03 a b x y h k same))
exportdesc-one (exported.Memory m) (exported.Func n) a b x y h k same = absurd (omega (arith, same_byte 0x02 0x00 a b x y h k same))
exportdesc-one (exported.Memory m) (exported.Table n) a b x y h k same = absurd (omega (arith, same_byte 0x02 0x01 a b x y h k same))
exportdesc-one (exported.Memory m) (exported.Memory n) a b x y h k same =
    let both = (one-following 0x02 one-u32).one m n a b x y h k same in
    (both.0, ap (λ (z : ℕ). exported.Memory z) both.1)
exportdesc-one (exported.Memory m) (exported.Global n) a b x y h k same = absurd (omega (arith, same_byte 0x02 0x03 a b x y h k same))
exportdesc-one (exported.Global m) (exported.Func n) a b x y h k same = absurd (omega (arith, same_byte 0x03 0x00 a b x y h k same))
exportdesc-one (exported.Global m) (exported.Table n) a b x y h k same = absurd (omega (arith, same_byte 0x03 0x01 a b x y h k same))
exportdesc-one (exported.Global m) (exported.Memory n) a b x y h k same = absurd (omega (arith, same_byte 0x03 0x02 a b x y h k same))
exportdesc-one (exported.Global m) (exported.Global n) a b x y h k same =
    let both = (one-following 0x03 one-u32).one m n a b x y h k same in
    (both.0, ap (λ (z : ℕ). exported.Global z) both.1)

pub one-exportdesc : IsOne exportdesc
one-exportdesc = record { one = exportdesc-one }

pub one-import : IsOne import
one-import =
    one-as (λ (t : Import). (t.«module», (t.name, t.kind))) (λ t u same. ap (λ (p : List ℕ × (List ℕ × ImportKind)). let it : Import = record { «module» = p.0; name = p.1.0; kind = p.1.1 } in it) same) (λ t s h. h)
    (one-pair one-name (one-pair one-name one-importdesc))

pub one-export : IsOne export
one-export =
    one-as (λ (t : Export). (t.name, t.kind)) (λ t u same. ap (λ (p : List ℕ × ExportKind). let it : Export = record { name = p.0; kind = p.1 } in it) same) (λ t s h. h)
    (one-pair one-name one-exportdesc)

-- ---- globals and segments

pub one-global : IsOne global
one-global =
    one-as (λ (t : GlobalDef). (t.ty, t.init)) (λ t u same. ap (λ (p : GlobalTy × Init). let it : GlobalDef = record { ty = p.0; init = p.1 } in it) same) (λ t s h. h)
    (one-pair one-globaltype one-init)

pub one-elem : IsOne elem
one-elem =
    one-as (λ (t : ElemSegment). (t.table, (t.offset, t.funcs))) (λ t u same. ap (λ (p : ℕ × (Init × List ℕ)). let it : ElemSegment = record { table = p.0; offset = p.1.0; funcs = p.1.1 } in it) same) (λ t s h. h)
    (one-pair one-u32 (one-pair one-init (one-vec one-u32)))

pub one-segment : IsOne segment
one-segment =
    one-as (λ (t : DataSegment). (t.memory, (t.offset, t.bytes))) (λ t u same. ap (λ (p : ℕ × (Init × List ℕ)). let it : DataSegment = record { memory = p.0; offset = p.1.0; bytes = p.1.1 } in it) same) (λ t s h. h)
    (one-pair one-u32 (one-pair one-init (one-vec one-byte)))
