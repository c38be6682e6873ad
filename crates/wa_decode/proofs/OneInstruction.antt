-- No spelling of an instruction begins another's, and none begins with an `end` or an `else`.
use Rattle.std.proofs.Common.{◌≡◌, ℕ, zero, suc, ◌+◌, ◌≤◌, ◌⊎◌, List, [], ◌∷◌, ◌++◌, Option, refl, sym, ap, subst, ◌∙◌, inl, inr, arith, append_assoc}
use Rattle.wa_syntax.specs.declared.instr.Instr.{Instr, out-Instr}
use Rattle.wa_syntax.specs.declared.instr.Instr.TheOpen.{Instr-F}
use Rattle.wa_syntax.specs.declared.instr.Instr.TheViews.{roll-Instr, roll-out-Instr}
use Rattle.wa_syntax.specs.declared.module.ValTy.{ValTy}
use Rattle.wa_syntax.specs.BinaryInstructions.{blocktype, IsBare, IsOfMemory, IsAccess, plain, conditional, instr_over, instr, max_nesting, expr}
use Rattle.wa_syntax.specs.Formats.{Format, ◌then◌, each, byte}
use Rattle.wa_decode.proofs.OneSpelling.{IsOne, one-byte, one-pair, one-as, one-u32, one-i32, one-i64, one-vec, one-blocktype, one-following, same_back}
use Rattle.wa_decode.proofs.Reading.{pair, same_pair}
use Rattle.wa_decode.proofs.Tails.{Starts, byte_starts, starts-one}

-- ---- which opcodes denote what

-- an opcode that is none of an instruction that is its opcode alone, nor of a load or a store
abbrev pub IsOther : ℕ → Type 0
IsOther c =
    ((0x02 ≤ c) × (c ≤ 0x0e)) ⊎ ((0x10 ≤ c) × (c ≤ 0x19)) ⊎ ((0x1c ≤ c) × (c ≤ 0x27)) ⊎ ((0x41 ≤ c) × (c ≤ 0x44))

abbrev pub IsPlain : ℕ → Type 0
IsPlain c = IsBare c ⊎ IsOfMemory c

-- how far the opcodes of instructions that are their opcode alone go
abbrev pub PlainRange : ℕ → Type 0
PlainRange c = (c ≤ 0x01) ⊎ (c ≡ 0x0f) ⊎ ((0x1a ≤ c) × (c ≤ 0x1b)) ⊎ ((0x3f ≤ c) × (c ≤ 0x40)) ⊎ (0x45 ≤ c)

pub plain_range : (c : ℕ) → IsPlain c → PlainRange c
plain_range c h =
    elim h [
      | inl bare ↦ elim bare [
        | inl a ↦ inl (omega (arith, a.1))
        | inr b ↦ elim b [
          | inl a ↦ inr (inl a)
          | inr d ↦ elim d [
            | inl a ↦ inr (inr (inl (omega (arith, a.0), omega (arith, a.1))))
            | inr e ↦ elim e [
              | inl a ↦ inr (inr (inr (inr (omega (arith, a.0)))))
              | inr f ↦ elim f [
                | inl a ↦ inr (inr (inr (inr (omega (arith, a.0)))))
                | inr g ↦ elim g [
                  | inl a ↦ inr (inr (inr (inr (omega (arith, a)))))
                  | inr a ↦ inr (inr (inr (inr (omega (arith, a.0)))))
                ]
              ]
            ]
          ]
        ]
      ]
      | inr a ↦ inr (inr (inr (inl (omega (arith, a.0), omega (arith, a.1)))))
    ]

pub access_range : (c : ℕ) → IsAccess c → (0x28 ≤ c) × (c ≤ 0x3e)
access_range c h =
    elim h [
      | inl a ↦ (omega (arith, a.0), omega (arith, a.1))
      | inr b ↦ elim b [
        | inl a ↦ (omega (arith, a.0), omega (arith, a.1))
        | inr a ↦ (omega (arith, a.0), omega (arith, a.1))
      ]
    ]

plain_other : (c : ℕ) → PlainRange c → IsOther c → ⊥
plain_other c h k = elim h [ inl ha ↦ elim k [ inl ka ↦ omega (arith, ha, ka) | inr kb ↦ elim kb [ inl kba ↦ omega (arith, ha, kba) | inr kbb ↦ elim kbb [ inl kbba ↦ omega (arith, ha, kbba) | inr kbbb ↦ omega (arith, ha, kbbb) ] ] ] | inr hb ↦ elim hb [ inl hba ↦ elim k [ inl ka ↦ omega (arith, hba, ka) | inr kb ↦ elim kb [ inl kba ↦ omega (arith, hba, kba) | inr kbb ↦ elim kbb [ inl kbba ↦ omega (arith, hba, kbba) | inr kbbb ↦ omega (arith, hba, kbbb) ] ] ] | inr hbb ↦ elim hbb [ inl hbba ↦ elim k [ inl ka ↦ omega (arith, hbba, ka) | inr kb ↦ elim kb [ inl kba ↦ omega (arith, hbba, kba) | inr kbb ↦ elim kbb [ inl kbba ↦ omega (arith, hbba, kbba) | inr kbbb ↦ omega (arith, hbba, kbbb) ] ] ] | inr hbbb ↦ elim hbbb [ inl hbbba ↦ elim k [ inl ka ↦ omega (arith, hbbba, ka) | inr kb ↦ elim kb [ inl kba ↦ omega (arith, hbbba, kba) | inr kbb ↦ elim kbb [ inl kbba ↦ omega (arith, hbbba, kbba) | inr kbbb ↦ omega (arith, hbbba, kbbb) ] ] ] | inr hbbbb ↦ elim k [ inl ka ↦ omega (arith, hbbbb, ka) | inr kb ↦ elim kb [ inl kba ↦ omega (arith, hbbbb, kba) | inr kbb ↦ elim kbb [ inl kbba ↦ omega (arith, hbbbb, kbba) | inr kbbb ↦ omega (arith, hbbbb, kbbb) ] ] ] ] ] ] ]

pub plain_access : (c : ℕ) → PlainRange c → (0x28 ≤ c) × (c ≤ 0x3e) → ⊥
plain_access c h k = elim h [ inl ha ↦ omega (arith, ha, k.0, k.1) | inr hb ↦ elim hb [ inl hba ↦ omega (arith, hba, k.0, k.1) | inr hbb ↦ elim hbb [ inl hbba ↦ omega (arith, hbba, k.0, k.1) | inr hbbb ↦ elim hbbb [ inl hbbba ↦ omega (arith, hbbba, k.0, k.1) | inr hbbbb ↦ omega (arith, hbbbb, k.0, k.1) ] ] ] ]

access_other : (c : ℕ) → (0x28 ≤ c) × (c ≤ 0x3e) → IsOther c → ⊥
access_other c h k = elim k [ inl ka ↦ omega (arith, ka, h.0, h.1) | inr kb ↦ elim kb [ inl kba ↦ omega (arith, kba, h.0, h.1) | inr kbb ↦ elim kbb [ inl kbba ↦ omega (arith, kbba, h.0, h.1) | inr kbbb ↦ omega (arith, kbbb, h.0, h.1) ] ] ]

-- ---- the first byte

-- a number for each kind of instruction: the opcode, where there is one
abbrev pub number : Instr-F Instr → ℕ
number (Instr-F.Plain op) = 0x100
number (Instr-F.Memory op align offset) = 0x101
number (Instr-F.Block t body) = 0x02
number (Instr-F.Loop t body) = 0x03
number (Instr-F.If t branches) = 0x04
number (Instr-F.Br l) = 0x0c
number (Instr-F.BrIf l) = 0x0d
number (Instr-F.BrTable table) = 0x0e
number (Instr-F.Call x) = 0x10
number (Instr-F.CallIndirect x) = 0x11
number (Instr-F.LocalGet x) = 0x20
number (Instr-F.LocalSet x) = 0x21
number (Instr-F.LocalTee x) = 0x22
number (Instr-F.GlobalGet x) = 0x23
number (Instr-F.GlobalSet x) = 0x24
number (Instr-F.I32Const n) = 0x41
number (Instr-F.I64Const n) = 0x42

-- which kind of instruction an opcode denotes
abbrev pub Stands : ℕ → ℕ → Type 0
Stands n c = ((n ≡ 0x100) × IsPlain c) ⊎ ((n ≡ 0x101) × IsAccess c) ⊎ ((n ≡ c) × IsOther c)

pub occurs-one : (n m c : ℕ) → Stands n c → Stands m c → n ≡ m
occurs-one n m c h k =
    elim h [
      | inl p ↦ elim k [
        | inl q ↦ omega (arith, p.0, q.0)
        | inr l ↦ elim l [
          | inl q ↦ absurd (plain_access c (plain_range c p.1) (access_range c q.1))
          | inr q ↦ absurd (plain_other c (plain_range c p.1) q.1)
        ]
      ]
      | inr r ↦ elim r [
        | inl p ↦ elim k [
          | inl q ↦ absurd (plain_access c (plain_range c q.1) (access_range c p.1))
          | inr l ↦ elim l [
            | inl q ↦ omega (arith, p.0, q.0)
            | inr q ↦ absurd (access_other c (access_range c p.1) q.1)
          ]
        ]
        | inr p ↦ elim k [
          | inl q ↦ absurd (plain_other c (plain_range c q.1) p.1)
          | inr l ↦ elim l [
            | inl q ↦ absurd (access_other c (access_range c q.1) p.1)
            | inr q ↦ omega (arith, p.0, q.0)
          ]
        ]
      ]
    ]

pub record First (n : ℕ) (s : List ℕ) : Type 0 where
  pub c : ℕ
  pub occurs : Stands n c
  pub starts : Starts c s

first-other : {A : Format} (b : ℕ) (s : List ℕ) → IsOther b → (byte b then A) s → First b s
first-other b s other h = record { c = b; occurs = inr (inr (refl, other)); starts = byte_starts b s h }

pub first_of : (Body : List Instr → Format) (layer : Instr-F Instr) (s : List ℕ) → instr_over Body layer s → First (number layer) s
first_of Body (Instr-F.Plain op) s h =
    elim h [
      | inl bare ↦ record { c = op; occurs = inl (refl, inl bare.0); starts = ([], bare.1) }
      | inr memory ↦ record { c = op; occurs = inl (refl, inr memory.0); starts = byte_starts op s memory.1 }
    ]
first_of Body (Instr-F.Memory op align offset) s h = record { c = op; occurs = inr (inl (refl, h.0)); starts = byte_starts op s h.1 }
first_of Body (Instr-F.If t branches) s h =
    elim h [
      | inl one ↦ first-other 0x04 s (inl (omega arith, omega arith)) one.1
      | inr both ↦ first-other 0x04 s (inl (omega arith, omega arith)) both
    ]
first_of Body (Instr-F.Block t body) s h = first-other 0x02 s (inl (omega arith, omega arith)) h
first_of Body (Instr-F.Loop t body) s h = first-other 0x03 s (inl (omega arith, omega arith)) h
first_of Body (Instr-F.Br l) s h = first-other 0x0c s (inl (omega arith, omega arith)) h
first_of Body (Instr-F.BrIf l) s h = first-other 0x0d s (inl (omega arith, omega arith)) h
first_of Body (Instr-F.BrTable table) s h = first-other 0x0e s (inl (omega arith, omega arith)) h
first_of Body (Instr-F.Call x) s h = first-other 0x10 s (inr (inl (omega arith, omega arith))) h
first_of Body (Instr-F.CallIndirect x) s h = first-other 0x11 s (inr (inl (omega arith, omega arith))) h
first_of Body (Instr-F.LocalGet x) s h = first-other 0x20 s (inr (inr (inl (omega arith, omega arith)))) h
first_of Body (Instr-F.LocalSet x) s h = first-other 0x21 s (inr (inr (inl (omega arith, omega arith)))) h
first_of Body (Instr-F.LocalTee x) s h = first-other 0x22 s (inr (inr (inl (omega arith, omega arith)))) h
first_of Body (Instr-F.GlobalGet x) s h = first-other 0x23 s (inr (inr (inl (omega arith, omega arith)))) h
first_of Body (Instr-F.GlobalSet x) s h = first-other 0x24 s (inr (inr (inl (omega arith, omega arith)))) h
first_of Body (Instr-F.I32Const n) s h = first-other 0x41 s (inr (inr (inr ((omega arith, omega arith))))) h
first_of Body (Instr-F.I64Const n) s h = first-other 0x42 s (inr (inr (inr ((omega arith, omega arith))))) h

-- the first byte decides the kind
same_kind : (Body : List Instr → Format) (layer other : Instr-F Instr) (a b x y : List ℕ) → instr_over Body layer a → instr_over Body other b → a ++ x ≡ b ++ y → number layer ≡ number other
same_kind Body layer other a b x y h k same =
    let f = first_of Body layer a h in
    let g = first_of Body other b k in
    let whole : f.c ∷ f.starts.0 ++ x ≡ g.c ∷ g.starts.0 ++ y = ap (λ (s : List ℕ). s ++ x) (sym f.starts.1) ∙ same ∙ ap (λ (s : List ℕ). s ++ y) g.starts.1 in
    let heads : f.c ≡ g.c = cc in
    occurs-one (number layer) (number other) g.c (subst (Stands (number layer)) heads f.occurs) g.occurs

-- an `end` or an `else` comes first
abbrev pub StopsAt : List ℕ → Type 0
StopsAt s = Starts 0x0b s ⊎ Starts 0x05 s

occurs-stop : (n c : ℕ) → (c ≡ 0x0b) ⊎ (c ≡ 0x05) → Stands n c → (n ≡ c) × IsOther c
occurs-stop n c stop h =
    elim h [
      | inl p ↦ absurd (elim stop [ inl e ↦ plain_other c (plain_range c p.1) (inl (omega arith, omega arith)) | inr e ↦ plain_other c (plain_range c p.1) (inl (omega arith, omega arith)) ])
      | inr r ↦ elim r [
        | inl p ↦ absurd (elim stop [ inl e ↦ access_other c (access_range c p.1) (inl (omega arith, omega arith)) | inr e ↦ access_other c (access_range c p.1) (inl (omega arith, omega arith)) ])
        | inr p ↦ p
      ]
    ]

-- no kind of instruction has the number of an `end` or an `else`
number-stop : (layer : Instr-F Instr) → (number layer ≡ 0x0b) ⊎ (number layer ≡ 0x05) → ⊥
number-stop (Instr-F.Plain op) h = elim h [ inl e ↦ omega (arith, e) | inr e ↦ omega (arith, e) ]
number-stop (Instr-F.Memory op align offset) h = elim h [ inl e ↦ omega (arith, e) | inr e ↦ omega (arith, e) ]
number-stop (Instr-F.Block t body) h = elim h [ inl e ↦ omega (arith, e) | inr e ↦ omega (arith, e) ]
number-stop (Instr-F.Loop t body) h = elim h [ inl e ↦ omega (arith, e) | inr e ↦ omega (arith, e) ]
number-stop (Instr-F.If t branches) h = elim h [ inl e ↦ omega (arith, e) | inr e ↦ omega (arith, e) ]
number-stop (Instr-F.Br l) h = elim h [ inl e ↦ omega (arith, e) | inr e ↦ omega (arith, e) ]
number-stop (Instr-F.BrIf l) h = elim h [ inl e ↦ omega (arith, e) | inr e ↦ omega (arith, e) ]
number-stop (Instr-F.BrTable table) h = elim h [ inl e ↦ omega (arith, e) | inr e ↦ omega (arith, e) ]
number-stop (Instr-F.Call x) h = elim h [ inl e ↦ omega (arith, e) | inr e ↦ omega (arith, e) ]
number-stop (Instr-F.CallIndirect x) h = elim h [ inl e ↦ omega (arith, e) | inr e ↦ omega (arith, e) ]
number-stop (Instr-F.LocalGet x) h = elim h [ inl e ↦ omega (arith, e) | inr e ↦ omega (arith, e) ]
number-stop (Instr-F.LocalSet x) h = elim h [ inl e ↦ omega (arith, e) | inr e ↦ omega (arith, e) ]
number-stop (Instr-F.LocalTee x) h = elim h [ inl e ↦ omega (arith, e) | inr e ↦ omega (arith, e) ]
number-stop (Instr-F.GlobalGet x) h = elim h [ inl e ↦ omega (arith, e) | inr e ↦ omega (arith, e) ]
number-stop (Instr-F.GlobalSet x) h = elim h [ inl e ↦ omega (arith, e) | inr e ↦ omega (arith, e) ]
number-stop (Instr-F.I32Const n) h = elim h [ inl e ↦ omega (arith, e) | inr e ↦ omega (arith, e) ]
number-stop (Instr-F.I64Const n) h = elim h [ inl e ↦ omega (arith, e) | inr e ↦ omega (arith, e) ]

pub layer-goes_on : (Body : List Instr → Format) (layer : Instr-F Instr) (s x : List ℕ) → instr_over Body layer s → StopsAt (s ++ x) → ⊥
layer-goes_on Body layer s x h stops =
    let f = first_of Body layer s h in
    let starts : Starts f.c (s ++ x) = (f.starts.0 ++ x, ap (λ (l : List ℕ). l ++ x) f.starts.1) in
    elim stops [
      | inl end ↦
          let is : f.c ≡ 0x0b = starts-one f.c 0x0b (s ++ x) starts end in
          let both = occurs-stop (number layer) f.c (inl is) f.occurs in
          number-stop layer (inl (both.0 ∙ is))
      | inr els ↦
          let is : f.c ≡ 0x05 = starts-one f.c 0x05 (s ++ x) starts els in
          let both = occurs-stop (number layer) f.c (inr is) f.occurs in
          number-stop layer (inr (both.0 ∙ is))
    ]

-- ---- instructions one after another

-- up to an `end` or an `else`, no spelling begins another's
pub record IsOneUpTo {V : Type 0} (B : V → Format) : Type 0 where
  pub one : (v w : V) (a b x y : List ℕ) → B v a → B w b → StopsAt x → StopsAt y → a ++ x ≡ b ++ y → (a ≡ b) × (v ≡ w)

pub record GoesOn {V : Type 0} (B : V → Format) : Type 0 where
  pub never : (v : V) (s x : List ℕ) → B v s → StopsAt (s ++ x) → ⊥

each-up_to : {V : Type 0} {B : V → Format} → IsOne B → GoesOn B → (vs ws : List V) (a b x y : List ℕ) → each B vs a → each B ws b → StopsAt x → StopsAt y → a ++ x ≡ b ++ y → (a ≡ b) × (vs ≡ ws)
each-up_to one_B goes_on [] [] a b x y h k stops stop same = (h ∙ sym k, refl)
each-up_to one_B goes_on [] (w ∷ ws) a b x y h k stops stop same =
    let whole : x ≡ k.0 ++ (k.1 ++ y) = ap (λ (s : List ℕ). s ++ x) (sym h) ∙ same ∙ ap (λ (s : List ℕ). s ++ y) k.2 ∙ append_assoc k.0 k.1 y in
    absurd (goes_on.never w k.0 (k.1 ++ y) k.3 (subst StopsAt whole stops))
each-up_to one_B goes_on (v ∷ vs) [] a b x y h k stops stop same =
    let whole : y ≡ h.0 ++ (h.1 ++ x) = ap (λ (s : List ℕ). s ++ y) (sym k) ∙ sym same ∙ ap (λ (s : List ℕ). s ++ x) h.2 ∙ append_assoc h.0 h.1 x in
    absurd (goes_on.never v h.0 (h.1 ++ x) h.3 (subst StopsAt whole stop))
each-up_to one_B goes_on (v ∷ vs) (w ∷ ws) a b x y h k stops stop same =
    let f : List ℕ = h.0 in
    let g : List ℕ = h.1 in
    let d : List ℕ = k.0 in
    let e : List ℕ = k.1 in
    let whole : f ++ (g ++ x) ≡ d ++ (e ++ y) = sym (append_assoc f g x) ∙ ap (λ (s : List ℕ). s ++ x) (sym h.2) ∙ same ∙ ap (λ (s : List ℕ). s ++ y) k.2 ∙ append_assoc d e y in
    let first = one_B.one v w f d (g ++ x) (e ++ y) h.3 k.3 whole in
    let second = each-up_to one_B goes_on vs ws g e x y h.4 k.4 stops stop (same_back f d (g ++ x) (e ++ y) first.0 whole) in
    let fronts : f ≡ d = first.0 in
    let backs : g ≡ e = second.0 in
    let joined : f ++ g ≡ d ++ e = cc in
    let heads : v ≡ w = first.1 in
    let tails : vs ≡ ws = second.1 in
    (h.2 ∙ joined ∙ sym k.2, cc)

pub one-each : {V : Type 0} {B : V → Format} → IsOne B → GoesOn B → IsOneUpTo (each B)
one-each one_B goes_on = record { one = λ vs ws a b x y h k stops stop same. each-up_to one_B goes_on vs ws a b x y h k stops stop same }

-- what is one up to an `end` or an `else`, and after it what begins with one
pub one-stopped : {U V : Type 0} {A : U → Format} {B : V → Format} → IsOneUpTo A → IsOne B → ((v : V) (s x : List ℕ) → B v s → StopsAt (s ++ x)) → IsOne (pair A B)
one-stopped one_A one_B stops = record {
  one = λ v w a b x y h k same.
      let f : List ℕ = h.0 in
      let g : List ℕ = h.1 in
      let d : List ℕ = k.0 in
      let e : List ℕ = k.1 in
      let whole : f ++ (g ++ x) ≡ d ++ (e ++ y) = sym (append_assoc f g x) ∙ ap (λ (s : List ℕ). s ++ x) (sym h.2) ∙ same ∙ ap (λ (s : List ℕ). s ++ y) k.2 ∙ append_assoc d e y in
      let first = one_A.one v.0 w.0 f d (g ++ x) (e ++ y) h.3 k.3 (stops v.1 g x h.4) (stops w.1 e y k.4) whole in
      let second = one_B.one v.1 w.1 g e x y h.4 k.4 (same_back f d (g ++ x) (e ++ y) first.0 whole) in
      let fronts : f ≡ d = first.0 in
      let backs : g ≡ e = second.0 in
      let joined : f ++ g ≡ d ++ e = cc in
      let values : v.0 ≡ w.0 = first.1 in
      let others : v.1 ≡ w.1 = second.1 in
      (h.2 ∙ joined ∙ sym k.2, same_pair v.0 w.0 v.1 w.1 values others);
}

-- what a block holds, and its end
abbrev pub the_end : Unit {0} → Format
the_end _ = byte 0x0b

one-end : IsOne the_end
one-end = record { one = λ v w a b x y h k same. (h ∙ sym k, refl) }

end-stops : (v : Unit {0}) (s x : List ℕ) → the_end v s → StopsAt (s ++ x)
end-stops v s x h = inl (x, ap (λ (l : List ℕ). l ++ x) h)

pub one-body : {Body : List Instr → Format} → IsOneUpTo Body → IsOne (λ (body : List Instr). Body body then byte 0x0b)
one-body {Body = Body} one_Body =
    one-as {P = pair Body the_end} (λ (body : List Instr). (body, tt)) (λ v w same. ap (λ (p : List Instr × Unit {0}). p.0) same) (λ v s h. h) (one-stopped one_Body one-end end-stops)

-- the second branch of a conditional, which may be omitted, and the end
abbrev pub else_end : (List Instr → Format) → List Instr → Format
else_end Body no_branch s = ((no_branch ≡ []) × byte 0x0b s) ⊎ (byte 0x05 then Body no_branch then byte 0x0b) s

else_end-one : {Body : List Instr → Format} → IsOneUpTo Body → (v w : List Instr) (a b x y : List ℕ) → else_end Body v a → else_end Body w b → a ++ x ≡ b ++ y → (a ≡ b) × (v ≡ w)
else_end-one {Body = Body} one_Body v w a b x y h k same =
    elim h [
      | inl p ↦ elim k [
        | inl q ↦ (p.1 ∙ sym q.1, p.0 ∙ sym q.0)
        | inr q ↦
            let f : Starts 0x0b (a ++ x) = (x, ap (λ (l : List ℕ). l ++ x) p.1) in
            let begins = byte_starts 0x05 b q in
            let g : Starts 0x05 (a ++ x) = (begins.0 ++ y, same ∙ ap (λ (l : List ℕ). l ++ y) begins.1) in
            absurd (omega (arith, starts-one 0x0b 0x05 (a ++ x) f g))
      ]
      | inr p ↦ elim k [
        | inl q ↦
            let begins = byte_starts 0x05 a p in
            let f : Starts 0x05 (a ++ x) = (begins.0 ++ x, ap (λ (l : List ℕ). l ++ x) begins.1) in
            let g : Starts 0x0b (a ++ x) = (y, same ∙ ap (λ (l : List ℕ). l ++ y) q.1) in
            absurd (omega (arith, starts-one 0x05 0x0b (a ++ x) f g))
        | inr q ↦ (one-following 0x05 (one-body one_Body)).one v w a b x y p q same
      ]
    ]

else_end-stops : (Body : List Instr → Format) (v : List Instr) (s x : List ℕ) → else_end Body v s → StopsAt (s ++ x)
else_end-stops Body v s x h =
    elim h [
      | inl p ↦ inl (x, ap (λ (l : List ℕ). l ++ x) p.1)
      | inr p ↦ let begins = byte_starts 0x05 s p in inr (begins.0 ++ x, ap (λ (l : List ℕ). l ++ x) begins.1)
    ]

-- a conditional as its type, its first branch, and the rest
pub conditional-parts : (Body : List Instr → Format) (t : Option ValTy) (first second : List Instr) (s : List ℕ) → conditional Body t first second s → (byte 0x04 then pair blocktype (pair Body (else_end Body)) (t, (first, second))) s
conditional-parts Body t first second s h =
    elim h [
      | inl p ↦
          let u = p.1 in
          (u.0, u.1, u.2, u.3, (u.4.0, u.4.1, u.4.2, u.4.3, (u.4.4.0, u.4.4.1, u.4.4.2, u.4.4.3, inl (p.0, u.4.4.4))))
      | inr u ↦ (u.0, u.1, u.2, u.3, (u.4.0, u.4.1, u.4.2, u.4.3, (u.4.4.0, u.4.4.1, u.4.4.2, u.4.4.3, inr u.4.4.4)))
    ]

one-conditional : {Body : List Instr → Format} → IsOneUpTo Body → IsOne (λ (p : Option ValTy × (List Instr × List Instr)). conditional Body p.0 p.1.0 p.1.1)
one-conditional {Body = Body} one_Body =
    one-as {P = λ (p : Option ValTy × (List Instr × List Instr)). byte 0x04 then pair blocktype (pair Body (else_end Body)) p} (λ (p : Option ValTy × (List Instr × List Instr)). p) (λ v w same. same) (λ v s h. conditional-parts Body v.0 v.1.0 v.1.1 s h)
    (one-following 0x04 (one-pair one-blocktype (one-stopped one_Body (record { one = else_end-one one_Body }) (else_end-stops Body))))

-- ---- an instruction

pub memory_bare : (c : ℕ) → IsOfMemory c → IsBare c → ⊥
memory_bare c h k = elim k [ inl ka ↦ omega (arith, h.0, h.1, ka) | inr kb ↦ elim kb [ inl kba ↦ omega (arith, h.0, h.1, kba) | inr kbb ↦ elim kbb [ inl kbba ↦ omega (arith, h.0, h.1, kbba) | inr kbbb ↦ elim kbbb [ inl kbbba ↦ omega (arith, h.0, h.1, kbbba) | inr kbbbb ↦ elim kbbbb [ inl kbbbba ↦ omega (arith, h.0, h.1, kbbbba) | inr kbbbbb ↦ elim kbbbbb [ inl kbbbbba ↦ omega (arith, h.0, h.1, kbbbbba) | inr kbbbbbb ↦ omega (arith, h.0, h.1, kbbbbbb) ] ] ] ] ] ]

plain-one : (v w : ℕ) (a b x y : List ℕ) → plain v a → plain w b → a ++ x ≡ b ++ y → (a ≡ b) × (v ≡ w)
plain-one v w a b x y h k same =
    let one_zero : IsOne (λ (op : ℕ). byte op then byte 0x00) = one-as {P = pair byte byte} (λ (op : ℕ). (op, 0x00)) (λ p q e. ap (λ (z : ℕ × ℕ). z.0) e) (λ p s z. z) (one-pair one-byte one-byte) in
    elim h [
      | inl p ↦ elim k [
        | inl q ↦ one-byte.one v w a b x y p.1 q.1 same
        | inr q ↦
            let begins = byte_starts w b q.1 in
            let heads : v ≡ w = starts-one v w (a ++ x) (x, ap (λ (l : List ℕ). l ++ x) p.1) (begins.0 ++ y, same ∙ ap (λ (l : List ℕ). l ++ y) begins.1) in
            absurd (memory_bare w q.0 (subst IsBare heads p.0))
      ]
      | inr p ↦ elim k [
        | inl q ↦
            let begins = byte_starts v a p.1 in
            let heads : v ≡ w = starts-one v w (a ++ x) (begins.0 ++ x, ap (λ (l : List ℕ). l ++ x) begins.1) (y, same ∙ ap (λ (l : List ℕ). l ++ y) q.1) in
            absurd (memory_bare v p.0 (subst IsBare (sym heads) q.0))
        | inr q ↦ one_zero.one v w a b x y p.1 q.1 same
      ]
    ]

layers-one : {Body : List Instr → Format} → IsOneUpTo Body → (layer other : Instr-F Instr) (a b x y : List ℕ) → instr_over Body layer a → instr_over Body other b → a ++ x ≡ b ++ y → (a ≡ b) × (layer ≡ other)
layers-one {Body = Body} one_Body (Instr-F.Plain v) (Instr-F.Plain w) a b x y h k same =
    let both = plain-one v w a b x y h k same in
    (both.0, ap (λ (n : ℕ). Instr-F.Plain n) both.1)
layers-one {Body = Body} one_Body (Instr-F.Block t v) (Instr-F.Block u w) a b x y h k same =
    let both = (one-following 0x02 (one-pair one-blocktype (one-body one_Body))).one (t, v) (u, w) a b x y h k same in
    (both.0, ap (λ (p : Option ValTy × List Instr). Instr-F.Block p.0 p.1) both.1)
layers-one {Body = Body} one_Body (Instr-F.Loop t v) (Instr-F.Loop u w) a b x y h k same =
    let both = (one-following 0x03 (one-pair one-blocktype (one-body one_Body))).one (t, v) (u, w) a b x y h k same in
    (both.0, ap (λ (p : Option ValTy × List Instr). Instr-F.Loop p.0 p.1) both.1)
layers-one {Body = Body} one_Body (Instr-F.If t v) (Instr-F.If u w) a b x y h k same =
    let both = (one-conditional one_Body).one (t, v) (u, w) a b x y h k same in
    (both.0, ap (λ (p : Option ValTy × (List Instr × List Instr)). Instr-F.If p.0 p.1) both.1)
layers-one {Body = Body} one_Body (Instr-F.Br v) (Instr-F.Br w) a b x y h k same =
    let both = (one-following 0x0c one-u32).one v w a b x y h k same in
    (both.0, ap (λ (n : ℕ). Instr-F.Br n) both.1)
layers-one {Body = Body} one_Body (Instr-F.BrIf v) (Instr-F.BrIf w) a b x y h k same =
    let both = (one-following 0x0d one-u32).one v w a b x y h k same in
    (both.0, ap (λ (n : ℕ). Instr-F.BrIf n) both.1)
layers-one {Body = Body} one_Body (Instr-F.Call v) (Instr-F.Call w) a b x y h k same =
    let both = (one-following 0x10 one-u32).one v w a b x y h k same in
    (both.0, ap (λ (n : ℕ). Instr-F.Call n) both.1)
layers-one {Body = Body} one_Body (Instr-F.LocalGet v) (Instr-F.LocalGet w) a b x y h k same =
    let both = (one-following 0x20 one-u32).one v w a b x y h k same in
    (both.0, ap (λ (n : ℕ). Instr-F.LocalGet n) both.1)
layers-one {Body = Body} one_Body (Instr-F.LocalSet v) (Instr-F.LocalSet w) a b x y h k same =
    let both = (one-following 0x21 one-u32).one v w a b x y h k same in
    (both.0, ap (λ (n : ℕ). Instr-F.LocalSet n) both.1)
layers-one {Body = Body} one_Body (Instr-F.LocalTee v) (Instr-F.LocalTee w) a b x y h k same =
    let both = (one-following 0x22 one-u32).one v w a b x y h k same in
    (both.0, ap (λ (n : ℕ). Instr-F.LocalTee n) both.1)
layers-one {Body = Body} one_Body (Instr-F.GlobalGet v) (Instr-F.GlobalGet w) a b x y h k same =
    let both = (one-following 0x23 one-u32).one v w a b x y h k same in
    (both.0, ap (λ (n : ℕ). Instr-F.GlobalGet n) both.1)
layers-one {Body = Body} one_Body (Instr-F.GlobalSet v) (Instr-F.GlobalSet w) a b x y h k same =
    let both = (one-following 0x24 one-u32).one v w a b x y h k same in
    (both.0, ap (λ (n : ℕ). Instr-F.GlobalSet n) both.1)
layers-one {Body = Body} one_Body (Instr-F.I32Const v) (Instr-F.I32Const w) a b x y h k same =
    let both = (one-following 0x41 one-i32).one v w a b x y h k same in
    (both.0, ap (λ (n : ℕ). Instr-F.I32Const n) both.1)
layers-one {Body = Body} one_Body (Instr-F.I64Const v) (Instr-F.I64Const w) a b x y h k same =
    let both = (one-following 0x42 one-i64).one v w a b x y h k same in
    (both.0, ap (λ (n : ℕ). Instr-F.I64Const n) both.1)
layers-one {Body = Body} one_Body (Instr-F.BrTable v) (Instr-F.BrTable w) a b x y h k same =
    let both = (one-following 0x0e (one-pair (one-vec one-u32) one-u32)).one v w a b x y h k same in
    (both.0, ap (λ (p : List ℕ × ℕ). Instr-F.BrTable p) both.1)
layers-one {Body = Body} one_Body (Instr-F.CallIndirect v) (Instr-F.CallIndirect w) a b x y h k same =
    let both = (one-following 0x11 (one-pair one-u32 one-byte)).one (v, 0x00) (w, 0x00) a b x y h k same in
    (both.0, ap (λ (p : ℕ × ℕ). Instr-F.CallIndirect p.0) both.1)
layers-one {Body = Body} one_Body (Instr-F.Memory op v z) (Instr-F.Memory op2 w o) a b x y h k same =
    let both = (one-pair one-byte (one-pair one-u32 one-u32)).one (op, (v, z)) (op2, (w, o)) a b x y h.1 k.1 same in
    (both.0, ap (λ (p : ℕ × (ℕ × ℕ)). Instr-F.Memory p.0 p.1.0 p.1.1) both.1)
layers-one {Body = Body} one_Body layer other a b x y h k same =
    let kinds : number layer ≡ number other = same_kind Body layer other a b x y h k same in
    absurd (omega (arith, kinds))

pub instr-goes_on : (levels : ℕ) → GoesOn (instr levels)
unfolding instr
instr-goes_on zero = record { never = λ v s x h stops. layer-goes_on (λ body bytes. ⊥) (out-Instr v) s x h stops }
instr-goes_on (suc levels) = record { never = λ v s x h stops. layer-goes_on (each (instr levels)) (out-Instr v) s x h stops }

pub instr-one : (levels : ℕ) → IsOne (instr levels)
unfolding instr
instr-one zero = record {
  one = λ v w a b x y h k same.
      let both = layers-one {Body = λ body bytes. ⊥} (record { one = λ p q c d e f no. absurd no }) (out-Instr v) (out-Instr w) a b x y h k same in
      (both.0, sym (roll-out-Instr v) ∙ ap roll-Instr both.1 ∙ roll-out-Instr w);
}
instr-one (suc levels) = record {
  one = λ v w a b x y h k same.
      let both = layers-one {Body = each (instr levels)} (one-each (instr-one levels) (instr-goes_on levels)) (out-Instr v) (out-Instr w) a b x y h k same in
      (both.0, sym (roll-out-Instr v) ∙ ap roll-Instr both.1 ∙ roll-out-Instr w);
}

-- the body of a function
pub one-expr : IsOne expr
one-expr = one-body (one-each (instr-one max_nesting) (instr-goes_on max_nesting))
