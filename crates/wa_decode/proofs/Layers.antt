-- Instructions whose opcode was read, by what follows it.
use Rattle.std.proofs.Common.{◌≡◌, ℕ, zero, suc, ◌<◌, ◌≤◌, ◌⊎◌, List, [], ◌∷◌, ◌++◌, length, slice_range, refl, sym, ap, subst, ◌∙◌, inl, inr, arith}
use Rattle.std.proofs.lemmas.Bool.{cases_lt}
use Rattle.std.proofs.lemmas.List.{append-nil}
use Rattle.std.specs.Prelude.{Ok, Err}
use Rattle.wa_syntax.specs.declared.instr.Instr.{Instr, out-Instr}
use Rattle.wa_syntax.specs.declared.instr.Instr.TheOpen.{Instr-F}
use Rattle.wa_syntax.specs.declared.instr.Instr.TheViews.{roll-Instr, roll-out-Instr, out-roll-Instr}
use Rattle.wa_syntax.specs.BinaryInstructions.{IsBare, IsOfMemory, IsAccess, instr_over, instr}
use Rattle.wa_syntax.specs.Formats.{Format, ◌then◌, exactly, each, vec, byte, u32, i32, i64}
use Rattle.wa_decode.specs.declared.fault.DecodeFault.{DecodeFault}
use Rattle.wa_decode.specs.declared.fault.DecodeFault.TheVariants.{Malformed}
use Rattle.wa_decode.specs.Reading.{Spelled, Reads, Passes, following}
use Rattle.wa_decode.proofs.Arms.{Arm}
use Rattle.wa_decode.proofs.OneInstruction.{number, IsOther, IsPlain, Stands, occurs-one, first_of, memory_bare, access_range, plain_range, plain_access}
use Rattle.wa_decode.proofs.Places.{none_here, none_only, split}
use Rattle.wa_decode.proofs.Reading.{pair, same_read, none_read, nothing, as-ok, as-err}
use Rattle.wa_decode.proofs.Tails.{Starts, starts-one, byte_starts}

-- ---- after a byte that was read

rest_of : {A : Format} (b : ℕ) (s : List ℕ) → (byte b then A) (b ∷ s) → A s
rest_of {A = A} b s h =
    let whole : b ∷ s ≡ b ∷ h.1 = h.2 ∙ ap (λ (front : List ℕ). front ++ h.1) h.3 in
    let same : s ≡ h.1 = cc in
    subst A (sym same) h.4

-- after a first byte that is known to be another name of it
pub behind_byte : {A : Format} (b op : ℕ) (s : List ℕ) → (byte b then A) (op ∷ s) → A s
behind_byte {A = A} b op s h =
    let whole : op ∷ s ≡ b ∷ h.1 = h.2 ∙ ap (λ (front : List ℕ). front ++ h.1) h.3 in
    let same : s ≡ h.1 = cc in
    subst A (sym same) h.4

with_first : {A : Format} (b : ℕ) (s : List ℕ) → A s → (byte b then A) (b ∷ s)
with_first b s h = (b ∷ [], s, refl, refl, h)

pub following-ok : {U V : Type 0} {F : V → Format} {A : U → Format} {bytes : List ℕ} {at end op : ℕ} {u : U} (b : ℕ) (con : U → V) → Arm F A b con → op ≡ b → Reads A bytes at (Ok (u, end)) → Reads (following op F) bytes at (Ok (con u, end))
following-ok {F = F} {bytes = bytes} {at = at} {end = end} {op = op} {u = u} b con arm is read = record {
  found = record {
    forward = read.found.forward;
    within = read.found.within;
    spelling = subst (λ (c : ℕ). F (con u) (c ∷ slice_range bytes at end)) (sym is) (arm.into u (b ∷ slice_range bytes at end) (with_first b (slice_range bytes at end) read.found.spelling));
  };
  complete = λ w to s.
      let only = arm.only w (b ∷ slice_range bytes at to) (subst (λ (c : ℕ). F w (c ∷ slice_range bytes at to)) is s.spelling) (slice_range bytes at to, refl) in
      let same = same_read {end = to} {w = only.0} read (record { forward = s.forward; within = s.within; spelling = rest_of b (slice_range bytes at to) only.2 }) in
      (ap con same.0 ∙ sym only.1, same.1);
}

pub following-err : {U V : Type 0} {F : V → Format} {A : U → Format} {bytes : List ℕ} {at op : ℕ} {e : DecodeFault} (b : ℕ) (con : U → V) → Arm F A b con → op ≡ b → Reads A bytes at (Err e) → Reads (following op F) bytes at (Err e)
following-err {F = F} {bytes = bytes} {at = at} b con arm is read = record {
  found = tt;
  complete = λ w to s.
      let only = arm.only w (b ∷ slice_range bytes at to) (subst (λ (c : ℕ). F w (c ∷ slice_range bytes at to)) is s.spelling) (slice_range bytes at to, refl) in
      none_read {end = to} {w = only.0} read (record { forward = s.forward; within = s.within; spelling = rest_of b (slice_range bytes at to) only.2 });
}

-- ---- each kind of instruction

pub kind_of : (Body : List Instr → Format) (layer : Instr-F Instr) (n b : ℕ) (s : List ℕ) → Stands n b → instr_over Body layer s → Starts b s → number layer ≡ n
kind_of Body layer n b s occurs h starts =
    let f = first_of Body layer s h in
    let is : f.c ≡ b = starts-one f.c b s f.starts starts in
    occurs-one (number layer) n b (subst (Stands (number layer)) is f.occurs) occurs

only-Br : (Body : List Instr → Format) (layer : Instr-F Instr) (s : List ℕ) → instr_over Body layer s → Starts 0x0c s → (u : ℕ) × (layer ≡ Instr-F.Br u) × (byte 0x0c then u32 u) s
only-Br Body (Instr-F.Br l) s h starts = (l, refl, h)
only-Br Body layer s h starts = absurd (omega (arith, kind_of Body layer 0x0c 0x0c s (inr (inr (refl, inl (omega arith, omega arith)))) h starts))

pub arm-Br : (Body : List Instr → Format) → Arm (instr_over Body) u32 0x0c (λ (u : ℕ). Instr-F.Br u)
arm-Br Body = record { into = λ u s h. h; only = only-Br Body }

only-BrIf : (Body : List Instr → Format) (layer : Instr-F Instr) (s : List ℕ) → instr_over Body layer s → Starts 0x0d s → (u : ℕ) × (layer ≡ Instr-F.BrIf u) × (byte 0x0d then u32 u) s
only-BrIf Body (Instr-F.BrIf l) s h starts = (l, refl, h)
only-BrIf Body layer s h starts = absurd (omega (arith, kind_of Body layer 0x0d 0x0d s (inr (inr (refl, inl (omega arith, omega arith)))) h starts))

pub arm-BrIf : (Body : List Instr → Format) → Arm (instr_over Body) u32 0x0d (λ (u : ℕ). Instr-F.BrIf u)
arm-BrIf Body = record { into = λ u s h. h; only = only-BrIf Body }

only-BrTable : (Body : List Instr → Format) (layer : Instr-F Instr) (s : List ℕ) → instr_over Body layer s → Starts 0x0e s → (u : List ℕ × ℕ) × (layer ≡ Instr-F.BrTable u) × (byte 0x0e then (pair (vec u32) u32) u) s
only-BrTable Body (Instr-F.BrTable table) s h starts = (table, refl, h)
only-BrTable Body layer s h starts = absurd (omega (arith, kind_of Body layer 0x0e 0x0e s (inr (inr (refl, inl (omega arith, omega arith)))) h starts))

pub arm-BrTable : (Body : List Instr → Format) → Arm (instr_over Body) (pair (vec u32) u32) 0x0e (λ (u : List ℕ × ℕ). Instr-F.BrTable u)
arm-BrTable Body = record { into = λ u s h. h; only = only-BrTable Body }

only-Call : (Body : List Instr → Format) (layer : Instr-F Instr) (s : List ℕ) → instr_over Body layer s → Starts 0x10 s → (u : ℕ) × (layer ≡ Instr-F.Call u) × (byte 0x10 then u32 u) s
only-Call Body (Instr-F.Call x) s h starts = (x, refl, h)
only-Call Body layer s h starts = absurd (omega (arith, kind_of Body layer 0x10 0x10 s (inr (inr (refl, inr (inl (omega arith, omega arith))))) h starts))

pub arm-Call : (Body : List Instr → Format) → Arm (instr_over Body) u32 0x10 (λ (u : ℕ). Instr-F.Call u)
arm-Call Body = record { into = λ u s h. h; only = only-Call Body }

only-LocalGet : (Body : List Instr → Format) (layer : Instr-F Instr) (s : List ℕ) → instr_over Body layer s → Starts 0x20 s → (u : ℕ) × (layer ≡ Instr-F.LocalGet u) × (byte 0x20 then u32 u) s
only-LocalGet Body (Instr-F.LocalGet x) s h starts = (x, refl, h)
only-LocalGet Body layer s h starts = absurd (omega (arith, kind_of Body layer 0x20 0x20 s (inr (inr (refl, inr (inr (inl (omega arith, omega arith)))))) h starts))

pub arm-LocalGet : (Body : List Instr → Format) → Arm (instr_over Body) u32 0x20 (λ (u : ℕ). Instr-F.LocalGet u)
arm-LocalGet Body = record { into = λ u s h. h; only = only-LocalGet Body }

only-LocalSet : (Body : List Instr → Format) (layer : Instr-F Instr) (s : List ℕ) → instr_over Body layer s → Starts 0x21 s → (u : ℕ) × (layer ≡ Instr-F.LocalSet u) × (byte 0x21 then u32 u) s
only-LocalSet Body (Instr-F.LocalSet x) s h starts = (x, refl, h)
only-LocalSet Body layer s h starts = absurd (omega (arith, kind_of Body layer 0x21 0x21 s (inr (inr (refl, inr (inr (inl (omega arith, omega arith)))))) h starts))

pub arm-LocalSet : (Body : List Instr → Format) → Arm (instr_over Body) u32 0x21 (λ (u : ℕ). Instr-F.LocalSet u)
arm-LocalSet Body = record { into = λ u s h. h; only = only-LocalSet Body }

only-LocalTee : (Body : List Instr → Format) (layer : Instr-F Instr) (s : List ℕ) → instr_over Body layer s → Starts 0x22 s → (u : ℕ) × (layer ≡ Instr-F.LocalTee u) × (byte 0x22 then u32 u) s
only-LocalTee Body (Instr-F.LocalTee x) s h starts = (x, refl, h)
only-LocalTee Body layer s h starts = absurd (omega (arith, kind_of Body layer 0x22 0x22 s (inr (inr (refl, inr (inr (inl (omega arith, omega arith)))))) h starts))

pub arm-LocalTee : (Body : List Instr → Format) → Arm (instr_over Body) u32 0x22 (λ (u : ℕ). Instr-F.LocalTee u)
arm-LocalTee Body = record { into = λ u s h. h; only = only-LocalTee Body }

only-GlobalGet : (Body : List Instr → Format) (layer : Instr-F Instr) (s : List ℕ) → instr_over Body layer s → Starts 0x23 s → (u : ℕ) × (layer ≡ Instr-F.GlobalGet u) × (byte 0x23 then u32 u) s
only-GlobalGet Body (Instr-F.GlobalGet x) s h starts = (x, refl, h)
only-GlobalGet Body layer s h starts = absurd (omega (arith, kind_of Body layer 0x23 0x23 s (inr (inr (refl, inr (inr (inl (omega arith, omega arith)))))) h starts))

pub arm-GlobalGet : (Body : List Instr → Format) → Arm (instr_over Body) u32 0x23 (λ (u : ℕ). Instr-F.GlobalGet u)
arm-GlobalGet Body = record { into = λ u s h. h; only = only-GlobalGet Body }

only-GlobalSet : (Body : List Instr → Format) (layer : Instr-F Instr) (s : List ℕ) → instr_over Body layer s → Starts 0x24 s → (u : ℕ) × (layer ≡ Instr-F.GlobalSet u) × (byte 0x24 then u32 u) s
only-GlobalSet Body (Instr-F.GlobalSet x) s h starts = (x, refl, h)
only-GlobalSet Body layer s h starts = absurd (omega (arith, kind_of Body layer 0x24 0x24 s (inr (inr (refl, inr (inr (inl (omega arith, omega arith)))))) h starts))

pub arm-GlobalSet : (Body : List Instr → Format) → Arm (instr_over Body) u32 0x24 (λ (u : ℕ). Instr-F.GlobalSet u)
arm-GlobalSet Body = record { into = λ u s h. h; only = only-GlobalSet Body }

only-I32Const : (Body : List Instr → Format) (layer : Instr-F Instr) (s : List ℕ) → instr_over Body layer s → Starts 0x41 s → (u : ℕ) × (layer ≡ Instr-F.I32Const u) × (byte 0x41 then i32 u) s
only-I32Const Body (Instr-F.I32Const n) s h starts = (n, refl, h)
only-I32Const Body layer s h starts = absurd (omega (arith, kind_of Body layer 0x41 0x41 s (inr (inr (refl, inr (inr (inr ((omega arith, omega arith))))))) h starts))

pub arm-I32Const : (Body : List Instr → Format) → Arm (instr_over Body) i32 0x41 (λ (u : ℕ). Instr-F.I32Const u)
arm-I32Const Body = record { into = λ u s h. h; only = only-I32Const Body }

only-I64Const : (Body : List Instr → Format) (layer : Instr-F Instr) (s : List ℕ) → instr_over Body layer s → Starts 0x42 s → (u : ℕ) × (layer ≡ Instr-F.I64Const u) × (byte 0x42 then i64 u) s
only-I64Const Body (Instr-F.I64Const n) s h starts = (n, refl, h)
only-I64Const Body layer s h starts = absurd (omega (arith, kind_of Body layer 0x42 0x42 s (inr (inr (refl, inr (inr (inr ((omega arith, omega arith))))))) h starts))

pub arm-I64Const : (Body : List Instr → Format) → Arm (instr_over Body) i64 0x42 (λ (u : ℕ). Instr-F.I64Const u)
arm-I64Const Body = record { into = λ u s h. h; only = only-I64Const Body }

only-CallIndirect : (Body : List Instr → Format) (layer : Instr-F Instr) (s : List ℕ) → instr_over Body layer s → Starts 0x11 s → (u : ℕ) × (layer ≡ Instr-F.CallIndirect u) × (byte 0x11 then (λ (x : ℕ). u32 x then byte 0x00) u) s
only-CallIndirect Body (Instr-F.CallIndirect x) s h starts = (x, refl, h)
only-CallIndirect Body layer s h starts = absurd (omega (arith, kind_of Body layer 0x11 0x11 s (inr (inr (refl, inr (inl (omega arith, omega arith))))) h starts))

pub arm-CallIndirect : (Body : List Instr → Format) → Arm (instr_over Body) (λ (x : ℕ). u32 x then byte 0x00) 0x11 (λ (u : ℕ). Instr-F.CallIndirect u)
arm-CallIndirect Body = record { into = λ u s h. h; only = only-CallIndirect Body }

-- ---- instructions that are their opcode alone, or their opcode and a zero byte

-- no bytes, as a value of its own
abbrev pub no_more : Unit {0} → Format
no_more _ = exactly []

abbrev pub zero_more : Unit {0} → Format
zero_more _ = byte 0x00

pub into-plain : (op : ℕ) (s : List ℕ) → (byte op then exactly []) s → byte op s
into-plain op s h = h.2 ∙ ap (λ (front : List ℕ). front ++ h.1) h.3 ∙ ap (λ (back : List ℕ). op ∷ back) h.4

only-bare : (Body : List Instr → Format) (op : ℕ) → IsBare op → (layer : Instr-F Instr) (s : List ℕ) → instr_over Body layer s → Starts op s → (u : Unit {0}) × (layer ≡ Instr-F.Plain op) × (byte op then no_more u) s
only-bare Body op bare (Instr-F.Plain other) s h starts =
    elim h [
      | inl p ↦
          let same : other ≡ op = starts-one other op s ([], p.1) starts in
          (tt, ap (λ (c : ℕ). Instr-F.Plain c) same, (op ∷ [], [], p.1 ∙ ap (λ (c : ℕ). c ∷ []) same, refl, refl))
      | inr p ↦
          let same : other ≡ op = starts-one other op s (byte_starts other s p.1) starts in
          absurd (memory_bare op (subst IsOfMemory same p.0) bare)
    ]
only-bare Body op bare layer s h starts = absurd (omega (arith, kind_of Body layer 0x100 op s (inl (refl, inl bare)) h starts))

pub arm-bare : (Body : List Instr → Format) (op : ℕ) → IsBare op → Arm (instr_over Body) no_more op (λ (u : Unit {0}). Instr-F.Plain op)
arm-bare Body op bare = record { into = λ u s h. inl (bare, into-plain op s h); only = only-bare Body op bare }

only-memory : (Body : List Instr → Format) (op : ℕ) → IsOfMemory op → (layer : Instr-F Instr) (s : List ℕ) → instr_over Body layer s → Starts op s → (u : Unit {0}) × (layer ≡ Instr-F.Plain op) × (byte op then zero_more u) s
only-memory Body op memory (Instr-F.Plain other) s h starts =
    elim h [
      | inl p ↦
          let same : other ≡ op = starts-one other op s ([], p.1) starts in
          absurd (memory_bare op memory (subst IsBare same p.0))
      | inr p ↦
          let same : other ≡ op = starts-one other op s (byte_starts other s p.1) starts in
          (tt, ap (λ (c : ℕ). Instr-F.Plain c) same, subst (λ (c : ℕ). (byte c then byte 0x00) s) same p.1)
    ]
only-memory Body op memory layer s h starts = absurd (omega (arith, kind_of Body layer 0x100 op s (inl (refl, inr memory)) h starts))

pub arm-memory : (Body : List Instr → Format) (op : ℕ) → IsOfMemory op → Arm (instr_over Body) zero_more op (λ (u : Unit {0}). Instr-F.Plain op)
arm-memory Body op memory = record { into = λ u s h. inr (memory, h); only = only-memory Body op memory }

-- ---- loads and stores

only-access : (Body : List Instr → Format) (op : ℕ) → IsAccess op → (layer : Instr-F Instr) (s : List ℕ) → instr_over Body layer s → Starts op s → (u : ℕ × ℕ) × (layer ≡ Instr-F.Memory op u.0 u.1) × (byte op then pair u32 u32 u) s
only-access Body op is (Instr-F.Memory other align offset) s h starts =
    let same : other ≡ op = starts-one other op s (byte_starts other s h.1) starts in
    ((align, offset), ap (λ (c : ℕ). Instr-F.Memory c align offset) same, subst (λ (c : ℕ). (byte c then u32 align then u32 offset) s) same h.1)
only-access Body op is layer s h starts = absurd (omega (arith, kind_of Body layer 0x101 op s (inr (inl (refl, is))) h starts))

pub arm-access : (Body : List Instr → Format) (op : ℕ) → IsAccess op → Arm (instr_over Body) (pair u32 u32) op (λ (u : ℕ × ℕ). Instr-F.Memory op u.0 u.1)
arm-access Body op is = record { into = λ u s h. (is, h); only = only-access Body op is }

-- ---- opcodes of no instruction

-- where the opcodes of the other instructions are
abbrev pub FixedRange : ℕ → Type 0
FixedRange n =
    ((0x02 ≤ n) × (n ≤ 0x04)) ⊎ ((0x0c ≤ n) × (n ≤ 0x0e)) ⊎ ((0x10 ≤ n) × (n ≤ 0x11)) ⊎ ((0x20 ≤ n) × (n ≤ 0x24)) ⊎ ((0x41 ≤ n) × (n ≤ 0x42)) ⊎ (0x100 ≤ n)

number-range : (layer : Instr-F Instr) → FixedRange (number layer)
number-range (Instr-F.Block t body) = inl (omega arith, omega arith)
number-range (Instr-F.Loop t body) = inl (omega arith, omega arith)
number-range (Instr-F.If t branches) = inl (omega arith, omega arith)
number-range (Instr-F.Br l) = inr (inl (omega arith, omega arith))
number-range (Instr-F.BrIf l) = inr (inl (omega arith, omega arith))
number-range (Instr-F.BrTable table) = inr (inl (omega arith, omega arith))
number-range (Instr-F.Call x) = inr (inr (inl (omega arith, omega arith)))
number-range (Instr-F.CallIndirect x) = inr (inr (inl (omega arith, omega arith)))
number-range (Instr-F.LocalGet x) = inr (inr (inr (inl (omega arith, omega arith))))
number-range (Instr-F.LocalSet x) = inr (inr (inr (inl (omega arith, omega arith))))
number-range (Instr-F.LocalTee x) = inr (inr (inr (inl (omega arith, omega arith))))
number-range (Instr-F.GlobalGet x) = inr (inr (inr (inl (omega arith, omega arith))))
number-range (Instr-F.GlobalSet x) = inr (inr (inr (inl (omega arith, omega arith))))
number-range (Instr-F.I32Const n) = inr (inr (inr (inr (inl (omega arith, omega arith)))))
number-range (Instr-F.I64Const n) = inr (inr (inr (inr (inl (omega arith, omega arith)))))
number-range (Instr-F.Plain op) = inr (inr (inr (inr (inr ((omega arith))))))
number-range (Instr-F.Memory op align offset) = inr (inr (inr (inr (inr ((omega arith))))))

pub no_layer : (Body : List Instr → Format) (op : ℕ) → op < 0x100 → (IsPlain op → ⊥) → (IsAccess op → ⊥) → (FixedRange op → ⊥) → (layer : Instr-F Instr) (s : List ℕ) → instr_over Body layer (op ∷ s) → ⊥
no_layer Body op small plain access fixed layer s h =
    let f = first_of Body layer (op ∷ s) h in
    let is : f.c ≡ op = starts-one f.c op (op ∷ s) f.starts (s, refl) in
    elim f.occurs [
      | inl p ↦ plain (subst IsPlain is p.1)
      | inr r ↦ elim r [
        | inl p ↦ access (subst IsAccess is p.1)
        | inr p ↦ fixed (subst FixedRange (p.0 ∙ is) (number-range layer))
      ]
    ]

pub following-none : {V : Type 0} (F : V → Format) {bytes : List ℕ} {at op : ℕ} → ((w : V) (s : List ℕ) → F w (op ∷ s) → ⊥) → Reads (following op F) bytes at (Err Malformed)
following-none F {bytes = bytes} {at = at} none = nothing (λ w to s. none w (slice_range bytes at to) s.spelling)

-- ---- the number after the opcode

-- the opcodes after which one number comes first
abbrev pub IsIndexed : ℕ → Type 0
IsIndexed n = ((0x0c ≤ n) × (n ≤ 0x0d)) ⊎ ((0x10 ≤ n) × (n ≤ 0x11)) ⊎ ((0x20 ≤ n) × (n ≤ 0x24))

indexed-other : (n : ℕ) → IsIndexed n → IsOther n
indexed-other n h =
    elim h [
      | inl a ↦ inl (omega (arith, a.0), omega (arith, a.1))
      | inr r ↦ elim r [
        | inl a ↦ inr (inl (omega (arith, a.0), omega (arith, a.1)))
        | inr a ↦ inr (inr (inl (omega (arith, a.0), omega (arith, a.1))))
      ]
    ]

indexed-not : (n : ℕ) → IsIndexed n → ((n < 0x0c) ⊎ ((0x0d < n) × (n < 0x10)) ⊎ (0x24 < n)) → ⊥
indexed-not n h out =
    elim h [
      | inl a ↦ elim out [ inl o ↦ omega (arith, a.0, o) | inr p ↦ elim p [ inl o ↦ omega (arith, a.1, o.0) | inr o ↦ omega (arith, a.1, o) ] ]
      | inr r ↦ elim r [
        | inl a ↦ elim out [ inl o ↦ omega (arith, a.0, o) | inr p ↦ elim p [ inl o ↦ omega (arith, a.0, o.1) | inr o ↦ omega (arith, a.1, o) ] ]
        | inr a ↦ elim out [ inl o ↦ omega (arith, a.0, o) | inr p ↦ elim p [ inl o ↦ omega (arith, a.0, o.1) | inr o ↦ omega (arith, a.1, o) ] ]
      ]
    ]

index-of : (Body : List Instr → Format) (layer : Instr-F Instr) (op : ℕ) (s : List ℕ) → IsIndexed (number layer) → instr_over Body layer (op ∷ s) → (u : ℕ) × (back : List ℕ) × (u32 u then exactly back) s
index-of Body (Instr-F.Br l) op s is h =
    let rest = behind_byte 0x0c op s h in
    (l, [], (s, [], sym (append-nil s), rest, refl))
index-of Body (Instr-F.BrIf l) op s is h =
    let rest = behind_byte 0x0d op s h in
    (l, [], (s, [], sym (append-nil s), rest, refl))
index-of Body (Instr-F.Call l) op s is h =
    let rest = behind_byte 0x10 op s h in
    (l, [], (s, [], sym (append-nil s), rest, refl))
index-of Body (Instr-F.LocalGet l) op s is h =
    let rest = behind_byte 0x20 op s h in
    (l, [], (s, [], sym (append-nil s), rest, refl))
index-of Body (Instr-F.LocalSet l) op s is h =
    let rest = behind_byte 0x21 op s h in
    (l, [], (s, [], sym (append-nil s), rest, refl))
index-of Body (Instr-F.LocalTee l) op s is h =
    let rest = behind_byte 0x22 op s h in
    (l, [], (s, [], sym (append-nil s), rest, refl))
index-of Body (Instr-F.GlobalGet l) op s is h =
    let rest = behind_byte 0x23 op s h in
    (l, [], (s, [], sym (append-nil s), rest, refl))
index-of Body (Instr-F.GlobalSet l) op s is h =
    let rest = behind_byte 0x24 op s h in
    (l, [], (s, [], sym (append-nil s), rest, refl))
index-of Body (Instr-F.CallIndirect l) op s is h =
    let rest = behind_byte 0x11 op s h in
    (l, rest.1, (rest.0, rest.1, rest.2, rest.3, refl))
index-of Body (Instr-F.Plain o) op s is h = absurd (indexed-not (number (Instr-F.Plain o)) is (inr (inr (omega arith))))
index-of Body (Instr-F.Block t body) op s is h = absurd (indexed-not (number (Instr-F.Block t body)) is (inl (omega arith)))
index-of Body (Instr-F.Loop t body) op s is h = absurd (indexed-not (number (Instr-F.Loop t body)) is (inl (omega arith)))
index-of Body (Instr-F.If t branches) op s is h = absurd (indexed-not (number (Instr-F.If t branches)) is (inl (omega arith)))
index-of Body (Instr-F.BrTable table) op s is h = absurd (indexed-not (number (Instr-F.BrTable table)) is (inr (inl (omega arith, omega arith))))
index-of Body (Instr-F.Memory o a f) op s is h = absurd (indexed-not (number (Instr-F.Memory o a f)) is (inr (inr (omega arith))))
index-of Body (Instr-F.I32Const n) op s is h = absurd (indexed-not (number (Instr-F.I32Const n)) is (inr (inr (omega arith))))
index-of Body (Instr-F.I64Const n) op s is h = absurd (indexed-not (number (Instr-F.I64Const n)) is (inr (inr (omega arith))))

pub index-err : {bytes : List ℕ} {at op : ℕ} {e : DecodeFault} (Body : List Instr → Format) → IsIndexed op → Reads u32 bytes at (Err e) → Reads (following op (instr_over Body)) bytes at (Err e)
index-err {bytes = bytes} {at = at} {op = op} Body indexed read = record {
  found = tt;
  complete = λ w to s.
      let kind = kind_of Body w op op (op ∷ slice_range bytes at to) (inr (inr (refl, indexed-other op indexed))) s.spelling (slice_range bytes at to, refl) in
      let index = index-of Body w op (slice_range bytes at to) (subst IsIndexed (sym kind) indexed) s.spelling in
      let whole : Spelled (u32 index.0 then exactly index.1) bytes at to = record { forward = s.forward; within = s.within; spelling = index.2 } in
      none_read {w = index.0} read (split whole).first;
}

-- ---- as an instruction, whatever the number of levels

pub instr-from : {bytes : List ℕ} {at end op : ℕ} (Body : List Instr → Format) (layer : Instr-F Instr) (i : Instr) → roll-Instr layer ≡ i → Reads (following op (instr_over Body)) bytes at (Ok (layer, end)) → Reads (following op (λ (j : Instr). instr_over Body (out-Instr j))) bytes at (Ok (i, end))
instr-from {bytes = bytes} {at = at} {end = end} {op = op} Body layer i is h =
    let rolled : Reads (following op (λ (j : Instr). instr_over Body (out-Instr j))) bytes at (Ok (roll-Instr layer, end)) =
    as-ok roll-Instr out-Instr roll-out-Instr (λ v s k. k) (λ k. subst (λ (l : Instr-F Instr). instr_over Body l (op ∷ slice_range bytes at end)) (sym (out-roll-Instr layer)) k) h in
    subst (λ (j : Instr). Reads (following op (λ (k : Instr). instr_over Body (out-Instr k))) bytes at (Ok (j, end))) is rolled

pub instr-ok : {bytes : List ℕ} {at end op : ℕ} (levels : ℕ) (layer : Instr-F Instr) (i : Instr) → roll-Instr layer ≡ i → ((Body : List Instr → Format) → Reads (following op (instr_over Body)) bytes at (Ok (layer, end))) → Reads (following op (instr levels)) bytes at (Ok (i, end))
unfolding instr
instr-ok zero layer i is h = instr-from (λ body bytes. ⊥) layer i is (h (λ body bytes. ⊥))
instr-ok (suc levels) layer i is h = instr-from (each (instr levels)) layer i is (h (each (instr levels)))

pub instr-err : {bytes : List ℕ} {at op : ℕ} {e : DecodeFault} (levels : ℕ) → ((Body : List Instr → Format) → Reads (following op (instr_over Body)) bytes at (Err e)) → Reads (following op (instr levels)) bytes at (Err e)
unfolding instr
instr-err zero h = as-err out-Instr (λ v s k. k) (h (λ body bytes. ⊥))
instr-err (suc levels) h = as-err out-Instr (λ v s k. k) (h (each (instr levels)))

-- ---- no bytes, and a zero byte

pub none-reads : (bytes : List ℕ) (at : ℕ) → at ≤ length bytes → Reads no_more bytes at (Ok (tt, at))
none-reads bytes at within = record { found = none_here bytes at within; complete = λ w to s. (refl, none_only s) }

pub zero-ok : {bytes : List ℕ} {at end : ℕ} → Passes (byte 0x00) bytes at (Ok end) → Reads zero_more bytes at (Ok (tt, end))
zero-ok h = record { found = h.found; complete = λ w to s. (refl, h.complete to s) }

pub zero-err : {bytes : List ℕ} {at : ℕ} {e : DecodeFault} → Passes (byte 0x00) bytes at (Err e) → Reads zero_more bytes at (Err e)
zero-err h = record { found = tt; complete = λ w to s. h.complete to s }

-- ---- which opcodes come to which reader

pub control-indexed : (op : ℕ) → 0x0c ≤ op → op ≤ 0x11 → (op ≡ 0x0e → ⊥) → (IsBare op → ⊥) → IsIndexed op
control-indexed op from to not_table not_bare =
    elim (cases_lt op 0x0e) [
      | inl below ↦ inl (from, omega arith)
      | inr above ↦ elim (cases_lt op 0x10) [
        | inl below ↦ elim (cases_lt op 0x0f) [
          | inl least ↦ absurd (not_table (omega arith))
          | inr is ↦ absurd (not_bare (inr (inl (omega arith))))
        ]
        | inr more ↦ inr (inl (more, to))
      ]
    ]

pub not_indexed : (op : ℕ) → IsIndexed op → op ≤ 0x11 → (op ≡ 0x0c → ⊥) → (op ≡ 0x0d → ⊥) → (op ≡ 0x10 → ⊥) → (op ≡ 0x11 → ⊥) → ⊥
not_indexed op h to a b c d =
    elim h [
      | inl r ↦ elim (cases_lt op 0x0d) [ inl below ↦ a (omega (arith, r.0)) | inr above ↦ b (omega (arith, r.1)) ]
      | inr q ↦ elim q [
        | inl r ↦ elim (cases_lt op 0x11) [ inl below ↦ c (omega (arith, r.0)) | inr above ↦ d (omega (arith, r.1)) ]
        | inr r ↦ omega (arith, r.0)
      ]
    ]

fixed-none : (op : ℕ) → op < 0x100 → (op < 0x02) ⊎ (0x04 < op) → (op < 0x0c) ⊎ (0x11 < op) → (op < 0x20) ⊎ (0x24 < op) → (op ≡ 0x41 → ⊥) → (op ≡ 0x42 → ⊥) → FixedRange op → ⊥
fixed-none op small r q p n m h = elim h [ inl ha ↦ elim r [ inl x ↦ omega (arith, ha.0, x) | inr x ↦ omega (arith, ha.1, x) ] | inr hb ↦ elim hb [ inl hba ↦ elim q [ inl x ↦ omega (arith, hba.0, x) | inr x ↦ omega (arith, hba.1, x) ] | inr hbb ↦ elim hbb [ inl hbba ↦ elim q [ inl x ↦ omega (arith, hbba.0, x) | inr x ↦ omega (arith, hbba.1, x) ] | inr hbbb ↦ elim hbbb [ inl hbbba ↦ elim p [ inl x ↦ omega (arith, hbbba.0, x) | inr x ↦ omega (arith, hbbba.1, x) ] | inr hbbbb ↦ elim hbbbb [ inl hbbbba ↦ elim (cases_lt op 0x42) [ inl x ↦ n (omega (arith, hbbbba.0, x)) | inr x ↦ m (omega (arith, hbbbba.1, x)) ] | inr hbbbbb ↦ omega (arith, hbbbbb, small) ] ] ] ] ]

pub constant-none : (op : ℕ) → op < 0x100 → (op < 0x02) ⊎ (0x04 < op) → (op < 0x0c) ⊎ (0x11 < op) → (op < 0x20) ⊎ (0x24 < op) → (op < 0x28) ⊎ (0x40 < op) → (IsBare op → ⊥) → (op ≡ 0x41 → ⊥) → (op ≡ 0x42 → ⊥) → (Body : List Instr → Format) (layer : Instr-F Instr) (s : List ℕ) → instr_over Body layer (op ∷ s) → ⊥
constant-none op small r q p o bare n m Body =
    no_layer Body op small
    (λ h. elim h [ inl b ↦ bare b | inr a ↦ elim o [ inl x ↦ omega (arith, a.0, x) | inr x ↦ omega (arith, a.1, x) ] ])
    (λ h. let range = access_range op h in elim o [ inl x ↦ omega (arith, range.0, x) | inr x ↦ omega (arith, range.1, x) ])
    (fixed-none op small r q p n m)

memory-fixed : (op : ℕ) → 0x28 ≤ op → op ≤ 0x3e → FixedRange op → ⊥
memory-fixed op from to h = elim h [ inl ha ↦ omega (arith, from, to, ha) | inr hb ↦ elim hb [ inl hba ↦ omega (arith, from, to, hba) | inr hbb ↦ elim hbb [ inl hbba ↦ omega (arith, from, to, hbba) | inr hbbb ↦ elim hbbb [ inl hbbba ↦ omega (arith, from, to, hbbba) | inr hbbbb ↦ elim hbbbb [ inl hbbbba ↦ omega (arith, from, to, hbbbba) | inr hbbbbb ↦ omega (arith, from, to, hbbbbb) ] ] ] ] ]

memory-plain : (op : ℕ) → 0x28 ≤ op → op ≤ 0x3e → IsPlain op → ⊥
memory-plain op from to h = plain_access op (plain_range op h) (from, to)

pub memory-none : (op : ℕ) → 0x28 ≤ op → op ≤ 0x3e → (IsAccess op → ⊥) → (Body : List Instr → Format) (layer : Instr-F Instr) (s : List ℕ) → instr_over Body layer (op ∷ s) → ⊥
memory-none op from to access Body = no_layer Body op (omega (arith, to)) (memory-plain op from to) access (memory-fixed op from to)

pub instr-none : {bytes : List ℕ} {at op : ℕ} (levels : ℕ) → ((Body : List Instr → Format) (layer : Instr-F Instr) (s : List ℕ) → instr_over Body layer (op ∷ s) → ⊥) → Reads (following op (instr levels)) bytes at (Err Malformed)
instr-none levels none = instr-err levels (λ Body. following-none (instr_over Body) (none Body))
