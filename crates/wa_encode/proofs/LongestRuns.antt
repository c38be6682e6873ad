-- Locals in the longest runs: no runs that denote the same locals have fewer bytes.
use Rattle.std.proofs.Common.{◌≡◌, ◌≢◌, ℕ, zero, suc, ◌+◌, ◌-◌, ◌^◌, ◌<◌, ◌≤◌, List, [], ◌∷◌, ◌++◌, length, replicate, refl, sym, ap, subst, ◌∙◌, inl, inr, ◌⊎◌, arith}
use Rattle.std.specs.Prelude.{⊤}
use Rattle.std.proofs.lemmas.Bool.{cases_lt}
use Rattle.std.proofs.lemmas.List.{length-append, length-replicate}
use Rattle.wa_syntax.specs.declared.module.ValTy.{ValTy}
use Rattle.wa_syntax.specs.declared.module.ValTy.TheVariants.{I32, I64}
use Rattle.wa_syntax.specs.declared.locals.LocalRun.{LocalRun}
use Rattle.wa_syntax.specs.Locals.{types_of_runs}
use Rattle.wa_syntax.specs.Formats.{◌then◌, each, vec, u32}
use Rattle.wa_syntax.specs.BinaryInstructions.{valtype}
use Rattle.wa_syntax.specs.Binary.{run, locals}
use Rattle.wa_encode.specs.Spelling.{Adds, AreApart, AreLongest, AreLongestTo, IsJoined}
use Rattle.wa_encode.proofs.Numbers.{shorter, summed}
use Rattle.wa_encode.proofs.Orders.{no_more as or_fewer}

-- no run is empty, and no two neighbours are of one type
abbrev AreOfTwo : List LocalRun → Type 0
AreOfTwo [] = ⊤
AreOfTwo (last ∷ []) = 0 < last.count
AreOfTwo (first ∷ second ∷ runs) = (0 < first.count) × (first.ty ≢ second.ty) × AreOfTwo (second ∷ runs)

AreOfTwo-rest : (first : LocalRun) (runs : List LocalRun) → AreOfTwo (first ∷ runs) → AreOfTwo runs
AreOfTwo-rest first [] h = tt
AreOfTwo-rest first (second ∷ runs) h = h.2

AreOfTwo-some : (first : LocalRun) (runs : List LocalRun) → AreOfTwo (first ∷ runs) → 0 < first.count
AreOfTwo-some first [] h = h
AreOfTwo-some first (second ∷ runs) h = h.0

-- the first run, shorter
AreOfTwo-shorter : (first : LocalRun) (count : ℕ) (runs : List LocalRun) → 0 < count → AreOfTwo (first ∷ runs) → AreOfTwo (record { count = count; ty = first.ty } ∷ runs)
AreOfTwo-shorter first count [] some h = some
AreOfTwo-shorter first count (second ∷ runs) some h = (some, h.1, h.2)

length-types : (first : LocalRun) (runs : List LocalRun) → length (types_of_runs (first ∷ runs)) ≡ first.count + length (types_of_runs runs)
length-types first runs =
    length-append (replicate first.count first.ty) (types_of_runs runs) ∙ ap (λ (n : ℕ). n + length (types_of_runs runs)) (length-replicate first.count first.ty)

-- the longest runs, where they are short enough together
AreOfTwo-from_longest : (runs : List LocalRun) → length (types_of_runs runs) < 2 ^ 32 → AreLongest runs → AreOfTwo runs
AreOfTwo-from_longest [] few h = tt
AreOfTwo-from_longest (last ∷ []) few h = h
AreOfTwo-from_longest (first ∷ second ∷ runs) few h =
    let all = length-types first (second ∷ runs) in
    let following = length-types second runs in
    let differ : first.ty ≢ second.ty = elim (h.0.2) [
      | inl types ↦ types
      | inr much ↦ absurd (omega (arith, much, few, all, following))
    ] in
    (h.0.0, differ, AreOfTwo-from_longest (second ∷ runs) (omega (arith, few, all)) h.1)

-- ---- a list that begins with two runs

heads : (m n : ℕ) (s t : ValTy) (xs ys : List ValTy) → 0 < m → 0 < n → replicate m s ++ xs ≡ replicate n t ++ ys → s ≡ t
heads zero n s t xs ys some more same = absurd (omega arith)
heads (suc m) zero s t xs ys some more same = absurd (omega arith)
heads (suc m) (suc n) s t xs ys some more same = cc

tails : (m n : ℕ) (t : ValTy) (xs ys : List ValTy) → m ≤ n → replicate m t ++ xs ≡ replicate n t ++ ys → xs ≡ replicate (n - m) t ++ ys
tails zero n t xs ys most same =
    let all : n ≡ n - 0 = omega arith in
    same ∙ ap (λ (k : ℕ). replicate k t ++ ys) all
tails (suc m) zero t xs ys most same = absurd (omega arith)
tails (suc m) (suc n) t xs ys most same =
    let rest : replicate m t ++ xs ≡ replicate n t ++ ys = cc in
    let all : n - m ≡ suc n - suc m = omega arith in
    tails m n t xs ys (omega arith) rest ∙ ap (λ (k : ℕ). replicate k t ++ ys) all

none : (n : ℕ) (t : ValTy) (xs : List ValTy) → 0 < n → [] ≡ replicate n t ++ xs → ⊥
none zero t xs some same = omega arith
none (suc n) t xs some same = cc

-- after a run of a type, another type begins
no_more : (first : LocalRun) (runs : List LocalRun) (n : ℕ) (xs : List ValTy) → AreOfTwo (first ∷ runs) → 0 < n → types_of_runs runs ≡ replicate n first.ty ++ xs → ⊥
no_more first [] n xs h some same = none n first.ty xs some same
no_more first (second ∷ runs) n xs h some same =
    h.1 (sym (heads second.count n second.ty first.ty (types_of_runs runs) xs (AreOfTwo-some second runs h.2) some same))

-- ---- their bytes

-- so many bytes at most spell the runs
record Few (runs : List LocalRun) (most : ℕ) : Type 0 where
  pub bytes : List ℕ
  pub spelled : each run runs bytes
  pub few : length bytes ≤ most

-- the same run at the beginning of both
same_run : (first other : LocalRun) (runs : List LocalRun) (front : List ℕ) (most : ℕ) → first.count ≡ other.count → first.ty ≡ other.ty → run first front → Few runs most → Few (other ∷ runs) (length front + most)
same_run first other runs front most counts types spelled h =
    let typed : (u32 first.count then valtype other.ty) front = subst (λ (t : ValTy). (u32 first.count then valtype t) front) types spelled in
    let counted : (u32 other.count then valtype other.ty) front = subst (λ (n : ℕ). (u32 n then valtype other.ty) front) counts typed in
    record {
      bytes = front ++ h.bytes;
      spelled = (front, h.bytes, refl, counted, h.spelled);
      few = omega (arith, length-append front h.bytes, h.few);
    }

one_byte : (t : ValTy) (bytes : List ℕ) → valtype t bytes → length bytes ≡ 1
one_byte I32 bytes h = ap length h
one_byte I64 bytes h = ap length h

-- a run whose first part is spelled, and its rest before the others
joined_run : (first other : LocalRun) (runs : List LocalRun) (front : List ℕ) (most : ℕ) → first.count < other.count → other.count < 2 ^ 32 → run first front → Few (record { count = other.count - first.count; ty = other.ty } ∷ runs) most → Few (other ∷ runs) (length front + most - 1)
joined_run first other runs front most less fits spelled h =
    let following = h.spelled.3 in
    let sum = summed 32 spelled.0 following.0 first.count (other.count - first.count) other.count spelled.3 following.3 (omega arith) fits in
    let front_is : length front ≡ length spelled.0 + length spelled.1 = ap length spelled.2 ∙ length-append spelled.0 spelled.1 in
    let bytes_are : length h.bytes ≡ length h.spelled.0 + length h.spelled.1 = ap length h.spelled.2 ∙ length-append h.spelled.0 h.spelled.1 in
    let run_is : length h.spelled.0 ≡ length following.0 + length following.1 = ap length following.2 ∙ length-append following.0 following.1 in
    record {
      bytes = (sum.bytes ++ following.1) ++ h.spelled.1;
      spelled = (sum.bytes ++ following.1, h.spelled.1, refl, (sum.bytes, following.1, refl, sum.spelled, following.4), h.spelled.4);
      few = omega (arith, length-append (sum.bytes ++ following.1) h.spelled.1, length-append sum.bytes following.1, sum.few, h.few, front_is, bytes_are, run_is, one_byte first.ty spelled.1 spelled.4);
    }

some_bytes : (r : LocalRun) (bytes : List ℕ) → run r bytes → 0 < length bytes
some_bytes r bytes h =
    let all : length bytes ≡ length h.0 + length h.1 = ap length h.2 ∙ length-append h.0 h.1 in
    omega (arith, all, one_byte r.ty h.1 h.4)

one_run : (a b : LocalRun) → a.count ≡ b.count → a.ty ≡ b.ty → a ≡ b
one_run a b counts types =
    let same_count : a ≡ record { count = b.count; ty = a.ty } = ap (λ (n : ℕ). record { count = n; ty = a.ty }) counts in
    same_count ∙ ap (λ (t : ValTy). record { count = b.count; ty = t }) types

-- the same runs, or more of them in more bytes
abbrev AreOrMore : List LocalRun → List LocalRun → List ℕ → Type 0
AreOrMore runs others bytes = (others ≡ runs) ⊎ ((most : ℕ) × (most < length bytes) × (length runs ≤ length others) × Few runs most)

at_most : (runs others : List LocalRun) (bytes : List ℕ) → each run others bytes → AreOrMore runs others bytes → (length runs ≤ length others) × Few runs (length bytes)
at_most runs others bytes spelled h = elim h [
  | inl same ↦
      (omega (arith, ap length same), record { bytes = bytes; spelled = subst (λ (list : List LocalRun). each run list bytes) same spelled; few = omega arith })
  | inr more ↦ (more.2, record { bytes = more.3.bytes; spelled = more.3.spelled; few = omega (arith, more.1, more.3.few) })
]

fewest : (others runs : List LocalRun) (bytes : List ℕ) → AreOfTwo runs → length (types_of_runs runs) < 2 ^ 32 → types_of_runs others ≡ types_of_runs runs → each run others bytes → AreOrMore runs others bytes
fewest [] [] bytes longest fits same spelled = inl refl
fewest [] (first ∷ runs) bytes longest fits same spelled =
    absurd (none first.count first.ty (types_of_runs runs) (AreOfTwo-some first runs longest) same)
fewest (other ∷ others) [] bytes longest fits same spelled = elim (cases_lt 0 other.count) [
  | inl some ↦ absurd (none other.count other.ty (types_of_runs others) some (sym same))
  | inr empty ↦
      let bytes_are : length bytes ≡ length spelled.0 + length spelled.1 = ap length spelled.2 ∙ length-append spelled.0 spelled.1 in
      inr (0, omega (arith, bytes_are, some_bytes other spelled.0 spelled.3), omega arith, record { bytes = []; spelled = refl; few = omega arith })
]
fewest (other ∷ others) (first ∷ runs) bytes longest fits same spelled =
    let bytes_are : length bytes ≡ length spelled.0 + length spelled.1 = ap length spelled.2 ∙ length-append spelled.0 spelled.1 in
    let some_first = AreOfTwo-some first runs longest in
    elim (cases_lt 0 other.count) [
      | inr empty ↦
          let zero_count : other.count ≡ 0 = omega arith in
          let rest : types_of_runs others ≡ types_of_runs (first ∷ runs) = subst (λ (n : ℕ). replicate n other.ty ++ types_of_runs others ≡ types_of_runs (first ∷ runs)) zero_count same in
          let found = at_most (first ∷ runs) others spelled.1 spelled.4 (fewest others (first ∷ runs) spelled.1 longest fits rest spelled.4) in
          inr (length spelled.1, omega (arith, bytes_are, some_bytes other spelled.0 spelled.3), omega (arith, found.0), found.1)
      | inl some ↦
          let types : other.ty ≡ first.ty = heads other.count first.count other.ty first.ty (types_of_runs others) (types_of_runs runs) some some_first same in
          let one_type : replicate other.count first.ty ++ types_of_runs others ≡ replicate first.count first.ty ++ types_of_runs runs = subst (λ (t : ValTy). replicate other.count t ++ types_of_runs others ≡ replicate first.count first.ty ++ types_of_runs runs) types same in
          elim (cases_lt first.count other.count) [
            | inl longer ↦
                let past : types_of_runs runs ≡ replicate (other.count - first.count) first.ty ++ types_of_runs others = tails first.count other.count first.ty (types_of_runs runs) (types_of_runs others) (omega arith) (sym one_type) in
                absurd (no_more first runs (other.count - first.count) (types_of_runs others) longest (omega arith) past)
            | inr most ↦
                let rest : types_of_runs others ≡ replicate (first.count - other.count) first.ty ++ types_of_runs runs = tails other.count first.count first.ty (types_of_runs others) (types_of_runs runs) most one_type in
                elim (cases_lt other.count first.count) [
                  | inl less ↦
                      let found = at_most (record { count = first.count - other.count; ty = first.ty } ∷ runs) others spelled.1 spelled.4 (fewest others (record { count = first.count - other.count; ty = first.ty } ∷ runs) spelled.1 (AreOfTwo-shorter first (first.count - other.count) runs (omega arith) longest) (omega (arith, fits, length-types first runs, length-types (record { count = first.count - other.count; ty = first.ty }) runs)) rest spelled.4) in
                      let whole = joined_run other first runs spelled.0 (length spelled.1) less (omega (arith, fits, length-types first runs)) spelled.3 found.1 in
                      inr (length spelled.0 + length spelled.1 - 1, omega (arith, bytes_are, some_bytes other spelled.0 spelled.3), omega (arith, found.0), whole)
                  | inr all ↦
                      let counts : other.count ≡ first.count = omega arith in
                      let none_left : first.count - other.count ≡ 0 = omega arith in
                      let after : types_of_runs others ≡ types_of_runs runs = subst (λ (n : ℕ). types_of_runs others ≡ replicate n first.ty ++ types_of_runs runs) none_left rest in
                      elim (fewest others runs spelled.1 (AreOfTwo-rest first runs longest) (omega (arith, fits, length-types first runs)) after spelled.4) [
                        | inl equal ↦
                            let firsts = one_run other first counts types in
                            inl cc
                        | inr more ↦
                            let whole = same_run other first runs spelled.0 more.0 counts types spelled.3 more.3 in
                            inr (length spelled.0 + more.0, omega (arith, bytes_are, more.1), omega (arith, more.2), whole)
                      ]
                ]
          ]
    ]

pub Adds-locals : (types : List ValTy) (runs : List LocalRun) (old new : List ℕ) → types_of_runs runs ≡ types → AreLongest runs → Adds (vec run runs) old new → Adds (locals types) old new
Adds-locals types runs old new same longest h = record {
  bytes = h.bytes;
  least = λ other spelled.
      let many : length (types_of_runs runs) ≡ length types = ap length same in
      let few : length (types_of_runs runs) < 2 ^ 32 = omega (arith, many, spelled.0) in
      let other_is : length other ≡ length spelled.3.0 + length spelled.3.1 = ap length spelled.3.2 ∙ length-append spelled.3.0 spelled.3.1 in
      elim (fewest spelled.1 runs spelled.3.1 (AreOfTwo-from_longest runs few longest) few (spelled.2 ∙ sym same) spelled.3.4) [
        | inl equal ↦
            let found = h.least other (subst (λ (list : List LocalRun). vec run list other) equal spelled.3) in
            ((spelled.0, runs, same, found.0), found.1)
        | inr more ↦
            let count = shorter 32 spelled.3.0 (length spelled.1) (length runs) spelled.3.3 more.2 in
            let found = h.least (count.bytes ++ more.3.bytes) (count.bytes, more.3.bytes, refl, count.spelled, more.3.spelled) in (
              (spelled.0, runs, same, found.0),
              inr (omega (arith, or_fewer h.bytes (count.bytes ++ more.3.bytes) found.1, length-append count.bytes more.3.bytes, count.few, more.1, more.3.few, other_is)),
            )
      ];
  is = h.is;
}

-- ---- as they are joined

-- the last run, longer
AreLongest-last : (runs : List LocalRun) (last longer : LocalRun) → last.ty ≡ longer.ty → last.count ≤ longer.count → AreLongest (runs ++ last ∷ []) → AreLongest (runs ++ longer ∷ [])
AreLongest-last [] last longer types more h = omega (arith, more, h)
AreLongest-last (first ∷ []) last longer types more h =
    let some : 0 < longer.count = omega (arith, more, h.1) in
    let apart : (first.ty ≢ longer.ty) ⊎ (2 ^ 32 ≤ first.count + longer.count) = elim (h.0.2) [
      | inl differ ↦ inl (λ same. differ (same ∙ sym types))
      | inr much ↦ inr (omega (arith, much, more))
    ] in
    ((h.0.0, some, apart), some)
AreLongest-last (first ∷ second ∷ runs) last longer types more h =
    (h.0, AreLongest-last (second ∷ runs) last longer types more h.1)

-- a run after the last one
AreLongest-push : (runs : List LocalRun) (last run : LocalRun) → AreApart last run → AreLongest (runs ++ last ∷ []) → AreLongest ((runs ++ last ∷ []) ++ run ∷ [])
AreLongest-push [] last run apart h = (apart, apart.1)
AreLongest-push (first ∷ []) last run apart h = (h.0, (apart, apart.1))
AreLongest-push (first ∷ second ∷ runs) last run apart h = (h.0, AreLongest-push (second ∷ runs) last run apart h.1)

AreLongest-end : (runs : List LocalRun) (last : LocalRun) → AreLongest (runs ++ last ∷ []) → 0 < last.count
AreLongest-end [] last h = h
AreLongest-end (first ∷ []) last h = h.1
AreLongest-end (first ∷ second ∷ runs) last h = AreLongest-end (second ∷ runs) last h.1

pub AreLongestTo-joined : (runs : List LocalRun) (last next run : LocalRun) → IsJoined last next run → AreLongestTo runs last → AreLongestTo runs run
AreLongestTo-joined runs last next run joined h = elim joined [
  | inl empty ↦
      let alone : runs ≡ [] = elim h [
        | inl only ↦ only.0
        | inr longest ↦ absurd (omega (arith, empty.0, AreLongest-end runs last longest))
      ] in
      elim (cases_lt 0 run.count) [
        | inl some ↦ inr (subst (λ (front : List LocalRun). AreLongest (front ++ run ∷ [])) (sym alone) some)
        | inr none ↦ inl (alone, omega arith)
      ]
  | inr other ↦ elim other [
    | inl none ↦ subst (AreLongestTo runs) (sym none.1) h
    | inr both ↦ elim h [
      | inl only ↦ absurd (omega (arith, only.1, both.1))
      | inr longest ↦ inr (AreLongest-last runs last run (sym both.3) (omega (arith, both.2)) longest)
    ]
  ]
]

pub AreLongestTo-pushed : (runs : List LocalRun) (last next : LocalRun) → AreApart last next → AreLongestTo runs last → AreLongestTo (runs ++ last ∷ []) next
AreLongestTo-pushed runs last next apart h = elim h [
  | inl only ↦ absurd (omega (arith, only.1, apart.0))
  | inr longest ↦ inr (AreLongest-push runs last next apart longest)
]

pub AreLongest-none : (runs : List LocalRun) (last : LocalRun) → last.count ≡ 0 → AreLongestTo runs last → AreLongest runs
AreLongest-none runs last empty h = elim h [
  | inl only ↦ subst AreLongest (sym only.0) tt
  | inr longest ↦ absurd (omega (arith, empty, AreLongest-end runs last longest))
]

pub AreLongest-some : (runs : List LocalRun) (last : LocalRun) → last.count ≢ 0 → AreLongestTo runs last → AreLongest (runs ++ last ∷ [])
AreLongest-some runs last some h = elim h [
  | inl only ↦ absurd (some only.1)
  | inr longest ↦ longest
]
