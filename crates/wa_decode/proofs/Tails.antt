-- Sections one after another. Custom ones may be between any two, so what is spelled after a position is the same once they were skipped.
use Rattle.std.proofs.Common.{◌≡◌, ℕ, ◌<◌, ◌⊎◌, List, [], ◌∷◌, ◌++◌, refl, sym, ap, subst, ◌∙◌, inl, inr, arith, append_assoc}
use Rattle.wa_syntax.specs.Binary.{section, vecsec, custom, customs, startsec}
use Rattle.wa_syntax.specs.Formats.{Format, ◌then◌, each, byte}
use Rattle.std.specs.Prelude.{Option, None, Some}

-- the bytes begin with this one
abbrev pub Starts : ℕ → List ℕ → Type 0
Starts id s = (rest : List ℕ) × (s ≡ id ∷ rest)

-- a custom section, and after it the same format
pub record PassesOne (T : Format) (s : List ℕ) : Type 0 where
  pub c : List ℕ × List ℕ
  pub front : List ℕ
  pub back : List ℕ
  pub whole : s ≡ front ++ back
  pub spelled : custom c front
  pub tail : T back

-- what begins with 0 begins with a custom section, and after it the same format goes on
pub record Passing (T : Format) : Type 0 where
  pub pass : (s : List ℕ) → T s → Starts 0 s → PassesOne T s

pub byte_starts : {A : Format} (b : ℕ) (s : List ℕ) → (byte b then A) s → Starts b s
byte_starts b s h = (h.1, h.2 ∙ ap (λ (front : List ℕ). front ++ h.1) h.3)

pub starts-one : (b c : ℕ) (s : List ℕ) → Starts b s → Starts c s → b ≡ c
starts-one b c s h k =
    let whole : b ∷ h.0 ≡ c ∷ k.0 = sym h.1 ∙ k.1 in
    cc

customs-pass : (cs : List (List ℕ × List ℕ)) (s : List ℕ) → each custom cs s → Starts 0 s → PassesOne customs s
customs-pass [] s h starts =
    let none : [] ≡ 0 ∷ starts.0 = sym h ∙ starts.1 in
    absurd (cc)
customs-pass (c ∷ cs) s h starts = record { c = c; front = h.0; back = h.1; whole = h.2; spelled = h.3; tail = (cs, h.4) }

pub passing-customs : Passing customs
passing-customs = record { pass = λ s h starts. customs-pass h.0 s h.1 starts }

-- a section that may be omitted
pub record Optional (id : ℕ) (S : Format) : Type 0 where
  pub cases : (s : List ℕ) → S s → (s ≡ []) ⊎ Starts id s

pub optional-vecsec : {V : Type 0} (id : ℕ) (B : V → Format) (vs : List V) → Optional id (vecsec id B vs)
optional-vecsec id B vs = record { cases = λ s h. elim h [ inl none ↦ inl none.1 | inr some ↦ inr (byte_starts id s some) ] }

pub optional-startsec : (x : Option ℕ) → Optional 8 (startsec x)
optional-startsec None = record { cases = λ s h. inl h }
optional-startsec (Some x) = record { cases = λ s h. inr (byte_starts 8 s h) }

behind_customs : (id : ℕ) (S T : Format) (cs : List (List ℕ × List ℕ)) (f g s : List ℕ) → 0 < id → Optional id S → Passing T → s ≡ f ++ g → each custom cs f → (S then T) g → Starts 0 s → PassesOne (customs then S then T) s
behind_customs id S T [] f g s some optional passing whole h rest starts =
    let bare : s ≡ g = whole ∙ ap (λ (front : List ℕ). front ++ g) h in
    elim (optional.cases rest.0 rest.3) [
      | inl none ↦
          let same : s ≡ rest.1 = bare ∙ rest.2 ∙ ap (λ (front : List ℕ). front ++ rest.1) none in
          let more = passing.pass s (subst T (sym same) rest.4) starts in
          record {
            c = more.c;
            front = more.front;
            back = more.back;
            whole = more.whole;
            spelled = more.spelled;
            tail = ([], more.back, refl, ([], refl), ([], more.back, refl, subst S none rest.3, more.tail));
          }
      | inr is ↦
          let begins : Starts id s = (is.0 ++ rest.1, bare ∙ rest.2 ∙ ap (λ (front : List ℕ). front ++ rest.1) is.1) in
          absurd (omega (arith, starts-one 0 id s starts begins, some))
    ]
behind_customs id S T (c ∷ cs) f g s some optional passing whole h rest starts = record {
  c = c;
  front = h.0;
  back = h.1 ++ g;
  whole = whole ∙ ap (λ (front : List ℕ). front ++ g) h.2 ∙ append_assoc h.0 h.1 g;
  spelled = h.3;
  tail = (h.1, g, refl, (cs, h.4), rest);
}

pub passing-section : (id : ℕ) (S T : Format) → 0 < id → Optional id S → Passing T → Passing (customs then S then T)
passing-section id S T some optional passing = record {
  pass = λ s h starts. behind_customs id S T h.3.0 h.0 h.1 s some optional passing h.2 h.3.1 h.4 starts;
}
