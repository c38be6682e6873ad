-- A value of each type, through the steps of the machine.
use Rattle.std.proofs.Common.{◌≡◌, ℕ, zero, suc, List, [], ◌∷◌, ◌++◌, length, take, drop, replicate, slice_get, slice_set, Some, refl, sym, ap, subst, pow_pos}
use Rattle.std.specs.Prelude.{reverse}
use Rattle.std.proofs.lemmas.List.{reverse-append, reverse-reverse}
use Rattle.std.proofs.lemmas.Option.{same_Some, none-some}
use Rattle.wa_syntax.specs.declared.module.ValTy.{ValTy}
use Rattle.wa_syntax.specs.Operations.{width_of}
use Rattle.wa_type_safety.specs.Typing.{Setting, IsOf, EachIsOf, AreOf}
use mir.Val.{bits}

module _ (r : Setting) where
  each-append : (ts us : List ValTy) (ns ks : List ℕ) → EachIsOf r ts ns → EachIsOf r us ks → EachIsOf r (ts ++ us) (ns ++ ks)
  each-append [] us [] ks h k = k
  each-append [] us (n ∷ ns) ks h k = absurd h
  each-append (t ∷ ts) us [] ks h k = absurd h
  each-append (t ∷ ts) us (n ∷ ns) ks h k = (h.0, each-append ts us ns ks h.1 k)

  each-front : (ts us : List ValTy) (ns : List ℕ) → EachIsOf r (ts ++ us) ns → EachIsOf r ts (take (length ts) ns)
  each-front [] us ns h = tt
  each-front (t ∷ ts) us [] h = absurd h
  each-front (t ∷ ts) us (n ∷ ns) h = (h.0, each-front ts us ns h.1)

  each-back : (ts us : List ValTy) (ns : List ℕ) → EachIsOf r (ts ++ us) ns → EachIsOf r us (drop (length ts) ns)
  each-back [] us ns h = h
  each-back (t ∷ ts) us [] h = absurd h
  each-back (t ∷ ts) us (n ∷ ns) h = each-back ts us ns h.1

  each-reverse : (ts : List ValTy) (ns : List ℕ) → EachIsOf r ts ns → EachIsOf r (reverse ts) (reverse ns)
  each-reverse [] [] h = tt
  each-reverse [] (n ∷ ns) h = absurd h
  each-reverse (t ∷ ts) [] h = absurd h
  each-reverse (t ∷ ts) (n ∷ ns) h =
      subst (λ (us : List ValTy). EachIsOf r us (reverse (n ∷ ns))) (sym (reverse-append (t ∷ []) ts))
      (subst (EachIsOf r (reverse ts ++ t ∷ [])) (sym (reverse-append (n ∷ []) ns))
      (each-append (reverse ts) (t ∷ []) (reverse ns) (n ∷ []) (each-reverse ts ns h.1) (h.0, tt)))

  pub IsOf-zero : (t : ValTy) → IsOf r t 0
  IsOf-zero t = λ begins. pow_pos (bits (width_of t))

  each-zero : (ts : List ValTy) → EachIsOf r ts (replicate (length ts) 0)
  each-zero [] = tt
  each-zero (t ∷ ts) = (IsOf-zero t, each-zero ts)

  each-get : (ts : List ValTy) (ns : List ℕ) (i : ℕ) (t : ValTy) → EachIsOf r ts ns → slice_get ts i ≡ Some t → (n : ℕ) × (slice_get ns i ≡ Some n) × IsOf r t n
  each-get [] ns i t h e = absurd (none-some t e)
  each-get (u ∷ ts) [] i t h e = absurd h
  each-get (u ∷ ts) (n ∷ ns) zero t h e = (n, refl, subst (λ (v : ValTy). IsOf r v n) (same_Some u t e) h.0)
  each-get (u ∷ ts) (n ∷ ns) (suc i) t h e = each-get ts ns i t h.1 e

  each-set : (ts : List ValTy) (ns : List ℕ) (i n : ℕ) (t : ValTy) → EachIsOf r ts ns → slice_get ts i ≡ Some t → IsOf r t n → EachIsOf r ts (slice_set ns i n)
  each-set [] ns i n t h e is = absurd (none-some t e)
  each-set (u ∷ ts) [] i n t h e is = absurd h
  each-set (u ∷ ts) (k ∷ ns) zero n t h e is = (subst (λ (v : ValTy). IsOf r v n) (sym (same_Some u t e)) is, h.1)
  each-set (u ∷ ts) (k ∷ ns) (suc i) n t h e is = (h.0, each-set ts ns i n t h.1 e is)

  each-length : (ts : List ValTy) (ns : List ℕ) → EachIsOf r ts ns → length ns ≡ length ts
  each-length [] [] h = refl
  each-length [] (n ∷ ns) h = absurd h
  each-length (t ∷ ts) [] h = absurd h
  each-length (t ∷ ts) (n ∷ ns) h = ap suc (each-length ts ns h.1)

module _ {r : Setting} where
  pub AreOf-none : AreOf r [] []
  AreOf-none = record { each = tt }

  pub AreOf-more : (t : ValTy) (ts : List ValTy) (n : ℕ) (ns : List ℕ) → IsOf r t n → AreOf r ts ns → AreOf r (t ∷ ts) (n ∷ ns)
  AreOf-more t ts n ns is h = record { each = (is, h.each) }

  pub AreOf-first : (t : ValTy) (ts : List ValTy) (n : ℕ) (ns : List ℕ) → AreOf r (t ∷ ts) (n ∷ ns) → IsOf r t n
  AreOf-first t ts n ns h = h.each.0

  pub AreOf-rest : (t : ValTy) (ts : List ValTy) (n : ℕ) (ns : List ℕ) → AreOf r (t ∷ ts) (n ∷ ns) → AreOf r ts ns
  AreOf-rest t ts n ns h = record { each = h.each.1 }

  pub AreOf-missing : (t : ValTy) (ts : List ValTy) → AreOf r (t ∷ ts) [] → ⊥
  AreOf-missing t ts h = h.each

  pub AreOf-append : (ts us : List ValTy) (ns ks : List ℕ) → AreOf r ts ns → AreOf r us ks → AreOf r (ts ++ us) (ns ++ ks)
  AreOf-append ts us ns ks h k = record { each = each-append r ts us ns ks h.each k.each }

  pub AreOf-front : (ts us : List ValTy) (ns : List ℕ) (k : ℕ) → AreOf r (ts ++ us) ns → k ≡ length ts → AreOf r ts (take k ns)
  AreOf-front ts us ns k h e = record { each = subst (λ (i : ℕ). EachIsOf r ts (take i ns)) (sym e) (each-front r ts us ns h.each) }

  pub AreOf-back : (ts us : List ValTy) (ns : List ℕ) (k : ℕ) → AreOf r (ts ++ us) ns → k ≡ length ts → AreOf r us (drop k ns)
  AreOf-back ts us ns k h e = record { each = subst (λ (i : ℕ). EachIsOf r us (drop i ns)) (sym e) (each-back r ts us ns h.each) }

  pub AreOf-reversed : (ts : List ValTy) (ns : List ℕ) → AreOf r (reverse ts) ns → AreOf r ts (reverse ns)
  AreOf-reversed ts ns h = record {
    each = subst (λ (us : List ValTy). EachIsOf r us (reverse ns)) (reverse-reverse ts) (each-reverse r (reverse ts) ns h.each);
  }

  pub AreOf-zeros : (ts : List ValTy) → AreOf r ts (replicate (length ts) 0)
  AreOf-zeros ts = record { each = each-zero r ts }

  -- the value of a type that there is
  pub AreOf-get : (ts : List ValTy) (ns : List ℕ) (i : ℕ) (t : ValTy) → AreOf r ts ns → slice_get ts i ≡ Some t → (n : ℕ) × (slice_get ns i ≡ Some n) × IsOf r t n
  AreOf-get ts ns i t h e = each-get r ts ns i t h.each e

  pub AreOf-set : (ts : List ValTy) (ns : List ℕ) (i n : ℕ) (t : ValTy) → AreOf r ts ns → slice_get ts i ≡ Some t → IsOf r t n → AreOf r ts (slice_set ns i n)
  AreOf-set ts ns i n t h e is = record { each = each-set r ts ns i n t h.each e is }

  pub AreOf-length : (ts : List ValTy) (ns : List ℕ) → AreOf r ts ns → length ns ≡ length ts
  AreOf-length ts ns h = each-length r ts ns h.each
