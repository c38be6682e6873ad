-- A table of names after one more name, looked up by bytes; and the kind of a class by its name.
use Rattle.std.proofs.Common.{◌≡◌, ℕ, suc, ◌+◌, ◌<◌, Bool, true, false, true≢false, cond, nat_eq, List, Some, Vec, length, get_or, drop, refl, sym, ap, subst, ◌∙◌, arith, add-one, drop-cons}
use Rattle.std.proofs.lemmas.List.{map_more}
use Rattle.std.proofs.lemmas.Slice.Eq.{bytes_eq-Decides}
use Rattle.std.specs.Cmp.Lexicographic.{pointwise}
use Rattle.std.specs.HashMap.{HashMap, UpdatesBy}
use Rattle.std.specs.Map.{KeepsOthers}
use Rattle.sa_ast.specs.declared.class.Class.{Class}
use Rattle.sa_unify.specs.Numbers.{class_place, number_in, HasNumbers}

-- equal bytes pass one test
test-same : (xs ys ks : List ℕ) → pointwise nat_eq xs ys ≡ true → pointwise nat_eq xs ks ≡ pointwise nat_eq ys ks
test-same xs ys ks h = ap (λ l. pointwise nat_eq l ks) ((bytes_eq-Decides xs ys).0 h)

module _ {A S : Type 0} (key : List ℕ) (table more : HashMap (Vec ℕ A) ℕ S) (k : ℕ) (updates : UpdatesBy (λ x y. pointwise nat_eq x.items y.items) (λ y. pointwise nat_eq key y.items) table more (Some k)) where
  others : (name : List ℕ) → pointwise nat_eq key name ≡ false → number_in more name ≡ number_in table name
  unfolding KeepsOthers
  others name apart =
      updates.3 (λ y. pointwise nat_eq name y.items)
      (λ x y e. test-same name x.items y.items e)
      (λ y e. go y e (pointwise nat_eq name y.items) refl)
    where
      go : (y : Vec ℕ A) → pointwise nat_eq key y.items ≡ true → (b : Bool) → pointwise nat_eq name y.items ≡ b → pointwise nat_eq name y.items ≡ false
      go y e true f =
          let same : key ≡ name = (bytes_eq-Decides key y.items).0 e ∙ sym ((bytes_eq-Decides name y.items).0 f) in
          absurd (true≢false (sym ((bytes_eq-Decides key name).1 same) ∙ apart))
      go y e false f = f

  pub number-more : (name : List ℕ) → number_in more name ≡ cond (pointwise nat_eq key name) (Some k) (number_in table name)
  number-more name = go (pointwise nat_eq key name) refl
    where
      go : (b : Bool) → pointwise nat_eq key name ≡ b → number_in more name ≡ cond b (Some k) (number_in table name)
      go true e = ap (number_in more) (sym ((bytes_eq-Decides key name).0 e)) ∙ updates.1
      go false e = others name e

-- one more class in front, whose name is put into the table
pub has_numbers-more : {A S : Type 0} (table more : HashMap (Vec ℕ A) ℕ S) (classes : List Class) (i j : ℕ) (c : Class) (key : List ℕ) → i < length classes → c ≡ get_or classes i c → j ≡ i + 1 → key ≡ c.name.name → HasNumbers table classes j → UpdatesBy (λ x y. pointwise nat_eq x.items y.items) (λ y. pointwise nat_eq key y.items) table more (Some i) → HasNumbers more classes i
has_numbers-more table more classes i j c key h e after same known updates name =
    number-more key table more i updates name
    ∙ ap (λ l. cond (pointwise nat_eq l name) (Some i) (number_in table name)) same
    ∙ ap (cond (pointwise nat_eq c.name.name name) (Some i)) (known name ∙ ap (λ k. class_place (drop k classes) k name) after)
    ∙ sym first
  where
    first : class_place (drop i classes) i name ≡ cond (pointwise nat_eq c.name.name name) (Some i) (class_place (drop (i + 1) classes) (i + 1) name)
    first =
        let next : i + 1 ≡ suc i = omega arith in
        rw (add-one, drop-cons classes i c h, ← e) (ap (λ k. cond (pointwise nat_eq c.name.name name) (Some i) (class_place (drop (suc i) classes) k name)) next)

-- the same where the number is known by what it is equal to
pub has_numbers-word : {A S : Type 0} (table more : HashMap (Vec ℕ A) ℕ S) (classes : List Class) (i j k : ℕ) (c : Class) (key : List ℕ) → i < length classes → c ≡ get_or classes i c → j ≡ i + 1 → key ≡ c.name.name → HasNumbers table classes j → k ≡ i → UpdatesBy (λ x y. pointwise nat_eq x.items y.items) (λ y. pointwise nat_eq key y.items) table more (Some k) → HasNumbers more classes i
has_numbers-word table more classes i j k c key h e after same known word updates =
    has_numbers-more table more classes i j c key h e after same known (subst (λ n. UpdatesBy (λ x y. pointwise nat_eq x.items y.items) (λ y. pointwise nat_eq key y.items) table more (Some n)) word updates)

pub ruleset rows = (map_more)
