-- The class of a name and its index: the first class with the name is at the number of the name.
use Rattle.std.proofs.Common.{◌≡◌, ℕ, suc, ◌+◌, ◌<◌, Bool, true, false, cond, nat_eq, List, [], ◌∷◌, Some, length, slice_get, refl, sym, ap, ◌∙◌, arith}
use Rattle.std.proofs.lemmas.Option.{none-some}
use Rattle.std.proofs.lemmas.Slice.Eq.{bytes_eq-Decides}
use Rattle.std.specs.Cmp.Lexicographic.{pointwise}
use Rattle.sa_ast.specs.declared.class.Class.{Class}
use Rattle.sa_ast.specs.declared.class.TypeParam.{TypeParam}
use Rattle.sa_subst.specs.Substitution.{place_of}
use Rattle.sa_unify.specs.Numbers.{class_place}
use Rattle.sa_subtypes.specs.Subtypes.{class_named}

same_class : (d c : Class) → Some d ≡ Some c → d ≡ c
same_class d c e = cc

some_number : (m n : ℕ) → Some m ≡ Some n → m ≡ n
some_number m n e = cc

-- the class of a name is at an index, which is the name's number in a list that begins at index i
pub record IsAt (classes : List Class) (i : ℕ) (name : List ℕ) (c : Class) : Type 0 where
  pub index : ℕ
  pub place : class_place classes i name ≡ Some (i + index)
  pub there : slice_get classes index ≡ Some c
  pub named : c.name.name ≡ name

pub found : (classes : List Class) (i : ℕ) (name : List ℕ) (c : Class) → class_named classes name ≡ Some c → IsAt classes i name c
found [] i name c h = absurd (none-some c h)
found (d ∷ more) i name c h = go (λ k. found more (i + 1) name c k) (pointwise nat_eq d.name.name name) refl h
  where
    go : (class_named more name ≡ Some c → IsAt more (i + 1) name c) → (b : Bool) → pointwise nat_eq d.name.name name ≡ b → cond b (Some d) (class_named more name) ≡ Some c → IsAt (d ∷ more) i name c
    go rest true e k =
        let first : i ≡ i + 0 = omega arith in
        record {
          index = 0;
          place = ap (λ b. cond b (Some i) (class_place more (i + 1) name)) e ∙ ap Some first;
          there = k;
          named = ap (λ x. x.name.name) (sym (same_class d c k)) ∙ (bytes_eq-Decides d.name.name name).0 e;
        }
    go rest false e k =
        let r = rest k in
        let later : (i + 1) + r.index ≡ i + suc r.index = omega arith in
        record {
          index = suc r.index;
          place = ap (λ b. cond b (Some i) (class_place more (i + 1) name)) e ∙ r.place ∙ ap Some later;
          there = r.there;
          named = r.named;
        }

-- a name that has a number has a class
pub placed : (classes : List Class) (i : ℕ) (name : List ℕ) (k : ℕ) → class_place classes i name ≡ Some k → (c : Class) × (class_named classes name ≡ Some c)
placed [] i name k h = absurd (none-some k h)
placed (d ∷ more) i name k h = go (λ e. placed more (i + 1) name k e) (pointwise nat_eq d.name.name name) refl h
  where
    go : (class_place more (i + 1) name ≡ Some k → (c : Class) × (class_named more name ≡ Some c)) → (b : Bool) → pointwise nat_eq d.name.name name ≡ b → cond b (Some i) (class_place more (i + 1) name) ≡ Some k → (c : Class) × (cond (pointwise nat_eq d.name.name name) (Some d) (class_named more name) ≡ Some c)
    go rest true e f = (d, ap (λ b. cond b (Some d) (class_named more name)) e)
    go rest false e f = let r = rest f in (r.0, ap (λ b. cond b (Some d) (class_named more name)) e ∙ r.1)

-- among the classes of a program
pub record IsNumbered (classes : List Class) (name : List ℕ) (k : ℕ) (c : Class) : Type 0 where
  pub number : class_place classes 0 name ≡ Some k
  pub there : slice_get classes k ≡ Some c
  pub named : c.name.name ≡ name

pub named-numbered : (classes : List Class) (name : List ℕ) (c : Class) → class_named classes name ≡ Some c → (k : ℕ) × IsNumbered classes name k c
named-numbered classes name c h =
    let r = found classes 0 name c h in
    let first : 0 + r.index ≡ r.index = omega arith in
    (r.index, record { number = r.place ∙ ap Some first; there = r.there; named = r.named })

pub numbered-named : (classes : List Class) (name : List ℕ) (k : ℕ) → class_place classes 0 name ≡ Some k → (c : Class) × (class_named classes name ≡ Some c) × IsNumbered classes name k c
numbered-named classes name k h =
    let p = placed classes 0 name k h in
    let r = found classes 0 name p.0 p.1 in
    let first : r.index ≡ k = omega (arith, some_number (0 + r.index) k (sym r.place ∙ h)) in
    (p.0, p.1, record { number = h; there = ap (slice_get classes) (sym first) ∙ r.there; named = r.named })

-- ---- the indices of parameters

pub place_of-within : (params : List TypeParam) (i : ℕ) (name : List ℕ) (k : ℕ) → place_of params i name ≡ Some k → k < i + length params
place_of-within [] i name k h = absurd (none-some k h)
place_of-within (p ∷ more) i name k h = go (λ e. place_of-within more (i + 1) name k e) (pointwise nat_eq p.name.name name) h
  where
    go : (place_of more (i + 1) name ≡ Some k → k < (i + 1) + length more) → (b : Bool) → cond b (Some i) (place_of more (i + 1) name) ≡ Some k → k < i + length (p ∷ more)
    go rest true e = let same = some_number i k e in omega (arith, same)
    go rest false e = let least = rest e in omega (arith, least)
