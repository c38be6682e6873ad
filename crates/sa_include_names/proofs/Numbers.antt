-- The numbers of the classes, found from the first class on.
use Rattle.std.proofs.Common.{◌≡◌, ◌≢◌, ℕ, zero, suc, ◌+◌, ◌<◌, ◌≤◌, Bool, true, false, cond, nat_eq, List, [], ◌∷◌, ◌++◌, Option, None, Some, length, get_or, take, slice_get, refl, sym, ap, subst, ◌∙◌, ◌⊎◌, inl, inr, ⊎_elim, arith}
use Rattle.std.proofs.lemmas.Bool.{false≢true}
use Rattle.std.proofs.lemmas.List.{length-take-le, take-append-le, take_all, take_more}
use Rattle.std.proofs.lemmas.Option.{slice_get_read}
use Rattle.std.specs.Cmp.Lexicographic.{pointwise, bytes_decides}
use Rattle.indexmap.specs.IndexMap.{Updates}
use Rattle.sa_ast.specs.declared.class.Class.{Class}
use Rattle.sa_ast.specs.declared.refusal.Refusal.{Refusal}
use Rattle.sa_ast.specs.declared.rule.Rule.TheVariants as rule
use Rattle.sa_include_names.specs.declared.names.ClassNumbers.{ClassNumbers}
use Rattle.sa_include_names.specs.Names.{number_from, number_of, DifferInName}
use Rattle.sa_include_names.specs.Refusals.{RefusesRepeated}
use Rattle.sa_include_names.specs.Tables.{HasNumbers, number_in}

-- ---- one more class after the others

pub number_known : (first : ℕ) (cs : List Class) (c : Class) (name : List ℕ) (k : ℕ) → number_from first cs name ≡ Some k → number_from first (cs ++ c ∷ []) name ≡ Some k
number_known first [] c name k h = cc
number_known first (d ∷ cs) c name k h = by (pointwise nat_eq d.name.name name) h (number_known (suc first) cs c name k)
  where
    by : (b : Bool) → cond b (Some first) (number_from (suc first) cs name) ≡ Some k → (number_from (suc first) cs name ≡ Some k → number_from (suc first) (cs ++ c ∷ []) name ≡ Some k)
        → cond b (Some first) (number_from (suc first) (cs ++ c ∷ []) name) ≡ Some k
    by true g rest = g
    by false g rest = rest g

pub number_new : (first : ℕ) (cs : List Class) (c : Class) (name : List ℕ) → number_from first cs name ≡ None → number_from first (cs ++ c ∷ []) name ≡ cond (pointwise nat_eq c.name.name name) (Some (first + length cs)) None
number_new first [] c name h =
    let same : first ≡ first + 0 = omega arith in
    ap (λ n. cond (pointwise nat_eq c.name.name name) (Some n) None) same
number_new first (d ∷ cs) c name h =
    let same : suc first + length cs ≡ first + suc (length cs) = omega arith in
    by (pointwise nat_eq d.name.name name) h (λ g. number_new (suc first) cs c name g ∙ ap (λ n. cond (pointwise nat_eq c.name.name name) (Some n) None) same)
  where
    by : (b : Bool) → cond b (Some first) (number_from (suc first) cs name) ≡ None
        → (number_from (suc first) cs name ≡ None → number_from (suc first) (cs ++ c ∷ []) name ≡ cond (pointwise nat_eq c.name.name name) (Some (first + suc (length cs))) None)
        → cond b (Some first) (number_from (suc first) (cs ++ c ∷ []) name) ≡ cond (pointwise nat_eq c.name.name name) (Some (first + suc (length cs))) None
    by true g rest = cc
    by false g rest = rest g

-- a class whose name none before it has
pub number_push : (cs : List Class) (c : Class) (i : ℕ) → length cs ≡ i → number_of cs c.name.name ≡ None → (name : List ℕ) → cond (pointwise nat_eq c.name.name name) (Some i) (number_of cs name) ≡ number_of (cs ++ c ∷ []) name
number_push cs c i e new name = by (number_of cs name) refl
  where
    by : (o : Option ℕ) → number_of cs name ≡ o → cond (pointwise nat_eq c.name.name name) (Some i) o ≡ number_of (cs ++ c ∷ []) name
    by None h =
        let same : i ≡ 0 + length cs = omega (arith, e) in
        ap (λ n. cond (pointwise nat_eq c.name.name name) (Some n) None) same ∙ sym (number_new 0 cs c name h)
    by (Some k) h = other (pointwise nat_eq c.name.name name) refl ∙ sym (number_known 0 cs c name k h)
      where
        differs : Some k ≡ None → ⊥
        differs q = cc

        other : (b : Bool) → pointwise nat_eq c.name.name name ≡ b → cond b (Some i) (Some k) ≡ Some k
        other true q = absurd (differs (sym h ∙ sym (ap (number_of cs) ((bytes_decides c.name.name name).0 q)) ∙ new))
        other false q = refl

-- ---- the last of some

pub at_push : {X : Type 0} (xs : List X) (y x : X) (i : ℕ) → slice_get (xs ++ y ∷ []) i ≡ Some x → ((i < length xs) × (slice_get xs i ≡ Some x)) ⊎ ((i ≡ length xs) × (y ≡ x))
at_push [] y x zero h = inr (refl, cc)
at_push [] y x (suc i) h = cc
at_push (z ∷ xs) y x zero h = inl (omega arith, h)
at_push (z ∷ xs) y x (suc i) h = ⊎_elim (λ r. inl (omega (arith, r.0), r.1)) (λ r. inr (ap suc r.0, r.1)) (at_push xs y x i h)

pub differ_push : (cs : List Class) (c : Class) → DifferInName cs → number_of cs c.name.name ≡ None → DifferInName (cs ++ c ∷ [])
differ_push cs c apart new = record { differ = λ place d at. by place d at (at_push cs c d place at) }
  where
    by : (place : ℕ) (d : Class) → slice_get (cs ++ c ∷ []) place ≡ Some d → ((place < length cs) × (slice_get cs place ≡ Some d)) ⊎ ((place ≡ length cs) × (c ≡ d)) → number_of (take place (cs ++ c ∷ [])) d.name.name ≡ None
    by place d at (inl (lt, h)) = ap (λ ds. number_of ds d.name.name) (take-append-le place cs (c ∷ []) (omega (arith, lt))) ∙ apart.differ place d h
    by place d at (inr (e, same)) =
        ap (λ ds. number_of ds d.name.name) (take-append-le place cs (c ∷ []) (omega (arith, e)) ∙ take_all place cs (omega (arith, e)))
        ∙ ap (λ (x : Class). number_of cs x.name.name) (sym same) ∙ new

-- ---- the classes up to one

pub record NumbersSoFar (classes : List Class) (n : ℕ) (table : ClassNumbers) : Type 0 where
  pub numbers : HasNumbers (take n classes) table
  pub differ : DifferInName (take n classes)

pub numbers-none : (classes : List Class) (numbers : ClassNumbers) → ((name : List ℕ) → number_in numbers name ≡ None) → NumbersSoFar classes 0 numbers
numbers-none classes numbers none = record {
  numbers = record { each = none };
  differ = record { differ = λ place c at. absurd (nothing c place at) };
}
  where
    nothing : (c : Class) (place : ℕ) → slice_get [] place ≡ Some c → ⊥
    nothing c place q = cc

pub numbers-more : (classes : List Class) (i word : ℕ) (c : Class) (old new : ClassNumbers) (fresh : Bool) → i < length classes → c ≡ get_or classes i c → NumbersSoFar classes i old → word ≡ i → Updates (pointwise nat_eq) old.by_name new.by_name c.name.name (Some word) → fresh ≡ true → (fresh ≡ true → number_in old c.name.name ≡ None) → NumbersSoFar classes (i + 1) new
numbers-more classes i word c old new fresh lt is so_far same updates held unknown = record {
  numbers = subst (λ cs. HasNumbers cs new) (sym more) (record { each = numbered });
  differ = subst DifferInName (sym more) (differ_push (take i classes) c so_far.differ absent);
}
  where
    more : take (i + 1) classes ≡ take i classes ++ c ∷ []
    more = take_more classes i c lt ∙ ap (λ x. take i classes ++ x ∷ []) (sym is)

    absent : number_of (take i classes) c.name.name ≡ None
    absent = sym (so_far.numbers.each c.name.name) ∙ unknown held

    numbered : (name : List ℕ) → number_in new name ≡ number_of (take i classes ++ c ∷ []) name
    numbered name =
        updates.0 name ∙ ap (cond (pointwise nat_eq c.name.name name) (Some word)) (so_far.numbers.each name)
        ∙ ap (λ k. cond (pointwise nat_eq c.name.name name) (Some k) (number_of (take i classes) name)) same
        ∙ number_push (take i classes) c i (length-take-le i classes (omega (arith, lt))) absent name

pub numbers-all : (classes : List Class) (n : ℕ) (numbers : ClassNumbers) → NumbersSoFar classes n numbers → length classes ≤ n → HasNumbers classes numbers
numbers-all classes n numbers so_far le = subst (λ cs. HasNumbers cs numbers) (take_all n classes le) so_far.numbers

pub differ-all : (classes : List Class) (n : ℕ) (numbers : ClassNumbers) → NumbersSoFar classes n numbers → length classes ≤ n → DifferInName classes
differ-all classes n numbers so_far le = subst DifferInName (take_all n classes le) so_far.differ

pub repeats-is : (classes : List Class) (i : ℕ) (c : Class) (numbers : ClassNumbers) (fresh : Bool) (refusal : Refusal) → i < length classes → c ≡ get_or classes i c → NumbersSoFar classes i numbers → fresh ≡ false → (fresh ≡ false → number_in numbers c.name.name ≢ None) → refusal ≡ record { rule = rule.ClassDefinedTwice; pos = c.name.pos } → RefusesRepeated classes refusal
repeats-is classes i c numbers fresh refusal lt is so_far old known refused = record {
  place = i;
  class = c;
  repeats = record {
    at = slice_get_read classes (length classes) i c refl lt is;
    repeats = λ h. known old (so_far.numbers.each c.name.name ∙ h);
    first = so_far.differ;
  };
  is = refused;
}

pub ruleset numbering = (numbers-none, numbers-more, numbers-all, differ-all, repeats-is)
