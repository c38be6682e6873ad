-- The first conflict and the first stub among the features of a class that stay.
use Rattle.std.proofs.Common.{◌≡◌, ◌||◌, ℕ, zero, suc, ◌<◌, Bool, true, false, cond, filter, find, List, [], ◌∷◌, ◌++◌, None, Some, length, slice_get, take, refl, sym, ap, ◌∙◌, append_assoc, arith}
use Rattle.std.proofs.lemmas.Bool.{false≢true}
use Rattle.std.specs.List.{list_any}
use Rattle.sa_ast.specs.declared.class.Feature.{Feature}
use Rattle.sa_include_conflicts.specs.Clashes.{do_clash}
use Rattle.sa_include.specs.Firsts.{do_any_clash, first_following, first_with}

-- ---- the first element with which a list passes a test

module _ {A : Type 0} (test : List A → Bool) where
  none_behind : (seen more : List A) → ((k : ℕ) → k < length more → test (seen ++ take (suc k) more) ≡ false) → first_following test seen more ≡ None
  none_behind seen [] none = refl
  none_behind seen (x ∷ more) none =
      ap (λ b. cond b (Some x) (first_following test (seen ++ x ∷ []) more)) (none 0 (omega arith))
      ∙ none_behind (seen ++ x ∷ []) more (λ k lt. ap test (append_assoc seen (x ∷ []) (take (suc k) more)) ∙ none (suc k) (omega (arith, lt)))

  pub none_with : (xs : List A) → ((k : ℕ) → k < length xs → test (take (suc k) xs) ≡ false) → first_with test xs ≡ None
  unfolding first_with
  none_with xs none = none_behind [] xs none

  one_behind : (seen more : List A) (i : ℕ) (x : A) → slice_get more i ≡ Some x → test (seen ++ take (suc i) more) ≡ true → ((k : ℕ) → k < i → test (seen ++ take (suc k) more) ≡ false) → first_following test seen more ≡ Some x
  one_behind seen [] i x at here none = cc
  one_behind seen (y ∷ more) zero x at here none = ap (λ b. cond b (Some y) (first_following test (seen ++ y ∷ []) more)) here ∙ at
  one_behind seen (y ∷ more) (suc i) x at here none =
      ap (λ b. cond b (Some y) (first_following test (seen ++ y ∷ []) more)) (none 0 (omega arith))
      ∙ one_behind (seen ++ y ∷ []) more i x at (ap test (append_assoc seen (y ∷ []) (take (suc i) more)) ∙ here)
      (λ k lt. ap test (append_assoc seen (y ∷ []) (take (suc k) more)) ∙ none (suc k) (omega (arith, lt)))

  pub one_with : (xs : List A) (i : ℕ) (x : A) → slice_get xs i ≡ Some x → test (take (suc i) xs) ≡ true → ((k : ℕ) → k < i → test (take (suc k) xs) ≡ false) → first_with test xs ≡ Some x
  unfolding first_with
  one_with xs i x at here none = one_behind [] xs i x at here none

-- ---- elements that pass a test, by their indices

module _ {A : Type 0} where
  one_of : {x y : A} → Some x ≡ Some y → x ≡ y
  one_of q = cc

  any_kept : (p keep : A → Bool) (xs : List A) → list_any p (filter keep xs) ≡ true → (i : ℕ) × (x : A) × (slice_get xs i ≡ Some x) × (keep x ≡ true) × (p x ≡ true)
  any_kept p keep [] h = absurd (false≢true h)
  any_kept p keep (x ∷ xs) h = by (keep x) (p x) refl refl h (any_kept p keep xs)
    where
      by : (k b : Bool) → keep x ≡ k → p x ≡ b → list_any p (cond k (x ∷ filter keep xs) (filter keep xs)) ≡ true → (list_any p (filter keep xs) ≡ true → (i : ℕ) × (y : A) × (slice_get xs i ≡ Some y) × (keep y ≡ true) × (p y ≡ true)) → (i : ℕ) × (y : A) × (slice_get (x ∷ xs) i ≡ Some y) × (keep y ≡ true) × (p y ≡ true)
      by true true e q g later = (0, x, refl, e, q)
      by true false e q g later = let rest = later (sym (ap (λ b. b || list_any p (filter keep xs)) q) ∙ g) in (suc rest.0, rest.1, rest.2, rest.3, rest.4)
      by false b e q g later = let rest = later g in (suc rest.0, rest.1, rest.2, rest.3, rest.4)

  kept_any : (p keep : A → Bool) (xs : List A) (i : ℕ) (x : A) → slice_get xs i ≡ Some x → keep x ≡ true → p x ≡ true → list_any p (filter keep xs) ≡ true
  kept_any p keep [] i x at k h = cc
  kept_any p keep (y ∷ xs) zero x at k h =
      ap (λ b. list_any p (cond b (y ∷ filter keep xs) (filter keep xs))) (ap keep (one_of at) ∙ k)
      ∙ ap (λ b. b || list_any p (filter keep xs)) (ap p (one_of at) ∙ h)
  kept_any p keep (y ∷ xs) (suc i) x at k h = by (keep y) (kept_any p keep xs i x at k h)
    where
      or_true : (b : Bool) → (b || true) ≡ true
      or_true true = refl
      or_true false = refl

      by : (b : Bool) → list_any p (filter keep xs) ≡ true → list_any p (cond b (y ∷ filter keep xs) (filter keep xs)) ≡ true
      by true g = ap (λ b. p y || b) g ∙ or_true (p y)
      by false g = g

  -- the first that passes two tests
  pub none_found : (p keep : A → Bool) (xs : List A) → ((i : ℕ) (x : A) → slice_get xs i ≡ Some x → keep x ≡ true → p x ≡ true → ⊥) → find p (filter keep xs) ≡ None
  none_found p keep [] none = refl
  none_found p keep (x ∷ xs) none = by (keep x) (p x) refl refl (none_found p keep xs (λ i y at k h. none (suc i) y at k h))
    where
      by : (k b : Bool) → keep x ≡ k → p x ≡ b → find p (filter keep xs) ≡ None → find p (cond k (x ∷ filter keep xs) (filter keep xs)) ≡ None
      by true true e q rest = absurd (none 0 x refl e q)
      by true false e q rest = ap (λ b. cond b (Some x) (find p (filter keep xs))) q ∙ rest
      by false b e q rest = rest

  pub one_found : (p keep : A → Bool) (xs : List A) (i : ℕ) (x : A) → slice_get xs i ≡ Some x → keep x ≡ true → p x ≡ true → ((j : ℕ) (y : A) → j < i → slice_get xs j ≡ Some y → keep y ≡ true → p y ≡ true → ⊥) → find p (filter keep xs) ≡ Some x
  one_found p keep [] i x at k h none = cc
  one_found p keep (y ∷ xs) zero x at k h none =
      ap (λ b. find p (cond b (y ∷ filter keep xs) (filter keep xs))) (ap keep (one_of at) ∙ k)
      ∙ ap (λ b. cond b (Some y) (find p (filter keep xs))) (ap p (one_of at) ∙ h) ∙ at
  one_found p keep (y ∷ xs) (suc i) x at k h none =
      by (keep y) (p y) refl refl (one_found p keep xs i x at k h (λ j z lt at_z k_z h_z. none (suc j) z (omega (arith, lt)) at_z k_z h_z))
    where
      by : (e b : Bool) → keep y ≡ e → p y ≡ b → find p (filter keep xs) ≡ Some x → find p (cond e (y ∷ filter keep xs) (filter keep xs)) ≡ Some x
      by true true e q rest = absurd (none 0 y (omega arith) refl e q)
      by true false e q rest = ap (λ b. cond b (Some y) (find p (filter keep xs))) q ∙ rest
      by false b e q rest = rest

-- ---- two features that stay and conflict

module _ (immutable : Bool) (keep : Feature → Bool) where
  -- the first of them is at an index before the other
  pub record IsPair (xs : List Feature) (before place : ℕ) : Type 0 where
    pub earlier : Feature
    pub later : Feature
    pub order : before < place
    pub at_earlier : slice_get xs before ≡ Some earlier
    pub at_later : slice_get xs place ≡ Some later
    pub keeps_earlier : keep earlier ≡ true
    pub keeps_later : keep later ≡ true
    pub clash : do_clash immutable earlier later ≡ true

  pub pair_of : (xs : List Feature) → do_any_clash immutable (filter keep xs) ≡ true → (i : ℕ) × (j : ℕ) × IsPair xs i j
  pair_of [] h = absurd (false≢true h)
  pair_of (f ∷ xs) h = by (keep f) refl h (pair_of xs)
    where
      following : (i : ℕ) × (j : ℕ) × IsPair xs i j → (i : ℕ) × (j : ℕ) × IsPair (f ∷ xs) i j
      following rest =
          let p = rest.2 in (
            suc rest.0,
            suc rest.1,
            record {
              earlier = p.earlier;
              later = p.later;
              order = omega (arith, p.order);
              at_earlier = p.at_earlier;
              at_later = p.at_later;
              keeps_earlier = p.keeps_earlier;
              keeps_later = p.keeps_later;
              clash = p.clash;
            },
          )

      here : keep f ≡ true → list_any (do_clash immutable f) (filter keep xs) ≡ true → (i : ℕ) × (j : ℕ) × IsPair (f ∷ xs) i j
      here e g =
          let one = any_kept (do_clash immutable f) keep xs g in (
            0,
            suc one.0,
            record {
              earlier = f;
              later = one.1;
              order = omega arith;
              at_earlier = refl;
              at_later = one.2;
              keeps_earlier = e;
              keeps_later = one.3;
              clash = one.4;
            },
          )

      both : (b c : Bool) → list_any (do_clash immutable f) (filter keep xs) ≡ b → do_any_clash immutable (filter keep xs) ≡ c → keep f ≡ true → (b || c) ≡ true → (do_any_clash immutable (filter keep xs) ≡ true → (i : ℕ) × (j : ℕ) × IsPair xs i j) → (i : ℕ) × (j : ℕ) × IsPair (f ∷ xs) i j
      both true c p q e g later = here e p
      both false true p q e g later = following (later q)
      both false false p q e g later = absurd (false≢true g)

      by : (k : Bool) → keep f ≡ k → do_any_clash immutable (cond k (f ∷ filter keep xs) (filter keep xs)) ≡ true → (do_any_clash immutable (filter keep xs) ≡ true → (i : ℕ) × (j : ℕ) × IsPair xs i j) → (i : ℕ) × (j : ℕ) × IsPair (f ∷ xs) i j
      by true e g later = both (list_any (do_clash immutable f) (filter keep xs)) (do_any_clash immutable (filter keep xs)) refl refl e g later
      by false e g later = following (later g)

  pub of_pair : (xs : List Feature) (i j : ℕ) → IsPair xs i j → do_any_clash immutable (filter keep xs) ≡ true
  of_pair [] i j p = absurd (nothing i p.earlier p.at_earlier)
    where
      nothing : (i : ℕ) (x : Feature) → slice_get [] i ≡ Some x → ⊥
      nothing i x q = cc
  of_pair (f ∷ xs) i zero p = absurd (omega (arith, p.order))
  of_pair (f ∷ xs) zero (suc j) p =
      ap (λ b. do_any_clash immutable (cond b (f ∷ filter keep xs) (filter keep xs))) (ap keep (one_of p.at_earlier) ∙ p.keeps_earlier)
      ∙ ap (λ b. b || do_any_clash immutable (filter keep xs))
      (kept_any (do_clash immutable f) keep xs j p.later p.at_later p.keeps_later (ap (λ x. do_clash immutable x p.later) (one_of p.at_earlier) ∙ p.clash))
  of_pair (f ∷ xs) (suc i) (suc j) p = by (keep f) (of_pair xs i j (record {
    earlier = p.earlier;
    later = p.later;
    order = omega (arith, p.order);
    at_earlier = p.at_earlier;
    at_later = p.at_later;
    keeps_earlier = p.keeps_earlier;
    keeps_later = p.keeps_later;
    clash = p.clash;
  }))
    where
      or_true : (b : Bool) → (b || true) ≡ true
      or_true true = refl
      or_true false = refl

      by : (k : Bool) → do_any_clash immutable (filter keep xs) ≡ true → do_any_clash immutable (cond k (f ∷ filter keep xs) (filter keep xs)) ≡ true
      by true g = ap (λ b. list_any (do_clash immutable f) (filter keep xs) || b) g ∙ or_true (list_any (do_clash immutable f) (filter keep xs))
      by false g = g
