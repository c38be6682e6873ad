-- Signatures in groups of those that conflict with one another.
use Rattle.std.proofs.Common.{◌≡◌, ◌↔◌, ℕ, zero, suc, ◌+◌, ◌<◌, ◌≤◌, Bool, true, false, not, cond, ◌||◌, List, [], ◌∷◌, ◌++◌, Option, None, Some, length, get_or, slice_get, take, refl, sym, ap, subst, ◌∙◌, append_assoc, ◌⊎◌, inl, inr, arith}
use Rattle.std.proofs.Math.Path.{fun_ext}
use Rattle.std.proofs.lemmas.Bool.{false≢true, true≢false}
use Rattle.std.proofs.lemmas.List.{append-nil, take_all, take_more}
use Rattle.std.proofs.lemmas.List.Folds.{list_any-append}
use Rattle.std.proofs.lemmas.List.Sums.{passes_at_first}
use Rattle.std.proofs.lemmas.Option.{get_or_from_slice_get, slice_get_within}
use Rattle.std.proofs.lemmas.Slice.Zip.{AllZip-long, all_zipped_more}
use Rattle.std.specs.List.{AllZip, list_any, position_or_len}
use Rattle.std.specs.Option.{option_map, option_map_or}
use Rattle.indexmap.specs.IndexSet.{insert_key}
use Rattle.sa_ast.specs.declared.class.Feature.{Feature}
use Rattle.sa_subst.specs.declared.sig.Sig.{Sig}
use Rattle.sa_overload.specs.Conflict.{do_conflict}
use Rattle.sa_include_conflicts.specs.declared.conflicts.Conflicts.{Conflicts}
use Rattle.sa_include_conflicts.specs.declared.conflicts.Grouping.{Grouping}
use Rattle.sa_include_conflicts.specs.declared.features.ClassFeatures.{ClassFeatures}
use Rattle.sa_include_conflicts.specs.declared.groups.Groups.{Groups}
use Rattle.sa_include_conflicts.specs.Clashes.{do_clash, meets}
use Rattle.sa_include_conflicts.specs.KnownSignatures.{IsGroupOf, IsGrouped, IsGroupedBy, group_number}
use Rattle.sa_include_conflicts.specs.SignatureKeys.{conflict_equiv}
use Rattle.sa_include_conflicts.specs.Sharing.{AreGrouped, HasGroup, HaveCommon, all_features}
use Rattle.sa_include_conflicts.specs.Signatures.{own_signature, writer_signature}

-- ---- the first that passes a test

module _ {A : Type 0} (p : A → Bool) where
  none_position : (xs : List A) → list_any p xs ≡ false → position_or_len p xs ≡ length xs
  none_position [] h = refl
  none_position (x ∷ xs) h = by (p x) h (none_position xs)
    where
      by : (b : Bool) → (b || list_any p xs) ≡ false → (list_any p xs ≡ false → position_or_len p xs ≡ length xs) → cond (not b) (1 + position_or_len p xs) 0 ≡ length (x ∷ xs)
      by true g rest = absurd (true≢false g)
      by false g rest = let e = rest g in omega (arith, e)

  new_position : (xs : List A) (y : A) → list_any p xs ≡ false → p y ≡ true → position_or_len p (xs ++ y ∷ []) ≡ length xs
  new_position [] y h e = ap (λ b. cond (not b) (1 + 0) 0) e
  new_position (x ∷ xs) y h e = by (p x) h (λ g. new_position xs y g e)
    where
      by : (b : Bool) → (b || list_any p xs) ≡ false → (list_any p xs ≡ false → position_or_len p (xs ++ y ∷ []) ≡ length xs) → cond (not b) (1 + position_or_len p (xs ++ y ∷ [])) 0 ≡ length (x ∷ xs)
      by true g rest = absurd (true≢false g)
      by false g rest = let q = rest g in omega (arith, q)

  kept_position : (xs ys : List A) → list_any p xs ≡ true → position_or_len p (xs ++ ys) ≡ position_or_len p xs
  kept_position [] ys h = absurd (false≢true h)
  kept_position (x ∷ xs) ys h = by (p x) h (kept_position xs ys)
    where
      by : (b : Bool) → (b || list_any p xs) ≡ true → (list_any p xs ≡ true → position_or_len p (xs ++ ys) ≡ position_or_len p xs) → cond (not b) (1 + position_or_len p (xs ++ ys)) 0 ≡ cond (not b) (1 + position_or_len p xs) 0
      by true g rest = refl
      by false g rest = ap (λ n. 1 + n) (rest g)

  kept_any : (xs ys : List A) → list_any p xs ≡ true → list_any p (xs ++ ys) ≡ true
  kept_any xs ys h = list_any-append p xs ys ∙ ap (λ b. b || list_any p ys) h

  any_within : (xs : List A) → list_any p xs ≡ true → position_or_len p xs < length xs
  any_within [] h = absurd (false≢true h)
  any_within (x ∷ xs) h = by (p x) h (any_within xs)
    where
      by : (b : Bool) → (b || list_any p xs) ≡ true → (list_any p xs ≡ true → position_or_len p xs < length xs) → cond (not b) (1 + position_or_len p xs) 0 < length (x ∷ xs)
      by true g rest = omega arith
      by false g rest = let lt = rest g in omega (arith, lt)

-- ---- the group of a signature

pub group_found : (s : Sig) (old new : List Sig) (group : ℕ) → new ≡ insert_key do_conflict old s → group ≡ position_or_len (do_conflict s) old → IsGroupOf s old new group
group_found s old new group is at = by (list_any (do_conflict s) old) refl is
  where
    by : (b : Bool) → list_any (do_conflict s) old ≡ b → new ≡ cond b old (old ++ s ∷ []) → IsGroupOf s old new group
    by true h e = record {
      more = [];
      grown = e ∙ sym (append-nil old);
      known = ap (list_any (do_conflict s)) e ∙ h;
      is = at ∙ ap (position_or_len (do_conflict s)) (sym e);
    }
    by false h e = record {
      more = s ∷ [];
      grown = e;
      known = ap (list_any (do_conflict s)) e ∙ list_any-append (do_conflict s) old (s ∷ []) ∙ ap (λ b. b || (do_conflict s s || false)) h ∙ ap (λ b. b || false) (conflict_equiv.refl s);
      is = at ∙ none_position (do_conflict s) old h ∙ sym (new_position (do_conflict s) old s h (conflict_equiv.refl s)) ∙ ap (position_or_len (do_conflict s)) (sym e);
    }

-- ---- the groups of a feature

module _ (immutable : Bool) (f : Feature) (groups : Groups) where
  pub grouped_one : (old new : List Sig) (own : ℕ) → IsGroupOf (own_signature f) old new own → writer_signature immutable f ≡ None → groups.own ≡ own → groups.writer ≡ None → IsGroupedBy immutable old new f groups
  grouped_one old new own one none is_own is_writer = record {
    more = one.more;
    grown = one.grown;
    grouped = record {
      known = one.known;
      own = is_own ∙ one.is;
      writer_known = ap (λ o. option_map_or (λ w. list_any (do_conflict w) new) o true) none;
      writer = is_writer ∙ sym (ap (option_map (group_number new)) none);
    };
  }

  pub grouped_two : (old between new : List Sig) (own writer : ℕ) (w : Sig) → IsGroupOf (own_signature f) old between own → writer_signature immutable f ≡ Some w → IsGroupOf w between new writer → groups.own ≡ own → groups.writer ≡ Some writer → IsGroupedBy immutable old new f groups
  grouped_two old between new own writer w one is two is_own is_writer = record {
    more = one.more ++ two.more;
    grown = two.grown ∙ ap (λ ks. ks ++ two.more) one.grown ∙ append_assoc old one.more two.more;
    grouped = record {
      known = ap (list_any (do_conflict (own_signature f))) two.grown ∙ kept_any (do_conflict (own_signature f)) between two.more one.known;
      own = is_own ∙ one.is ∙ sym (ap (position_or_len (do_conflict (own_signature f))) two.grown ∙ kept_position (do_conflict (own_signature f)) between two.more one.known);
      writer_known = ap (λ o. option_map_or (λ v. list_any (do_conflict v) new) o true) is ∙ two.known;
      writer = is_writer ∙ ap Some two.is ∙ sym (ap (option_map (group_number new)) is);
    };
  }

-- ---- features that share groups

module _ (immutable : Bool) where
  -- one of the signatures of a feature
  abbrev HasSignature : Feature → Sig → Type 0
  HasSignature f s = (own_signature f ≡ s) ⊎ (writer_signature immutable f ≡ Some s)

  or_right : (a b : Bool) → b ≡ true → (a || b) ≡ true
  or_right true b h = refl
  or_right false b h = h

  met_by : (f : Feature) (t : Sig) → meets immutable f t ≡ true → (s : Sig) × HasSignature f s × (do_conflict s t ≡ true)
  met_by f t h = by (do_conflict (own_signature f) t) (writer_signature immutable f) refl refl h
    where
      by : (b : Bool) (o : Option Sig) → do_conflict (own_signature f) t ≡ b → writer_signature immutable f ≡ o → (b || option_map_or (λ w. do_conflict w t) o false) ≡ true → (s : Sig) × HasSignature f s × (do_conflict s t ≡ true)
      by true o p q r = (own_signature f, inl refl, p)
      by false None p q r = absurd (false≢true r)
      by false (Some w) p q r = (w, inr q, r)

  clash_by : (f g : Feature) → do_clash immutable f g ≡ true → (s : Sig) × (t : Sig) × HasSignature f s × HasSignature g t × (do_conflict s t ≡ true)
  clash_by f g h = by (meets immutable f (own_signature g)) (writer_signature immutable g) refl refl h
    where
      by : (b : Bool) (o : Option Sig) → meets immutable f (own_signature g) ≡ b → writer_signature immutable g ≡ o → (b || option_map_or (meets immutable f) o false) ≡ true → (s : Sig) × (t : Sig) × HasSignature f s × HasSignature g t × (do_conflict s t ≡ true)
      by true o p q r = let m = met_by f (own_signature g) p in (m.0, own_signature g, m.1, inl refl, m.2)
      by false None p q r = absurd (false≢true r)
      by false (Some w) p q r = let m = met_by f w r in (m.0, w, m.1, inr q, m.2)

  meets_from : (f : Feature) (s t : Sig) → HasSignature f s → do_conflict s t ≡ true → meets immutable f t ≡ true
  meets_from f s t (inl e) h = ap (λ b. b || option_map_or (λ w. do_conflict w t) (writer_signature immutable f) false) (ap (λ x. do_conflict x t) e ∙ h)
  meets_from f s t (inr e) h = or_right (do_conflict (own_signature f) t) (option_map_or (λ w. do_conflict w t) (writer_signature immutable f) false) (ap (λ o. option_map_or (λ w. do_conflict w t) o false) e ∙ h)

  clash_from : (f g : Feature) (s t : Sig) → HasSignature f s → HasSignature g t → do_conflict s t ≡ true → do_clash immutable f g ≡ true
  clash_from f g s t has (inl e) h = ap (λ b. b || option_map_or (meets immutable f) (writer_signature immutable g) false) (ap (meets immutable f) e ∙ meets_from f s t has h)
  clash_from f g s t has (inr e) h = or_right (meets immutable f (own_signature g)) (option_map_or (meets immutable f) (writer_signature immutable g) false) (ap (λ o. option_map_or (meets immutable f) o false) e ∙ meets_from f s t has h)

  module _ (firsts : List Sig) where
    number_same : (s t : Sig) → do_conflict s t ≡ true → group_number firsts s ≡ group_number firsts t
    number_same s t h = ap (λ p. position_or_len p firsts) (fun_ext (λ x. conflict_equiv.congr s t x h))

    same_number : (s t : Sig) → list_any (do_conflict s) firsts ≡ true → list_any (do_conflict t) firsts ≡ true → group_number firsts s ≡ group_number firsts t → do_conflict s t ≡ true
    same_number s t knows knows_too e =
        let k = get_or firsts (group_number firsts s) s in
        let first : do_conflict s k ≡ true = passes_at_first (do_conflict s) firsts s (any_within (do_conflict s) firsts knows) in
        let second : do_conflict t k ≡ true = ap (λ n. do_conflict t (get_or firsts n s)) e ∙ passes_at_first (do_conflict t) firsts s (any_within (do_conflict t) firsts knows_too) in
        conflict_equiv.congr s k t first ∙ conflict_equiv.symm k t ∙ second

    signature_of : (f : Feature) (groups : Groups) (n : ℕ) → IsGrouped immutable firsts f groups → HasGroup groups n → (s : Sig) × HasSignature f s × (list_any (do_conflict s) firsts ≡ true) × (group_number firsts s ≡ n)
    signature_of f groups n grouped (inl e) = (own_signature f, inl refl, grouped.known, sym grouped.own ∙ e)
    signature_of f groups n grouped (inr e) = by (writer_signature immutable f) refl grouped.writer_known (sym grouped.writer ∙ e)
      where
        one : (a b : ℕ) → Some a ≡ Some b → a ≡ b
        one a b q = cc

        differs : Some n ≡ None → ⊥
        differs q = cc

        by : (o : Option Sig) → writer_signature immutable f ≡ o → option_map_or (λ w. list_any (do_conflict w) firsts) o true ≡ true → option_map (group_number firsts) o ≡ Some n → (s : Sig) × HasSignature f s × (list_any (do_conflict s) firsts ≡ true) × (group_number firsts s ≡ n)
        by None p known q = absurd (differs (sym q))
        by (Some w) p known q = (w, inr p, known, one (group_number firsts w) n q)

    group_of : (f : Feature) (groups : Groups) (s : Sig) → IsGrouped immutable firsts f groups → HasSignature f s → HasGroup groups (group_number firsts s)
    group_of f groups s grouped (inl e) = inl (grouped.own ∙ ap (group_number firsts) e)
    group_of f groups s grouped (inr e) = inr (grouped.writer ∙ ap (option_map (group_number firsts)) e)

    shared_groups : (f g : Feature) (m n : Groups) → IsGrouped immutable firsts f m → IsGrouped immutable firsts g n → HaveCommon m n ↔ (do_clash immutable f g ≡ true)
    shared_groups f g m n grouped grouped_too = (into, from)
      where
        into : HaveCommon m n → do_clash immutable f g ≡ true
        into h =
            let a = signature_of f m h.0 grouped h.1 in
            let b = signature_of g n h.0 grouped_too h.2 in
            clash_from f g a.0 b.0 a.1 b.1 (same_number a.0 b.0 a.2 b.2 (a.3 ∙ sym b.3))

        from : do_clash immutable f g ≡ true → HaveCommon m n
        from h =
            let c = clash_by f g h in
            (group_number firsts c.0, group_of f m c.0 grouped c.2, subst (HasGroup n) (sym (number_same c.0 c.1 c.4)) (group_of g n c.1 grouped_too c.3))

-- ---- one feature more

nothing_at : {A : Type 0} (i : ℕ) (x : A) → slice_get [] i ≡ Some x → ⊥
nothing_at i x p = cc

module _ {A B : Type 0} where
  zip_weaker : (R S : A → B → Type 0) → ((x : A) (y : B) → R x y → S x y) → (xs : List A) (ys : List B) → AllZip R xs ys → AllZip S xs ys
  zip_weaker R S f [] [] h = tt
  zip_weaker R S f [] (y ∷ ys) h = absurd h
  zip_weaker R S f (x ∷ xs) [] h = absurd h
  zip_weaker R S f (x ∷ xs) (y ∷ ys) h = (f x y h.0, zip_weaker R S f xs ys h.1)

  zip_at : (R : A → B → Type 0) (xs : List A) (ys : List B) (i : ℕ) (x : A) (y : B) → AllZip R xs ys → slice_get xs i ≡ Some x → slice_get ys i ≡ Some y → R x y
  zip_at R [] ys i x y h p q = absurd (nothing_at i x p)
  zip_at R (a ∷ xs) [] i x y h p q = absurd h
  zip_at R (a ∷ xs) (b ∷ ys) zero x y h p q = subst (R x) (one_b q) (subst (λ z. R z b) (one_a p) h.0)
    where
      one_a : Some a ≡ Some x → a ≡ x
      one_a e = cc

      one_b : Some b ≡ Some y → b ≡ y
      one_b e = cc
  zip_at R (a ∷ xs) (b ∷ ys) (suc i) x y h p q = zip_at R xs ys i x y h.1 p q

-- the features up to an index have these groups
pub record GroupedUpTo (features : ClassFeatures) (place : ℕ) (grouping : Grouping) (of : List Groups) : Type 0 where
  pub groups : AllZip (IsGrouped features.immutable grouping.known.keys) (take place (all_features features)) of
  pub immutable : grouping.immutable ≡ features.immutable

pub grouped_none : (features : ClassFeatures) (grouping : Grouping) (of : List Groups) → grouping.immutable ≡ features.immutable → of ≡ [] → GroupedUpTo features 0 grouping of
grouped_none features grouping of same none = record {
  groups = subst (AllZip (IsGrouped features.immutable grouping.known.keys) []) (sym none) tt;
  immutable = same;
}

still_grouped : (immutable : Bool) (old new more : List Sig) (f : Feature) (groups : Groups) → new ≡ old ++ more → IsGrouped immutable old f groups → IsGrouped immutable new f groups
still_grouped immutable old new more f groups grown grouped = record {
  known = ap (list_any (do_conflict (own_signature f))) grown ∙ kept_any (do_conflict (own_signature f)) old more grouped.known;
  own = grouped.own ∙ number (own_signature f) grouped.known;
  writer_known = (by (writer_signature immutable f) grouped.writer_known).0;
  writer = grouped.writer ∙ (by (writer_signature immutable f) grouped.writer_known).1;
}
  where
    number : (s : Sig) → list_any (do_conflict s) old ≡ true → group_number old s ≡ group_number new s
    number s h = sym (ap (position_or_len (do_conflict s)) grown ∙ kept_position (do_conflict s) old more h)

    by : (o : Option Sig) → option_map_or (λ w. list_any (do_conflict w) old) o true ≡ true → (option_map_or (λ w. list_any (do_conflict w) new) o true ≡ true) × (option_map (group_number old) o ≡ option_map (group_number new) o)
    by None h = (refl, refl)
    by (Some w) h = (ap (list_any (do_conflict w)) grown ∙ kept_any (do_conflict w) old more h, ap Some (number w h))

module _ (features : ClassFeatures) (grouping : Grouping) where
  abbrev all : List Feature
  all = all_features features

  abbrev grouped : Feature → Groups → Type 0
  grouped = IsGrouped features.immutable grouping.known.keys

  pub grouped_more : (place : ℕ) (f : Feature) (old : Grouping) (of more : List Groups) (groups : Groups) → slice_get (all_features features) place ≡ Some f → GroupedUpTo features place old of → IsGroupedBy old.immutable old.known.keys grouping.known.keys f groups → grouping.immutable ≡ old.immutable → more ≡ of ++ groups ∷ [] → GroupedUpTo features (place + 1) grouping more
  grouped_more place f old of more groups at upto adds same pushed = record {
    groups =
        subst (AllZip grouped (take (place + 1) all)) (sym pushed)
        (subst (λ fs. AllZip grouped fs (of ++ groups ∷ [])) (sym next)
        (all_zipped_more grouped (take place all) of f groups kept own));
    immutable = same ∙ upto.immutable;
  }
    where
      next : take (place + 1) all ≡ take place all ++ f ∷ []
      next = take_more all place f (slice_get_within all place f at) ∙ ap (λ x. take place all ++ x ∷ []) (get_or_from_slice_get all place f f at)

      kept : AllZip grouped (take place all) of
      kept =
          zip_weaker (IsGrouped features.immutable old.known.keys) grouped
          (λ x y h. still_grouped features.immutable old.known.keys grouping.known.keys adds.more x y adds.grown h) (take place all) of upto.groups

      own : grouped f groups
      own = subst (λ b. IsGrouped b grouping.known.keys f groups) upto.immutable adds.grouped

  pub grouped_all : (place : ℕ) (of : List Groups) (conflicts : Conflicts) → GroupedUpTo features place grouping of → length (all_features features) ≤ place → conflicts.of.items ≡ of → AreGrouped features conflicts
  grouped_all place of conflicts upto le is = record {
    count = AllZip-long grouped all conflicts.of.items each;
    exactly = λ p q f g m n at_p at_q groups_p groups_q.
        shared_groups features.immutable grouping.known.keys f g m n
        (zip_at grouped all conflicts.of.items p f m each at_p groups_p)
        (zip_at grouped all conflicts.of.items q g n each at_q groups_q);
  }
    where
      each : AllZip grouped all conflicts.of.items
      each = subst (AllZip grouped all) (sym is) (subst (λ fs. AllZip grouped fs of) (take_all place all le) upto.groups)

pub ruleset groupings = (grouped_none, grouped_more, grouped_all)
