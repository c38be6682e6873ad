-- The first conflict and the first stub that are found are those of the features that stay.
use Rattle.std.proofs.Common.{◌≡◌, ℕ, zero, suc, ◌+◌, ◌-◌, ◌<◌, ◌≤◌, Bool, true, false, cond, filter, find, map, List, [], ◌∷◌, None, Some, length, slice_get, take, take_all, refl, sym, ap, subst, ◌∙◌, ◌⊎◌, inl, inr, arith}
use Rattle.std.proofs.lemmas.List.{length-append, length-map}
use Rattle.std.proofs.lemmas.List.Folds.{find-append}
use Rattle.std.proofs.lemmas.Option.{get_or_from_slice_get, slice_get-map, slice_get_within}
use Rattle.std.specs.Option.{option_map, option_or}
use Rattle.sa_ast.specs.declared.class.Feature.{Feature}
use Rattle.sa_ast.specs.declared.class.ClassKind.{ClassKind}
use Rattle.sa_ast.specs.declared.pos.Pos.{Pos}
use Rattle.sa_include.specs.Firsts.{do_any_clash, do_brought_clash, first_with, left_stub, staying_features, written_conflict}
use Rattle.sa_include_conflicts.specs.Sharing.{AreGrouped, IsFirstConflict, IsInConflict, NoConflict, all_features, groups_at, is_set}
use Rattle.sa_include_conflicts.specs.Staying.{all_stay, stays_inherited, stays_written}
use Rattle.sa_include_conflicts.specs.Stub.{IsFirstStub, IsStubLeft, NoStubLeft, is_partial, is_stub_part}
use Rattle.sa_include_conflicts.specs.declared.conflicts.Conflicts.{Conflicts}
use Rattle.sa_include_conflicts.specs.declared.features.ClassFeatures.{ClassFeatures}
use Rattle.sa_include_conflicts.specs.declared.groups.Groups.{Groups}
use Rattle.sa_include.proofs.Firsts.{IsPair, none_found, none_with, of_pair, one_found, one_with, pair_of}
use Rattle.sa_include_conflicts.proofs.Places.{first_part, first_part_back, second_part, second_part_back}

-- ---- the first elements of a list

module _ {A : Type 0} where
  one_of : {x y : A} → Some x ≡ Some y → x ≡ y
  one_of q = cc

  nothing_at : (i : ℕ) (x : A) → slice_get [] i ≡ Some x → ⊥
  nothing_at i x q = cc

  from_front : (k : ℕ) (xs : List A) (i : ℕ) (x : A) → slice_get (take k xs) i ≡ Some x → (slice_get xs i ≡ Some x) × (i < k)
  from_front zero xs i x h = absurd (nothing_at i x h)
  from_front (suc k) [] i x h = absurd (nothing_at i x h)
  from_front (suc k) (y ∷ xs) zero x h = (h, omega arith)
  from_front (suc k) (y ∷ xs) (suc i) x h = let rest = from_front k xs i x h in let lt = rest.1 in (rest.0, omega (arith, lt))

  into_front : (k : ℕ) (xs : List A) (i : ℕ) (x : A) → i < k → slice_get xs i ≡ Some x → slice_get (take k xs) i ≡ Some x
  into_front zero xs i x lt h = absurd (omega (arith, lt))
  into_front (suc k) [] i x lt h = absurd (nothing_at i x h)
  into_front (suc k) (y ∷ xs) zero x lt h = h
  into_front (suc k) (y ∷ xs) (suc i) x lt h = into_front k xs i x (omega (arith, lt)) h

  there_is : (xs : List A) (i : ℕ) → i < length xs → (x : A) × (slice_get xs i ≡ Some x)
  there_is [] i lt = absurd (omega (arith, lt))
  there_is (x ∷ xs) zero lt = (x, refl)
  there_is (x ∷ xs) (suc i) lt = there_is xs i (omega (arith, lt))

gap : (a b : ℕ) → a ≤ b → (i : ℕ) × (a + i ≡ b)
gap a b le = (b - a, omega (arith, le))

-- ---- features one after the other, the first of them at the index `from`

module _ (features : ClassFeatures) (stays : List Bool) where
  -- these are there, and which stay is known of each by itself
  record IsPart (from : ℕ) (xs : List Feature) (keep : Feature → Bool) : Type 0 where
    at : (i : ℕ) (f : Feature) → slice_get xs i ≡ Some f → slice_get (all_features features) (from + i) ≡ Some f
    kept : (i : ℕ) (f : Feature) → slice_get xs i ≡ Some f → is_set stays (from + i) ≡ keep f

  -- what a class writes, and what it includes
  module _ (known : stays ≡ all_stay features) where
    abbrev inherited : List Feature
    inherited = features.inherited.now

    abbrev written : List Feature
    written = features.written.now

    abbrev keep_brought : Feature → Bool
    keep_brought = stays_inherited features.immutable inherited written

    abbrev keep_written : Feature → Bool
    keep_written = stays_written features.immutable inherited written

    count : length (map keep_brought inherited) ≡ length inherited
    count = length-map inherited keep_brought

    written_part : IsPart (length inherited) written keep_written
    written_part = record {
      at = λ i f at. second_part inherited written (length inherited + i) f (omega arith) (ap (slice_get written) (back i) ∙ at);
      kept = λ i f at. ap (λ ms. is_set ms (length inherited + i)) known ∙ get_or_from_slice_get (all_stay features) (length inherited + i) (keep_written f) false (mark i f at);
    }
      where
        back : (i : ℕ) → (length inherited + i) - length inherited ≡ i
        back i = omega arith

        mark : (i : ℕ) (f : Feature) → slice_get written i ≡ Some f → slice_get (all_stay features) (length inherited + i) ≡ Some (keep_written f)
        mark i f at =
            second_part (map keep_brought inherited) (map keep_written written) (length inherited + i) (keep_written f) (omega (arith, count))
            (ap (λ n. slice_get (map keep_written written) ((length inherited + i) - n)) count ∙ ap (slice_get (map keep_written written)) (back i)
            ∙ slice_get-map keep_written written i ∙ ap (option_map keep_written) at)

    brought_part : IsPart 0 inherited keep_brought
    brought_part = record {
      at = λ i f at. first_part inherited written (0 + i) f (ap (slice_get inherited) (zero_plus i) ∙ at);
      kept = λ i f at. ap (λ ms. is_set ms (0 + i)) known ∙ get_or_from_slice_get (all_stay features) (0 + i) (keep_brought f) false (mark i f at);
    }
      where
        zero_plus : (i : ℕ) → 0 + i ≡ i
        zero_plus i = omega arith

        mark : (i : ℕ) (f : Feature) → slice_get inherited i ≡ Some f → slice_get (all_stay features) (0 + i) ≡ Some (keep_brought f)
        mark i f at =
            first_part (map keep_brought inherited) (map keep_written written) (0 + i) (keep_brought f)
            (ap (slice_get (map keep_brought inherited)) (zero_plus i) ∙ slice_get-map keep_brought inherited i ∙ ap (option_map keep_brought) at)

    -- ---- stubs

    abbrev is_stub : Feature → Bool
    is_stub f = is_stub_part f.part

    module _ (kind : ClassKind) where
      stub_at : (from : ℕ) (xs : List Feature) (keep : Feature → Bool) → IsPart from xs keep → (i : ℕ) (f : Feature) → slice_get xs i ≡ Some f → keep f ≡ true → is_stub f ≡ true → IsStubLeft (all_features features) stays (from + i) f
      stub_at from xs keep part i f at k h = record { at = part.at i f at; stub = h; kept = part.kept i f at ∙ k }

      both_parts : find is_stub (staying_features features.immutable inherited written) ≡ option_or (find is_stub (filter keep_brought inherited)) (find is_stub (filter keep_written written))
      both_parts = find-append is_stub (filter keep_brought inherited) (filter keep_written written)

      pub no_stub_left : NoStubLeft kind (all_features features) stays → left_stub kind (staying_features features.immutable inherited written) ≡ None
      no_stub_left none = by (is_partial kind) refl
        where
          by : (b : Bool) → is_partial kind ≡ b → cond b None (find is_stub (staying_features features.immutable inherited written)) ≡ None
          by true e = refl
          by false e =
              both_parts
              ∙ ap (λ o. option_or o (find is_stub (filter keep_written written))) (none_found is_stub keep_brought inherited (λ i f at k h. none.none e (0 + i) f (stub_at 0 inherited keep_brought brought_part i f at k h)))
              ∙ none_found is_stub keep_written written (λ i f at k h. none.none e (length inherited + i) f (stub_at (length inherited) written keep_written written_part i f at k h))

      pub a_stub_left : (pos : Pos) → IsFirstStub kind (all_features features) stays pos → (f : Feature) × (left_stub kind (staying_features features.immutable inherited written) ≡ Some f) × (pos ≡ f.name.pos)
      a_stub_left pos found = (found.feature, ap (λ b. cond b None (find is_stub (staying_features features.immutable inherited written))) found.whole ∙ both_parts ∙ here (near (length inherited)), found.named)
        where
          near : (n : ℕ) → (found.place < n) ⊎ (n ≤ found.place)
          near n = grind arith

          none_before : (from : ℕ) (xs : List Feature) (keep : Feature → Bool) → IsPart from xs keep → (i : ℕ) (f : Feature) → from + i < found.place → slice_get xs i ≡ Some f → keep f ≡ true → is_stub f ≡ true → ⊥
          none_before from xs keep part i f lt at k h = found.first.none (from + i) f lt (stub_at from xs keep part i f at k h)

          here : (found.place < length inherited) ⊎ (length inherited ≤ found.place) → option_or (find is_stub (filter keep_brought inherited)) (find is_stub (filter keep_written written)) ≡ Some found.feature
          here (inl lt) =
              ap (λ o. option_or o (find is_stub (filter keep_written written)))
              (one_found is_stub keep_brought inherited found.place found.feature at
              (sym (brought_part.kept found.place found.feature at) ∙ ap (is_set stays) (zero_plus found.place) ∙ found.left.kept) found.left.stub
              (λ j g lt at_g k_g h_g. none_before 0 inherited keep_brought brought_part j g (omega (arith, lt)) at_g k_g h_g))
            where
              at : slice_get inherited found.place ≡ Some found.feature
              at = first_part_back inherited written found.place found.feature lt found.left.at

              zero_plus : (i : ℕ) → 0 + i ≡ i
              zero_plus i = omega arith
          here (inr le) =
              ap (λ o. option_or o (find is_stub (filter keep_written written)))
              (none_found is_stub keep_brought inherited (λ i f at_f k h. let lt = slice_get_within inherited i f at_f in none_before 0 inherited keep_brought brought_part i f (omega (arith, lt, le)) at_f k h))
              ∙ one_found is_stub keep_written written (found.place - length inherited) found.feature at
              (sym (written_part.kept (found.place - length inherited) found.feature at) ∙ ap (is_set stays) same ∙ found.left.kept) found.left.stub
              (λ j g lt at_g k_g h_g. none_before (length inherited) written keep_written written_part j g (omega (arith, lt, le)) at_g k_g h_g)
            where
              at : slice_get written (found.place - length inherited) ≡ Some found.feature
              at = second_part_back inherited written found.place found.feature le found.left.at

              same : length inherited + (found.place - length inherited) ≡ found.place
              same = omega (arith, le)

-- ---- conflicts

module _ (features : ClassFeatures) (conflicts : Conflicts) (stays : List Bool) (grouped : AreGrouped features conflicts) where
  module _ (from : ℕ) (xs : List Feature) (keep : Feature → Bool) (part : IsPart features stays from xs keep) where
    groups_of : (i : ℕ) (f : Feature) → slice_get xs i ≡ Some f → (m : Groups) × (groups_at conflicts (from + i) ≡ Some m)
    groups_of i f at =
        let within = slice_get_within (all_features features) (from + i) f (part.at i f at) in
        let count = grouped.count in
        there_is conflicts.of.items (from + i) (omega (arith, within, count))

    conflict_of : (i j : ℕ) → IsPair features.immutable keep xs i j → IsInConflict conflicts stays from (from + j)
    conflict_of i j p =
        let m = groups_of i p.earlier p.at_earlier in
        let n = groups_of j p.later p.at_later in
        record {
          groups = n.0;
          here = record { at = n.1; kept = part.kept j p.later p.at_later ∙ p.keeps_later };
          earlier = from + i;
          after = omega arith;
          before = omega (arith, p.order);
          other = m.0;
          there = record { at = m.1; kept = part.kept i p.earlier p.at_earlier ∙ p.keeps_earlier };
          common = (grouped.exactly (from + i) (from + j) p.earlier p.later m.0 n.0 (part.at i p.earlier p.at_earlier) (part.at j p.later p.at_later) m.1 n.1).1 p.clash;
        }

    pair_in : (i j : ℕ) (g : Feature) (h : IsInConflict conflicts stays from (from + j)) → slice_get xs j ≡ Some g → from + i ≡ h.earlier → IsPair features.immutable keep xs i j
    pair_in i j g h at e =
        let order : i < j = omega (arith, e, h.before) in
        let lt = slice_get_within xs j g at in
        let one = there_is xs i (omega (arith, order, lt)) in
        record {
          earlier = one.0;
          later = g;
          order = order;
          at_earlier = one.1;
          at_later = at;
          keeps_earlier = sym (part.kept i one.0 one.1) ∙ ap (is_set stays) e ∙ h.there.kept;
          keeps_later = sym (part.kept j g at) ∙ h.here.kept;
          clash =
              (grouped.exactly (from + i) (from + j) one.0 g h.other h.groups (part.at i one.0 one.1) (part.at j g at) (ap (groups_at conflicts) e ∙ h.there.at) h.here.at).0
              h.common;
        }

    module _ (k : ℕ) where
      abbrev clash_up_to : Bool
      clash_up_to = do_any_clash features.immutable (filter keep (take k xs))

      none_up_to : (to : ℕ) → NoConflict conflicts stays from to → from + k ≤ to → clash_up_to ≡ false
      none_up_to to none le = by clash_up_to refl
        where
          by : (b : Bool) → clash_up_to ≡ b → clash_up_to ≡ false
          by false e = e
          by true e =
              let found = pair_of features.immutable keep (take k xs) e in
              let p = found.2 in
              let first = from_front k xs found.0 p.earlier p.at_earlier in
              let second = from_front k xs found.1 p.later p.at_later in
              let lt = second.1 in
              absurd (none.none (from + found.1) (omega (arith, lt, le)) (conflict_of found.0 found.1 (record {
                earlier = p.earlier;
                later = p.later;
                order = p.order;
                at_earlier = first.0;
                at_later = second.0;
                keeps_earlier = p.keeps_earlier;
                keeps_later = p.keeps_later;
                clash = p.clash;
              })))

      one_up_to : (j : ℕ) (g : Feature) → IsInConflict conflicts stays from (from + j) → slice_get xs j ≡ Some g → j < k → clash_up_to ≡ true
      one_up_to j g h at lt =
          let following = gap from h.earlier h.after in
          let i = following.0 in
          let p = pair_in i j g h at following.1 in
          let order = p.order in
          of_pair features.immutable keep (take k xs) i j (record {
            earlier = p.earlier;
            later = p.later;
            order = p.order;
            at_earlier = into_front k xs i p.earlier (omega (arith, order, lt)) p.at_earlier;
            at_later = into_front k xs j p.later lt p.at_later;
            keeps_earlier = p.keeps_earlier;
            keeps_later = p.keeps_later;
            clash = p.clash;
          })

    abbrev clash_in : List Feature → Bool
    clash_in fs = do_any_clash features.immutable (filter keep fs)

    none_at_all : (to : ℕ) → NoConflict conflicts stays from to → from + length xs ≤ to → first_with clash_in xs ≡ None
    none_at_all to none le = none_with clash_in xs (λ k lt. none_up_to (suc k) to none (omega (arith, lt, le)))

    first_at : (to i : ℕ) (f : Feature) → IsFirstConflict conflicts stays from to (from + i) → slice_get xs i ≡ Some f → first_with clash_in xs ≡ Some f
    first_at to i f first at =
        one_with clash_in xs i f at (one_up_to (suc i) i f first.conflict at (omega arith))
        (λ k lt. none_up_to (suc k) (from + i) first.first (omega (arith, lt)))

  module _ (known : stays ≡ all_stay features) where
    pub no_written_conflict : (first to : ℕ) → first ≡ length features.inherited.now → to ≡ length (all_features features) → NoConflict conflicts stays first to → written_conflict features.immutable features.inherited.now features.written.now ≡ None
    no_written_conflict first to is_first is_to none =
        none_at_all (length features.inherited.now) features.written.now (keep_written features stays known) (written_part features stays known) to (subst (λ n. NoConflict conflicts stays n to) is_first none) (omega (arith, is_to, length-append features.inherited.now features.written.now))

    pub a_written_conflict : (first to place : ℕ) (f : Feature) → first ≡ length features.inherited.now → IsFirstConflict conflicts stays first to place → slice_get (all_features features) place ≡ Some f → written_conflict features.immutable features.inherited.now features.written.now ≡ Some f
    a_written_conflict first to place f is_first found at = by (gap (length features.inherited.now) place le)
      where
        le : length features.inherited.now ≤ place
        le = let after = found.conflict.after in let before = found.conflict.before in omega (arith, is_first, after, before)

        own_place : (i : ℕ) → length features.inherited.now + i ≡ place → i ≡ place - length features.inherited.now
        own_place i e = omega (arith, e)

        by : (i : ℕ) × (length features.inherited.now + i ≡ place) → written_conflict features.immutable features.inherited.now features.written.now ≡ Some f
        by following =
            first_at (length features.inherited.now) features.written.now (keep_written features stays known) (written_part features stays known) to following.0 f
            (subst (IsFirstConflict conflicts stays (length features.inherited.now) to) (sym following.1) (subst (λ n. IsFirstConflict conflicts stays n to place) is_first found))
            (ap (slice_get features.written.now) (own_place following.0 following.1) ∙ second_part_back features.inherited.now features.written.now place f le at)

    -- whether two included features that stay conflict
    pub no_brought_conflict : (to : ℕ) → to ≡ length features.inherited.now → NoConflict conflicts stays 0 to → do_brought_clash features.immutable features.inherited.now features.written.now features.inherited.now ≡ false
    no_brought_conflict to is_to none =
        subst (λ xs. do_brought_clash features.immutable features.inherited.now features.written.now xs ≡ false) (take_all (length features.inherited.now) features.inherited.now (omega arith))
        (none_up_to 0 features.inherited.now (keep_brought features stays known) (brought_part features stays known) (length features.inherited.now) to none (omega (arith, is_to)))

    pub a_brought_conflict : (to place : ℕ) → to ≡ length features.inherited.now → IsFirstConflict conflicts stays 0 to place → do_brought_clash features.immutable features.inherited.now features.written.now features.inherited.now ≡ true
    a_brought_conflict to place is_to found = by (there_is features.inherited.now place lt)
      where
        lt : place < length features.inherited.now
        lt = let within = found.within in omega (arith, is_to, within)

        zero_plus : place ≡ 0 + place
        zero_plus = omega arith

        by : (g : Feature) × (slice_get features.inherited.now place ≡ Some g) → do_brought_clash features.immutable features.inherited.now features.written.now features.inherited.now ≡ true
        by at =
            subst (λ xs. do_brought_clash features.immutable features.inherited.now features.written.now xs ≡ true) (take_all (length features.inherited.now) features.inherited.now (omega arith))
            (one_up_to 0 features.inherited.now (keep_brought features stays known) (brought_part features stays known) (length features.inherited.now) place at.0 (subst (IsInConflict conflicts stays 0) zero_plus found.conflict) at.1 lt)
