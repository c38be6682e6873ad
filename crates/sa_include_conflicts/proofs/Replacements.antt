-- Which features of a class are replaced.
use Rattle.std.proofs.Common.{◌≡◌, ◌↔◌, ◌||◌, ℕ, ◌+◌, ◌-◌, ◌<◌, ◌≤◌, Bool, true, false, not, cond, filter, map, List, [], ◌∷◌, ◌++◌, Some, length, get_or, slice_get, take, refl, sym, ap, subst, ◌∙◌, inl, inr, ⊎_elim, arith, take_all}
use Rattle.std.proofs.lemmas.Bool.{false≢true}
use Rattle.std.proofs.lemmas.List.{append-nil, length-append, length-map, take_more}
use Rattle.std.proofs.lemmas.List.Elements.{filter_more}
use Rattle.std.proofs.lemmas.List.Folds.{list_any-append}
use Rattle.std.proofs.lemmas.Option.{get_or_from_slice_get, slice_get-map, slice_get_read, slice_get_within}
use Rattle.std.specs.Option.{option_map}
use Rattle.std.specs.List.{list_any}
use Rattle.sa_ast.specs.declared.class.Feature.{Feature}
use Rattle.sa_include_conflicts.specs.Clashes.{do_clash}
use Rattle.sa_include_conflicts.specs.Sharing.{AddsGroups, AddsWhere, AreGrouped, HaveCommon, NoneMarked, all_features, groups_at, has_marked}
use Rattle.sa_include_conflicts.specs.Staying.{AreMarked, AreReplacing, all_stay, inherited_bodies, inherited_kept, is_body, meets_any, stays_inherited, stays_written, written_bodies, written_kept, written_stubs}
use Rattle.sa_include_conflicts.specs.Stub.{is_stub_part}
use Rattle.sa_include_conflicts.specs.declared.conflicts.Conflicts.{Conflicts}
use Rattle.sa_include_conflicts.specs.declared.features.ClassFeatures.{ClassFeatures}
use Rattle.sa_include_conflicts.specs.declared.groups.Groups.{Groups}
use Rattle.sa_include_conflicts.specs.declared.groups.Visited.{Visited}
use Rattle.sa_include_conflicts.specs.declared.replacement.ReplacementMarks.{ReplacementMarks}
use Rattle.sa_include_conflicts.proofs.Marking.{marked_one, unmarked}
use Rattle.sa_include_conflicts.proofs.Places.{first_part, first_part_back, second_part, second_part_back}

module _ (features : ClassFeatures) (conflicts : Conflicts) where
  abbrev all : List Feature
  all = all_features features

  -- ---- marks

  pub nothing_marked : (marks : Visited) → NoneMarked marks → AreMarked features conflicts [] marks
  unfolding meets_any
  nothing_marked marks none = record { exactly = λ place f groups at groups_are. by groups (has_marked groups marks) refl }
    where
      by : (groups : Groups) (b : Bool) → has_marked groups marks ≡ b → has_marked groups marks ≡ false
      by groups false e = e
      by groups true e = let one = marked_one groups marks e in absurd (false≢true (sym (none.none one.0) ∙ one.2))

  -- one feature more, with its groups
  marked_behind : (marked : List Feature) (old new : Visited) (place : ℕ) (g : Feature) (m : Groups) → AreGrouped features conflicts → slice_get all place ≡ Some g → groups_at conflicts place ≡ Some m → AreMarked features conflicts marked old → AddsGroups m old new → AreMarked features conflicts (marked ++ g ∷ []) new
  unfolding meets_any
  marked_behind marked old new place g m grouped at groups_are before adds = record { exactly = λ q f n at_q groups_q. each q f n at_q groups_q }
    where
      each : (q : ℕ) (f : Feature) (n : Groups) → slice_get all q ≡ Some f → groups_at conflicts q ≡ Some n → has_marked n new ≡ list_any (λ x. do_clash features.immutable x f) (marked ++ g ∷ [])
      each q f n at_q groups_q =
          by (has_marked n new) (has_marked n old) (do_clash features.immutable g f) refl refl refl
          ∙ ap (λ b. b || (do_clash features.immutable g f || false)) (before.exactly q f n at_q groups_q)
          ∙ sym (list_any-append (λ x. do_clash features.immutable x f) marked (g ∷ []))
        where
          both : HaveCommon m n ↔ (do_clash features.immutable g f ≡ true)
          both = grouped.exactly place q g f m n at at_q groups_are groups_q

          by : (a b d : Bool) → has_marked n new ≡ a → has_marked n old ≡ b → do_clash features.immutable g f ≡ d → a ≡ (b || (d || false))
          by true true d x y z = refl
          by true false true x y z = refl
          by true false false x y z =
              let one = marked_one n new x in
              ⊎_elim (λ q. absurd (false≢true (sym (unmarked n old y one.0 one.1) ∙ q)))
              (λ q. absurd (false≢true (sym z ∙ both.0 (one.0, q, one.1)))) ((adds.exactly one.0).0 one.2)
          by false true d x y z =
              let one = marked_one n old y in
              absurd (false≢true (sym (unmarked n new x one.0 one.1) ∙ (adds.exactly one.0).1 (inl one.2)))
          by false false true x y z =
              let c = both.1 z in
              absurd (false≢true (sym (unmarked n new x c.0 c.2) ∙ (adds.exactly c.0).1 (inr c.1)))
          by false false false x y z = refl

  -- those up to an index of a list that pass a test
  pub marked_more : (test : Feature → Bool) (xs : List Feature) (i place : ℕ) (f : Feature) (groups : Groups) (holds : Bool) (old new : Visited) → AreGrouped features conflicts → i < length xs → f ≡ get_or xs i f → slice_get all place ≡ Some f → groups_at conflicts place ≡ Some groups → holds ≡ test f → AreMarked features conflicts (filter test (take i xs)) old → AddsWhere holds groups old new → AreMarked features conflicts (filter test (take (i + 1) xs)) new
  marked_more test xs i place f groups holds old new grouped lt is at groups_are tested before adds =
      subst (λ ms. AreMarked features conflicts ms new) (sym next) (by holds refl)
    where
      next : filter test (take (i + 1) xs) ≡ filter test (take i xs) ++ cond (test f) (f ∷ []) []
      next = filter_more test xs i f lt ∙ ap (λ x. filter test (take i xs) ++ cond (test x) (x ∷ []) []) (sym is)

      by : (b : Bool) → holds ≡ b → AreMarked features conflicts (filter test (take i xs) ++ cond (test f) (f ∷ []) []) new
      by true e =
          subst (λ b. AreMarked features conflicts (filter test (take i xs) ++ cond b (f ∷ []) []) new) (sym e ∙ tested)
          (marked_behind (filter test (take i xs)) old new place f groups grouped at groups_are before (adds.added e))
      by false e =
          subst (λ b. AreMarked features conflicts (filter test (take i xs) ++ cond b (f ∷ []) []) new) (sym e ∙ tested)
          (subst (λ ms. AreMarked features conflicts ms new) (sym (append-nil (filter test (take i xs))))
          (subst (AreMarked features conflicts (filter test (take i xs))) (sym (adds.kept e)) before))

  pub marked_all : (test : Feature → Bool) (xs : List Feature) (i : ℕ) (marks : Visited) → length xs ≤ i → AreMarked features conflicts (filter test (take i xs)) marks → AreMarked features conflicts (filter test xs) marks
  marked_all test xs i marks le upto = subst (λ ys. AreMarked features conflicts (filter test ys) marks) (take_all i xs le) upto

  -- ---- the indices of included and of written features

  pub brought_at : (i : ℕ) (f : Feature) → i < length features.inherited.now → f ≡ get_or features.inherited.now i f → slice_get all i ≡ Some f
  brought_at i f lt is = first_part features.inherited.now features.written.now i f (slice_get_read features.inherited.now (length features.inherited.now) i f refl lt is)

  pub written_at : (i : ℕ) (f : Feature) → i < length features.written.now → f ≡ get_or features.written.now i f → slice_get all (length features.inherited.now + i) ≡ Some f
  written_at i f lt is = second_part features.inherited.now features.written.now (length features.inherited.now + i) f (omega arith) (ap (slice_get features.written.now) back ∙ slice_get_read features.written.now (length features.written.now) i f refl lt is)
    where
      back : (length features.inherited.now + i) - length features.inherited.now ≡ i
      back = omega arith

  -- ---- whether a feature stays

  abbrev keep_brought : Feature → Bool
  keep_brought = stays_inherited features.immutable features.inherited.now features.written.now

  abbrev keep_written : Feature → Bool
  keep_written = stays_written features.immutable features.inherited.now features.written.now

  brought_count : length (map keep_brought features.inherited.now) ≡ length features.inherited.now
  brought_count = length-map features.inherited.now keep_brought

  pub are_replacing : (written inherited stubs : Visited) → AreMarked features conflicts (written_bodies features.immutable features.written.now) written → AreMarked features conflicts (inherited_bodies features.immutable features.inherited.now features.written.now) inherited → AreMarked features conflicts (written_stubs features.immutable features.inherited.now features.written.now) stubs → AreReplacing features conflicts (record { written_bodies = written; inherited_bodies = inherited; written_stubs = stubs })
  are_replacing written inherited stubs w b s = record { written_bodies = w; inherited_bodies = b; written_stubs = s }

  module _ (place : ℕ) (f : Feature) (groups : Groups) (r : ReplacementMarks) (kept : Bool) (marked : AreReplacing features conflicts r) (at : slice_get all place ≡ Some f) (groups_are : groups_at conflicts place ≡ Some groups) where
    by_written : has_marked groups r.written_bodies ≡ meets_any features.immutable (written_bodies features.immutable features.written.now) f
    by_written = marked.written_bodies.exactly place f groups at groups_are

    by_brought : has_marked groups r.inherited_bodies ≡ meets_any features.immutable (inherited_bodies features.immutable features.inherited.now features.written.now) f
    by_brought = marked.inherited_bodies.exactly place f groups at groups_are

    by_stubs : has_marked groups r.written_stubs ≡ meets_any features.immutable (written_stubs features.immutable features.inherited.now features.written.now) f
    by_stubs = marked.written_stubs.exactly place f groups at groups_are

    abbrev meets_written : Bool
    meets_written = meets_any features.immutable (written_bodies features.immutable features.written.now) f

    abbrev meets_brought : Bool
    meets_brought = meets_any features.immutable (inherited_bodies features.immutable features.inherited.now features.written.now) f

    brought_same : inherited_kept r f groups ≡ keep_brought f
    unfolding stays_inherited
    brought_same =
        ap (λ b. cond (is_stub_part f.part) (not ((b || has_marked groups r.inherited_bodies) || has_marked groups r.written_stubs)) (not b)) by_written
        ∙ ap (λ b. cond (is_stub_part f.part) (not ((meets_written || b) || has_marked groups r.written_stubs)) (not meets_written)) by_brought
        ∙ ap (λ b. cond (is_stub_part f.part) (not ((meets_written || meets_brought) || b)) (not meets_written)) by_stubs

    written_same : written_kept r f groups ≡ keep_written f
    unfolding stays_written
    written_same =
        ap (λ b. is_body f || not (b || has_marked groups r.inherited_bodies)) by_written
        ∙ ap (λ b. is_body f || not (meets_written || b)) by_brought

    pub brought_stays : kept ≡ inherited_kept r f groups → place < length features.inherited.now → slice_get (all_stay features) place ≡ Some kept
    brought_stays is lt =
        first_part (map keep_brought features.inherited.now) (map keep_written features.written.now) place kept
        (slice_get-map keep_brought features.inherited.now place
        ∙ ap (option_map keep_brought) (first_part_back features.inherited.now features.written.now place f lt at) ∙ ap Some (sym (is ∙ brought_same)))

    pub written_stays : kept ≡ written_kept r f groups → length features.inherited.now ≤ place → slice_get (all_stay features) place ≡ Some kept
    written_stays is le =
        second_part (map keep_brought features.inherited.now) (map keep_written features.written.now) place kept (omega (arith, le, brought_count))
        (ap (λ n. slice_get (map keep_written features.written.now) (place - n)) brought_count
        ∙ slice_get-map keep_written features.written.now (place - length features.inherited.now)
        ∙ ap (option_map keep_written) (second_part_back features.inherited.now features.written.now place f le at) ∙ ap Some (sym (is ∙ written_same)))

  pub stays_more : (stays more : List Bool) (place : ℕ) (kept : Bool) → stays ≡ take place (all_stay features) → slice_get (all_stay features) place ≡ Some kept → more ≡ stays ++ kept ∷ [] → more ≡ take (place + 1) (all_stay features)
  stays_more stays more place kept upto at pushed =
      pushed ∙ ap (λ ks. ks ++ kept ∷ []) upto
      ∙ sym (take_more (all_stay features) place kept (slice_get_within (all_stay features) place kept at) ∙ ap (λ x. take place (all_stay features) ++ x ∷ []) (get_or_from_slice_get (all_stay features) place kept kept at))

  pub stays_all : (stays : List Bool) (place : ℕ) → stays ≡ take place (all_stay features) → length all ≤ place → stays ≡ all_stay features
  stays_all stays place upto le = upto ∙ take_all place (all_stay features) (omega (arith, le, count))
    where
      count : length (all_stay features) ≡ length all
      count =
          length-append (map keep_brought features.inherited.now) (map keep_written features.written.now)
          ∙ ap (λ n. n + length (map keep_written features.written.now)) brought_count
          ∙ ap (λ n. length features.inherited.now + n) (length-map features.written.now keep_written)
          ∙ sym (length-append features.inherited.now features.written.now)

pub ruleset marking = (nothing_marked, marked_all)

pub ruleset one_stays = (brought_stays, written_stays)

pub ruleset all_at = (stays_more, stays_all)
