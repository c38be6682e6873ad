-- The first feature that conflicts with an earlier one.
use Rattle.std.proofs.Common.{◌≡◌, ◌↔◌, ℕ, ◌+◌, ◌<◌, ◌≤◌, Bool, true, false, List, Some, sym, ap, subst, ◌∙◌, ◌⊎◌, inl, inr, ⊎_elim, arith}
use Rattle.std.proofs.lemmas.Bool.{false≢true}
use Rattle.sa_include_conflicts.specs.declared.conflicts.Conflicts.{Conflicts}
use Rattle.sa_include_conflicts.specs.declared.groups.Groups.{Groups}
use Rattle.sa_include_conflicts.specs.declared.groups.Visited.{Visited}
use Rattle.sa_include_conflicts.specs.Sharing.{AddsGroups, HasGroup, IsFirstConflict, IsInConflict, NoConflict, NoneMarked, StaysWith, groups_at, has_marked, is_marked, is_set}
use Rattle.sa_include_conflicts.proofs.Marking.{marked_one, unmarked}

module _ (conflicts : Conflicts) (stays : List Bool) (from : ℕ) where
  -- a group is one of those of a feature that stays at an index before this one
  pub record IsTaken (place group : ℕ) : Type 0 where
    pub earlier : ℕ
    pub after : from ≤ earlier
    pub before : earlier < place
    pub groups : Groups
    pub there : StaysWith conflicts stays earlier groups
    pub has : HasGroup groups group

  -- these are marked, and there was no conflict
  pub record SoFar (place : ℕ) (marks : Visited) : Type 0 where
    pub marked : (group : ℕ) → (is_marked marks group ≡ true) ↔ IsTaken place group
    pub none : NoConflict conflicts stays from place

  pub nothing_so_far : (marks : Visited) → NoneMarked marks → SoFar from marks
  nothing_so_far marks unset = record {
    marked = λ group. (λ h. absurd (false≢true (sym (unset.none group) ∙ h)), λ t. absurd (omega (arith, t.after, t.before)));
    none = record { none = λ place lt h. absurd (omega (arith, lt, h.after, h.before)) };
  }

  near : (n place : ℕ) → n < place + 1 → (n < place) ⊎ (n ≡ place)
  near n place h = grind (arith, h)

  later : (place group : ℕ) → IsTaken place group → IsTaken (place + 1) group
  later place group t = record {
    earlier = t.earlier;
    after = t.after;
    before = omega (arith, t.before);
    groups = t.groups;
    there = t.there;
    has = t.has;
  }

  next_none : (place : ℕ) → NoConflict conflicts stays from place → (IsInConflict conflicts stays from place → ⊥) → NoConflict conflicts stays from (place + 1)
  next_none place none here = record { none = λ n lt h. by n h (near n place lt) }
    where
      by : (n : ℕ) → IsInConflict conflicts stays from n → (n < place) ⊎ (n ≡ place) → ⊥
      by n h (inl lt) = none.none n lt h
      by n h (inr e) = here (subst (IsInConflict conflicts stays from) e h)

  -- ---- a feature that doesn't stay

  pub passed_over : (place : ℕ) (marks : Visited) (set : Bool) → SoFar place marks → set ≡ is_set stays place → set ≡ false → SoFar (place + 1) marks
  passed_over place marks set so_far is unset = record {
    marked = λ group. (λ h. later place group ((so_far.marked group).0 h), λ t. by group t (near t.earlier place t.before));
    none = next_none place so_far.none (λ h. gone h.here.kept);
  }
    where
      gone : is_set stays place ≡ true → ⊥
      gone h = false≢true (sym unset ∙ is ∙ h)

      by : (group : ℕ) (t : IsTaken (place + 1) group) → (t.earlier < place) ⊎ (t.earlier ≡ place) → is_marked marks group ≡ true
      by group t (inl lt) = (so_far.marked group).1 (record { earlier = t.earlier; after = t.after; before = lt; groups = t.groups; there = t.there; has = t.has })
      by group t (inr e) = absurd (gone (ap (is_set stays) (sym e) ∙ t.there.kept))

  -- ---- one that does

  module _ (place : ℕ) (marks : Visited) (groups : Groups) (set has : Bool) (so_far : SoFar place marks) (is : set ≡ is_set stays place) (known : set ≡ true) (at : groups_at conflicts place ≡ Some groups) (tested : has ≡ has_marked groups marks) where
    here : StaysWith conflicts stays place groups
    here = record { at = at; kept = sym is ∙ known }

    same : (others : Groups) → groups_at conflicts place ≡ Some others → others ≡ groups
    same others h = one (sym h ∙ at)
      where
        one : Some others ≡ Some groups → others ≡ groups
        one q = cc

    pub taken_too : (new : Visited) → has ≡ false → AddsGroups groups marks new → from ≤ place → SoFar (place + 1) new
    taken_too new unset adds after = record {
      marked = λ group. (λ h. ⊎_elim (λ q. later place group ((so_far.marked group).0 q)) (λ q. own group q) ((adds.exactly group).0 h), λ t. by group t (near t.earlier place t.before));
      none = next_none place so_far.none free;
    }
      where
        own : (group : ℕ) → HasGroup groups group → IsTaken (place + 1) group
        own group h = record { earlier = place; after = after; before = omega arith; groups = groups; there = here; has = h }

        by : (group : ℕ) (t : IsTaken (place + 1) group) → (t.earlier < place) ⊎ (t.earlier ≡ place) → is_marked new group ≡ true
        by group t (inl lt) = (adds.exactly group).1 (inl ((so_far.marked group).1 (record { earlier = t.earlier; after = t.after; before = lt; groups = t.groups; there = t.there; has = t.has })))
        by group t (inr e) = (adds.exactly group).1 (inr (subst (λ (g : Groups). HasGroup g group) (same t.groups (ap (groups_at conflicts) (sym e) ∙ t.there.at)) t.has))

        free : IsInConflict conflicts stays from place → ⊥
        free h = false≢true (sym (unmarked groups marks (sym tested ∙ unset) h.common.0 its) ∙ marked)
          where
            its : HasGroup groups h.common.0
            its = subst (λ (g : Groups). HasGroup g h.common.0) (same h.groups h.here.at) h.common.2

            marked : is_marked marks h.common.0 ≡ true
            marked = (so_far.marked h.common.0).1 (record { earlier = h.earlier; after = h.after; before = h.before; groups = h.other; there = h.there; has = h.common.1 })

    pub conflict_here : (to : ℕ) → has ≡ true → place < to → IsFirstConflict conflicts stays from to place
    conflict_here to held within = record {
      within = within;
      conflict = record {
        groups = groups;
        here = here;
        earlier = taken.earlier;
        after = taken.after;
        before = taken.before;
        other = taken.groups;
        there = taken.there;
        common = (one.0, taken.has, one.1);
      };
      first = so_far.none;
    }
      where
        one : (n : ℕ) × HasGroup groups n × (is_marked marks n ≡ true)
        one = marked_one groups marks (sym tested ∙ held)

        taken : IsTaken place one.0
        taken = (so_far.marked one.0).0 one.2

  pub no_conflict : (place to : ℕ) (marks : Visited) → SoFar place marks → to ≤ place → NoConflict conflicts stays from to
  no_conflict place to marks so_far le = record { none = λ n lt h. so_far.none.none n (omega (arith, lt, le)) h }

pub ruleset conflicting = (nothing_so_far, passed_over, taken_too, conflict_here, no_conflict)
