-- Marks at groups.
use Rattle.std.proofs.Common.{◌≡◌, ◌↔◌, ◌||◌, ℕ, zero, suc, ◌<◌, Bool, true, false, Option, None, Some, length, get_or, set, refl, sym, ap, ◌∙◌, ◌⊎◌, inl, inr, ⊎_elim}
use Rattle.std.proofs.lemmas.Bool.{cases_eq, false≢true, true≢false}
use Rattle.std.proofs.lemmas.List.{get_or-set_same, get_or-set_other}
use Rattle.std.specs.Option.{option_map_or}
use Rattle.std.specs.Prelude.{replicate}
use Rattle.sa_include_conflicts.specs.declared.groups.Groups.{Groups}
use Rattle.sa_include_conflicts.specs.declared.groups.Visited.{Visited}
use Rattle.sa_include_conflicts.specs.Sharing.{AddsGroup, AddsGroups, AddsWhere, HasGroup, NoneMarked, has_marked, is_marked}

replicated : (count place : ℕ) → get_or (replicate count false) place false ≡ false
replicated zero place = refl
replicated (suc count) zero = refl
replicated (suc count) (suc place) = replicated count place

pub none_marked : (marks : Visited) (count : ℕ) → marks.set.items ≡ replicate count false → NoneMarked marks
none_marked marks count is = record { none = λ group. ap (λ ms. get_or ms group false) is ∙ replicated count group }

pub mark_added : (old new : Visited) (group : ℕ) → group < length old.set.items → new.set.items ≡ set old.set.items group true → AddsGroup group old new
mark_added old new group within is = record { exactly = λ n. by n (cases_eq n group) }
  where
    after : (n : ℕ) → is_marked new n ≡ get_or (set old.set.items group true) n false
    after n = ap (λ ms. get_or ms n false) is

    by : (n : ℕ) → (n ≡ group) ⊎ (n ≡ group → ⊥) → (is_marked new n ≡ true) ↔ ((is_marked old n ≡ true) ⊎ (group ≡ n))
    by n (inl e) = (λ h. inr (sym e), λ h. after n ∙ ap (λ m. get_or (set old.set.items group true) m false) e ∙ get_or-set_same old.set.items group true false within)
    by n (inr d) =
        let kept = get_or-set_other old.set.items group n true false d in
        (λ h. inl (sym kept ∙ sym (after n) ∙ h), λ h. ⊎_elim (λ q. after n ∙ kept ∙ q) (λ q. absurd (d (sym q))) h)

pub adds_own : (groups : Groups) (old new : Visited) → AddsGroup groups.own old new → groups.writer ≡ None → AddsGroups groups old new
adds_own groups old new own none = record {
  exactly = λ n. (λ h. ⊎_elim inl (λ q. inr (inl q)) ((own.exactly n).0 h), λ h. (own.exactly n).1 (⊎_elim inl (λ g. ⊎_elim inr (λ q. absurd (differs n (sym q ∙ none))) g) h));
}
  where
    differs : (n : ℕ) → Some n ≡ None → ⊥
    differs n q = cc

pub adds_both : (groups : Groups) (old between new : Visited) (writer : ℕ) → AddsGroup groups.own old between → groups.writer ≡ Some writer → AddsGroup writer between new → AddsGroups groups old new
adds_both groups old between new writer own is other = record { exactly = λ n. (into n, from n) }
  where
    one : (n : ℕ) → Some writer ≡ Some n → writer ≡ n
    one n q = cc

    into : (n : ℕ) → is_marked new n ≡ true → (is_marked old n ≡ true) ⊎ HasGroup groups n
    into n h = ⊎_elim (λ q. ⊎_elim inl (λ r. inr (inl r)) ((own.exactly n).0 q)) (λ q. inr (inr (is ∙ ap Some q))) ((other.exactly n).0 h)

    from : (n : ℕ) → (is_marked old n ≡ true) ⊎ HasGroup groups n → is_marked new n ≡ true
    from n (inl h) = (other.exactly n).1 (inl ((own.exactly n).1 (inl h)))
    from n (inr (inl q)) = (other.exactly n).1 (inl ((own.exactly n).1 (inr q)))
    from n (inr (inr q)) = (other.exactly n).1 (inr (one n (sym is ∙ q)))

-- ---- the groups of a feature

or_false : (a b : Bool) → (a || b) ≡ false → (a ≡ false) × (b ≡ false)
or_false true b h = absurd (true≢false h)
or_false false b h = (refl, h)

pub marked_one : (groups : Groups) (marks : Visited) → has_marked groups marks ≡ true → (n : ℕ) × HasGroup groups n × (is_marked marks n ≡ true)
marked_one groups marks h = by (is_marked marks groups.own) groups.writer refl refl h
  where
    by : (b : Bool) (o : Option ℕ) → is_marked marks groups.own ≡ b → groups.writer ≡ o → (b || option_map_or (is_marked marks) o false) ≡ true → (n : ℕ) × HasGroup groups n × (is_marked marks n ≡ true)
    by true o p q r = (groups.own, inl refl, p)
    by false None p q r = absurd (false≢true r)
    by false (Some writer) p q r = (writer, inr q, r)

pub unmarked : (groups : Groups) (marks : Visited) → has_marked groups marks ≡ false → (n : ℕ) → HasGroup groups n → is_marked marks n ≡ false
unmarked groups marks h n (inl q) = ap (is_marked marks) (sym q) ∙ (or_false (is_marked marks groups.own) (option_map_or (is_marked marks) groups.writer false) h).0
unmarked groups marks h n (inr q) = ap (λ o. option_map_or (is_marked marks) o false) (sym q) ∙ (or_false (is_marked marks groups.own) (option_map_or (is_marked marks) groups.writer false) h).1

-- ---- groups that are marked if a test is true

module _ (holds : Bool) (groups : Groups) (old new : Visited) where
  pub marks_added : holds ≡ true → AddsGroups groups old new → AddsWhere holds groups old new
  marks_added held adds = record { added = λ h. adds; kept = λ h. absurd (true≢false (sym held ∙ h)) }

  pub marks_kept : holds ≡ false → new ≡ old → AddsWhere holds groups old new
  marks_kept unheld same = record { added = λ h. absurd (false≢true (sym unheld ∙ h)); kept = λ h. same }

pub ruleset added_where = (marks_added, marks_kept)
