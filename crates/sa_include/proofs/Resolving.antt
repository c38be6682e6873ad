-- The classes are resolved, each after those that it includes, until the first in source order is refused.
use Rattle.std.proofs.Common.{◌≡◌, ℕ, zero, suc, ◌+◌, ◌<◌, ◌≤◌, true, false, List, [], ◌∷◌, ◌++◌, None, Some, length, set, slice_get, refl, sym, ap, subst, ◌∙◌, ◌⊎◌, inl, inr, arith}
use Rattle.std.proofs.lemmas.Bool.{cases_eq, false≢true}
use Rattle.sa_ast.specs.declared.class.Class.{Class}
use Rattle.sa_ast.specs.declared.refusal.Refusal.{Refusal}
use Rattle.sa_include.specs.Refusals.{AreAccepted, IsFirstRefusal, IsVerdict}
use Rattle.sa_include.specs.Resolved.{AreDone, AreResolved, AreUndone, IsDone, IsGoneThrough, IsRefusedFrom, KnowsIncludes}
use Rattle.sa_include.specs.declared.resolved.Flattened.{Flattened}
use Rattle.sa_include.specs.declared.resolved.IncludeProgram.{IncludeProgram}
use Rattle.sa_include_names.specs.Includes.{AreArrays}
use Rattle.sa_include_names.specs.Tables.{HasNumbers}

module _ {A : Type 0} where
  one_of : {x y : A} → Some x ≡ Some y → x ≡ y
  one_of q = cc

  there_is : (xs : List A) (i : ℕ) → i < length xs → (x : A) × (slice_get xs i ≡ Some x)
  there_is [] i lt = absurd (omega (arith, lt))
  there_is (x ∷ xs) zero lt = (x, refl)
  there_is (x ∷ xs) (suc i) lt = there_is xs i (omega (arith, lt))

  set_here : (xs : List A) (i : ℕ) (x y : A) → slice_get (set xs i x) i ≡ Some y → x ≡ y
  set_here [] i x y h = cc
  set_here (z ∷ xs) zero x y h = one_of h
  set_here (z ∷ xs) (suc i) x y h = set_here xs i x y h

  set_elsewhere : (xs : List A) (i j : ℕ) (x : A) → (j ≡ i → ⊥) → slice_get (set xs i x) j ≡ slice_get xs j
  set_elsewhere [] i j x differ = refl
  set_elsewhere (z ∷ xs) zero zero x differ = absurd (differ refl)
  set_elsewhere (z ∷ xs) zero (suc j) x differ = refl
  set_elsewhere (z ∷ xs) (suc i) zero x differ = refl
  set_elsewhere (z ∷ xs) (suc i) (suc j) x differ = set_elsewhere xs i j x (λ e. differ (ap suc e))

-- ---- the includes of a program

pub knows_includes : (program : IncludeProgram) → HasNumbers program.classes.now program.includes.now.numbers → AreArrays program.classes.now program.includes.now.arrays.items → KnowsIncludes program
knows_includes program numbers arrays = record { numbers = numbers; arrays = arrays }

-- ---- none is resolved

pub none_undone : (resolved : List Flattened) → resolved ≡ [] → AreUndone resolved
none_undone resolved is = record { each = λ place f at. absurd (nothing place f (ap (λ rs. slice_get rs place) (sym is) ∙ at)) }
  where
    nothing : (place : ℕ) (f : Flattened) → slice_get [] place ≡ Some f → ⊥
    nothing place f q = cc

pub undone_too : (old new : List Flattened) (f : Flattened) → AreUndone old → f.done ≡ false → new ≡ old ++ f ∷ [] → AreUndone new
undone_too old new f before undone pushed = record {
  each = λ place g at. by old before.each place g (ap (λ rs. slice_get rs place) (sym pushed) ∙ at);
}
  where
    by : (fs : List Flattened) → ((place : ℕ) (g : Flattened) → slice_get fs place ≡ Some g → g.done ≡ false) → (place : ℕ) (g : Flattened) → slice_get (fs ++ f ∷ []) place ≡ Some g → g.done ≡ false
    by [] each zero g at = ap (λ (h : Flattened). h.done) (sym (one_of at)) ∙ undone
    by [] each (suc place) g at = cc
    by (h ∷ fs) each zero g at = each 0 g at
    by (h ∷ fs) each (suc place) g at = by fs (λ p k at_k. each (suc p) k at_k) place g at

pub ruleset undone = (none_undone, undone_too)

-- ---- which are resolved without a refusal, from an index on

module _ (resolved : List Flattened) (from : ℕ) where
  pub none_done : AreDone resolved from from
  none_done = record { each = λ place le lt. absurd (omega (arith, le, lt)) }

  near : (place n : ℕ) → place < n + 1 → (place < n) ⊎ (place ≡ n)
  near place n h = grind (arith, h)

  pub done_too : (place : ℕ) (f : Flattened) → AreDone resolved from place → slice_get resolved place ≡ Some f → f.done ≡ true → f.refusal ≡ None → AreDone resolved from (place + 1)
  done_too place f before at done none = record { each = λ n le lt. by n le (near n place lt) }
    where
      by : (n : ℕ) → from ≤ n → (n < place) ⊎ (n ≡ place) → IsDone resolved n
      by n le (inl lt) = before.each n le lt
      by n le (inr e) = record { flattened = f; at = ap (slice_get resolved) e ∙ at; done = done; none = none }

  pub all_done : (place to : ℕ) → AreDone resolved from place → to ≤ place → AreDone resolved from to
  all_done place to before le = record { each = λ n after lt. before.each n after (omega (arith, lt, le)) }

  pub refused_here : (place to : ℕ) (f : Flattened) (refusal : Refusal) → place < to → AreDone resolved from place → slice_get resolved place ≡ Some f → f.done ≡ true → f.refusal ≡ Some refusal → IsRefusedFrom resolved from to refusal
  refused_here place to f refusal within before at done refused = record { place = place; within = within; flattened = f; at = at; done = done; refused = refused; before = before }

pub ruleset accepting = (none_done, done_too, all_done, refused_here)

-- ---- all classes

module _ (classes : List Class) where
  pub nothing_yet : (resolved : List Flattened) → AreUndone resolved → IsGoneThrough classes resolved 0
  nothing_yet resolved undone = record {
    resolved = record { each = λ place c f at_c at done. absurd (false≢true (sym (undone.each place f at) ∙ done)) };
    accepted = record { each = λ place c lt. absurd (omega (arith, lt)) };
  }

  module _ (old new : List Flattened) (accepted number : ℕ) (f : Flattened) (so_far : IsGoneThrough classes old accepted) (verdict : (c : Class) → slice_get classes number ≡ Some c → IsVerdict classes c f.refusal) (kept : new ≡ set old number f) where
    resolved_too : AreResolved classes new
    resolved_too = record {
      each = λ place c g at_c at done. by place c g at_c (ap (λ rs. slice_get rs place) (sym kept) ∙ at) done (cases_eq place number);
    }
      where
        by : (place : ℕ) (c : Class) (g : Flattened) → slice_get classes place ≡ Some c → slice_get (set old number f) place ≡ Some g → g.done ≡ true → (place ≡ number) ⊎ (place ≡ number → ⊥) → IsVerdict classes c g.refusal
        by place c g at_c at done (inl e) =
            subst (λ (h : Flattened). IsVerdict classes c h.refusal) (set_here old number f g (ap (slice_get (set old number f)) (sym e) ∙ at)) (verdict c (ap (slice_get classes) (sym e) ∙ at_c))
        by place c g at_c at done (inr differ) = so_far.resolved.each place c g at_c (sym (set_elsewhere old number place f differ) ∙ at) done

    accepted_too : (next : ℕ) → AreDone new accepted next → AreAccepted classes next
    accepted_too next done = record { each = λ place c lt at. by place c at lt (near place) }
      where
        near : (place : ℕ) → (place < accepted) ⊎ (accepted ≤ place)
        near place = grind arith

        by : (place : ℕ) (c : Class) → slice_get classes place ≡ Some c → place < next → (place < accepted) ⊎ (accepted ≤ place) → IsVerdict classes c None
        by place c at lt (inl before) = so_far.accepted.each place c before at
        by place c at lt (inr after) =
            let one = done.each place after lt in
            subst (IsVerdict classes c) one.none (resolved_too.each place c one.flattened at one.at one.done)

    pub one_more : (next : ℕ) → AreDone new accepted next → IsGoneThrough classes new next
    one_more next done = record { resolved = resolved_too; accepted = accepted_too next done }

    pub one_refused : (refusal : Refusal) → IsRefusedFrom new accepted (length classes) refusal → IsFirstRefusal classes refusal
    one_refused refusal refused =
        let class = there_is classes refused.place refused.within in
        record {
          place = refused.place;
          class = class.0;
          at = class.1;
          refused = subst (IsVerdict classes class.0) refused.refused (resolved_too.each refused.place class.0 refused.flattened class.1 refused.at refused.done);
          first = accepted_too refused.place refused.before;
        }

  pub all_accepted : (resolved : List Flattened) (accepted : ℕ) → IsGoneThrough classes resolved accepted → length classes ≤ accepted → AreAccepted classes (length classes)
  all_accepted resolved accepted so_far le = record { each = λ place c lt. so_far.accepted.each place c (omega (arith, lt, le)) }

pub ruleset resolving = (nothing_yet, one_more, one_refused, all_accepted)
