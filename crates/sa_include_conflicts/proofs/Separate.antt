-- Features whose signatures are new one after the other don't conflict.
use Rattle.std.proofs.Common.{◌≡◌, ℕ, ◌+◌, ◌<◌, Bool, true, false, not, cond, ◌||◌, List, [], ◌∷◌, ◌++◌, Option, None, Some, length, get_or, flat_map, take, refl, sym, ap, subst, ◌∙◌, append_assoc, ◌⊎◌, inl, inr, arith}
use Rattle.std.proofs.lemmas.Bool.{false≢true, true≢false}
use Rattle.std.proofs.lemmas.List.{get_or_append_left, get_or-append_right, length-append, take_more}
use Rattle.std.proofs.lemmas.List.Elements.{All-contains, All-from_recursion, Contains-get_or}
use Rattle.std.proofs.lemmas.List.Folds.{list_any-append}
use Rattle.std.specs.List.{AllByRecursion, AllPairs, list_any}
use Rattle.std.specs.Option.{option_map_or, option_to_list}
use Rattle.indexmap.specs.IndexSet.{insert_key}
use Rattle.sa_ast.specs.declared.class.Feature.{Feature}
use Rattle.sa_subst.specs.declared.sig.Sig.{Sig}
use Rattle.sa_overload.specs.Conflict.{do_conflict}
use Rattle.sa_include_conflicts.specs.Clashes.{NoneClash, do_clash, meets}
use Rattle.sa_include_conflicts.specs.KnownSignatures.{AddsFeature, AddsSignature, AreApart, signatures_of}
use Rattle.sa_include_conflicts.specs.SignatureKeys.{conflict_equiv}
use Rattle.sa_include_conflicts.specs.Signatures.{own_signature, writer_signature}

-- ---- truth values

or_false : (a b : Bool) → (a || b) ≡ false → (a ≡ false) × (b ≡ false)
or_false true b h = absurd (true≢false h)
or_false false b h = (refl, h)

both_false : (a b : Bool) → a ≡ false → b ≡ false → (a || b) ≡ false
both_false a b p q = ap (λ x. x || b) p ∙ q

-- ---- a signature

pub adds_new : (s : Sig) (old new : List Sig) → list_any (do_conflict s) old ≡ false → new ≡ insert_key do_conflict old s → AddsSignature s old new
adds_new s old new apart is = record {
  apart = apart;
  added = is ∙ ap (λ b. cond b old (old ++ s ∷ [])) apart;
}

-- ---- a feature

module _ (immutable : Bool) (f : Feature) (old : List Sig) where
  pub adds_one : (new : List Sig) → AddsSignature (own_signature f) old new → writer_signature immutable f ≡ None → AddsFeature immutable f old new
  adds_one new one none = record {
    own = one.apart;
    writer = ap (λ o. option_map_or (λ w. list_any (do_conflict w) old) o false) none;
    added = one.added ∙ ap (λ o. old ++ own_signature f ∷ option_to_list o) (sym none);
  }

  pub adds_two : (between new : List Sig) (w : Sig) → AddsSignature (own_signature f) old between → writer_signature immutable f ≡ Some w → AddsSignature w between new → AddsFeature immutable f old new
  adds_two between new w one is two = record {
    own = one.apart;
    writer = ap (λ o. option_map_or (λ v. list_any (do_conflict v) old) o false) is ∙ (or_false (list_any (do_conflict w) old) (list_any (do_conflict w) (own_signature f ∷ [])) (sym (list_any-append (do_conflict w) old (own_signature f ∷ [])) ∙ ap (list_any (do_conflict w)) (sym one.added) ∙ two.apart)).0;
    added = two.added ∙ ap (λ ks. ks ++ w ∷ []) one.added ∙ append_assoc old (own_signature f ∷ []) (w ∷ []) ∙ ap (λ o. old ++ own_signature f ∷ option_to_list o) (sym is);
  }

-- ---- features

module _ (immutable : Bool) where
  back : (s t : Sig) → do_conflict s t ≡ do_conflict t s
  back = conflict_equiv.symm

  -- a signature that conflicts with none of those of a feature
  unmet : (f : Feature) (s : Sig) → list_any (do_conflict s) (signatures_of immutable f) ≡ false → meets immutable f s ≡ false
  unmet f s h = by (writer_signature immutable f) h
    where
      by : (o : Option Sig) → (do_conflict s (own_signature f) || list_any (do_conflict s) (option_to_list o)) ≡ false → (do_conflict (own_signature f) s || option_map_or (λ w. do_conflict w s) o false) ≡ false
      by None h = both_false (do_conflict (own_signature f) s) false (back (own_signature f) s ∙ (or_false (do_conflict s (own_signature f)) false h).0) refl
      by (Some w) h =
          let r = or_false (do_conflict s (own_signature f)) (do_conflict s w || false) h in
          both_false (do_conflict (own_signature f) s) (do_conflict w s) (back (own_signature f) s ∙ r.0) (back w s ∙ (or_false (do_conflict s w) false r.1).0)

  unmet_by_all : (features : List Feature) (s : Sig) → list_any (do_conflict s) (flat_map (signatures_of immutable) features) ≡ false → AllByRecursion (λ f. meets immutable f s ≡ false) features
  unmet_by_all [] s h = tt
  unmet_by_all (f ∷ features) s h =
      let r = or_false (list_any (do_conflict s) (signatures_of immutable f)) (list_any (do_conflict s) (flat_map (signatures_of immutable) features)) (sym (list_any-append (do_conflict s) (signatures_of immutable f) (flat_map (signatures_of immutable) features)) ∙ h) in
      (unmet f s r.0, unmet_by_all features s r.1)

  clash_none : (f g : Feature) → meets immutable f (own_signature g) ≡ false → option_map_or (meets immutable f) (writer_signature immutable g) false ≡ false → do_clash immutable f g ≡ false
  clash_none f g = both_false (meets immutable f (own_signature g)) (option_map_or (meets immutable f) (writer_signature immutable g) false)

  apart_from_all : (features : List Feature) (g : Feature) (known new : List Sig) → known ≡ flat_map (signatures_of immutable) features → AddsFeature immutable g known new → AllByRecursion (λ f. do_clash immutable f g ≡ false) features
  apart_from_all features g known new is adds = each features own writer
    where
      own : AllByRecursion (λ f. meets immutable f (own_signature g) ≡ false) features
      own = unmet_by_all features (own_signature g) (ap (list_any (do_conflict (own_signature g))) (sym is) ∙ adds.own)

      writer : AllByRecursion (λ f. option_map_or (meets immutable f) (writer_signature immutable g) false ≡ false) features
      writer = by (writer_signature immutable g) adds.writer
        where
          all_refl : (fs : List Feature) → AllByRecursion (λ f. option_map_or (meets immutable f) None false ≡ false) fs
          all_refl [] = tt
          all_refl (f ∷ fs) = (refl, all_refl fs)

          by : (o : Option Sig) → option_map_or (λ w. list_any (do_conflict w) known) o false ≡ false → AllByRecursion (λ f. option_map_or (meets immutable f) o false ≡ false) features
          by None h = all_refl features
          by (Some w) h = unmet_by_all features w (ap (list_any (do_conflict w)) (sym is) ∙ h)

      each : (fs : List Feature) → AllByRecursion (λ f. meets immutable f (own_signature g) ≡ false) fs → AllByRecursion (λ f. option_map_or (meets immutable f) (writer_signature immutable g) false ≡ false) fs → AllByRecursion (λ f. do_clash immutable f g ≡ false) fs
      each [] a b = tt
      each (f ∷ fs) a b = (clash_none f g a.0 b.0, each fs a.1 b.1)

  pub none_apart : (known : List Sig) → known ≡ [] → AreApart immutable [] known
  none_apart known is = record { listed = is; none_clash = λ i j d lt within. absurd (omega (arith, within)) }

  pub more_apart : (features : List Feature) (i : ℕ) (g : Feature) (known new : List Sig) → i < length features → g ≡ get_or features i g → AreApart immutable (take i features) known → AddsFeature immutable g known new → AreApart immutable (take (i + 1) features) new
  more_apart features i g known new lt is apart adds = subst (λ fs. AreApart immutable fs new) (sym more) (record {
    listed = adds.added ∙ ap (λ ks. ks ++ signatures_of immutable g) apart.listed ∙ sym (flat-push (take i features));
    none_clash = pairs_push (take i features) apart.none_clash (apart_from_all (take i features) g known new apart.listed adds);
  })
    where
      more : take (i + 1) features ≡ take i features ++ g ∷ []
      more = take_more features i g lt ∙ ap (λ x. take i features ++ x ∷ []) (sym is)

      flat-push : (fs : List Feature) → flat_map (signatures_of immutable) (fs ++ g ∷ []) ≡ flat_map (signatures_of immutable) fs ++ signatures_of immutable g
      flat-push [] = append-nil (signatures_of immutable g)
        where
          append-nil : (xs : List Sig) → xs ++ [] ≡ xs
          append-nil [] = refl
          append-nil (x ∷ xs) = ap (λ ys. x ∷ ys) (append-nil xs)
      flat-push (f ∷ fs) = ap (λ ks. signatures_of immutable f ++ ks) (flat-push fs) ∙ sym (append_assoc (signatures_of immutable f) (flat_map (signatures_of immutable) fs) (signatures_of immutable g))

      pairs_push : (fs : List Feature) → NoneClash immutable fs → AllByRecursion (λ f. do_clash immutable f g ≡ false) fs → NoneClash immutable (fs ++ g ∷ [])
      pairs_push fs pairs all i j d lt within = by (here j within)
        where
          count : length (fs ++ g ∷ []) ≡ length fs + 1
          count = length-append fs (g ∷ [])

          here : (n : ℕ) → n < length (fs ++ g ∷ []) → (n < length fs) ⊎ (n ≡ length fs)
          here n h = grind (arith, h, count)

          last : (n : ℕ) → n ≡ length fs → get_or (fs ++ g ∷ []) n d ≡ g
          last n e = subst (λ m. get_or (fs ++ g ∷ []) m d ≡ g) (sym e) (at_end fs)
            where
              at_end : (xs : List Feature) → get_or (xs ++ g ∷ []) (length xs) d ≡ g
              at_end [] = refl
              at_end (x ∷ xs) = at_end xs

          by : ((j < length fs) ⊎ (j ≡ length fs)) → do_clash immutable (get_or (fs ++ g ∷ []) i d) (get_or (fs ++ g ∷ []) j d) ≡ false
          by (inl b) =
              subst (λ x. do_clash immutable x (get_or (fs ++ g ∷ []) j d) ≡ false) (sym (get_or_append_left fs (g ∷ []) d i (omega (arith, lt, b))))
              (subst (λ x. do_clash immutable (get_or fs i d) x ≡ false) (sym (get_or_append_left fs (g ∷ []) d j b)) (pairs i j d lt b))
          by (inr e) =
              subst (λ x. do_clash immutable x (get_or (fs ++ g ∷ []) j d) ≡ false) (sym (get_or_append_left fs (g ∷ []) d i (omega (arith, lt, e))))
              (subst (λ x. do_clash immutable (get_or fs i d) x ≡ false) (sym (last j e)) (All-contains (λ f. do_clash immutable f g ≡ false) fs (get_or fs i d) (All-from_recursion (λ f. do_clash immutable f g ≡ false) fs all) (Contains-get_or fs i d (omega (arith, lt, e)))))
