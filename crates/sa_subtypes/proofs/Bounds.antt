-- The test of two types is true exactly if the one is a subtype of the other in the normal form.
use Rattle.std.proofs.Common.{◌≡◌, Bool, true, false, true≢false, ◌||◌, ◌&&◌, cond, inl, inr, refl, sym, ap, subst, ◌∙◌}
use Rattle.std.specs.Prelude.{◌⊎◌, ◌↔◌, not}
use Rattle.std.specs.Cmp.{first_so, second_so}
use Rattle.sa_ast.specs.declared.ty.Mode.{Mode}
use Rattle.sa_ast.specs.declared.ty.Mode.TheVariants.{In, Out, Inout, Once}
use Rattle.sa_ast.specs.TypeEquality.{same_mode, same_type, same_type_Decides}
use Rattle.sa_ast.specs.Types.{BareTy, Named, Same, Rout, Iter, BareArgs, no_args, arg, BareResult, no_result, gives}
use Rattle.sa_subtypes.specs.Bounds.{goes_by, rises, occurs_as, holds, args_hold, result_holds}
use Rattle.sa_subtypes.specs.Subtypes.{top, MayOccur}
use Rattle.sa_subtypes.proofs.Chains.{IsNamed, Chain, here, step, Below, above_all, by_chain, by_routine, by_iter, BelowArgs, no_more, by_in, by_once, by_both, by_out, BelowResult, no_results, by_result}
use Rattle.sa_hierarchy.proofs.Tests.{or-cases, or_first, or_second, both}
use Rattle.sa_subtypes.proofs.Walks.{same_mode-self, same_mode-true}

no_first : (a b : Bool) → (a || b) ≡ false → a ≡ false
no_first true b h = h
no_first false b h = refl

no_second : (a b : Bool) → (a || b) ≡ false → b ≡ false
no_second true b h = absurd (true≢false h)
no_second false b h = h

cond-both : (b x y : Bool) → x ≡ true → y ≡ true → cond b x y ≡ true
cond-both true x y h k = h
cond-both false x y h k = k

same_type-self : (t : BareTy) → same_type t t ≡ true
same_type-self t = (same_type_Decides t t).1 refl

module _ (Edge : BareTy → BareTy → Type 0) (named : (s t : BareTy) → Edge s t → IsNamed s × IsNamed t) (immutable : BareTy → Bool) (tops : BareTy → Bool) (climbs : BareTy → BareTy → Bool) (tops-exact : (t : BareTy) → (tops t ≡ true) ↔ Chain Edge top t) (climbs-exact : (s t : BareTy) → (climbs s t ≡ true) ↔ Chain Edge s t) where
  from_unnamed : {s t : BareTy} → Chain Edge s t → (IsNamed s → ⊥) → s ≡ t
  from_unnamed here unnamed = refl
  from_unnamed (step e h) unnamed = absurd (unnamed ((named _ _ e).0))

  -- ---- what the test says

  abbrev BelowIf : Bool → BareTy → BareTy → Type 0
  BelowIf false s t = Below Edge immutable s t
  BelowIf true s t = Below Edge immutable t s

  abbrev ArgsIf : Bool → BareArgs → BareArgs → Type 0
  ArgsIf false xs ys = BelowArgs Edge immutable xs ys
  ArgsIf true xs ys = BelowArgs Edge immutable ys xs

  abbrev ResultIf : Bool → BareResult → BareResult → Type 0
  ResultIf false a b = BelowResult Edge immutable a b
  ResultIf true a b = BelowResult Edge immutable b a

  abbrev StandIf : Bool → BareTy → BareTy → Type 0
  StandIf false s t = MayOccur immutable s t
  StandIf true s t = MayOccur immutable t s

  top-sound : (s t : BareTy) (turned : Bool) → tops (cond turned s t) ≡ true → BelowIf turned s t
  top-sound s t false h = above_all ((tops-exact t).0 h)
  top-sound s t true h = above_all ((tops-exact s).0 h)

  climb-sound : (s t : BareTy) (turned : Bool) → cond turned (climbs t s) (climbs s t) ≡ true → BelowIf turned s t
  climb-sound s t false h = by_chain ((climbs-exact s t).0 h)
  climb-sound s t true h = by_chain ((climbs-exact t s).0 h)

  leaf-sound : (s t : BareTy) (turned : Bool) → rises tops climbs immutable s t turned ≡ true → BelowIf turned s t
  leaf-sound s t turned h = go (or-cases (tops (cond turned s t)) (cond turned (climbs t s) (climbs s t)) h)
    where
      go : (tops (cond turned s t) ≡ true) ⊎ (cond turned (climbs t s) (climbs s t) ≡ true) → BelowIf turned s t
      go (inl k) = top-sound s t turned k
      go (inr k) = climb-sound s t turned k

  itself : (s t : BareTy) (turned : Bool) → s ≡ t → BelowIf turned s t
  itself s t false e = subst (λ x. Below Edge immutable s x) e (by_chain here)
  itself s t true e = subst (λ x. Below Edge immutable x s) e (by_chain here)

  denoted-same : (s t : BareTy) (turned : Bool) → s ≡ t → StandIf turned s t
  denoted-same s t false e = inl e
  denoted-same s t true e = inl (sym e)

  denoted-apart : (s t : BareTy) (turned : Bool) → immutable s ≡ false → immutable t ≡ false → StandIf turned s t
  denoted-apart s t false h k = inr (h, k)
  denoted-apart s t true h k = inr (k, h)

  -- the types at an index of two bound types
  place-sound : (s t : BareTy) (turned way : Bool) (other : Bool) → occurs_as tops climbs immutable s t other ≡ true → (other ≡ true → BelowIf way s t) → StandIf turned s t × BelowIf way s t
  place-sound s t turned way other h f = go (immutable s || immutable t) refl h
    where
      go : (b : Bool) → (immutable s || immutable t) ≡ b → cond b (same_type s t) other ≡ true → StandIf turned s t × BelowIf way s t
      go true e k = let same : s ≡ t = (same_type_Decides s t).0 k in (denoted-same s t turned same, itself s t way same)
      go false e k = (denoted-apart s t turned (no_first (immutable s) (immutable t) e) (no_second (immutable s) (immutable t) e), f k)

  bound-sound : (xs ys : BareArgs) (a b : BareResult) (turned : Bool) → ArgsIf turned xs ys → ResultIf turned a b → BelowIf turned (Rout xs a) (Rout ys b)
  bound-sound xs ys a b false h k = by_routine h k
  bound-sound xs ys a b true h k = by_routine h k

  iter-sound : (xs ys : BareArgs) (a b : BareResult) (turned : Bool) → ArgsIf turned xs ys → ResultIf turned a b → BelowIf turned (Iter xs a) (Iter ys b)
  iter-sound xs ys a b false h k = by_iter h k
  iter-sound xs ys a b true h k = by_iter h k

  in-sound : (s t : BareTy) (xs ys : BareArgs) (turned : Bool) → StandIf turned s t × BelowIf (not turned) s t → ArgsIf turned xs ys → ArgsIf turned (arg In s xs) (arg In t ys)
  in-sound s t xs ys false h k = by_in h.0 h.1 k
  in-sound s t xs ys true h k = by_in h.0 h.1 k

  once-sound : (s t : BareTy) (xs ys : BareArgs) (turned : Bool) → StandIf turned s t × BelowIf (not turned) s t → ArgsIf turned xs ys → ArgsIf turned (arg Once s xs) (arg Once t ys)
  once-sound s t xs ys false h k = by_once h.0 h.1 k
  once-sound s t xs ys true h k = by_once h.0 h.1 k

  out-sound : (s t : BareTy) (xs ys : BareArgs) (turned : Bool) → StandIf turned s t × BelowIf turned s t → ArgsIf turned xs ys → ArgsIf turned (arg Out s xs) (arg Out t ys)
  out-sound s t xs ys false h k = by_out h.0 h.1 k
  out-sound s t xs ys true h k = by_out h.0 h.1 k

  inout-sound : (s t : BareTy) (xs ys : BareArgs) (turned : Bool) → s ≡ t → ArgsIf turned xs ys → ArgsIf turned (arg Inout s xs) (arg Inout t ys)
  inout-sound s t xs ys false e k = subst (λ x. BelowArgs Edge immutable (arg Inout s xs) (arg Inout x ys)) e (by_both k)
  inout-sound s t xs ys true e k = subst (λ x. BelowArgs Edge immutable (arg Inout x ys) (arg Inout s xs)) e (by_both k)

  arg-sound : (m : Mode) (s t : BareTy) (xs ys : BareArgs) (turned forth back : Bool) → (forth ≡ true → BelowIf turned s t) → (back ≡ true → BelowIf (not turned) s t) → occurs_as tops climbs immutable s t (goes_by m (same_type s t) forth back) ≡ true → ArgsIf turned xs ys → ArgsIf turned (arg m s xs) (arg m t ys)
  arg-sound In s t xs ys turned forth back f g h k = in-sound s t xs ys turned (place-sound s t turned (not turned) back h g) k
  arg-sound Once s t xs ys turned forth back f g h k = once-sound s t xs ys turned (place-sound s t turned (not turned) back h g) k
  arg-sound Out s t xs ys turned forth back f g h k = out-sound s t xs ys turned (place-sound s t turned turned forth h f) k
  arg-sound Inout s t xs ys turned forth back f g h k = inout-sound s t xs ys turned (go (immutable s || immutable t) h) k
    where
      go : (b : Bool) → cond b (same_type s t) (same_type s t) ≡ true → s ≡ t
      go true j = (same_type_Decides s t).0 j
      go false j = (same_type_Decides s t).0 j

  args-nothing : (turned : Bool) → ArgsIf turned no_args no_args
  args-nothing false = no_more
  args-nothing true = no_more

  result-nothing : (turned : Bool) → ResultIf turned no_result no_result
  result-nothing false = no_results
  result-nothing true = no_results

  result-some : (s t : BareTy) (turned : Bool) → StandIf turned s t × BelowIf turned s t → ResultIf turned (gives s) (gives t)
  result-some s t false h = by_result h.0 h.1
  result-some s t true h = by_result h.0 h.1

  mutual
    unfolding holds args_hold result_holds

    sound : (s t : BareTy) (turned : Bool) → holds tops climbs immutable s t turned ≡ true → BelowIf turned s t
    sound (Rout xs a) (Rout ys b) turned h =
        let test = args_hold tops climbs immutable xs ys turned in
        let last = result_holds tops climbs immutable a b turned in
        elim (or-cases (tops (cond turned (Rout xs a) (Rout ys b))) (test && last) h) [
          | inl k ↦ top-sound (Rout xs a) (Rout ys b) turned k
          | inr k ↦ bound-sound xs ys a b turned (sound-args xs ys turned (first_so test last k)) (sound-result a b turned (second_so test last k))
        ]
    sound (Iter xs a) (Iter ys b) turned h =
        let test = args_hold tops climbs immutable xs ys turned in
        let last = result_holds tops climbs immutable a b turned in
        elim (or-cases (tops (cond turned (Iter xs a) (Iter ys b))) (test && last) h) [
          | inl k ↦ top-sound (Iter xs a) (Iter ys b) turned k
          | inr k ↦ iter-sound xs ys a b turned (sound-args xs ys turned (first_so test last k)) (sound-result a b turned (second_so test last k))
        ]
    sound s t turned h = leaf-sound s t turned h

    sound-args : (xs ys : BareArgs) (turned : Bool) → args_hold tops climbs immutable xs ys turned ≡ true → ArgsIf turned xs ys
    sound-args no_args no_args turned h = args-nothing turned
    sound-args (arg m s xs) (arg n t ys) turned h =
        let forth = holds tops climbs immutable s t turned in
        let back = holds tops climbs immutable s t (not turned) in
        let test = occurs_as tops climbs immutable s t (goes_by m (same_type s t) forth back) in
        let more = args_hold tops climbs immutable xs ys turned in
        let firsts = first_so (same_mode m n && test) more h in
        let modes : m ≡ n = same_mode-true m n (first_so (same_mode m n) test firsts) in
        subst (λ k. ArgsIf turned (arg m s xs) (arg k t ys)) modes (arg-sound m s t xs ys turned forth back (sound s t turned) (sound s t (not turned)) (second_so (same_mode m n) test firsts) (sound-args xs ys turned (second_so (same_mode m n && test) more h)))
    sound-args no_args (arg n t ys) turned h = absurd (true≢false (sym h))
    sound-args (arg m s xs) no_args turned h = absurd (true≢false (sym h))

    sound-result : (a b : BareResult) (turned : Bool) → result_holds tops climbs immutable a b turned ≡ true → ResultIf turned a b
    sound-result no_result no_result turned h = result-nothing turned
    sound-result (gives s) (gives t) turned h = result-some s t turned (place-sound s t turned turned (holds tops climbs immutable s t turned) h (sound s t turned))
    sound-result no_result (gives t) turned h = absurd (true≢false (sym h))
    sound-result (gives s) no_result turned h = absurd (true≢false (sym h))

  -- ---- a type is a subtype of itself

  climbs-self : (t : BareTy) (turned : Bool) → cond turned (climbs t t) (climbs t t) ≡ true
  climbs-self t turned = cond-both turned (climbs t t) (climbs t t) ((climbs-exact t t).1 here) ((climbs-exact t t).1 here)

  leaf-self : (t : BareTy) (turned : Bool) → rises tops climbs immutable t t turned ≡ true
  leaf-self t turned = or_second (tops (cond turned t t)) (cond turned (climbs t t) (climbs t t)) (climbs-self t turned)

  goes-self : (m : Mode) (same forth back : Bool) → same ≡ true → forth ≡ true → back ≡ true → goes_by m same forth back ≡ true
  goes-self In same forth back h k j = j
  goes-self Once same forth back h k j = j
  goes-self Inout same forth back h k j = h
  goes-self Out same forth back h k j = k

  mutual
    unfolding holds args_hold result_holds

    holds-self : (t : BareTy) (turned : Bool) → holds tops climbs immutable t t turned ≡ true
    holds-self (Named name args) turned = leaf-self (Named name args) turned
    holds-self Same turned = leaf-self Same turned
    holds-self (Rout xs a) turned = or_second _ _ (both _ _ (args-self xs turned) (result-self a turned))
    holds-self (Iter xs a) turned = or_second _ _ (both _ _ (args-self xs turned) (result-self a turned))

    args-self : (xs : BareArgs) (turned : Bool) → args_hold tops climbs immutable xs xs turned ≡ true
    args-self no_args turned = refl
    args-self (arg m t more) turned =
        both _ _ (both _ _ (same_mode-self m) (cond-both (immutable t || immutable t) (same_type t t) _ (same_type-self t) (goes-self m (same_type t t) _ _ (same_type-self t) (holds-self t turned) (holds-self t (not turned))))) (args-self more turned)

    result-self : (a : BareResult) (turned : Bool) → result_holds tops climbs immutable a a turned ≡ true
    result-self no_result turned = refl
    result-self (gives t) turned = cond-both (immutable t || immutable t) (same_type t t) _ (same_type-self t) (holds-self t turned)

  -- ---- the test is true if the one is a subtype of the other

  leaf-top : (s t : BareTy) (turned : Bool) → Chain Edge top (cond turned s t) → rises tops climbs immutable s t turned ≡ true
  leaf-top s t turned h = or_first (tops (cond turned s t)) (cond turned (climbs t s) (climbs s t)) ((tops-exact (cond turned s t)).1 h)

  whole-top : (s t : BareTy) (turned : Bool) → Chain Edge top (cond turned s t) → holds tops climbs immutable s t turned ≡ true
  unfolding holds
  whole-top (Rout xs a) (Rout ys b) turned h = or_first _ _ ((tops-exact (cond turned (Rout xs a) (Rout ys b))).1 h)
  whole-top (Iter xs a) (Iter ys b) turned h = or_first _ _ ((tops-exact (cond turned (Iter xs a) (Iter ys b))).1 h)
  whole-top s t turned h = leaf-top s t turned h

  leaf-chain : (s t : BareTy) → Chain Edge s t → rises tops climbs immutable s t false ≡ true
  leaf-chain s t h = or_second (tops t) (climbs s t) ((climbs-exact s t).1 h)

  leaf-chain_turned : (s t : BareTy) → Chain Edge t s → rises tops climbs immutable s t true ≡ true
  leaf-chain_turned s t h = or_second (tops s) (climbs t s) ((climbs-exact t s).1 h)

  whole-chain : (s t : BareTy) → Chain Edge s t → holds tops climbs immutable s t false ≡ true
  unfolding holds
  whole-chain (Rout xs a) (Rout ys b) h = subst (λ x. holds tops climbs immutable (Rout xs a) x false ≡ true) (from_unnamed h (λ x. x)) (holds-self (Rout xs a) false)
  whole-chain (Iter xs a) (Iter ys b) h = subst (λ x. holds tops climbs immutable (Iter xs a) x false ≡ true) (from_unnamed h (λ x. x)) (holds-self (Iter xs a) false)
  whole-chain s t h = leaf-chain s t h

  whole-chain_turned : (s t : BareTy) → Chain Edge t s → holds tops climbs immutable s t true ≡ true
  unfolding holds
  whole-chain_turned (Rout xs a) (Rout ys b) h = subst (λ x. holds tops climbs immutable (Rout xs a) x true ≡ true) (sym (from_unnamed h (λ x. x))) (holds-self (Rout xs a) true)
  whole-chain_turned (Iter xs a) (Iter ys b) h = subst (λ x. holds tops climbs immutable (Iter xs a) x true ≡ true) (sym (from_unnamed h (λ x. x))) (holds-self (Iter xs a) true)
  whole-chain_turned s t h = leaf-chain_turned s t h

  place-whole : (s t : BareTy) (other : Bool) → MayOccur immutable s t → other ≡ true → occurs_as tops climbs immutable s t other ≡ true
  place-whole s t other (inl e) h = cond-both (immutable s || immutable t) (same_type s t) other ((same_type_Decides s t).1 e) h
  place-whole s t other (inr k) h = ap (λ b. cond (b || immutable t) (same_type s t) other) k.0 ∙ ap (λ b. cond b (same_type s t) other) k.1 ∙ h

  may_occur-turned : (s t : BareTy) → MayOccur immutable s t → MayOccur immutable t s
  may_occur-turned s t (inl e) = inl (sym e)
  may_occur-turned s t (inr k) = inr (k.1, k.0)

  mutual
    unfolding holds args_hold result_holds

    whole : {s t : BareTy} → Below Edge immutable s t → holds tops climbs immutable s t false ≡ true
    whole {s = s} {t = t} (above_all h) = whole-top s t false h
    whole {s = s} {t = t} (by_chain h) = whole-chain s t h
    whole (by_routine xs r) = or_second _ _ (both _ _ (whole-args xs) (whole-result r))
    whole (by_iter xs r) = or_second _ _ (both _ _ (whole-args xs) (whole-result r))

    whole_turned : {s t : BareTy} → Below Edge immutable t s → holds tops climbs immutable s t true ≡ true
    whole_turned {s = s} {t = t} (above_all h) = whole-top s t true h
    whole_turned {s = s} {t = t} (by_chain h) = whole-chain_turned s t h
    whole_turned (by_routine xs r) = or_second _ _ (both _ _ (whole-args_turned xs) (whole-result_turned r))
    whole_turned (by_iter xs r) = or_second _ _ (both _ _ (whole-args_turned xs) (whole-result_turned r))

    whole-args : {xs ys : BareArgs} → BelowArgs Edge immutable xs ys → args_hold tops climbs immutable xs ys false ≡ true
    whole-args no_more = refl
    whole-args (by_in {s = s} {t = t} m h rest) = both _ _ (place-whole s t _ m (whole_turned h)) (whole-args rest)
    whole-args (by_once {s = s} {t = t} m h rest) = both _ _ (place-whole s t _ m (whole_turned h)) (whole-args rest)
    whole-args (by_both {t = t} rest) = both _ _ (cond-both (immutable t || immutable t) (same_type t t) (same_type t t) (same_type-self t) (same_type-self t)) (whole-args rest)
    whole-args (by_out {s = s} {t = t} m h rest) = both _ _ (place-whole s t _ m (whole h)) (whole-args rest)

    whole-args_turned : {xs ys : BareArgs} → BelowArgs Edge immutable ys xs → args_hold tops climbs immutable xs ys true ≡ true
    whole-args_turned no_more = refl
    whole-args_turned (by_in {s = s} {t = t} m h rest) = both _ _ (place-whole t s _ (may_occur-turned s t m) (whole h)) (whole-args_turned rest)
    whole-args_turned (by_once {s = s} {t = t} m h rest) = both _ _ (place-whole t s _ (may_occur-turned s t m) (whole h)) (whole-args_turned rest)
    whole-args_turned (by_both {t = t} rest) = both _ _ (cond-both (immutable t || immutable t) (same_type t t) (same_type t t) (same_type-self t) (same_type-self t)) (whole-args_turned rest)
    whole-args_turned (by_out {s = s} {t = t} m h rest) = both _ _ (place-whole t s _ (may_occur-turned s t m) (whole_turned h)) (whole-args_turned rest)

    whole-result : {a b : BareResult} → BelowResult Edge immutable a b → result_holds tops climbs immutable a b false ≡ true
    whole-result no_results = refl
    whole-result (by_result {s = s} {t = t} m h) = place-whole s t _ m (whole h)

    whole-result_turned : {a b : BareResult} → BelowResult Edge immutable b a → result_holds tops climbs immutable a b true ≡ true
    whole-result_turned no_results = refl
    whole-result_turned (by_result {s = s} {t = t} m h) = place-whole t s _ (may_occur-turned s t m) (whole_turned h)

  pub holds-exact : (s t : BareTy) → (holds tops climbs immutable s t false ≡ true) ↔ Below Edge immutable s t
  holds-exact s t = (sound s t false, λ h. whole h)
