-- The normal form of the subtype relation: a type is a subtype of another if declared edges lead to that from the first or from `$OB`, or
-- by the rule for bound types, whose arguments and results are related in the same way.
use Rattle.std.proofs.Common.{◌≡◌, Bool, inl, inr, refl, sym, subst}
use Rattle.sa_ast.specs.declared.ty.Mode.TheVariants.{In, Out, Inout, Once}
use Rattle.sa_ast.specs.Types.{BareTy, Named, Same, Rout, Iter, BareArgs, no_args, arg, BareResult, no_result, gives}
use Rattle.sa_subtypes.specs.Subtypes.{top, MayOccur, Sub, itself, over, edge, below_top, routine, iter, SubArgs, none, goes_in, goes_once, goes_both, goes_out, SubResult, nothing, one}

-- a type is a class
abbrev pub IsNamed : BareTy → Type 0
IsNamed (Named name args) = Unit {0}
IsNamed _ = ⊥

-- edges lead from one type to another, over none or more types between them
pub data Chain (Edge : BareTy → BareTy → Type 0) : BareTy → BareTy → Type 0 where
  here : {t : BareTy} → Chain Edge t t
  step : {s t u : BareTy} → Edge s t → Chain Edge t u → Chain Edge s u

mutual
  pub data Below (Edge : BareTy → BareTy → Type 0) (immutable : BareTy → Bool) : BareTy → BareTy → Type 0 where
    above_all : {s t : BareTy} → Chain Edge top t → Below Edge immutable s t
    by_chain : {s t : BareTy} → Chain Edge s t → Below Edge immutable s t
    by_routine : {args others : BareArgs} {of other : BareResult} → BelowArgs Edge immutable args others → BelowResult Edge immutable of other → Below Edge immutable (Rout args of) (Rout others other)
    by_iter : {args others : BareArgs} {of other : BareResult} → BelowArgs Edge immutable args others → BelowResult Edge immutable of other → Below Edge immutable (Iter args of) (Iter others other)

  pub data BelowArgs (Edge : BareTy → BareTy → Type 0) (immutable : BareTy → Bool) : BareArgs → BareArgs → Type 0 where
    no_more : BelowArgs Edge immutable no_args no_args
    by_in : {s t : BareTy} {args others : BareArgs} → MayOccur immutable s t → Below Edge immutable t s → BelowArgs Edge immutable args others → BelowArgs Edge immutable (arg In s args) (arg In t others)
    by_once : {s t : BareTy} {args others : BareArgs} → MayOccur immutable s t → Below Edge immutable t s → BelowArgs Edge immutable args others → BelowArgs Edge immutable (arg Once s args) (arg Once t others)
    by_both : {t : BareTy} {args others : BareArgs} → BelowArgs Edge immutable args others → BelowArgs Edge immutable (arg Inout t args) (arg Inout t others)
    by_out : {s t : BareTy} {args others : BareArgs} → MayOccur immutable s t → Below Edge immutable s t → BelowArgs Edge immutable args others → BelowArgs Edge immutable (arg Out s args) (arg Out t others)

  pub data BelowResult (Edge : BareTy → BareTy → Type 0) (immutable : BareTy → Bool) : BareResult → BareResult → Type 0 where
    no_results : BelowResult Edge immutable no_result no_result
    by_result : {s t : BareTy} → MayOccur immutable s t → Below Edge immutable s t → BelowResult Edge immutable (gives s) (gives t)

module _ (Edge : BareTy → BareTy → Type 0) (immutable : BareTy → Bool) where
  -- ---- chains

  pub chain-over : {s t u : BareTy} → Chain Edge s t → Chain Edge t u → Chain Edge s u
  chain-over here k = k
  chain-over (step e h) k = step e (chain-over h k)

  -- ---- the normal form is a subtype

  chain-sub : {s t : BareTy} → Chain Edge s t → Sub Edge immutable s t
  chain-sub here = itself
  chain-sub (step e h) = over (edge e) (chain-sub h)

  mutual
    pub below-sub : {s t : BareTy} → Below Edge immutable s t → Sub Edge immutable s t
    below-sub (above_all h) = over below_top (chain-sub h)
    below-sub (by_chain h) = chain-sub h
    below-sub (by_routine xs r) = routine (below_args-sub xs) (below_result-sub r)
    below-sub (by_iter xs r) = iter (below_args-sub xs) (below_result-sub r)

    below_args-sub : {args others : BareArgs} → BelowArgs Edge immutable args others → SubArgs Edge immutable args others
    below_args-sub no_more = none
    below_args-sub (by_in m h rest) = goes_in m (below-sub h) (below_args-sub rest)
    below_args-sub (by_once m h rest) = goes_once m (below-sub h) (below_args-sub rest)
    below_args-sub (by_both rest) = goes_both (below_args-sub rest)
    below_args-sub (by_out m h rest) = goes_out m (below-sub h) (below_args-sub rest)

    below_result-sub : {of other : BareResult} → BelowResult Edge immutable of other → SubResult Edge immutable of other
    below_result-sub no_results = nothing
    below_result-sub (by_result m h) = one m (below-sub h)

  -- ---- the normal form is transitive

  may_occur-over : {s t u : BareTy} → MayOccur immutable s t → MayOccur immutable t u → MayOccur immutable s u
  may_occur-over {u = u} (inl e) k = subst (λ x. MayOccur immutable x u) (sym e) k
  may_occur-over {s = s} (inr h) (inl e) = subst (λ x. MayOccur immutable s x) e (inr h)
  may_occur-over (inr h) (inr k) = inr (h.0, k.1)

  below-from : {s t u : BareTy} → s ≡ t → Below Edge immutable t u → Below Edge immutable s u
  below-from {u = u} e h = subst (λ x. Below Edge immutable x u) (sym e) h

  below-to : {s t u : BareTy} → t ≡ u → Below Edge immutable s t → Below Edge immutable s u
  below-to {s = s} e h = subst (λ x. Below Edge immutable s x) e h

  module _ (named : (s t : BareTy) → Edge s t → IsNamed s × IsNamed t) where
    -- a chain that begins or ends at a bound type has no edge
    from_routine : {args : BareArgs} {of : BareResult} {t : BareTy} → Chain Edge (Rout args of) t → Rout args of ≡ t
    from_routine here = refl
    from_routine (step e h) = absurd ((named _ _ e).0)

    from_iter : {args : BareArgs} {of : BareResult} {t : BareTy} → Chain Edge (Iter args of) t → Iter args of ≡ t
    from_iter here = refl
    from_iter (step e h) = absurd ((named _ _ e).0)

    to_unnamed : {s t : BareTy} → Chain Edge s t → (IsNamed t → ⊥) → s ≡ t
    to_unnamed here unnamed = refl
    to_unnamed (step e h) unnamed = absurd (unnamed (subst IsNamed (to_unnamed h unnamed) ((named _ _ e).1)))

    top_to_unnamed : {t : BareTy} → Chain Edge top t → (IsNamed t → ⊥) → ⊥
    top_to_unnamed h unnamed = unnamed (subst IsNamed (to_unnamed h unnamed) tt)

    mutual
      pub below-over : (t : BareTy) → {s u : BareTy} → Below Edge immutable s t → Below Edge immutable t u → Below Edge immutable s u
      below-over (Named name args) h (above_all k) = above_all k
      below-over (Named name args) (above_all h) (by_chain k) = above_all (chain-over h k)
      below-over (Named name args) (by_chain h) (by_chain k) = by_chain (chain-over h k)
      below-over Same h (above_all k) = above_all k
      below-over Same (above_all h) (by_chain k) = above_all (chain-over h k)
      below-over Same (by_chain h) (by_chain k) = by_chain (chain-over h k)
      below-over (Rout args of) h (above_all k) = above_all k
      below-over (Rout args of) h (by_chain k) = below-to (from_routine k) h
      below-over (Rout args of) (above_all h) (by_routine xs r) = absurd (top_to_unnamed h (λ x. x))
      below-over (Rout args of) (by_chain h) (by_routine xs r) = below-from (to_unnamed h (λ x. x)) (by_routine xs r)
      below-over (Rout args of) (by_routine ys q) (by_routine xs r) = by_routine (below_args-over args ys xs) (below_result-over of q r)
      below-over (Iter args of) h (above_all k) = above_all k
      below-over (Iter args of) h (by_chain k) = below-to (from_iter k) h
      below-over (Iter args of) (above_all h) (by_iter xs r) = absurd (top_to_unnamed h (λ x. x))
      below-over (Iter args of) (by_chain h) (by_iter xs r) = below-from (to_unnamed h (λ x. x)) (by_iter xs r)
      below-over (Iter args of) (by_iter ys q) (by_iter xs r) = by_iter (below_args-over args ys xs) (below_result-over of q r)

      below_args-over : (args : BareArgs) → {lower upper : BareArgs} → BelowArgs Edge immutable lower args → BelowArgs Edge immutable args upper → BelowArgs Edge immutable lower upper
      below_args-over no_args no_more no_more = no_more
      below_args-over (arg In t args) (by_in m h rest) (by_in n k others) = by_in (may_occur-over m n) (below-over t k h) (below_args-over args rest others)
      below_args-over (arg Once t args) (by_once m h rest) (by_once n k others) = by_once (may_occur-over m n) (below-over t k h) (below_args-over args rest others)
      below_args-over (arg Inout t args) (by_both rest) (by_both others) = by_both (below_args-over args rest others)
      below_args-over (arg Out t args) (by_out m h rest) (by_out n k others) = by_out (may_occur-over m n) (below-over t h k) (below_args-over args rest others)

      below_result-over : (of : BareResult) → {lower upper : BareResult} → BelowResult Edge immutable lower of → BelowResult Edge immutable of upper → BelowResult Edge immutable lower upper
      below_result-over no_result no_results no_results = no_results
      below_result-over (gives t) (by_result m h) (by_result n k) = by_result (may_occur-over m n) (below-over t h k)

    -- ---- each subtype has the normal form

    mutual
      pub sub-below : {s t : BareTy} → Sub Edge immutable s t → Below Edge immutable s t
      sub-below itself = by_chain here
      sub-below (over {t = t} h k) = below-over t (sub-below h) (sub-below k)
      sub-below (edge e) = by_chain (step e here)
      sub-below below_top = above_all here
      sub-below (routine xs r) = by_routine (sub_args-below xs) (sub_result-below r)
      sub-below (iter xs r) = by_iter (sub_args-below xs) (sub_result-below r)

      sub_args-below : {args others : BareArgs} → SubArgs Edge immutable args others → BelowArgs Edge immutable args others
      sub_args-below none = no_more
      sub_args-below (goes_in m h rest) = by_in m (sub-below h) (sub_args-below rest)
      sub_args-below (goes_once m h rest) = by_once m (sub-below h) (sub_args-below rest)
      sub_args-below (goes_both rest) = by_both (sub_args-below rest)
      sub_args-below (goes_out m h rest) = by_out m (sub-below h) (sub_args-below rest)

      sub_result-below : {of other : BareResult} → SubResult Edge immutable of other → BelowResult Edge immutable of other
      sub_result-below nothing = no_results
      sub_result-below (one m h) = by_result m (sub-below h)
