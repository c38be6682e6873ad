-- Blocks, branches and returns: what continues is typed.
use Rattle.std.proofs.Common.{◌≡◌, ℕ, zero, suc, Bool, true, false, List, [], ◌∷◌, ◌++◌, length, take, slice_get, Option, Some, None, refl, sym, ap, subst, ◌∙◌, inr}
use Rattle.std.specs.Prelude.{reverse, if◌then◌else◌}
use Rattle.std.proofs.lemmas.List.{length-reverse}
use Rattle.std.proofs.lemmas.Option.{same_Some, none-some}
use Rattle.wa_syntax.specs.declared.module.ValTy.{ValTy}
use Rattle.wa_syntax.specs.Instructions.{Sequence}
use Rattle.wa_syntax.specs.Machine.{Entry, Label, Activation, State}
use Rattle.wa_syntax.specs.Operations.{enter, return_in, return, branch_in, branch}
use Rattle.wa_type_safety.specs.Typing.{Setting, AreOf, IsStore, BodyContext, IsCode, IsTypedTarget, IsTypedInFunction, IsInside, IsAround, IsState}
use Rattle.wa_type_safety.proofs.Values.{AreOf-none, AreOf-append, AreOf-front}
use Rattle.wa_type_safety.proofs.Rules.{Holds, IsSafe}

-- ---- blocks

-- a point in a block that begins at point p
abbrev pub in_block : List ValTy → BodyContext → BodyContext
in_block wanted p = record p { labels = wanted ∷ p.labels }

pub enter-safe : (r : Setting) (p : BodyContext) (wanted left below : List ValTy) (kept : ℕ) (again : Option Sequence) (body : Sequence) → IsCode r (in_block wanted p) body [] left → kept ≡ length wanted → IsTypedTarget r (in_block wanted p) wanted left again → IsSafe true r p below (left ++ below) (enter kept again body)
enter-safe r p wanted left below kept again body typed keeps target = record {
  holds = λ s h. record {
    place = in_block wanted p;
    types = [];
    operands = AreOf-none;
    locals = h.locals;
    store = h.store;
    around = inr (record {
      wanted = wanted;
      labels = p.labels;
      left = left;
      types_below = below;
      label = refl;
      typed = typed;
      keeps = keeps;
      target = target;
      values_below = h.operands;
      outside = h.within;
    });
  };
}

pub either-typed : (r : Setting) (p : BodyContext) (b : Bool) (first other : Sequence) (before after : List ValTy) → IsCode r p first before after → IsCode r p other before after → IsCode r p (if b then other else first) before after
either-typed r p true first other before after h k = k
either-typed r p false first other before after h k = h

-- ---- returns

-- the values that are kept, on those below
kept-values : {r : Setting} (types below : List ValTy) (ns ks : List ℕ) (more : List ValTy) (kept : ℕ) → AreOf r (reverse types ++ more) ns → kept ≡ length types → AreOf r below ks → AreOf r (reverse types ++ below) (take kept ns ++ ks)
kept-values types below ns ks more kept h e k =
    AreOf-append (reverse types) below (take kept ns) ks (AreOf-front (reverse types) more ns kept h (e ∙ sym (length-reverse types))) k

module _ (r : Setting) (s : State) (store : IsStore r s.globals s.memory s.input) where
  leave-function : (p : BodyContext) (code : Sequence) (types below : List ValTy) (kept : ℕ) (following : Sequence) (values locals : List ℕ) (stack : List Entry) → AreOf r (reverse p.results ++ below) s.operands → IsTypedInFunction r p code types kept values locals (λ q ts. IsAround r q following ts stack) → IsState r (record s { code = following; operands = take kept s.operands ++ values; locals = locals; stack = stack })
  leave-function p code types below kept following values locals stack are f = record {
    place = f.caller;
    types = reverse p.results ++ f.types_below;
    operands = kept-values p.results f.types_below s.operands values below kept are f.keeps f.values_below;
    locals = f.caller_locals;
    store = store;
    around = f.outside;
  }

  return_in-safe : (stack : List Entry) (p : BodyContext) (code : Sequence) (types below : List ValTy) → AreOf r (reverse p.results ++ below) s.operands → IsInside r p code types stack → Holds (λ u. IsState r) (return_in stack s)
  return_in-safe [] p code types below are inside = absurd inside
  return_in-safe (Label kept again following values ∷ stack) p code types below are inside =
      return_in-safe stack (record p { labels = inside.labels }) following (inside.left ++ inside.types_below) below are inside.outside
  return_in-safe (Activation kept following values locals ∷ stack) p code types below are inside =
      leave-function p code types below kept following values locals stack are inside

  -- ---- branches

  branch_in-safe : (label : ℕ) (stack : List Entry) (p : BodyContext) (code : Sequence) (types wanted below : List ValTy) → slice_get p.labels label ≡ Some wanted → AreOf r (reverse wanted ++ below) s.operands → AreOf r p.locals s.locals → IsInside r p code types stack → Holds (λ u. IsState r) (branch_in label stack s)
  branch_in-safe label [] p code types wanted below there are locals inside = absurd inside
  branch_in-safe zero (Label kept None following values ∷ stack) p code types wanted below there are locals inside =
      let same : inside.wanted ≡ wanted = same_Some inside.wanted wanted (sym (ap (λ (ls : List (List ValTy)). slice_get ls zero) inside.label) ∙ there) in
      let left : inside.left ≡ reverse wanted = inside.target ∙ ap reverse same in
      record {
        place = record p { labels = inside.labels };
        types = reverse wanted ++ inside.types_below;
        operands = kept-values wanted inside.types_below s.operands values below kept are (inside.keeps ∙ ap length same) inside.values_below;
        locals = locals;
        store = store;
        around = inr (subst (λ (ts : List ValTy). IsInside r (record p { labels = inside.labels }) following (ts ++ inside.types_below) stack) left inside.outside);
      }
  branch_in-safe zero (Label kept (Some body) following values ∷ stack) p code types wanted below there are locals inside = record {
    place = p;
    types = [];
    operands = AreOf-append [] [] (take kept s.operands) [] (AreOf-front [] (reverse wanted ++ below) s.operands kept are (inside.keeps ∙ ap length inside.target.0)) AreOf-none;
    locals = locals;
    store = store;
    around = inr (record {
      wanted = inside.wanted;
      labels = inside.labels;
      left = inside.left;
      types_below = inside.types_below;
      label = inside.label;
      typed = inside.target.1;
      keeps = inside.keeps;
      target = inside.target;
      values_below = inside.values_below;
      outside = inside.outside;
    });
  }
  branch_in-safe zero (Activation kept following values locals ∷ stack) p code types wanted below there are mine inside =
      let same : p.results ≡ wanted = same_Some p.results wanted (sym (ap (λ (ls : List (List ValTy)). slice_get ls zero) inside.label) ∙ there) in
      leave-function p code types below kept following values locals stack (subst (λ (ts : List ValTy). AreOf r (reverse ts ++ below) s.operands) (sym same) are) inside
  branch_in-safe (suc label) (Label kept again following values ∷ stack) p code types wanted below there are locals inside =
      branch_in-safe label stack (record p { labels = inside.labels }) following (inside.left ++ inside.types_below) wanted below
      (sym (ap (λ (ls : List (List ValTy)). slice_get ls (suc label)) inside.label) ∙ there) are locals inside.outside
  branch_in-safe (suc label) (Activation kept following values locals ∷ stack) p code types wanted below there are mine inside =
      absurd (none-some wanted (sym (ap (λ (ls : List (List ValTy)). slice_get ls (suc label)) inside.label) ∙ there))

pub return-safe : (r : Setting) (p : BodyContext) (below after : List ValTy) → IsSafe true r p (reverse p.results ++ below) after return
return-safe r p below after = record { holds = λ s h. return_in-safe r s h.store s.stack p s.code after below h.operands h.within }

pub branch-safe : (r : Setting) (p : BodyContext) (label : ℕ) (wanted below after : List ValTy) → slice_get p.labels label ≡ Some wanted → IsSafe true r p (reverse wanted ++ below) after (branch label)
branch-safe r p label wanted below after there = record { holds = λ s h. branch_in-safe r s h.store label s.stack p s.code after wanted below there h.operands h.locals h.within }
