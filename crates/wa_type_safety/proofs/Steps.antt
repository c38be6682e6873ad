-- Each instruction leads from a well-typed state to a well-typed one, and in each well-typed state one comes next or the run is
-- over.
use Rattle.std.proofs.Common.{◌≡◌, ℕ, true, List, [], ◌∷◌, ◌++◌, slice_get, Option, Some, None, refl, sym, subst, inl, inr}
use Rattle.std.specs.Prelude.{◌==◌, reverse, unwrap_or, if◌then◌else◌, All}
use Rattle.std.proofs.lemmas.List.{reverse-append}
use Rattle.std.proofs.lemmas.List.Elements.{All-head, All-tail}
use Rattle.std.proofs.lemmas.Option.{slice_get_within, get_or_from_slice_get}
use Rattle.wa_syntax.specs.declared.module.ValTy.{ValTy}
use Rattle.wa_syntax.specs.declared.module.ValTy.TheVariants.{I32, I64}
use Rattle.wa_syntax.specs.declared.trap.TrapKind.{TrapKind}
use Rattle.wa_syntax.specs.Instructions.{Instruction, Unreachable, Nop, Return, Drop, Select, MemorySize, MemoryGrow, Block, Loop, If, Br, BrIf, BrTable, Call, CallIndirect, LocalGet, LocalSet, LocalTee, GlobalGet, GlobalSet, I32Const, I64Const, Numeric, Memory, Sequence, nothing, ◌then◌}
use Rattle.wa_syntax.specs.Validity.{IsTyped, HasLabel}
use Rattle.wa_syntax.specs.ValidModule.{IsValid}
use Rattle.wa_syntax.specs.Machine.{Entry, Label, Activation, State, Trap, Eval, pure, as_i32, outside}
use Rattle.wa_syntax.specs.Runs.{IsLinked}
use Rattle.wa_syntax.specs.Steps.{execute, Next, At, Over, next_in, next}
use Rattle.wa_type_safety.specs.Typing.{Setting, BeginsInRange, AreOf, IsStore, BodyContext, context, IsInside, IsAround, IsState}
use Rattle.wa_type_safety.specs.Ranges.{HasConstants, AreConstants}
use Rattle.wa_type_safety.proofs.Values.{AreOf-append}
use Rattle.wa_type_safety.proofs.Rules.{Leads-leave, Leads-if, Leads-taken, Leads-nothing_last, Finds, IsSafe, IsSafe-gives, IsSafe-takes}
use Rattle.wa_type_safety.proofs.Branches.{in_block, enter-safe, either-typed, return-safe, branch-safe}
use Rattle.wa_type_safety.proofs.Plain.{drop-safe, select-safe, local_get-safe, local_set-safe, local_tee-safe, global_get-safe, global_set-safe, i32_const-safe, i64_const-safe, numeric-safe, memory_load-safe, memory_store-safe, memory_size-safe, memory_grow-safe}
use Rattle.wa_type_safety.proofs.Linked.{function-type}
use Rattle.wa_type_safety.proofs.Calls.{call-safe, call_indirect-safe}

module _ (r : Setting) (p : BodyContext) where
  -- ---- branches that take an operand first

  -- types with one more on top
  on-top : {e : Eval (Unit {0})} {after : List ValTy} (wanted : List ValTy) (t : ValTy) (below : List ValTy) → IsSafe true r p (t ∷ (reverse wanted ++ below)) after e → IsSafe true r p (reverse (wanted ++ t ∷ []) ++ below) after e
  on-top {e = e} {after = after} wanted t below h = subst (λ (ts : List ValTy). IsSafe true r p (ts ++ below) after e) (sym (reverse-append wanted (t ∷ []))) h

  br_if-safe : (label : ℕ) (wanted below : List ValTy) → slice_get p.labels label ≡ Some wanted → IsSafe true r p (I32 ∷ (reverse wanted ++ below)) (reverse wanted ++ below) (execute r.program (BrIf label))
  br_if-safe label wanted below there =
      Leads-taken (λ c is. Leads-if (as_i32 c == 0) Leads-nothing_last (branch-safe r p label wanted below (reverse wanted ++ below) there))

  -- the label that a table has at an index, or the default
  label-at : (labels : List ℕ) (default i : ℕ) (wanted : List ValTy) → All (HasLabel (context r.program p) wanted) (default ∷ labels) → slice_get p.labels (unwrap_or (slice_get labels i) default) ≡ Some wanted
  label-at labels default i wanted all = by (slice_get labels i) refl
    where
      by : (o : Option ℕ) → slice_get labels i ≡ o → slice_get p.labels (unwrap_or o default) ≡ Some wanted
      by None e = All-head (HasLabel (context r.program p) wanted) default labels all
      by (Some label) e =
          subst (HasLabel (context r.program p) wanted) (get_or_from_slice_get labels i label label e)
          (All-tail (HasLabel (context r.program p) wanted) default labels all i label (slice_get_within labels i label e))

  br_table-safe : (labels : List ℕ) (default : ℕ) (wanted below after : List ValTy) → All (HasLabel (context r.program p) wanted) (default ∷ labels) → IsSafe true r p (I32 ∷ (reverse wanted ++ below)) after (execute r.program (BrTable labels default))
  br_table-safe labels default wanted below after all =
      Leads-taken (λ i is. branch-safe r p (unwrap_or (slice_get labels (as_i32 i)) default) wanted below after (label-at labels default (as_i32 i) wanted all))

  -- ---- blocks

  block-safe : (result : Option ValTy) (body : Sequence) (before after : List ValTy) → IsTyped (context r.program p) (Block result body) before after → (BeginsInRange r → AreConstants body) → IsSafe true r p before after (execute r.program (Block result body))
  block-safe None body before after (typed, gives) constants = IsSafe-gives [] [] _ gives (λ below. enter-safe r p [] [] below 0 None body (typed, constants) refl refl)
  block-safe (Some t) body before after (typed, gives) constants = IsSafe-gives [] (t ∷ []) _ gives (λ below. enter-safe r p (t ∷ []) (t ∷ []) below 1 None body (typed, constants) refl refl)

  loop-safe : (result : Option ValTy) (body : Sequence) (before after : List ValTy) → IsTyped (context r.program p) (Loop result body) before after → (BeginsInRange r → AreConstants body) → IsSafe true r p before after (execute r.program (Loop result body))
  loop-safe None body before after (typed, gives) constants = IsSafe-gives [] [] _ gives (λ below. enter-safe r p [] [] below 0 (Some body) body (typed, constants) refl (refl, (typed, constants)))
  loop-safe (Some t) body before after (typed, gives) constants = IsSafe-gives [] (t ∷ []) _ gives (λ below. enter-safe r p [] (t ∷ []) below 0 (Some body) body (typed, constants) refl (refl, (typed, constants)))

  if-safe : (result : Option ValTy) (first other : Sequence) (before after : List ValTy) → IsTyped (context r.program p) (If result first other) before after → (BeginsInRange r → AreConstants first × AreConstants other) → IsSafe true r p before after (execute r.program (If result first other))
  if-safe None first other before after (typed, typed_other, gives) constants =
      IsSafe-gives (I32 ∷ []) [] _ gives (λ below. Leads-taken (λ c is.
      enter-safe r p [] [] below 0 None (if as_i32 c == 0 then other else first) (either-typed r (in_block [] p) (as_i32 c == 0) first other [] [] (typed, λ begins. (constants begins).0) (typed_other, λ begins. (constants begins).1)) refl refl))
  if-safe (Some t) first other before after (typed, typed_other, gives) constants =
      IsSafe-gives (I32 ∷ []) (t ∷ []) _ gives (λ below. Leads-taken (λ c is.
      enter-safe r p (t ∷ []) (t ∷ []) below 1 None (if as_i32 c == 0 then other else first) (either-typed r (in_block (t ∷ []) p) (as_i32 c == 0) first other [] (t ∷ []) (typed, λ begins. (constants begins).0) (typed_other, λ begins. (constants begins).1)) refl refl))

  -- ---- instructions (4.4)

  pub execute-safe : IsValid r.program → IsLinked r.program → (i : Instruction) (before after : List ValTy) → IsTyped (context r.program p) i before after → (BeginsInRange r → HasConstants i) → IsSafe true r p before after (execute r.program i)
  execute-safe valid linked Unreachable before after typed constants = Leads-leave (λ u. IsState r) (Trap TrapKind.Unreachable) tt
  execute-safe valid linked Nop before after typed constants = subst (λ (ts : List ValTy). IsSafe true r p before ts (pure tt)) (sym typed) Leads-nothing_last
  execute-safe valid linked Return before after typed constants = IsSafe-takes p.results _ typed (λ below. return-safe r p below after)
  execute-safe valid linked Drop before after (t, gives) constants = IsSafe-gives (t ∷ []) [] _ gives (λ below. drop-safe r p below t)
  execute-safe valid linked Select before after (t, gives) constants = IsSafe-gives (t ∷ t ∷ I32 ∷ []) (t ∷ []) _ gives (λ below. select-safe r p below t)
  execute-safe valid linked MemorySize before after (has, gives) constants = IsSafe-gives [] (I32 ∷ []) _ gives (λ below. memory_size-safe r p below)
  execute-safe valid linked MemoryGrow before after (has, gives) constants = IsSafe-gives (I32 ∷ []) (I32 ∷ []) _ gives (λ below. memory_grow-safe r p below)
  execute-safe valid linked (Block result body) before after typed constants = block-safe result body before after typed constants
  execute-safe valid linked (Loop result body) before after typed constants = loop-safe result body before after typed constants
  execute-safe valid linked (If result first other) before after typed constants = if-safe result first other before after typed constants
  execute-safe valid linked (Br label) before after (wanted, there, takes) constants = IsSafe-takes wanted _ takes (λ below. branch-safe r p label wanted below after there)
  execute-safe valid linked (BrIf label) before after (wanted, there, gives) constants =
      IsSafe-gives (wanted ++ I32 ∷ []) wanted _ gives (λ below. on-top wanted I32 below (br_if-safe label wanted below there))
  execute-safe valid linked (BrTable labels default) before after (wanted, all, takes) constants =
      IsSafe-takes (wanted ++ I32 ∷ []) _ takes (λ below. on-top wanted I32 below (br_table-safe labels default wanted below after all))
  execute-safe valid linked (Call func) before after (ty, there, gives) constants =
      IsSafe-gives ty.params ty.results _ gives (λ below. call-safe true r p below valid linked func ty (function-type r.program linked func ty there))
  execute-safe valid linked (CallIndirect number) before after (ty, has, there, gives) constants =
      IsSafe-gives (ty.params ++ I32 ∷ []) ty.results _ gives (λ below. on-top ty.params I32 below
      (Leads-taken (λ place is. call_indirect-safe true r p below valid linked number (as_i32 place) ty there)))
  execute-safe valid linked (LocalGet x) before after (t, there, gives) constants = IsSafe-gives [] (t ∷ []) _ gives (λ below. local_get-safe r p below x t there)
  execute-safe valid linked (LocalSet x) before after (t, there, gives) constants = IsSafe-gives (t ∷ []) [] _ gives (λ below. local_set-safe r p below x t there)
  execute-safe valid linked (LocalTee x) before after (t, there, gives) constants = IsSafe-gives (t ∷ []) (t ∷ []) _ gives (λ below. local_tee-safe r p below x t there)
  execute-safe valid linked (GlobalGet x) before after (g, there, gives) constants = IsSafe-gives [] (g.val ∷ []) _ gives (λ below. global_get-safe r p below x g there)
  execute-safe valid linked (GlobalSet x) before after (g, there, mutable, gives) constants = IsSafe-gives (g.val ∷ []) [] _ gives (λ below. global_set-safe r p below x g there)
  execute-safe valid linked (I32Const n) before after gives constants = IsSafe-gives [] (I32 ∷ []) _ gives (λ below. i32_const-safe r p below n constants)
  execute-safe valid linked (I64Const n) before after gives constants = IsSafe-gives [] (I64 ∷ []) _ gives (λ below. i64_const-safe r p below n constants)
  execute-safe valid linked (Numeric op) before after (ty, is, gives) constants = IsSafe-gives ty.params ty.results _ gives (λ below. numeric-safe r p below op ty is)
  execute-safe valid linked (Memory op align offset) before after (inl (a, is, aligned, gives)) constants = IsSafe-gives (I32 ∷ []) (a.ty ∷ []) _ gives (λ below. memory_load-safe r p below op align offset a is)
  execute-safe valid linked (Memory op align offset) before after (inr (a, is, aligned, gives)) constants = IsSafe-gives (I32 ∷ a.ty ∷ []) [] _ gives (λ below. memory_store-safe r p below op align offset a is)

-- ---- what comes next (4.4.5, 4.4.7)

-- the instruction that comes next finds what it takes
pub record IsAt (r : Setting) (i : Instruction) (s : State) : Type 0 where
  pub place : BodyContext
  pub before : List ValTy
  pub after : List ValTy
  pub typed : IsTyped (context r.program place) i before after
  pub constants : BeginsInRange r → HasConstants i
  pub finds : Finds true r place before after s

-- an instruction comes next, or the run is over, outside all functions, and the results have the types that are to be left
abbrev pub IsNext : Setting → (from : State) → Next → Type 0
IsNext r from (At i s) = IsAt r i s
IsNext r from (Over results s) = (s ≡ outside from) × AreOf r r.ends results

-- the instruction that comes next is typed, and so are those after it
first-typed : (r : Setting) (p : BodyContext) (i : Instruction) (rest : Sequence) (types : List ValTy) (stack : List Entry) → IsInside r p (i then rest) types stack → (middle : List ValTy) × IsTyped (context r.program p) i types middle × (BeginsInRange r → HasConstants i) × IsInside r p rest middle stack
first-typed r p i rest types [] h = absurd h
first-typed r p i rest types (Label kept again following below ∷ stack) h = (
  h.typed.0.0,
  h.typed.0.1,
  λ begins. (h.typed.1 begins).0,
  record {
    wanted = h.wanted;
    labels = h.labels;
    left = h.left;
    types_below = h.types_below;
    label = h.label;
    typed = (h.typed.0.2, λ begins. (h.typed.1 begins).1);
    keeps = h.keeps;
    target = h.target;
    values_below = h.values_below;
    outside = h.outside;
  },
)
first-typed r p i rest types (Activation kept following below locals ∷ stack) h = (
  h.typed.0.0,
  h.typed.0.1,
  λ begins. (h.typed.1 begins).0,
  record {
    caller = h.caller;
    types_below = h.types_below;
    label = h.label;
    typed = (h.typed.0.2, λ begins. (h.typed.1 begins).1);
    keeps = h.keeps;
    values_below = h.values_below;
    caller_locals = h.caller_locals;
    outside = h.outside;
  },
)

module _ (r : Setting) (s : State) (store : IsStore r s.globals s.memory s.input) where
  at-next : (p : BodyContext) (i : Instruction) (rest : Sequence) (types : List ValTy) (operands locals : List ℕ) (stack : List Entry) → AreOf r types operands → AreOf r p.locals locals → IsInside r p (i then rest) types stack → IsNext r s (next_in (i then rest) operands locals stack s)
  at-next p i rest types operands locals stack are mine inside =
      let first = first-typed r p i rest types stack inside in
      record {
        place = p;
        before = types;
        after = first.0;
        typed = first.1;
        constants = first.2;
        finds = record { operands = are; locals = mine; store = store; within = first.3 };
      }

  next_in-safe : (stack : List Entry) (code : Sequence) (p : BodyContext) (types : List ValTy) (operands locals : List ℕ) → AreOf r types operands → AreOf r p.locals locals → IsAround r p code types stack → IsNext r s (next_in code operands locals stack s)
  next_in-safe stack (i then rest) p types operands locals are mine (inl (none, empty, ends)) = cc
  next_in-safe stack (i then rest) p types operands locals are mine (inr inside) = at-next p i rest types operands locals stack are mine inside
  next_in-safe [] nothing p types operands locals are mine (inl (none, empty, ends)) = (refl, subst (λ (ts : List ValTy). AreOf r ts operands) ends are)
  next_in-safe [] nothing p types operands locals are mine (inr h) = absurd h
  next_in-safe (Label kept again following below ∷ stack) nothing p types operands locals are mine (inl (none, empty, ends)) = cc
  next_in-safe (Activation kept following below outer ∷ stack) nothing p types operands locals are mine (inl (none, empty, ends)) = cc
  next_in-safe (Label kept again following below ∷ stack) nothing p types operands locals are mine (inr h) =
      next_in-safe stack following (record p { labels = h.labels }) (h.left ++ h.types_below) (operands ++ below) locals
      (AreOf-append h.left h.types_below operands below (subst (λ (ts : List ValTy). AreOf r ts operands) (sym h.typed.0) are) h.values_below) mine (inr h.outside)
  next_in-safe (Activation kept following below outer ∷ stack) nothing p types operands locals are mine (inr h) =
      next_in-safe stack following h.caller (reverse p.results ++ h.types_below) (operands ++ below) outer
      (AreOf-append (reverse p.results) h.types_below operands below (subst (λ (ts : List ValTy). AreOf r ts operands) (sym h.typed.0) are) h.values_below) h.caller_locals h.outside

pub next-safe : (r : Setting) (s : State) → IsState r s → IsNext r s (next s)
next-safe r s h = next_in-safe r s h.store s.stack s.code h.place h.types s.operands s.locals h.operands h.locals h.around
