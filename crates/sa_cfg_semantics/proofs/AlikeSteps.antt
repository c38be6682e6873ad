-- Operations, terminators and runs from an index in a block are alike where what follows is; so a run has levels enough where these are no
-- fewer than the CFG steps that are left.
use Rattle.std.proofs.Common.{ℕ, zero, suc, ◌+◌, ◌≤◌, List, slice_get, Option, Some, None, arith}
use Rattle.sa_cfg.specs.declared.body.BasicBlock.{BasicBlock}
use Rattle.sa_cfg.specs.declared.program.CfgProgram.{CfgProgram}
use Rattle.sa_cfg.specs.declared.operation.Constant.{Constant}
use Rattle.sa_cfg.specs.declared.operation.Constant.TheVariants as const
use Rattle.sa_cfg.specs.declared.operation.Terminator.{Terminator}
use Rattle.sa_cfg.specs.declared.operation.Terminator.TheVariants.{Jump, Branch, Return, Suspend, Quit, Raise, Fault}
use Rattle.sa_cfg.specs.declared.operation.CfgOperation.{CfgOperation}
use Rattle.sa_cfg.specs.declared.operation.CfgOperation.TheVariants.{Const, Move, SelfRef, IsVoid, Turn, New, NewArray, SetElement, Box, BoxFor, Unbox, TypeIs, CheckNotVoid, InitShared, Call, Bind, HasInstance, Start, Resume, HasFrame, Enter, Release, SetException}
use Rattle.sa_semantics.specs.Value.{Value}
use Rattle.sa_cfg_semantics.specs.Frames.{BodyResult, Transfer, Onward, To, Leaving}
use Rattle.sa_cfg_semantics.specs.Counting.{Eval}
use Rattle.sa_cfg_semantics.specs.Operations.{give, give_of, constant, array, if_class, has_type, this_is_adapter, box_operand, unbox_operand, bound_for, set_element, check_not_void, step}
use Rattle.sa_cfg_semantics.specs.Terminators.{value_of, number_in, store, suspend, exit}
use Rattle.sa_cfg_semantics.specs.Run.{this_block, next, run_next, run_at, run_from}
use Rattle.sa_cfg_semantics.specs.Law.{HasLevels}
use Rattle.sa_cfg_semantics.proofs.Alike.{Alike, Steady, counts, turns, first, ends, alike_then, alike_before, alike_if, steady_stop, steady_pure, steady_or_stuck, steady_stuck, steady_within, keeps}
use Rattle.sa_cfg_semantics.proofs.AlikeCalls.{steady_if_abstract, steady_read, steady_write, steady_this, steady_fault, alike_guarded, alike_call, steady_bind}
use Rattle.sa_cfg_semantics.proofs.AlikeInstances.{steady_frame_at, steady_set_frame, steady_entry_at, steady_release_all, alike_start, alike_resume, alike_enter_iter}

-- ---- operations

steady_give : {level : ℕ} (to : ℕ) {f : Eval Value} → Steady level f → Steady level (give to f)
steady_give to a = alike_before (alike_then a (λ v. steady_write to v)) (steady_pure _)

steady_give_of : {level : ℕ} (to from : ℕ) (see : Value → Value) → Steady level (give_of to from see)
steady_give_of to from see = steady_give to (alike_then (steady_read from) (λ v. steady_pure _))

module _ (p : CfgProgram) where
  steady_constant : {level : ℕ} (c : Constant) → Steady level (constant p c)
  steady_constant (const.Void ty) = steady_pure _
  steady_constant (const.Int z) = steady_pure _
  steady_constant (const.Bool b) = steady_pure _
  steady_constant (const.Char byte) = steady_pure _
  steady_constant (const.Text text) = alike_then (steady_or_stuck _) (λ bytes. steady_pure _)

  steady_array : {level : ℕ} (ty count : ℕ) → Steady level (array p ty count)
  steady_array ty count = alike_then (steady_read count) (λ v. alike_then (steady_or_stuck _) (λ n. steady_within _))

  steady_if_class : {level : ℕ} (ty : ℕ) {f : Eval Value} → Steady level f → Steady level (if_class p ty f)
  steady_if_class ty a = alike_if _ steady_stuck a

  steady_has_type : {level : ℕ} (ty : ℕ) (v : Value) → Steady level (has_type p ty v)
  steady_has_type ty v = steady_if_abstract v (alike_then (steady_within _) (λ dynamic. steady_pure _))

  steady_this_is_made : {level : ℕ} → Steady level (this_is_adapter p)
  steady_this_is_made = alike_then steady_this (λ here. steady_pure _)

  steady_widening : {level : ℕ} (ty : ℕ) (v : Value) → Steady level (box_operand p ty v)
  steady_widening ty v = alike_then steady_this_is_made (λ made. alike_if _ (steady_pure _) (steady_within _))

  steady_unwrapping : {level : ℕ} (ty : ℕ) (v : Value) → Steady level (unbox_operand p ty v)
  steady_unwrapping ty v = alike_then steady_this_is_made (λ made. alike_if _ (steady_pure _) steady_stuck)

  steady_kept_for : {level : ℕ} (from ty recv : ℕ) (types : List ℕ) → Steady level (bound_for p from ty recv types)
  steady_kept_for from ty recv types =
      alike_then (steady_read from) (λ v. alike_then (steady_read recv) (λ receiver. alike_if _ (steady_if_abstract receiver (alike_then (steady_within _) (λ dynamic. steady_within _))) steady_stuck))

steady_put_item : {level : ℕ} (array ty at value : ℕ) → Steady level (set_element array ty at value)
steady_put_item array ty at value =
    alike_then (steady_read _) (λ a. alike_then (steady_read _) (λ i. alike_then (steady_read _) (λ v. alike_then (steady_or_stuck _) (λ number.
    alike_then (steady_or_stuck _) (λ place. alike_then (steady_within _) (λ o. alike_if _ (steady_within _) steady_stuck))))))

steady_not_void : {level : ℕ} (v : Value) → Steady level (check_not_void v)
steady_not_void v = alike_if _ (steady_stop _) (steady_if_abstract v (steady_pure _))

module _ (p : CfgProgram) (rows : List (List ℕ)) (level : ℕ) (go to : ℕ → ℕ → Eval BodyResult) (alike : (block place : ℕ) → Alike level (go block place) (to block place)) where
  alike_step : (a : CfgOperation) → Alike level (step p rows go a) (step p rows to a)
  alike_step (Const x value) = steady_give x (steady_constant p value)
  alike_step (Move x from) = steady_give x (steady_read from)
  alike_step (SelfRef x) = steady_give x (alike_then steady_this (λ here. steady_pure _))
  alike_step (IsVoid x from) = steady_give_of x from _
  alike_step Turn = turns (steady_pure _)
  alike_step (New x ty fail) = alike_guarded p fail (steady_give x (steady_if_class p ty (steady_within _)))
  alike_step (NewArray x ty count fail) = alike_guarded p fail (steady_give x (steady_if_class p ty (steady_array p ty count)))
  alike_step (SetElement array ty at value) = alike_before (steady_put_item array ty at value) (steady_pure _)
  alike_step (Box x from ty fail) = alike_guarded p fail (steady_give x (alike_then (steady_read from) (λ v. steady_widening p ty v)))
  alike_step (BoxFor x from ty recv types fail) = alike_guarded p fail (steady_give x (steady_kept_for p from ty recv types))
  alike_step (Unbox x from ty) = steady_give x (alike_then (steady_read from) (λ v. steady_unwrapping p ty v))
  alike_step (TypeIs x from ty) = steady_give x (alike_then (steady_read from) (λ v. steady_has_type p ty v))
  alike_step (CheckNotVoid from fail) = alike_guarded p fail (alike_then (steady_read from) (λ v. steady_not_void v))
  alike_step (InitShared shared from) = alike_before (alike_then (steady_read from) (λ v. steady_within _)) (steady_pure _)
  alike_step (Call plan) = alike_guarded p plan.fail (alike_call p level go to alike rows plan)
  alike_step (Bind plan entry) = alike_guarded p plan.fail (steady_bind p rows plan entry)
  alike_step (HasInstance x site) = steady_give x (alike_then (steady_entry_at site) (λ entry. steady_pure _))
  alike_step (Start site plan quit) = alike_guarded p plan.fail (alike_start p level go to alike rows site plan quit)
  alike_step (Resume site plan quit) = alike_guarded p plan.fail (alike_resume p level go to alike site plan quit)
  alike_step (HasFrame x) = steady_give x (alike_then steady_this (λ here. steady_pure _))
  alike_step (Enter body recv args value quit) = alike_enter_iter p level go to alike body recv args value quit
  alike_step (Release sites) = alike_before (steady_release_all p sites) (steady_pure _)
  alike_step (SetException value place x) = alike_then (steady_read value) (λ v. alike_before (steady_write _ _) (alike_before (steady_write _ _) (alike_before (steady_write _ _) (steady_pure _))))

-- ---- terminators

steady_value_of : {level : ℕ} (value : Option ℕ) → Steady level (value_of value)
steady_value_of None = steady_pure _
steady_value_of (Some var) = alike_then (steady_read var) (λ v. steady_pure _)

steady_number_in : {level : ℕ} (var : ℕ) → Steady level (number_in var)
steady_number_in var = alike_then (steady_read var) (λ v. alike_then (steady_or_stuck _) (λ z. steady_pure _))

module _ (p : CfgProgram) where
  steady_store : {level : ℕ} (number : ℕ) (resume : Option ℕ) → Steady level (store p number resume)
  steady_store number None = steady_pure _
  steady_store number (Some block) =
      alike_then steady_this (λ here. alike_then (steady_or_stuck _) (λ b. alike_then (steady_frame_at number) (λ frame. alike_before (counts _) (steady_set_frame _ _))))

  steady_suspend : {level : ℕ} (value resume : Option ℕ) → Steady level (suspend p value resume)
  steady_suspend value resume =
      alike_then (steady_value_of value) (λ v. alike_then steady_this (λ here. alike_then (steady_or_stuck _) (λ number. alike_before (steady_store number resume) (steady_pure _))))

  steady_exit : {level : ℕ} (e : Terminator) → Steady level (exit p e)
  steady_exit (Jump block) = steady_pure _
  steady_exit (Branch test a b) = alike_then (steady_read test) (λ v. alike_then (steady_or_stuck _) (λ b. steady_pure _))
  steady_exit (Return value) = alike_then (steady_value_of value) (λ v. steady_pure _)
  steady_exit (Suspend value resume) = steady_suspend value resume
  steady_exit Quit = steady_pure _
  steady_exit (Raise value place kind) = alike_then (steady_read value) (λ v. alike_then (steady_number_in place) (λ at. alike_then (steady_number_in kind) (λ k. steady_pure _)))
  steady_exit (Fault kind fail) = steady_fault p fail kind

-- ---- runs from an index in a block

steady_this_block : {level : ℕ} (p : CfgProgram) (block : ℕ) → Steady level (this_block p block)
steady_this_block p block = alike_then steady_this (λ here. alike_then (steady_or_stuck _) (λ b. steady_or_stuck _))

module _ (p : CfgProgram) (rows : List (List ℕ)) (level : ℕ) (go to : ℕ → ℕ → Eval BodyResult) (alike : (block place : ℕ) → Alike level (go block place) (to block place)) where
  alike_step_or_exit : (b : BasicBlock) (a : Option CfgOperation) → Alike level (run_next p rows go b a) (run_next p rows to b a)
  alike_step_or_exit b None = steady_exit p b.exit
  alike_step_or_exit b (Some a) = alike_step p rows level go to alike a

  alike_next : (block place : ℕ) (way : Transfer) → Alike level (next go block place way) (next to block place way)
  alike_next block place Onward = alike block (place + 1)
  alike_next block place (To other) = alike other 0
  alike_next block place (Leaving ending) = steady_pure _

  alike_run_at : (block place : ℕ) → Alike (suc level) (run_at p rows go block place) (run_at p rows to block place)
  alike_run_at block place = first (alike_then (steady_this_block p block) (λ b. alike_then (alike_step_or_exit b (slice_get b.steps place)) (λ way. alike_next block place way)))

-- to a level, and to one that is no less
alike_run_from : (p : CfgProgram) (rows : List (List ℕ)) (level other block place : ℕ) → level ≤ other → Alike level (run_from p rows level block place) (run_from p rows other block place)
alike_run_from p rows zero zero block place few = steady_stuck
alike_run_from p rows zero (suc other) block place few = ends _
alike_run_from p rows (suc level) zero block place few = absurd (omega (arith, few))
alike_run_from p rows (suc level) (suc other) block place few = alike_run_at p rows level _ _ (λ b k. alike_run_from p rows level other b k (omega (arith, few))) block place

pub has_levels : (p : CfgProgram) (rows : List (List ℕ)) → HasLevels p rows
has_levels p rows level block place s few = (keeps (alike_run_from p rows s.steps level block place few) s (omega arith)).0
