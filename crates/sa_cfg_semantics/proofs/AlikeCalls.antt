-- Calls are alike where the runs of bodies are.
use Rattle.std.proofs.Common.{ℕ, Bool, true, false, List, [], ◌∷◌, Option, Some, None, refl}
use Rattle.sa_ast.specs.declared.fault_kind.FaultKind.{FaultKind}
use Rattle.sa_ast.specs.declared.ty.Mode.{Mode}
use Rattle.sa_ast.specs.declared.ty.Mode.TheVariants as mode
use Rattle.sa_cfg.specs.declared.body.CfgBody.{CfgBody}
use Rattle.sa_cfg.specs.declared.call.CallTarget.{CallTarget}
use Rattle.sa_cfg.specs.declared.call.CallTarget.TheVariants.{Body, Builtin, Get, Set, GetShared, SetShared, Dispatch, Bound}
use Rattle.sa_cfg.specs.declared.call.CallOperation.{CallOperation}
use Rattle.sa_cfg.specs.declared.call.FaultExit.{FaultExit}
use Rattle.sa_cfg.specs.declared.call.CallOperand.{CallOperand}
use Rattle.sa_cfg.specs.declared.call.Handler.{Handler}
use Rattle.sa_cfg.specs.declared.program.CfgProgram.{CfgProgram}
use Rattle.sa_prelude.specs.declared.feature.BuiltinFeature.{BuiltinFeature}
use Rattle.sa_semantics.specs.Value.{Value}
use Rattle.sa_cfg_semantics.specs.Frames as frames
use Rattle.sa_cfg_semantics.specs.Frames.{Activation, BodyResult, Transfer, Cause, Faulted, Failed, InputFailed}
use Rattle.sa_cfg_semantics.specs.Counting.{Eval, if_abstract, read, write, put, put_result, this, enter, leave}
use Rattle.sa_cfg_semantics.specs.Faults.{raised, fault_here, fault, after_fault, guard}
use Rattle.sa_cfg_semantics.specs.Calls.{PassedOperand, value_as, pass_operand, pass_operands, copy_back, with_saved_operands, implementation, dispatch, bound_to, resolve_target, first_variables, variables_anew, checked_depth, gives_value, if_of, run_body, call_in, call_body, simply, run_builtin, run_target, after_call, call, read_all, resolve_bound, bind}
use Rattle.sa_cfg_semantics.proofs.Alike.{Alike, Steady, turns, alike_resolve, alike_then, alike_before, alike_if, steady_stop, steady_pure, steady_look, steady_change, steady_or_stuck, steady_stuck, steady_with_place, steady_within}

-- ---- variables and activations

pub steady_read : {level : ℕ} (var : ℕ) → Steady level (read var)
steady_read var = alike_then (steady_look _) (λ variables. steady_or_stuck _)

pub steady_write : {level : ℕ} (var : ℕ) (v : Value) → Steady level (write var v)
steady_write var v = alike_then (steady_look _) (λ variables. alike_then (steady_with_place _ _ _) (λ changed. steady_change _ (λ s. refl)))

pub steady_put : {level : ℕ} (var : Option ℕ) (v : Value) → Steady level (put var v)
steady_put None v = steady_pure _
steady_put (Some var) v = steady_write var v

pub steady_put_given : {level : ℕ} (var : Option ℕ) (v : Option Value) → Steady level (put_result var v)
steady_put_given None v = steady_pure _
steady_put_given (Some var) None = steady_stuck
steady_put_given (Some var) (Some v) = steady_write var v

pub steady_if_abstract : {level : ℕ} {A : Type 0} (v : Value) {f : Eval A} → Steady level f → Steady level (if_abstract v f)
steady_if_abstract v a = alike_if _ steady_stuck a

pub steady_this : {level : ℕ} → Steady level this
steady_this = steady_look _

pub steady_enter : {level : ℕ} (a : Activation) → Steady level (enter a)
steady_enter a = steady_change _ (λ s. refl)

pub steady_leave : {level : ℕ} (body : ℕ) (a : Activation) → Steady level (leave body a)
steady_leave body a = steady_change _ (λ s. refl)

-- ---- raises and faults

pub steady_raised : {level : ℕ} (to : Handler) (v : Value) (place kind : ℕ) → Steady level (raised to v place kind)
steady_raised to v place kind = alike_before (steady_write _ _) (alike_before (steady_write _ _) (alike_before (steady_write _ _) (steady_pure _)))

steady_fault_here : {level : ℕ} (fail : FaultExit) (kind : FaultKind) → Steady level (fault_here fail kind)
steady_fault_here fail kind = alike_then (steady_look _) (λ room. alike_if _ (alike_before (steady_within _) (alike_then (steady_within _) (λ number. steady_raised _ _ _ _))) (steady_stop _))

module _ (p : CfgProgram) where
  pub steady_fault : {level : ℕ} (fail : FaultExit) (kind : FaultKind) → Steady level (fault p fail kind)
  steady_fault fail kind = alike_then steady_this (λ here. alike_if _ (steady_pure _) (steady_fault_here fail kind))

  steady_faulted : {level : ℕ} (fail : FaultExit) (c : Cause) → Steady level (after_fault p fail c)
  steady_faulted fail (Faulted kind) = steady_fault fail kind
  steady_faulted fail (Failed kind place) = steady_stop _
  steady_faulted fail InputFailed = steady_stop _

  pub alike_guarded : {level : ℕ} (fail : FaultExit) {f g : Eval Transfer} → Alike level f g → Alike level (guard p fail f) (guard p fail g)
  alike_guarded fail a = alike_resolve a (λ w. steady_pure w) (λ c. steady_faulted fail c)

-- ---- arguments

steady_given_as : {level : ℕ} (m : Mode) (var : Option ℕ) → Steady level (value_as m var)
steady_given_as mode.Out var = steady_pure _
steady_given_as mode.In None = steady_pure _
steady_given_as mode.In (Some var) = alike_then (steady_read var) (λ v. steady_pure _)
steady_given_as mode.Inout None = steady_pure _
steady_given_as mode.Inout (Some var) = alike_then (steady_read var) (λ v. steady_pure _)
steady_given_as mode.Once None = steady_pure _
steady_given_as mode.Once (Some var) = alike_then (steady_read var) (λ v. steady_pure _)

pub steady_passed : {level : ℕ} (a : CallOperand) → Steady level (pass_operand a)
steady_passed a = alike_then (steady_given_as a.mode a.var) (λ v. steady_pure _)

pub steady_passed_by : {level : ℕ} (args : List CallOperand) → Steady level (pass_operands args)
steady_passed_by [] = steady_pure _
steady_passed_by (a ∷ more) = alike_then (steady_passed a) (λ first. alike_then (steady_passed_by more) (λ rest. steady_pure _))

pub steady_copied_back : {level : ℕ} (given : List PassedOperand) (values : List Value) → Steady level (copy_back given values)
steady_copied_back [] values = steady_pure _
steady_copied_back (a ∷ more) (v ∷ rest) = alike_before (steady_put a.back v) (steady_copied_back more rest)
steady_copied_back (a ∷ more) [] = alike_if _ steady_stuck (steady_copied_back more [])

pub steady_all_passed : {level : ℕ} (through : Option ℕ) (given : List PassedOperand) → Steady level (with_saved_operands through given)
steady_all_passed None given = steady_pure _
steady_all_passed (Some object) given = alike_then (steady_within _) (λ o. alike_then (steady_or_stuck _) (λ b. steady_or_stuck _))

-- ---- what a call resolves to

module _ (p : CfgProgram) (rows : List (List ℕ)) where
  steady_implementation : {level : ℕ} (k : ℕ) (v : Value) → Steady level (implementation p rows k v)
  steady_implementation k v = alike_then (steady_within _) (λ dynamic. alike_then (steady_or_stuck _) (λ ty. alike_then (steady_or_stuck _) (λ row. alike_then (steady_or_stuck _) (λ body. steady_pure _))))

  steady_dispatched : {level : ℕ} (k : ℕ) (v : Value) → Steady level (dispatch p rows k v)
  steady_dispatched k v = alike_if _ (steady_stop _) (steady_if_abstract v (steady_implementation k v))

  steady_bound_to : {level : ℕ} (object : ℕ) → Steady level (bound_to p rows object)
  steady_bound_to object = alike_then (steady_within _) (λ o. alike_then (steady_or_stuck _) (λ b. alike_then (steady_or_stuck _) (λ receiver. steady_pure _)))

  pub steady_reached : {level : ℕ} (callee : CallTarget) (class : ℕ) (v : Value) → Steady level (resolve_target p rows callee class v)
  steady_reached (Dispatch k) class v = steady_dispatched k v
  steady_reached Bound class v = alike_if _ (steady_stop _) (alike_then (steady_or_stuck _) (λ object. steady_bound_to object))
  steady_reached (Body k) class v = steady_pure _
  steady_reached (Builtin f) class v = steady_pure _
  steady_reached (Get a) class v = steady_pure _
  steady_reached (Set a) class v = steady_pure _
  steady_reached (GetShared k) class v = steady_pure _
  steady_reached (SetShared k) class v = steady_pure _

pub steady_first_variables : {level : ℕ} (p : CfgProgram) (b : CfgBody) (given : List PassedOperand) → Steady level (first_variables p b given)
steady_first_variables p b given = alike_if _ (steady_or_stuck _) steady_stuck

pub steady_variables_anew : {level : ℕ} (p : CfgProgram) (b : CfgBody) (given : List PassedOperand) (variables : List Value) → Steady level (variables_anew p b given variables)
steady_variables_anew p b given variables = alike_if _ (steady_or_stuck _) steady_stuck

pub steady_checked_depth : {level : ℕ} (caller : Activation) → Steady level (checked_depth caller)
steady_checked_depth caller = alike_if _ (steady_stop _) (steady_pure _)

-- ---- runs of bodies

module _ (p : CfgProgram) (level : ℕ) (go to : ℕ → ℕ → Eval BodyResult) (alike : (block place : ℕ) → Alike level (go block place) (to block place)) where
  pub alike_run_body : (block : ℕ) (a : Activation) → Alike level (run_body p go block a) (run_body p to block a)
  alike_run_body block a =
      alike_then steady_this (λ caller. alike_before (steady_enter a) (alike_then (alike block 0) (λ ending.
      alike_then (steady_look _) (λ variables. alike_before (steady_leave _ _) (steady_pure _)))))

  alike_call_in : (caller : Activation) (k : ℕ) (b : CfgBody) (self : Value) (given : List Value) → Alike level (call_in p go caller k b self given) (call_in p to caller k b self given)
  alike_call_in caller k b self given = alike_if _ (turns (alike_before (steady_checked_depth caller) (alike_run_body _ _))) (alike_run_body _ _)

  alike_call_body : (k : ℕ) (self : Value) (given : List PassedOperand) → Alike level (call_body p go k self given) (call_body p to k self given)
  alike_call_body k self given =
      alike_then (steady_or_stuck _) (λ b. alike_then steady_this (λ caller. alike_then (steady_first_variables p b given) (λ variables. alike_if _ steady_stuck (alike_call_in caller k b self variables))))

  steady_simply : (gives : Bool) {f : Eval Value} → Steady level f → Alike level (simply p go gives f) (simply p to gives f)
  steady_simply gives a = alike_then a (λ v. steady_pure _)

  alike_if_of : (class : ℕ) (v : Value) {f g : Eval (BodyResult × List Value)} → Alike level f g → Alike level (if_of p class v f) (if_of p class v g)
  alike_if_of class v a = alike_then (steady_within _) (λ dynamic. alike_if _ a steady_stuck)

  alike_run_builtin : (class : ℕ) (self : Value) (given : List PassedOperand) (f : BuiltinFeature) → Alike level (run_builtin p go class self given f) (run_builtin p to class self given f)
  alike_run_builtin class self given f = alike_if_of class self (steady_simply (gives_value f) (steady_within _))

  alike_run_reached : (callee : CallTarget) (class : ℕ) (self : Value) (given : List PassedOperand) → Alike level (run_target p go callee class self given) (run_target p to callee class self given)
  alike_run_reached (Body k) class self given = alike_call_body k self given
  alike_run_reached (Builtin f) class self given = alike_run_builtin class self given f
  alike_run_reached (Get a) class self [] = alike_if_of class self (steady_simply true (steady_within _))
  alike_run_reached (Get a) class self (v ∷ given) = steady_stuck
  alike_run_reached (Set a) class self given = alike_then (steady_or_stuck _) (λ v. alike_if_of class self (steady_simply _ (steady_within _)))
  alike_run_reached (GetShared k) class self [] = steady_simply true (steady_within _)
  alike_run_reached (GetShared k) class self (v ∷ given) = steady_stuck
  alike_run_reached (SetShared k) class self given = alike_then (steady_or_stuck _) (λ v. steady_simply false (alike_before (steady_within _) (steady_pure _)))
  alike_run_reached (Dispatch k) class self given = steady_stuck
  alike_run_reached Bound class self given = steady_stuck

  alike_after_call : (plan : CallOperation) (given : List PassedOperand) (r : BodyResult × List Value) → Alike level (after_call p go plan given r) (after_call p to plan given r)
  alike_after_call plan given (frames.Returned v, variables) = alike_before (alike_before (steady_put_given plan.value v) (steady_copied_back given variables)) (steady_pure _)
  alike_after_call plan given (frames.Raised v place kind, variables) = steady_raised _ _ _ _
  alike_after_call plan given (frames.CallerFault kind, variables) = steady_stop _
  alike_after_call plan given (frames.Suspended v frame, variables) = steady_stuck
  alike_after_call plan given (frames.Ended, variables) = steady_stuck

  pub alike_call : (rows : List (List ℕ)) (plan : CallOperation) → Alike level (call p go rows plan) (call p to rows plan)
  alike_call rows plan =
      alike_then (steady_read _) (λ v. alike_then (steady_passed_by _) (λ given. alike_then (steady_reached p rows _ _ _) (λ r.
      alike_then (steady_all_passed _ _) (λ all. alike_then (alike_run_reached _ _ _ _) (λ ended. alike_after_call plan all ended)))))

-- ---- binds

steady_read_all : {level : ℕ} (vars : List ℕ) → Steady level (read_all vars)
steady_read_all [] = steady_pure _
steady_read_all (var ∷ more) = alike_then (steady_read var) (λ v. alike_then (steady_read_all more) (λ vs. steady_pure _))

module _ (p : CfgProgram) (rows : List (List ℕ)) where
  steady_chosen : {level : ℕ} (callee : CallTarget) (class : ℕ) (v : Value) → Steady level (resolve_bound p rows callee class v)
  steady_chosen (Dispatch k) class v = steady_dispatched p rows k v
  steady_chosen Bound class v = steady_stuck
  steady_chosen (Body k) class v = steady_pure _
  steady_chosen (Builtin f) class v = steady_pure _
  steady_chosen (Get a) class v = steady_pure _
  steady_chosen (Set a) class v = steady_pure _
  steady_chosen (GetShared k) class v = steady_pure _
  steady_chosen (SetShared k) class v = steady_pure _

  pub steady_bind : {level : ℕ} (plan : CallOperation) (entry : ℕ) → Steady level (bind p rows plan entry)
  steady_bind plan entry =
      alike_then (steady_read _) (λ v. alike_then (steady_read_all _) (λ kept. alike_then (steady_or_stuck _) (λ e.
      alike_then (steady_chosen _ _ _) (λ r. alike_then (steady_or_stuck _) (λ t. alike_before (steady_within _) (alike_then (steady_within _) (λ number.
      alike_before (steady_put _ _) (steady_pure _))))))))
