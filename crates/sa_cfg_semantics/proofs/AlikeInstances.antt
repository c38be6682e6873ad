-- Instances are alike where the runs of bodies are.
use Rattle.std.proofs.Common.{ℕ, zero, suc, ◌+◌, List, [], ◌∷◌, Option, Some, None, refl}
use Rattle.sa_cfg.specs.declared.body.CfgBody.{CfgBody}
use Rattle.sa_cfg.specs.declared.call.CallTarget.{CallTarget}
use Rattle.sa_cfg.specs.declared.call.CallTarget.TheVariants.{Body, Builtin, Get, Set, GetShared, SetShared, Dispatch, Bound}
use Rattle.sa_cfg.specs.declared.call.CallOperation.{CallOperation}
use Rattle.sa_cfg.specs.declared.call.CallOperand.{CallOperand}
use Rattle.sa_cfg.specs.declared.program.CfgProgram.{CfgProgram}
use Rattle.sa_semantics.specs.Value.{Value}
use Rattle.sa_semantics.specs.State as language
use Rattle.sa_cfg_semantics.specs.Frames as frames
use Rattle.sa_cfg_semantics.specs.Frames.{Frame, FrameSite, Activation, BodyResult, Transfer, Cause, Faulted, Failed, InputFailed}
use Rattle.sa_cfg_semantics.specs.Counting.{Eval}
use Rattle.sa_cfg_semantics.specs.Instances.{frame_at, set_frame, instance_at, set_instance, set_running, this_feature, station, report, ends, release_each, release, release_all, pass_on_resume, checked_live, after_run, run_instance, add_frame, begin, continue_frame, continue, after_iter, run_for, started, resumed, start_of, start, resume_frame, resume, forward_fault, after_enter, run_iter, enter_for, enter_iter}
use Rattle.sa_cfg_semantics.specs.Calls.{PassedOperand}
use Rattle.sa_cfg_semantics.proofs.Alike.{Alike, Steady, counts, turns, alike_resolve, alike_then, alike_before, alike_if, steady_stop, steady_pure, steady_look, steady_change, steady_or_stuck, steady_stuck, steady_with_place}
use Rattle.sa_cfg_semantics.proofs.AlikeCalls.{steady_read, steady_write, steady_this, steady_put_given, steady_raised, steady_passed, steady_passed_by, steady_copied_back, steady_all_passed, steady_reached, steady_first_variables, steady_variables_anew, steady_checked_depth, alike_run_body}

-- ---- frames, sites and events

pub steady_frame_at : {level : ℕ} (number : ℕ) → Steady level (frame_at number)
steady_frame_at number = alike_then (steady_look _) (λ frames. alike_then (steady_or_stuck _) (λ frame. steady_or_stuck _))

pub steady_set_frame : {level : ℕ} (number : ℕ) (frame : Option Frame) → Steady level (set_frame number frame)
steady_set_frame number frame = steady_change _ (λ s. refl)

pub steady_entry_at : {level : ℕ} (site : ℕ) → Steady level (instance_at site)
steady_entry_at site = alike_then (steady_look _) (λ sites. steady_or_stuck _)

steady_set_entry : {level : ℕ} (site : ℕ) (frame : Option ℕ) → Steady level (set_instance site frame)
steady_set_entry site frame = alike_then (steady_look _) (λ sites. alike_then (steady_with_place _ _ _) (λ changed. steady_change _ (λ s. refl)))

steady_set_running : {level : ℕ} (frame : Option ℕ) → Steady level (set_running frame)
steady_set_running frame = steady_change _ (λ s. refl)

steady_this_feature : {level : ℕ} (p : CfgProgram) → Steady level (this_feature p)
steady_this_feature p = alike_then steady_this (λ here. alike_then (steady_or_stuck _) (λ b. steady_or_stuck _))

steady_station : {level : ℕ} (p : CfgProgram) (site : ℕ) (called : CallTarget) (through : Option ℕ) → Steady level (station p site called through)
steady_station p site called through = alike_then (steady_this_feature p) (λ feature. steady_pure _)

steady_tell : {level : ℕ} (event : language.Event) → Steady level (report event)
steady_tell event = steady_change _ (λ s. refl)

steady_ends : {level : ℕ} (feature site number : ℕ) (event : ℕ → ℕ → ℕ → language.Event) → Steady level (ends feature site number event)
steady_ends feature site number event = alike_before (steady_set_frame _ _) (alike_before (steady_change _ (λ s. refl)) (steady_tell _))

-- ---- releases

steady_release_each : {level : ℕ} (r : ℕ → Option ℕ → Eval (Unit {0})) → ((site : ℕ) (frame : Option ℕ) → Steady level (r site frame)) → (site : ℕ) (list : List (Option ℕ)) → Steady level (release_each r site list)
steady_release_each r a site [] = steady_pure _
steady_release_each r a site (frame ∷ more) = alike_before (a site frame) (steady_release_each r a (site + 1) more)

steady_release : {level : ℕ} (depth feature site : ℕ) (frame : Option ℕ) → Steady level (release depth feature site frame)
steady_release depth feature site None = counts 1
steady_release zero feature site (Some number) = steady_stuck
steady_release (suc depth) feature site (Some number) =
    alike_before (counts 1) (alike_then (steady_frame_at number) (λ frame.
    alike_before (steady_release_each (release depth frame.feature) (λ inner entry. steady_release depth frame.feature inner entry) 0 frame.sites) (steady_ends feature site number language.Abandon)))

pub steady_release_all : {level : ℕ} (p : CfgProgram) (sites : List ℕ) → Steady level (release_all p sites)
steady_release_all p [] = steady_pure _
steady_release_all p (site ∷ more) =
    alike_then (steady_look _) (λ frames. alike_then (steady_this_feature p) (λ feature. alike_then (steady_entry_at site) (λ entry.
    alike_before (steady_release _ _ _ _) (alike_before (steady_set_entry _ _) (steady_release_all p more)))))

-- ---- arguments, and what follows a run

steady_passed_anew : {level : ℕ} (args : List CallOperand) → Steady level (pass_on_resume args)
steady_passed_anew [] = steady_pure _
steady_passed_anew (a ∷ more) = alike_then (alike_if _ (steady_pure _) (steady_passed a)) (λ first. alike_then (steady_passed_anew more) (λ rest. steady_pure _))

steady_checked_live : {level : ℕ} → Steady level checked_live
steady_checked_live = alike_then (steady_look _) (λ live. alike_if _ (steady_stop _) (steady_pure _))

steady_after_run : {level : ℕ} (at : FrameSite) (number : ℕ) (r : BodyResult × List Value) → Steady level (after_run at number r)
steady_after_run at number (frames.Suspended v frame, variables) = alike_before (steady_tell _) (steady_pure _)
steady_after_run at number (frames.Ended, variables) = alike_before (steady_ends _ _ _ language.Quits) (steady_pure _)
steady_after_run at number (frames.Raised v place kind, variables) = alike_before (steady_ends _ _ _ language.Abandon) (steady_pure _)
steady_after_run at number (frames.Returned v, variables) = steady_stuck
steady_after_run at number (frames.CallerFault kind, variables) = steady_stuck

-- ---- runs of instances

module _ (p : CfgProgram) (level : ℕ) (go to : ℕ → ℕ → Eval BodyResult) (alike : (block place : ℕ) → Alike level (go block place) (to block place)) where
  alike_run_instance : (at : FrameSite) (k : ℕ) (b : CfgBody) (frame : Frame) → Alike level (run_instance p go at k b frame) (run_instance p to at k b frame)
  alike_run_instance at k b frame =
      alike_then steady_this (λ caller. alike_before (counts _) (alike_then (alike_run_body p level go to alike _ _) (λ r. steady_after_run at frame.number r)))

  alike_add_frame : (at : FrameSite) (entered feature : ℕ) (b : CfgBody) (self : Value) (variables : List Value) → Alike level (add_frame p go at entered feature b self variables) (add_frame p to at entered feature b self variables)
  alike_add_frame at entered feature b self variables = alike_then (steady_look _) (λ number. alike_before (steady_change _ (λ s. refl)) (alike_before (steady_tell _) (steady_pure _)))

  alike_begin : (at : FrameSite) (entered k : ℕ) (self : Value) (given : List PassedOperand) → Alike level (begin p go at entered k self given) (begin p to at entered k self given)
  alike_begin at entered k self given =
      alike_then (steady_or_stuck _) (λ b. alike_then (steady_or_stuck _) (λ feature. alike_then (steady_first_variables p b given) (λ variables. alike_then steady_this (λ caller.
      alike_before (steady_checked_depth caller) (alike_before steady_checked_live (alike_then (alike_add_frame at entered feature b self variables) (λ frame. alike_run_instance at k b frame)))))))

  alike_continue_frame : (at : FrameSite) (k : ℕ) (frame : Frame) (given : List PassedOperand) → Alike level (continue_frame p go at k frame given) (continue_frame p to at k frame given)
  alike_continue_frame at k frame given =
      alike_then (steady_or_stuck _) (λ b. alike_then (steady_variables_anew p b given _) (λ variables. alike_then steady_this (λ caller.
      alike_before (steady_checked_depth caller) (alike_before (steady_tell _) (alike_run_instance at k b (record frame { variables = variables }))))))

  alike_continue : (at : FrameSite) (k number : ℕ) (given : List PassedOperand) → Alike level (continue p go at k number given) (continue p to at k number given)
  alike_continue at k number given = alike_then (steady_frame_at number) (λ frame. alike_if _ (alike_continue_frame at k frame given) steady_stuck)

  alike_after_iter : (site : ℕ) (plan : CallOperation) (quit : ℕ) (given : List PassedOperand) (r : BodyResult × List Value) → Alike level (after_iter p go site plan quit given r) (after_iter p to site plan quit given r)
  alike_after_iter site plan quit given (frames.Suspended v frame, variables) =
      alike_before (steady_set_entry _ _) (alike_before (steady_write _ _) (alike_before (steady_put_given _ _) (alike_before (steady_copied_back given variables) (steady_pure _))))
  alike_after_iter site plan quit given (frames.Ended, variables) = alike_before (alike_before (steady_set_entry _ _) (steady_write _ _)) (steady_pure _)
  alike_after_iter site plan quit given (frames.Raised v place kind, variables) = alike_before (steady_set_entry _ _) (steady_raised _ _ _ _)
  alike_after_iter site plan quit given (frames.CallerFault kind, variables) = steady_stop _
  alike_after_iter site plan quit given (frames.Returned v, variables) = steady_stuck

  -- ---- starts and resumptions

  alike_run_for : (at : FrameSite) (k : ℕ) (b : CfgBody) (self : Value) (frame : Option ℕ) (given : List Value) → Alike level (run_for p go at k b self frame given) (run_for p to at k b self frame given)
  alike_run_for at k b self frame given = alike_then steady_this (λ caller. alike_run_body p level go to alike _ _)

  alike_started : (at : FrameSite) (k : ℕ) (self : Value) (given : List PassedOperand) → Alike level (started p go at k self given) (started p to at k self given)
  alike_started at k self given = alike_then (steady_or_stuck _) (λ b. alike_if _ steady_stuck (alike_if _ (turns (alike_begin at k k self given)) (alike_then (steady_first_variables p b given) (λ variables. alike_run_for at k b self None variables))))

  alike_resumed : (at : FrameSite) (frame : Frame) (given : List PassedOperand) → Alike level (resumed p go at frame given) (resumed p to at frame given)
  alike_resumed at frame given = alike_then (steady_or_stuck _) (λ b. alike_if _ (turns (alike_continue at frame.body frame.number given)) (alike_then (steady_variables_anew p b given _) (λ variables. alike_run_for at frame.body b frame.self (Some frame.number) variables)))

  alike_start_of : (at : FrameSite) (callee : CallTarget) (self : Value) (given : List PassedOperand) → Alike level (start_of p go at callee self given) (start_of p to at callee self given)
  alike_start_of at (Body k) self given = alike_started at k self given
  alike_start_of at (Builtin f) self given = steady_stuck
  alike_start_of at (Get a) self given = steady_stuck
  alike_start_of at (Set a) self given = steady_stuck
  alike_start_of at (GetShared k) self given = steady_stuck
  alike_start_of at (SetShared k) self given = steady_stuck
  alike_start_of at (Dispatch k) self given = steady_stuck
  alike_start_of at Bound self given = steady_stuck

  pub alike_start : (rows : List (List ℕ)) (site : ℕ) (plan : CallOperation) (quit : ℕ) → Alike level (start p go rows site plan quit) (start p to rows site plan quit)
  alike_start rows site plan quit =
      alike_then (steady_read _) (λ v. alike_then (steady_passed_by _) (λ given. alike_then (steady_reached p rows _ _ _) (λ r.
      alike_then (steady_all_passed _ _) (λ all. alike_then (steady_station p site _ _) (λ at.
      alike_then (alike_start_of at _ _ _) (λ ended. alike_after_iter site plan quit all ended))))))

  alike_resume_frame : (site : ℕ) (plan : CallOperation) (quit : ℕ) (frame : Frame) → Alike level (resume_frame p go site plan quit frame) (resume_frame p to site plan quit frame)
  alike_resume_frame site plan quit frame =
      alike_then (steady_passed_anew _) (λ given. alike_then (steady_all_passed _ _) (λ all. alike_then (steady_station p site _ _) (λ at.
      alike_then (alike_resumed at frame _) (λ ended. alike_after_iter site plan quit all ended))))

  pub alike_resume : (site : ℕ) (plan : CallOperation) (quit : ℕ) → Alike level (resume p go site plan quit) (resume p to site plan quit)
  alike_resume site plan quit =
      alike_then (steady_entry_at site) (λ entry. alike_then (steady_or_stuck _) (λ number. alike_then (steady_frame_at number) (λ frame.
      alike_if _ (alike_resume_frame site plan quit frame) steady_stuck)))

  -- ---- entries into iters' bodies

  alike_handed_on : (c : Cause) → Alike level (forward_fault p go c) (forward_fault p to c)
  alike_handed_on (Faulted kind) = steady_pure _
  alike_handed_on (Failed kind place) = steady_stop _
  alike_handed_on InputFailed = steady_stop _

  alike_after_enter : (given : List PassedOperand) (value : Option ℕ) (quit : ℕ) (r : BodyResult × List Value) → Alike level (after_enter p go given value quit r) (after_enter p to given value quit r)
  alike_after_enter given value quit (frames.Suspended v frame, variables) =
      alike_before (steady_set_running _) (alike_before (steady_write _ _) (alike_before (steady_put_given _ _) (alike_before (steady_copied_back given variables) (steady_pure _))))
  alike_after_enter given value quit (frames.Ended, variables) = alike_before (steady_write _ _) (steady_pure _)
  alike_after_enter given value quit (frames.Raised v place kind, variables) = steady_pure _
  alike_after_enter given value quit (frames.CallerFault kind, variables) = steady_stuck
  alike_after_enter given value quit (frames.Returned v, variables) = steady_stuck

  alike_run_entered : (k : ℕ) (here : Activation) (at : FrameSite) (recv : ℕ) (given : List PassedOperand) (frame : Option ℕ) → Alike level (run_iter p go k here at recv given frame) (run_iter p to k here at recv given frame)
  alike_run_entered k here at recv given None = alike_then (steady_read recv) (λ self. turns (alike_begin at here.body k self given))
  alike_run_entered k here at recv given (Some number) = turns (alike_continue at k number given)

  alike_entered_for : (k recv : ℕ) (args : List CallOperand) (value : Option ℕ) (quit : ℕ) → Alike level (enter_for p go k recv args value quit) (enter_for p to k recv args value quit)
  alike_entered_for k recv args value quit =
      alike_then steady_this (λ here. alike_then (steady_or_stuck _) (λ at. alike_then (steady_passed_by _) (λ given.
      alike_then (alike_run_entered k here at recv given here.frame) (λ ended. alike_after_enter given value quit ended))))

  pub alike_enter_iter : (k recv : ℕ) (args : List CallOperand) (value : Option ℕ) (quit : ℕ) → Alike level (enter_iter p go k recv args value quit) (enter_iter p to k recv args value quit)
  alike_enter_iter k recv args value quit = alike_resolve (alike_entered_for k recv args value quit) (λ way. steady_pure way) (λ c. alike_handed_on c)
