-- Instances of iters: their frames, starts and resumptions, suspensions and ends.
use Rattle.std.specs.Prelude.{ℕ, zero, suc, ◌+◌, ◌-◌, Bool, true, false, not, ◌==◌, nat_le, if◌then◌else◌}
use Rattle.std.specs.Prelude.{List, [], ◌∷◌, ◌++◌, length, set, Option, Some, None, is_some}
use Rattle.sa_ast.specs.declared.fault_kind.FaultKind.TheVariants as fault_kind
use Rattle.sa_cfg.specs.declared.body.CfgBody.{CfgBody}
use Rattle.sa_cfg.specs.declared.call.CallTarget.{CallTarget}
use Rattle.sa_cfg.specs.declared.call.CallTarget.TheVariants.{Body, Dispatch, Bound}
use Rattle.sa_cfg.specs.declared.call.CallOperation.{CallOperation}
use Rattle.sa_cfg.specs.declared.call.CallOperand.{CallOperand}
use Rattle.sa_cfg.specs.declared.program.CfgProgram.{CfgProgram}
use Rattle.sa_semantics.specs.Value.{Value, Truth}
use Rattle.sa_semantics.specs.Sequence.{resolve, ◌>>=◌, ◌>>◌, pure, stop, or_stuck, at_index, look, change, with_index, stuck}
use Rattle.sa_semantics.specs.State as language
use Rattle.sa_semantics.specs.Calls.{is_once}
use Rattle.sa_cfg_semantics.specs.Frames.{Frame, FrameSite, Activation, BodyResult, Suspended, Ended}
use Rattle.sa_cfg_semantics.specs.Frames.{Raised, CallerFault, Transfer, Onward, Leaving, Cause, Faulted}
use Rattle.sa_cfg_semantics.specs.Counting.{Eval, count, turn, read, write, put_result, this}
use Rattle.sa_cfg_semantics.specs.Faults.{raised}
use Rattle.sa_cfg_semantics.specs.Calls.{PassedOperand, pass_operand, pass_operands, copy_back, with_saved_operands, resolve_target, void_formals}
use Rattle.sa_cfg_semantics.specs.Calls.{with_others, first_variables, variables_anew, no_frames, checked_depth, run_body}

-- ---- frames and sites

abbrev pub frame_at : ℕ → Eval Frame
frame_at number = do
  frames ← look (λ s. s.frames)
  frame ← at_index frames number
  or_stuck frame

abbrev pub set_frame : ℕ → Option Frame → Eval (Unit {0})
set_frame number frame = change (λ s. record s { frames = set s.frames number frame })

-- the frame at a site, if there is one
abbrev pub instance_at : ℕ → Eval (Option ℕ)
instance_at site = look (λ s. s.here.sites) >>= (λ sites. at_index sites site)

abbrev pub set_instance : ℕ → Option ℕ → Eval (Unit {0})
set_instance site frame = do
  sites ← look (λ s. s.here.sites)
  changed ← with_index sites site frame
  change (λ s. record s { here = record (s.here) { sites = changed } })

abbrev pub set_running : Option ℕ → Eval (Unit {0})
set_running frame = change (λ s. record s { here = record (s.here) { frame = frame } })

abbrev pub this_feature : CfgProgram → Eval ℕ
this_feature p = do
  here ← this
  b ← at_index p.bodies here.body
  or_stuck b.feature

-- a site of the running feature
abbrev pub station : CfgProgram → ℕ → CallTarget → Option ℕ → Eval FrameSite
station p site called through = do
  feature ← this_feature p
  pure (record { feature = feature; site = site; called = called; through = through })

-- the callees of iters
abbrev pub same_callee : CallTarget → CallTarget → Bool
same_callee (Body a) (Body b) = a == b
same_callee (Dispatch a) (Dispatch b) = a == b
same_callee Bound Bound = true
same_callee _ _ = false

-- ---- events

abbrev pub report : language.Event → Eval (Unit {0})
report event = change (λ s. record s { world = record (s.world) { events = s.world.events ++ event ∷ [] } })

abbrev pub one_more : language.State → language.State
one_more w = record w { live = w.live + 1; started = w.started + 1 }

abbrev pub one_less : language.State → language.State
one_less w = record w { live = w.live - 1 }

-- the instance is removed
abbrev pub ends : ℕ → ℕ → ℕ → (ℕ → ℕ → ℕ → language.Event) → Eval (Unit {0})
ends feature site number event = do
  set_frame number None
  change (λ s. record s { world = one_less s.world })
  report (event feature site number)

-- ---- the ends of the instances at sites, those inside an instance first

abbrev pub release_each : (ℕ → Option ℕ → Eval (Unit {0})) → ℕ → List (Option ℕ) → Eval (Unit {0})
release_each release site [] = pure tt
release_each release site (frame ∷ more) = release site frame >> release_each release (site + 1) more

-- Each site that is looked at is a CFG step. No instance is inside itself, so that the number of frames is depth enough.
abbrev pub release : ℕ → ℕ → ℕ → Option ℕ → Eval (Unit {0})
release depth feature site None = count 1
release zero feature site (Some number) = stuck
release (suc depth) feature site (Some number) = do
  count 1
  frame ← frame_at number
  release_each (release depth frame.feature) 0 frame.sites
  ends feature site number language.Abandon

abbrev pub release_all : CfgProgram → List ℕ → Eval (Unit {0})
release_all p [] = pure tt
release_all p (site ∷ more) = do
  frames ← look (λ s. s.frames)
  feature ← this_feature p
  entry ← instance_at site
  release (length frames) feature site entry
  set_instance site None
  release_all p more

-- ---- arguments of a resumption

-- The variables of `once` arguments aren't read.
abbrev pub pass_if_not_once : CallOperand → Eval PassedOperand
pass_if_not_once a = if is_once a.mode then pure (record { mode = Some a.mode; value = None; back = None }) else pass_operand a

abbrev pub pass_on_resume : List CallOperand → Eval (List PassedOperand)
pass_on_resume [] = pure []
pass_on_resume (a ∷ more) = do
  first ← pass_if_not_once a
  rest ← pass_on_resume more
  pure (first ∷ rest)

-- ---- runs of instances

abbrev pub checked_live : Eval (Unit {0})
checked_live = look (λ s. s.world.live) >>= (λ live. if nat_le 10000 live then stop (Faulted fault_kind.Frames) else pure tt)

-- what follows the run of an instance
abbrev pub after_run : FrameSite → ℕ → BodyResult × List Value → Eval (BodyResult × List Value)
after_run at number (Suspended v frame, variables) = report (language.Yields at.feature at.site number) >> pure (Suspended v frame, variables)
after_run at number (Ended, variables) = ends at.feature at.site number language.Quits >> pure (Ended, variables)
after_run at number (Raised v place kind, variables) =
    ends at.feature at.site number language.Abandon >> pure (Raised v place kind, variables)
after_run at number _ = stuck

-- the frame of a start, before block 0
abbrev pub new_frame : FrameSite → ℕ → ℕ → CfgBody → Value → List Value → ℕ → Frame
new_frame at entered feature b self variables number = record {
  number = number;
  body = entered;
  feature = feature;
  called = at.called;
  block = 0;
  self = self;
  through = at.through;
  variables = variables;
  sites = no_frames b;
}

-- `go` runs a body, from a block and an index in it on.
module _ (p : CfgProgram) (go : ℕ → ℕ → Eval BodyResult) where
  -- on its frame, with a CFG step for each site
  abbrev pub run_instance : FrameSite → ℕ → CfgBody → Frame → Eval (BodyResult × List Value)
  run_instance at k b frame = do
    caller ← this
    count b.sites
    r ← run_body p go frame.block (record {
      body = k;
      self = frame.self;
      variables = frame.variables;
      sites = frame.sites;
      frame = Some frame.number;
      station = None;
      depth = caller.depth + 1;
    })
    after_run at frame.number r

  -- a new frame, for a feature's body that is entered through an adapter or itself
  abbrev pub add_frame : FrameSite → ℕ → ℕ → CfgBody → Value → List Value → Eval Frame
  add_frame at entered feature b self variables = do
    number ← look (λ s. s.world.started)
    let frame = new_frame at entered feature b self variables number
    change (λ s. record s { world = one_more s.world; frames = s.frames ++ Some frame ∷ [] })
    report (language.Start at.feature at.site number)
    pure frame

  -- a start, whose turn is spent
  abbrev pub begin : FrameSite → ℕ → ℕ → Value → List PassedOperand → Eval (BodyResult × List Value)
  begin at entered k self given = do
    b ← at_index p.bodies k
    feature ← or_stuck b.feature
    variables ← first_variables p b given
    caller ← this
    checked_depth caller
    checked_live
    frame ← add_frame at entered feature b self variables
    run_instance at k b frame

  -- a resumption of a feature's instance, whose turn is spent
  abbrev pub continue_frame : FrameSite → ℕ → Frame → List PassedOperand → Eval (BodyResult × List Value)
  continue_frame at k frame given = do
    b ← at_index p.bodies k
    variables ← variables_anew p b given frame.variables
    caller ← this
    checked_depth caller
    report (language.Resume at.feature at.site frame.number)
    run_instance at k b (record frame { variables = variables })

  abbrev pub continue : FrameSite → ℕ → ℕ → List PassedOperand → Eval (BodyResult × List Value)
  continue at k number given = do
    frame ← frame_at number
    if k == frame.feature then continue_frame at k frame given else stuck

  -- ---- starts and resumptions at a site

  abbrev pub after_iter : ℕ → CallOperation → ℕ → List PassedOperand → BodyResult × List Value → Eval Transfer
  after_iter site plan quit given (Suspended v frame, variables) = do
    set_instance site (Some frame)
    write quit (Truth false)
    put_result plan.value v
    copy_back given variables
    pure Onward
  after_iter site plan quit given (Ended, variables) = set_instance site None >> write quit (Truth true) >> pure Onward
  after_iter site plan quit given (Raised v place kind, variables) = set_instance site None >> raised plan.fail.raised v place kind
  after_iter site plan quit given (CallerFault kind, variables) = stop (Faulted kind)
  after_iter site plan quit given _ = stuck

  -- an adapter, entered for a site
  abbrev pub run_for : FrameSite → ℕ → CfgBody → Value → Option ℕ → List Value → Eval (BodyResult × List Value)
  run_for at k b self frame variables = do
    caller ← this
    run_body p go 0 (record {
      body = k;
      self = self;
      variables = variables;
      sites = no_frames b;
      frame = frame;
      station = Some at;
      depth = caller.depth;
    })

  abbrev pub started : FrameSite → ℕ → Value → List PassedOperand → Eval (BodyResult × List Value)
  started at k self given = do
    b ← at_index p.bodies k
    if not b.iter then stuck
        else (if is_some b.feature then turn (begin at k k self given) else (first_variables p b given >>= run_for at k b self None))

  -- An adapter is entered with void `once` arguments.
  abbrev pub resumed : FrameSite → Frame → List PassedOperand → Eval (BodyResult × List Value)
  resumed at frame given = do
    b ← at_index p.bodies frame.body
    if is_some b.feature then turn (continue at frame.body frame.number given)
        else (variables_anew p b given (with_others b (void_formals p b)) >>= run_for at frame.body b frame.self (Some frame.number))

  abbrev pub start_of : FrameSite → CallTarget → Value → List PassedOperand → Eval (BodyResult × List Value)
  start_of at (Body k) self given = started at k self given
  start_of at callee self given = stuck

  abbrev pub start : List (List ℕ) → ℕ → CallOperation → ℕ → Eval Transfer
  start rows site plan quit = do
    v ← read plan.recv
    given ← pass_operands plan.args
    r ← resolve_target p rows plan.callee plan.class v
    all ← with_saved_operands r.through given
    at ← station p site plan.callee r.through
    ended ← start_of at r.callee r.self all
    after_iter site plan quit all ended

  -- The receiver isn't read.
  abbrev pub resume_frame : ℕ → CallOperation → ℕ → Frame → Eval Transfer
  resume_frame site plan quit frame = do
    given ← pass_on_resume plan.args
    all ← with_saved_operands frame.through given
    at ← station p site frame.called frame.through
    ended ← resumed at frame all
    after_iter site plan quit all ended

  -- the instance of a site, which an operation with the same callee started
  abbrev pub resume : ℕ → CallOperation → ℕ → Eval Transfer
  resume site plan quit = do
    entry ← instance_at site
    number ← or_stuck entry
    frame ← frame_at number
    if same_callee plan.callee frame.called then resume_frame site plan quit frame else stuck

  -- ---- the entry into an iter's body, from an adapter

  abbrev pub forward_fault : Cause → Eval Transfer
  forward_fault (Faulted kind) = pure (Leaving (CallerFault kind))
  forward_fault cause = stop cause

  abbrev pub after_enter : List PassedOperand → Option ℕ → ℕ → BodyResult × List Value → Eval Transfer
  after_enter given value quit (Suspended v frame, variables) = do
    set_running (Some frame)
    write quit (Truth false)
    put_result value v
    copy_back given variables
    pure Onward
  after_enter given value quit (Ended, variables) = write quit (Truth true) >> pure Onward
  after_enter given value quit (Raised v place kind, variables) = pure (Leaving (Raised v place kind))
  after_enter given value quit _ = stuck

  -- Where there is no frame yet it is a start. The receiver is read at a start alone.
  abbrev pub run_iter : ℕ → Activation → FrameSite → ℕ → List PassedOperand → Option ℕ → Eval (BodyResult × List Value)
  run_iter k here at recv given None = read recv >>= (λ self. turn (begin at here.body k self given))
  run_iter k here at recv given (Some number) = turn (continue at k number given)

  abbrev pub enter_for : ℕ → ℕ → List CallOperand → Option ℕ → ℕ → Eval Transfer
  enter_for k recv args value quit = do
    here ← this
    at ← or_stuck here.station
    given ← pass_operands args
    ended ← run_iter k here at recv given here.frame
    after_enter given value quit ended

  abbrev pub enter_iter : ℕ → ℕ → List CallOperand → Option ℕ → ℕ → Eval Transfer
  enter_iter k recv args value quit = resolve (enter_for k recv args value quit) pure forward_fault
