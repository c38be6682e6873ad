-- The other sample programs run.
use Rattle.std.proofs.Common.{◌≡◌, ◌-◌, [], ◌∷◌, Some, None, refl}
use Rattle.std.specs.Prelude.{take, codes}
use Rattle.std.specs.Fmt.{digits}
use Rattle.sa_ast.specs.declared.fault_kind.FaultKind.TheVariants as fault_kind
use Rattle.sa_typed.specs.declared.feature.Target.TheVariants as target
use Rattle.sa_cfg.specs.declared.program.CfgProgram.{CfgProgram}
use Rattle.sa_semantics.specs.Value.{Void, Ref}
use Rattle.sa_semantics.specs.Sequence.{last_state, resolve, or_stuck}
use Rattle.sa_semantics.specs.State.{Input}
use Rattle.sa_semantics.specs.Run.{End, Ended, Stopped, Spent, Stuck}
use Rattle.sa_cfg_semantics.specs.Counting.{lift}
use Rattle.sa_cfg_semantics.specs.Run.{most_steps, outcome, cfg_run}
use Rattle.sa_cfg_semantics.specs.Targets.{source_target}
use Rattle.sa_cfg_semantics.specs.Samples.{here, one_implementation, keeping}
use Rattle.sa_cfg_semantics.specs.MoreSamples as sample

abbrev no_input : Input
no_input = record { bytes = []; ends = None }

-- with 65536 bytes of room and 1000 turns
abbrev end : CfgProgram → End
end p = cfg_run p one_implementation no_input 65536 1000

-- ---- initialisers

-- 16 bytes for the P that is boxed, and turns as in the typed program
initialises : cfg_run sample.initialises [] no_input 16 4 ≡ Ended (codes "1P") 0
unfolding outcome resolve or_stuck lift digits
initialises = refl

initialises_past_room : cfg_run sample.initialises [] no_input 15 4 ≡ Stopped [] 9 here
unfolding outcome resolve or_stuck lift digits
initialises_past_room = refl

-- ---- turns of built-ins that don't succeed

-- 18 bytes take 32 of room
joining : cfg_run sample.joining [] no_input 32 1000 ≡ Ended [] 0
unfolding outcome resolve or_stuck lift digits
joining = refl

joining_past_room : cfg_run sample.joining [] no_input 31 1000 ≡ Stopped [] 9 here
unfolding outcome resolve or_stuck lift digits
joining_past_room = refl

-- two CFG steps in the last body, two in `main`, and the three turns of the text
joining_past_room_steps : (last_state (outcome sample.joining [] no_input 31 1000)).steps ≡ most_steps 1000 - 7
unfolding outcome resolve or_stuck lift digits
joining_past_room_steps = refl

-- the third turn of the text isn't there
joining_spent : cfg_run sample.joining [] no_input 32 3 ≡ Spent []
unfolding outcome resolve or_stuck lift digits
joining_spent = refl

joining_spent_steps : (last_state (outcome sample.joining [] no_input 32 3)).steps ≡ most_steps 3 - 6
unfolding outcome resolve or_stuck lift digits
joining_spent_steps = refl

-- ---- boxing

two_stages : cfg_run sample.boxing_in_two_stages one_implementation no_input 40 1000 ≡ Ended (codes "12") 0
unfolding outcome resolve or_stuck lift digits
two_stages = refl

-- as in the typed program, the variables that get values are still void where the room is exceeded, and as much room is left
two_stages_past_room : cfg_run sample.boxing_in_two_stages one_implementation no_input 39 1000 ≡ Stopped [] 9 here
unfolding outcome resolve or_stuck lift digits
two_stages_past_room = refl

two_stages_variables : take 3 (last_state (outcome sample.boxing_in_two_stages one_implementation no_input 39 1000)).here.variables ≡ Ref 0 ∷ Void ∷ Void ∷ []
unfolding outcome resolve or_stuck lift digits
two_stages_variables = refl

two_stages_room : (last_state (outcome sample.boxing_in_two_stages one_implementation no_input 39 1000)).world.room ≡ 15
unfolding outcome resolve or_stuck lift digits
two_stages_room = refl

once_first : cfg_run sample.boxing_once_first one_implementation no_input 56 1000 ≡ Ended (codes "1") 0
unfolding outcome resolve or_stuck lift digits
once_first = refl

once_first_room : (last_state (outcome sample.boxing_once_first one_implementation no_input 39 1000)).world.room ≡ 31
unfolding outcome resolve or_stuck lift digits
once_first_room = refl

-- ---- faults

catches_no_branch : end (sample.catching_stop fault_kind.NoBranch) ≡ Ended (codes "1") 0
unfolding outcome resolve or_stuck lift digits
catches_no_branch = refl

passes_no_room : end (sample.catching_stop fault_kind.NoRoom) ≡ Stopped [] 9 here
unfolding outcome resolve or_stuck lift digits
passes_no_room = refl

-- ---- operations that contradict their own numbers

calls : end sample.calls ≡ Ended (codes "1") 0
unfolding outcome resolve or_stuck lift digits
calls = refl

expects_value : end sample.expects_value ≡ Stuck
unfolding outcome resolve or_stuck lift digits
expects_value = refl

passes_inout : end sample.passes_inout ≡ Stuck
unfolding outcome resolve or_stuck lift digits
passes_inout = refl

passes_nothing : end sample.passes_nothing ≡ Stuck
unfolding outcome resolve or_stuck lift digits
passes_nothing = refl

widens_other : end sample.boxes_other ≡ Stuck
unfolding outcome resolve or_stuck lift digits
widens_other = refl

unwraps_other : end sample.unboxes_other ≡ Stuck
unfolding outcome resolve or_stuck lift digits
unwraps_other = refl

asks_type : end sample.asks_type ≡ Stuck
unfolding outcome resolve or_stuck lift digits
asks_type = refl

dispatches_raw : end sample.dispatches_raw ≡ Stuck
unfolding outcome resolve or_stuck lift digits
dispatches_raw = refl

gets_of_other : end sample.gets_of_other ≡ Stuck
unfolding outcome resolve or_stuck lift digits
gets_of_other = refl

makes_abstract : end sample.makes_abstract ≡ Stuck
unfolding outcome resolve or_stuck lift digits
makes_abstract = refl

sets_no_variable : end sample.sets_no_variable ≡ Stuck
unfolding outcome resolve or_stuck lift digits
sets_no_variable = refl

resumes_other : end sample.resumes_other ≡ Stuck
unfolding outcome resolve or_stuck lift digits
resumes_other = refl

-- ---- bound values

-- the adapter is that of the implementation
keeping_target : source_target keeping sample.one_signature (target.Feature 2) ≡ Some (target.Feature 1)
keeping_target = refl
