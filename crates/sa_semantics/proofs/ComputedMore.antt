-- The other sample programs run.
use Rattle.std.proofs.Common.{◌≡◌, [], ◌∷◌, None, refl}
use Rattle.std.proofs.lemmas.List.Elements.{All-from_recursion, recursion_from_All}
use Rattle.std.specs.Prelude.{pos, codes}
use Rattle.std.specs.Fmt.{digits}
use Rattle.sa_ast.specs.declared.fault_kind.FaultKind.TheVariants as fault_kind
use Rattle.sa_semantics.specs.Value.{Void, Int, Ref}
use Rattle.sa_semantics.specs.Program.{Program, Feature, before}
use Rattle.sa_semantics.specs.Protects.{AreUnguarded, HasNoProtect}
use Rattle.sa_semantics.specs.Sequence.{last_state, resolve, or_stuck}
use Rattle.sa_semantics.specs.State.{Input}
use Rattle.sa_semantics.specs.Run.{End, Ended, Stopped, Stuck, outcome, run_program}
use Rattle.sa_semantics.specs.Samples.{here, reports_fault, overflows, catches_fault_of_iter}
use Rattle.sa_semantics.specs.MoreSamples as sample

abbrev no_input : Input
no_input = record { bytes = []; ends = None }

-- with 65536 bytes of room and 1000 turns
abbrev end : Program → End
end p = run_program p no_input 65536 1000

-- ---- initialisers

-- self is the void value of the class, which is immutable
initialises : end sample.initialises ≡ Ended (codes "1P") 0
unfolding outcome resolve or_stuck digits
initialises = refl

-- a turn for each initialiser, one for `main`, and one for the text
initialises_in_turns : run_program sample.initialises no_input 65536 4 ≡ Ended (codes "1P") 0
unfolding outcome resolve or_stuck digits
initialises_in_turns = refl

-- ---- boxing

-- 8 bytes for the object, and 16 for each of the two
two_stages : run_program sample.boxes_in_two_stages no_input 40 1000 ≡ Ended (codes "12") 0
unfolding outcome resolve or_stuck digits
two_stages = refl

two_stages_past_room : run_program sample.boxes_in_two_stages no_input 39 1000 ≡ Stopped [] 9 here
unfolding outcome resolve or_stuck digits
two_stages_past_room = refl

-- The value for the signature's $OB is boxed first, so that the other variable is still void where the room is exceeded.
two_stages_variables : (last_state (outcome sample.boxes_in_two_stages no_input 39 1000)).here.variables ≡ Ref 0 ∷ Void ∷ Void ∷ Int (pos 0) ∷ []
unfolding outcome resolve or_stuck digits
two_stages_variables = refl

two_stages_room : (last_state (outcome sample.boxes_in_two_stages no_input 39 1000)).room ≡ 15
unfolding outcome resolve or_stuck digits
two_stages_room = refl

-- 8 bytes for the object, 32 for the P, and 16 for the INT
once_first : run_program sample.boxes_once_first no_input 56 1000 ≡ Ended (codes "1") 0
unfolding outcome resolve or_stuck digits
once_first = refl

-- The P exceeds the room, before the INT takes any.
once_first_room : (last_state (outcome sample.boxes_once_first no_input 39 1000)).room ≡ 31
unfolding outcome resolve or_stuck digits
once_first_room = refl

-- ---- faults

catches_no_branch : end (sample.catches_stop fault_kind.NoBranch) ≡ Ended (codes "c") 0
unfolding outcome resolve or_stuck digits
catches_no_branch = refl

-- nothing catches want of room
passes_no_room : end (sample.catches_stop fault_kind.NoRoom) ≡ Stopped [] 9 here
unfolding outcome resolve or_stuck digits
passes_no_room = refl

-- where no fault can be caught
before_overflow : run_program (before overflows) no_input 65536 1000 ≡ Stopped (codes "a") 1 here
unfolding outcome resolve or_stuck digits
before_overflow = refl

before_caught : run_program (before reports_fault) no_input 65536 1000 ≡ Stopped [] 2 here
unfolding outcome resolve or_stuck digits
before_caught = refl

-- out of an iter, and out of the loop that resumes it
before_out_of_iter : run_program (before catches_fault_of_iter) no_input 65536 1000 ≡ Stopped (codes "1") 2 here
unfolding outcome resolve or_stuck digits
before_out_of_iter = refl

-- ---- protects

stands_nowhere : HasNoProtect overflows
stands_nowhere = All-from_recursion (λ (f : Feature). AreUnguarded f.body) overflows.features ((tt, (tt, (tt, tt))), tt)

stands_in_main : HasNoProtect (sample.catches_stop fault_kind.NoBranch) → ⊥
stands_in_main none = (recursion_from_All (λ (f : Feature). AreUnguarded f.body) (sample.catches_stop fault_kind.NoBranch).features none).0.0

-- ---- programs to which no rule applies

writes_no_variable : end sample.writes_no_variable ≡ Stuck
unfolding outcome resolve or_stuck digits
writes_no_variable = refl

lacks_argument : end sample.lacks_argument ≡ Stuck
unfolding outcome resolve or_stuck digits
lacks_argument = refl

has_argument_more : end sample.has_argument_more ≡ Stuck
unfolding outcome resolve or_stuck digits
has_argument_more = refl

widens_reference : end sample.boxes_reference ≡ Stuck
unfolding outcome resolve or_stuck digits
widens_reference = refl

sets_no_attribute : end sample.sets_no_attribute ≡ Stuck
unfolding outcome resolve or_stuck digits
sets_no_attribute = refl
