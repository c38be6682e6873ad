-- The sample programs run.
use Rattle.std.proofs.Common.{◌≡◌, ℕ, [], ◌∷◌, None, Some, refl}
use Rattle.std.specs.Prelude.{codes}
use Rattle.std.specs.Fmt.{digits}
use Rattle.sa_semantics.specs.Sequence.{resolve, or_stuck}
use Rattle.sa_semantics.specs.State.{Input, Start, Resume, Yields, Abandon, Enter, Leave, Byte}
use Rattle.sa_semantics.specs.Program.{Program}
use Rattle.sa_semantics.specs.Sequence.{last_state}
use Rattle.sa_semantics.specs.Run.{End, Ended, Stopped, InFault, Spent, initial, whole_run, outcome, end_of, run_program}
use Rattle.sa_semantics.specs.Statements.{run_to}
use Rattle.sa_semantics.specs.Samples as sample
use Rattle.sa_semantics.specs.Samples.{here}

abbrev no_input : Input
no_input = record { bytes = []; ends = None }

-- with 65536 bytes of room and 1000 turns
abbrev end : Program → End
end p = run_program p no_input 65536 1000

-- ---- iters

two_sites : end sample.two_sites ≡ Ended (codes "1 5\n2 6\n3 ") 0
unfolding outcome resolve or_stuck digits
two_sites = refl

summing : end sample.summing ≡ Ended (codes "3") 0
unfolding outcome resolve or_stuck digits
summing = refl

once_alone : end sample.once_alone ≡ Ended (codes "1") 0
unfolding outcome resolve or_stuck digits
once_alone = refl

arguments_anew : end sample.arguments_anew ≡ Ended (codes "1 3 6 ") 0
unfolding outcome resolve or_stuck digits
arguments_anew = refl

nested_loops : end sample.nested_loops ≡ Ended (codes "1 2 1 2 ") 0
unfolding outcome resolve or_stuck digits
nested_loops = refl

abandoned : end sample.abandoned ≡ Ended (codes "12") 0
unfolding outcome resolve or_stuck digits
abandoned = refl

-- what the inner one yields goes out through the outer one, and the loop's end abandons both, the inner one first
abandoned_events : (last_state (outcome sample.abandoned no_input 65536 1000)).events ≡
    Start 0 0 0 ∷ Start 2 0 1 ∷ Yields 2 0 1 ∷ Yields 0 0 0 ∷ Resume 0 0 0 ∷ Resume 2 0 1 ∷ Yields 2 0 1 ∷ Yields 0 0 0 ∷ Abandon 2 0 1 ∷ Abandon 0 0 0 ∷ []
unfolding outcome resolve or_stuck digits
abandoned_events = refl

abandoned_trail : (last_state (outcome sample.abandoned no_input 65536 1000)).trail ≡
    Enter 0 ∷ Enter 2 ∷ Enter 1 ∷ Leave 1 ∷ Leave 2 ∷ Byte 49 ∷ Enter 2 ∷ Enter 1 ∷ Leave 1 ∷ Leave 2 ∷ Byte 50 ∷ Leave 0 ∷ []
unfolding outcome resolve or_stuck digits
abandoned_trail = refl

bound_iter : end sample.bound_iter ≡ Ended (codes "1 2 3 ") 0
unfolding outcome resolve or_stuck digits
bound_iter = refl

-- ---- copies out

copies_at_return : end sample.copies_at_return ≡ Ended (codes "14221") 0
unfolding outcome resolve or_stuck digits
copies_at_return = refl

-- an `out` argument is void again at each resumption
copies_at_yield : end sample.copies_at_yield ≡ Ended (codes "124816") 0
unfolding outcome resolve or_stuck digits
copies_at_yield = refl

-- boxed for the variable: 16 bytes
copies_widened : run_program sample.copies_boxed no_input 16 1000 ≡ Ended (codes "7") 0
unfolding outcome resolve or_stuck digits
copies_widened = refl

copies_past_room : run_program sample.copies_boxed no_input 15 1000 ≡ Stopped [] 9 here
unfolding outcome resolve or_stuck digits
copies_past_room = refl

-- ---- bound values

-- the receiver and one given value: 24 bytes
bound_routine : run_program sample.bound_routine no_input 24 1000 ≡ Ended (codes "7") 0
unfolding outcome resolve or_stuck digits
bound_routine = refl

bound_past_room : run_program sample.bound_routine no_input 23 1000 ≡ Stopped [] 9 here
unfolding outcome resolve or_stuck digits
bound_past_room = refl

-- a stored argument is set anew at each resumption
bound_anew : end sample.bound_anew ≡ Ended (codes "2 4 6 ") 0
unfolding outcome resolve or_stuck digits
bound_anew = refl

-- ---- faults

overflows : end sample.overflows ≡ Stopped (codes "a") 1 here
unfolding outcome resolve or_stuck digits
overflows = refl

overflows_by_division : end sample.overflows_by_division ≡ Stopped [] 1 here
unfolding outcome resolve or_stuck digits
overflows_by_division = refl

divides_by_zero : end sample.divides_by_zero ≡ Stopped [] 2 here
unfolding outcome resolve or_stuck digits
divides_by_zero = refl

divides : end sample.divides ≡ Ended (codes "-3 -1") 0
unfolding outcome resolve or_stuck digits
divides = refl

passes_the_end : end sample.passes_the_end ≡ Stopped (codes "72") 4 here
unfolding outcome resolve or_stuck digits
passes_the_end = refl

negative_size : end (sample.makes_array sample.minus_one) ≡ Stopped [] 4 here
unfolding outcome resolve or_stuck digits
negative_size = refl

reads_void : end sample.reads_void ≡ Stopped (codes "g") 3 here
unfolding outcome resolve or_stuck digits
reads_void = refl

-- an array of n elements takes 8 * (n + 1) bytes, to the byte
fits_room : run_program (sample.makes_array (sample.int 20)) no_input 168 1000 ≡ Ended [] 0
unfolding outcome resolve or_stuck digits
fits_room = refl

passes_room : run_program (sample.makes_array (sample.int 20)) no_input 167 1000 ≡ Stopped [] 9 here
unfolding outcome resolve or_stuck digits
passes_room = refl

-- A run that begins at a depth: `main` is the next call, and the 10,001st that runs at once is too deep.
from_depth : ℕ → Program → End
from_depth depth p =
    let s = initial p no_input 0 1000 in
    end_of (whole_run p (run_to p 1000) (record s { here = record (s.here) { depth = depth } }))

deep_enough : from_depth 9990 (sample.recursive 9) ≡ Ended [] 0
unfolding from_depth resolve or_stuck
deep_enough = refl

too_deep : from_depth 9990 (sample.recursive 10) ≡ Stopped [] 10 here
unfolding from_depth resolve or_stuck
too_deep = refl

deep_recursion : run_program (sample.recursive 200) no_input 0 1000 ≡ Ended [] 0
unfolding outcome resolve or_stuck
deep_recursion = refl

-- ---- protect

catches : end sample.catches ≡ Ended (codes "1 2 caught x") 0
unfolding outcome resolve or_stuck digits
catches = refl

tells_fault : end sample.reports_fault ≡ Ended (codes "2 1 division by zero") 0
unfolding outcome resolve or_stuck digits
tells_fault = refl

raises_again : end sample.raises_again ≡ Stopped [] 8 here
unfolding outcome resolve or_stuck digits
raises_again = refl

-- without room for its object, nothing catches the fault
no_room_for_fault : run_program sample.reports_fault no_input 23 1000 ≡ Stopped [] 2 here
unfolding outcome resolve or_stuck digits
no_room_for_fault = refl

-- a branch that is left by a raise leaves no exception to what comes after it
raises_in_branches : end sample.raises_in_branches ≡ Ended (codes "ca") 0
unfolding outcome resolve or_stuck digits
raises_in_branches = refl

catches_fault_of_iter : end sample.catches_fault_of_iter ≡ Ended (codes "1c") 0
unfolding outcome resolve or_stuck digits
catches_fault_of_iter = refl

raises_through : end sample.raises_through ≡ Ended (codes "c") 0
unfolding outcome resolve or_stuck digits
raises_through = refl

-- The raise ends the instances inside the iter that it leaves, then this one, and then those of the caller's loop.
raises_through_events : (last_state (outcome sample.raises_through no_input 65536 1000)).events ≡
    Start 0 0 0 ∷ Start 2 0 1 ∷ Yields 2 0 1 ∷ Yields 0 0 0 ∷ Start 0 1 2 ∷ Yields 0 1 2 ∷ Resume 0 0 0 ∷ Abandon 2 0 1 ∷ Abandon 0 0 0 ∷ Abandon 0 1 2 ∷ []
unfolding outcome resolve or_stuck digits
raises_through_events = refl

-- ---- dispatch and boxing

dispatches : end sample.dispatches ≡ Ended (codes "42") 0
unfolding outcome resolve or_stuck digits
dispatches = refl

-- an object without attributes, and the boxed argument and the boxed result
dispatches_in_room : run_program sample.dispatches no_input 40 1000 ≡ Ended (codes "42") 0
unfolding outcome resolve or_stuck digits
dispatches_in_room = refl

dispatches_past_room : run_program sample.dispatches no_input 39 1000 ≡ Stopped [] 9 here
unfolding outcome resolve or_stuck digits
dispatches_past_room = refl

dispatches_iter : end sample.dispatches_iter ≡ Ended (codes "123") 0
unfolding outcome resolve or_stuck digits
dispatches_iter = refl

dispatches_on_void : end sample.dispatches_on_void ≡ Stopped [] 3 here
unfolding outcome resolve or_stuck digits
dispatches_on_void = refl

copies_immutable : end sample.copies_immutable ≡ Ended (codes "1 5") 0
unfolding outcome resolve or_stuck digits
copies_immutable = refl

-- ---- input

reads_line : run_program sample.reads_line (record { bytes = codes "ab\nc"; ends = None }) 0 1000 ≡ Ended (codes "qab") 0
unfolding outcome resolve or_stuck digits
reads_line = refl

reads_to_end : run_program sample.reads_line (record { bytes = codes "ab"; ends = Some 1 }) 0 1000 ≡ Ended (codes "qab") 0
unfolding outcome resolve or_stuck digits
reads_to_end = refl

-- the input fails where its end is reported once too often
input_fails : run_program sample.reads_line (record { bytes = codes "ab"; ends = Some 0 }) 0 1000 ≡ InFault (codes "qab")
unfolding outcome resolve or_stuck digits
input_fails = refl

-- ---- turns

-- one for `main`, one for the first eight bytes, and one for each of three rounds
in_turns : run_program sample.reads_line (record { bytes = codes "ab"; ends = None }) 0 5 ≡ Ended (codes "qab") 0
unfolding outcome resolve or_stuck digits
in_turns = refl

out_of_rounds : run_program sample.reads_line (record { bytes = codes "ab"; ends = None }) 0 4 ≡ Spent (codes "qab")
unfolding outcome resolve or_stuck digits
out_of_rounds = refl

out_of_turns : run_program sample.reads_line no_input 0 1 ≡ Spent []
unfolding outcome resolve or_stuck digits
out_of_turns = refl
