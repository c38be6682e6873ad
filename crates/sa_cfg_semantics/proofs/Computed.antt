-- The sample programs run.
use Rattle.std.proofs.Common.{◌≡◌, [], ◌∷◌, None, refl}
use Rattle.std.specs.Prelude.{codes}
use Rattle.std.specs.Fmt.{digits}
use Rattle.sa_cfg.specs.declared.program.CfgProgram.{CfgProgram}
use Rattle.sa_semantics.specs.Sequence.{resolve, or_stuck}
use Rattle.sa_semantics.specs.State.{Input, Start, Resume, Yields, Quits, Abandon, Enter, Leave, Byte}
use Rattle.sa_semantics.specs.Run.{End, Ended, Stopped, Spent}
use Rattle.sa_cfg_semantics.specs.Counting.{lift}
use Rattle.sa_cfg_semantics.specs.Run.{outcome, cfg_run, trail, events}
use Rattle.sa_cfg_semantics.specs.Samples as sample
use Rattle.sa_cfg_semantics.specs.Samples.{here, one_implementation}

abbrev no_input : Input
no_input = record { bytes = []; ends = None }

-- with 65536 bytes of room and 1000 turns
abbrev end : CfgProgram → End
end p = cfg_run p one_implementation no_input 65536 1000

-- ---- sums

overflowing : end sample.overflowing ≡ Stopped [] 1 here
unfolding outcome resolve or_stuck lift digits
overflowing = refl

caught : end sample.caught ≡ Ended (codes "1") 0
unfolding outcome resolve or_stuck lift digits
caught = refl

summing : end sample.summing ≡ Ended (codes "55") 0
unfolding outcome resolve or_stuck lift digits
summing = refl

-- a turn for `main`, and one for each of the eleven rounds
summing_spent : cfg_run sample.summing [] no_input 0 11 ≡ Spent []
unfolding outcome resolve or_stuck lift digits
summing_spent = refl

-- ---- calls

calling : end sample.calling ≡ Ended (codes "42") 0
unfolding outcome resolve or_stuck lift digits
calling = refl

-- the last body, which is entered first, and the features that it runs
calling_trail : trail sample.calling [] no_input 0 2 ≡ Enter 2 ∷ Enter 0 ∷ Enter 1 ∷ Leave 1 ∷ Byte 52 ∷ Byte 50 ∷ Leave 0 ∷ Leave 2 ∷ []
unfolding outcome resolve or_stuck lift digits
calling_trail = refl

deep : cfg_run sample.deep [] no_input 0 20000 ≡ Stopped [] 10 here
unfolding outcome resolve or_stuck lift digits
deep = refl

-- 8 bytes for the object, and 16 for the INT that is boxed for $OB
widening : cfg_run sample.boxing one_implementation no_input 24 1000 ≡ Ended (codes "7") 0
unfolding outcome resolve or_stuck lift digits
widening = refl

-- The adapter passes the fault on.
widening_past_room : cfg_run sample.boxing one_implementation no_input 23 1000 ≡ Stopped [] 9 here
unfolding outcome resolve or_stuck lift digits
widening_past_room = refl

void_receiver : end sample.void_receiver ≡ Stopped [] 3 here
unfolding outcome resolve or_stuck lift digits
void_receiver = refl

binding : end sample.binding ≡ Ended (codes "42") 0
unfolding outcome resolve or_stuck lift digits
binding = refl

choosing : end sample.choosing ≡ Ended (codes "42") 0
unfolding outcome resolve or_stuck lift digits
choosing = refl

-- The fault is the bind's, and comes before room is taken for the bound value.
choosing_void : cfg_run sample.choosing_void one_implementation no_input 0 1000 ≡ Stopped [] 3 here
unfolding outcome resolve or_stuck lift digits
choosing_void = refl

-- 8 bytes for the object, 16 for the INT that is stored as a $OB, and 24 for the bound value; the calls box nothing
keeping : cfg_run sample.keeping one_implementation no_input 48 1000 ≡ Ended (codes "77") 0
unfolding outcome resolve or_stuck lift digits
keeping = refl

keeping_past_room : cfg_run sample.keeping one_implementation no_input 47 1000 ≡ Stopped [] 9 here
unfolding outcome resolve or_stuck lift digits
keeping_past_room = refl

-- ---- iters

counting : end sample.counting ≡ Ended (codes "012") 0
unfolding outcome resolve or_stuck lift digits
counting = refl

counting_events : events sample.counting [] no_input 0 1000 ≡
    Start 0 0 0 ∷ Yields 0 0 0 ∷ Resume 0 0 0 ∷ Yields 0 0 0 ∷ Resume 0 0 0 ∷ Yields 0 0 0 ∷ Resume 0 0 0 ∷ Quits 0 0 0 ∷ []
unfolding outcome resolve or_stuck lift digits
counting_events = refl

breaking : end sample.breaking ≡ Ended (codes "0") 0
unfolding outcome resolve or_stuck lift digits
breaking = refl

breaking_events : events sample.breaking [] no_input 0 1000 ≡ Start 0 0 0 ∷ Yields 0 0 0 ∷ Abandon 0 0 0 ∷ []
unfolding outcome resolve or_stuck lift digits
breaking_events = refl

widening_iter : end sample.boxing_iter ≡ Ended (codes "012") 0
unfolding outcome resolve or_stuck lift digits
widening_iter = refl

-- each run of the instance goes through the adapter
widening_iter_trail : trail sample.boxing_iter one_implementation no_input 24 4 ≡ Enter 3 ∷ Enter 0 ∷ Enter 2 ∷ Enter 1 ∷ Leave 1 ∷ Leave 2 ∷ Byte 48 ∷ []
unfolding outcome resolve or_stuck lift digits
widening_iter_trail = refl

-- there is no room to box the third value
widening_iter_past_room : cfg_run sample.boxing_iter one_implementation no_input 55 1000 ≡ Stopped (codes "01") 9 here
unfolding outcome resolve or_stuck lift digits
widening_iter_past_room = refl

-- 8 bytes for the object, and 16 for the INT that is boxed for $OB; the resumptions box nothing
widening_once : cfg_run sample.boxing_once one_implementation no_input 24 1000 ≡ Ended (codes "12") 0
unfolding outcome resolve or_stuck lift digits
widening_once = refl

widening_once_past_room : cfg_run sample.boxing_once one_implementation no_input 23 1000 ≡ Stopped [] 9 here
unfolding outcome resolve or_stuck lift digits
widening_once_past_room = refl

failing : end sample.failing ≡ Stopped [] 1 here
unfolding outcome resolve or_stuck lift digits
failing = refl

failing_events : events sample.failing [] no_input 24 1000 ≡ Start 0 0 0 ∷ Yields 0 0 0 ∷ Abandon 0 0 0 ∷ []
unfolding outcome resolve or_stuck lift digits
failing_events = refl

raising : end sample.raising ≡ Stopped (codes "3") 1 here
unfolding outcome resolve or_stuck lift digits
raising = refl

raising_events : events sample.raising [] no_input 24 1000 ≡ Start 0 0 0 ∷ Yields 0 0 0 ∷ Resume 0 0 0 ∷ Abandon 0 0 0 ∷ []
unfolding outcome resolve or_stuck lift digits
raising_events = refl

swapping : end sample.swapping ≡ Ended (codes "21") 0
unfolding outcome resolve or_stuck lift digits
swapping = refl

bound_iter : end sample.bound_iter ≡ Ended (codes "012") 0
unfolding outcome resolve or_stuck lift digits
bound_iter = refl

-- the inner instance first
nested_events : events sample.nested [] no_input 0 1000 ≡ Start 0 0 0 ∷ Start 2 0 1 ∷ Yields 2 0 1 ∷ Yields 0 0 0 ∷ Abandon 2 0 1 ∷ Abandon 0 0 0 ∷ []
unfolding outcome resolve or_stuck lift digits
nested_events = refl
