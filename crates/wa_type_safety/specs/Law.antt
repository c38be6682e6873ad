-- What validity guarantees: no run of a valid module gets stuck, and each state that it reaches has the types that validity says.
use Rattle.std.specs.Prelude.{ℕ, ◌≡◌, ◌≢◌, List, [], length, All, Option, Some, None, option_to_list, option_and_then}
use Rattle.wa_syntax.specs.declared.module.ValTy.{ValTy}
use Rattle.wa_syntax.specs.declared.module.FuncTy.{FuncTy}
use Rattle.wa_syntax.specs.declared.module.Module.{Module}
use Rattle.wa_syntax.specs.Binary.{SpellsModule}
use Rattle.wa_syntax.specs.ValidModule.{IsValid}
use Rattle.wa_syntax.specs.Hosts.{type_of}
use Rattle.wa_syntax.specs.Machine.{Input, State, Ended, Stuck}
use Rattle.wa_syntax.specs.Steps.{Finished, Unfinished}
use Rattle.wa_syntax.specs.Runs.{IsLinked, SegmentsFit, main_of, first_state, functions_of, run_all, machine_run}
use Rattle.wa_type_safety.specs.Ranges.{IsByte, IsInRange}
use Rattle.wa_type_safety.specs.Typing.{IsState}

-- A valid module that is linked runs without getting stuck, whatever its input and however many instructions it runs: no
-- operand, label, activation, local, global, function or type is ever missing.
abbrev pub NeverStuck : Module → Type 0
NeverStuck m = IsValid m → IsLinked m → (input : Input) (most : ℕ) → (machine_run m input most).halt ≢ Stuck

-- Each state that it reaches is well typed, whatever its outermost function is to leave; and so its values are below 2 to their
-- widths if the run begins in range.
abbrev pub StaysTyped : Module → Type 0
StaysTyped m = IsValid m → IsLinked m → (input : Input) (most : ℕ) (s : State) →
    run_all m (functions_of m) (Finished most [] (first_state m input)) ≡ Unfinished s →
    (ends : List ValTy) × IsState (record { program = m; input = input; ends = ends }) s

-- the results of a type, and none where there is no type
abbrev pub results_of : Option FuncTy → List ValTy
results_of None = []
results_of (Some ty) = ty.results

-- the types of what `main` leaves
abbrev pub main_results : Module → List ValTy
main_results m = results_of (option_and_then (type_of m) (main_of m.exports))

-- It ends with a value exactly where `main` has a result.
abbrev pub EndsAsMain : Module → Type 0
EndsAsMain m = IsValid m → IsLinked m → (input : Input) (most : ℕ) (value : Option ℕ) →
    (machine_run m input most).halt ≡ Ended value → length (option_to_list value) ≡ length (main_results m)

-- A module that bytes spell begins in range, on an input of bytes and if its segments fit: each number of the binary format is
-- spelled within its width.
abbrev pub SpelledIsInRange : Module → Type 0
SpelledIsInRange m = (bytes : List ℕ) → SpellsModule bytes m → All IsByte bytes →
    (input : Input) → All IsByte input.bytes → SegmentsFit m → IsInRange m input
