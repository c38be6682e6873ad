-- What it guarantees that an AST is well typed: its semantics never gets stuck.
use Rattle.std.specs.Prelude.{ℕ, ◌≢◌}
use Rattle.sa_typed.specs.declared.program.TypedProgram.{TypedProgram}
use Rattle.sa_typing.specs.WellTyped.{IsWellTyped}
use Rattle.sa_semantics.specs.State.{Input}
use Rattle.sa_semantics.specs.Run.{Stuck, run}

-- On each input, with each room and each number of turns, a rule always applies: no variable, attribute, element, argument, object,
-- feature, implementation or instance is ever missing, and nothing is ever of another type than its context wants.
abbrev pub NeverStuck : TypedProgram → Type 0
NeverStuck core = IsWellTyped core → (input : Input) (room turns : ℕ) → run core input room turns ≢ Stuck
