-- What operations count, and what they take from the semantics of the language.
use Rattle.std.specs.Prelude.{ℕ, zero, suc, ◌-◌, pos, true, false, nat_le, if◌then◌else◌, [], ◌∷◌, ◌++◌, map, Option, Some, None, is_some}
use Rattle.sa_cfg.specs.declared.program.CfgProgram.{CfgProgram}
use Rattle.sa_cfg.specs.declared.program.TypeLayout.{TypeLayout}
use Rattle.sa_ast.specs.declared.pos.Pos.{Pos}
use Rattle.sa_semantics.specs.Value.{Value, Int, unboxed_type}
use Rattle.sa_semantics.specs.Program.{TypeRow, Program}
use Rattle.sa_semantics.specs.Sequence.{Step, Normal, Abrupt, OutOfTurns, GoesWrong, ◌>>=◌, pure, look, change, stop, stuck, at_index, with_index}
use Rattle.sa_semantics.specs.State as language
use Rattle.sa_semantics.specs.Steps as language_steps
use Rattle.sa_cfg_semantics.specs.Frames.{Activation, State, Cause, Faulted, InputFailed, Outcome}

abbrev pub Eval : Type 0 → Type 0
Eval A = Step State Cause A

-- ---- what is counted

-- so many CFG steps
abbrev pub count : ℕ → Eval (Unit {0})
count n = λ s. if nat_le n s.steps then Normal tt (record s { steps = s.steps - n }) else GoesWrong s

abbrev pub take_turn : {A : Type 0} → ℕ → Eval A → Eval A
take_turn zero f s = OutOfTurns s
take_turn (suc n) f s = f (record s { world = record (s.world) { turns = n } })

-- a step that takes a turn before it
abbrev pub turn : {A : Type 0} → Eval A → Eval A
turn f = λ s. take_turn s.world.turns f s

-- ---- the semantics of the language

-- The types alone: the semantics of the language reads nothing else here.
abbrev pub type_row : TypeLayout → TypeRow
type_row t = record { kind = t.kind; attrs = t.attrs; elem = t.elem; above = t.above; wide_args = []; wide = false }

abbrev pub types_of : CfgProgram → Program
types_of p =
    record { types = map type_row p.layouts; features = []; signatures = []; shareds = []; main = 0; newlines = []; faults_raise = true }

-- a position that is never reported
abbrev pub nowhere : Pos
nowhere = record { file = 0; at = 0 }

-- the world after a step of the language, each turn of which counts as a CFG step too, and then what follows
abbrev pub spend_turns : {A : Type 0} → State → language.State → Eval A → Outcome A
spend_turns s world next =
    let turns = s.world.turns - world.turns in
    if nat_le turns s.steps then next (record s { world = world; steps = s.steps - turns }) else GoesWrong s

-- A step of the language that raises a fault has changed nothing before it but made the fault's object, which is made anew at the handler
-- to which the fault goes.
abbrev pub lifted : {A : Type 0} → State → language.Outcome A → Outcome A
lifted s (Normal a world) = spend_turns s world (pure a)
lifted s (Abrupt (language.Raised exception kind at) world) = Abrupt (Faulted kind) s
lifted s (Abrupt (language.Failed kind at) world) = spend_turns s world (stop (Faulted kind))
lifted s (Abrupt language.InputFailed world) = spend_turns s world (stop InputFailed)
lifted s (Abrupt language.Broke world) = GoesWrong s
lifted s (OutOfTurns world) = spend_turns s world (λ t. OutOfTurns t)
lifted s (GoesWrong world) = GoesWrong s

-- a step of the language
unfoldable pub lift : {A : Type 0} → language_steps.Eval A → Eval A
lift f = λ s. lifted s (f s.world)

-- a step on a value at an abstract type, where one of an immutable class is allowed only if it is boxed
abbrev pub if_abstract : {A : Type 0} → Value → Eval A → Eval A
if_abstract v f = if is_some (unboxed_type v) then stuck else f

-- ---- variables

abbrev pub read : ℕ → Eval Value
read var = look (λ s. s.here.variables) >>= (λ variables. at_index variables var)

abbrev pub write : ℕ → Value → Eval (Unit {0})
write var v = do
  variables ← look (λ s. s.here.variables)
  changed ← with_index variables var v
  change (λ s. record s { here = record (s.here) { variables = changed } })

-- the value is assigned to the variable, where there is one for it
abbrev pub put : Option ℕ → Value → Eval (Unit {0})
put None v = pure tt
put (Some var) v = write var v

-- the value that a callee gives is assigned to the variable, where there is one for it
abbrev pub put_result : Option ℕ → Option Value → Eval (Unit {0})
put_result None v = pure tt
put_result (Some var) None = stuck
put_result (Some var) (Some v) = write var v

abbrev pub write_number : ℕ → ℕ → Eval (Unit {0})
write_number var n = write var (Int (pos n))

-- ---- entries and exits of bodies

abbrev pub this : Eval Activation
this = look (λ s. s.here)

abbrev pub enter : Activation → Eval (Unit {0})
enter a = change (λ s. record s { here = a; world = record (s.world) { trail = s.world.trail ++ language.Enter a.body ∷ [] } })

-- back to the one that entered it
abbrev pub leave : ℕ → Activation → Eval (Unit {0})
leave body a = change (λ s. record s { here = a; world = record (s.world) { trail = s.world.trail ++ language.Leave body ∷ [] } })
