-- The stretches of a run, each with a sink of its own, as one run with one sink.
use Rattle.std.specs.Prelude.{◌≡◌, ◌≢◌, ◌⊎◌, ℕ, Bool, List, [], Option, Some, None}
use Rattle.host_io.specs.Input as source
use Rattle.sa_ast.specs.declared.pos.Pos.{Pos}
use Rattle.sa_ast.specs.declared.pos.Sources.{Sources}
use Rattle.sa_trace.specs.Pieces.{ParserState}
use Rattle.wa_syntax.specs.declared.module.Module.{Module}
use Rattle.wa_syntax.specs.Machine.{Input}
use Rattle.wa_syntax.specs.Runs.{IsLinked}
use Rattle.wa_syntax.specs.ValidModule.{IsValid}
use Rattle.wa_flatten.specs.Codes.{layout_of}
use Rattle.wa_flatten.specs.Layouts.{Layout}
use Rattle.wa_exec.specs.Goes.{first}
use Rattle.wa_exec.specs.Linking.{flat_of}
use Rattle.wa_exec.specs.Machines.{Flat, Represents}
use Rattle.wa_exec.specs.Interaction.{Makes, sides}
use Rattle.wa_exec.specs.Progress.{Progress, Runs}
use Rattle.wa_run.specs.declared.answer.Answer.{Answer}
use Rattle.wa_run.specs.declared.answer.Answer.TheVariants as answer
use Rattle.wa_run.specs.Runs.{HasRunModule, streams}
use Rattle.sa_trace_run.specs.Traced.{AreReported, Sinks, SoFar}

-- how a run began: with a module and the code and the state of its machine, over an input
pub record Beginning : Type 0 where
  pub program : Module
  pub valid : IsValid program
  pub linked : IsLinked program
  pub row : Layout
  pub flat : Flat
  pub begins : (input : Input) → Represents program row flat (first program input)
  pub input : Option source.Input
  pub ended : Bool

module _ (b : Beginning) where
  -- the run came to this answer within the fuel, and has put these bytes
  abbrev pub HasRunTo : (fuel : ℕ) → Answer → (steps : ℕ) → (input : Option source.Input) → (put : List ℕ) → Type 0
  HasRunTo fuel given steps input put =
      HasRunModule b.program fuel (record { answer = given; steps = steps; func = None })
      (streams b.input (Some [])) (streams input (Some put))

  -- the run can go on, and has put these bytes so far
  pub record GoesOn (machine : Progress) (held : List ℕ) (input : Option source.Input) (ended : Bool) (put : List ℕ) : Type 0 where
    pub makes :
        Makes b.program b.row b.flat (flat_of machine.state) 0 machine.steps None (sides b.input b.ended (Some []))
        (sides input ended (Some put)) [] []
    pub none : held ≡ []
    pub runs : Runs b.program machine
    pub row_is : layout_of machine.linked.code ≡ b.row

  -- A stretch ends with this answer. It is the answer of the run, if no more fuel is left where it is spent; out may fail then, or
  -- memory run out, unless the input has failed
  pub record CameTo (fuel : ℕ) (given : Answer) (machine : Progress) (held : List ℕ) (input : Option source.Input) (ended : Bool)
      (put : List ℕ) : Type 0 where
    pub whole : (given ≡ answer.Spent → machine.steps ≡ fuel) → HasRunTo fuel given machine.steps input put
    pub cut :
        given ≢ answer.InFault → (outage : Answer) → (outage ≡ answer.OutFault) ⊎ (outage ≡ answer.NoMemory)
        → HasRunTo fuel outage machine.steps input put
    pub goes : given ≡ answer.Spent → GoesOn machine held input ended put

  -- a run that can go on, and all records of what it has put so far were written
  pub record IsUnderWay (positions : List Pos) (sources : Sources) (machine : Progress) (held : List ℕ) (left : ParserState)
      (input : Option source.Input) (ended : Bool) (s : Sinks) : Type 0 where
    pub put : List ℕ
    pub goes : GoesOn machine held input ended put
    pub so_far : SoFar positions sources put left s

  -- A stretch of a run under way ends with this answer, and what the run has put was reported. The answer is that of the run, if no more
  -- fuel is left where it is spent
  pub record IsStretch (positions : List Pos) (sources : Sources) (fuel : ℕ) (given : Answer) (machine : Progress) (held : List ℕ)
      (left : ParserState) (input : Option source.Input) (ended : Bool) (s : Sinks) : Type 0 where
    pub put : List ℕ
    pub whole : (given ≡ answer.Spent → machine.steps ≡ fuel) → HasRunTo fuel given machine.steps input put
    pub reported : AreReported positions sources put s given
    pub goes : given ≡ answer.Spent → IsUnderWay positions sources machine held left input ended s
