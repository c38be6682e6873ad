-- What commands show of runs.
use Rattle.std.proofs.Common.{◌≡◌, ◌∙◌, ap, ℕ, List, [], Some, subst, sym, inl, inr, refl}
use Rattle.sa_typed.specs.PositionList.{program_positions}
use Rattle.sa_typed.specs.declared.program.TypedProgram.{TypedProgram}
use Rattle.host_io.specs.Input.{Input}
use Rattle.sa_trace_run.specs.Traced.{AreReported}
use Rattle.sa_ast.specs.declared.pos.Pos.{Pos}
use Rattle.sa_ast.specs.declared.pos.Sources.{Sources}
use Rattle.wa_syntax.specs.declared.module.Module.{Module}
use Rattle.wa_syntax.specs.Binary.{SpellsModule}
use Rattle.wa_syntax.specs.ValidModule.{IsValid}
use Rattle.wa_run.specs.Modules.{SaysOf, SaysOfValid}
use Rattle.wa_run.specs.Runs.{streams}
use Rattle.wa_run.specs.declared.answer.Answer.{Answer}
use Rattle.wa_run.specs.declared.answer.Answer.TheVariants as answer
use Rattle.wa_run.specs.declared.module_run.RunResult.{RunResult}
use Rattle.wa_run.proofs.Spelled.{run-spelled}
use Rattle.sa_correctness.specs.Confined.{IsConfined}
use Rattle.sa_cli.specs.Line.{Line}
use Rattle.std.specs.Prelude.{Option, None}
use Rattle.sa_driver.specs.Answer.{DoesNothing, Obeys, empty_input, own_sink}
use Rattle.sa_driver.specs.Built.{IsNumbered, IsVerified, program_sites}
use Rattle.sa_driver.specs.Ends.{IsOfModule, cause_of}
use Rattle.sa_driver.specs.Runs.{IsRunBounded, IsRunOf, IsRunOfModule, Ran, RanBuilt, RanTraced, Shows, done_of, ended_of, framed_output, sinks_of}
use Rattle.sa_driver.specs.HostParts.{HostState, HostPart}
use Rattle.sa_driver.specs.declared.cause.Cause.{Cause}
use Rattle.sa_driver.specs.declared.cause.Cause.TheVariants as cause
use Rattle.sa_driver.specs.declared.exec.RunEnd.{RunEnd}
use Rattle.sa_driver.specs.declared.module.BuiltModule.{BuiltModule}
use Rattle.sa_driver.specs.declared.outcome.Outcome.{Outcome}

-- a part of the host that says what it holds and never fails
abbrev pub sure : {T : Type 0} → T → T → HostPart T
sure old new = record { before = Some old; after = Some new; faults_before = 0; faults_after = 0 }

-- the positions of the module are those of this AST, and these are the texts of a report
pub ran_of : (input : HostPart Input) (out : HostPart (List ℕ)) (room fuel : ℕ) (core : TypedProgram) (built : BuiltModule) (sources reported : Sources) (outcome : Outcome) → IsNumbered core built → reported ≡ sources → RanBuilt input out room fuel (IsOfModule built.positions sources) outcome → RanBuilt input out room fuel (IsOfModule (program_positions core) reported) outcome
ran_of input out room fuel core built sources reported outcome numbered same ran =
    subst (λ (texts : Sources). RanBuilt input out room fuel (IsOfModule (program_positions core) texts) outcome) (sym same)
    (subst (λ (positions : List Pos). RanBuilt input out room fuel (IsOfModule positions sources) outcome) numbered.positions ran)

-- what a run that ended so shows
shows_of : (IsCause : Cause → Cause → Type 0) (fuel : ℕ) (ended : RunEnd) (run : RunResult) (outcome : Outcome) → ended ≡ ended_of fuel run → IsCause ended.cause outcome.cause → outcome.done ≡ ended.done → ((steps : ℕ) → outcome.steps ≡ Some steps → steps ≡ ended.steps) → Shows fuel IsCause outcome run
shows_of IsCause fuel ended run outcome is cause done steps = record {
  cause = subst (λ of_module. IsCause of_module outcome.cause) (ap (λ (e : RunEnd). e.cause) is) cause;
  done = done ∙ ap (λ (e : RunEnd). e.done) is;
  steps = λ k reported. steps k reported ∙ ap (λ (e : RunEnd). e.steps) is;
}

-- the outcome of a run that ended so is that of the run
pub shown : (input : HostPart Input) (out : HostPart (List ℕ)) (IsCause : Cause → Cause → Type 0) (bytes : List ℕ) (pages : Option ℕ) (fuel : ℕ) (ended : RunEnd) (run : RunResult) (outcome : Outcome) → ended ≡ ended_of fuel run → IsRunBounded input out pages bytes fuel run → outcome.«module».items ≡ bytes → IsCause ended.cause outcome.cause → outcome.done ≡ ended.done → ((steps : ℕ) → outcome.steps ≡ Some steps → steps ≡ ended.steps) → Ran input out pages fuel IsCause outcome
shown input out IsCause bytes pages fuel ended run outcome is ran same cause done steps = (
  run,
  subst (λ reported. IsRunBounded input out pages reported fuel run) (sym same) ran,
  shows_of IsCause fuel ended run outcome is cause done steps,
)

-- what is said of a valid module is said of the bytes that spell it
says_spelled : (bytes : List ℕ) (m : Module) (given : Answer) → SpellsModule bytes m → IsValid m → SaysOfValid m given → SaysOf bytes given
says_spelled bytes m answer.Malformed spelled valid says = absurd says
says_spelled bytes m (answer.Invalid func) spelled valid says = absurd says
says_spelled bytes m (answer.Unlinked import) spelled valid says = (m, spelled, valid, says)
says_spelled bytes m answer.Segment spelled valid says = (m, spelled, valid, says)
says_spelled bytes m (answer.Ended value) spelled valid says = (m, spelled, valid, says)
says_spelled bytes m (answer.Stopped code site) spelled valid says = (m, spelled, valid, says)
says_spelled bytes m (answer.Trap kind) spelled valid says = (m, spelled, valid, says)
says_spelled bytes m answer.TooDeep spelled valid says = (m, spelled, valid, says)
says_spelled bytes m answer.Spent spelled valid says = (m, spelled, valid, says)
says_spelled bytes m answer.InFault spelled valid says = (m, spelled, valid, says)
says_spelled bytes m answer.OutFault spelled valid says = (m, spelled, valid, says)
says_spelled bytes m answer.NoMemory spelled valid says = tt

-- the run of a module is that of the bytes that spell it
run_spelled : (input : HostPart Input) (out : HostPart (List ℕ)) (bytes : List ℕ) (m : Module) (fuel : ℕ) (run : RunResult) → SpellsModule bytes m → IsValid m → IsRunOfModule input out m fuel run → IsRunOf input out bytes fuel run
run_spelled input out bytes m fuel run spelled valid ran = record {
  says = says_spelled bytes m run.answer spelled valid ran.says;
  reported = ran.reported;
  within = ran.within;
  ran = run-spelled bytes m fuel run (streams input.before out.before) (streams input.after out.after) spelled ran.ran;
}

-- the outcome of a module that was verified, and ended so, is that of the run
pub shown_built : (input : HostPart Input) (out : HostPart (List ℕ)) (IsCause : Cause → Cause → Type 0) (built : BuiltModule) (fuel : ℕ) (ended : RunEnd) (run : RunResult) (outcome : Outcome) → IsVerified built → ended ≡ ended_of fuel run → IsRunOfModule input out built.«module» fuel run → outcome.«module».items ≡ built.bytes.items → IsCause ended.cause outcome.cause → outcome.done ≡ ended.done → ((steps : ℕ) → outcome.steps ≡ Some steps → steps ≡ ended.steps) → (room : ℕ) → IsConfined room built.«module» → RanBuilt input out room fuel IsCause outcome
shown_built input out IsCause built fuel ended run outcome tried is ran same cause done steps room confined =
    let spelled : SpellsModule outcome.«module».items built.«module» = rw same tried.spelled in
    record {
      built = built.«module»;
      spelled = spelled;
      runnable = tried.runnable;
      confined = confined;
      run = run;
      of_module = ran;
      of_bytes = run_spelled input out outcome.«module».items built.«module» fuel run spelled tried.runnable.valid ran;
      shows = shows_of IsCause fuel ended run outcome is cause done steps;
    }

-- the outcome of a traced module that was verified is that of its run
pub traced : (input : HostPart Input) (out err : HostPart (List ℕ)) (IsCause : Cause → Cause → Type 0) (built : BuiltModule) (sources : Sources) (given sites : List Pos) (fuel : ℕ) (run : RunResult) (framed : List ℕ) (outcome : Outcome) → IsVerified built → IsRunOfModule input (framed_output out framed) built.«module» fuel run → given ≡ sites → AreReported given sources framed (sinks_of out err outcome.listening) run.answer → outcome.sources ≡ sources → outcome.«module».items ≡ built.bytes.items → IsCause (cause_of fuel run.answer) outcome.cause → outcome.done ≡ done_of run.answer → ((steps : ℕ) → outcome.steps ≡ Some steps → steps ≡ run.steps) → (room : ℕ) → IsConfined room built.«module» → RanTraced input out err room fuel IsCause sites outcome
traced input out err IsCause built sources given sites fuel run framed outcome tried ran same_sites reported same_sources same cause done steps room confined =
    let spelled : SpellsModule outcome.«module».items built.«module» = rw same tried.spelled in
    let of_sites = subst (λ (positions : List Pos). AreReported positions sources framed (sinks_of out err outcome.listening) run.answer) same_sites reported in
    record {
      framed = framed;
      ran = record {
        built = built.«module»;
        spelled = spelled;
        runnable = tried.runnable;
        confined = confined;
        run = run;
        of_module = ran;
        of_bytes = run_spelled input (framed_output out framed) outcome.«module».items built.«module» fuel run spelled tried.runnable.valid ran;
        shows = shows_of IsCause fuel (ended_of fuel run) run outcome refl cause done steps;
      };
      reported = subst (λ (texts : Sources). AreReported sites texts framed (sinks_of out err outcome.listening) run.answer) (sym same_sources) of_sites;
    }

-- the positions and the sites of the module are those of this AST, and these are the texts of a report
pub traced_of : (input : HostPart Input) (out err : HostPart (List ℕ)) (room fuel : ℕ) (core : TypedProgram) (built : BuiltModule) (sources reported : Sources) (outcome : Outcome) → IsNumbered core built → reported ≡ sources → RanTraced input out err room fuel (IsOfModule built.positions sources) built.sites outcome → RanTraced input out err room fuel (IsOfModule (program_positions core) reported) (program_sites core) outcome
traced_of input out err room fuel core built sources reported outcome numbered same ran =
    subst (λ (texts : Sources). RanTraced input out err room fuel (IsOfModule (program_positions core) texts) (program_sites core) outcome) (sym same)
    (subst (λ (sites : List Pos). RanTraced input out err room fuel (IsOfModule (program_positions core) sources) sites outcome) numbered.sites
    (subst (λ (positions : List Pos). RanTraced input out err room fuel (IsOfModule positions sources) built.sites outcome) numbered.positions ran))

-- a run with an input of no bytes and a sink of its own
pub apart : (IsCause : Cause → Cause → Type 0) (room fuel : ℕ) (given left : Input) (had output : List ℕ) (outcome : Outcome) → given ≡ record { left = []; ends = 0 } → had ≡ [] → RanBuilt (sure given left) (sure had output) room fuel IsCause outcome → RanBuilt (empty_input left) (own_sink output) room fuel IsCause outcome
apart IsCause room fuel given left had output outcome empty none ran =
    subst (λ input. RanBuilt (sure input left) (own_sink output) room fuel IsCause outcome) empty
    (subst (λ taken. RanBuilt (sure given left) (sure taken output) room fuel IsCause outcome) none ran)

-- where memory runs out before the arguments are read nothing is done, whatever they are
pub idle : (outside : HostState) (line : Option Line) (outcome : Outcome) → DoesNothing outside outcome cause.NoMemory → Obeys outside line outcome
idle outside None outcome nothing = inr nothing
idle outside (Some line) outcome nothing = inl nothing
