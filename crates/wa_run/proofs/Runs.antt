-- What the answer of a run says of it, from what a call of the machine made.
use Rattle.std.proofs.Common.{◌≡◌, ◌≢◌, ◌⊎◌, inl, inr, false, ℕ, ◌≤◌, List, [], ◌∷◌, ◌++◌, take, Option, Some, None, refl, sym, ap, subst, ◌∙◌, zero-add, arith, append_assoc, append-nil}
use Rattle.std.specs.Prelude.{option_map}
use Rattle.std.proofs.lemmas.Option.{none-some, same_Some}
use Rattle.host_io.specs.declared.source.Take.{Take}
use Rattle.host_io.specs.declared.source.Take.TheVariants as taken
use Rattle.host_io.specs.Input as source
use Rattle.host_io.specs.Output.{Took}
use Rattle.wa_syntax.specs.declared.module.Module.{Module}
use Rattle.wa_syntax.specs.Binary.{SpellsModule}
use Rattle.wa_syntax.specs.Machine.{Input, Halt}
use Rattle.wa_syntax.specs.Machine as standard
use Rattle.wa_syntax.specs.Runs.{IsLinked, SegmentsFit, machine_run}
use Rattle.wa_syntax.specs.Runs as runs
use Rattle.wa_syntax.specs.ValidModule.{IsValid}
use Rattle.wa_flatten.specs.Layouts.{Layout}
use Rattle.wa_exec.specs.declared.halt.Halt.TheVariants as halt
use Rattle.wa_exec.specs.declared.halt.Halt as machine
use Rattle.wa_exec.specs.declared.halt.StartFault.{StartFault}
use Rattle.wa_exec.specs.declared.halt.StartFault.TheVariants as start
use Rattle.wa_exec.specs.Goes.{first}
use Rattle.wa_exec.specs.Links.{IsUnstartable}
use Rattle.wa_exec.specs.Machines.{Flat, Represents}
use Rattle.wa_exec.specs.Interaction.{Any, Did, Makes, Sides}
use Rattle.wa_exec.specs.Reading.{Gave, AreRead, Reads, Fails, input_left}
use Rattle.wa_exec.proofs.Outside.{answers-read}
use Rattle.wa_exec.proofs.InAndOut.{Shrinks}
use Rattle.wa_exec.proofs.WholeRuns.{ends-run, ends-front, waits-run, waits-front, cut-front, whole-shrinks}
use Rattle.wa_exec.specs.Describes.{Faults, Describes}
use Rattle.wa_run.specs.Answers.{IsBeforeRun, answer_of_halt, answer_of_start}
use Rattle.wa_run.specs.declared.answer.Answer.{Answer}
use Rattle.wa_run.specs.declared.answer.Answer.TheVariants as answer
use Rattle.wa_run.specs.declared.module_run.RunResult.{RunResult}
use Rattle.wa_run.specs.Runs.{IsAnswered, IsClosed, IsFront, IsFlushed, IsRun, Transcript, HasRun, HasRunModule, Streams, IsStandardRun, IsStandardModuleRun, halt_of, input_of, streams}

-- ---- what a sink takes

took-more : (a b c : Option (List ℕ)) (first more : List ℕ) → Took a b first → Took b c more → Took a c (first ++ more)
took-more None b c first more one two = two ∙ ap (option_map (λ (taken : List ℕ). taken ++ more)) one
took-more (Some given) b c first more one two =
    two ∙ ap (option_map (λ (taken : List ℕ). taken ++ more)) one ∙ ap Some (append_assoc given first more)

took-none : (a b : Option (List ℕ)) → b ≡ a → Took a b []
took-none None b is = is
took-none (Some given) b is = is ∙ ap Some (sym (append-nil given))

-- ---- where nothing is run

pub nothing-passed : (here there : Streams) (Holds : List Take → List ℕ → Type 0) → there.input ≡ here.input → there.output ≡ here.output → Holds [] [] → Transcript here there Holds
nothing-passed here there Holds input output holds =
    record { answers = []; gave = input; read = answers-read [] None None false false refl refl; delivered = []; took = took-none here.output there.output output; holds = holds }

pub not-started : (m : Module) (fuel steps : ℕ) (fault : StartFault) → IsAnswered m [] [] fuel (answer_of_start fault) steps
not-started m fuel steps (start.Unlinked import) = (refl, refl)
not-started m fuel steps start.Segment = (refl, refl)
not-started m fuel steps start.NoMemory = λ input rest most reads within.
    (subst (λ (i : Input). Shrinks i (input_left m input most)) (sym reads) (whole-shrinks m input most), ((machine_run m input most).output, refl))

pub before-run : (m : Module) (fuel steps : ℕ) (given : Answer) → IsBeforeRun given ⊎ (given ≡ answer.NoMemory) → IsAnswered m [] [] fuel given steps
before-run m fuel steps given (inr is) = subst (λ (a : Answer). IsAnswered m [] [] fuel a steps) (sym is) (not-started m fuel steps start.NoMemory)
before-run m fuel steps answer.Malformed (inl before) = (refl, refl)
before-run m fuel steps (answer.Invalid func) (inl before) = (refl, refl)
before-run m fuel steps (answer.Unlinked import) (inl before) = (refl, refl)
before-run m fuel steps answer.Segment (inl before) = (refl, refl)
before-run m fuel steps (answer.Ended value) (inl before) = absurd before
before-run m fuel steps (answer.Stopped code site) (inl before) = absurd before
before-run m fuel steps (answer.Trap kind) (inl before) = absurd before
before-run m fuel steps answer.TooDeep (inl before) = absurd before
before-run m fuel steps answer.Spent (inl before) = absurd before
before-run m fuel steps answer.InFault (inl before) = absurd before
before-run m fuel steps answer.OutFault (inl before) = absurd before
before-run m fuel steps answer.NoMemory (inl before) = absurd before

-- ---- where it is run

-- what a run sees of both sides of a machine
abbrev pub seen : Sides → Streams
seen s = streams s.input s.output

-- the fuel is spent where a call says so
pub spent-at : (h : machine.Halt) (before after : Faults) (steps fuel : ℕ) → Describes h before after steps fuel → steps ≤ fuel → h ≡ halt.Spent → steps ≡ fuel
spent-at h before after steps fuel reports within is =
    let past : fuel ≤ steps = subst (λ (x : machine.Halt). Describes x before after steps fuel) is reports in
    omega (arith, past, within)

module _ (m : Module) (fuel steps : ℕ) (result : Answer) (answers : List Take) (delivered left : List ℕ) (here mid there : Streams) (gave : Gave answers here.input mid.input) (read : AreRead answers) (took : Took here.output mid.output delivered) (input_is : there.input ≡ mid.input) where
  abbrev Goal : Type 0
  Goal = Transcript here there (λ answers delivered. IsAnswered m answers delivered fuel result steps)

  passed : (more : List ℕ) → Took mid.output there.output more → IsAnswered m answers (delivered ++ more) fuel result steps → Goal
  passed more took_more holds = record {
    answers = answers;
    gave = subst (λ (i : Option source.Input). Gave answers here.input i) (sym input_is) gave;
    read = read;
    delivered = delivered ++ more;
    took = took-more here.output mid.output there.output delivered more took took_more;
    holds = holds;
  }

  is-fault : (bytes : List ℕ) → (result ≡ answer.OutFault) ⊎ (result ≡ answer.NoMemory) → IsFront m answers bytes steps → IsAnswered m answers bytes fuel result steps
  is-fault bytes (inl is) front = subst (λ (a : Answer). IsAnswered m answers bytes fuel a steps) (sym is) front
  is-fault bytes (inr is) front = subst (λ (a : Answer). IsAnswered m answers bytes fuel a steps) (sym is) front

  -- all that is buffered is flushed, or a prefix of it
  delivered-on : (given : Answer) → IsFlushed given result left mid.output there.output → IsAnswered m answers (delivered ++ left) fuel given steps → (left ≢ [] → (k : ℕ) → IsFront m answers (delivered ++ take k left) steps) → Goal
  delivered-on given (inl (is, all)) whole front =
      passed left all (subst (λ (a : Answer). IsAnswered m answers (delivered ++ left) fuel a steps) (sym is) whole)
  delivered-on given (inr (some, fault, (k, part))) whole front = passed (take k left) part (is-fault (delivered ++ take k left) fault (front some k))

  -- nothing more is flushed
  cut-off : (given : Answer) → (given ≡ answer.OutFault) ⊎ (given ≡ answer.NoMemory) → (result ≡ given) × (there.output ≡ mid.output) → IsFront m answers delivered steps → Goal
  cut-off given fault (is, same) front =
      passed [] (took-none mid.output there.output same)
      (subst (λ (bytes : List ℕ). IsAnswered m answers bytes fuel result steps) (sym (append-nil delivered)) (is-fault delivered (of fault) front))
    where
      of : (given ≡ answer.OutFault) ⊎ (given ≡ answer.NoMemory) → (result ≡ answer.OutFault) ⊎ (result ≡ answer.NoMemory)
      of (inl e) = inl (is ∙ e)
      of (inr e) = inr (is ∙ e)

module _ (m : Module) (valid : IsValid m) (linked : IsLinked m) (row : Layout) (flat new : Flat) (begins : (input : Input) → Represents m row flat (first m input)) (fuel steps : ℕ) (within : steps ≤ fuel) (result : Answer) (answers : List Take) (delivered left : List ℕ) (here mid there : Streams) (gave : Gave answers here.input mid.input) (read : AreRead answers) (took : Took here.output mid.output delivered) (input_is : there.input ≡ mid.input) where
  made : (h : machine.Halt) → Did m row (Some h) flat new steps answers [] delivered left → (h ≡ halt.Spent → steps ≡ fuel) → IsClosed (answer_of_halt h) result left mid.output there.output → Goal m fuel steps result answers delivered left here mid there gave read took input_is
  made (halt.Ended value) did spent closed = delivered-on m fuel steps result answers delivered left here mid there gave read took input_is (answer.Ended value) closed
      (λ input rest reads comes. ends-run m valid linked row flat begins steps answers delivered left (standard.Ended value) Any did input rest fuel reads comes within)
      (λ some k input rest most reads more. ends-front m valid linked row flat begins steps answers delivered left (standard.Ended value) Any did k input rest most reads tt more)
  made (halt.Stopped code site) did spent closed = delivered-on m fuel steps result answers delivered left here mid there gave read took input_is (answer.Stopped code site) closed
      (λ input rest reads comes. ends-run m valid linked row flat begins steps answers delivered left (standard.Stopped code site) Any did input rest fuel reads comes within)
      (λ some k input rest most reads more. ends-front m valid linked row flat begins steps answers delivered left (standard.Stopped code site) Any did k input rest most reads tt more)
  made (halt.Trap kind) did spent closed = delivered-on m fuel steps result answers delivered left here mid there gave read took input_is (answer.Trap kind) closed
      (λ input rest reads comes. ends-run m valid linked row flat begins steps answers delivered left (standard.Trap kind) Any did input rest fuel reads comes within)
      (λ some k input rest most reads more. ends-front m valid linked row flat begins steps answers delivered left (standard.Trap kind) Any did k input rest most reads tt more)
  made halt.TooDeep did spent closed = delivered-on m fuel steps result answers delivered left here mid there gave read took input_is answer.TooDeep closed
      (λ input rest reads comes. ends-run m valid linked row flat begins steps answers delivered left standard.TooDeep Any did input rest fuel reads comes within)
      (λ some k input rest most reads more. ends-front m valid linked row flat begins steps answers delivered left standard.TooDeep Any did k input rest most reads tt more)
  made halt.InFault did spent closed = delivered-on m fuel steps result answers delivered left here mid there gave read took input_is answer.InFault closed
      (λ input rest reads comes. ends-run m valid linked row flat begins steps answers delivered left standard.InFault Fails did.0 input rest fuel reads comes within)
      (λ some k. absurd (some did.1))
  made halt.Spent did spent closed = delivered-on m fuel steps result answers delivered left here mid there gave read took input_is answer.Spent closed
      (λ input rest reads comes.
      subst (λ (n : ℕ). (machine_run m input n ≡ record { halt = standard.Running; steps = steps; output = delivered ++ left }) × (input_left m input n ≡ rest)) (spent refl)
      (waits-run m valid linked row flat begins steps answers delivered left new did input rest reads))
      (λ some k input rest most reads more. waits-front m valid linked row flat begins steps answers delivered left new did k input rest most reads more)
  made halt.OutFault did spent closed = cut-off m fuel steps result answers delivered left here mid there gave read took input_is answer.OutFault (inl refl) closed
      (λ input rest most reads more. cut-front m valid linked row flat begins steps answers delivered left did input rest most reads more)
  made halt.NoMemory did spent closed = cut-off m fuel steps result answers delivered left here mid there gave read took input_is answer.NoMemory (inr refl) closed
      (λ input rest most reads more. cut-front m valid linked row flat begins steps answers delivered left did.0 input rest most reads more)

-- a call of a machine that has made no step, and the flush of what is buffered after it
pub run-passed : (m : Module) → IsValid m → IsLinked m → (row : Layout) (flat new : Flat) → ((input : Input) → Represents m row flat (first m input)) → (fuel steps : ℕ) → steps ≤ fuel → (h : machine.Halt) → (h ≡ halt.Spent → steps ≡ fuel) → (result : Answer) (held left : List ℕ) (here mid : Sides) (there : Streams) → held ≡ [] → Makes m row flat new 0 steps (Some h) here mid held left → IsClosed (answer_of_halt h) result left mid.output there.output → there.input ≡ mid.input → Transcript (seen here) there (λ answers delivered. IsAnswered m answers delivered fuel result steps)
run-passed m valid linked row flat new begins fuel steps within h spent result held left here mid there none makes closed input_is =
    let at : makes.n ≡ steps = sym (zero-add makes.n) ∙ makes.steps_are in
    made m valid linked row flat new begins fuel steps within result makes.answers makes.delivered left (seen here) (seen mid) there makes.gave makes.read makes.took input_is h
    (subst (λ (n : ℕ). Did m row (Some h) flat new n makes.answers [] makes.delivered left) at
    (subst (λ (bytes : List ℕ). Did m row (Some h) flat new makes.n makes.answers bytes makes.delivered left) none makes.did))
    spent closed

-- ---- the module that the bytes spell

pub passed-spelled : (bytes : List ℕ) (m : Module) (fuel : ℕ) (run : RunResult) (before after : Streams) → ((n : Module) → SpellsModule bytes n → n ≡ m) → HasRunModule m fuel run before after → HasRun bytes fuel run before after
passed-spelled bytes m fuel run before after only passed = record {
  answers = passed.answers;
  gave = passed.gave;
  read = passed.read;
  delivered = passed.delivered;
  took = passed.took;
  holds = λ n spelled. subst (λ (x : Module). IsAnswered x passed.answers passed.delivered fuel run.answer run.steps) (sym (only n spelled)) passed.holds;
}

-- ---- where the source says what it has left

-- what is left of it
abbrev left_of : Option source.Input → Option (List ℕ)
left_of = option_map (λ (i : source.Input). i.left)

reported-reads : (answers : List Take) (given : source.Input) (after : Option source.Input) → Gave answers (Some given) after → (rest : Input) × Reads (input_of given) answers rest × (left_of after ≡ Some rest.bytes)
reported-reads [] given after gave = (input_of given, refl, ap left_of gave)
reported-reads (taken.Byte b ∷ more) given after (middle, (left, here, there), gave) =
    let next = reported-reads more (record { left = left; ends = given.ends }) after (subst (λ (o : Option source.Input). Gave more o after) there gave) in
    (next.0, (left, here, next.1), next.2)
reported-reads (taken.End ∷ more) given after (middle, (none, there), gave) =
    let next = reported-reads more _ after (subst (λ (o : Option source.Input). Gave more o after) there gave) in
    (next.0, (None, ap (λ (bytes : List ℕ). record { bytes = bytes; ends = None }) none, next.1), next.2)
reported-reads (taken.Failed ∷ more) given after gave = absurd gave

answered-run : (m : Module) (answers : List Take) (delivered : List ℕ) (fuel steps : ℕ) (given : Answer) (h : Halt) → halt_of given ≡ Some h → IsAnswered m answers delivered fuel given steps → IsRun m answers delivered fuel h steps Any
answered-run m answers delivered fuel steps answer.Malformed h is holds = absurd (none-some h is)
answered-run m answers delivered fuel steps (answer.Invalid func) h is holds = absurd (none-some h is)
answered-run m answers delivered fuel steps (answer.Unlinked import) h is holds = absurd (none-some h is)
answered-run m answers delivered fuel steps answer.Segment h is holds = absurd (none-some h is)
answered-run m answers delivered fuel steps (answer.Ended value) h is holds = subst (λ (x : Halt). IsRun m answers delivered fuel x steps Any) (same_Some (standard.Ended value) h is) holds
answered-run m answers delivered fuel steps (answer.Stopped code site) h is holds = subst (λ (x : Halt). IsRun m answers delivered fuel x steps Any) (same_Some (standard.Stopped code site) h is) holds
answered-run m answers delivered fuel steps (answer.Trap kind) h is holds = subst (λ (x : Halt). IsRun m answers delivered fuel x steps Any) (same_Some (standard.Trap kind) h is) holds
answered-run m answers delivered fuel steps answer.TooDeep h is holds = subst (λ (x : Halt). IsRun m answers delivered fuel x steps Any) (same_Some standard.TooDeep h is) holds
answered-run m answers delivered fuel steps answer.Spent h is holds = subst (λ (x : Halt). IsRun m answers delivered fuel x steps Any) (same_Some standard.Running h is) holds
answered-run m answers delivered fuel steps answer.InFault h is holds = absurd (none-some h is)
answered-run m answers delivered fuel steps answer.OutFault h is holds = absurd (none-some h is)
answered-run m answers delivered fuel steps answer.NoMemory h is holds = absurd (none-some h is)

pub run-reported : (m : Module) (fuel : ℕ) (run : RunResult) (before after : Streams) → HasRunModule m fuel run before after → IsStandardModuleRun m fuel run before after
run-reported m fuel run before after has given h reports is =
    let reads = reported-reads has.answers given after.input (subst (λ (o : Option source.Input). Gave has.answers o after.input) reports has.gave) in
    let both = answered-run m has.answers has.delivered fuel run.steps run.answer h is has.holds (input_of given) reads.0 reads.1 tt in
    let whole = both.0 in (
      ap (λ (r : runs.Run). r.halt) whole,
      ap (λ (r : runs.Run). r.steps) whole,
      subst (λ (output : List ℕ). Took before.output after.output output) (sym (ap (λ (r : runs.Run). r.output) whole)) has.took,
      reads.2 ∙ ap (λ (i : Input). Some i.bytes) (sym both.1),
    )

-- so of the module that the bytes spell
pub spelled-reported : (bytes : List ℕ) (fuel : ℕ) (run : RunResult) (before after : Streams) → HasRun bytes fuel run before after → IsStandardRun bytes fuel run before after
spelled-reported bytes fuel run before after has m spelled =
    run-reported m fuel run before after (record { answers = has.answers; gave = has.gave; read = has.read; delivered = has.delivered; took = has.took; holds = has.holds m spelled })

-- ---- a module that can be run

-- is started
pub starts : (m : Module) (fault : StartFault) → IsUnstartable m fault → IsLinked m → SegmentsFit m → IsBeforeRun (answer_of_start fault) → ⊥
starts m (start.Unlinked import) unstartable linked fit before = none-some import (sym linked ∙ unstartable)
starts m start.Segment unstartable linked fit before = unstartable.1 fit
starts m start.NoMemory unstartable linked fit before = before
