-- Calls of a machine, each with a sink of its own, as one run with one sink.
use Rattle.std.proofs.Common.{◌≡◌, ◌≢◌, ◌⊎◌, inl, inr, ◌≤◌, Bool, ℕ, List, [], ◌++◌, length, take, Option, Some, None, refl, sym, ap, subst, ◌∙◌, arith, append_assoc, append-nil, zero-add}
use Rattle.std.specs.Prelude.{option_map}
use Rattle.std.proofs.lemmas.Option.{same_Some}
use Rattle.std.proofs.Math.Seq.{take-length}
use Rattle.host_io.specs.declared.source.Take.{Take}
use Rattle.host_io.specs.Input as source
use Rattle.host_io.specs.Faults.{Rose}
use Rattle.host_io.specs.Output.{Took}
use Rattle.sa_trace.proofs.HandedOn.{took-none, took-more}
use Rattle.wa_syntax.specs.declared.module.Module.{Module}
use Rattle.wa_syntax.specs.Machine.{Input}
use Rattle.wa_syntax.specs.Machine as standard
use Rattle.wa_syntax.specs.Runs.{IsLinked}
use Rattle.wa_syntax.specs.ValidModule.{IsValid}
use Rattle.wa_flatten.specs.Codes.{layout_of}
use Rattle.wa_flatten.specs.Layouts.{Layout}
use Rattle.wa_exec.specs.declared.halt.Halt.{Halt}
use Rattle.wa_exec.specs.declared.halt.Halt.TheVariants as halt
use Rattle.wa_exec.specs.declared.link.Linked.{Linked}
use Rattle.wa_exec.specs.Goes.{first}
use Rattle.wa_exec.specs.Linking.{flat_of}
use Rattle.wa_exec.specs.Machines.{Flat, Represents}
use Rattle.wa_exec.specs.Interaction.{Any, Carried, Did, Makes, Sides, sides}
use Rattle.wa_exec.specs.Progress.{Progress, Runs}
use Rattle.wa_exec.specs.Reading.{AreRead, Gave}
use Rattle.wa_exec.specs.Describes.{Faults, Describes}
use Rattle.wa_exec.proofs.Outside.{Makes-then}
use Rattle.wa_exec.proofs.WholeRuns.{cut-front, ends-front, waits-front}
use Rattle.wa_run.specs.Answers.{IsOutage, IsFaultReported, answer_of_halt}
use Rattle.wa_run.specs.declared.answer.Answer.{Answer}
use Rattle.wa_run.specs.declared.answer.Answer.TheVariants as answer
use Rattle.wa_run.specs.Runs.{IsAnswered, IsClosed, IsFront, IsFlushed, Transcript, Streams, streams}
use Rattle.wa_run.proofs.Runs.{run-passed, seen}
use Rattle.sa_trace_run.specs.Stretches.{Beginning, CameTo, GoesOn}

-- what was put before comes before what a call puts
abbrev following : (before : List ℕ) → Sides → (output : List ℕ) → Sides
following before s output = sides s.input s.ended (Some (before ++ output))

module _ (m : Module) (row : Layout) where
  -- a call with an empty sink is one with a sink that has taken something
  pub moved : (old new : Flat) (start steps : ℕ) (halted : Option Halt) (here there : Sides) (held left before output : List ℕ) → here.output ≡ Some [] → there.output ≡ Some output → Makes m row old new start steps halted here there held left → Makes m row old new start steps halted (sides here.input here.ended (Some before)) (following before there output) held left
  moved old new start steps halted here there held left before output empty taken makes =
      let took : Some output ≡ Some makes.delivered =
      sym taken ∙ makes.took ∙ ap (λ (o : Option (List ℕ)). option_map (λ (t : List ℕ). t ++ makes.delivered) o) empty
      in
      record {
        n = makes.n;
        steps_are = makes.steps_are;
        answers = makes.answers;
        gave = makes.gave;
        order = makes.order;
        read = makes.read;
        delivered = makes.delivered;
        took = ap (λ (bytes : List ℕ). Some (before ++ bytes)) (same_Some output makes.delivered took);
        did = makes.did;
      }

  -- a call that spent its fuel goes on, and what was held is written
  pub flushed : (old new : Flat) (start steps : ℕ) (here there : Sides) (held left output : List ℕ) → there.output ≡ Some output → Makes m row old new start steps (Some halt.Spent) here there held left → Makes m row old new start steps None here (sides there.input there.ended (Some (output ++ left))) held []
  flushed old new start steps here there held left output taken makes = record {
    n = makes.n;
    steps_are = makes.steps_are;
    answers = makes.answers;
    gave = makes.gave;
    order = makes.order;
    read = makes.read;
    delivered = makes.delivered ++ left;
    took = all here.output (sym taken ∙ makes.took);
    did = λ s rest front occurs safe reads output_is.
        subst (λ (bytes : List ℕ). Carried m row new makes.n rest bytes s) (append_assoc front makes.delivered left ∙ sym (append-nil (front ++ (makes.delivered ++ left))))
        (makes.did s rest front occurs safe reads output_is).carried;
  }
    where
      all : (o : Option (List ℕ)) → Some output ≡ option_map (λ (t : List ℕ). t ++ makes.delivered) o → Some (output ++ left) ≡ option_map (λ (t : List ℕ). t ++ (makes.delivered ++ left)) o
      all None is = ap (option_map (λ (t : List ℕ). t ++ left)) is
      all (Some t) is = ap (option_map (λ (x : List ℕ). x ++ left)) is ∙ ap Some (append_assoc t makes.delivered left)

took-moved : (before output whole more : List ℕ) → Took (Some output) (Some whole) more → Took (Some (before ++ output)) (Some (before ++ whole)) more
took-moved before output whole more took = ap (option_map (λ (t : List ℕ). before ++ t)) took ∙ ap Some (sym (append_assoc before output more))

delivered-moved : (given result : Answer) (left before output whole : List ℕ) → IsFlushed given result left (Some output) (Some whole) → IsFlushed given result left (Some (before ++ output)) (Some (before ++ whole))
delivered-moved given result left before output whole (inl (is, took)) = inl (is, took-moved before output whole left took)
delivered-moved given result left before output whole (inr (some, fault, (k, took))) = inr (some, fault, (k, took-moved before output whole (take k left) took))

-- what is written after a call is written after all of them
pub closed-moved : (given result : Answer) (left before output whole : List ℕ) → IsClosed given result left (Some output) (Some whole) → IsClosed given result left (Some (before ++ output)) (Some (before ++ whole))
closed-moved answer.OutFault result left before output whole (is, same) = (is, ap (option_map (λ (t : List ℕ). before ++ t)) same)
closed-moved answer.NoMemory result left before output whole (is, same) = (is, ap (option_map (λ (t : List ℕ). before ++ t)) same)
closed-moved answer.Malformed result left before output whole closed = delivered-moved answer.Malformed result left before output whole closed
closed-moved (answer.Invalid func) result left before output whole closed = delivered-moved (answer.Invalid func) result left before output whole closed
closed-moved (answer.Unlinked import) result left before output whole closed = delivered-moved (answer.Unlinked import) result left before output whole closed
closed-moved answer.Segment result left before output whole closed = delivered-moved answer.Segment result left before output whole closed
closed-moved (answer.Ended value) result left before output whole closed = delivered-moved (answer.Ended value) result left before output whole closed
closed-moved (answer.Stopped code site) result left before output whole closed = delivered-moved (answer.Stopped code site) result left before output whole closed
closed-moved (answer.Trap kind) result left before output whole closed = delivered-moved (answer.Trap kind) result left before output whole closed
closed-moved answer.TooDeep result left before output whole closed = delivered-moved answer.TooDeep result left before output whole closed
closed-moved answer.Spent result left before output whole closed = delivered-moved answer.Spent result left before output whole closed
closed-moved answer.InFault result left before output whole closed = delivered-moved answer.InFault result left before output whole closed

-- ---- the answers that aren't Spent

abbrev IsOther : Answer → Type 0
IsOther answer.Spent = ⊥
IsOther _ = Unit {0}

other : (given : Answer) → IsOther given → given ≡ answer.Spent → ⊥
other given is same = subst IsOther same is

abbrev IsOtherHalt : Halt → Type 0
IsOtherHalt halt.Spent = ⊥
IsOtherHalt _ = Unit {0}

other-halt : (h : Halt) → IsOtherHalt h → h ≡ halt.Spent → ⊥
other-halt h is same = subst IsOtherHalt same is

-- nor is what an outage makes of an answer
pub outage-other : (given : Answer) → (given ≡ answer.OutFault) ⊎ (given ≡ answer.NoMemory) → given ≡ answer.Spent → ⊥
outage-other given (inl is) same = other answer.OutFault tt (sym is ∙ same)
outage-other given (inr is) same = other answer.NoMemory tt (sym is ∙ same)

delivered-other : (given result : Answer) (left : List ℕ) (before after : Option (List ℕ)) → IsOther given → IsFlushed given result left before after → result ≡ answer.Spent → ⊥
delivered-other given result left before after is (inl (same, took)) spent = other given is (sym same ∙ spent)
delivered-other given result left before after is (inr (some, fault, front)) spent = outage-other result fault spent

pub fault-other : answer.InFault ≡ answer.Spent → ⊥
fault-other same = other answer.InFault tt same

abbrev IsNoInFault : Answer → Type 0
IsNoInFault answer.InFault = ⊥
IsNoInFault _ = Unit {0}

outage-no-input : (given : Answer) → (given ≡ answer.OutFault) ⊎ (given ≡ answer.NoMemory) → given ≢ answer.InFault
outage-no-input given (inl is) same = subst IsNoInFault (sym is ∙ same) tt
outage-no-input given (inr is) same = subst IsNoInFault (sym is ∙ same) tt

-- where what is held is written after a halt, and the answer is Spent, the halt is
pub closed-spent : (h : Halt) (result : Answer) (left : List ℕ) (before after : Option (List ℕ)) → IsClosed (answer_of_halt h) result left before after → result ≡ answer.Spent → h ≡ halt.Spent
closed-spent (halt.Ended value) result left before after closed spent = absurd (delivered-other (answer.Ended value) result left before after tt closed spent)
closed-spent (halt.Stopped code site) result left before after closed spent = absurd (delivered-other (answer.Stopped code site) result left before after tt closed spent)
closed-spent (halt.Trap kind) result left before after closed spent = absurd (delivered-other (answer.Trap kind) result left before after tt closed spent)
closed-spent halt.Spent result left before after closed spent = refl
closed-spent halt.TooDeep result left before after closed spent = absurd (delivered-other answer.TooDeep result left before after tt closed spent)
closed-spent halt.InFault result left before after closed spent = absurd (delivered-other answer.InFault result left before after tt closed spent)
closed-spent halt.OutFault result left before after closed spent = absurd (other answer.OutFault tt (sym closed.0 ∙ spent))
closed-spent halt.NoMemory result left before after closed spent = absurd (other answer.NoMemory tt (sym closed.0 ∙ spent))

-- ---- what an answer says of the input, where the sink never fails

rose-none : Rose 0 0 → ⊥
rose-none (inl less) = omega (arith, less)
rose-none (inr last) = omega (arith, last)

halt-reported : (h : Halt) (before after : Faults) (steps fuel : ℕ) → before.output ≡ 0 → after.output ≡ 0 → Describes h before after steps fuel → IsFaultReported (answer_of_halt h) (Rose before.input after.input) ⊥
halt-reported (halt.Ended value) before after steps fuel old new reports = tt
halt-reported (halt.Stopped code site) before after steps fuel old new reports = tt
halt-reported (halt.Trap kind) before after steps fuel old new reports = tt
halt-reported halt.Spent before after steps fuel old new reports = tt
halt-reported halt.TooDeep before after steps fuel old new reports = tt
halt-reported halt.InFault before after steps fuel old new reports = reports
halt-reported halt.OutFault before after steps fuel old new reports =
    rose-none (subst (λ (n : ℕ). Rose n 0) old (subst (λ (n : ℕ). Rose before.output n) new reports))
halt-reported halt.NoMemory before after steps fuel old new reports = tt

outage-reported : (result : Answer) (input_failed : Type 0) → IsOutage result (Rose 0 0) → IsFaultReported result input_failed ⊥
outage-reported answer.Malformed input_failed is = absurd is
outage-reported (answer.Invalid func) input_failed is = absurd is
outage-reported (answer.Unlinked import) input_failed is = absurd is
outage-reported answer.Segment input_failed is = absurd is
outage-reported (answer.Ended value) input_failed is = absurd is
outage-reported (answer.Stopped code site) input_failed is = absurd is
outage-reported (answer.Trap kind) input_failed is = absurd is
outage-reported answer.TooDeep input_failed is = absurd is
outage-reported answer.Spent input_failed is = absurd is
outage-reported answer.InFault input_failed is = absurd is
outage-reported answer.OutFault input_failed is = rose-none is
outage-reported answer.NoMemory input_failed is = tt

pub stretch-reported : (h : Halt) (before after : Faults) (steps fuel : ℕ) (result : Answer) → before.output ≡ 0 → after.output ≡ 0 → Describes h before after steps fuel → (result ≡ answer_of_halt h) ⊎ IsOutage result (Rose 0 0) → IsFaultReported result (Rose before.input after.input) ⊥
stretch-reported h before after steps fuel result old new reports (inl is) =
    subst (λ (a : Answer). IsFaultReported a (Rose before.input after.input) ⊥) (sym is) (halt-reported h before after steps fuel old new reports)
stretch-reported h before after steps fuel result old new reports (inr is) = outage-reported result (Rose before.input after.input) is

-- ---- an outage after a stretch

module _ (m : Module) (valid : IsValid m) (linked : IsLinked m) (row : Layout) (flat new : Flat) (begins : (input : Input) → Represents m row flat (first m input)) (fuel steps : ℕ) (outage : Answer) (is_outage : (outage ≡ answer.OutFault) ⊎ (outage ≡ answer.NoMemory)) (answers : List Take) (delivered left : List ℕ) (here mid there : Streams) (gave : Gave answers here.input mid.input) (read : AreRead answers) (took : Took here.output mid.output delivered) (input_is : there.input ≡ mid.input) where
  abbrev IsCut : Type 0
  IsCut = Transcript here there (λ answers delivered. IsAnswered m answers delivered fuel outage steps)

  answered : (bytes : List ℕ) → IsFront m answers bytes steps → (given : Answer) → (given ≡ answer.OutFault) ⊎ (given ≡ answer.NoMemory) → IsAnswered m answers bytes fuel given steps
  answered bytes front given (inl is) = subst (λ (a : Answer). IsAnswered m answers bytes fuel a steps) (sym is) front
  answered bytes front given (inr is) = subst (λ (a : Answer). IsAnswered m answers bytes fuel a steps) (sym is) front

  cut-at : (more : List ℕ) → Took mid.output there.output more → IsFront m answers (delivered ++ more) steps → IsCut
  cut-at more took_more front = record {
    answers = answers;
    gave = subst (λ (i : Option source.Input). Gave answers here.input i) (sym input_is) gave;
    read = read;
    delivered = delivered ++ more;
    took = took-more here.output mid.output there.output delivered more took took_more;
    holds = answered (delivered ++ more) front outage is_outage;
  }

  -- after all that is held, or a prefix of it
  cut-on : (given result : Answer) → IsFlushed given result left mid.output there.output → ((k : ℕ) → IsFront m answers (delivered ++ take k left) steps) → IsCut
  cut-on given result (inl (is, all)) front =
      cut-at left all (subst (λ (bytes : List ℕ). IsFront m answers (delivered ++ bytes) steps) (take-length left) (front (length left)))
  cut-on given result (inr (some, fault, (k, part))) front = cut-at (take k left) part (front k)

  -- after none of it
  cut-off : there.output ≡ mid.output → IsFront m answers delivered steps → IsCut
  cut-off same front =
      cut-at [] (subst (λ (o : Option (List ℕ)). Took mid.output o []) (sym same) (took-none mid.output))
      (subst (λ (bytes : List ℕ). IsFront m answers bytes steps) (sym (append-nil delivered)) front)

  pub cut : (h : Halt) (result : Answer) → Did m row (Some h) flat new steps answers [] delivered left → IsClosed (answer_of_halt h) result left mid.output there.output → result ≢ answer.InFault → IsCut
  cut (halt.Ended value) result did closed not = cut-on (answer.Ended value) result closed
      (λ k input rest most reads within. ends-front m valid linked row flat begins steps answers delivered left (standard.Ended value) Any did k input rest most reads tt within)
  cut (halt.Stopped code site) result did closed not = cut-on (answer.Stopped code site) result closed
      (λ k input rest most reads within. ends-front m valid linked row flat begins steps answers delivered left (standard.Stopped code site) Any did k input rest most reads tt within)
  cut (halt.Trap kind) result did closed not = cut-on (answer.Trap kind) result closed
      (λ k input rest most reads within. ends-front m valid linked row flat begins steps answers delivered left (standard.Trap kind) Any did k input rest most reads tt within)
  cut halt.TooDeep result did closed not = cut-on answer.TooDeep result closed
      (λ k input rest most reads within. ends-front m valid linked row flat begins steps answers delivered left standard.TooDeep Any did k input rest most reads tt within)
  cut halt.Spent result did closed not = cut-on answer.Spent result closed
      (λ k input rest most reads within. waits-front m valid linked row flat begins steps answers delivered left new did k input rest most reads within)
  cut halt.InFault result did (inl (is, all)) not = absurd (not is)
  cut halt.InFault result did (inr (some, fault, front)) not = absurd (some did.1)
  cut halt.OutFault result did (is, same) not =
      cut-off same (λ input rest most reads within. cut-front m valid linked row flat begins steps answers delivered left did input rest most reads within)
  cut halt.NoMemory result did (is, same) not =
      cut-off same (λ input rest most reads within. cut-front m valid linked row flat begins steps answers delivered left did.0 input rest most reads within)

-- ---- the run up to the end of a stretch

module _ (b : Beginning) (new : Flat) (fuel steps : ℕ) (within : steps ≤ fuel) (left : List ℕ) (mid : Sides) (there : Streams) (input_is : there.input ≡ mid.input) where
  abbrev here : Sides
  here = sides b.input b.ended (Some [])

  -- an outage ends it
  pub run-cut : (h : Halt) (result : Answer) → Makes b.program b.row b.flat new 0 steps (Some h) here mid [] left → IsClosed (answer_of_halt h) result left mid.output there.output → result ≢ answer.InFault → (outage : Answer) → (outage ≡ answer.OutFault) ⊎ (outage ≡ answer.NoMemory) → Transcript (seen here) there (λ answers delivered. IsAnswered b.program answers delivered fuel outage steps)
  run-cut h result makes closed not outage is_outage =
      let at : makes.n ≡ steps = sym (zero-add makes.n) ∙ makes.steps_are in
      cut b.program b.valid b.linked b.row b.flat new b.begins fuel steps outage is_outage makes.answers makes.delivered left (seen here) (seen mid) there makes.gave makes.read makes.took input_is h result
      (subst (λ (n : ℕ). Did b.program b.row (Some h) b.flat new n makes.answers [] makes.delivered left) at makes.did) closed not

  ended : (h : Halt) (result : Answer) → Makes b.program b.row b.flat new 0 steps (Some h) here mid [] left → IsClosed (answer_of_halt h) result left mid.output there.output → (h ≡ halt.Spent → steps ≡ fuel) → Transcript (seen here) there (λ answers delivered. IsAnswered b.program answers delivered fuel result steps)
  ended h result makes closed spent =
      run-passed b.program b.valid b.linked b.row b.flat new b.begins fuel steps within h spent result [] left here mid there refl makes closed input_is

  -- it ends, or has spent its fuel
  pub run-whole : (h : Halt) (result : Answer) → Makes b.program b.row b.flat new 0 steps (Some h) here mid [] left → IsClosed (answer_of_halt h) result left mid.output there.output → (result ≡ answer.Spent → steps ≡ fuel) → Transcript (seen here) there (λ answers delivered. IsAnswered b.program answers delivered fuel result steps)
  run-whole (halt.Ended value) result makes closed spent = ended (halt.Ended value) result makes closed (λ same. absurd (other-halt (halt.Ended value) tt same))
  run-whole (halt.Stopped code site) result makes closed spent = ended (halt.Stopped code site) result makes closed (λ same. absurd (other-halt (halt.Stopped code site) tt same))
  run-whole (halt.Trap kind) result makes closed spent = ended (halt.Trap kind) result makes closed (λ same. absurd (other-halt (halt.Trap kind) tt same))
  run-whole halt.TooDeep result makes closed spent = ended halt.TooDeep result makes closed (λ same. absurd (other-halt halt.TooDeep tt same))
  run-whole halt.InFault result makes closed spent = ended halt.InFault result makes closed (λ same. absurd (other-halt halt.InFault tt same))
  run-whole halt.OutFault result makes closed spent = ended halt.OutFault result makes closed (λ same. absurd (other-halt halt.OutFault tt same))
  run-whole halt.NoMemory result makes closed spent = ended halt.NoMemory result makes closed (λ same. absurd (other-halt halt.NoMemory tt same))
  run-whole halt.Spent result makes (inl (is, all)) spent = ended halt.Spent result makes (inl (is, all)) (λ same. spent is)
  run-whole halt.Spent result makes (inr (some, fault, front)) spent =
      run-cut halt.Spent result makes (inr (some, fault, front)) (outage-no-input result fault) result fault

-- ---- a stretch after others

module _ (b : Beginning) (fuel : ℕ) (put : List ℕ) (old new : Progress) (held left kept mid taken : List ℕ) (from to : Option source.Input) (ended_before ended_after : Bool) (h : Halt) (result : Answer) (goes : GoesOn b old held from ended_before put) (makes : Makes b.program (layout_of old.linked.code) (flat_of old.state) (flat_of new.state) old.steps new.steps (Some h) (sides from ended_before (Some [])) (sides to ended_after (Some mid)) held left) (closed : IsClosed (answer_of_halt h) result left (Some mid) (Some taken)) where
  abbrev whole-sides : Sides
  whole-sides = sides to ended_after (Some (put ++ mid))

  all-makes : Makes b.program b.row b.flat (flat_of new.state) 0 new.steps (Some h) (sides b.input b.ended (Some [])) whole-sides [] left
  all-makes =
      let stretch =
      subst (λ (bytes : List ℕ). Makes b.program b.row (flat_of old.state) (flat_of new.state) old.steps new.steps (Some h) (sides from ended_before (Some [])) (sides to ended_after (Some mid)) bytes left) goes.none
      (subst (λ (row : Layout). Makes b.program row (flat_of old.state) (flat_of new.state) old.steps new.steps (Some h) (sides from ended_before (Some [])) (sides to ended_after (Some mid)) held left) goes.row_is makes)
      in
      Makes-then b.program b.row b.flat (flat_of old.state) (flat_of new.state) 0 old.steps new.steps (Some h)
      (sides b.input b.ended (Some [])) (sides from ended_before (Some put)) whole-sides [] [] left goes.makes
      (moved b.program b.row (flat_of old.state) (flat_of new.state) old.steps new.steps (Some h) (sides from ended_before (Some [])) (sides to ended_after (Some mid)) [] left put mid refl refl stretch)

  all-closed : IsClosed (answer_of_halt h) result left (Some (put ++ mid)) (Some (put ++ taken))
  all-closed = closed-moved (answer_of_halt h) result left put mid taken closed

  -- where the answer is Spent it goes on
  makes-on : (answer_spent : result ≡ answer.Spent) → Makes b.program b.row b.flat (flat_of new.state) 0 new.steps None (sides b.input b.ended (Some [])) (sides to ended_after (Some (put ++ taken))) [] []
  makes-on answer_spent =
      let is = closed-spent h result left (Some mid) (Some taken) closed answer_spent in
      on (subst (λ (x : Halt). Makes b.program b.row b.flat (flat_of new.state) 0 new.steps (Some x) (sides b.input b.ended (Some [])) whole-sides [] left) is all-makes)
      (subst (λ (x : Halt). IsClosed (answer_of_halt x) result left (Some (put ++ mid)) (Some (put ++ taken))) is all-closed)
    where
      on : Makes b.program b.row b.flat (flat_of new.state) 0 new.steps (Some halt.Spent) (sides b.input b.ended (Some [])) whole-sides [] left → IsFlushed answer.Spent result left (Some (put ++ mid)) (Some (put ++ taken)) → Makes b.program b.row b.flat (flat_of new.state) 0 new.steps None (sides b.input b.ended (Some [])) (sides to ended_after (Some (put ++ taken))) [] []
      on spends (inl (same, took)) =
          subst (λ (o : Option (List ℕ)). Makes b.program b.row b.flat (flat_of new.state) 0 new.steps None (sides b.input b.ended (Some [])) (sides to ended_after o) [] []) (sym took)
          (flushed b.program b.row b.flat (flat_of new.state) 0 new.steps (sides b.input b.ended (Some [])) whole-sides [] left (put ++ mid) refl spends)
      on spends (inr (some, fault, front)) = absurd (outage-other result fault answer_spent)

  pub came-to : new.steps ≤ fuel → (result ≡ answer.Spent → kept ≡ []) → (h ≢ halt.NoMemory → Runs b.program new) → new.linked ≡ old.linked → CameTo b fuel result new kept to ended_after (put ++ taken)
  came-to within empties runs linked = record {
    whole = λ spent. run-whole b (flat_of new.state) fuel new.steps within left whole-sides (streams to (Some (put ++ taken))) refl h result all-makes all-closed spent;
    cut = λ not outage is. run-cut b (flat_of new.state) fuel new.steps within left whole-sides (streams to (Some (put ++ taken))) refl h result all-makes all-closed not outage is;
    goes = λ spent. record {
      makes = makes-on spent;
      none = empties spent;
      runs = runs (λ same. absurd (subst IsOtherHalt (sym same ∙ closed-spent h result left (Some mid) (Some taken) closed spent) tt));
      row_is = ap (λ (l : Linked). layout_of l.code) linked ∙ goes.row_is;
    };
  }
