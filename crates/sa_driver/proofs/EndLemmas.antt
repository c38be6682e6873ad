-- The ends of commands.
use Rattle.std.proofs.Common.{◌≡◌, ◌∙◌, ◌≤◌, ◌⊎◌, ℕ, List, [], Option, None, Some, Result, Ok, Err, IfOk, inl, inr, refl, subst, sym}
use Rattle.std.specs.Prelude.{IfErr, MatchResult}
use Rattle.failure.specs.declared.invariant.Invariant.{Invariant}
use Rattle.host_io.specs.Faults.{Rose}
use Rattle.host_io.specs.Files.{Files, Writes}
use Rattle.host_io.proofs.Counts.{Rose-earlier}
use Rattle.sa_ast.specs.declared.pos.Pos.{Pos}
use Rattle.sa_ast.specs.declared.pos.Sources.{Sources}
use Rattle.sa_read.specs.Front.{AreSpelled}
use Rattle.sa_read.specs.SourceFiles.{IsReadAs}
use Rattle.sa_read.specs.declared.source_files.SourceFiles.{SourceFiles}
use Rattle.sa_correctness.specs.Confined.{IsConfined}
use Rattle.sa_correctness.specs.Runnable.{SpellsRunnable}
use Rattle.wa_syntax.specs.Binary.{SpellsModule}
use Rattle.sa_cli.specs.Line.{Check}
use Rattle.sa_cli.specs.declared.command.Contracts.{Contracts}
use Rattle.sa_cli.specs.declared.command.Detail.{Detail}
use Rattle.sa_cli.specs.declared.command.Extent.{Extent}
use Rattle.sa_cli.specs.declared.command.Extent.TheVariants.{All, Needed}
use Rattle.sa_driver.proofs.InternalLemmas.{internal, placed as placed_internal}
use Rattle.sa_driver.specs.Answer.{GivesNone, PrintsForm, ReportsOne}
use Rattle.sa_driver.specs.Built.{IsVerified}
use Rattle.sa_driver.specs.Ends.{AreWritten, IsWritten, PrintEnds, WriteEnds, since}
use Rattle.sa_driver.specs.Files.{ComesOfFiles, ComesOfGenerated, Explains, ExplainsProgram, IsSpelledGenerated, IsSpelledProgram, generated_sources}
use Rattle.sa_driver.specs.Internal.{IsInternal}
use Rattle.sa_driver.specs.Lines.{IsPlaced}
use Rattle.sa_driver.specs.HostParts.{Failed, HostPart}
use Rattle.sa_driver.specs.Sites.{WritesModule, sites_text}
use Rattle.sa_driver.specs.declared.cause.Cause.{Cause}
use Rattle.sa_driver.specs.declared.cause.Cause.TheVariants as cause
use Rattle.sa_driver.specs.declared.module.BuiltModule.{BuiltModule}
use Rattle.sa_driver.specs.declared.outcome.Outcome.{Outcome}

-- the end of a command that writes names no position
pub placed_write : (failed : Type 0) (sources : Sources) (ends : Cause) → WriteEnds failed ends → IsPlaced sources ends
placed_write failed sources (cause.Refused refusal) write = absurd write
placed_write failed sources (cause.Fault kind pos) write = absurd write
placed_write failed sources _ write = tt

-- nor does that of one that prints
pub placed_print : (failed : Type 0) (sources : Sources) (ends : Cause) → PrintEnds failed ends → IsPlaced sources ends
placed_print failed sources (cause.Refused refusal) print = absurd print
placed_print failed sources (cause.Fault kind pos) print = absurd print
placed_print failed sources _ print = tt

-- nor does that of one that prints a form of a program
pub placed_form : (out : HostPart (List ℕ)) (sources : Sources) (ends : Cause) → PrintsForm out ends → IsPlaced sources ends
placed_form out sources ends (inl (text, print)) = placed_print (Failed out) sources ends print.comes
placed_form out sources ends (inr (is, same)) = placed_internal sources ends is

-- texts that give no module, read from these files
explained : (files : Option Files) (failed : Type 0) (names : List (List ℕ)) (sources : Sources) (ends : Cause) → IsReadAs files names sources None → Explains sources.texts ends → ComesOfFiles files failed names sources ends
explained files failed names sources (cause.Refused refusal) read explains = inr (read, explains)
explained files failed names sources cause.NoMemory read explains = tt
explained files failed names sources (cause.Broken invariant) read explains = tt
explained files failed names sources _ read explains = absurd explains

-- what is compiled from a program that was read
pub of_program : {X : Type 0} (files : Option Files) (failed : Type 0) (names : List (List ℕ)) (program : SourceFiles) (made : Result X Cause) → IsReadAs files names program.sources program.cut → IfOk made (λ _. (program.cut ≡ None) × AreSpelled program.sources.texts) → IfErr made (ExplainsProgram program) → MatchResult made (λ _. IsSpelledProgram files names program.sources) (ComesOfFiles files failed names program.sources)
of_program files failed names program (Ok module_bytes) read whole fault = (subst (IsReadAs files names program.sources) whole.0 read, whole.1)
of_program files failed names program (Err ends) read whole (inl (refusal, cut, is)) = subst (ComesOfFiles files failed names program.sources) (sym is) (inl (subst (IsReadAs files names program.sources) cut read))
of_program files failed names program (Err ends) read whole (inr (none, explains)) = explained files failed names program.sources ends (subst (IsReadAs files names program.sources) none read) explains

-- what is checked of texts in memory
pub of_texts : {X : Type 0} (texts : List (List ℕ)) (made : Result X Cause) → IfOk made (λ _. AreSpelled texts) → IfErr made (Explains texts) → MatchResult made (λ _. AreSpelled texts) (Explains texts)
of_texts texts (Ok tree) spelled fault = spelled
of_texts texts (Err ends) spelled fault = fault

-- what holds of a program that is accepted, or of the cause why it isn't, holds of its module, or of the cause why there is none
pub made_of : {X Y : Type 0} (Taken : Type 0) (Ends : Cause → Type 0) (core : Result X Cause) (made : Result Y Cause) → MatchResult core (λ _. Taken) Ends → IfOk made (λ _. IfErr core (λ _. ⊥)) → IfErr made (λ ends. (core ≡ Err ends) ⊎ IsInternal ends) → Ends cause.NoMemory → ((invariant : Invariant) → Ends (cause.Broken invariant)) → MatchResult made (λ _. Taken) Ends
made_of Taken Ends (Ok tree) (Ok built) taken ok err memory broken = taken
made_of Taken Ends (Err ends) (Ok built) taken ok err memory broken = absurd ok
made_of Taken Ends core (Err ends) taken ok (inl is) memory broken = subst (λ core. MatchResult core (λ _. Taken) Ends) is taken
made_of Taken Ends core (Err ends) taken ok (inr is) memory broken = internal Ends ends is memory broken

-- the same of the position that the cause names
pub placed_made : {X Y : Type 0} (sources : Sources) (core : Result X Cause) (made : Result Y Cause) → IfErr core (IsPlaced sources) → IfErr made (λ ends. (core ≡ Err ends) ⊎ IsInternal ends) → IfErr made (IsPlaced sources)
placed_made sources core (Ok built) placed err = tt
placed_made sources core (Err ends) placed (inl is) = subst (λ core. IfErr core (IsPlaced sources)) is placed
placed_made sources core (Err ends) placed (inr is) = placed_internal sources ends is

-- what a result says where it is a value, and where it is a cause
pub of_ok : {X : Type 0} (Taken : Type 0) (Early : Cause → Type 0) (made : Result X Cause) (value : X) → made ≡ Ok value → MatchResult made (λ _. Taken) Early → Taken
of_ok Taken Early made value is match = subst (λ made. MatchResult made (λ _. Taken) Early) is match

pub of_err : {X : Type 0} (Taken : Type 0) (Early : Cause → Type 0) (made : Result X Cause) (ends : Cause) → made ≡ Err ends → MatchResult made (λ _. Taken) Early → Early ends
of_err Taken Early made ends is match = subst (λ made. MatchResult made (λ _. Taken) Early) is match

-- the files give a module, and these are the texts of the report
pub taken_of : {X : Type 0} (files : Option Files) (failed : Type 0) (names : List (List ℕ)) (made : Result X Cause) (value : X) (sources reported : Sources) → made ≡ Ok value → MatchResult made (λ _. IsSpelledProgram files names sources) (ComesOfFiles files failed names sources) → reported ≡ sources → IsSpelledProgram files names reported
taken_of files failed names made value sources reported is match same =
    rw same (of_ok (IsSpelledProgram files names sources) (ComesOfFiles files failed names sources) made value is match)

-- what is said of a module that is made, where one is made
pub made_is : (made : Result BuiltModule Cause) (built : BuiltModule) (Is : BuiltModule → Type 0) → made ≡ Ok built → IfOk made Is → Is built
made_is made built Is is each = subst (λ (made : Result BuiltModule Cause). IfOk made Is) is each

-- the module that is made is confined, with this room
pub confined_of : (made : Result BuiltModule Cause) (built : BuiltModule) (room : ℕ) → made ≡ Ok built → IfOk made (λ built. IsConfined room built.«module») → IsConfined room built.«module»
confined_of made built room is each = made_is made built (λ built. IsConfined room built.«module») is each

-- the bytes of a module that was verified spell one that can be run and is confined
pub spells_of : (made : Result BuiltModule Cause) (built : BuiltModule) (bytes : List ℕ) (room : ℕ) → made ≡ Ok built → IfOk made IsVerified → IfOk made (λ built. IsConfined room built.«module») → bytes ≡ built.bytes.items → SpellsRunnable room bytes
spells_of made built bytes room is tried confined same =
    let it : IsVerified built = made_is made built IsVerified is tried in
    record {
      «module» = built.«module»;
      spelled = subst (λ (reported : List ℕ). SpellsModule reported built.«module») (sym same) it.spelled;
      runnable = it.runnable;
      confined = confined_of made built room is confined;
    }

-- the files give no module, and this outcome says why
pub given_none : {X : Type 0} (store : HostPart Files) (names : List (List ℕ)) (made : Result X Cause) (sources : Sources) (ends : Cause) (outcome : Outcome) → made ≡ Err ends → MatchResult made (λ _. IsSpelledProgram store.before names sources) (ComesOfFiles store.before (Failed store) names sources) → store.after ≡ store.before → outcome.sources ≡ sources → outcome.cause ≡ ends → outcome.«module».items ≡ [] → GivesNone store names outcome
given_none store names made sources ends outcome is match files same cause bytes = record {
  comes = rw (same, cause) (of_err (IsSpelledProgram store.before names sources) (ComesOfFiles store.before (Failed store) names sources) made ends is match);
  bytes = bytes;
  files = files;
}

-- the same where the end may be internal meanwhile
pub given_none_or : {X : Type 0} (store : HostPart Files) (names : List (List ℕ)) (made : Result X Cause) (sources : Sources) (ends : Cause) (outcome : Outcome) → made ≡ Err ends → MatchResult made (λ _. IsSpelledProgram store.before names sources) (ComesOfFiles store.before (Failed store) names sources) → store.after ≡ store.before → outcome.sources ≡ sources → (outcome.cause ≡ ends) ⊎ IsInternal outcome.cause → outcome.«module».items ≡ [] → GivesNone store names outcome
given_none_or store names made sources ends outcome is match files same (inl cause) bytes = given_none store names made sources ends outcome is match files same cause bytes
given_none_or store names made sources ends outcome is match files same (inr own) bytes = record {
  comes = internal (ComesOfFiles store.before (Failed store) names outcome.sources) outcome.cause own tt (λ invariant. tt);
  bytes = bytes;
  files = files;
}

-- the end of a command that writes, counted from an earlier time on
ends_earlier : (a b c : ℕ) (ends : Cause) → a ≤ b → WriteEnds (Rose b c) ends → WriteEnds (Rose a c) ends
ends_earlier a b c cause.Done less end = tt
ends_earlier a b c cause.StoreFault less end = Rose-earlier a b c less end
ends_earlier a b c cause.NoMemory less end = tt
ends_earlier a b c _ less end = absurd end

abbrev pub part_of : Option Files → Option Files → ℕ → ℕ → HostPart Files
part_of before after faults_before faults_after = record { before = before; after = after; faults_before = faults_before; faults_after = faults_after }

-- what was written, counted from an earlier time on, and reported by this outcome
pub written_earlier : (before middle after : Option Files) (a b c : ℕ) (name bytes told_bytes : List ℕ) (ends reported : Cause) → middle ≡ before → a ≤ b → told_bytes ≡ bytes → reported ≡ ends → IsWritten (part_of middle after b c) name bytes ends → IsWritten (part_of before after a c) name told_bytes reported
written_earlier before middle after a b c name bytes told_bytes ends reported same less same_bytes same_ends written =
    rw (same_ends, same_bytes, ← same) (record {
      comes = ends_earlier a b c ends less written.comes;
      whole = written.whole;
      front = written.front;
    })

-- the same of two files
both_earlier : (before middle after : Option Files) (a b c : ℕ) (name bytes other text : List ℕ) (ends : Cause) → middle ≡ before → a ≤ b → AreWritten (part_of middle after b c) name bytes other text ends → AreWritten (part_of before after a c) name bytes other text ends
both_earlier before middle after a b c name bytes other text ends same less (inl (written, undone)) =
    inl (written_earlier before middle after a b c name bytes bytes ends ends same less refl refl written, undone)
both_earlier before middle after a b c name bytes other text ends same less (inr (between, faults, whole, written)) =
    inr (between, faults, subst (λ files. Writes files between name bytes) same whole, written)

-- the same of a module with the positions of its faults
all_earlier : (before middle after : Option Files) (a b c : ℕ) (name bytes : List ℕ) (sites : Option (List ℕ)) (sources : Sources) (positions : List Pos) (ends : Cause) → middle ≡ before → a ≤ b → WritesModule (part_of middle after b c) name bytes sites sources positions ends → WritesModule (part_of before after a c) name bytes sites sources positions ends
all_earlier before middle after a b c name bytes None sources positions ends same less written = written_earlier before middle after a b c name bytes bytes ends ends same less refl refl written
all_earlier before middle after a b c name bytes (Some file) sources positions ends same less (inl (kept, memory)) = inl (kept ∙ same, memory)
all_earlier before middle after a b c name bytes (Some file) sources positions ends same less (inr (placed, written)) =
    inr (placed, both_earlier before middle after a b c name bytes file (sites_text sources positions) ends same less written)

-- the same as this outcome reports it
pub module_earlier : (before middle after : Option Files) (a b c : ℕ) (name bytes told_bytes : List ℕ) (sites : Option (List ℕ)) (sources told_sources : Sources) (positions told_positions : List Pos) (ends reported : Cause) → middle ≡ before → a ≤ b → told_bytes ≡ bytes → told_sources ≡ sources → told_positions ≡ positions → reported ≡ ends → WritesModule (part_of middle after b c) name bytes sites sources positions ends → WritesModule (part_of before after a c) name told_bytes sites told_sources told_positions reported
module_earlier before middle after a b c name bytes told_bytes sites sources told_sources positions told_positions ends reported same less same_bytes same_sources same_positions same_ends written =
    let earlier = all_earlier before middle after a b c name bytes sites sources positions ends same less written in
    let of_bytes = subst (λ bytes. WritesModule (part_of before after a c) name bytes sites sources positions ends) (sym same_bytes) earlier in
    let of_sources = subst (λ sources. WritesModule (part_of before after a c) name told_bytes sites sources positions ends) (sym same_sources) of_bytes in
    let of_positions = subst (λ (positions : List Pos). WritesModule (part_of before after a c) name told_bytes sites told_sources positions ends) (sym same_positions) of_sources in
    subst (λ ends. WritesModule (part_of before after a c) name told_bytes sites told_sources told_positions ends) (sym same_ends) of_positions

-- the end of a command that writes them names no position
placed_both : (store : HostPart Files) (name bytes other text : List ℕ) (sources : Sources) (ends : Cause) → AreWritten store name bytes other text ends → IsPlaced sources ends
placed_both store name bytes other text sources ends (inl (written, undone)) = placed_write (Failed store) sources ends written.comes
placed_both store name bytes other text sources ends (inr (between, faults, whole, written)) =
    placed_write (Failed (since between faults store)) sources ends written.comes

pub placed_module : (store : HostPart Files) (name bytes : List ℕ) (sites : Option (List ℕ)) (texts sources : Sources) (positions : List Pos) (ends : Cause) → WritesModule store name bytes sites texts positions ends → IsPlaced sources ends
placed_module store name bytes None texts sources positions ends written = placed_write (Failed store) sources ends written.comes
placed_module store name bytes (Some file) texts sources positions ends (inl (kept, is)) = placed_internal sources ends is
placed_module store name bytes (Some file) texts sources positions ends (inr (placed, written)) =
    placed_both store name bytes file (sites_text texts positions) sources ends written

-- texts of the generated program that give no module
generated_explained : (classes : ℕ) (sources : Sources) (ends : Cause) → sources ≡ generated_sources classes → Explains sources.texts ends → ComesOfGenerated classes sources ends
generated_explained classes sources (cause.Refused refusal) same explains = (same, explains)
generated_explained classes sources cause.NoMemory same explains = tt
generated_explained classes sources (cause.Broken invariant) same explains = tt
generated_explained classes sources _ same explains = absurd explains

-- what is compiled from the generated program
pub of_generated : {X : Type 0} (classes : ℕ) (program : SourceFiles) (made : Result X Cause) → program.sources ≡ generated_sources classes → program.cut ≡ None → IfOk made (λ _. (program.cut ≡ None) × AreSpelled program.sources.texts) → IfErr made (ExplainsProgram program) → MatchResult made (λ _. IsSpelledGenerated classes program.sources) (ComesOfGenerated classes program.sources)
of_generated classes program (Ok built) same none whole fault = (same, whole.1)
of_generated classes program (Err ends) same none whole (inl (refusal, cut, is)) = cc
of_generated classes program (Err ends) same none whole (inr (uncut, explains)) = generated_explained classes program.sources ends same explains

-- a check of what is needed reports one refusal
pub tells_one : (contracts : Contracts) (extent : Extent) (detail : Detail) (names : List (List ℕ)) (further : List ℕ) → (extent ≡ Needed → further ≡ []) → ReportsOne (Some (Check contracts extent detail names)) → further ≡ []
tells_one contracts Needed detail names further none one = none refl
tells_one contracts All detail names further none one = absurd one
