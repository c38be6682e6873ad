-- What the outcome of each command says of the host.
use Rattle.std.specs.Prelude.{codes, ◌≡◌, ◌≢◌, ◌≤◌, ◌^◌, ◌-◌, ◌⊎◌, ◌&&◌, ⊤, ℕ, Bool}
use Rattle.std.specs.Prelude.{true, false, List, [], length, Option, None, Some, is_some}
use Rattle.sa_typed.specs.PositionList.{program_positions}
use Rattle.sa_typed.specs.declared.program.TypedProgram.{TypedProgram}
use Rattle.sa_gen.specs.Generated.{generated}
use Rattle.sa_cli.specs.Texts.{help_text, version_text}
use Rattle.host_io.specs.Files.{Files, Lacks}
use Rattle.host_io.specs.Input.{Input}
use Rattle.sa_texts.specs.Pages.{error_page, library_file, library_list}
use Rattle.sa_read.specs.FileContents.{HasFile, HasLonger}
use Rattle.sa_correctness.specs.Runnable.{SpellsRunnable}
use Rattle.sa_trace.specs.declared.sinks.ErrStatus.TheVariants as listening
use Rattle.sa_cli.specs.Line.{Assemble, Build, Check, Dump, Exec, Explain, Gen, Help, Library, Line, Listing, Run, Selftest, Version}
use Rattle.sa_cli.specs.declared.command.Extent.{Extent}
use Rattle.sa_cli.specs.declared.command.Extent.TheVariants as extent
use Rattle.sa_cli.specs.declared.command.Trace.TheVariants as tracing
use Rattle.sa_driver.specs.Built.{IsSafe, program_sites}
use Rattle.sa_driver.specs.Ends.{IsOfModule, IsPrinted}
use Rattle.sa_driver.specs.Files.{ComesOfFiles, ComesOfGenerated, IsSpelledGenerated, IsSpelledProgram}
use Rattle.sa_driver.specs.Further.{MayReportFurther}
use Rattle.sa_driver.specs.Internal.{IsInternal}
use Rattle.sa_driver.specs.Lines.{selftest_line}
use Rattle.sa_driver.specs.Listings.{Assembles, ListsModule}
use Rattle.sa_driver.specs.Runs.{Ran, RanBuilt, RanTraced}
use Rattle.sa_driver.specs.HostParts.{Failed, IsUnchanged, IsUntouched, HostState, HostPart}
use Rattle.sa_driver.specs.Sites.{WritesModule}
use Rattle.sa_driver.specs.declared.cause.Cause.{Cause}
use Rattle.sa_driver.specs.declared.cause.Cause.TheVariants as cause
use Rattle.sa_driver.specs.declared.outcome.Outcome.{Outcome}

-- the outcome has no module
abbrev pub HasNoModule : Outcome → Type 0
HasNoModule outcome = outcome.«module».items ≡ []

-- the files give no module
pub record GivesNone (store : HostPart Files) (names : List (List ℕ)) (outcome : Outcome) : Type 0 where
  pub comes : ComesOfFiles store.before (Failed store) names outcome.sources outcome.cause
  pub bytes : HasNoModule outcome
  pub files : IsUnchanged store

-- the module of the program in these files can be run, and was, or there is none; a stop of it is at a position of its typed AST
abbrev pub IsRun : HostPart Files → HostPart Input → HostPart (List ℕ) → (room fuel : ℕ) → List (List ℕ) → Outcome → Type 0
IsRun store input out room fuel names outcome =
    (GivesNone store names outcome × IsUnchanged input × IsUnchanged out)
    ⊎ ((core : TypedProgram) × IsSafe core × IsSpelledProgram store.before names outcome.sources
    × RanBuilt input out room fuel (IsOfModule (program_positions core) outcome.sources) outcome)

-- err has taken nothing yet, and will take the lines of the end
abbrev pub IsSilent : (err : HostPart (List ℕ)) → Outcome → Type 0
IsSilent err outcome = IsUntouched err × (outcome.listening ≡ listening.Yes)

-- the traced module of the program in these files can be run, and was, with the sites of its typed AST, or there is none
abbrev pub IsTraced : HostState → (room fuel : ℕ) → List (List ℕ) → Outcome → Type 0
IsTraced outside room fuel names outcome =
    (GivesNone outside.store names outcome × IsUnchanged outside.input × IsUnchanged outside.out × IsSilent outside.err outcome)
    ⊎ ((core : TypedProgram) × IsSafe core × IsSpelledProgram outside.store.before names outcome.sources
    × RanTraced outside.input outside.out outside.err room fuel (IsOfModule (program_positions core) outcome.sources)
    (program_sites core) outcome)

-- the module of the program in these files can be run, and was written under this name, and then the positions of its typed AST, where they
-- have a file; or there is none, and nothing is written
abbrev pub IsBuilt : HostPart Files → (room : ℕ) → List ℕ → (sites : Option (List ℕ)) → List (List ℕ) → Outcome → Type 0
IsBuilt store room name sites names outcome =
    GivesNone store names outcome
    ⊎ ((core : TypedProgram) × IsSafe core × IsSpelledProgram store.before names outcome.sources
    × SpellsRunnable room outcome.«module».items
    × WritesModule store name outcome.«module».items sites outcome.sources (program_positions core) outcome.cause)

-- out took that the program in these files is accepted, or it isn't, and further refusals are reported, if all are asked for
abbrev pub IsChecked : HostPart Files → HostPart (List ℕ) → Extent → List (List ℕ) → Outcome → Type 0
IsChecked store out extent names outcome =
    (GivesNone store names outcome × IsUnchanged out × MayReportFurther extent outcome)
    ⊎ (IsSpelledProgram store.before names outcome.sources × HasNoModule outcome × IsPrinted out (codes "accepted\n") outcome.cause)

-- a text was put on out, or nothing was, at an internal end
abbrev pub PrintsForm : HostPart (List ℕ) → Cause → Type 0
PrintsForm out ends = ((text : List ℕ) × IsPrinted out text ends) ⊎ (IsInternal ends × IsUnchanged out)

-- out took a text for the program in these files, or there is none
abbrev pub IsDumped : HostPart Files → HostPart (List ℕ) → List (List ℕ) → Outcome → Type 0
IsDumped store out names outcome =
    (GivesNone store names outcome × IsUnchanged out)
    ⊎ (IsSpelledProgram store.before names outcome.sources × HasNoModule outcome × PrintsForm out outcome.cause)

-- how many bytes a module has at most: 64 MiB
abbrev pub most_module_bytes : ℕ
most_module_bytes = 67108864

-- why no module was read from its file
abbrev pub IsUnread : HostPart Files → List ℕ → Cause → Type 0
IsUnread store file cause.StoreFault = Failed store ⊎ Lacks store.before file
IsUnread store file cause.Malformed = (bytes : List ℕ) × HasLonger store.before file most_module_bytes bytes
IsUnread store file cause.NoMemory = ⊤
IsUnread store file _ = ⊥

-- these are the bytes of the module in the file
abbrev pub IsModuleIn : HostPart Files → List ℕ → List ℕ → Type 0
IsModuleIn store file bytes = HasFile store.before file bytes × (length bytes ≤ most_module_bytes)

-- the cause that is reported is the module's
abbrev pub IsSame : (of_module : Cause) → (reported : Cause) → Type 0
IsSame of_module reported = reported ≡ of_module

-- the module in this file was run, with this bound of its memory in pages, if there is one; or none was read
abbrev pub IsExecuted : HostPart Files → HostPart Input → HostPart (List ℕ) → ℕ → Option ℕ → List ℕ → Outcome → Type 0
IsExecuted store input out fuel pages file outcome =
    (IsUnread store file outcome.cause × HasNoModule outcome × IsUnchanged input × IsUnchanged out)
    ⊎ (IsModuleIn store file outcome.«module».items × Ran input out pages fuel IsSame outcome)

-- the listing of the module in this file was put on out, or there is none
abbrev pub IsListed : HostPart Files → HostPart (List ℕ) → List ℕ → Outcome → Type 0
IsListed store out file outcome =
    (IsUnread store file outcome.cause × HasNoModule outcome × IsUnchanged out)
    ⊎ ((bytes : List ℕ) × IsModuleIn store file bytes × HasNoModule outcome × ListsModule out bytes outcome.cause)

-- how many bytes a listing has at most: 64 MiB
abbrev pub most_listing_bytes : ℕ
most_listing_bytes = 67108864

-- why no listing was read from its file
abbrev pub IsTextUnread : HostPart Files → List ℕ → Cause → Type 0
IsTextUnread store file cause.StoreFault = Failed store ⊎ Lacks store.before file
IsTextUnread store file (cause.NotListing line) = (line ≡ 0) × (front : List ℕ) × HasLonger store.before file most_listing_bytes front
IsTextUnread store file cause.NoMemory = ⊤
IsTextUnread store file _ = ⊥

-- the module of the listing in this file was written under this name, or there is none, and nothing is written
abbrev pub IsAssembled : HostPart Files → List ℕ → List ℕ → Outcome → Type 0
IsAssembled store name file outcome =
    (IsTextUnread store file outcome.cause × HasNoModule outcome × IsUnchanged store)
    ⊎ ((text : List ℕ) × HasFile store.before file text × (length text ≤ most_listing_bytes)
    × Assembles store name text outcome.«module».items outcome.cause)

-- the generated program was printed
abbrev pub IsGenerated : HostPart (List ℕ) → ℕ → Outcome → Type 0
IsGenerated out classes outcome = HasNoModule outcome × IsPrinted out (generated classes) outcome.cause

-- this text was printed
abbrev pub IsShown : HostPart (List ℕ) → (text : List ℕ) → Outcome → Type 0
IsShown out text outcome = HasNoModule outcome × IsPrinted out text outcome.cause

-- the text that was asked for was printed, or there is none, which this cause says, and nothing is printed
abbrev pub IsFound : HostPart (List ℕ) → (text : Option (List ℕ)) → (lacking : Cause) → Outcome → Type 0
IsFound out (Some text) lacking outcome = IsShown out text outcome
IsFound out None lacking outcome = HasNoModule outcome × (outcome.cause ≡ lacking) × IsUnchanged out

-- the file of the library with this name was printed, or without a name the list of its files
abbrev pub IsLibrary : HostPart (List ℕ) → (name : Option (List ℕ)) → Outcome → Type 0
IsLibrary out None outcome = IsShown out library_list outcome
IsLibrary out (Some name) outcome = IsFound out (library_file name) cause.NoLibraryFile outcome

-- an input of no bytes that never fails, of which this is left
abbrev pub empty_input : Input → HostPart Input
empty_input left = record { before = Some (record { left = []; ends = 0 }); after = Some left; faults_before = 0; faults_after = 0 }

-- a sink of a run's own that never fails, and took this
abbrev pub own_sink : List ℕ → HostPart (List ℕ)
own_sink output = record { before = Some []; after = Some output; faults_before = 0; faults_after = 0 }

-- the outcome is that of the run; and where this is Done, the bytes of its output and its status are printed
pub record ReportsRun (out : HostPart (List ℕ)) (classes : ℕ) (ran : Outcome) (output : List ℕ) (outcome : Outcome) : Type 0 where
  pub sources : outcome.sources ≡ ran.sources
  pub bytes : outcome.«module».items ≡ ran.«module».items
  pub ended : ran.cause ≡ cause.Done → IsPrinted out (selftest_line classes (length output) ran.done) outcome.cause
  pub other : ran.cause ≢ cause.Done → (outcome.cause ≡ ran.cause) × IsUnchanged out

-- the room in KiB of a program for which none is given: 64 MiB
abbrev pub default_room : ℕ
default_room = 65536

-- the generated program was run with the greatest fuel, apart from the input and out of the call, and reported; a stop of its module is at
-- a position of its typed AST
pub record IsRunApart (out : HostPart (List ℕ)) (classes : ℕ) (outcome : Outcome) : Type 0 where
  pub taken : IsSpelledGenerated classes outcome.sources
  pub core : TypedProgram
  pub sound : IsSafe core
  pub ran : Outcome
  pub left : Input
  pub output : List ℕ
  pub runs : RanBuilt (empty_input left) (own_sink output) default_room (2 ^ 64 - 1) (IsOfModule (program_positions core) ran.sources) ran
  pub reports : ReportsRun out classes ran output outcome

-- the generated program was run, or it has no module
abbrev pub IsTested : HostPart (List ℕ) → ℕ → Outcome → Type 0
IsTested out classes outcome =
    (ComesOfGenerated classes outcome.sources outcome.cause × HasNoModule outcome × IsUnchanged out)
    ⊎ IsRunApart out classes outcome

-- the command was executed, with this outcome
abbrev pub Does : HostState → Line → Outcome → Type 0
Does outside (Run fuel room stats contracts tracing.Silent detail names) outcome =
    IsRun outside.store outside.input outside.out room fuel names outcome × IsSilent outside.err outcome
Does outside (Run fuel room stats contracts tracing.Reported detail names) outcome = IsTraced outside room fuel names outcome
Does outside (Build room contracts detail out sites names) outcome =
    IsBuilt outside.store room out sites names outcome × IsSilent outside.err outcome
Does outside (Check contracts extent detail names) outcome =
    IsChecked outside.store outside.out extent names outcome × IsSilent outside.err outcome
Does outside (Exec fuel pages stats detail file) outcome =
    IsExecuted outside.store outside.input outside.out fuel pages file outcome × IsSilent outside.err outcome
Does outside (Gen classes) outcome = IsGenerated outside.out classes outcome × IsSilent outside.err outcome
Does outside (Selftest classes) outcome = IsTested outside.out classes outcome × IsSilent outside.err outcome
Does outside (Listing file) outcome = IsListed outside.store outside.out file outcome × IsSilent outside.err outcome
Does outside (Assemble out file) outcome = IsAssembled outside.store out file outcome × IsSilent outside.err outcome
Does outside (Dump form contracts all detail names) outcome =
    IsDumped outside.store outside.out names outcome × IsSilent outside.err outcome
Does outside (Help topic) outcome = IsShown outside.out (help_text topic) outcome × IsSilent outside.err outcome
Does outside Version outcome = IsShown outside.out version_text outcome × IsSilent outside.err outcome
Does outside (Explain word) outcome = IsFound outside.out (error_page word) cause.NoPage outcome × IsSilent outside.err outcome
Does outside (Library name) outcome = IsLibrary outside.out name outcome × IsSilent outside.err outcome

-- nothing was done, for this cause
pub record DoesNothing (outside : HostState) (outcome : Outcome) (ends : Cause) : Type 0 where
  pub cause : outcome.cause ≡ ends
  pub bytes : HasNoModule outcome
  pub store : IsUnchanged outside.store
  pub input : IsUnchanged outside.input
  pub out : IsUnchanged outside.out
  pub err : IsSilent outside.err outcome

-- what the arguments ask for was done: the cause is the usage where they form no command, and only there, unless memory ran out
abbrev pub Obeys : HostState → Option Line → Outcome → Type 0
Obeys outside None outcome = DoesNothing outside outcome cause.Usage ⊎ DoesNothing outside outcome cause.NoMemory
Obeys outside (Some line) outcome = DoesNothing outside outcome cause.NoMemory ⊎ Does outside line outcome

-- the file of the module or the listing that the command reads, and nothing for another command
abbrev pub module_file : Option Line → List ℕ
module_file (Some (Exec fuel pages stats detail file)) = file
module_file (Some (Listing file)) = file
module_file (Some (Assemble out file)) = file
module_file _ = []

-- the command asks for the statistics
abbrev pub asks_stats : Option Line → Bool
asks_stats (Some (Run fuel room stats contracts trace detail names)) = stats
asks_stats (Some (Exec fuel pages stats detail file)) = stats
asks_stats _ = false

-- the command reports one refusal alone
abbrev pub ReportsOne : Option Line → Type 0
ReportsOne (Some (Check contracts extent.All detail names)) = ⊥
ReportsOne _ = ⊤

-- the steps of a run with this cause may be shown
abbrev pub has_steps : Cause → Bool
has_steps cause.Done = true
has_steps (cause.Fault kind pos) = true
has_steps (cause.Stopped code site) = true
has_steps (cause.Spent steps) = true
has_steps _ = false

-- the lines of the outcome name the file of the module or the listing, show the steps exactly where they are asked for and may be shown,
-- and have further refusals only where all are asked for
pub record IsReportable (line : Option Line) (outcome : Outcome) : Type 0 where
  pub file : outcome.cause ≢ cause.NoMemory → outcome.file.now ≡ module_file line
  pub steps : is_some outcome.steps ≡ (asks_stats line && has_steps outcome.cause)
  pub further : ReportsOne line → outcome.further.items ≡ []

-- the command runs no module on the input and to out
abbrev pub RunsNone : Option Line → Type 0
RunsNone (Some (Run fuel room stats contracts trace detail names)) = ⊥
RunsNone (Some (Exec fuel pages stats detail file)) = ⊥
RunsNone _ = ⊤

-- the command reads no file
abbrev pub ReadsNone : Option Line → Type 0
ReadsNone None = ⊤
ReadsNone (Some (Gen classes)) = ⊤
ReadsNone (Some (Selftest classes)) = ⊤
ReadsNone (Some (Help topic)) = ⊤
ReadsNone (Some Version) = ⊤
ReadsNone (Some (Explain word)) = ⊤
ReadsNone (Some (Library name)) = ⊤
ReadsNone _ = ⊥

-- the command writes no file
abbrev pub WritesNone : Option Line → Type 0
WritesNone (Some (Build room contracts detail out sites names)) = ⊥
WritesNone (Some (Assemble out file)) = ⊥
WritesNone _ = ⊤

-- the command puts nothing on out
abbrev pub PrintsNone : Option Line → Type 0
PrintsNone None = ⊤
PrintsNone (Some (Build room contracts detail out sites names)) = ⊤
PrintsNone (Some (Assemble out file)) = ⊤
PrintsNone _ = ⊥
