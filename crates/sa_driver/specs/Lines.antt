-- The lines on err.
use Rattle.std.specs.Prelude.{ℕ, ◌+◌, ◌<◌, ⊤, List, [], ◌++◌, ◌==◌, length, take, count_by}
use Rattle.std.specs.Prelude.{codes, decimal, slice_get, slice_index_or, unwrap_or}
use Rattle.sa_ast.specs.declared.pos.Pos.{Pos}
use Rattle.sa_ast.specs.declared.pos.Sources.{Sources}
use Rattle.sa_ast.specs.Sources.{text_of}
use Rattle.std.specs.Prelude.{Option, None, Some}
use Rattle.sa_driver.specs.declared.outcome.Outcome.{Outcome}
use Rattle.sa_ast.specs.Rules.{rule_text}
use Rattle.sa_ast.specs.Faults.{fault_text}
use Rattle.failure.specs.Names.{invariant_name}
use Rattle.failure.specs.declared.invariant.Invariant.{Invariant}
use Rattle.sa_driver.specs.declared.cause.Cause.{Cause}
use Rattle.sa_driver.specs.declared.cause.Cause.TheVariants.{Done, Refused, Fault, Stopped, Spent, StoreFault, InFault, OutFault, Usage}
use Rattle.sa_driver.specs.declared.cause.Cause.TheVariants.{Malformed, Invalid, Unlinked, Segment, Trap, TooDeep, NotListing}
use Rattle.sa_driver.specs.declared.cause.Cause.TheVariants.{NoPage, NoLibraryFile, NoMemory, Broken}

-- the line of a position, from 1
abbrev pub line_number : Sources → Pos → ℕ
line_number sources pos = 1 + count_by (λ byte. byte == 10) (take pos.at (text_of sources pos.file))

-- the name of the text that contains a position, or nothing where it has none
abbrev pub file_name : Sources → Pos → List ℕ
file_name sources pos = unwrap_or (slice_get sources.names pos.file) []

-- `FILE:LINE: TEXT` about a position
abbrev pub about_place : Sources → Pos → List ℕ → List ℕ
about_place sources pos text =
    file_name sources pos ++ codes ":" ++ decimal (line_number sources pos) ++ codes ": " ++ text ++ codes "\n"

-- `FILE: TEXT` about a file
abbrev pub about_file : List ℕ → List ℕ → List ℕ
about_file file text = file ++ codes ": " ++ text ++ codes "\n"

abbrev pub stop_line : List ℕ → ℕ → ℕ → List ℕ
stop_line file code site = about_file file (codes "stop " ++ decimal code ++ codes " at " ++ decimal site)

abbrev pub listing_line : List ℕ → ℕ → List ℕ
listing_line file line = file ++ codes ":" ++ decimal line ++ codes ": no listing\n"

-- `internal error: NAME; please report this program`
abbrev pub internal_error : Invariant → List ℕ
internal_error invariant = codes "internal error: " ++ invariant_name invariant ++ codes "; please report this program\n"

-- the line of a cause, where these are the program's texts, and this is the file of the module or the listing
abbrev pub line_of_cause : Sources → List ℕ → Cause → List ℕ
line_of_cause sources file Done = []
line_of_cause sources file (Refused refusal) = about_place sources refusal.pos (rule_text refusal.rule)
line_of_cause sources file (Fault kind pos) = about_place sources pos (codes "fault: " ++ fault_text kind)
line_of_cause sources file (Stopped code site) = stop_line file code site
line_of_cause sources file (Spent steps) = codes "fuel spent\n"
line_of_cause sources file StoreFault = codes "store fault\n"
line_of_cause sources file InFault = codes "input fault\n"
line_of_cause sources file OutFault = codes "output fault\n"
line_of_cause sources file Usage = codes "usage: sather run, build, check, exec, gen, selftest, listing or assemble\n"
line_of_cause sources file Malformed = about_file file (codes "malformed")
line_of_cause sources file (Invalid func) = about_file file (codes "invalid")
line_of_cause sources file (Unlinked import) = about_file file (codes "unlinked " ++ decimal import)
line_of_cause sources file Segment = about_file file (codes "segment")
line_of_cause sources file (Trap kind) = about_file file (codes "trap")
line_of_cause sources file TooDeep = about_file file (codes "too deep")
line_of_cause sources file (NotListing line) = listing_line file line
line_of_cause sources file NoPage = codes "no page: explain takes a code, as E33, or the text of a line, as index or store fault\n"
line_of_cause sources file NoLibraryFile = codes "no file: lib takes a name that sather lib lists\n"
line_of_cause sources file NoMemory = codes "out of memory\n"
line_of_cause sources file (Broken invariant) = internal_error invariant

-- the position is in one of these texts, whose lines can be counted
abbrev pub IsInText : List (List ℕ) → Pos → Type 0
IsInText texts pos = (pos.file < length texts) × (length (slice_index_or texts pos.file []) < 4_294_967_295)

-- the position is in one of the texts
abbrev pub IsInside : Sources → Pos → Type 0
IsInside sources pos = IsInText sources.texts pos

-- the cause names a position in one of the texts, or none
abbrev pub IsPlaced : Sources → Cause → Type 0
IsPlaced sources (Refused refusal) = IsInside sources refusal.pos
IsPlaced sources (Fault kind pos) = IsInside sources pos
IsPlaced sources _ = ⊤

-- `steps S, bytes B`
abbrev pub statistics : ℕ → ℕ → List ℕ
statistics steps bytes = codes "steps " ++ decimal steps ++ codes ", bytes " ++ decimal bytes ++ codes "\n"

-- the line of the statistics, where the steps are shown
abbrev pub shown_statistics : Option ℕ → ℕ → List ℕ
shown_statistics None bytes = []
shown_statistics (Some steps) bytes = statistics steps bytes

-- the lines of an outcome with this cause: its line, then those of further refusals and of the statistics
abbrev pub lines_of : Outcome → Cause → List ℕ
lines_of outcome cause =
    line_of_cause outcome.sources outcome.file.now cause ++ outcome.further.items
    ++ shown_statistics outcome.steps (length outcome.«module».items)

-- `selftest N: B bytes, status S`, which out takes
abbrev pub selftest_line : ℕ → ℕ → ℕ → List ℕ
selftest_line classes bytes status =
    (codes "selftest " ++ decimal classes ++ codes ": ")
    ++ (decimal bytes ++ codes " bytes, status ")
    ++ (decimal status ++ codes "\n")
