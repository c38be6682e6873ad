-- Which command the arguments of a command line are.
use Rattle.std.specs.Prelude.{◌^◌, ◌-◌, ◌&&◌, ◌||◌, ℕ, Bool, true, false, List, [], Option, None, Some, codes}
use Rattle.std.specs.Prelude.{length, map, if◌then◌else◌, nat_le, option_map, option_and_then, unwrap_or}
use Rattle.std.specs.List.{list_any}
use Rattle.std.specs.Option.{option_map_or}
use Rattle.std.specs.Str.{bytes_eq}
use Rattle.clap.specs.Words.{Row, Text, all_of, first_of, subcommand_of}
use Rattle.clap.specs.Faults.{fault_of}
use Rattle.clap.specs.Walk.{is_empty}
use Rattle.sa_cli.specs.Numbers.{number_in, number_or}
use Rattle.sa_cli.specs.Program.{program}
use Rattle.sa_cli.specs.declared.command.Command.{Command}
use Rattle.sa_cli.specs.declared.command.Command.TheVariants as command
use Rattle.sa_cli.specs.declared.command.Contracts.{Contracts}
use Rattle.sa_cli.specs.declared.command.Contracts.TheVariants.{Dropped, Checked}
use Rattle.sa_cli.specs.declared.command.Detail.{Detail}
use Rattle.sa_cli.specs.declared.command.Detail.TheVariants.{Brief, Explained}
use Rattle.sa_cli.specs.declared.command.DumpForm.{DumpForm}
use Rattle.sa_cli.specs.declared.command.DumpForm.TheVariants.{Ast, Typed, Cfg, Regions}
use Rattle.sa_cli.specs.declared.command.Extent.{Extent}
use Rattle.sa_cli.specs.declared.command.Extent.TheVariants.{Needed, All}
use Rattle.sa_cli.specs.Help.{asked_topic, asks_help, asks_reason, asks_version, topic_named}
use Rattle.sa_cli.specs.declared.command.Topic.{Topic}
use Rattle.sa_cli.specs.declared.command.Topic.TheVariants as topic
use Rattle.sa_cli.specs.declared.command.Trace.{Trace}
use Rattle.sa_cli.specs.declared.command.Trace.TheVariants.{Silent, Reported}

-- a command with its texts and numbers
pub data Line : Type 0 where
  Run : (fuel room : ℕ) → (stats : Bool) → (contracts : Contracts) → (trace : Trace) → (detail : Detail) → (files : List Text) → Line
  Build : (room : ℕ) → (contracts : Contracts) → (detail : Detail) → (out : Text) → (sites : Option Text) → (files : List Text) → Line
  Check : (contracts : Contracts) → (extent : Extent) → (detail : Detail) → (files : List Text) → Line
  Exec : (fuel : ℕ) → (pages : Option ℕ) → (stats : Bool) → (detail : Detail) → (file : Text) → Line
  Gen : (classes : ℕ) → Line
  Selftest : (classes : ℕ) → Line
  Listing : (file : Text) → Line
  Assemble : (out : Text) → (file : Text) → Line
  Dump : (form : DumpForm) → (contracts : Contracts) → (all : Bool) → (detail : Detail) → (files : List Text) → Line
  Help : Topic → Line
  Version : Line
  Explain : (word : Text) → Line
  Library : (name : Option Text) → Line

-- the content of a command
abbrev pub line_of : Command → Line
line_of (command.Run run) = Run run.fuel run.room run.stats run.contracts run.trace run.detail (map (λ file. file.now) run.files.items)
line_of (command.Build build) =
    Build build.room build.contracts build.detail build.out.now (option_map (λ file. file.now) build.sites)
    (map (λ file. file.now) build.files.items)
line_of (command.Check check) = Check check.contracts check.extent check.detail (map (λ file. file.now) check.files.items)
line_of (command.Exec exec) = Exec exec.fuel exec.pages exec.stats exec.detail exec.«module».now
line_of (command.Gen classes) = Gen classes
line_of (command.Selftest classes) = Selftest classes
line_of (command.Listing listing) = Listing listing.«module».now
line_of (command.Assemble assemble) = Assemble assemble.out.now assemble.file.now
line_of (command.Dump dump) = Dump dump.form dump.contracts dump.all dump.detail (map (λ file. file.now) dump.files.items)
line_of (command.Help topic) = Help topic
line_of command.Version = Version
line_of (command.Explain word) = Explain word.now
line_of (command.Library name) = Library (option_map (λ text. text.now) name)

-- how much detail a command asks for in the report of why it ended
abbrev pub detail_of : Line → Detail
detail_of (Run fuel room stats contracts trace detail files) = detail
detail_of (Build room contracts detail out sites files) = detail
detail_of (Check contracts extent detail files) = detail
detail_of (Exec fuel pages stats detail file) = detail
detail_of (Dump form contracts all detail files) = detail
detail_of _ = Brief

-- the same of arguments that aren't a command
abbrev pub detail_without_command : List Text → Detail
detail_without_command words = if asks_reason words then Explained else Brief

-- the fuel: any number of its type, and by default the greatest one
abbrev pub fuel_in : List Row → Option ℕ
fuel_in rows = number_or (2 ^ 64 - 1) 0 (2 ^ 64 - 1) (first_of (codes "fuel") rows)

-- the room in KiB
abbrev pub room_in : List Row → Option ℕ
room_in rows = number_or 65536 64 1048576 (first_of (codes "room") rows)

-- whether a flag is set: `clap` gives it the value `true` then
abbrev pub is_given : Text → List Row → Bool
is_given name rows = option_map_or (λ text. bytes_eq text (codes "true")) (first_of name rows) false

abbrev pub stats_in : List Row → Bool
stats_in = is_given (codes "stats")

abbrev pub contracts_in : List Row → Contracts
contracts_in rows = if is_given (codes "contracts") rows then Checked else Dropped

abbrev pub trace_in : List Row → Trace
trace_in rows = if is_given (codes "trace") rows then Reported else Silent

abbrev pub detail_in : List Row → Detail
detail_in rows = if is_given (codes "explain") rows then Explained else Brief

abbrev pub extent_in : List Row → Extent
extent_in rows = if is_given (codes "all") rows then All else Needed

abbrev pub files_in : List Row → List Text
files_in rows = unwrap_or (all_of (codes "file") rows) []

-- the name is one of these
abbrev pub is_among : Text → List Text → Bool
is_among name names = list_any (bytes_eq name) names

-- the name of standard input, where it is read as a file
abbrev pub input : Text
input = codes "-"

-- a run of these files, none of which is standard input, since the program reads that
abbrev pub run_of : List Row → (files : List Text) → Option Line
run_of rows files =
    if is_among input files then None
    else option_and_then
    (λ fuel. option_map (λ room. Run fuel room (stats_in rows) (contracts_in rows) (trace_in rows) (detail_in rows) files) (room_in rows))
    (fuel_in rows)

abbrev pub run_in : List Row → Option Line
run_in rows = run_of rows (files_in rows)

-- this name may not be written: it is that of standard input, or of a file that is read
abbrev pub is_read_only : Text → (files : List Text) → Bool
is_read_only name files = bytes_eq name input || is_among name files

-- two files that are to be written have the same name, or one of them may not be written
abbrev pub do_clash : (out : Text) → (sites : Option Text) → (files : List Text) → Bool
do_clash out sites files = is_read_only out files || option_map_or (λ name. bytes_eq name out || is_read_only name files) sites false

-- a build of these files into OUT, with their sites in a file of its own, if one is named
abbrev pub build_into : List Row → ℕ → (out : Text) → (sites : Option Text) → (files : List Text) → Option Line
build_into rows room out sites files =
    if do_clash out sites files then None else Some (Build room (contracts_in rows) (detail_in rows) out sites files)

abbrev pub build_in : List Row → Option Line
build_in rows =
    option_and_then
    (λ room. option_and_then
    (λ out. build_into rows room out (first_of (codes "sites") rows) (files_in rows))
    (first_of (codes "out") rows))
    (room_in rows)

abbrev pub check_in : List Row → Line
check_in rows = Check (contracts_in rows) (extent_in rows) (detail_in rows) (files_in rows)

-- the bound of the memory in pages, if there is one and it is in its range
abbrev pub pages_in : List Row → Option (Option ℕ)
pages_in rows = option_map_or (λ text. option_map Some (number_in 0 65536 text)) (first_of (codes "pages") rows) (Some None)

-- the run of the module in this file, which isn't standard input, since the module reads that
abbrev pub exec_of : List Row → (fuel : ℕ) → (pages : Option ℕ) → (file : Text) → Option Line
exec_of rows fuel pages file = if bytes_eq file input then None else Some (Exec fuel pages (stats_in rows) (detail_in rows) file)

abbrev pub exec_in : List Row → Option Line
exec_in rows =
    option_and_then
    (λ fuel. option_and_then (λ pages. option_and_then (exec_of rows fuel pages) (first_of (codes "module") rows)) (pages_in rows))
    (fuel_in rows)

-- how many classes the generated program is to have
abbrev pub classes_in : List Row → Option ℕ
classes_in rows = option_and_then (number_in 1 500) (first_of (codes "classes") rows)

abbrev pub listing_in : List Row → Option Line
listing_in rows = option_map Listing (first_of (codes "module") rows)

-- the module of this listing into this file, if it may be written
abbrev pub assemble_into : (out : Text) → (file : Text) → Option Line
assemble_into out file = if bytes_eq out file || bytes_eq out input then None else Some (Assemble out file)

abbrev pub assemble_in : List Row → Option Line
assemble_in rows =
    option_and_then (λ out. option_and_then (assemble_into out) (first_of (codes "file") rows)) (first_of (codes "out") rows)

-- the form that is asked for, where it is one alone
abbrev pub form_of : (ast typed cfg regions : Bool) → Option DumpForm
form_of true false false false = Some Ast
form_of false true false false = Some Typed
form_of false false true false = Some Cfg
form_of false false false true = Some Regions
form_of _ _ _ _ = None

abbrev pub form_in : List Row → Option DumpForm
form_in rows =
    form_of (is_given (codes "ast") rows) (is_given (codes "typed") rows) (is_given (codes "cfg") rows) (is_given (codes "regions") rows)

-- a dump of this form of the program in these files, with what no file writes where that is asked for
abbrev pub dump_in : List Row → Option Line
dump_in rows =
    option_map (λ form. Dump form (contracts_in rows) (is_given (codes "all") rows) (detail_in rows) (files_in rows)) (form_in rows)

-- the topic of `help`: a command, or all of them where none is named
abbrev pub help_in : List Row → Option Line
help_in rows = option_map_or (λ name. option_map Help (topic_named name)) (first_of (codes "command") rows) (Some (Help topic.All))

abbrev pub explain_in : List Row → Option Line
explain_in rows = option_map Explain (first_of (codes "word") rows)

abbrev pub library_in : List Row → Line
library_in rows = Library (first_of (codes "name") rows)

-- the command with this name and these matches, if it is one that prints a text
abbrev pub printing_line : Text → List Row → Option Line
printing_line name rows =
    if bytes_eq name (codes "help") then help_in rows
    else (if bytes_eq name (codes "version") then Some Version
    else (if bytes_eq name (codes "explain") then explain_in rows
    else (if bytes_eq name (codes "lib") then Some (library_in rows) else None)))

-- the command with this name and these matches
abbrev pub named_line : Text → List Row → Option Line
named_line name rows =
    if bytes_eq name (codes "run") then run_in rows
    else (if bytes_eq name (codes "build") then build_in rows
    else (if bytes_eq name (codes "check") then Some (check_in rows)
    else (if bytes_eq name (codes "exec") then exec_in rows
    else (if bytes_eq name (codes "gen") then option_map Gen (classes_in rows)
    else (if bytes_eq name (codes "selftest") then option_map Selftest (classes_in rows)
    else (if bytes_eq name (codes "listing") then listing_in rows
    else (if bytes_eq name (codes "assemble") then assemble_in rows
    else (if bytes_eq name (codes "dump") then dump_in rows else printing_line name rows))))))))

-- there are at most 65,535 arguments, and `clap` finds no fault in them
abbrev pub are_taken : List Text → Bool
are_taken words = nat_le (length words) 65535 && is_empty (fault_of program words)

-- the command that `clap` parses the arguments into
abbrev pub plain_line_in : List Text → Option Line
plain_line_in words =
    if are_taken words then option_and_then (λ found. named_line found.0 found.1) (subcommand_of program words) else None

-- the command that the arguments are: help or the version where an option asks for it, and otherwise a command by `clap`
abbrev pub line_in : List Text → Option Line
line_in words =
    if asks_help words then option_map Help (asked_topic words)
    else (if asks_version words then Some Version else plain_line_in words)

-- how much detail arguments ask for in the report of why they ended: as much as their command does, if they are one
abbrev pub asked_detail : List Text → Detail
asked_detail words = option_map_or detail_of (line_in words) (detail_without_command words)
