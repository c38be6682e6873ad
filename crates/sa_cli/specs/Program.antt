-- The program's command line, as `clap` parses it.
use Rattle.std.specs.Prelude.{true, codes, Some}
use Rattle.clap.specs.Words.{App, Rule, Text, new_app, new_rule, with_rule, with_subcommand}
use Rattle.clap.specs.declared.builder.action.ArgAction.TheVariants.{Append, SetTrue}

-- an option with a value: `--fuel N`, `--pages N`, `--sites FILE`
abbrev pub option : Text → Rule
option name = record (new_rule name) { long = Some name }

-- an option without a value: `--stats`, `--contracts`, `--trace`, `--all`, `--explain`, `--ast`, `--typed`, `--cfg`, `--regions`
abbrev pub flag : Text → Rule
flag name = record (new_rule name) { long = Some name; action = Some SetTrue }

-- the file that is written: `-o OUT`
abbrev pub out : Rule
out = record (new_rule (codes "out")) { short = Some 111; required = true }

-- one or more files that are read
abbrev pub files : Rule
files = record (new_rule (codes "file")) { action = Some Append; required = true }

-- the file of a module
abbrev pub module_file : Rule
module_file = record (new_rule (codes "module")) { required = true }

-- the file of a listing
abbrev pub listing_file : Rule
listing_file = record (new_rule (codes "file")) { required = true }

-- the command that help is about
abbrev pub topic : Rule
topic = new_rule (codes "command")

-- the word that is explained
abbrev pub word : Rule
word = record (new_rule (codes "word")) { required = true }

-- the name of a file of the library
abbrev pub library_name : Rule
library_name = new_rule (codes "name")

-- how many classes a generated program has
abbrev pub classes : Rule
classes = record (new_rule (codes "classes")) { required = true }

-- the options of a command that runs a module
abbrev pub running : App → App
running app = with_rule (with_rule app (option (codes "fuel"))) (flag (codes "stats"))

-- the options of a command that compiles a program
abbrev pub compiling : App → App
compiling app = with_rule (with_rule app (option (codes "room"))) (flag (codes "contracts"))

-- the option of a command that explains the cause of its end
abbrev pub explaining : App → App
explaining app = with_rule app (flag (codes "explain"))

abbrev pub run : App
run = with_rule (with_rule (explaining (compiling (running (new_app (codes "run"))))) (flag (codes "trace"))) files

abbrev pub build : App
build = with_rule (with_rule (with_rule (explaining (compiling (new_app (codes "build")))) (option (codes "sites"))) out) files

abbrev pub check : App
check = with_rule (with_rule (with_rule (explaining (new_app (codes "check"))) (flag (codes "contracts"))) (flag (codes "all"))) files

abbrev pub exec : App
exec = with_rule (with_rule (explaining (running (new_app (codes "exec")))) (option (codes "pages"))) module_file

abbrev pub gen : App
gen = with_rule (new_app (codes "gen")) classes

abbrev pub selftest : App
selftest = with_rule (new_app (codes "selftest")) classes

abbrev pub listing : App
listing = with_rule (new_app (codes "listing")) module_file

abbrev pub assemble : App
assemble = with_rule (with_rule (new_app (codes "assemble")) out) listing_file

-- the options of which `dump` takes one
abbrev pub forms : App → App
forms app =
    let trees = with_rule (with_rule app (flag (codes "ast"))) (flag (codes "typed")) in
    with_rule (with_rule trees (flag (codes "cfg"))) (flag (codes "regions"))

abbrev pub dump : App
dump = with_rule (with_rule (with_rule (explaining (forms (new_app (codes "dump")))) (flag (codes "contracts"))) (flag (codes "all"))) files

abbrev pub help : App
help = with_rule (new_app (codes "help")) topic

abbrev pub version : App
version = new_app (codes "version")

abbrev pub explain : App
explain = with_rule (new_app (codes "explain")) word

abbrev pub library : App
library = with_rule (new_app (codes "lib")) library_name

-- a command without arguments of its own: a subcommand is needed, and `clap` has no `help` of its own
abbrev pub sather : App
sather =
    let plain = new_app (codes "sather") in
    record plain {
      top = record plain.top {
        no_binary_name = true;
        disable_help_subcommand = true;
        subcommand_required = true;
      };
    }

-- the commands that do something with programs and modules
abbrev pub working : App
working =
    let compiling = with_subcommand (with_subcommand (with_subcommand sather run.top) build.top) check.top in
    let running = with_subcommand (with_subcommand (with_subcommand compiling exec.top) gen.top) selftest.top in
    with_subcommand (with_subcommand (with_subcommand running listing.top) assemble.top) dump.top

-- these commands, and those that print a text
abbrev pub program : App
program =
    let helping = with_subcommand (with_subcommand working help.top) version.top in
    with_subcommand (with_subcommand helping explain.top) library.top
