-- The subcommand of a parse, and the command line that it gives.
use Rattle.std.proofs.Common.{◌≡◌, ◌≤◌, ◌∙◌, true, refl, sym, arith, List, [], length, Option, None, Some, Result, IfOk, Box, Global}
use Rattle.std.proofs.lemmas.Bool.Decides.{nat_tests}
use Rattle.std.specs.Option.{ok_or}
use Rattle.std.specs.Prelude.{option_map}
use Rattle.std.specs.Box.{box_value}
use Rattle.clap.specs.Words.{Row, Text, subcommand_name_of, subcommand_of, subcommand_rows_of}
use Rattle.clap.specs.Simple.{subcommand_rows}
use Rattle.clap.specs.declared.parser.matches.ArgMatches.{ArgMatches}
use Rattle.clap.specs.declared.parser.matches.SubCommand.{SubCommand}
use Rattle.clap.specs.declared.parser.matches.ArgMatches.TheViews.{out-ArgMatches, out-SubCommand}
use Rattle.clap.specs.Faults.{fault_of}
use Rattle.sa_cli.specs.Program.{program}
use Rattle.sa_cli.specs.Line.{Line, are_taken, line_of, named_line, plain_line_in}
use Rattle.sa_cli.specs.declared.command.Command.{Command}
use Rattle.sa_cli.specs.declared.fault.ArgsError.{ArgsError}

-- the subcommand of a parse, by its name and its matches
pub named_rows : (m : ArgMatches) (name : Text) (rows : List Row) → Some name ≡ subcommand_name_of m → Some rows ≡ option_map (λ (p : Text × List Row). p.1) (subcommand_rows_of m) → subcommand_rows_of m ≡ Some (name, rows)
named_rows m name rows = go (out-ArgMatches m).subcommand
  where
    go : (o : Option (Box SubCommand Global)) → Some name ≡ option_map (λ (b : Box SubCommand Global). (out-SubCommand (box_value b)).name.now) o → Some rows ≡ option_map (λ (p : Text × List Row). p.1) (subcommand_rows o) → subcommand_rows o ≡ Some (name, rows)
    go None first second = cc
    go (Some b) first second = cc

-- the arguments are accepted where there are few enough and `clap` finds no fault in them
pub taken : (words : List Text) → length words ≤ 65535 → fault_of program words ≡ [] → are_taken words ≡ true
taken words few free = rw free (grind (arith, nat_tests, few))

-- the command line of accepted arguments, by the subcommand that they name
pub line_named : (words : List Text) (name : Text) (rows : List Row) → are_taken words ≡ true → subcommand_of program words ≡ Some (name, rows) → plain_line_in words ≡ named_line name rows
line_named words name rows all found = rw (all, found) refl

-- a command that was found gives the command line
pub line_found : (found : Option Command) (line named : Option Line) (fault : ArgsError) (r : Result Command ArgsError) → line ≡ named → option_map line_of found ≡ named → r ≡ ok_or found fault → IfOk r (λ command. line ≡ Some (line_of command))
line_found None line named fault r same is gives = rw gives tt
line_found (Some command) line named fault r same is gives = rw gives (same ∙ sym is)
