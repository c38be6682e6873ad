use Rattle.std.proofs.Common.{rules}
use Rattle.clap.specs.Words.{found_of}
use Rattle.clap.proofs.WalkLemmas.{first_value-rows}
use Rattle.sa_cli.proofs.subcommand.value.Goals as goal

pub returns : goal.returns
returns c = search (rules, first_value-rows (found_of c.args.matches.now) c.args.name.now)
