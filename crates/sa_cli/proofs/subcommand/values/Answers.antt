use Rattle.std.proofs.Common.{rules}
use Rattle.clap.specs.Words.{found_of}
use Rattle.clap.proofs.WalkLemmas.{raw_values-rows}
use Rattle.sa_cli.proofs.subcommand.values.Goals as goal

pub returns : goal.returns
returns c = search (rules, raw_values-rows (found_of c.args.matches.now) c.args.name.now)
