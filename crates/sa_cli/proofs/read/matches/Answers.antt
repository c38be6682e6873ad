use Rattle.std.proofs.Common.{◌∙◌}
use Rattle.sa_cli.proofs.ProgramLemmas.{faultless, faulty, names}
use Rattle.sa_cli.proofs.read.matches.Goals as goal

pub returns-in-Ok-clause-free : goal.returns-in-Ok-clause-free
returns-in-Ok-clause-free c = faultless _ _ c.in_ok-program.ensures c.in-Ok.ensures.kinds

pub returns-in-Ok-clause-subcommand : goal.returns-in-Ok-clause-subcommand
returns-in-Ok-clause-subcommand c = names _ _ _ c.in_ok-program.ensures c.in-Ok.ensures.matches

pub returns-in-Err-clause-usage : goal.returns-in-Err-clause-usage
returns-in-Err-clause-usage c = λ usage. faulty _ _ c.in-Err.error c.in_ok-program.ensures c.in-Err.ensures.kinds (λ memory. (c.fault.ensures cc) (c.kind.ensures ∙ memory))
