use Rattle.std.proofs.Common.{arith, rules}
use Rattle.sa_parser_expr.specs.Exactly.{out_there, inout_there, no_mode_there}
use Rattle.sa_parser_expr.proofs.SpelledExpressions.{in_mode, out_mode, inout_mode}
use Rattle.sa_parser_expr.proofs.postfix.given_mode.Goals as goal

pub returns-in-Some-Word-Out-clause-spelled : goal.returns-in-Some-Word-Out-clause-spelled
returns-in-Some-Word-Out-clause-spelled c = out_mode c.args.tokens.now c.args.from (grind arith)

pub returns-in-Some-Word-Inout-clause-spelled : goal.returns-in-Some-Word-Inout-clause-spelled
returns-in-Some-Word-Inout-clause-spelled c = inout_mode c.args.tokens.now c.args.from (grind arith)

pub returns-in_default-clause-spelled : goal.returns-in_default-clause-spelled
returns-in_default-clause-spelled c = in_mode c.args.tokens.now c.args.from

pub returns-in_default-2-clause-spelled : goal.returns-in_default-2-clause-spelled
returns-in_default-2-clause-spelled c = in_mode c.args.tokens.now c.args.from

pub returns-in_default-3-clause-spelled : goal.returns-in_default-3-clause-spelled
returns-in_default-3-clause-spelled c = in_mode c.args.tokens.now c.args.from

pub returns-in-Some-Word-Out-clause-exact : goal.returns-in-Some-Word-Out-clause-exact
returns-in-Some-Word-Out-clause-exact c = out_there (grind arith)

pub returns-in-Some-Word-Inout-clause-exact : goal.returns-in-Some-Word-Inout-clause-exact
returns-in-Some-Word-Inout-clause-exact c = inout_there (grind arith)

pub returns-in_default-clause-exact : goal.returns-in_default-clause-exact
returns-in_default-clause-exact c = no_mode_there (search rules) (search rules)

pub returns-in_default-2-clause-exact : goal.returns-in_default-2-clause-exact
returns-in_default-2-clause-exact c = no_mode_there (search rules) (search rules)

pub returns-in_default-3-clause-exact : goal.returns-in_default-3-clause-exact
returns-in_default-3-clause-exact c = no_mode_there (search rules) (search rules)
