use Rattle.std.proofs.Common.{rules}
use Rattle.sa_parser_expr.proofs.Runs.{handed_on}
use Rattle.sa_parser.specs.FeatureForms.{shared_parts_form}
use Rattle.sa_parser.proofs.declared.counted_parts.Goals as goal

pub returns-in_err-parts-clause-exact : goal.returns-in_err-parts-clause-exact
returns-in_err-parts-clause-exact c =
    handed_on c.args.tokens.now shared_parts_form c.args.from _ (search rules) c.in_err-parts.ensures.exact (λ rest r. r)

pub returns-clause-exact : goal.returns-clause-exact
returns-clause-exact c = c.in_ok-parts.ensures.exact
