use Rattle.std.proofs.Common.{rules}
use Rattle.sa_parser_expr.proofs.Runs.{handed_on, stops}
use Rattle.sa_parser.specs.SignatureForms.{sig_form}
use Rattle.sa_parser.proofs.ExactFeatures as exact
use Rattle.sa_parser.proofs.member.builtin.Goals as goal

pub returns-in_err-sig-clause-exact : goal.returns-in_err-sig-clause-exact
returns-in_err-sig-clause-exact c =
    let t = c.args.tokens.now in
    handed_on t sig_form c.args.from _ (search rules) c.in_err-sig.ensures.exact (λ rest r. stops t r)

pub returns-clause-exact : goal.returns-clause-exact
returns-clause-exact c =
    let t = c.args.tokens.now in
    let sig = c.in_ok-sig in
    exact.builtin t c.args.class.name.now c.args.access c.args.from sig.next _ _ sig.ensures.exact (first_of (cc, search rules))
