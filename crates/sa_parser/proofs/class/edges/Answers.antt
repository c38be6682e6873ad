use Rattle.std.proofs.Common.{rules}
use Rattle.sa_lexer.specs.declared.sign.Sign.TheVariants as sign
use Rattle.sa_parser_expr.proofs.Runs.{taken, takes, handed_on, stops, makes}
use Rattle.sa_parser.specs.ClassForms.{types_after_form}
use Rattle.sa_parser.proofs.ExactHeads as exact
use Rattle.sa_parser.proofs.class.edges.Goals as goal

pub returns-in_err-below-clause-exact : goal.returns-in_err-below-clause-exact
returns-in_err-below-clause-exact c =
    let t = c.args.tokens.now in
    handed_on t (types_after_form sign.Less) c.args.from _ (search rules) c.in_err-below.ensures.exact
    (λ rest r. exact.no_below t c.args.from r)

pub returns-in_err-above-clause-exact : goal.returns-in_err-above-clause-exact
returns-in_err-above-clause-exact c =
    let t = c.args.tokens.now in
    let below = c.in_ok-below in
    handed_on t (types_after_form sign.Greater) below.next _ (search rules) c.in_err-above.ensures.exact
    (λ rest r. exact.behind_below t c.args.from below.next _ below.ensures.exact (stops t r))

pub returns-clause-exact : goal.returns-clause-exact
returns-clause-exact c =
    let t = c.args.tokens.now in
    let below = c.in_ok-below in
    let above = c.in_ok-above in
    takes t (exact.behind_below t c.args.from below.next _ below.ensures.exact (makes t above.next (taken t above.ensures.exact)))
