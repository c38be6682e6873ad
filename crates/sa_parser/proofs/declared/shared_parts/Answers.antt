use Rattle.std.proofs.Common.{rules}
use Rattle.sa_parser_expr.specs.Forms.{nest, type}
use Rattle.sa_parser_expr.specs.StatementForms.{assigned_form}
use Rattle.sa_parser_expr.proofs.Runs.{taken, takes, handed_on, stops, makes}
use Rattle.sa_parser.proofs.ExactDeclared as exact
use Rattle.sa_parser.proofs.declared.shared_parts.Goals as goal

pub returns-in_err-ty-clause-exact : goal.returns-in_err-ty-clause-exact
returns-in_err-ty-clause-exact c =
    let t = c.args.tokens.now in
    handed_on t (nest type) c.args.from _ (search rules) c.in_err-ty.ensures.exact (λ rest r. exact.no_parts t c.args.from r)

pub returns-in_err-value-clause-exact : goal.returns-in_err-value-clause-exact
returns-in_err-value-clause-exact c =
    let t = c.args.tokens.now in
    let class = c.in_ok-ty in
    handed_on t assigned_form class.next _ (search rules) c.in_err-value.ensures.exact
    (λ rest r. exact.parts_type t c.args.from class.next _ class.ensures.exact (stops t r))

pub returns-clause-exact : goal.returns-clause-exact
returns-clause-exact c =
    let t = c.args.tokens.now in
    let class = c.in_ok-ty in
    let value = c.in_ok-value in
    takes t (exact.parts_type t c.args.from class.next _ class.ensures.exact (makes t value.next (taken t value.ensures.exact)))
