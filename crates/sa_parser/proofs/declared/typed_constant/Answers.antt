use Rattle.std.proofs.Common.{rules}
use Rattle.sa_parser_expr.specs.Forms.{nest, type}
use Rattle.sa_parser_expr.specs.StatementForms.{value_form}
use Rattle.sa_parser_expr.proofs.Runs.{handed_on, refused_at, stops}
use Rattle.sa_parser.proofs.ExactDeclared as exact
use Rattle.sa_parser.proofs.declared.typed_constant.Goals as goal

pub returns-in_err-ty-clause-exact : goal.returns-in_err-ty-clause-exact
returns-in_err-ty-clause-exact c =
    let t = c.args.tokens.now in
    handed_on t (nest type) c.args.from _ (search rules) c.in_err-ty.ensures.exact (λ rest r. stops t r)

pub returns-in_err-next-clause-exact : goal.returns-in_err-next-clause-exact
returns-in_err-next-clause-exact c =
    let t = c.args.tokens.now in
    let class = c.in_ok-ty in
    let other = c.in_err-next.ensures in
    refused_at t class.next _ (search rules) other.fault
    (exact.typed_behind t c.args.access c.args.name c.args.from class.next _ class.ensures.exact
    (exact.no_gets t c.args.access c.args.name _ class.next other.another))

pub returns-in_err-value-clause-exact : goal.returns-in_err-value-clause-exact
returns-in_err-value-clause-exact c =
    let t = c.args.tokens.now in
    let class = c.in_ok-ty in
    let gets = c.in_ok-next.ensures in
    handed_on t value_form c.in_ok-next.next _ (search rules) c.in_err-value.ensures.exact
    (λ rest r. exact.typed_behind t c.args.access c.args.name c.args.from class.next _ class.ensures.exact
    (exact.gets_there t c.args.access c.args.name _ class.next gets.sign (stops t (rw gets.next.0 at r))))

pub returns-clause-exact : goal.returns-clause-exact
returns-clause-exact c =
    let t = c.args.tokens.now in
    let class = c.in_ok-ty in
    let gets = c.in_ok-next.ensures in
    let value = c.in_ok-value in
    exact.typed_constant t c.args.access c.args.name c.args.from class.next value.next _ _ _ class.ensures.exact gets.sign
    (rw gets.next.0 at value.ensures.exact) (search rules)
