use Rattle.std.proofs.Common.{arith, rules}
use Rattle.sa_parser.proofs.SpelledStatements.{branch}
use Rattle.sa_lexer.specs.declared.word.Word.TheVariants as word
use Rattle.sa_parser_expr.specs.Forms.{nest, type}
use Rattle.sa_parser_expr.specs.StatementForms.{body_form}
use Rattle.sa_parser_expr.proofs.Runs.{handed_on, stops}
use Rattle.sa_parser.proofs.ExactBlocks as exact
use Rattle.sa_parser.proofs.body.Stmts.branch.Goals as goal

pub returns-clause-spelled : goal.returns-clause-spelled
returns-clause-spelled g c =
    let class = c.in_ok-ty in
    let body = c.in_ok-body.ensures in
    branch c.args.self.now.tokens c.args.from class.next _ _ _ class.ensures.spelled body.spelled (omega (arith, class.ensures.next.0)) (omega (arith, body.next.0))

pub returns-in_err-ty-clause-exact : goal.returns-in_err-ty-clause-exact
returns-in_err-ty-clause-exact g c =
    let t = c.args.self.now.tokens in
    handed_on t (nest type) c.args.from _ (search rules) c.in_err-ty.ensures.exact (λ rest r. exact.no_type t c.args.from r)

pub returns-in_err-body-clause-exact : goal.returns-in_err-body-clause-exact
returns-in_err-body-clause-exact g c =
    let t = c.args.self.now.tokens in
    let class = c.in_ok-ty in
    handed_on t (body_form word.Then) class.next _ (search rules) c.in_err-body.ensures.exact
    (λ rest r. exact.behind_type t c.args.from class.next _ class.ensures.exact (stops t r))

pub returns-clause-exact : goal.returns-clause-exact
returns-clause-exact g c =
    let t = c.args.self.now.tokens in
    let class = c.in_ok-ty in
    exact.branch t c.args.from class.next _ _ _ class.ensures.exact c.in_ok-body.ensures.exact
