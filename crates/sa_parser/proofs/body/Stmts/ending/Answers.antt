use Rattle.sa_parser.proofs.SpelledStatements.{ending}
use Rattle.std.proofs.Common.{rules}
use Rattle.sa_parser_expr.specs.StatementForms.{else_form}
use Rattle.sa_parser_expr.proofs.Runs.{handed_on, refused_at}
use Rattle.sa_parser.proofs.ExactBlocks as exact
use Rattle.sa_parser.proofs.body.Stmts.ending.Goals as goal

pub returns-clause-spelled : goal.returns-clause-spelled
returns-clause-spelled g c =
    let rest = c.in_ok-rest in
    let closes = c.in_ok-after_word.ensures in
    ending c.args.self.now.tokens c.args.from rest.next _ _ rest.ensures.spelled closes.word rest.ensures.next.0 closes.next.0

pub returns-in_err-rest-clause-exact : goal.returns-in_err-rest-clause-exact
returns-in_err-rest-clause-exact g c =
    let t = c.args.self.now.tokens in
    handed_on t else_form c.args.from _ (search rules) c.in_err-rest.ensures.exact (λ rest r. exact.else_refused t c.args.from r)

pub returns-in_err-after_word-clause-exact : goal.returns-in_err-after_word-clause-exact
returns-in_err-after_word-clause-exact g c =
    let t = c.args.self.now.tokens in
    let rest = c.in_ok-rest in
    let other = c.in_err-after_word.ensures in
    refused_at t rest.next _ (search rules) other.fault (exact.no_ending t c.args.from rest.next _ rest.ensures.exact other.another)

pub returns-clause-exact : goal.returns-clause-exact
returns-clause-exact g c =
    let t = c.args.self.now.tokens in
    let rest = c.in_ok-rest in
    let closes = c.in_ok-after_word.ensures in
    exact.ending t c.args.from rest.next _ _ rest.ensures.exact closes.word closes.next.0
