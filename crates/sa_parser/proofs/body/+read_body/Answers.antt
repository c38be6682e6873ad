use Rattle.sa_parser.proofs.SpelledStatements.{body}
use Rattle.std.proofs.Common.{rules}
use Rattle.sa_parser_expr.proofs.Runs.{refused_at}
use Rattle.sa_parser.proofs.ExactBlocks as exact
use Rattle.sa_parser.proofs.body.+read_body.Goals as goal

pub returns-clause-spelled : goal.returns-clause-spelled
returns-clause-spelled t c =
    let opens = c.in_ok-next in
    body c.args.tokens.now c.args.word c.args.from opens.next c.stmts.result opens.ensures.word opens.ensures.next.0 c.stmts.ensures.next c.stmts.ensures.spelled

pub returns-in_err-next-clause-exact : goal.returns-in_err-next-clause-exact
returns-in_err-next-clause-exact t c =
    let other = c.in_err-next.ensures in
    refused_at c.args.tokens.now c.args.from _ (search rules) other.fault (exact.no_begin c.args.tokens.now c.args.word c.args.from other.another)

pub returns-clause-exact : goal.returns-clause-exact
returns-clause-exact t c =
    let opens = c.in_ok-next in
    exact.body c.args.tokens.now c.args.word c.args.from opens.next c.stmts.result opens.ensures.word opens.ensures.next.0 c.stmts.ensures.exact
