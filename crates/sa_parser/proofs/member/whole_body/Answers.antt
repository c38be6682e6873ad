use Rattle.std.proofs.Common.{rules}
use Rattle.sa_lexer.specs.declared.word.Word.TheVariants as word
use Rattle.sa_parser_expr.specs.StatementForms.{body_form}
use Rattle.sa_parser_expr.proofs.Runs.{handed_on, refused_at}
use Rattle.sa_parser.proofs.ExactStatements.{same_tree}
use Rattle.sa_parser.proofs.ExactFeatures as exact
use Rattle.sa_parser.proofs.member.whole_body.Goals as goal

pub returns-in_err-body-clause-exact : goal.returns-in_err-body-clause-exact
returns-in_err-body-clause-exact c =
    let t = c.args.tokens.now in
    handed_on t (body_form word.Is) c.args.from _ (search rules) c.in_err-body.ensures.exact (λ rest r. exact.no_body t c.args.from r)

pub returns-in_err-next-clause-exact : goal.returns-in_err-next-clause-exact
returns-in_err-next-clause-exact c =
    let t = c.args.tokens.now in
    let body = c.in_ok-body in
    let other = c.in_err-next.ensures in
    refused_at t body.next _ (search rules) other.fault (exact.no_end t c.args.from body.next _ body.ensures.exact other.another)

pub returns-clause-exact : goal.returns-clause-exact
returns-clause-exact c =
    let t = c.args.tokens.now in
    let body = c.in_ok-body in
    let closes = c.in_ok-next.ensures in
    rw closes.next.0 (same_tree t (exact.whole_body t c.args.from body.next _ body.ensures.exact closes.word) c.in_ok-new.ensures)
