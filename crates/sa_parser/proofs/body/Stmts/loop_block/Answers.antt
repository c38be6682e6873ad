use Rattle.std.proofs.Common.{arith, rules}
use Rattle.sa_parser.proofs.SpelledStatements.{loop_block}
use Rattle.sa_parser_expr.proofs.Stretches.{occurrence}
use Rattle.sa_lexer.specs.declared.word.Word.TheVariants as word
use Rattle.sa_parser_expr.specs.StatementForms.{body_form}
use Rattle.sa_parser_expr.proofs.Runs.{handed_on, refused_at}
use Rattle.sa_parser.proofs.ExactBlocks as exact
use Rattle.sa_parser.proofs.body.Stmts.loop_block.Goals as goal

pub returns-clause-spelled : goal.returns-clause-spelled
returns-clause-spelled g c =
    let t = c.args.self.now.tokens in
    let body = c.in_ok-body in
    let closes = c.in_ok-next.ensures in
    let there = occurrence t c.args.from (omega (arith, body.ensures.next.0, body.ensures.next.1)) in
    loop_block t c.args.from body.next _ there.0 _ _ there.1 body.ensures.spelled closes.word body.ensures.next.0 closes.next.0 (search rules)

pub returns-in_err-body-clause-exact : goal.returns-in_err-body-clause-exact
returns-in_err-body-clause-exact g c =
    let t = c.args.self.now.tokens in
    handed_on t (body_form word.Loop) c.args.from _ (search rules) c.in_err-body.ensures.exact (λ rest r. exact.loop_refused t c.args.from r)

pub returns-in_err-next-clause-exact : goal.returns-in_err-next-clause-exact
returns-in_err-next-clause-exact g c =
    let t = c.args.self.now.tokens in
    let body = c.in_ok-body in
    let other = c.in_err-next.ensures in
    refused_at t body.next _ (search rules) other.fault (exact.loop_unended t c.args.from body.next _ body.ensures.exact other.another)

pub returns-clause-exact : goal.returns-clause-exact
returns-clause-exact g c =
    let t = c.args.self.now.tokens in
    let body = c.in_ok-body in
    let closes = c.in_ok-next.ensures in
    exact.loop_block t c.args.from body.next _ _ _ body.ensures.exact closes.word closes.next.0 (search rules)
