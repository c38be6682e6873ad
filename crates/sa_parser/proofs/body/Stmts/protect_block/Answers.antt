use Rattle.std.proofs.Common.{arith, rules}
use Rattle.sa_parser.proofs.SpelledStatements.{protect_block}
use Rattle.sa_parser_expr.proofs.Stretches.{occurrence}
use Rattle.sa_lexer.specs.declared.word.Word.TheVariants as word
use Rattle.sa_parser_expr.specs.StatementForms.{body_form}
use Rattle.sa_parser.specs.BlockForms.{type_choice_form}
use Rattle.sa_parser_expr.proofs.Runs.{handed_on}
use Rattle.sa_parser.proofs.ExactBlocks as exact
use Rattle.sa_parser.proofs.body.Stmts.protect_block.Goals as goal

pub returns-clause-spelled : goal.returns-clause-spelled
returns-clause-spelled g c =
    let t = c.args.self.now.tokens in
    let body = c.in_ok-body in
    let choice = c.in_ok-choice.ensures in
    let there = occurrence t c.args.from (omega (arith, body.ensures.next.0, body.ensures.next.1)) in
    protect_block t c.args.from body.next _ there.0 _ _ _ there.1 body.ensures.spelled choice.spelled body.ensures.next.0 (omega (arith, choice.next.0)) (first_of (cc, search rules, grind arith))

pub returns-in_err-body-clause-exact : goal.returns-in_err-body-clause-exact
returns-in_err-body-clause-exact g c =
    let t = c.args.self.now.tokens in
    handed_on t (body_form word.Protect) c.args.from _ (search rules) c.in_err-body.ensures.exact (λ rest r. exact.protect_refused t c.args.from r)

pub returns-in_err-choice-clause-exact : goal.returns-in_err-choice-clause-exact
returns-in_err-choice-clause-exact g c =
    let t = c.args.self.now.tokens in
    let body = c.in_ok-body in
    handed_on t type_choice_form body.next _ (search rules) c.in_err-choice.ensures.exact
    (λ rest r. exact.choice_refused t c.args.from body.next _ body.ensures.exact r)

pub returns-clause-exact : goal.returns-clause-exact
returns-clause-exact g c =
    let t = c.args.self.now.tokens in
    let body = c.in_ok-body in
    exact.protect_block t c.args.from body.next _ _ _ _ body.ensures.exact c.in_ok-choice.ensures.exact (first_of (cc, search rules, grind arith))
