use Rattle.std.proofs.Common.{arith, rules}
use Rattle.sa_parser.proofs.SpelledStatements.{typecase_block}
use Rattle.sa_lexer.specs.declared.word.Word.TheVariants as word
use Rattle.sa_parser_expr.specs.StatementForms.{name_form, typecase_form}
use Rattle.sa_parser.specs.BlockForms.{type_choice_form}
use Rattle.sa_parser_expr.proofs.Runs.{handed_on, refused_at, stops}
use Rattle.sa_parser.proofs.ExactBlocks as exact
use Rattle.sa_parser.proofs.body.Stmts.typecase_block.Goals as goal

pub returns-clause-spelled : goal.returns-clause-spelled
returns-clause-spelled g c =
    let opens = c.in_ok-next.ensures in
    let tested = c.in_ok-tested in
    let choice = c.in_ok-choice.ensures in
    typecase_block c.args.self.now.tokens c.args.from tested.next _ _ _ _ opens.word (rw opens.next.0 at tested.ensures.spelled) choice.spelled (omega (arith, opens.next.0, tested.ensures.next.0)) (omega (arith, choice.next.0)) (first_of (cc, search rules, grind arith))

pub returns-in_err-next-clause-exact : goal.returns-in_err-next-clause-exact
returns-in_err-next-clause-exact g c =
    let t = c.args.self.now.tokens in
    let other = c.in_err-next.ensures in
    refused_at t c.args.from _ (search rules) other.fault (exact.no_word t word.Typecase typecase_form c.args.from other.another)

pub returns-in_err-tested-clause-exact : goal.returns-in_err-tested-clause-exact
returns-in_err-tested-clause-exact g c =
    let t = c.args.self.now.tokens in
    let opens = c.in_ok-next.ensures in
    handed_on t name_form c.in_ok-next.next _ (search rules) c.in_err-tested.ensures.exact
    (λ rest r. exact.behind_typecase t c.args.from opens.word (stops t (rw opens.next.0 at r)))

pub returns-in_err-choice-clause-exact : goal.returns-in_err-choice-clause-exact
returns-in_err-choice-clause-exact g c =
    let t = c.args.self.now.tokens in
    let opens = c.in_ok-next.ensures in
    let tested = c.in_ok-tested in
    handed_on t type_choice_form tested.next _ (search rules) c.in_err-choice.ensures.exact
    (λ rest r. exact.typecase_refused t c.args.from tested.next _ opens.word (rw opens.next.0 at tested.ensures.exact) r)

pub returns-clause-exact : goal.returns-clause-exact
returns-clause-exact g c =
    let t = c.args.self.now.tokens in
    let opens = c.in_ok-next.ensures in
    let tested = c.in_ok-tested in
    exact.typecase_block t c.args.from tested.next _ _ _ _ opens.word (rw opens.next.0 at tested.ensures.exact) c.in_ok-choice.ensures.exact (first_of (cc, search rules, grind arith))
