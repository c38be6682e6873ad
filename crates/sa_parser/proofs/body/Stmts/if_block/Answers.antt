use Rattle.std.proofs.Common.{arith, rules}
use Rattle.sa_parser.proofs.SpelledStatements.{if_block}
use Rattle.sa_lexer.specs.declared.word.Word.TheVariants as word
use Rattle.sa_parser_expr.specs.StatementForms.{arms_form, ending_form, if_form}
use Rattle.sa_parser_expr.specs.Forms.{refuse}
use Rattle.sa_parser_expr.proofs.Runs.{taken, handed_on, refused_at, follows, stops}
use Rattle.sa_parser.proofs.ExactBlocks as exact
use Rattle.sa_parser.proofs.body.Stmts.if_block.Goals as goal

pub returns-clause-spelled : goal.returns-clause-spelled
returns-clause-spelled g c =
    let opens = c.in_ok-next.ensures in
    let arms = c.in_ok-arms in
    let ending = c.in_ok-rest.ensures in
    if_block c.args.self.now.tokens c.args.from arms.next _ _ _ _ _ opens.word (rw opens.next.0 at arms.ensures.spelled) ending.spelled (omega (arith, opens.next.0, arms.ensures.next.0)) (omega (arith, ending.next.0)) (first_of (cc, search rules, grind arith)) (search rules)

pub returns-in_err-next-clause-exact : goal.returns-in_err-next-clause-exact
returns-in_err-next-clause-exact g c =
    let t = c.args.self.now.tokens in
    let other = c.in_err-next.ensures in
    refused_at t c.args.from _ (search rules) other.fault (exact.no_word t word.If if_form c.args.from other.another)

pub returns-in_err-arms-clause-exact : goal.returns-in_err-arms-clause-exact
returns-in_err-arms-clause-exact g c =
    let t = c.args.self.now.tokens in
    let opens = c.in_ok-next.ensures in
    handed_on t arms_form c.in_ok-next.next _ (search rules) c.in_err-arms.ensures.exact
    (λ rest r. exact.behind_word t word.If if_form refuse c.args.from opens.word (stops t (rw opens.next.0 at r)))

pub returns-in_err-rest-clause-exact : goal.returns-in_err-rest-clause-exact
returns-in_err-rest-clause-exact g c =
    let t = c.args.self.now.tokens in
    let opens = c.in_ok-next.ensures in
    let arms = c.in_ok-arms in
    handed_on t ending_form arms.next _ (search rules) c.in_err-rest.ensures.exact
    (λ rest r. exact.behind_word t word.If if_form refuse c.args.from opens.word (follows t (taken t (rw opens.next.0 at arms.ensures.exact)) (stops t r)))

pub returns-clause-exact : goal.returns-clause-exact
returns-clause-exact g c =
    let t = c.args.self.now.tokens in
    let opens = c.in_ok-next.ensures in
    let arms = c.in_ok-arms in
    exact.if_block t c.args.from arms.next _ _ _ _ _ opens.word (rw opens.next.0 at arms.ensures.exact) c.in_ok-rest.ensures.exact (first_of (cc, search rules, grind arith)) (search rules)
