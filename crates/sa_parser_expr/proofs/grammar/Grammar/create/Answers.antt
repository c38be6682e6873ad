use Rattle.std.proofs.Common.{arith, rules, ◌+◌}
use Rattle.sa_parser_expr.proofs.SpelledExpressions.{create}
use Rattle.sa_parser_expr.proofs.ExactFirsts as exact
use Rattle.sa_parser_expr.proofs.Runs.{taken, handed_on, follows, stops}
use Rattle.sa_parser_expr.specs.Enclosures.{where_of}
use Rattle.sa_parser_expr.specs.ExpressionForms.{args_form, optional_type_form}
use Rattle.sa_parser_expr.proofs.grammar.Grammar.create.Goals as goal

pub returns-clause-spelled : goal.returns-clause-spelled
returns-clause-spelled g c = λ around.
    let class = c.in_ok-class in
    let given = c.in_ok-given.ensures in
    create c.args.self.now.tokens c.args.self.now.scope around c.args.from class.next _ _ _ _ c.requires.there class.ensures.spelled given.spelled (omega (arith, class.ensures.next.0)) given.next.0 (search rules)

pub returns-in_err-class-clause-exact : goal.returns-in_err-class-clause-exact
returns-in_err-class-clause-exact g c = λ around.
    handed_on c.args.self.now.tokens optional_type_form (c.args.from + 1) _ (search rules) c.in_err-class.ensures.exact
    (λ rest r. exact.behind_hash c.args.self.now.tokens c.args.self.now.scope (where_of around) c.args.from c.requires.there
    (stops c.args.self.now.tokens r))

pub returns-in_err-given-clause-exact : goal.returns-in_err-given-clause-exact
returns-in_err-given-clause-exact g c = λ around.
    let class = c.in_ok-class in
    handed_on c.args.self.now.tokens (args_form c.args.self.now.scope) class.next _ (search rules) c.in_err-given.ensures.exact
    (λ rest r. exact.behind_hash c.args.self.now.tokens c.args.self.now.scope (where_of around) c.args.from c.requires.there
    (follows c.args.self.now.tokens (taken c.args.self.now.tokens class.ensures.exact) (stops c.args.self.now.tokens r)))

pub returns-clause-exact : goal.returns-clause-exact
returns-clause-exact g c = λ around.
    exact.create c.args.self.now.tokens c.args.self.now.scope (where_of around) c.args.from c.in_ok-class.next _ _ _ _ c.requires.there
    (search rules) c.in_ok-class.ensures.exact c.in_ok-given.ensures.exact
