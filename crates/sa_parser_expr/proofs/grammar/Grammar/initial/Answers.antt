use Rattle.std.proofs.Common.{arith, rules, ◌+◌}
use Rattle.sa_parser_expr.proofs.SpelledExpressions.{initial_of}
use Rattle.sa_parser_expr.proofs.ExactFirsts as exact
use Rattle.sa_parser_expr.proofs.Runs.{handed_on, stops}
use Rattle.sa_parser_expr.specs.Enclosures.{where_of}
use Rattle.sa_parser_expr.specs.ExpressionForms.{parenthesised_form}
use Rattle.sa_parser_expr.specs.declared.grammar.ConditionScope.TheVariants.{Plain}
use Rattle.sa_parser_expr.proofs.grammar.Grammar.initial.Goals as goal

pub returns-clause-spelled : goal.returns-clause-spelled
returns-clause-spelled g c = λ around.
    let old = c.in_ok-old in
    initial_of c.args.self.now.tokens c.args.self.now.scope around c.args.from _ old.old _ _ _ c.requires.scope c.requires.there old.ensures.spelled (omega (arith, old.ensures.next.0)) (rw (c.in_ok-push.ensures.ok, c.new-given.ensures)) (search rules) (search rules)

pub returns-in_err-old-clause-exact : goal.returns-in_err-old-clause-exact
returns-in_err-old-clause-exact g c = λ around.
    handed_on c.args.self.now.tokens (parenthesised_form Plain) (c.args.from + 1) _ (search rules) c.in_err-old.ensures.exact
    (λ rest r. exact.initial_of c.args.self.now.tokens c.args.self.now.scope
    (where_of around) c.args.from c.requires.scope c.requires.there (stops c.args.self.now.tokens r))

pub returns-clause-exact : goal.returns-clause-exact
returns-clause-exact g c = λ around.
    let old = c.in_ok-old in
    exact.initial c.args.self.now.tokens c.args.self.now.scope
    (where_of around) c.args.from _ old.old _ _ _ c.requires.scope c.requires.there old.ensures.exact (search rules)
    (rw (c.in_ok-push.ensures.ok, c.new-given.ensures)) (search rules)
