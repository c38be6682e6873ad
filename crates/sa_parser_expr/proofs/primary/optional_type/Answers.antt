use Rattle.std.proofs.Common.{◌≡◌, true, rules, arith}
use Rattle.sa_parser_expr.specs.Expressions as exprs
use Rattle.sa_parser_expr.specs.Forms.{nest, type}
use Rattle.sa_parser_expr.specs.Positions.{kind_at}
use Rattle.sa_parser_expr.specs.Starts.{begins_type}
use Rattle.sa_parser_expr.proofs.ExactTypes.{as_form, type_there, type_absent}
use Rattle.sa_parser_expr.proofs.Runs.{handed_on, makes, stops, taken, takes}
use Rattle.sa_parser_expr.proofs.SpelledExpressions.{no_type}
use Rattle.sa_parser_expr.proofs.Stretches.{occurrence}
use Rattle.sa_parser_expr.proofs.primary.optional_type.Goals as goal

pub returns-then-not-begins_type-clause-spelled : goal.returns-then-not-begins_type-clause-spelled
returns-then-not-begins_type-clause-spelled c = no_type c.args.tokens.now c.args.from

pub returns-clause-spelled : goal.returns-clause-spelled
returns-clause-spelled c = exprs.of_type c.in_ok-ty.ensures.spelled

pub returns-then-not-begins_type-clause-exact : goal.returns-then-not-begins_type-clause-exact
returns-then-not-begins_type-clause-exact c = type_absent c.args.tokens.now c.args.from (search rules)

pub returns-in_err-ty-clause-exact : goal.returns-in_err-ty-clause-exact
returns-in_err-ty-clause-exact c =
    let begins : begins_type (kind_at c.args.tokens.now.list.now c.args.from) ≡ true = search rules in
    let there = occurrence c.args.tokens.now c.args.from (first_of (search rules, omega arith)) in
    handed_on c.args.tokens.now (nest type) c.args.from _ (search rules) c.in_err-ty.ensures.exact
    (λ rest r. type_there c.args.tokens.now c.args.from there.0 there.1 begins (stops c.args.tokens.now (as_form c.args.tokens.now r)))

pub returns-clause-exact : goal.returns-clause-exact
returns-clause-exact c =
    let begins : begins_type (kind_at c.args.tokens.now.list.now c.args.from) ≡ true = search rules in
    let next = c.in_ok-ty.ensures.next in
    let there = occurrence c.args.tokens.now c.args.from (omega (arith, next.0, next.1)) in
    takes c.args.tokens.now
    (type_there c.args.tokens.now c.args.from there.0 there.1 begins
    (makes c.args.tokens.now c.in_ok-ty.next (as_form c.args.tokens.now (taken c.args.tokens.now c.in_ok-ty.ensures.exact))))
