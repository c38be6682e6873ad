use Rattle.std.proofs.Common.{◌≡◌, Some, arith, rules, ◌≢◌, ◌+◌}
use Rattle.sa_lexer.specs.declared.token.TokenKind.TheVariants as token
use Rattle.sa_lexer.specs.declared.sign.Sign.TheVariants as sign
use Rattle.sa_parser_expr.specs.Positions.{kind_at}
use Rattle.sa_parser.proofs.SpelledStatements.{IsNames-one, more_names, all_names}
use Rattle.sa_parser_expr.specs.StatementForms.{name_form}
use Rattle.sa_parser_expr.proofs.Runs.{taken, takes, handed_on, first_listed, next_taken, all_listed, first_refused, next_refused}
use Rattle.sa_parser.proofs.ExactStatements as exact
use Rattle.sa_parser.proofs.names.lower_names.Goals as goal

pub more-init : goal.more-init
more-init c = record {
  following = c.in_ok-first.ensures.next;
  count = grind arith;
  spelled = rw (c.in_ok-push.ensures.items, c.new-names.ensures.items) (IsNames-one c.in_ok-first.ensures.spelled);
  listed = rw (c.in_ok-push.ensures.items, c.new-names.ensures.items) (first_listed c.args.tokens.now (taken c.args.tokens.now c.in_ok-first.ensures.exact));
}

pub more-preserved : goal.more-preserved
more-preserved c =
    let begun = c.more.invariant in
    let comma : kind_at c.args.tokens.now.list.now c.more.next ≡ Some (token.Sign sign.Comma) = search rules in
    let one = c.in_ok-name.ensures in
    record {
      following = (omega (arith, begun.following.0, one.next.0), one.next.1);
      count = grind arith;
      spelled = more_names c.args.tokens.now c.args.from c.more.next _ _ _ _ comma begun.spelled one.spelled (omega (arith, begun.following.0)) (omega (arith, one.next.0)) (first_of (cc, search rules, grind arith));
      listed = next_taken c.args.tokens.now begun.listed comma one.exact (first_of (cc, search rules, grind arith));
    }

pub returns-clause-spelled : goal.returns-clause-spelled
returns-clause-spelled c = all_names c.args.tokens.now c.args.from c.more.next _ _ c.more.invariant.spelled (first_of (cc, search rules, grind arith))

pub returns-in_err-first-clause-exact : goal.returns-in_err-first-clause-exact
returns-in_err-first-clause-exact c =
    let t = c.args.tokens.now in
    handed_on t name_form c.args.from _ (search rules) c.in_err-first.ensures.exact (λ rest r. first_refused t r)

pub returns-in_err-name-clause-exact : goal.returns-in_err-name-clause-exact
returns-in_err-name-clause-exact c =
    let t = c.args.tokens.now in
    let comma : kind_at t.list.now c.more.next ≡ Some (token.Sign sign.Comma) = search rules in
    handed_on t name_form (c.more.next + 1) _ (search rules) c.in_err-name.ensures.exact (λ rest r. next_refused t c.more.invariant.listed comma r)

pub returns-clause-exact : goal.returns-clause-exact
returns-clause-exact c =
    let t = c.args.tokens.now in
    let other : kind_at t.list.now c.more.next ≢ Some (token.Sign sign.Comma) = search rules in
    exact.same_tree t (takes t (all_listed t c.more.invariant.listed other)) (first_of (cc, search rules, grind arith))
