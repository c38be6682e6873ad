use Rattle.std.proofs.Common.{◌≡◌, ◌≢◌, ◌+◌, [], ◌∷◌, Some, arith, rules}
use Rattle.sa_lexer.specs.declared.token.TokenKind.TheVariants as token
use Rattle.sa_lexer.specs.declared.sign.Sign.TheVariants as sign
use Rattle.sa_parser_expr.specs.Positions.{kind_at}
use Rattle.sa_parser_expr.proofs.Runs.{taken, takes, handed_on, first_listed, next_taken, all_listed, first_refused, next_refused}
use Rattle.sa_parser.specs.ClassForms.{param_form}
use Rattle.sa_parser.proofs.class.param_list.Goals as goal

pub more-init : goal.more-init
more-init c =
    let first = c.in_ok-first in
    let pushed : c.push.new.self ≡ first.first ∷ [] = first_of (cc, search rules, grind arith) in
    record {
      following = first.ensures.next;
      listed = rw pushed (first_listed c.args.tokens.now (taken c.args.tokens.now first.ensures.exact));
    }

pub more-preserved : goal.more-preserved
more-preserved c =
    let t = c.args.tokens.now in
    let begun = c.more.invariant in
    let comma : kind_at t.list.now c.more.next ≡ Some (token.Sign sign.Comma) = search rules in
    let one = c.in_ok-param.ensures in
    record {
      following = (omega (arith, begun.following.0, one.next.0), one.next.1);
      listed = next_taken t begun.listed comma one.exact (first_of (cc, search rules, grind arith));
    }

pub returns-in_err-first-clause-exact : goal.returns-in_err-first-clause-exact
returns-in_err-first-clause-exact c =
    let t = c.args.tokens.now in
    handed_on t param_form c.args.from _ (search rules) c.in_err-first.ensures.exact (λ rest r. first_refused t r)

pub returns-in_err-param-clause-exact : goal.returns-in_err-param-clause-exact
returns-in_err-param-clause-exact c =
    let t = c.args.tokens.now in
    let comma : kind_at t.list.now c.more.next ≡ Some (token.Sign sign.Comma) = search rules in
    handed_on t param_form (c.more.next + 1) _ (search rules) c.in_err-param.ensures.exact
    (λ rest r. next_refused t c.more.invariant.listed comma r)

pub returns-clause-exact : goal.returns-clause-exact
returns-clause-exact c =
    let t = c.args.tokens.now in
    let other : kind_at t.list.now c.more.next ≢ Some (token.Sign sign.Comma) = search rules in
    takes t (all_listed t c.more.invariant.listed other)
