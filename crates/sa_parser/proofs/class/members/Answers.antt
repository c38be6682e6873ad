use Rattle.std.proofs.Common.{◌≡◌, ◌≢◌, ◌+◌, true, [], Some, arith, rules}
use Rattle.sa_lexer.specs.declared.token.TokenKind.TheVariants as token
use Rattle.sa_lexer.specs.declared.sign.Sign.TheVariants as sign
use Rattle.sa_parser_expr.specs.Positions.{kind_at}
use Rattle.sa_parser.specs.ClassForms.{optional_member_form, none_yet}
use Rattle.sa_parser.specs.Classes.{enclosing}
use Rattle.sa_parser.proofs.ExactClasses.{made_on}
use Rattle.sa_parser.proofs.ExactMembers as exact
use Rattle.sa_parser.proofs.class.members.Goals as goal

pub more-init : goal.more-init
more-init c =
    let t = c.args.tokens.now in
    let first = c.in_ok-next in
    record {
      following = first.ensures.next;
      count = first.ensures.count;
      read = exact.first_inside t (enclosing c.args.class) c.args.class.place c.args.from first.next _
          (first.ensures.exact [] c.new-inside.ensures.exact);
    }

pub more-preserved : goal.more-preserved
more-preserved c =
    let t = c.args.tokens.now in
    let begun = c.more.invariant in
    let semicolon : kind_at t.list.now c.more.next ≡ Some (token.Sign sign.Semicolon) = search rules in
    let one = c.in_ok-next-2.ensures in
    record {
      following = (omega (arith, begun.following.0, one.next.0), one.next.1);
      count = one.count;
      read = exact.next_inside t (enclosing c.args.class) c.args.class.place c.args.from c.more.next _ _ _ begun.read semicolon
          (one.exact begun.read.members begun.read.same);
    }

pub returns-in_err-next-clause-exact : goal.returns-in_err-next-clause-exact
returns-in_err-next-clause-exact c =
    let t = c.args.tokens.now in
    made_on t _ (optional_member_form (enclosing c.args.class) true) c.args.from _ (search rules)
    (c.in_err-next.ensures.exact [] c.new-inside.ensures.exact) (λ rest r. exact.first_refused t (enclosing c.args.class) c.args.from r)

pub returns-in_err-next-2-clause-exact : goal.returns-in_err-next-2-clause-exact
returns-in_err-next-2-clause-exact c =
    let t = c.args.tokens.now in
    let read = c.more.invariant.read in
    let semicolon : kind_at t.list.now c.more.next ≡ Some (token.Sign sign.Semicolon) = search rules in
    made_on t _ (optional_member_form (enclosing c.args.class) (none_yet read.members)) (c.more.next + 1) _ (search rules)
    (c.in_err-next-2.ensures.exact read.members read.same)
    (λ rest r. exact.next_refused t (enclosing c.args.class) c.args.from c.more.next read.members read.read semicolon r)

pub returns-clause-exact : goal.returns-clause-exact
returns-clause-exact c =
    let t = c.args.tokens.now in
    let other : kind_at t.list.now c.more.next ≢ Some (token.Sign sign.Semicolon) = search rules in
    exact.all_inside t (enclosing c.args.class) c.args.class.place c.args.from c.more.next _ c.more.invariant.read other
