use Rattle.std.proofs.Common.{◌≡◌, ◌≢◌, ◌+◌, ◌++◌, Some, arith, refl, sym, rules}
use Rattle.std.specs.Option.{option_to_list}
use Rattle.std.proofs.lemmas.List.{append-nil}
use Rattle.sa_lexer.specs.declared.token.TokenKind.TheVariants as token
use Rattle.sa_lexer.specs.declared.sign.Sign.TheVariants as sign
use Rattle.sa_parser_expr.specs.Positions.{kind_at}
use Rattle.sa_parser_expr.proofs.Runs.{handed_on}
use Rattle.sa_parser.specs.ClassForms.{optional_sig_form}
use Rattle.sa_parser.proofs.ExactClasses as exact
use Rattle.sa_parser.proofs.class.signatures.Goals as goal
use Rattle.sa_parser.proofs.class.signatures.Goals.{in-Some+in_ok-push, in_default}

pub more-init : goal.more-init
more-init c =
    let t = c.args.tokens.now in
    let first = c.in_ok-first in
    let same : c.match-first.features ≡ option_to_list first.first = elim c.match-first.branch [
      | in-Some+in_ok-push w ↦ first_of (cc, search rules, grind arith)
      | in_default w ↦ first_of (cc, search rules, grind arith)
    ] in
    record { following = first.ensures.next; read = exact.first_signature t c.args.from first.next _ _ first.ensures.exact same }

pub more-preserved : goal.more-preserved
more-preserved c =
    let t = c.args.tokens.now in
    let begun = c.more.invariant in
    let semicolon : kind_at t.list.now c.more.next ≡ Some (token.Sign sign.Semicolon) = search rules in
    let one = c.in_ok-one in
    let same : c.more.features ≡ c.more.features ++ option_to_list one.one = rw c.in_default-one.is (sym (append-nil c.more.features)) in
    record {
      following = (omega (arith, begun.following.0, one.ensures.next.0), one.ensures.next.1);
      read = exact.next_signature t c.args.from c.more.next one.end _ _ _ begun.read semicolon one.ensures.exact same;
    }

pub more-preserved-in_ok-push-2 : goal.more-preserved-in_ok-push-2
more-preserved-in_ok-push-2 c =
    let t = c.args.tokens.now in
    let begun = c.more.invariant in
    let semicolon : kind_at t.list.now c.more.next ≡ Some (token.Sign sign.Semicolon) = search rules in
    let one = c.in_ok-one in
    let same : c.push-in-Some-one.new.self ≡ c.more.features ++ option_to_list one.one = rw c.in-Some-one.is c.in_ok-push-2.ensures.ok in
    record {
      following = (omega (arith, begun.following.0, one.ensures.next.0), one.ensures.next.1);
      read = exact.next_signature t c.args.from c.more.next one.end _ _ _ begun.read semicolon one.ensures.exact same;
    }

pub returns-in_err-first-clause-exact : goal.returns-in_err-first-clause-exact
returns-in_err-first-clause-exact c =
    let t = c.args.tokens.now in
    handed_on t optional_sig_form c.args.from _ (search rules) c.in_err-first.ensures.exact (λ rest r. exact.first_refused t c.args.from r)

pub returns-in_err-one-clause-exact : goal.returns-in_err-one-clause-exact
returns-in_err-one-clause-exact c =
    let t = c.args.tokens.now in
    let semicolon : kind_at t.list.now c.more.next ≡ Some (token.Sign sign.Semicolon) = search rules in
    handed_on t optional_sig_form (c.more.next + 1) _ (search rules) c.in_err-one.ensures.exact
    (λ rest r. exact.next_refused t c.args.from c.more.next _ c.more.invariant.read semicolon r)

pub returns-clause-exact : goal.returns-clause-exact
returns-clause-exact c =
    let t = c.args.tokens.now in
    let other : kind_at t.list.now c.more.next ≢ Some (token.Sign sign.Semicolon) = search rules in
    exact.all_signatures t c.args.from c.more.next _ _ c.more.invariant.read other refl
