use Rattle.std.proofs.Common.{◌≡◌, ◌∷◌, ap, length, refl, ◌∙◌, arith, rules}
use Rattle.std.specs.Vec.Iter.{into_iter_items}
use Rattle.sa_parser.specs.FeatureForms.{shared_of, shared_parts_form}
use Rattle.sa_parser_expr.specs.StatementForms.{names_form}
use Rattle.sa_parser_expr.proofs.Runs.{takes, handed_on, refused_at, stops}
use Rattle.sa_parser.proofs.ExactCopies as copied
use Rattle.sa_parser.proofs.ExactDeclared as exact
use Rattle.sa_parser.proofs.declared.shared.Goals as goal

pub more-init : goal.more-init
more-init c =
    let names = c.in_ok-names.ensures in
    let colon = c.in_ok-at.ensures in
    record {
      following = (omega (arith, names.next.0, colon.next.0), omega (arith, colon.next.0, colon.next.1));
      at = omega arith;
      count = first_of (grind arith, search rules);
      names = refl;
      left = first_of (search rules, grind arith);
      read = copied.no_copy refl (rw c.new-features.ensures);
    }

pub more-preserved : goal.more-preserved
more-preserved c =
    let t = c.args.tokens.now in
    let begun = c.more.invariant in
    let steps : into_iter_items c.more.name-iterator ≡ c.in-Some.name ∷ into_iter_items c.next.new.self = c.in-Some.ensures.steps.0 in
    let one = c.in_ok-parts in
    record {
      following = (omega (arith, c.in_ok-names.ensures.next.0, c.in_ok-at.ensures.next.0, one.ensures.next.0), one.ensures.next.1);
      at = omega (arith, one.ensures.next.0);
      count =
          let was = begun.count in
          let gone = c.in-Some.ensures.steps.1 in
          let longer = ap length c.in_ok-push.ensures.ok ∙ exact.length-one c.more.features _ in
          first_of (omega arith, grind arith);
      names = copied.one_yielded _ _ _ _ c.in-Some.name begun.names steps;
      left =
          let was = begun.left in
          let gone = c.in-Some.ensures.steps.1 in
          let short = ap length steps in
          omega arith;
      read =
          copied.next_copy t shared_parts_form (shared_of c.args.access) c.in_ok-at.at c.more.end one.following _ _ _ c.in-Some.name one.parts
          begun.read one.ensures.exact (first_of (cc, search rules, grind arith));
    }

pub returns-in_err-names-clause-exact : goal.returns-in_err-names-clause-exact
returns-in_err-names-clause-exact c =
    let t = c.args.tokens.now in
    handed_on t names_form c.args.from _ (search rules) c.in_err-names.ensures.exact (λ rest r. exact.as_shared t c.args.access (stops t r))

pub returns-in_err-at-clause-exact : goal.returns-in_err-at-clause-exact
returns-in_err-at-clause-exact c =
    let t = c.args.tokens.now in
    let names = c.in_ok-names in
    let other = c.in_err-at.ensures in
    refused_at t names.next _ (search rules) other.fault
    (exact.as_shared t c.args.access
    (copied.behind_names t shared_parts_form (shared_of c.args.access) c.args.from names.next _ names.ensures.exact
    (copied.no_colon t shared_parts_form (shared_of c.args.access) names.next _ other.another)))

pub returns-in_err-parts-clause-exact : goal.returns-in_err-parts-clause-exact
returns-in_err-parts-clause-exact c =
    let t = c.args.tokens.now in
    let names = c.in_ok-names in
    let colon = c.in_ok-at.ensures in
    handed_on t shared_parts_form c.in_ok-at.at _ (search rules) c.in_err-parts.ensures.exact
    (λ rest r. exact.as_shared t c.args.access
    (copied.shared_refused t shared_parts_form (shared_of c.args.access) c.args.from names.next _ names.ensures.exact colon.sign
    (rw colon.next.0 at r)))

pub returns-clause-exact : goal.returns-clause-exact
returns-clause-exact c =
    let t = c.args.tokens.now in
    let begun = c.more.invariant in
    let names = c.in_ok-names in
    let colon = c.in_ok-at.ensures in
    let all : c.more.yielded ≡ names.names.items =
    copied.all_yielded _ _ _ begun.names (omega (arith, begun.left, c.in-None.ensures.steps.0))
    ∙ c.into_iter-name-iterator.ensures.into_iter_gives.0 in
    takes t (exact.as_shared t c.args.access
    (copied.copies t shared_parts_form (shared_of c.args.access) c.args.from names.next c.more.end _ names.names.items _ names.ensures.exact
    names.ensures.spelled colon.sign
    (rw (all, colon.next.0) at begun.read)))
