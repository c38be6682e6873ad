use Rattle.std.proofs.Common.{◌≡◌, ◌∷◌, ap, length, refl, ◌∙◌, arith, rules}
use Rattle.std.specs.Vec.Iter.{into_iter_items}
use Rattle.sa_parser_expr.specs.Forms.{nest, type}
use Rattle.sa_parser_expr.specs.StatementForms.{names_form}
use Rattle.sa_parser_expr.proofs.Runs.{handed_on, refused_at, stops}
use Rattle.sa_parser.specs.Signatures.{formal_of}
use Rattle.sa_parser.proofs.ExactCopies as copied
use Rattle.sa_parser.proofs.ExactSignatures as exact
use Rattle.sa_parser.proofs.signature.formal.Goals as goal

pub more-init : goal.more-init
more-init c =
    let names = c.in_ok-names.ensures in
    let colon = c.in_ok-at.ensures in
    record {
      following = (omega (arith, c.read_mode-mode.ensures.from, names.next.0, colon.next.0), omega (arith, colon.next.0, colon.next.1));
      names = refl;
      left = first_of (search rules, grind arith);
      read = copied.no_copy refl (rw c.new-list.ensures.items);
    }

pub more-preserved : goal.more-preserved
more-preserved c =
    let begun = c.more.invariant in
    let steps : into_iter_items c.more.local-iterator ≡ c.in-Some.local ∷ into_iter_items c.next.new.self = c.in-Some.ensures.steps.0 in
    let one = c.in_ok-ty in
    record {
      following = (
        omega (arith, c.read_mode-mode.ensures.from, c.in_ok-names.ensures.next.0, c.in_ok-at.ensures.next.0, one.ensures.next.0),
        one.ensures.next.1,
      );
      names = copied.one_yielded _ _ _ _ c.in-Some.local begun.names steps;
      left =
          let was = begun.left in
          let gone = c.in-Some.ensures.steps.1 in
          let short = ap length steps in
          omega arith;
      read =
          copied.next_copy c.args.tokens.now (nest type) _ c.in_ok-at.at c.more.end one.following _ _ _ c.in-Some.local one.ty begun.read
          one.ensures.exact (first_of (cc, search rules, grind arith));
    }

pub returns-in_err-names-clause-exact : goal.returns-in_err-names-clause-exact
returns-in_err-names-clause-exact c =
    let t = c.args.tokens.now in
    let mode = c.read_mode-mode in
    handed_on t names_form mode.result.1 _ (search rules) c.in_err-names.ensures.exact
    (λ rest r. exact.behind_mode t c.args.callable c.args.from mode.result.1 mode.result.0 mode.ensures.exact (stops t r))

pub returns-in_err-at-clause-exact : goal.returns-in_err-at-clause-exact
returns-in_err-at-clause-exact c =
    let t = c.args.tokens.now in
    let mode = c.read_mode-mode in
    let names = c.in_ok-names in
    let other = c.in_err-at.ensures in
    refused_at t names.next _ (search rules) other.fault
    (exact.behind_mode t c.args.callable c.args.from mode.result.1 mode.result.0 mode.ensures.exact
    (copied.behind_names t (nest type) (formal_of mode.result.0) mode.result.1 names.next _ names.ensures.exact
    (copied.no_colon t (nest type) (formal_of mode.result.0) names.next _ other.another)))

pub returns-in_err-ty-clause-exact : goal.returns-in_err-ty-clause-exact
returns-in_err-ty-clause-exact c =
    let t = c.args.tokens.now in
    let mode = c.read_mode-mode in
    let names = c.in_ok-names in
    let colon = c.in_ok-at.ensures in
    handed_on t (nest type) c.in_ok-at.at _ (search rules) c.in_err-ty.ensures.exact
    (λ rest r. exact.behind_mode t c.args.callable c.args.from mode.result.1 mode.result.0 mode.ensures.exact
    (copied.shared_refused t (nest type) (formal_of mode.result.0) mode.result.1 names.next _ names.ensures.exact colon.sign
    (rw colon.next.0 at r)))

pub returns-clause-exact : goal.returns-clause-exact
returns-clause-exact c =
    let t = c.args.tokens.now in
    let mode = c.read_mode-mode in
    let begun = c.more.invariant in
    let names = c.in_ok-names in
    let colon = c.in_ok-at.ensures in
    let all : c.more.yielded ≡ names.names.items =
    copied.all_yielded _ _ _ begun.names (omega (arith, begun.left, c.in-None.ensures.steps.0))
    ∙ c.into_iter-local-iterator.ensures.into_iter_gives.0 in
    exact.formal t c.args.callable c.args.from mode.result.1 names.next c.more.end mode.result.0 _ names.names.items _ _
    mode.ensures.exact names.ensures.exact names.ensures.spelled colon.sign
    (rw (all, colon.next.0) at begun.read) (c.from_vec.ensures ∙ c.shrink_to_fit.ensures.items)
