use Rattle.std.proofs.Common.{ap, rules}
use Rattle.sa_parser_expr.proofs.Openings.{word_closed, word_unclosed}
use Rattle.sa_parser_expr.proofs.Runs.{taken, takes, stops}
use Rattle.sa_parser.specs.declared.class.ClassBody.{ClassBody}
use Rattle.sa_parser.specs.ClassForms.{signatures_form}
use Rattle.sa_parser.proofs.ExactClasses as exact
use Rattle.sa_parser.proofs.class.abstract_inside.Goals as goal

pub returns-in_err-next-clause-exact : goal.returns-in_err-next-clause-exact
returns-in_err-next-clause-exact c =
    let t = c.args.tokens.now in
    let other = c.in_err-next.ensures in
    exact.made_refused_at t _ c.args.from _ (search rules) other.fault (exact.no_is t signatures_form c.args.from other.another)

pub returns-in_err-features-clause-exact : goal.returns-in_err-features-clause-exact
returns-in_err-features-clause-exact c =
    let t = c.args.tokens.now in
    let is = c.in_ok-next in
    exact.made_on t _ signatures_form is.next _ (search rules) c.in_err-features.ensures.exact
    (λ rest r. exact.behind_is t signatures_form c.args.from is.ensures.word (stops t (rw is.ensures.next.0 at r)))

pub returns-in_err-next-2-clause-exact : goal.returns-in_err-next-2-clause-exact
returns-in_err-next-2-clause-exact c =
    let t = c.args.tokens.now in
    let is = c.in_ok-next in
    let features = c.in_ok-features in
    let other = c.in_err-next-2.ensures in
    exact.made_refused_at t _ features.next _ (search rules) other.fault
    (exact.behind_is t signatures_form c.args.from is.ensures.word
    (word_unclosed t features.next (taken t (rw is.ensures.next.0 at features.ensures.exact)) other.another))

pub returns-clause-exact : goal.returns-clause-exact
returns-clause-exact c =
    let t = c.args.tokens.now in
    let is = c.in_ok-next in
    let features = c.in_ok-features in
    let ends = c.in_ok-next-2.ensures in
    record {
      written = features.features;
      taken = rw ends.next.0 (takes t
          (exact.behind_is t signatures_form c.args.from is.ensures.word
          (word_closed t features.next (taken t (rw is.ensures.next.0 at features.ensures.exact)) ends.word)));
      same = ap
          (λ (inside : ClassBody).
          record { includes = inside.includes; features = features.features; clauses = inside.clauses; invariant = inside.invariant })
          c.new-inside.ensures.exact;
    }
