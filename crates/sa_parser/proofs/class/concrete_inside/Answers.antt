use Rattle.std.proofs.Common.{rules}
use Rattle.sa_parser_expr.proofs.Openings.{word_closed, word_unclosed}
use Rattle.sa_parser_expr.proofs.Runs.{taken, takes, stops}
use Rattle.sa_parser.specs.ClassForms.{members_form}
use Rattle.sa_parser.specs.Classes.{enclosing}
use Rattle.sa_parser.proofs.ExactClasses as exact
use Rattle.sa_parser.proofs.class.concrete_inside.Goals as goal

pub returns-in_err-next-clause-exact : goal.returns-in_err-next-clause-exact
returns-in_err-next-clause-exact c =
    let t = c.args.tokens.now in
    let other = c.in_err-next.ensures in
    exact.made_refused_at t _ c.args.from _ (search rules) other.fault
    (exact.no_is t (members_form (enclosing c.args.class)) c.args.from other.another)

pub returns-in_err-inside-clause-exact : goal.returns-in_err-inside-clause-exact
returns-in_err-inside-clause-exact c =
    let t = c.args.tokens.now in
    let is = c.in_ok-next in
    exact.made_on t _ (members_form (enclosing c.args.class)) is.next _ (search rules) c.in_err-inside.ensures.exact
    (λ rest r. exact.behind_is t (members_form (enclosing c.args.class)) c.args.from is.ensures.word (stops t (rw is.ensures.next.0 at r)))

pub returns-in_err-next-2-clause-exact : goal.returns-in_err-next-2-clause-exact
returns-in_err-next-2-clause-exact c =
    let t = c.args.tokens.now in
    let is = c.in_ok-next in
    let inside = c.in_ok-inside in
    let other = c.in_err-next-2.ensures in
    exact.made_refused_at t _ inside.next _ (search rules) other.fault
    (exact.behind_is t (members_form (enclosing c.args.class)) c.args.from is.ensures.word
    (word_unclosed t inside.next (taken t (rw is.ensures.next.0 at inside.ensures.exact.taken)) other.another))

pub returns-clause-exact : goal.returns-clause-exact
returns-clause-exact c =
    let t = c.args.tokens.now in
    let is = c.in_ok-next in
    let inside = c.in_ok-inside in
    let ends = c.in_ok-next-2.ensures in
    record {
      written = inside.ensures.exact.written;
      taken = rw ends.next.0 (takes t
          (exact.behind_is t (members_form (enclosing c.args.class)) c.args.from is.ensures.word
          (word_closed t inside.next (taken t (rw is.ensures.next.0 at inside.ensures.exact.taken)) ends.word)));
      same = inside.ensures.exact.same;
    }
