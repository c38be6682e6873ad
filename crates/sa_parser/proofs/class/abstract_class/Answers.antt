use Rattle.std.proofs.Common.{rules}
use Rattle.sa_parser.specs.ClassForms.{abstract_head_form, signatures_inside_form}
use Rattle.sa_parser.proofs.ExactClasses as exact
use Rattle.sa_parser.proofs.class.abstract_class.Goals as goal

pub returns-in_err-next-clause-exact : goal.returns-in_err-next-clause-exact
returns-in_err-next-clause-exact c =
    let t = c.args.tokens.now in
    let other = c.in_err-next.ensures in
    λ place. exact.made_refused_at t _ c.args.from _ (search rules) other.fault (exact.no_abstract t c.args.from other.another)

pub returns-in_err-head-clause-exact : goal.returns-in_err-head-clause-exact
returns-in_err-head-clause-exact c =
    let t = c.args.tokens.now in
    let begun = c.in_ok-next in
    λ place. exact.made_on t _ abstract_head_form begun.next _ (search rules) c.in_err-head.ensures.exact
    (λ rest r. exact.abstract_head_refused t c.args.from begun.ensures.word (rw begun.ensures.next.0 at r))

pub returns-in_err-inside-clause-exact : goal.returns-in_err-inside-clause-exact
returns-in_err-inside-clause-exact c =
    let t = c.args.tokens.now in
    let begun = c.in_ok-next in
    let head = c.in_ok-head in
    λ place. exact.made_on t _ signatures_inside_form head.next _ (search rules) c.in_err-inside.ensures.exact
    (λ rest r. exact.abstract_inside_refused t c.args.from head.next _ begun.ensures.word (rw begun.ensures.next.0 at head.ensures.exact) r)

pub returns-clause-exact : goal.returns-clause-exact
returns-clause-exact c =
    let t = c.args.tokens.now in
    let begun = c.in_ok-next in
    let head = c.in_ok-head in
    let inside = c.in_ok-inside in
    λ place. exact.abstract_class t place c.args.from head.next inside.next _ _ _ begun.ensures.word
    (rw begun.ensures.next.0 at head.ensures.exact) inside.ensures.exact c.whole_class.ensures
