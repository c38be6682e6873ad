use Rattle.std.proofs.Common.{rules}
use Rattle.sa_parser.specs.ClassForms.{concrete_head_form, members_inside_form}
use Rattle.sa_parser.proofs.ExactClasses as exact
use Rattle.sa_parser.proofs.class.concrete_class.Goals as goal

pub returns-in_err-next-clause-exact : goal.returns-in_err-next-clause-exact
returns-in_err-next-clause-exact c =
    let t = c.args.tokens.now in
    let kind = c.kind-kind in
    let other = c.in_err-next.ensures in
    exact.made_refused_at t _ kind.result.1 _ (search rules) other.fault
    (exact.behind_kind t c.args.file_kind c.args.from kind.result.1 kind.result.0 kind.ensures.exact
    (exact.no_concrete t c.args.file_kind kind.result.0 kind.result.1 other.another))

pub returns-in_err-head-clause-exact : goal.returns-in_err-head-clause-exact
returns-in_err-head-clause-exact c =
    let t = c.args.tokens.now in
    let kind = c.kind-kind in
    let begun = c.in_ok-next in
    exact.made_on t _ concrete_head_form begun.next _ (search rules) c.in_err-head.ensures.exact
    (λ rest r. exact.behind_kind t c.args.file_kind c.args.from kind.result.1 kind.result.0 kind.ensures.exact
    (exact.concrete_head_refused t c.args.file_kind kind.result.0 kind.result.1 begun.ensures.word (rw begun.ensures.next.0 at r)))

pub returns-in_err-inside-clause-exact : goal.returns-in_err-inside-clause-exact
returns-in_err-inside-clause-exact c =
    let t = c.args.tokens.now in
    let kind = c.kind-kind in
    let begun = c.in_ok-next in
    let head = c.in_ok-head in
    exact.made_on t _ (members_inside_form (exact.around t c.args.file_kind kind.result.0 head.head)) head.next _ (search rules)
    c.in_err-inside.ensures.exact
    (λ rest r. exact.behind_kind t c.args.file_kind c.args.from kind.result.1 kind.result.0 kind.ensures.exact
    (exact.concrete_inside_refused t c.args.file_kind kind.result.0 kind.result.1 head.next head.head begun.ensures.word
    (rw begun.ensures.next.0 at head.ensures.exact) r))

pub returns-clause-exact : goal.returns-clause-exact
returns-clause-exact c =
    let t = c.args.tokens.now in
    let kind = c.kind-kind in
    let begun = c.in_ok-next in
    let head = c.in_ok-head in
    let inside = c.in_ok-inside in
    exact.concrete_class t c.args.file_kind c.args.place c.args.from kind.result.1 head.next inside.next kind.result.0 head.head _ _
    kind.ensures.exact begun.ensures.word
    (rw begun.ensures.next.0 at head.ensures.exact) inside.ensures.exact c.whole_class.ensures
