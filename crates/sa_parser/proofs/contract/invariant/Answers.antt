use Rattle.std.proofs.Common.{rules}
use Rattle.sa_parser_expr.specs.declared.grammar.ConditionScope.TheVariants.{Plain}
use Rattle.sa_parser_expr.specs.StatementForms.{name_as}
use Rattle.sa_parser.specs.ConditionForms.{condition_form, closing_form, is_bool}
use Rattle.sa_parser_expr.proofs.Runs.{taken, takes, handed_on, refused_at, follows, stops}
use Rattle.sa_parser.proofs.ExactConditions as exact
use Rattle.sa_parser.proofs.contract.invariant.Goals as goal

pub returns-in_err-next-clause-exact : goal.returns-in_err-next-clause-exact
returns-in_err-next-clause-exact c =
    let t = c.args.tokens.now in
    let other = c.in_err-next.ensures in
    refused_at t c.args.from _ (search rules) other.fault (exact.no_colon t c.args.from other.another)

pub returns-in_err-next-2-clause-exact : goal.returns-in_err-next-2-clause-exact
returns-in_err-next-2-clause-exact c =
    let t = c.args.tokens.now in
    let colon = c.in_ok-next in
    handed_on t (name_as is_bool) colon.next _ (search rules) c.in_err-next-2.ensures.exact
    (λ rest r. exact.past_colon t c.args.from colon.next colon.ensures.sign colon.ensures.next.0 (exact.no_bool t colon.next r))

pub returns-in_err-next-3-clause-exact : goal.returns-in_err-next-3-clause-exact
returns-in_err-next-3-clause-exact c =
    let t = c.args.tokens.now in
    let colon = c.in_ok-next in
    let bool = c.in_ok-next-2 in
    let other = c.in_err-next-3.ensures in
    refused_at t bool.next _ (search rules) other.fault
    (exact.past_colon t c.args.from colon.next colon.ensures.sign colon.ensures.next.0
    (exact.past_bool t colon.next bool.next _ bool.ensures.exact bool.ensures.alone (exact.no_is t bool.next other.another)))

pub returns-in_err-next-4-clause-exact : goal.returns-in_err-next-4-clause-exact
returns-in_err-next-4-clause-exact c =
    let t = c.args.tokens.now in
    let colon = c.in_ok-next in
    let bool = c.in_ok-next-2 in
    let is = c.in_ok-next-3 in
    let other = c.in_err-next-4.ensures in
    refused_at t is.next _ (search rules) other.fault
    (exact.past_colon t c.args.from colon.next colon.ensures.sign colon.ensures.next.0
    (exact.past_bool t colon.next bool.next _ bool.ensures.exact bool.ensures.alone
    (exact.past_is t bool.next is.next is.ensures.word is.ensures.next.0 (exact.no_return t is.next other.another))))

pub returns-in_err-holds-clause-exact : goal.returns-in_err-holds-clause-exact
returns-in_err-holds-clause-exact c =
    let t = c.args.tokens.now in
    let colon = c.in_ok-next in
    let bool = c.in_ok-next-2 in
    let is = c.in_ok-next-3 in
    let gives = c.in_ok-next-4 in
    handed_on t (condition_form Plain) gives.next _ (search rules) c.in_err-holds.ensures.exact
    (λ rest r. exact.past_colon t c.args.from colon.next colon.ensures.sign colon.ensures.next.0
    (exact.past_bool t colon.next bool.next _ bool.ensures.exact bool.ensures.alone
    (exact.past_is t bool.next is.next is.ensures.word is.ensures.next.0
    (exact.past_return t is.next gives.next gives.ensures.word gives.ensures.next.0 (stops t r)))))

pub returns-in_err-after_closing-clause-exact : goal.returns-in_err-after_closing-clause-exact
returns-in_err-after_closing-clause-exact c =
    let t = c.args.tokens.now in
    let colon = c.in_ok-next in
    let bool = c.in_ok-next-2 in
    let is = c.in_ok-next-3 in
    let gives = c.in_ok-next-4 in
    let holds = c.in_ok-holds in
    handed_on t (closing_form holds.holds) holds.next _ (search rules) (c.in_err-after_closing.ensures.exact holds.holds)
    (λ rest r. exact.past_colon t c.args.from colon.next colon.ensures.sign colon.ensures.next.0
    (exact.past_bool t colon.next bool.next _ bool.ensures.exact bool.ensures.alone
    (exact.past_is t bool.next is.next is.ensures.word is.ensures.next.0
    (exact.past_return t is.next gives.next gives.ensures.word gives.ensures.next.0 (follows t (taken t holds.ensures.exact) r)))))

pub returns-clause-exact : goal.returns-clause-exact
returns-clause-exact c =
    let t = c.args.tokens.now in
    let colon = c.in_ok-next in
    let bool = c.in_ok-next-2 in
    let is = c.in_ok-next-3 in
    let gives = c.in_ok-next-4 in
    let holds = c.in_ok-holds in
    let closes = c.in_ok-after_closing.ensures in
    takes t
    (exact.past_colon t c.args.from colon.next colon.ensures.sign colon.ensures.next.0
    (exact.past_bool t colon.next bool.next _ bool.ensures.exact bool.ensures.alone
    (exact.past_is t bool.next is.next is.ensures.word is.ensures.next.0
    (exact.past_return t is.next gives.next gives.ensures.word gives.ensures.next.0
    (follows t (taken t holds.ensures.exact) (taken t (closes.exact holds.holds)))))))
