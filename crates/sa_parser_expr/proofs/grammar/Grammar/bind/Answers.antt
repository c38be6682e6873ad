use Rattle.std.proofs.Common.{arith, rules, ◌+◌}
use Rattle.sa_parser_expr.proofs.SpelledExpressions.{bind}
use Rattle.sa_parser_expr.proofs.ExactFirsts as exact
use Rattle.sa_parser_expr.proofs.Runs.{taken, handed_on, refused_at, stops, unclosed}
use Rattle.sa_parser_expr.specs.Enclosures.{where_of, outside}
use Rattle.sa_parser_expr.specs.Forms.{nest, post}
use Rattle.sa_parser_expr.proofs.grammar.Grammar.bind.Goals as goal

pub returns-clause-spelled : goal.returns-clause-spelled
returns-clause-spelled g c = λ around.
    let opens = c.in_ok-next.ensures in
    let inner = c.in_ok-head in
    let closes = c.in_ok-next-2.ensures in
    bind c.args.self.now.tokens c.args.self.now.scope around c.args.from inner.next _ _ _ _ c.requires.there opens.sign closes.sign (rw opens.next.0 at inner.ensures.spelled) (omega (arith, opens.next.0, inner.ensures.next.0)) closes.next.0 (search rules) (search rules)

pub returns-in_err-next-clause-exact : goal.returns-in_err-next-clause-exact
returns-in_err-next-clause-exact g c = λ around.
    let other = c.in_err-next.ensures in
    refused_at c.args.self.now.tokens (c.args.from + 1) _ (search rules) other.fault
    (exact.bind_alone c.args.self.now.tokens c.args.self.now.scope (where_of around) c.args.from c.requires.there other.another)

pub returns-in_err-head-clause-exact : goal.returns-in_err-head-clause-exact
returns-in_err-head-clause-exact g c = λ around.
    let opens = c.in_ok-next.ensures in
    handed_on c.args.self.now.tokens (nest (post c.args.self.now.scope outside)) c.in_ok-next.next _
    (search rules) c.in_err-head.ensures.exact
    (λ rest r. exact.behind_bind c.args.self.now.tokens c.args.self.now.scope (where_of around) c.args.from c.requires.there opens.sign
    (stops c.args.self.now.tokens (stops c.args.self.now.tokens (rw opens.next.0 at r))))

pub returns-in_err-next-2-clause-exact : goal.returns-in_err-next-2-clause-exact
returns-in_err-next-2-clause-exact g c = λ around.
    let opens = c.in_ok-next.ensures in
    let inner = c.in_ok-head in
    let other = c.in_err-next-2.ensures in
    refused_at c.args.self.now.tokens inner.next _ (search rules) other.fault
    (exact.behind_bind c.args.self.now.tokens c.args.self.now.scope (where_of around) c.args.from c.requires.there opens.sign
    (stops c.args.self.now.tokens (unclosed c.args.self.now.tokens inner.next
    (taken c.args.self.now.tokens (rw opens.next.0 at inner.ensures.exact)) other.another)))

pub returns-clause-exact : goal.returns-clause-exact
returns-clause-exact g c = λ around.
    let opens = c.in_ok-next.ensures in
    let inner = c.in_ok-head in
    let closes = c.in_ok-next-2.ensures in
    rw closes.next.0
    (exact.bind c.args.self.now.tokens c.args.self.now.scope (where_of around) c.args.from inner.next _ _ _ c.requires.there
    (search rules) opens.sign closes.sign
    (rw opens.next.0 at inner.ensures.exact) (search rules))
