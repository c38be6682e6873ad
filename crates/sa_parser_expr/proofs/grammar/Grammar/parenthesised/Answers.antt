use Rattle.std.proofs.Common.{arith, rules}
use Rattle.sa_parser_expr.proofs.SpelledExpressions.{in_parentheses}
use Rattle.sa_parser_expr.proofs.ExactFirsts as exact
use Rattle.sa_parser_expr.proofs.Runs.{taken, takes, handed_on, refused_at, stops, closed, unclosed}
use Rattle.sa_parser_expr.specs.Forms.{nest, expr}
use Rattle.sa_parser_expr.specs.Enclosures.{outside}
use Rattle.sa_parser_expr.proofs.grammar.Grammar.parenthesised.Goals as goal

pub returns-clause-spelled : goal.returns-clause-spelled
returns-clause-spelled g c =
    let opens = c.in_ok-next.ensures in
    let inner = c.in_ok-inner in
    let closes = c.in_ok-after_sign.ensures in
    in_parentheses c.args.self.now.tokens c.args.scope c.args.from inner.next _ _ opens.sign closes.sign (rw opens.next.0 at inner.ensures.spelled) (omega (arith, opens.next.0, inner.ensures.next.0)) closes.next.0

pub returns-in_err-next-clause-exact : goal.returns-in_err-next-clause-exact
returns-in_err-next-clause-exact g c =
    let other = c.in_err-next.ensures in
    refused_at c.args.self.now.tokens c.args.from _ (search rules) other.fault
    (exact.no_paren c.args.self.now.tokens c.args.scope c.args.from other.another)

pub returns-in_err-inner-clause-exact : goal.returns-in_err-inner-clause-exact
returns-in_err-inner-clause-exact g c =
    let opens = c.in_ok-next.ensures in
    handed_on c.args.self.now.tokens (nest (expr c.args.scope outside)) c.in_ok-next.next _ (search rules) c.in_err-inner.ensures.exact
    (λ rest r. exact.behind_paren c.args.self.now.tokens c.args.scope c.args.from opens.sign
    (stops c.args.self.now.tokens (rw opens.next.0 at r)))

pub returns-in_err-after_sign-clause-exact : goal.returns-in_err-after_sign-clause-exact
returns-in_err-after_sign-clause-exact g c =
    let opens = c.in_ok-next.ensures in
    let inner = c.in_ok-inner in
    let other = c.in_err-after_sign.ensures in
    refused_at c.args.self.now.tokens inner.next _ (search rules) other.fault
    (exact.behind_paren c.args.self.now.tokens c.args.scope c.args.from opens.sign
    (unclosed c.args.self.now.tokens inner.next (taken c.args.self.now.tokens (rw opens.next.0 at inner.ensures.exact)) other.another))

pub returns-clause-exact : goal.returns-clause-exact
returns-clause-exact g c =
    let opens = c.in_ok-next.ensures in
    let inner = c.in_ok-inner in
    let closes = c.in_ok-after_sign.ensures in
    rw closes.next.0
    (takes c.args.self.now.tokens (exact.behind_paren c.args.self.now.tokens c.args.scope c.args.from opens.sign
    (closed c.args.self.now.tokens inner.next (taken c.args.self.now.tokens (rw opens.next.0 at inner.ensures.exact)) closes.sign)))
