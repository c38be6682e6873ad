use Rattle.std.proofs.Common.{arith, rules, ◌+◌}
use Rattle.sa_parser_expr.proofs.SpelledExpressions.{items}
use Rattle.sa_parser_expr.proofs.ExactFirsts as exact
use Rattle.sa_parser_expr.proofs.Runs.{taken, handed_on, refused_at, stops, unclosed}
use Rattle.sa_parser_expr.specs.Enclosures.{in_array}
use Rattle.sa_parser_expr.specs.Forms.{list, nest, expr}
use Rattle.sa_parser_expr.proofs.grammar.Grammar.items.Goals as goal

pub returns-clause-spelled : goal.returns-clause-spelled
returns-clause-spelled g c =
    let inside = c.in_ok-items in
    let closes = c.in_ok-next.ensures in
    items c.args.self.now.tokens c.args.self.now.scope c.args.from inside.next _ _ _ c.requires.there closes.sign inside.ensures.spelled (omega (arith, inside.ensures.next.0)) closes.next.0 (search rules)

pub returns-in_err-items-clause-exact : goal.returns-in_err-items-clause-exact
returns-in_err-items-clause-exact g c =
    handed_on c.args.self.now.tokens (list (nest (expr c.args.self.now.scope in_array))) (c.args.from + 1) _
    (search rules) c.in_err-items.ensures.exact
    (λ rest r. exact.behind_bar c.args.self.now.tokens c.args.self.now.scope c.args.from c.requires.there
    (stops c.args.self.now.tokens (stops c.args.self.now.tokens r)))

pub returns-in_err-next-clause-exact : goal.returns-in_err-next-clause-exact
returns-in_err-next-clause-exact g c =
    let inside = c.in_ok-items in
    let other = c.in_err-next.ensures in
    refused_at c.args.self.now.tokens inside.next _ (search rules) other.fault
    (exact.behind_bar c.args.self.now.tokens c.args.self.now.scope c.args.from c.requires.there
    (stops c.args.self.now.tokens (unclosed c.args.self.now.tokens inside.next (taken c.args.self.now.tokens inside.ensures.exact)
    other.another)))

pub returns-clause-exact : goal.returns-clause-exact
returns-clause-exact g c =
    let inside = c.in_ok-items in
    let closes = c.in_ok-next.ensures in
    rw closes.next.0
    (exact.items c.args.self.now.tokens c.args.self.now.scope c.args.from inside.next _ _ c.requires.there
    (search rules) closes.sign inside.ensures.exact)
