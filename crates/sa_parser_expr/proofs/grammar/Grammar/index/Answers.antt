use Rattle.std.proofs.Common.{◌+◌, arith, rules}
use Rattle.sa_parser_expr.specs.Enclosures.{outside}
use Rattle.sa_parser_expr.specs.Forms.{expr, list, nest}
use Rattle.sa_parser_expr.proofs.ExactArguments as exact
use Rattle.sa_parser_expr.proofs.Runs.{handed_on, refused_at}
use Rattle.sa_parser_expr.proofs.SpelledExpressions.{places}
use Rattle.sa_parser_expr.proofs.grammar.Grammar.index.Goals as goal

pub returns-clause-spelled : goal.returns-clause-spelled
returns-clause-spelled g c =
    let inside = c.in_ok-places in
    let closes = c.in_ok-after_sign.ensures in
    places c.args.self.now.tokens c.args.self.now.scope c.args.from inside.next _ _ c.requires.there closes.sign inside.ensures.spelled (omega (arith, inside.ensures.next.0)) closes.next.0

pub returns-in_err-places-clause-exact : goal.returns-in_err-places-clause-exact
returns-in_err-places-clause-exact g c =
    let t = c.args.self.now.tokens in
    let s = c.args.self.now.scope in
    handed_on t (list (nest (expr s outside))) (c.args.from + 1) _ (search rules) c.in_err-places.ensures.exact
    (λ rest r. exact.places_refused t s (c.args.from + 1) r)

pub returns-in_err-after_sign-clause-exact : goal.returns-in_err-after_sign-clause-exact
returns-in_err-after_sign-clause-exact g c =
    let t = c.args.self.now.tokens in
    let inside = c.in_ok-places in
    let other = c.in_err-after_sign.ensures in
    refused_at t inside.next _ (search rules) other.fault
    (exact.unclosed_places t c.args.self.now.scope (c.args.from + 1) inside.next _ inside.ensures.exact other.another)

pub returns-clause-exact : goal.returns-clause-exact
returns-clause-exact g c =
    let inside = c.in_ok-places in
    let closes = c.in_ok-after_sign.ensures in
    rw closes.next.0
    (exact.closed_places c.args.self.now.tokens c.args.self.now.scope (c.args.from + 1) inside.next _ inside.ensures.exact closes.sign)
