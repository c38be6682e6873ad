-- A call at no site, of another type than is known of its site, and of this one.
use Rattle.std.proofs.Common.{sym, arith, ◌∙◌}
use Rattle.sa_typing.proofs.SiteLists.{agree_with-another, agree_with-outside, agree_with-same}
use Rattle.sa_typing.proofs.sites.agree_on_types.Goals as goal

pub returns-then-at-len : goal.returns-then-at-len
returns-then-at-len c =
    sym (c.loop-call.invariant ∙ agree_with-outside c.loop-call.known.items c.args.calls.now c.loop-call.call-index (0, 0) (omega arith) (omega arith))

pub returns-then-not-is_known_as : goal.returns-then-not-is_known_as
returns-then-not-is_known_as c =
    sym (c.loop-call.invariant
    ∙ agree_with-another c.loop-call.known.items c.args.calls.now c.loop-call.call-index (0, 0) c.index.result.now c.index.result.now (omega arith) (omega arith) c.index.ensures c.if-not-is_known_as.ensures)

pub loop-call-preserved : goal.loop-call-preserved
loop-call-preserved c =
    c.loop-call.invariant
    ∙ agree_with-same c.loop-call.known.items c.args.calls.now c.loop-call.call-index (0, 0) c.index.result.now c.index.result.now (omega arith) (omega arith) c.index.ensures c.if-not-is_known_as.ensures
