use Rattle.std.proofs.Common.{◌≡◌, rules, Err, List, length, subst}
use Rattle.sa_include.specs.Resolved.{AreDone, IsRefusedFrom}
use Rattle.sa_include.specs.declared.resolved.Flattened.{Flattened}
use Rattle.sa_include.proofs.Resolving.{one_more, one_refused}
use Rattle.sa_include.proofs.flattening.resolve.Goals as goal

-- the first class with a refusal is refused, as all before it are resolved
pub returns-in_err-accepted-clause-refused : goal.returns-in_err-accepted-clause-refused
returns-in_err-accepted-clause-refused c =
    let classes = c.args.program.now.classes.now in
    let accepted = c.loop-number.accepted in
    let failed : c.from_residual-in_err-accepted.result ≡ Err c.in_err-accepted.field-0.0 = search rules in
    λ refusal h. one_refused classes c.loop-number.resolved.items c.keep.new.resolved.items accepted _ c.in_ok-flattened.flattened
    c.loop-number.invariant c.in_ok-flattened.ensures c.in_ok-keep.ensures refusal
    (subst (λ (list : List Flattened). IsRefusedFrom list accepted (length classes) refusal) c.as_slice-in-loop-number.ensures.value
    (c.in_err-accepted.ensures.refused refusal cc))

pub loop-number-preserved : goal.loop-number-preserved
loop-number-preserved c =
    let accepted = c.loop-number.accepted in
    let next = c.in_ok-accepted.accepted in
    one_more c.args.program.now.classes.now c.loop-number.resolved.items c.keep.new.resolved.items accepted _ c.in_ok-flattened.flattened
    c.loop-number.invariant c.in_ok-flattened.ensures c.in_ok-keep.ensures next
    (subst (λ (list : List Flattened). AreDone list accepted next) c.as_slice-in-loop-number.ensures.value c.in_ok-accepted.ensures.done)
