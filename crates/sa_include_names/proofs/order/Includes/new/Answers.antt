use Rattle.std.proofs.Common.{◌≡◌, rules, Err, subst}
use Rattle.sa_include_names.specs.Tables.{NoneMisused}
use Rattle.sa_include_names.proofs.Verdicts.{includes-right, refuses-cycle}
use Rattle.sa_include_names.proofs.order.Includes.new.Goals as goal

pub returns-in_err-order-clause-refused : goal.returns-in_err-order-clause-refused
returns-in_err-order-clause-refused c =
    let classes = c.args.classes.now in
    let failed : c.from_residual-in_err-order.result ≡ Err c.in_err-order.field-0.0 = search rules in
    let right = subst (NoneMisused classes) c.deref.ensures.value c.in_ok-names_stand.ensures.none in
    λ refusal h. refuses-cycle classes c.in_ok-graph.graph c.in_ok-graph.ensures c.in_ok-arrays.arrays.items refusal c.in_ok-numbers.ensures.differ c.in_ok-arrays.ensures right (c.in_err-order.ensures.cycle refusal cc)

pub returns-clause-right : goal.returns-clause-right
returns-clause-right c =
    let classes = c.args.classes.now in
    let right = subst (NoneMisused classes) c.deref.ensures.value c.in_ok-names_stand.ensures.none in
    includes-right classes c.in_ok-graph.graph c.in_ok-graph.ensures c.in_ok-arrays.arrays.items c.in_ok-numbers.ensures.differ c.in_ok-arrays.ensures right c.in_ok-order.ensures.none
