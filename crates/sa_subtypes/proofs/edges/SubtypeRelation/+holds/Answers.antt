use Rattle.std.proofs.Common.{rules}
use Rattle.sa_subtypes.specs.SubtypeTest.{tops_in, climbs_in, immutable_in}
use Rattle.sa_subtypes.proofs.Bounding.{args-refused, args-finished, Rout-result, Iter-result, result-fixed, result-free}
use Rattle.sa_subtypes.proofs.edges.SubtypeRelation.+holds.Goals as goal

pub args_hold-returns-then-not-arg_holds : goal.args_hold-returns-then-not-arg_holds
args_hold-returns-then-not-arg_holds t c =
    args-refused (tops_in c.args.self.now) (climbs_in c.args.self.now) (immutable_in c.args.self.now) c.args.list.now c.args.others.now c.loop-i.i c.args.turned c.loop-i.invariant c.if-list-others.false c.index-list-i.result c.index-others-i.result c.arg_holds.result c.loop-i-test.true c.index-list-i.is c.index-others-i.is c.arg_holds.ensures (search rules)

pub args_hold-returns : goal.args_hold-returns
args_hold-returns t c = args-finished (tops_in c.args.self.now) (climbs_in c.args.self.now) (immutable_in c.args.self.now) c.args.list.now c.args.others.now c.loop-i.i c.args.turned c.loop-i.invariant c.if-list-others.false c.loop-i-test.false

pub holds-returns-else-not-args_hold : goal.holds-returns-else-not-args_hold
holds-returns-else-not-args_hold t c =
    Rout-result (tops_in c.args.self.now) (climbs_in c.args.self.now) (immutable_in c.args.self.now) c.args.one.now c.args.other.now c.in-Rout.args c.in-Rout-other.others c.in-Rout.result c.in-Rout-other.other_result c.args.turned c.in-Rout.field-2 c.in-Rout-other.field-2 c.in-Rout.is c.in-Rout-other.is c.is_topped.result c.args_hold.result c.result_holds.result c.as_slice.result.now c.as_slice-in-Rout-other.result.now c.is_topped.ensures (search rules) c.as_slice.ensures c.as_slice-in-Rout-other.ensures c.args_hold.ensures (search rules) c.result_holds.ensures

pub holds-returns-else-not-args_hold-2 : goal.holds-returns-else-not-args_hold-2
holds-returns-else-not-args_hold-2 t c =
    Iter-result (tops_in c.args.self.now) (climbs_in c.args.self.now) (immutable_in c.args.self.now) c.args.one.now c.args.other.now c.in-Iter.args c.in-Iter-other.others c.in-Iter.result c.in-Iter-other.other_result c.args.turned c.in-Iter.field-2 c.in-Iter-other.field-2 c.in-Iter.is c.in-Iter-other.is c.is_topped-in-Iter-other.result c.args_hold-in-Iter-other.result c.result_holds-in-Iter-other.result c.as_slice-in-Iter-other.result.now c.as_slice-in-Iter-other-2.result.now c.is_topped-in-Iter-other.ensures (search rules) c.as_slice-in-Iter-other.ensures c.as_slice-in-Iter-other-2.ensures c.args_hold-in-Iter-other.ensures (search rules) c.result_holds-in-Iter-other.ensures

pub result_holds-returns-then-is_fixed : goal.result_holds-returns-then-is_fixed
result_holds-returns-then-is_fixed t c =
    result-fixed (tops_in c.args.self.now) (climbs_in c.args.self.now) (immutable_in c.args.self.now) c.args.of.now c.args.other.now c.in-Some.one c.in-Some-other.other c.get-one.result.now c.get-other.result.now c.args.turned c.is_fixed.result c.eq.result c.in-Some.is c.in-Some-other.is c.get-one.ensures c.get-other.ensures c.is_fixed.ensures c.if-is_fixed.true c.eq.ensures.value

pub result_holds-returns-else-is_fixed : goal.result_holds-returns-else-is_fixed
result_holds-returns-else-is_fixed t c =
    result-free (tops_in c.args.self.now) (climbs_in c.args.self.now) (immutable_in c.args.self.now) c.args.of.now c.args.other.now c.in-Some.one c.in-Some-other.other c.get-one.result.now c.get-other.result.now c.args.turned c.is_fixed.result c.holds.result c.in-Some.is c.in-Some-other.is c.get-one.ensures c.get-other.ensures c.is_fixed.ensures c.if-is_fixed.false c.holds.ensures
