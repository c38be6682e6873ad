use Rattle.std.proofs.Common.{rules}
use Rattle.wa_flatten.specs.Builders.{state_of}
use Rattle.wa_flatten.proofs.Lays.{bodies-next, bodies_of-next}
use Rattle.wa_flatten.proofs.functions.bodies.Goals as goal

pub loop-func-preserved : goal.loop-func-preserved
loop-func-preserved c = record {
  count = (search rules);
  laid = bodies-next c.args.funcs.now c.loop-func.func-index c.func-item.result (state_of c.args.draft.now) (state_of c.loop-func.draft) (state_of c.body.new.draft) c.loop-func-test.true c.func-item.is c.loop-func.invariant.laid c.in_ok-body.ensures.laid;
  made = bodies_of-next c.args.funcs.now c.loop-func.func-index c.func-item.result (state_of c.args.draft.now) (state_of c.loop-func.draft) c.loop-func.bodies.items c.push.new.self.items c.in_ok-body.field-0 c.loop-func-test.true c.func-item.is c.loop-func.invariant.laid c.loop-func.invariant.made c.in_ok-body.ensures.body c.in_ok-push.ensures.items;
}
