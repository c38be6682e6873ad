use Rattle.std.proofs.Common.{◌∙◌, refl}
use Rattle.wa_flatten.proofs.Overwritten.{functions-next}
use Rattle.wa_flatten.proofs.instance.put_all.Goals as goal

pub loop-i-preserved : goal.loop-i-preserved
loop-i-preserved c = record {
  size = c.put.ensures.size ∙ c.loop-i.invariant.size;
  put = functions-next c.args.table.now c.args.funcs.now c.args.from c.loop-i.i _ _ _ _ c.requires c.loop-i-test.true refl c.in_ok-place_behind.ensures c.loop-i.invariant.put c.in_ok-put.ensures.put;
}
