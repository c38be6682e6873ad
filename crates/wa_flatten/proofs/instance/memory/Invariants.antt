use Rattle.std.proofs.Common.{◌≡◌, take, vec_len}
use Rattle.wa_syntax.specs.Runs.{memory_size}
use Rattle.wa_flatten.proofs.Filled.{written}
use Rattle.wa_flatten.proofs.instance.memory.Given as goal

abbrev pub invariant-loop-segment : goal.invariant-loop-segment
invariant-loop-segment l = record {
  size : vec_len l.bytes ≡ memory_size l.m;
  contents : l.bytes.items ≡ written l.m (take l.segment-index l.m.segments);
}
