use Rattle.std.proofs.Common.{◌≡◌, length, take}
use Rattle.wa_syntax.specs.Runs.{table_size}
use Rattle.wa_flatten.proofs.Filled.{filled}
use Rattle.wa_flatten.proofs.instance.table.Given as goal

abbrev pub invariant-loop-elem : goal.invariant-loop-elem
invariant-loop-elem l = record {
  size : length l.table ≡ table_size l.m;
  contents : l.table ≡ filled l.m (take l.elem-index l.elems);
}
