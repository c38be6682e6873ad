use Rattle.std.proofs.Common.{◌≡◌, length, map, take}
use Rattle.std.specs.Prelude.{Some}
use Rattle.wa_syntax.specs.Operations.{overwritten}
use Rattle.wa_flatten.proofs.instance.put_all.Given as goal

abbrev pub invariant-loop-i : goal.invariant-loop-i
invariant-loop-i l = record {
  size : length l.table ≡ length l.initial.table;
  put : l.table ≡ overwritten l.initial.table l.from (map (λ func. Some func) (take l.i l.funcs));
}
