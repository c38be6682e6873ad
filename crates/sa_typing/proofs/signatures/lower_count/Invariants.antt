use Rattle.std.proofs.Common.{◌≡◌, ◌≤◌, take}
use Rattle.std.specs.Prelude.{count_by}
use Rattle.sa_typing.specs.Signatures.{is_lower}
use Rattle.sa_typing.proofs.signatures.lower_count.Given as goal

abbrev pub invariant-loop-info : goal.invariant-loop-info
invariant-loop-info l = record {
  few : l.count ≤ l.info-index;
  so_far : l.count ≡ count_by (is_lower l.ty) (take l.info-index l.view.types.now);
}
