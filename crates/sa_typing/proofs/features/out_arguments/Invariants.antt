use Rattle.std.proofs.Common.{◌≡◌, ◌≤◌, take}
use Rattle.std.specs.Prelude.{count_by}
use Rattle.sa_typing.specs.Features.{is_out}
use Rattle.sa_typing.proofs.features.out_arguments.Given as goal

abbrev pub invariant-loop-mode : goal.invariant-loop-mode
invariant-loop-mode l = record {
  few : l.count ≤ l.mode-index;
  so_far : l.count ≡ count_by is_out (take l.mode-index l.modes);
}
