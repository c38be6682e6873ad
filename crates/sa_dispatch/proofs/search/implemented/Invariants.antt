use Rattle.std.proofs.Common.{◌≡◌, take}
use Rattle.sa_dispatch.specs.Implementations.{types_of}
use Rattle.sa_dispatch.specs.Rising.{IsRising}
use Rattle.sa_dispatch.proofs.search.implemented.Given as goal

abbrev pub invariant-loop-implementation : goal.invariant-loop-implementation
invariant-loop-implementation l = record {
  rising : IsRising l.types;
  so_far : l.types ≡ types_of (take l.implementation-index l.implementations);
}
