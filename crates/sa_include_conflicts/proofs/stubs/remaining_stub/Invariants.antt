use Rattle.sa_include_conflicts.specs.Sharing.{all_features}
use Rattle.sa_include_conflicts.specs.Stub.{NoStubBefore}
use Rattle.sa_include_conflicts.proofs.stubs.remaining_stub.Given as goal

abbrev pub invariant-loop-place : goal.invariant-loop-place
invariant-loop-place l = NoStubBefore (all_features l.features) l.stays l.place
