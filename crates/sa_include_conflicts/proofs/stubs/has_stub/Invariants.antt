use Rattle.std.proofs.Common.{◌≡◌, false, take}
use Rattle.sa_include_conflicts.specs.Stub.{has_stub}
use Rattle.sa_include_conflicts.proofs.stubs.has_stub.Given as goal

abbrev pub invariant-loop-feature : goal.invariant-loop-feature
invariant-loop-feature l = has_stub (take l.feature-index l.features) ≡ false
