use Rattle.std.proofs.Common.{◌≡◌, None, drop}
use Rattle.sa_typing.specs.Signatures.{rise_from}
use Rattle.sa_typing.proofs.signatures.are_rising.Given as goal

abbrev pub invariant-loop-implementation : goal.invariant-loop-implementation
invariant-loop-implementation l = rise_from None l.impls ≡ rise_from l.last (drop l.implementation-index l.impls)
