use Rattle.std.proofs.Common.{◌≡◌, take}
use Rattle.sa_dispatch.specs.Implementations.{tables_of}
use Rattle.sa_dispatch.proofs.build.implementation_table.Given as goal

abbrev pub invariant-loop-signature : goal.invariant-loop-signature
invariant-loop-signature l = l.rows ≡ tables_of (take l.signature-index l.core.sigs)
