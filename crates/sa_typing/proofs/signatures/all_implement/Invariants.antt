use Rattle.std.proofs.Common.{◌≡◌, drop}
use Rattle.sa_typing.specs.Rows.{rows}
use Rattle.sa_typing.specs.Signatures.{all_implement}
use Rattle.sa_typing.proofs.signatures.all_implement.Given as goal

abbrev pub invariant-loop-implementation : goal.invariant-loop-implementation
invariant-loop-implementation l = all_implement (rows l.view) l.shape l.upper l.impls ≡ all_implement (rows l.view) l.shape l.upper (drop l.implementation-index l.impls)
