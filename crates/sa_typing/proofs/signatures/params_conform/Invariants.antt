use Rattle.std.proofs.Common.{◌≡◌, drop}
use Rattle.sa_typing.specs.Rows.{rows}
use Rattle.sa_typing.specs.Signatures.{params_conform}
use Rattle.sa_typing.proofs.signatures.params_conform.Given as goal

abbrev pub invariant-loop-place : goal.invariant-loop-place
invariant-loop-place l = params_conform (rows l.view) l.found 0 l.params ≡ params_conform (rows l.view) l.found l.place (drop l.place l.params)
