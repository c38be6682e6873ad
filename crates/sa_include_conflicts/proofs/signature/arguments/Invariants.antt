use Rattle.std.proofs.Common.{◌≡◌, map, take}
use Rattle.sa_include_conflicts.specs.Signatures.{argument}
use Rattle.sa_include_conflicts.proofs.signature.arguments.Given as goal

abbrev pub invariant-loop-formal : goal.invariant-loop-formal
invariant-loop-formal l = l.args ≡ map argument (take l.formal-index l.formals)
