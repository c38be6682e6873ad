use Rattle.std.proofs.Common.{◌≡◌, drop}
use Rattle.sa_emit.specs.Tables.{are_resumed}
use Rattle.sa_emit.proofs.verifier.are_resumed.Given as goal

abbrev pub invariant-loop-block : goal.invariant-loop-block
invariant-loop-block l = are_resumed l.blocks ≡ are_resumed (drop l.block-index l.blocks)
