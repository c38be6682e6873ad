-- How many branches may still nest, and a superblock before the sides that it has.
use Rattle.std.proofs.Common.{◌+◌, ◌*◌}
use Rattle.sa_emit.proofs.superblock.+superblock.Given as goal

abbrev pub decreases-emit_superblock : goal.decreases-emit_superblock
decreases-emit_superblock l = 2 * l.depth + 1

abbrev pub decreases-emit_side : goal.decreases-emit_side
decreases-emit_side l = 2 * l.depth
