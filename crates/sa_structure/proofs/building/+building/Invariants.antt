use Rattle.std.proofs.Common.{◌+◌, ◌*◌}
use Rattle.sa_structure.proofs.building.+building.Given as goal

abbrev pub decreases-list_of : goal.decreases-list_of
decreases-list_of l = 4 * l.depth + 3

abbrev pub decreases-stage_piece : goal.decreases-stage_piece
decreases-stage_piece l = 4 * l.depth + 2

abbrev pub decreases-block_of : goal.decreases-block_of
decreases-block_of l = 4 * l.depth + 1

abbrev pub decreases-branch_of : goal.decreases-branch_of
decreases-branch_of l = 4 * l.depth
