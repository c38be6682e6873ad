use Rattle.std.proofs.Common.{take}
use Rattle.std.specs.Prelude.{All}
use Rattle.wa_syntax.specs.ValidModule.{IsSegment}
use Rattle.wa_valid.specs.Names.{names}
use Rattle.wa_valid.proofs.module.data_segments.Given as goal

abbrev pub invariant-loop-segment : goal.invariant-loop-segment
invariant-loop-segment l = All (IsSegment (names l.context)) (take l.segment-index l.segments)
