use Rattle.std.proofs.Common.{List, refl, ap, subst, true≢false}
use Rattle.std.specs.Prelude.{All, is_ok}
use Rattle.std.proofs.lemmas.List.{take_all}
use Rattle.wa_valid.proofs.Elements.{All-more_item}
use Rattle.wa_syntax.specs.declared.module.DataSegment.{DataSegment}
use Rattle.wa_syntax.specs.ValidModule.{IsSegment}
use Rattle.wa_valid.specs.Names.{names}
use Rattle.wa_valid.proofs.module.data_segments.Goals as goal

pub loop-segment-preserved : goal.loop-segment-preserved
loop-segment-preserved c =
    All-more_item (IsSegment (names c.args.context.now)) c.args.segments.now c.loop-segment.segment-index c.segment-item.result c.loop-segment-test.true c.segment-item.is c.loop-segment.invariant (c.in_ok-data_segment.ensures.0 refl)

pub returns : goal.returns
returns c = (
  λ ok. subst (λ (all : List DataSegment). All (IsSegment (names c.args.context.now)) all) (take_all c.loop-segment.segment-index c.args.segments.now c.loop-segment-test.false) c.loop-segment.invariant,
  λ is. absurd (true≢false (ap is_ok is)),
)
