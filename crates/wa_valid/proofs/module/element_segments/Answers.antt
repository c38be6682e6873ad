use Rattle.std.proofs.Common.{List, refl, ap, subst, true≢false}
use Rattle.std.specs.Prelude.{All, is_ok}
use Rattle.std.proofs.lemmas.List.{take_all}
use Rattle.wa_valid.proofs.Elements.{All-more_item}
use Rattle.wa_syntax.specs.declared.module.ElemSegment.{ElemSegment}
use Rattle.wa_syntax.specs.ValidModule.{IsElem}
use Rattle.wa_valid.specs.Names.{names}
use Rattle.wa_valid.proofs.module.element_segments.Goals as goal

pub loop-elem-preserved : goal.loop-elem-preserved
loop-elem-preserved c =
    All-more_item (IsElem (names c.args.context.now)) c.args.elems.now c.loop-elem.elem-index c.elem-item.result c.loop-elem-test.true c.elem-item.is c.loop-elem.invariant (c.in_ok-element_segment.ensures.0 refl)

pub returns : goal.returns
returns c = (
  λ ok. subst (λ (all : List ElemSegment). All (IsElem (names c.args.context.now)) all) (take_all c.loop-elem.elem-index c.args.elems.now c.loop-elem-test.false) c.loop-elem.invariant,
  λ is. absurd (true≢false (ap is_ok is)),
)
