use Rattle.std.proofs.Common.{take}
use Rattle.std.specs.Prelude.{All}
use Rattle.wa_syntax.specs.ValidModule.{IsElem}
use Rattle.wa_valid.specs.Names.{names}
use Rattle.wa_valid.proofs.module.element_segments.Given as goal

abbrev pub invariant-loop-elem : goal.invariant-loop-elem
invariant-loop-elem l = All (IsElem (names l.context)) (take l.elem-index l.elems)
