use Rattle.std.proofs.Common.{List, refl, ap, subst, true≢false}
use Rattle.std.specs.Prelude.{All, is_ok}
use Rattle.std.proofs.lemmas.List.{take_all}
use Rattle.std.proofs.lemmas.List.Elements.{All-more}
use Rattle.wa_syntax.specs.declared.module.Limits.{Limits}
use Rattle.wa_syntax.specs.ValidModule.{IsMemory}
use Rattle.wa_valid.proofs.module.memories.Goals as goal

pub loop-memory-preserved : goal.loop-memory-preserved
loop-memory-preserved c =
    All-more (IsMemory) c.args.memories.now c.loop-memory.memory-index _ c.loop-memory-test.true c.loop-memory.invariant (c.in_ok-memory_type.ensures.0 refl)

pub returns : goal.returns
returns c = (
  λ ok. subst (λ (all : List Limits). All (IsMemory) all) (take_all c.loop-memory.memory-index c.args.memories.now c.loop-memory-test.false) c.loop-memory.invariant,
  λ is. absurd (true≢false (ap is_ok is)),
)
