use Rattle.std.proofs.Common.{arith}
use Rattle.std.proofs.lemmas.Grind.{common_steps}
use Rattle.wa_stack.proofs.TopFrame.{top-within, slice_range-top}
use Rattle.wa_stack.proofs.frame_stack.FrameStack.enter_with.Goals as goal

pub overflow_add-start : goal.overflow_add-start
overflow_add-start c =
    let within = top-within _ _ _ _ _ c.self.invariant.0 c.self.view_is c.requires.within in
    omega (arith, within, c.self.inside.words.ok)

pub overflow_add-start-2 : goal.overflow_add-start-2
overflow_add-start-2 c =
    let within = top-within _ _ _ _ _ c.self.invariant.0 c.self.view_is c.requires.within in
    omega (arith, within, c.self.inside.words.ok)

pub extend_from_within-requires-clause-in_bounds :
    goal.extend_from_within-requires-clause-in_bounds
extend_from_within-requires-clause-in_bounds c =
    let within = top-within _ _ _ _ _ c.self.invariant.0 c.self.view_is c.requires.within in
    omega (arith, within)

pub returns-clause-ok : goal.returns-clause-ok
returns-clause-ok c =
    let args = slice_range-top _ _ _ _ _ _ c.self.view_is c.requires.within in
    grind (arith, common_steps, args)
