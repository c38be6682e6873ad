use Rattle.std.proofs.Common.{refl, ◌∙◌}
use Rattle.wa_stack.proofs.TopFrame.{top-frames, frames-with_items_from}
use Rattle.wa_stack.proofs.frame_stack.FrameStack.top_mut.Goals as goal

pub returns : goal.returns
returns c = (
  (refl, λ w. frames-with_items_from _ _ c.self.inside.words _ w c.self.invariant.0 c.self.view_is),
  record { writes_back = tt; value = c.slice_mut.ensures.value ∙ top-frames _ _ _ _ _ c.self.inside.words.ok.0 c.self.view_is c.requires },
)
