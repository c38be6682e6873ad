use Rattle.std.proofs.Common.{◌∙◌, ap, length}
use Rattle.wa_stack.proofs.TopFrame.{depth-frames}
use Rattle.wa_stack.proofs.frame_stack.FrameStack.depth.Goals as goal

pub returns : goal.returns
returns c =
    ap length c.as_slice.ensures.value ∙ depth-frames c.self.inside.base c.self.inside.bases.items c.self.inside.words.items _ c.self.view_is
