use Rattle.std.proofs.Common.{refl}
use Rattle.wa_stack.proofs.TopFrame.{top-frames}
use Rattle.wa_stack.proofs.frame_stack.FrameStack.top.Goals as goal

pub returns : goal.returns
returns c = rw c.deref.ensures.value (top-frames _ _ _ _ _ refl c.self.view_is c.requires)
