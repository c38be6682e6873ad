-- The stack of frames once the borrow of its top frame is over.
use Rattle.std.specs.Prelude.{ℕ, List}
use Rattle.std.specs.Borrow.{Lends, MutBor, Fml, Array, u64}
use Rattle.wa_stack.specs.Frames.{with_words}
use Rattle.wa_stack.specs.contracts.frame_stack.FrameStack.{the_row}

-- the top frame ends with the words that are last in r, which has as many words as it
abbrev pub LendsTop : MutBor (List (List ℕ)) → MutBor (List ℕ) → Fml
LendsTop region r = Lends the_row (Array u64 0) region r (with_words region.now)
