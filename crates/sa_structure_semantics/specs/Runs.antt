-- The semantics of structured regions: the run of their pieces, by the operations and terminators of the CFG program.
use Rattle.std.specs.Prelude.{ℕ, zero, suc, if◌then◌else◌, List, [], ◌∷◌, Option, Some, None}
use Rattle.sa_cfg.specs.declared.body.CfgBody.{CfgBody}
use Rattle.sa_cfg.specs.declared.operation.Terminator.{Terminator}
use Rattle.sa_cfg.specs.declared.operation.CfgOperation.{CfgOperation}
use Rattle.sa_cfg.specs.declared.program.CfgProgram.{CfgProgram}
use Rattle.sa_semantics.specs.Sequence.{◌>>=◌, ◌>>◌, pure, stuck, at_index}
use Rattle.sa_cfg_semantics.specs.Frames.{BodyResult, Transfer, Onward, To, Leaving}
use Rattle.sa_cfg_semantics.specs.Counting.{Eval, count}
use Rattle.sa_cfg_semantics.specs.Operations.{step}
use Rattle.sa_cfg_semantics.specs.Terminators.{exit}
use Rattle.sa_structure.specs.Regions.{Piece, Basic, If, LabelledBlock, Loop, Dispatch, Pieces, nothing, ◌then◌, first, piece_after}
use Rattle.sa_structure.specs.Stands.{begins, is_numbered}

-- what a jump to a block does at a point
abbrev pub Jumps : Type 0
Jumps = ℕ → Eval BodyResult

-- A transfer to a block: what begins there, where that is the block, and else a jump.
abbrev pub reach : Option ℕ → Eval BodyResult → Jumps → Jumps
reach there following jump block = if begins there block then following else jump block

-- From a block and a position in it on, `go` runs the bodies that are called.
module _ (p : CfgProgram) (rows : List (List ℕ)) (go : ℕ → ℕ → Eval BodyResult) where
  -- an operation leads on to what follows, and its raises jump
  abbrev pub follow_transfer : Jumps → Eval BodyResult → Transfer → Eval BodyResult
  follow_transfer jump next Onward = next
  follow_transfer jump next (To block) = jump block
  follow_transfer jump next (Leaving ending) = pure ending

  -- operations and then a terminator, which leads on by `on`
  abbrev pub run_steps : List CfgOperation → Terminator → (jump on : Jumps) → Eval BodyResult
  run_steps [] e jump on = count 1 >> (exit p e >>= follow_transfer on stuck)
  run_steps (a ∷ rest) e jump on = count 1 >> (step p rows go a >>= follow_transfer jump (run_steps rest e jump on))

  -- a block of the body by its number
  abbrev pub run_block : CfgBody → ℕ → (jump on : Jumps) → Eval BodyResult
  run_block b number jump on = at_index b.blocks number >>= (λ block. run_steps block.steps block.exit jump on)

  -- ---- loops: the inside is run from an entry on, by what a jump does there

  -- A jump to the first block begins a loop anew, from the same entry; where it begins with the dispatch, a jump to a block that is reached
  -- again by that does, and the block is the entry then.
  abbrev pub again_in : List (Option ℕ) → Option ℕ → (anew : ℕ → Eval BodyResult) → (entry : ℕ) → Jumps → Jumps
  again_in again None anew entry jump block = if is_numbered again block then anew block else jump block
  again_in again (Some head) anew entry jump block = reach (Some head) (anew entry) jump block

  -- begun at most as often as the level says
  abbrev pub run_loop : List (Option ℕ) → (level : ℕ) → Option ℕ → (inside : ℕ → Jumps → Eval BodyResult) → (entry : ℕ) → Jumps → Eval BodyResult
  run_loop again zero head inside entry jump = stuck
  run_loop again (suc level) head inside entry jump =
      inside entry (again_in again head (λ e. run_loop again level head inside e jump) entry jump)

  -- The pieces of a body that begins or resumes in the block `entry`. `again` says which blocks are reached again by the dispatch, and
  -- `level` how often each loop is begun at most.
  module _ (b : CfgBody) (again : List (Option ℕ)) (level : ℕ) where
    abbrev mutual
      pub run_piece : (entry : ℕ) → Piece → Jumps → Option ℕ → Eval BodyResult → Eval BodyResult
      run_piece entry (Basic block) jump there following = run_block b block jump (reach there following jump)
      run_piece entry (If block side) jump there following =
          run_block b block jump (reach (first side) (run_pieces entry side jump None stuck) (reach there following jump))
      run_piece entry (LabelledBlock inside) jump there following = run_pieces entry inside (reach there following jump) there following
      run_piece entry (Loop inside) jump there following =
          run_loop again level (first inside) (λ e to. run_pieces e inside to None stuck) entry jump
      run_piece entry Dispatch jump there following = reach there following jump entry

      pub run_pieces : (entry : ℕ) → Pieces → Jumps → Option ℕ → Eval BodyResult → Eval BodyResult
      run_pieces entry nothing jump there following = following
      run_pieces entry (q then rest) jump there following =
          run_piece entry q jump (piece_after rest there) (run_pieces entry rest jump there following)

    -- all the regions of a body; nothing is around them
    abbrev pub run_structure : (entry : ℕ) → Pieces → Eval BodyResult
    run_structure entry shape = run_pieces entry shape (λ block. stuck) None stuck
