-- What is at an index of a block.
use Rattle.std.specs.Prelude.{◌≡◌, ℕ, slice_get, Some, None}
use Rattle.sa_cfg.specs.declared.body.BasicBlock.{BasicBlock}
use Rattle.sa_cfg.specs.declared.body.CfgBody.{CfgBody}
use Rattle.sa_cfg.specs.declared.operation.Terminator.{Terminator}
use Rattle.sa_cfg.specs.declared.operation.CfgOperation.{CfgOperation}
use Rattle.sa_cfg.specs.declared.program.CfgProgram.{CfgProgram}

-- the block of a body
pub record HasBlock (p : CfgProgram) (body block : ℕ) (found : BasicBlock) : Type 0 where
  pub within : CfgBody
  pub body_is : slice_get p.bodies body ≡ Some within
  pub block_is : slice_get within.blocks block ≡ Some found

-- the operation after so many others of its block
abbrev pub HasOperation : CfgProgram → ℕ → ℕ → ℕ → CfgOperation → Type 0
HasOperation p body block place a = (b : BasicBlock) × HasBlock p body block b × (slice_get b.steps place ≡ Some a)

-- the terminator after all operations of a block
abbrev pub HasTerminator : CfgProgram → ℕ → ℕ → ℕ → Terminator → Type 0
HasTerminator p body block place e = (b : BasicBlock) × HasBlock p body block b × (slice_get b.steps place ≡ None) × (b.exit ≡ e)
