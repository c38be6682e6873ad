-- Numbers within the widths of their types: what the types of the Rust data say of a module, and what an input is.
use Rattle.std.specs.Prelude.{ℕ, ◌<◌, ◌^◌, All}
use Rattle.wa_syntax.specs.declared.module.Init.{Init}
use Rattle.wa_syntax.specs.declared.module.Module.{Module}
use Rattle.wa_syntax.specs.Instructions.{Instruction, Block, Loop, If, I32Const, I64Const, Sequence, nothing, ◌then◌, sequence}
use Rattle.wa_syntax.specs.Machine.{Input}
use Rattle.wa_syntax.specs.Runs.{SegmentsFit}

abbrev pub IsByte : ℕ → Type 0
IsByte b = b < 256

abbrev mutual
  -- the constants of an instruction, and of those in it, are below 2 to their width
  pub HasConstants : Instruction → Type 0
  HasConstants (I32Const n) = n < 2 ^ 32
  HasConstants (I64Const n) = n < 2 ^ 64
  HasConstants (Block result body) = AreConstants body
  HasConstants (Loop result body) = AreConstants body
  HasConstants (If result first other) = AreConstants first × AreConstants other
  HasConstants i = Unit {0}

  -- those of each instruction
  pub AreConstants : Sequence → Type 0
  AreConstants nothing = Unit {0}
  AreConstants (i then rest) = HasConstants i × AreConstants rest

-- the constant of an initial value, if it is one
abbrev pub IsInitInRange : Init → Type 0
IsInitInRange (Init.Const32 n) = n < 2 ^ 32
IsInitInRange (Init.Const64 n) = n < 2 ^ 64
IsInitInRange (Init.Global x) = Unit {0}

-- A run begins in range: the constants of the module are below 2 to their widths, its segments and the input are bytes, and the
-- segments fit, since one that doesn't would make the memory longer than it may be.
pub record IsInRange (m : Module) (input : Input) : Type 0 where
  pub bodies : All (λ func. AreConstants (sequence func.body)) m.funcs
  pub globals : All (λ global. IsInitInRange global.init) m.globals
  pub segments : All (λ segment. All IsByte segment.bytes) m.segments
  pub input_is : All IsByte input.bytes
  pub fit : SegmentsFit m
