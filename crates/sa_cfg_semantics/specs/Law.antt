-- Laws of runs from an index in a block.
use Rattle.std.specs.Prelude.{◌≡◌, ℕ, suc, ◌≤◌, List}
use Rattle.sa_cfg.specs.declared.program.CfgProgram.{CfgProgram}
use Rattle.sa_cfg.specs.declared.operation.Terminator.{Terminator}
use Rattle.sa_cfg.specs.declared.operation.CfgOperation.{CfgOperation}
use Rattle.sa_semantics.specs.Sequence.{◌>>=◌, ◌>>◌}
use Rattle.sa_cfg_semantics.specs.Frames.{State}
use Rattle.sa_cfg_semantics.specs.Counting.{count}
use Rattle.sa_cfg_semantics.specs.Operations.{step}
use Rattle.sa_cfg_semantics.specs.Terminators.{exit}
use Rattle.sa_cfg_semantics.specs.Run.{next, run_from}
use Rattle.sa_cfg_semantics.specs.BlockParts.{HasOperation, HasTerminator}

module _ (p : CfgProgram) (rows : List (List ℕ)) where
  -- A run from the index of an operation does this operation, and then goes on where it leads.
  abbrev pub RunsOperations : Type 0
  RunsOperations = (level block place : ℕ) (a : CfgOperation) (s : State) → HasOperation p s.here.body block place a →
      run_from p rows (suc level) block place s
      ≡ (count 1 >> (step p rows (run_from p rows level) a >>= next (run_from p rows level) block place)) s

  -- a run from the index of a terminator
  abbrev pub RunsTerminators : Type 0
  RunsTerminators = (level block place : ℕ) (e : Terminator) (s : State) → HasTerminator p s.here.body block place e →
      run_from p rows (suc level) block place s ≡ (count 1 >> (exit p e >>= next (run_from p rows level) block place)) s

  -- More levels than CFG steps that are left make no difference.
  abbrev pub HasLevels : Type 0
  HasLevels =
      (level block place : ℕ) (s : State) → s.steps ≤ level → run_from p rows level block place s ≡ run_from p rows s.steps block place s
