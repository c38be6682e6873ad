-- When a module can be run, and when bytes spell one that is a program's.
use Rattle.std.specs.Prelude.{ℕ, List}
use Rattle.wa_syntax.specs.declared.module.Module.{Module}
use Rattle.wa_syntax.specs.Binary.{SpellsModule}
use Rattle.wa_syntax.specs.Runs.{IsLinked, SegmentsFit}
use Rattle.wa_syntax.specs.ValidModule.{IsValid}
use Rattle.sa_correctness.specs.Confined.{IsConfined}

-- it is valid, each import is a function of the host and `main` is there, and its segments fit
pub record IsRunnable (m : Module) : Type 0 where
  pub valid : IsValid m
  pub linked : IsLinked m
  pub fit : SegmentsFit m

-- the bytes spell a module that can be run and is confined, with so many KiB of room
pub record SpellsRunnable (room : ℕ) (bytes : List ℕ) : Type 0 where
  pub «module» : Module
  pub spelled : SpellsModule bytes «module»
  pub runnable : IsRunnable «module»
  pub confined : IsConfined room «module»
