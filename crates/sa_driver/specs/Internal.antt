-- The causes for which neither the arguments nor the source nor the host is to blame.
use Rattle.std.specs.Prelude.{⊤}
use Rattle.sa_driver.specs.declared.cause.Cause.{Cause}
use Rattle.sa_driver.specs.declared.cause.Cause.TheVariants as cause

-- memory ran out, or an invariant of the compiler is broken
abbrev pub IsInternal : Cause → Type 0
IsInternal cause.NoMemory = ⊤
IsInternal (cause.Broken invariant) = ⊤
IsInternal _ = ⊥
