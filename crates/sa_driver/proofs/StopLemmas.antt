-- Stops of modules, reported as faults of programs.
use Rattle.std.proofs.Common.{◌≢◌, ℕ, List, refl}
use Rattle.sa_ast.specs.declared.pos.Pos.{Pos}
use Rattle.sa_ast.specs.declared.pos.Sources.{Sources}
use Rattle.sa_driver.specs.Ends.{IsOfModule}
use Rattle.sa_driver.specs.declared.cause.Cause.{Cause}
use Rattle.sa_driver.specs.declared.cause.Cause.TheVariants as cause

-- a cause that is no stop is reported as it is
pub same_cause : (positions : List Pos) (sources : Sources) (ends : Cause) → ((code site : ℕ) → ends ≢ cause.Stopped code site) → IsOfModule positions sources ends ends
same_cause positions sources (cause.Stopped code site) other = absurd (other code site refl)
same_cause positions sources _ other = refl
