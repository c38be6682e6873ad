-- The refusals that are reported after the first one.
use Rattle.std.proofs.Common.{◌≢◌, List, refl}
use Rattle.sa_ast.specs.declared.refusal.Refusal.{Refusal}
use Rattle.sa_cli.specs.declared.command.Extent.TheVariants.{All}
use Rattle.sa_driver.specs.Further.{ReportsEach}
use Rattle.sa_driver.specs.declared.cause.Cause.{Cause}
use Rattle.sa_driver.specs.declared.cause.Cause.TheVariants as cause
use Rattle.sa_driver.specs.declared.outcome.Outcome.{Outcome}

-- none is reported after a cause that is no refusal
pub tells_none : (ends : Cause) (refusals : List Refusal) (outcome : Outcome) → ((first : Refusal) → ends ≢ cause.Refused first) → ReportsEach All ends refusals outcome
tells_none (cause.Refused first) refusals outcome other = absurd (other first refl)
tells_none _ refusals outcome other = tt
