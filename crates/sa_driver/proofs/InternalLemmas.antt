-- What holds of each end that is internal.
use Rattle.std.proofs.Common.{ℕ, List}
use Rattle.failure.specs.declared.invariant.Invariant.{Invariant}
use Rattle.sa_ast.specs.declared.pos.Sources.{Sources}
use Rattle.sa_driver.specs.Ends.{ComesBeforeOutput}
use Rattle.sa_driver.specs.Files.{ComesOfGenerated, Explains}
use Rattle.sa_driver.specs.Internal.{IsInternal}
use Rattle.sa_driver.specs.Lines.{IsPlaced}
use Rattle.sa_driver.specs.declared.cause.Cause.{Cause}
use Rattle.sa_driver.specs.declared.cause.Cause.TheVariants as cause

-- what holds of both kinds of it
pub internal : (Ends : Cause → Type 0) (ends : Cause) → IsInternal ends → Ends cause.NoMemory → ((invariant : Invariant) → Ends (cause.Broken invariant)) → Ends ends
internal Ends cause.NoMemory is memory broken = memory
internal Ends (cause.Broken invariant) is memory broken = broken invariant
internal Ends _ is memory broken = absurd is

-- it may be why texts give no module
pub explains : (texts : List (List ℕ)) (ends : Cause) → IsInternal ends → Explains texts ends
explains texts ends is = internal (Explains texts) ends is tt (λ invariant. tt)

-- and why the generated program gives none
pub generated_none : (classes : ℕ) (sources : Sources) (ends : Cause) → IsInternal ends → ComesOfGenerated classes sources ends
generated_none classes sources ends is = internal (ComesOfGenerated classes sources) ends is tt (λ invariant. tt)

-- it names no position
pub placed : (sources : Sources) (ends : Cause) → IsInternal ends → IsPlaced sources ends
placed sources ends is = internal (IsPlaced sources) ends is tt (λ invariant. tt)

-- it may come when something was put on out
pub later : (ends : Cause) → IsInternal ends → ComesBeforeOutput ends → ⊥
later ends is = internal (λ ends. ComesBeforeOutput ends → ⊥) ends is (λ none. none) (λ invariant none. none)
