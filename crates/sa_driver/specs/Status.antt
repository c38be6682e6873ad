-- The status of each cause.
use Rattle.std.specs.Prelude.{ℕ}
use Rattle.sa_driver.specs.declared.cause.Cause.{Cause}
use Rattle.sa_driver.specs.declared.cause.Cause.TheVariants.{Done, Refused, Fault, Stopped, Spent, StoreFault, InFault, OutFault, Usage}
use Rattle.sa_driver.specs.declared.cause.Cause.TheVariants.{Malformed, Invalid, Unlinked, Segment, Trap, TooDeep, NotListing}
use Rattle.sa_driver.specs.declared.cause.Cause.TheVariants.{NoPage, NoLibraryFile, NoMemory, Broken}

abbrev pub status_of : Cause → ℕ
status_of Done = 0
status_of (Refused refusal) = 120
status_of (Fault kind position) = 121
status_of (Stopped code site) = 121
status_of (Spent steps) = 122
status_of StoreFault = 123
status_of InFault = 123
status_of OutFault = 123
status_of Usage = 124
status_of NoPage = 124
status_of NoLibraryFile = 124
status_of NoMemory = 125
status_of (Broken invariant) = 70
status_of Malformed = 126
status_of (Invalid func) = 126
status_of (Unlinked import) = 126
status_of Segment = 126
status_of (Trap kind) = 126
status_of TooDeep = 126
status_of (NotListing line) = 126
