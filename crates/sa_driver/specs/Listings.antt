-- What the commands on listings of modules say.
use Rattle.std.specs.Prelude.{◌≡◌, ◌⊎◌, ⊤, ℕ, List, []}
use Rattle.wa_encode.specs.Spelling.{IsLeast}
use Rattle.wa_syntax.specs.Binary.{SpellsModule}
use Rattle.wa_syntax.specs.declared.module.Module.{Module}
use Rattle.wa_text.specs.Listing.{IsListing}
use Rattle.wa_text.specs.Places.{BeginNone, IsLineOf}
use Rattle.host_io.specs.Files.{Files}
use Rattle.sa_driver.specs.Ends.{IsPrinted, IsWritten}
use Rattle.sa_driver.specs.HostParts.{IsUnchanged, HostPart}
use Rattle.sa_driver.specs.declared.cause.Cause.{Cause}
use Rattle.sa_driver.specs.declared.cause.Cause.TheVariants as cause

-- the bytes spell a module, and the text is its listing
pub record IsListingOf (bytes text : List ℕ) : Type 0 where
  pub «module» : Module
  pub spelled : SpellsModule bytes «module»
  pub listing : IsListing text «module»

-- why bytes have no listing
abbrev pub SaysNoListing : List ℕ → Cause → Type 0
SaysNoListing bytes cause.Malformed = (m : Module) → SpellsModule bytes m → ⊥
SaysNoListing bytes cause.NoMemory = ⊤
SaysNoListing bytes _ = ⊥

-- out was to take the listing of the module of these bytes, or there is none
abbrev pub ListsModule : HostPart (List ℕ) → List ℕ → Cause → Type 0
ListsModule out bytes ends =
    ((text : List ℕ) × IsListingOf bytes text × IsPrinted out text ends)
    ⊎ (SaysNoListing bytes ends × IsUnchanged out)

-- the text lists a module, and the bytes are its one shortest spelling, if it has any
pub record IsAssemblyOf (text bytes : List ℕ) : Type 0 where
  pub «module» : Module
  pub listing : IsListing text «module»
  pub shortest : IsLeast (λ spelling. SpellsModule spelling «module») bytes

-- why no module is made from a text: the lines up to one of its own, or up to the one after its last line feed, begin no listing, so that
-- it is none
abbrev pub EndsWithoutModule : List ℕ → Cause → Type 0
EndsWithoutModule text (cause.NotListing line) = IsLineOf text line × BeginNone text line
EndsWithoutModule text cause.NoMemory = ⊤
EndsWithoutModule text _ = ⊥

-- the file of this name was to get the module that the text lists, which has these bytes, or there is none
abbrev pub Assembles : HostPart Files → List ℕ → List ℕ → List ℕ → Cause → Type 0
Assembles store name text bytes ends =
    (IsAssemblyOf text bytes × IsWritten store name bytes ends)
    ⊎ (EndsWithoutModule text ends × (bytes ≡ []) × IsUnchanged store)
