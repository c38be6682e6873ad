-- What a read of a whole file gives.
use Rattle.std.specs.Prelude.{◌≡◌, ℕ, ◌<◌, ◌≤◌, ⊤, List, length, take, Option, None, Some}
use Rattle.std.specs.FinMap.{get}
use Rattle.host_io.specs.Files.{Files}
use Rattle.host_io.specs.declared.store.Outage.{Outage}
use Rattle.host_io.specs.declared.store.Outage.TheVariants as outage
use Rattle.sa_read.specs.declared.read.FileContents.{FileContents}
use Rattle.sa_read.specs.declared.read.FileContents.TheVariants.{Whole, Cut}
use Rattle.sa_read.specs.declared.read.ReadFault.{ReadFault}
use Rattle.sa_read.specs.declared.read.ReadFault.TheVariants as fault

-- the file of this name has these bytes, where the store says so
abbrev pub HasFile : Option Files → List ℕ → List ℕ → Type 0
HasFile None name bytes = ⊤
HasFile (Some files) name bytes = get files name ≡ Some bytes

-- the file of this name has more bytes than the limit, and begins with these up to it, where the store says so
abbrev pub HasLonger : Option Files → List ℕ → ℕ → List ℕ → Type 0
HasLonger None name limit bytes = ⊤
HasLonger (Some files) name limit bytes = (file : List ℕ) × (get files name ≡ Some file) × (limit < length file) × (bytes ≡ take limit file)

-- what was read is the whole file, or its prefix up to the limit
abbrev pub IsReadOf : Option Files → List ℕ → ℕ → FileContents → Type 0
IsReadOf files name limit (Whole bytes) = HasFile files name bytes.items × (length bytes.items ≤ limit)
IsReadOf files name limit (Cut bytes) = HasLonger files name limit bytes.items × (length bytes.items ≡ limit)

abbrev pub read_fault_of : Outage → ReadFault
read_fault_of outage.Failed = fault.Failed
read_fault_of outage.NoMemory = fault.NoMemory
