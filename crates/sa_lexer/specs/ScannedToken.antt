-- What a function found at the front of some bytes.
use Rattle.std.specs.Prelude.{◌≡◌, ⊤, ℕ, ◌<◌, ◌≤◌, Result, Ok, Err}
use Rattle.sa_lexer.specs.declared.scan_result.ScannedToken.{ScannedToken}
use Rattle.sa_lexer.specs.declared.scan_result.Fault.{Fault}
use Rattle.sa_lexer.specs.declared.scan_result.Stop.{Stop}
use Rattle.sa_lexer.specs.declared.scan_result.Stop.TheVariants.{Broken, NoMemory}

-- what is found is what is there, unless memory ran out
abbrev pub Gives : Result ScannedToken Stop → Result ScannedToken Fault → Type 0
Gives (Ok found) there = there ≡ Ok found
Gives (Err (Broken fault)) there = there ≡ Err fault
Gives (Err NoMemory) there = ⊤

-- a token has at least one of so many bytes, and a fault is at one of them
abbrev pub IsAmong : ℕ → Result ScannedToken Fault → Type 0
IsAmong count (Ok found) = (0 < found.len) × (found.len ≤ count)
IsAmong count (Err fault) = fault.offset < count

abbrev pub StopsAmong : ℕ → Result ScannedToken Stop → Type 0
StopsAmong count (Ok found) = (0 < found.len) × (found.len ≤ count)
StopsAmong count (Err (Broken fault)) = fault.offset < count
StopsAmong count (Err NoMemory) = ⊤
