-- The models of the objects in memory.
use Rattle.std.specs.Prelude.{◌≡◌, ℕ, ◌-◌, min, List, ◌++◌, length, take, drop, refl}
use Rattle.std.specs.Coded.{Coded, code_by, coded×, coded_ℕ, coded_list}
use Rattle.std.specs.FinMap.{code}
use Rattle.host_io.specs.Calls.{Calls}
use Rattle.host_io.specs.Files.{Files}
use Rattle.host_io.specs.Input.{Input}

-- a store: its files, and the calls that it has had
pub record StoreState : Type 0 where
  pub files : Files
  pub calls : Calls

-- a source: its input, and the calls that it has had
pub record SourceState : Type 0 where
  pub input : Input
  pub calls : Calls

-- a sink: the bytes that it has taken, and the calls that it has had
pub record SinkState : Type 0 where
  pub taken : List ℕ
  pub calls : Calls

-- the count, the faults and the list
abbrev pub calls_code : Coded Calls
calls_code =
    code_by (ℕ × (ℕ × List ℕ)) (coded× coded_ℕ (coded× coded_ℕ (coded_list coded_ℕ)))
    (λ c. (c.made, (c.faults, c.failing)))
    (λ p. record { made = p.0; faults = p.1.0; failing = p.1.1 })
    (λ _. refl)

-- a store's state as the pair of its parts
abbrev pub store_code : Coded StoreState
store_code =
    code_by (Files × Calls) (coded× (code (coded_list coded_ℕ) (coded_list coded_ℕ)) calls_code)
    (λ s. (s.files, s.calls))
    (λ p. record { files = p.0; calls = p.1 })
    (λ _. refl)

-- a read of n bytes filled the front of the buffer as far as the file goes from this offset on, and left the rest of it
pub record Fills (file : List ℕ) (place n : ℕ) (old new : List ℕ) : Type 0 where
  pub count : n ≡ min (length old) (length file - place)
  pub buffer : new ≡ take n (drop place file) ++ drop n old
