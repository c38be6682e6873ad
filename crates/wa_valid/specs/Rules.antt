-- What the answer to a rule says.
use Rattle.std.specs.Prelude.{◌≡◌, Result, Err, IsOk}
use Rattle.wa_valid.specs.declared.fault.Fault.{Fault}

-- the rule holds where the answer is `Ok`, and is broken where it is `Invalid`
abbrev pub Says : {T : Type 0} → Type 0 → Result T Fault → Type 0
Says P result = (IsOk result → P) × (result ≡ Err Fault.Invalid → ¬ P)
