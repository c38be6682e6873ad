-- The calls of an object in memory, some of which are to fail.
use Rattle.std.specs.Prelude.{ℕ, Bool, List, ◌==◌, if◌then◌else◌}
use Rattle.std.specs.List.{list_any}
use Rattle.host_io.specs.Faults.{one_more}

-- how many calls there were, how many of them failed, and the numbers of those that are to fail, the first call being 0
pub record Calls : Type 0 where
  pub made : ℕ
  pub faults : ℕ
  pub failing : List ℕ

-- before the first call
abbrev pub no_calls : List ℕ → Calls
no_calls failing = record { made = 0; faults = 0; failing = failing }

-- whether the next call is to fail
abbrev pub is_to_fail : Calls → Bool
is_to_fail calls = list_any (λ n. n == calls.made) calls.failing

-- after the next call, which is a fault exactly if it is to fail
abbrev pub one_call : Calls → Calls
one_call calls = record {
  made = one_more calls.made;
  faults = if is_to_fail calls then one_more calls.faults else calls.faults;
  failing = calls.failing;
}
