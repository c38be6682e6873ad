-- Counts of faults over several calls.
use Rattle.std.proofs.Common.{◌≡◌, ℕ, ◌≤◌, arith, inl, inr}
use Rattle.std.proofs.lemmas.Bool.{cases_lt}
use Rattle.host_io.specs.Faults.{Rose}

-- a fault after an earlier count
pub Rose-earlier : (a b c : ℕ) → a ≤ b → Rose b c → Rose a c
Rose-earlier a b c less (inl more) = inl (omega arith)
Rose-earlier a b c less (inr last) = inr last

-- a fault before a later count
pub Rose-later : (a b c : ℕ) → b ≤ c → a ≤ b → Rose a b → Rose a c
Rose-later a b c less least (inl more) = inl (omega arith)
Rose-later a b c less least (inr last) = elim (cases_lt a c) [
  | inl more ↦ inl more
  | inr past ↦
      let same : c ≡ b = omega arith in
      inr (rw same last)
]
