-- The order of the precedences.
use Rattle.std.proofs.Common.{ℕ}
use Rattle.sa_parser_expr.specs.declared.operators.Precedence.{Precedence}
use Rattle.sa_parser_expr.specs.declared.operators.Precedence.TheVariants.{Logical, Comparing, Adding, Multiplying}

-- how many precedences are stronger
abbrev pub weaker_than : Precedence → ℕ
weaker_than Logical = 3
weaker_than Comparing = 2
weaker_than Adding = 1
weaker_than Multiplying = 0
