use Rattle.std.proofs.Common.{◌≡◌, ◌+◌, false, drop}
use Rattle.std.specs.Prelude.{option_map}
use Rattle.sa_lexer.specs.Literal.{inside_len}
use Rattle.sa_lexer.proofs.literal.inside_len.Given as goal

abbrev pub invariant-loop-i : goal.invariant-loop-i
invariant-loop-i l = inside_len l.quote false l.bytes ≡ option_map (λ n. l.i + n) (inside_len l.quote l.escaped (drop l.i l.bytes))
