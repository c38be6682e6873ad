use Rattle.std.proofs.Common.{◌≡◌, ◌≤◌, take, reverse}
use Rattle.sa_parser_expr.specs.Level.{AreTaken, counters_after}
use Rattle.sa_parser_expr.proofs.levels.scan.Given as goal

abbrev pub invariant-loop-token : goal.invariant-loop-token
invariant-loop-token l = record {
  counters : reverse l.levels.counters.items ≡ counters_after (take l.token-index l.tokens);
  level : l.levels.level ≤ 200;
  taken : AreTaken l.tokens l.token-index;
}
