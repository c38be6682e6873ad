use Rattle.std.proofs.Common.{length, ◌+◌, ◌-◌, ◌≤◌}
use Rattle.sa_parser_expr.specs.Positions.{IsFrom}
use Rattle.sa_parser.proofs.ExactFiles.{ParsedTo}
use Rattle.sa_parser.proofs.file.classes.Given as goal

abbrev pub invariant-more : goal.invariant-more
invariant-more l = record {
  following : IsFrom l.tokens.list.now 0 l.next;
  count : length l.parsed.classes ≤ l.next + 1;
  read : ParsedTo l.tokens l.file_kind l.first l.parsed l.next;
}

abbrev pub decreases-more : goal.decreases-more
decreases-more l = length l.tokens.list.now - l.next
