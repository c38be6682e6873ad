use Rattle.std.proofs.Common.{length, ◌+◌, ◌-◌, ◌≤◌}
use Rattle.sa_parser_expr.specs.Positions.{IsFrom}
use Rattle.sa_parser.proofs.ExactDeclared.{ConstantsRead}
use Rattle.sa_parser.proofs.declared.counted_constants.Given as goal

abbrev pub invariant-more : goal.invariant-more
invariant-more l = record {
  following : IsFrom l.tokens.list.now l.from l.next;
  number : l.number ≤ l.next;
  count : l.from + length l.features ≤ l.next + 1;
  read : ConstantsRead l.tokens l.access l.fn.first l.from l.features l.number l.next;
}

abbrev pub decreases-more : goal.decreases-more
decreases-more l = length l.tokens.list.now - l.next
