use Rattle.std.proofs.Common.{length, ◌-◌, ◌≤◌}
use Rattle.sa_parser_expr.specs.Positions.{IsFrom}
use Rattle.sa_parser.specs.Classes.{enclosing}
use Rattle.sa_parser.proofs.ExactMembers.{InsideRead}
use Rattle.sa_parser.proofs.class.members.Given as goal

abbrev pub invariant-more : goal.invariant-more
invariant-more l = record {
  following : IsFrom l.tokens.list.now l.from l.next;
  count : length l.inside.features ≤ l.next;
  read : InsideRead l.tokens (enclosing l.class) l.class.place l.from l.inside l.next;
}

abbrev pub decreases-more : goal.decreases-more
decreases-more l = length l.tokens.list.now - l.next
