use Rattle.std.proofs.Common.{length, ◌-◌}
use Rattle.sa_parser_expr.specs.Positions.{IsFrom}
use Rattle.sa_parser.proofs.ExactClasses.{SignaturesRead}
use Rattle.sa_parser.proofs.class.signatures.Given as goal

abbrev pub invariant-more : goal.invariant-more
invariant-more l = record {
  following : IsFrom l.tokens.list.now l.from l.next;
  read : SignaturesRead l.tokens l.from l.features l.next;
}

abbrev pub decreases-more : goal.decreases-more
decreases-more l = length l.tokens.list.now - l.next
