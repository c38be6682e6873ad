use Rattle.std.proofs.Common.{length, ◌-◌}
use Rattle.sa_parser_expr.specs.Positions.{IsAfter}
use Rattle.sa_parser_expr.proofs.Runs.{Lists}
use Rattle.sa_parser.specs.FeatureForms.{change_form}
use Rattle.sa_parser.proofs.include.changes.Given as goal

abbrev pub invariant-more : goal.invariant-more
invariant-more l = record {
  following : IsAfter l.tokens.list.now l.from l.next;
  listed : Lists l.tokens change_form l.from l.changes l.next;
}

abbrev pub decreases-more : goal.decreases-more
decreases-more l = length l.tokens.list.now - l.next
