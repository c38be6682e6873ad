use Rattle.std.proofs.Common.{length, ◌-◌}
use Rattle.sa_parser_expr.specs.Positions.{IsAfter}
use Rattle.sa_parser_expr.proofs.Runs.{Lists}
use Rattle.sa_parser.specs.ClassForms.{param_form}
use Rattle.sa_parser.proofs.class.param_list.Given as goal

abbrev pub invariant-more : goal.invariant-more
invariant-more l = record {
  following : IsAfter l.tokens.list.now l.from l.next;
  listed : Lists l.tokens param_form l.from l.params l.next;
}

abbrev pub decreases-more : goal.decreases-more
decreases-more l = length l.tokens.list.now - l.next
