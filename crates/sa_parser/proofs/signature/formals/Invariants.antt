use Rattle.std.proofs.Common.{length, ◌-◌}
use Rattle.sa_lexer.specs.declared.sign.Sign.TheVariants as sign
use Rattle.sa_parser_expr.specs.Positions.{IsAfter}
use Rattle.sa_parser_expr.specs.Tests.{is_sign}
use Rattle.sa_parser.specs.SignatureForms.{formal_form}
use Rattle.sa_parser.proofs.ExactBodies.{Joins}
use Rattle.sa_parser.proofs.signature.formals.Given as goal

abbrev pub invariant-more : goal.invariant-more
invariant-more l = record {
  following : IsAfter l.tokens.list.now l.from l.next;
  read : Joins l.tokens (is_sign sign.Comma) (formal_form l.callable) l.from l.list l.next;
}

abbrev pub decreases-more : goal.decreases-more
decreases-more l = length l.tokens.list.now - l.next
