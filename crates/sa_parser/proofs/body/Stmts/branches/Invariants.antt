use Rattle.std.proofs.Common.{length, ◌-◌}
use Rattle.sa_parser_expr.specs.Lexemes.{between}
use Rattle.sa_parser_expr.specs.Positions.{IsFrom}
use Rattle.sa_parser.specs.Statements.{IsBranches}
use Rattle.sa_parser_expr.specs.StatementForms.{branch_form}
use Rattle.sa_parser.proofs.ExactBlocks.{Whens}
use Rattle.sa_parser.proofs.body.Stmts.branches.Given as goal

abbrev pub invariant-more : goal.invariant-more
invariant-more g l = record {
  following : IsFrom l.self.tokens.list.now l.from l.next;
  spelled : IsBranches (between l.self.tokens l.from l.next) l.branches;
  read : Whens l.self.tokens branch_form l.from l.branches l.next;
}

abbrev pub decreases-more : goal.decreases-more
decreases-more g l = length l.self.tokens.list.now - l.next
