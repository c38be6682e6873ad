use Rattle.std.proofs.Common.{length, ◌-◌}
use Rattle.sa_parser_expr.specs.Lexemes.{between}
use Rattle.sa_parser_expr.specs.Positions.{IsFrom}
use Rattle.sa_parser.specs.Statements.{IsStmts}
use Rattle.sa_parser.proofs.ExactBodies.{StmtsRead}
use Rattle.sa_parser.proofs.body.Stmts.stmts.Given as goal

abbrev pub invariant-more : goal.invariant-more
invariant-more g l = record {
  following : IsFrom l.self.tokens.list.now l.from l.next;
  spelled : IsStmts (between l.self.tokens l.from l.next) l.list.items;
  read : StmtsRead l.self.tokens l.from l.list.items l.next;
}

abbrev pub decreases-more : goal.decreases-more
decreases-more g l = length l.self.tokens.list.now - l.next
