-- The weaker operators before the stronger ones, and an operation before its operands.
use Rattle.std.proofs.Common.{length, ◌+◌, ◌-◌, ◌*◌}
use Rattle.sa_parser_expr.specs.Enclosures.{where_of}
use Rattle.sa_parser_expr.specs.Expressions.{IsOperation}
use Rattle.sa_parser_expr.specs.Lexemes.{between}
use Rattle.sa_parser_expr.specs.Positions.{IsAfter}
use Rattle.sa_parser_expr.proofs.ExactOperations.{OperatedBy}
use Rattle.sa_parser_expr.proofs.Precedences.{weaker_than}
use Rattle.sa_parser_expr.proofs.grammar.Grammar.+operation.Given as goal

abbrev pub decreases-operation : goal.decreases-operation
decreases-operation g l = 2 * weaker_than l.precedence + 1

abbrev pub decreases-operand : goal.decreases-operand
decreases-operand g l = 2 * weaker_than l.precedence

abbrev pub invariant-operation-more : goal.invariant-operation-more
invariant-operation-more g l = record {
  following : IsAfter l.self.tokens.list.now l.from l.next;
  spelled : IsOperation l.self.scope l.precedence l.around (between l.self.tokens l.from l.next) l.left;
  operated : OperatedBy l.self.tokens l.precedence l.self.scope (where_of l.around) l.from l.left l.next;
}

abbrev pub decreases-operation-more : goal.decreases-operation-more
decreases-operation-more g l = length l.self.tokens.list.now - l.next
