use Rattle.std.proofs.Common.{length, ◌-◌}
use Rattle.sa_parser_expr.specs.Lexemes.{between}
use Rattle.sa_parser_expr.specs.Positions.{IsFrom}
use Rattle.sa_parser.specs.Statements.{IsCaseArms}
use Rattle.sa_parser_expr.specs.StatementForms.{case_arm_form}
use Rattle.sa_parser.proofs.ExactBlocks.{Whens}
use Rattle.sa_parser.proofs.body.Stmts.case_arms.Given as goal

abbrev pub invariant-more : goal.invariant-more
invariant-more g l = record {
  following : IsFrom l.self.tokens.list.now l.from l.next;
  spelled : IsCaseArms (between l.self.tokens l.from l.next) l.arms;
  read : Whens l.self.tokens case_arm_form l.from l.arms l.next;
}

abbrev pub decreases-more : goal.decreases-more
decreases-more g l = length l.self.tokens.list.now - l.next
