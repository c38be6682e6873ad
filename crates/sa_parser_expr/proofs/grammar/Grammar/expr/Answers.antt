use Rattle.std.proofs.lemmas.Result.{IfOk-weaker}
use Rattle.sa_parser_expr.specs.Expressions as exprs
use Rattle.sa_parser_expr.proofs.grammar.Grammar.expr.Goals as goal

pub returns-clause-spelled : goal.returns-clause-spelled
returns-clause-spelled g c = IfOk-weaker c.operation.result _ _ (λ read is. exprs.logical_operation is) c.operation.ensures.spelled
