-- An operator of a precedence is one of the operators of this precedence.
use Rattle.std.proofs.lemmas.Option.{IfSome_then}
use Rattle.sa_parser_expr.specs.Expressions as exprs
use Rattle.sa_parser_expr.proofs.SpelledExpressions.{occurs_as}
use Rattle.sa_parser_expr.proofs.operators.operator.Goals as goal

pub returns-in-Logical-clause-spelled : goal.returns-in-Logical-clause-spelled
returns-in-Logical-clause-spelled c = rw c.in-Logical.is (IfSome_then c.logical.result c.logical.ensures.spelled (λ op s. occurs_as s (λ l is. exprs.logical is)))

pub returns-in-Comparing-clause-spelled : goal.returns-in-Comparing-clause-spelled
returns-in-Comparing-clause-spelled c = rw c.in-Comparing.is (IfSome_then c.comparing.result c.comparing.ensures.spelled (λ op s. occurs_as s (λ l is. exprs.comparing is)))

pub returns-in-Adding-clause-spelled : goal.returns-in-Adding-clause-spelled
returns-in-Adding-clause-spelled c = rw c.in-Adding.is (IfSome_then c.adding.result c.adding.ensures.spelled (λ op s. occurs_as s (λ l is. exprs.adding is)))

pub returns-in-Multiplying-clause-spelled : goal.returns-in-Multiplying-clause-spelled
returns-in-Multiplying-clause-spelled c = rw c.in-Multiplying.is (IfSome_then c.multiplying.result c.multiplying.ensures.spelled (λ op s. occurs_as s (λ l is. exprs.multiplying is)))
