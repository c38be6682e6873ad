-- Conditions as they are asserted.
use Rattle.std.specs.Prelude.{List, map}
use Rattle.sa_ast.specs.declared.contract.Condition.{Condition}
use Rattle.sa_ast.specs.declared.expr.Expr.TheVariants as e
use Rattle.sa_ast.specs.declared.expr.Operator.TheVariants as op
use Rattle.sa_ast.specs.declared.stmt.Stmt.{Stmt}
use Rattle.sa_ast.specs.declared.stmt.Stmt.TheVariants as s

-- the assert of a condition, at its position
abbrev pub assert_of : Condition → Stmt
assert_of condition = s.Assert condition.test condition.pos

-- each of them, in order
abbrev pub asserts_of : List Condition → List Stmt
asserts_of conditions = map assert_of conditions

-- an invariant as a routine keeps it: `void(self) or`, and the invariant
abbrev pub unless_void : Condition → Condition
unless_void invariant =
    let me = e.IsVoid (e.SelfRef invariant.pos) invariant.pos in
    record { test = e.Binary op.Or me invariant.test invariant.pos; pos = invariant.pos }
