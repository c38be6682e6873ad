-- A typecase or a protect, with the statements of its `else` or without; the branches of a typecase.
use Rattle.std.proofs.Common.{ℕ, Option, ap, arith, sym, ◌∙◌}
use Rattle.sa_typed.specs.Copy.{arms_of}
use Rattle.sa_typed.proofs.Copies.{typecase_of-None, typecase_of-Some, protect_of-None, protect_of-Some}
use Rattle.sa_typing.specs.Contexts.{env}
use Rattle.sa_typing.specs.Statements.{well_cases, well_stmt}
use Rattle.sa_typing.proofs.Blocks.{well_cases-fails, well_cases-goes}
use Rattle.sa_typing.proofs.stmt.+well.Goals as goal

pub well_stmt-returns-in-Some : goal.well_stmt-returns-in-Some
well_stmt-returns-in-Some t c =
    grind (arith, ap (well_stmt (env c.args.scope.now) c.args.at) (typecase_of-Some c.args.stmt.now _ _ _ _ _ c.in-TypeCase.is c.in-Some.is))

pub well_stmt-returns-in-None : goal.well_stmt-returns-in-None
well_stmt-returns-in-None t c =
    grind (arith, ap (well_stmt (env c.args.scope.now) c.args.at) (typecase_of-None c.args.stmt.now _ _ _ _ c.in-TypeCase.is c.in-None.is))

pub well_stmt-returns-in-Some-other : goal.well_stmt-returns-in-Some-other
well_stmt-returns-in-Some-other t c =
    grind (arith, ap (well_stmt (env c.args.scope.now) c.args.at) (protect_of-Some c.args.stmt.now _ _ _ _ c.in-Protect.is c.in-Some-other.is))

pub well_stmt-returns-in-None-other : goal.well_stmt-returns-in-None-other
well_stmt-returns-in-None-other t c =
    grind (arith, ap (well_stmt (env c.args.scope.now) c.args.at) (protect_of-None c.args.stmt.now _ _ _ c.in-Protect.is c.in-None-other.is))

pub well_cases-returns-then-not-well_case : goal.well_cases-returns-then-not-well_case
well_cases-returns-then-not-well_case t c =
    sym (ap (λ (tested : Option ℕ). well_cases (env c.args.scope.now) c.args.at tested (arms_of c.args.arms.now)) c.in-Some.is
    ∙ c.loop-arm.invariant
    ∙ well_cases-fails (env c.args.scope.now) c.args.at c.in-Some.own c.args.arms.now c.loop-arm.arm-index c.arm-item.result (omega arith) c.arm-item.is c.if-not-well_case.ensures)

pub well_cases-loop-arm-preserved : goal.well_cases-loop-arm-preserved
well_cases-loop-arm-preserved t c =
    c.loop-arm.invariant
    ∙ well_cases-goes (env c.args.scope.now) c.args.at c.in-Some.own c.args.arms.now c.loop-arm.arm-index c.arm-item.result (omega arith) c.arm-item.is c.if-not-well_case.ensures
