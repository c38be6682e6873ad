-- A statement with statements for the case that no branch is taken (`else`).
use Rattle.std.proofs.Common.{arith}
use Rattle.std.proofs.lemmas.Grind.{common_steps}
use Rattle.sa_subst.specs.Table.{put_in}
use Rattle.sa_subst.proofs.Others.{case_with-Some, typecase_with-Some, protect_with-Some}
use Rattle.sa_subst.proofs.statement.+statement.Goals as goal

pub stmt-returns-in_ok-rest-in-Case : goal.stmt-returns-in_ok-rest-in-Case
stmt-returns-in_ok-rest-in-Case t c =
    grind (arith, common_steps, case_with-Some (put_in c.args.by.now) c.args.s.now _ _ _ _ _ c.in-Case.is c.in-Some.is)

pub stmt-returns-in_ok-rest-in-TypeCase : goal.stmt-returns-in_ok-rest-in-TypeCase
stmt-returns-in_ok-rest-in-TypeCase t c =
    grind (arith, common_steps, typecase_with-Some (put_in c.args.by.now) c.args.s.now _ _ _ _ _ c.in-TypeCase.is c.in-Some-rest.is)

pub stmt-returns-in_ok-rest-in-Protect : goal.stmt-returns-in_ok-rest-in-Protect
stmt-returns-in_ok-rest-in-Protect t c =
    grind (arith, common_steps, protect_with-Some (put_in c.args.by.now) c.args.s.now _ _ _ _ _ c.in-Protect.is c.in-Some-rest-2.is)
