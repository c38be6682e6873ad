use Rattle.std.proofs.Common.{◌≡◌, map, take}
use Rattle.sa_subst.specs.Table.{put_in}
use Rattle.sa_subst.specs.Trees.{stmt_with, arm_with, case_arm_with, type_arm_with}
use Rattle.sa_subst.proofs.statement.+statement.Given as goal

abbrev pub invariant-arms-loop-one : goal.invariant-arms-loop-one
invariant-arms-loop-one l = l.copies ≡ map (arm_with (put_in l.by)) (take l.one-index l.list)

abbrev pub invariant-case_arms-loop-one : goal.invariant-case_arms-loop-one
invariant-case_arms-loop-one l = l.copies ≡ map (case_arm_with (put_in l.by)) (take l.one-index l.list)

abbrev pub invariant-subst_stmts-loop-s : goal.invariant-subst_stmts-loop-s
invariant-subst_stmts-loop-s l = l.copies ≡ map (stmt_with (put_in l.by)) (take l.s-index l.list)

abbrev pub invariant-type_arms-loop-one : goal.invariant-type_arms-loop-one
invariant-type_arms-loop-one l = l.copies ≡ map (type_arm_with (put_in l.by)) (take l.one-index l.list)
