use Rattle.std.proofs.Common.{◌≡◌, map, take}
use Rattle.sa_contracts.specs.ExitChecks.{leaving_by, leaving_arm_by, leaving_case_arm_by, leaving_type_arm_by}
use Rattle.sa_contracts.proofs.statements.+statement.Given as goal

abbrev pub invariant-arms-loop-one : goal.invariant-arms-loop-one
invariant-arms-loop-one l = l.woven ≡ map (leaving_arm_by l.kept) (take l.one-index l.list)

abbrev pub invariant-case_arms-loop-one : goal.invariant-case_arms-loop-one
invariant-case_arms-loop-one l = l.woven ≡ map (leaving_case_arm_by l.kept) (take l.one-index l.list)

abbrev pub invariant-check_leaving-loop-s : goal.invariant-check_leaving-loop-s
invariant-check_leaving-loop-s l = l.woven ≡ map (leaving_by l.kept) (take l.s-index l.list)

abbrev pub invariant-type_arms-loop-one : goal.invariant-type_arms-loop-one
invariant-type_arms-loop-one l = l.woven ≡ map (leaving_type_arm_by l.kept) (take l.one-index l.list)
