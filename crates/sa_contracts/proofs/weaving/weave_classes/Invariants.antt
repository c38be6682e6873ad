use Rattle.std.proofs.Common.{◌≡◌, ◌++◌, length, reverse}
use Rattle.sa_contracts.specs.AskedChecks.{asked_by, asked_first, woven_checks}
use Rattle.sa_contracts.specs.ContractTables.{duties_in}
use Rattle.sa_contracts.specs.WovenClasses.{woven_classes}
use Rattle.sa_contracts.proofs.weaving.weave_classes.Given as goal

abbrev pub invariant-loop-class : goal.invariant-loop-class
invariant-loop-class l = record {
  classes : woven_classes (duties_in l.table) 0 l.fn.classes ≡ woven_classes (duties_in l.table) 0 l.rest ++ reverse l.last_first.items;
  checks : asked_first (woven_checks (duties_in l.table) 0 l.fn.classes) (asked_by l.initial.weaving.checks)
      ≡ asked_first (woven_checks (duties_in l.table) 0 l.rest) (asked_by l.weaving.checks);
}

abbrev pub decreases-loop-class : goal.decreases-loop-class
decreases-loop-class l = length l.rest
