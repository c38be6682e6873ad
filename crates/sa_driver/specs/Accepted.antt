-- Which classes are checked for a program, with or without the checks of its contracts, and which of these checks have to be quiet.
use Rattle.std.specs.Prelude.{◌≡◌, List, Option, Some}
use Rattle.sa_ast.specs.declared.class.Class.{Class}
use Rattle.sa_ast.specs.declared.contract.Contract.{Contract}
use Rattle.sa_ast.specs.declared.pos.Pos.{Pos}
use Rattle.sa_ast.specs.declared.refusal.Rejection.{Rejection}
use Rattle.sa_ast.specs.declared.refusal.Rejection.TheVariants.{Refused}
use Rattle.sa_ast.specs.declared.rule.Rule.TheVariants.{ConditionNotQuiet}
use Rattle.sa_contracts.specs.AskedChecks.{Asked, asked, nothing_asked, woven_checks}
use Rattle.sa_contracts.specs.WovenClasses.{duties_of, woven_classes}
use Rattle.sa_cli.specs.declared.command.Contracts.{Contracts}
use Rattle.sa_cli.specs.declared.command.Contracts.TheVariants.{Dropped, Checked}

-- the classes as they are checked: as they are written, or with the checks of their contracts
abbrev pub classes_under : Contracts → List Contract → List Class → List Class
classes_under Dropped contracts classes = classes
classes_under Checked contracts classes = woven_classes (duties_of contracts) 0 classes

-- the checks that have to be quiet in their typed program: none, or those of their contracts
abbrev pub asked_under : Contracts → List Contract → List Class → Asked
asked_under Dropped contracts classes = nothing_asked
asked_under Checked contracts classes = asked (woven_checks (duties_of contracts) 0 classes)

-- the refusal of a check that isn't quiet: E46, at its position
abbrev pub IsNotQuiet : Option Pos → Rejection → Type 0
IsNotQuiet first fault = (pos : Pos) × (first ≡ Some pos) × (fault ≡ Refused (record { rule = ConditionNotQuiet; pos = pos }))
