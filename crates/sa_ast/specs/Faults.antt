-- The number and the text of each kind of a fault.
use Rattle.std.specs.Prelude.{ℕ, List, codes}
use Rattle.sa_ast.specs.declared.fault_kind.FaultKind.{FaultKind}
use Rattle.sa_ast.specs.declared.fault_kind.FaultKind.TheVariants as fault

-- the number of the kind, which `kind` of the class FAULT gives
abbrev pub fault_number : FaultKind → ℕ
fault_number fault.Overflow = 1
fault_number fault.DivisionByZero = 2
fault_number fault.Void = 3
fault_number fault.Index = 4
fault_number fault.NoBranch = 5
fault_number fault.NoReturn = 6
fault_number fault.Assert = 7
fault_number fault.Uncaught = 8
fault_number fault.NoRoom = 9
fault_number fault.TooDeep = 10
fault_number fault.Frames = 11

-- what went wrong
abbrev pub fault_text : FaultKind → List ℕ
fault_text fault.Overflow = codes "overflow"
fault_text fault.DivisionByZero = codes "division by zero"
fault_text fault.Void = codes "void"
fault_text fault.Index = codes "index"
fault_text fault.NoBranch = codes "no branch"
fault_text fault.NoReturn = codes "no return"
fault_text fault.Assert = codes "assert"
fault_text fault.Uncaught = codes "uncaught"
fault_text fault.NoRoom = codes "no room"
fault_text fault.TooDeep = codes "too deep"
fault_text fault.Frames = codes "frames"
